use Rattle.std.proofs.Common.{String, Global, refl, ◌≡◌, ◌∙◌, ◌++◌, List, ℕ, None, map, ap, ◌∷◌, []}
use Rattle.std.specs.String.{string_bytes, string_eq}
use Rattle.std.specs.Str.{bytes_eq}
use Rattle.indexmap.specs.IndexSet.{insert_key}
use Rattle.spec_reading.specs.Numbering.{itself, index_named}
use Rattle.spec_reading.proofs.Numbering.{added}
use Rattle.spec_reading.proofs.numbered.Numbers.with.Goals as goal

pub returns : goal.returns
returns c =
    let keys : c.insert.new.self.keys ≡ insert_key string_eq c.self.inside.names.keys c.in_ok-from_str.field-0 = c.in_ok-insert.ensures.keys in
    let new : index_named itself (map string_bytes c.self.inside.names.keys) c.args.name.now ≡ None = ap (λ (names : List (List ℕ)). index_named itself names c.args.name.now) c.self.view_is ∙ c.requires in
    let same : (y : String Global) → string_eq c.in_ok-from_str.field-0 y ≡ bytes_eq (string_bytes c.in_ok-from_str.field-0) (string_bytes y) = λ y. refl in
    let more = added string_bytes string_eq c.self.inside.names.keys c.in_ok-from_str.field-0 c.args.name.now same c.in_ok-from_str.ensures.ok new in
    ap (map string_bytes) keys ∙ more ∙ ap (λ (names : List (List ℕ)). names ++ c.args.name.now ∷ []) c.self.view_is
