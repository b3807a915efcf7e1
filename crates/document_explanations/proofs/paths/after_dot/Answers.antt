use Rattle.std.proofs.Common.{◌≡◌, ◌∷◌, [], ◌∙◌, arith, refl, sym, ap, List, ℕ}
use Rattle.std.proofs.lemmas.Str.Pattern.{strip_prefix_char}
use Rattle.scram_doc.specs.Paths.{shown}
use Rattle.document_explanations.specs.Paths.{after_dot}
use Rattle.document_explanations.proofs.Levels.{no_dot_first}
use Rattle.document_explanations.proofs.paths.after_dot.Goals as goal

shown_same : (path : List ℕ) → after_dot (shown path) ≡ after_dot path
shown_same [] = refl
shown_same (b ∷ path) = refl

pub returns-in-None : goal.returns-in-None
returns-in-None c =
    let other = rw c.in-None.is at (strip_prefix_char 46 c.as_str.result.now c.strip_prefix.result c.strip_prefix.ensures.cases (omega arith)) in
    sym (no_dot_first c.as_str.result.now other) ∙ ap after_dot c.as_str.ensures.text ∙ shown_same c.args.path.now
