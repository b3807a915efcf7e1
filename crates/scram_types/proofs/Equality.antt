-- Values whose parts are equal are equal.
use Rattle.std.proofs.Common.{◌≡◌, ℕ, true, List, ap, refl}
use Rattle.std.specs.Str.{bytes_eq}
use Rattle.std.proofs.lemmas.Slice.Eq.{bytes_eq-Decides}
use Rattle.scram_types.specs.declared.rows.Env.{Env}
use Rattle.scram_types.specs.declared.ids.ConfId.{ConfId}
use Rattle.scram_types.specs.Lookups.{conf_id}

pub same_env : (a b : ℕ) (c d : List ℕ) → a ≡ b → c ≡ d → ◌≡◌ {A = Env} (record { up = a; factors = c }) (record { up = b; factors = d })
same_env a b c d e f = rw (e, f) refl

pub same_conf : (c d : ConfId) → c.0 ≡ d.0 → c ≡ d
same_conf c d e = ap conf_id e

pub same_text : (a b : List ℕ) → bytes_eq a b ≡ true → a ≡ b
same_text a b e = (bytes_eq-Decides a b).0 e
