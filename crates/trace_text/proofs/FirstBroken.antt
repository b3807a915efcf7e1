-- The first broken rule, in the order of the tests, is the broken rule of the smallest number.
use Rattle.std.proofs.Common.{ℕ, suc, ◌≡◌, ◌<◌, ◌≤◌, Bool, true, false, cond, List, [], ◌∷◌, Option, Some, None, Result, Ok, Err, arith, refl, not}
use Rattle.std.specs.Prelude.{◌==◌}
use Rattle.std.proofs.lemmas.Bool.{eq-eqb, ne_eqb}
use Rattle.scram_types.proofs.Options.{some_none}
use Rattle.trace_text.specs.LineRules.{ReportsLeast}

-- The rule that a reading reports, or `None` if it succeeds.
abbrev pub told_by : {A : Type 0} → Result A ℕ → Option ℕ
told_by (Ok a) = None
told_by (Err rule) = Some rule

-- The number of the first broken rule, or `None` if no rule is broken. Each item of the list is `false` if its rule
-- is broken. The rule of the first item has the number `rule`.
abbrev pub least_from : ℕ → List Bool → Option ℕ
least_from rule [] = None
least_from rule (kept ∷ more) = cond kept (least_from (suc rule) more) (Some rule)

-- Whether the rule with the number `rule` is broken, given the number of the rule of the list's first item.
abbrev pub breaks_from : ℕ → List Bool → ℕ → Bool
breaks_from first [] rule = false
breaks_from first (kept ∷ more) rule = cond (rule == first) (not kept) (breaks_from (suc first) more rule)

below : (first : ℕ) (kept : List Bool) (rule : ℕ) → rule < first → breaks_from first kept rule ≡ false
below first [] rule small = refl
below first (k ∷ ks) rule small = rw (ne_eqb rule first (λ e. omega (arith, e, small))) (below (suc first) ks rule (omega arith))

either : (t b : Bool) → b ≡ false → cond t false b ≡ false
either true b e = refl
either false b e = e

none_broken : (first : ℕ) (kept : List Bool) (rule : ℕ) → least_from first kept ≡ None → breaks_from first kept rule ≡ false
none_broken first [] rule h = refl
none_broken first (true ∷ ks) rule h = either (rule == first) (breaks_from (suc first) ks rule) (none_broken (suc first) ks rule h)
none_broken first (false ∷ ks) rule h = some_none first h

record IsLeast (first : ℕ) (kept : List Bool) (least : ℕ) : Type 0 where
  above : first ≤ least
  broken : breaks_from first kept least ≡ true
  others : (rule : ℕ) → rule < least → breaks_from first kept rule ≡ false

here : (first : ℕ) (ks : List Bool) → IsLeast first (false ∷ ks) first
here first ks = record { above = omega arith; broken = rw (eq-eqb first first refl) refl; others = below first (false ∷ ks) }

later : (first : ℕ) (ks : List Bool) (least : ℕ) → IsLeast (suc first) ks least → IsLeast first (true ∷ ks) least
later first ks least more =
    let high = more.above in
    record {
      above = omega (arith, high);
      broken = rw (ne_eqb least first (λ e. omega (arith, e, high))) more.broken;
      others = λ rule small. either (rule == first) (breaks_from (suc first) ks rule) (more.others rule small);
    }

least_broken : (first : ℕ) (kept : List Bool) (least : ℕ) → least_from first kept ≡ Some least → IsLeast first kept least
least_broken first [] least h = absurd (let e = h in cc)
least_broken first (true ∷ ks) least h = later first ks least (least_broken (suc first) ks least h)
least_broken first (false ∷ ks) least h = let e : first ≡ least = cc in rw (← e) (here first ks)

-- If a reading reports the first broken rule, it reports the broken rule of the smallest number.
pub reports_least : {A : Type 0} (first : ℕ) (kept : List Bool) (read : Result A ℕ) → told_by read ≡ least_from first kept → ReportsLeast (breaks_from first kept) read
reports_least first kept (Ok a) h = λ rule. none_broken first kept rule (let e : None ≡ least_from first kept = h in cc)
reports_least first kept (Err least) h = let p = least_broken first kept least (let e : Some least ≡ least_from first kept = h in cc) in (p.broken, p.others)
