-- `unkept_at` is the first frame in which a reconfiguration breaks SP4, or `None` if the reconfiguration keeps SP4.
use Rattle.std.proofs.Common.{◌≡◌, ℕ, zero, suc, ◌+◌, ◌-◌, ◌≤◌, true, false, refl, arith, ap, sym, ◌∙◌, List, [], ◌∷◌, ◌⊎◌}
use mathlib.Core.Logic.{inl, inr}
use Rattle.std.specs.Prelude.{Option, Some, None, ℤ, slice_get, not, option_and_then, if◌then◌else◌}
use Rattle.std.proofs.lemmas.Option.{slice_get_past}
use Rattle.std.proofs.lemmas.Bool.{not-true, not_from_false}
use Rattle.scram_types.specs.declared.ids.ConfId.{ConfId}
use Rattle.scram_types.specs.declared.rows.Report.{Report}
use Rattle.scram_types.specs.declared.rows.Row.{Row}
use Rattle.scram_types.specs.declared.specification.Invariant.{Invariant}
use Rattle.scram_types.specs.declared.specification.Precondition.{Precondition}
use Rattle.scram_types.specs.Numbers.{word}
use Rattle.scram_types.specs.Specification.{Parts}
use Rattle.scram_types.proofs.Booleans.{and_left, and_right, true_false, and_true, by_bool}
use Rattle.scram_types.proofs.Options.{same_some, some_none}
use Rattle.scram_types.proofs.Naturals.{equal_test}
use Rattle.scram_types.proofs.Items.{any_found, any_is}
use Rattle.scram_types.specs.Searches.{least_from}
use Rattle.choice_table.specs.Choices.{has_source}
use Rattle.app_model.specs.Areas.{Between}
use Rattle.frame_model.specs.States.{area_at}
use Rattle.trace_props.specs.declared.breaks.Property.TheVariants.{Sp4}
use Rattle.trace_props.specs.Breaks.{BreaksIn, BreaksInvariant, BreaksPrecondition, Fails}
use Rattle.trace_props.specs.Judging.{breaks_at, breaks_target_precondition, row_breaks, goes_to, least_unkept, lesser_frame, lies_in, unkept_at, unkept_from, unmet_at, unmet_before, unmet_in}
use Rattle.trace_props.specs.Properties.{InvariantHolds, KeepsSp4, PreconditionHolds}
use Rattle.trace_props.proofs.Firsts.{InSpan, IsLeastOf, least_lesser, least_moved, least_span}
use Rattle.trace_props.proofs.Tests.{by_test}
use Rattle.trace_props.proofs.Differing.{same_id}
use Rattle.trace_props.proofs.Ranging.{lies_is, lies_of}
use Rattle.trace_props.proofs.TargetsJudged.{in_span, up_to_end}

-- Lemmas that the test of SP4 decides whether a number is within an interval.
outside_of : (low high x : ℤ) → not (lies_in low high x) ≡ true → Between (low, high) x → ⊥
outside_of low high x h between = true_false (lies_in low high x) (lies_is low high x between) (not-true (lies_in low high x) h)

outside_is : (low high x : ℤ) → Fails (Between (low, high) x) → not (lies_in low high x) ≡ true
outside_is low high x h = by_bool (lies_in low high x)
    (λ inside. absurd (h (lies_of low high x inside)))
    (λ beyond. not_from_false (lies_in low high x) beyond)

inside_of : (low high x : ℤ) → (not (lies_in low high x) ≡ true → ⊥) → Between (low, high) x
inside_of low high x h = by_bool (lies_in low high x)
    (λ inside. lies_of low high x inside)
    (λ beyond. absurd (h (not_from_false (lies_in low high x) beyond)))

-- Row `f` belongs to the reconfiguration and breaks an invariant for the reconfiguration's source.
record BreaksBy (rows : List Row) (r : Report) (inv : Invariant) (f : ℕ) : Type 0 where
  speaks : has_source inv.from r.from ≡ true
  from : r.begin ≤ f
  up_to : f ≤ r.end
  row : Row
  stands : slice_get rows f ≡ Some row
  broken : Fails (InvariantHolds inv row)

module _ (rows : List Row) (r : Report) (inv : Invariant) where
  breach_of : (f : ℕ) (o : Option Row) → slice_get rows f ≡ o → row_breaks inv o ≡ true → (row : Row) × (slice_get rows f ≡ Some row) × Fails (InvariantHolds inv row)
  breach_of f None e h = absurd (true_false false h refl)
  breach_of f (Some row) e h = (row, e, outside_of inv.least inv.greatest (word (area_at row.areas inv.app.0) inv.variable) h)

  broken_of : (f : ℕ) → has_source inv.from r.from ≡ true → InSpan (breaks_at rows inv) r.begin (r.end + 1 - r.begin) f → BreaksBy rows r inv f
  broken_of f speaks s =
      let found = breach_of f (slice_get rows f) refl s.passes in
      record { speaks = speaks; from = s.from; up_to = up_to_end r.begin r.end f s.from s.up_to; row = found.0; stands = found.1; broken = found.2 }

  broken_is : (f : ℕ) → BreaksBy rows r inv f → InSpan (breaks_at rows inv) r.begin (r.end + 1 - r.begin) f
  broken_is f b = in_span (breaks_at rows inv) r f b.from b.up_to
      (ap (row_breaks inv) b.stands ∙ outside_is inv.least inv.greatest (word (area_at b.row.areas inv.app.0) inv.variable) b.broken)

  unkept_judged : IsLeastOf (BreaksBy rows r inv) (unkept_from rows r inv)
  unkept_judged = by_test {A = Option ℕ} (IsLeastOf (BreaksBy rows r inv)) (has_source inv.from r.from) (least_from (breaks_at rows inv) r.begin (r.end + 1 - r.begin)) None
      (λ speaks. least_moved (InSpan (breaks_at rows inv) r.begin (r.end + 1 - r.begin)) (BreaksBy rows r inv) (λ f. broken_of f speaks) broken_is
      (least_from (breaks_at rows inv) r.begin (r.end + 1 - r.begin)) (least_span (breaks_at rows inv) r.begin (r.end + 1 - r.begin)))
      (λ silent g b. true_false (has_source inv.from r.from) b.speaks silent)

-- Some invariant of a list is broken in row `f`.
record BreaksSome (rows : List Row) (r : Report) (invs : List Invariant) (f : ℕ) : Type 0 where
  place : ℕ
  inv : Invariant
  there : slice_get invs place ≡ Some inv
  broken : BreaksBy rows r inv f

module _ (rows : List Row) (r : Report) where
  none_breaks : (f : ℕ) → BreaksSome rows r [] f → ⊥
  none_breaks f b = some_none b.inv (sym (sym (slice_get_past {X = Invariant} [] b.place (omega arith)) ∙ b.there))

  some_more : (inv : Invariant) (invs : List Invariant) (f : ℕ) → BreaksBy rows r inv f ⊎ BreaksSome rows r invs f → BreaksSome rows r (inv ∷ invs) f
  some_more inv invs f e = elim e [
    | inl here ↦ record { place = 0; inv = inv; there = refl; broken = here }
    | inr later ↦ record { place = suc later.place; inv = later.inv; there = later.there; broken = later.broken }
  ]

  some_less : (inv : Invariant) (invs : List Invariant) (f place : ℕ) (x : Invariant) → slice_get (inv ∷ invs) place ≡ Some x → BreaksBy rows r x f → BreaksBy rows r inv f ⊎ BreaksSome rows r invs f
  some_less inv invs f zero x e b = inl (rw (same_some inv x e) b)
  some_less inv invs f (suc k) x e b = inr (record { place = k; inv = x; there = e; broken = b })

  all_unkept : (A : ℕ → Type 0) (invs : List Invariant) (o : Option ℕ) → IsLeastOf A o → IsLeastOf (λ f. A f ⊎ BreaksSome rows r invs f) (least_unkept rows r o invs)
  all_unkept A [] o h = least_moved A (λ f. A f ⊎ BreaksSome rows r [] f) (λ f x. inl x) (λ f e. elim e [ inl x ↦ x | inr b ↦ absurd (none_breaks f b) ]) o h
  all_unkept A (inv ∷ invs) o h =
      least_moved (λ f. (A f ⊎ BreaksBy rows r inv f) ⊎ BreaksSome rows r invs f) (λ f. A f ⊎ BreaksSome rows r (inv ∷ invs) f)
      (λ f e. elim e [
        | inl early ↦ elim early [ inl x ↦ inl x | inr here ↦ inr (some_more inv invs f (inl here)) ]
        | inr later ↦ inr (some_more inv invs f (inr later))
      ])
      (λ f e. elim e [
        | inl x ↦ inl (inl x)
        | inr b ↦ elim (some_less inv invs f b.place b.inv b.there b.broken) [ inl here ↦ inl (inr here) | inr later ↦ inr later ]
      ])
      (least_unkept rows r o (inv ∷ invs))
      (all_unkept (λ f. A f ⊎ BreaksBy rows r inv f) invs (lesser_frame o (unkept_from rows r inv)) (least_lesser A (BreaksBy rows r inv) o (unkept_from rows r inv) h (unkept_judged rows r inv)))

-- Lemmas on a precondition of the target in the row before the end.
module _ (row : Row) (to : Option ConfId) (pre : Precondition) where
  aimed_of : (o : Option ConfId) → goes_to o pre.conf ≡ true → o ≡ Some pre.conf
  aimed_of None h = absurd (true_false false h refl)
  aimed_of (Some c) h = ap (λ (id : ConfId). Some id) (same_id c pre.conf h)

  aimed_is : (o : Option ConfId) → o ≡ Some pre.conf → goes_to o pre.conf ≡ true
  aimed_is None e = absurd (some_none pre.conf (sym e))
  aimed_is (Some c) e = rw (same_some c pre.conf e) (equal_test pre.conf.0 pre.conf.0 refl)

  unmet_of : breaks_target_precondition row to pre ≡ true → (to ≡ Some pre.conf) × Fails (PreconditionHolds pre row)
  unmet_of h = (aimed_of to (and_left (goes_to to pre.conf) _ h), outside_of pre.least pre.greatest (word (area_at row.areas pre.app.0) pre.variable) (and_right (goes_to to pre.conf) _ h))

  unmet_is : to ≡ Some pre.conf → Fails (PreconditionHolds pre row) → breaks_target_precondition row to pre ≡ true
  unmet_is aim h = and_true (goes_to to pre.conf) _ (aimed_is to aim) (outside_is pre.least pre.greatest (word (area_at row.areas pre.app.0) pre.variable) h)

least_none : (A : ℕ → Type 0) (o : Option ℕ) → o ≡ None → IsLeastOf A o → (g : ℕ) → A g → ⊥
least_none A None e h = h
least_none A (Some f) e h = cc

module _ (spec : Parts) (rows : List Row) (r : Report) where
  met_row : (f : ℕ) → r.end ≡ suc f → (o : Option Row) → slice_get rows f ≡ o
      → IsLeastOf (BreaksPrecondition spec rows r) (option_and_then (λ (row : Row). if unmet_in spec row r.to then Some f else None) o)
  met_row f e None at = λ g b. (let same : g ≡ f = (let last = b.before_end in omega arith) in
      some_none b.row (sym (sym (ap (slice_get rows) same ∙ at) ∙ b.stands)))
  met_row f e (Some row) at = by_test {A = Option ℕ} (IsLeastOf (BreaksPrecondition spec rows r)) (unmet_in spec row r.to) (Some f) None
      (λ h. (let found = any_found (breaks_target_precondition row r.to) spec.preconditions h in let broken = unmet_of row r.to found.1 found.3 in (
        record { place = found.0; pre = found.1; there = found.2; aimed = broken.0; before_end = sym e; row = row; stands = at; broken = broken.1 },
        λ g b. (let last = b.before_end in omega arith),
      )))
      (λ h g b. (let same : f ≡ g = (let last = b.before_end in omega arith) in
      let here : row ≡ b.row = same_some row b.row (sym at ∙ ap (slice_get rows) same ∙ b.stands) in
      true_false (unmet_in spec row r.to) (any_is (breaks_target_precondition row r.to) spec.preconditions b.place b.pre b.there (rw here (unmet_is b.row r.to b.pre b.aimed b.broken))) h))

  met : (end : ℕ) → r.end ≡ end → IsLeastOf (BreaksPrecondition spec rows r) (unmet_before spec rows r.to end)
  met zero e = λ g b. (let last = b.before_end in absurd (omega arith))
  met (suc f) e = met_row f e (slice_get rows f) refl

  invariant_of : (f : ℕ) → BreaksSome rows r spec.invariants f → BreaksInvariant spec rows r f
  invariant_of f b = record {
    place = b.place;
    inv = b.inv;
    there = b.there;
    speaks = b.broken.speaks;
    from = b.broken.from;
    up_to = b.broken.up_to;
    row = b.broken.row;
    stands = b.broken.stands;
    broken = b.broken.broken;
  }

  some_of : (f : ℕ) → BreaksInvariant spec rows r f → BreaksSome rows r spec.invariants f
  some_of f b = record {
    place = b.place;
    inv = b.inv;
    there = b.there;
    broken = record { speaks = b.speaks; from = b.from; up_to = b.up_to; row = b.row; stands = b.stands; broken = b.broken };
  }

  pub sp4_least : IsLeastOf (BreaksIn spec rows r Sp4) (unkept_at spec rows r)
  sp4_least = least_moved (λ f. BreaksPrecondition spec rows r f ⊎ BreaksSome rows r spec.invariants f) (BreaksIn spec rows r Sp4)
      (λ f e. elim e [ inl b ↦ inr b | inr b ↦ inl (invariant_of f b) ])
      (λ f e. elim e [ inl b ↦ inr (some_of f b) | inr b ↦ inl b ])
      (unkept_at spec rows r)
      (all_unkept rows r (BreaksPrecondition spec rows r) spec.invariants (unmet_at spec rows r) (met r.end refl))

  pub sp4_kept : unkept_at spec rows r ≡ None → KeepsSp4 spec rows r
  sp4_kept e =
      let none = least_none (BreaksIn spec rows r Sp4) (unkept_at spec rows r) e sp4_least in
      record {
        throughout = λ k inv there speaks f row from up_to stands. inside_of inv.least inv.greatest (word (area_at row.areas inv.app.0) inv.variable)
            (λ beyond. none f (inl (record {
              place = k;
              inv = inv;
              there = there;
              speaks = speaks;
              from = from;
              up_to = up_to;
              row = row;
              stands = stands;
              broken = outside_of inv.least inv.greatest (word (area_at row.areas inv.app.0) inv.variable) beyond;
            })));
        ready = λ k pre there aimed f row before_end stands. inside_of pre.least pre.greatest (word (area_at row.areas pre.app.0) pre.variable)
            (λ beyond. none f (inr (record {
              place = k;
              pre = pre;
              there = there;
              aimed = aimed;
              before_end = before_end;
              row = row;
              stands = stands;
              broken = outside_of pre.least pre.greatest (word (area_at row.areas pre.app.0) pre.variable) beyond;
            })));
      }
