-- `unchosen_at` and `late_at` are the frames in which a reconfiguration breaks SP2 and SP3. Each is `None` if the
-- reconfiguration keeps the property.
use Rattle.std.proofs.Common.{◌≡◌, ℕ, ◌+◌, ◌-◌, ◌<◌, ◌≤◌, Bool, true, false, refl, arith, ap, sym, ◌∙◌, List}
use Rattle.std.specs.Prelude.{Option, Some, None, slice_get, ◌==◌, nat_le, option_map}
use Rattle.scram_types.specs.declared.ids.ConfId.{ConfId}
use Rattle.scram_types.specs.declared.rows.Env.{Env}
use Rattle.scram_types.specs.declared.rows.Report.{Report}
use Rattle.scram_types.specs.declared.rows.Row.{Row}
use Rattle.scram_types.specs.Specification.{Parts}
use Rattle.scram_types.proofs.Booleans.{true_false}
use Rattle.scram_types.proofs.Naturals.{above, at_most, equal_test}
use Rattle.scram_types.proofs.Options.{same_some, some_none}
use Rattle.scram_types.specs.Searches.{least_from}
use Rattle.choice_table.specs.Choices.{choose}
use Rattle.trace_props.specs.Breaks.{Fails, last_frame}
use Rattle.trace_props.specs.Judging.{chooses, chooses_in, late_at, late_by, unchosen_at, unchosen_to, unless_chosen}
use Rattle.trace_props.specs.Properties.{KeepsSp2, KeepsSp3, bound_on}
use Rattle.trace_props.proofs.Firsts.{InSpan, IsLeastOf, least_span}
use Rattle.trace_props.proofs.Tests.{by_test}
use Rattle.trace_props.proofs.Differing.{same_id}
use Rattle.scram_types.specs.Lookups.{env_in}

-- If no frame is given, the property `Keeps` holds. Otherwise `Keeps` fails, and the given frame is `frame`.
abbrev pub Judges : Type 0 → ℕ → Option ℕ → Type 0
Judges Keeps frame None = Keeps
Judges Keeps frame (Some f) = Fails Keeps × (f ≡ frame)

pub least_judged : (Keeps : Type 0) (frame : ℕ) (o : Option ℕ) → Judges Keeps frame o → IsLeastOf (λ f. Fails Keeps × (f ≡ frame)) o
least_judged Keeps frame None h = λ g b. b.0 h
least_judged Keeps frame (Some f) h = (h, λ g b. (let e = h.1 in let k = b.1 in omega arith))

-- If a frame of a reconfiguration passes a test, then the frame satisfies `InSpan` for the frames of the
-- reconfiguration.
pub in_span : (test : ℕ → Bool) (r : Report) (f : ℕ) → r.begin ≤ f → f ≤ r.end → test f ≡ true → InSpan test r.begin (r.end + 1 - r.begin) f
in_span test r f from up_to passes = record { from = from; up_to = omega arith; passes = passes }

pub up_to_end : (begin end f : ℕ) → begin ≤ f → f < begin + (end + 1 - begin) → f ≤ end
up_to_end begin end f from inside = omega arith

-- Lemmas on the judging of SP2.
module _ (spec : Parts) (rows : List Row) (from to : ConfId) where
  choice_of : (f : ℕ) (o : Option Row) → slice_get rows f ≡ o → chooses_in spec from to o ≡ true → (row : Row) × (slice_get rows f ≡ Some row) × (choose spec from row.env ≡ to)
  choice_of f None e h = absurd (true_false false h refl)
  choice_of f (Some row) e h = (row, e, same_id (choose spec from row.env) to h)

  choice_is : (f : ℕ) (v : Env) (o : Option Row) → slice_get rows f ≡ o → env_in rows f ≡ Some v → choose spec from v ≡ to → chooses_in spec from to o ≡ true
  choice_is f v None e h k = absurd (some_none v (sym (ap (option_map (λ (row : Row). row.env)) (sym e) ∙ h)))
  choice_is f v (Some row) e h k =
      let seen : row.env ≡ v = same_some row.env v (ap (option_map (λ (row : Row). row.env)) (sym e) ∙ h) in
      let chosen : choose spec from row.env ≡ to = rw seen k in
      ap (λ (t : ConfId). t.0 == to.0) chosen ∙ equal_test to.0 to.0 refl

module _ (spec : Parts) (rows : List Row) (r : Report) where
  chosen_judged : (to : ConfId) → r.to ≡ Some to → (o : Option ℕ) → IsLeastOf (InSpan (chooses spec rows r.from to) r.begin (r.end + 1 - r.begin)) o
      → Judges (KeepsSp2 spec rows r) r.end (unless_chosen o r.end)
  chosen_judged to aim None h = (
    (λ keeps. (let c = keeps to aim in
        h c.frame (in_span (chooses spec rows r.from to) r c.frame c.from c.up_to (choice_is spec rows r.from to c.frame c.seen (slice_get rows c.frame) refl c.stands c.chosen)))),
    refl,
  )
  chosen_judged to aim (Some f) h = λ j e.
      let same : to ≡ j = same_some to j (sym aim ∙ e) in
      let found = choice_of spec rows r.from to f (slice_get rows f) refl h.0.passes in
      record {
        frame = f;
        from = h.0.from;
        up_to = up_to_end r.begin r.end f h.0.from h.0.up_to;
        seen = found.0.env;
        stands = ap (option_map (λ (row : Row). row.env)) found.1;
        chosen = found.2 ∙ same;
      }

  unchosen_judged : (o : Option ConfId) → r.to ≡ o → Judges (KeepsSp2 spec rows r) r.end (unchosen_to spec rows r o)
  unchosen_judged None e = λ j aim. absurd (some_none j (sym (sym e ∙ aim)))
  unchosen_judged (Some to) e = chosen_judged to e (least_from (chooses spec rows r.from to) r.begin (r.end + 1 - r.begin)) (least_span (chooses spec rows r.from to) r.begin (r.end + 1 - r.begin))

  pub sp2_judged : Judges (KeepsSp2 spec rows r) r.end (unchosen_at spec rows r)
  sp2_judged = unchosen_judged r.to refl

-- Lemmas on the judging of SP3.
late_judged : (spec : Parts) (r : Report) (o : Option ℕ) → bound_on spec r.from r.to ≡ o → Judges (KeepsSp3 spec r) (last_frame r) (late_by r o)
late_judged spec r None e = ((λ keeps. some_none keeps.bound (sym (sym e ∙ keeps.given))), refl)
late_judged spec r (Some bound) e = by_test {A = Option ℕ} (Judges (KeepsSp3 spec r) (last_frame r)) (nat_le (r.end - r.begin) bound) None (Some (last_frame r))
    (λ h. (let few = at_most (r.end - r.begin) bound h in record { bound = bound; given = e; in_time = omega arith }))
    (λ h. (
      (λ keeps. (let same : bound ≡ keeps.bound = same_some bound keeps.bound (sym e ∙ keeps.given) in
          let many = above (r.end - r.begin) bound h in let few = keeps.in_time in absurd (omega arith))),
      refl,
    ))

pub sp3_judged : (spec : Parts) (r : Report) → Judges (KeepsSp3 spec r) (last_frame r) (late_at spec r)
sp3_judged spec r = late_judged spec r (bound_on spec r.from r.to) refl
