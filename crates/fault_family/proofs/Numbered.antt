-- Lemmas on the number of the candidates after a list of faults, and on the candidate with a given number.
use Rattle.std.proofs.Common.{◌≡◌, ◌∙◌, ℕ, zero, suc, ◌+◌, ◌*◌, ◌/◌, ◌%◌, ◌<◌, List, [], ◌∷◌, length, length-append, arith, ap, refl}
use Rattle.std.specs.Prelude.{Option, Some, slice_get}
use Rattle.std.proofs.lemmas.Nat.{div-add-mod', div_below}
use Rattle.std.proofs.lemmas.Option.{slice_get-map}
use Rattle.scram_types.proofs.Items.{first_part, next_part}
use Rattle.scram_types.proofs.Searches.{get_listed, length_listed}
use Rattle.scram_types.specs.Specification.{Parts}
use Rattle.coverage_check.specs.Timing.{greatest_bound}
use Rattle.fault_family.specs.declared.faults.Fault.{Fault}
use Rattle.fault_family.specs.declared.faults.FaultKind.{FaultKind}
use Rattle.fault_family.specs.NextFaults.{candidates, frames_after, frames_allowed_after, gaps, kinds_of, numbers_below}
use Rattle.fault_family.proofs.Cells.{are_rows, cell, length_mapped, length_rows}

length_gaps : (spec : Parts) → length (gaps spec) ≡ greatest_bound spec.bounds + 3
length_gaps spec =
    let near = length_listed (λ k. k) (greatest_bound spec.bounds + 2) in
    let both = length-append (numbers_below (greatest_bound spec.bounds + 2)) ((spec.window + 1) ∷ []) in
    omega (arith, near, both)

pub near_gap : (spec : Parts) (i : ℕ) → i < greatest_bound spec.bounds + 2 → slice_get (gaps spec) i ≡ Some i
near_gap spec i near = first_part (numbers_below (greatest_bound spec.bounds + 2)) ((spec.window + 1) ∷ []) i i (get_listed (λ k. k) (greatest_bound spec.bounds + 2) i near)

pub far_gap : (spec : Parts) (i : ℕ) → i ≡ greatest_bound spec.bounds + 2 → slice_get (gaps spec) i ≡ Some (spec.window + 1)
far_gap spec i far =
    let near = length_listed (λ k. k) (greatest_bound spec.bounds + 2) in
    let here : i ≡ length (numbers_below (greatest_bound spec.bounds + 2)) = omega (arith, near, far) in
    rw here (next_part (numbers_below (greatest_bound spec.bounds + 2)) [] (spec.window + 1))

pub length_behind : (spec : Parts) (o : Option Fault) (last : Fault) → o ≡ Some last → length (frames_allowed_after spec o) ≡ greatest_bound spec.bounds + 3
length_behind spec o last is = rw is (length_mapped (λ gap. last.frame + gap) (gaps spec) ∙ length_gaps spec)

pub behind : (spec : Parts) (o : Option Fault) (last : Fault) (i gap : ℕ) → o ≡ Some last → slice_get (gaps spec) i ≡ Some gap → slice_get (frames_allowed_after spec o) i ≡ Some (last.frame + gap)
behind spec o last i gap is there = rw is (slice_get-map (λ gap. last.frame + gap) (gaps spec) i ∙ rw there refl)

pub length_candidates : (spec : Parts) (before : List Fault) → length (candidates spec before) ≡ length (frames_after spec before) * length (kinds_of spec)
length_candidates spec before =
    let made : ℕ → FaultKind → Fault = λ frame kind. record { frame = frame; kind = kind } in
    ap length (are_rows made (kinds_of spec) (frames_after spec before)) ∙ length_rows made (kinds_of spec) (frames_after spec before)

pub some_kind : (spec : Parts) (before : List Fault) (k : ℕ) → k < length (candidates spec before) → 0 < length (kinds_of spec)
some_kind spec before k inside = by_length (length (kinds_of spec)) refl
  where
    by_length : (n : ℕ) → length (kinds_of spec) ≡ n → 0 < length (kinds_of spec)
    by_length zero none =
        let count = length_candidates spec before in
        let nothing : length (candidates spec before) ≡ length (frames_after spec before) * 0 = rw none at count in
        absurd (omega (arith, inside, nothing))
    by_length (suc n) some = omega (arith, some)

pub candidate_frame : (spec : Parts) (before : List Fault) (k : ℕ) → k < length (candidates spec before) → k / length (kinds_of spec) < length (frames_after spec before)
candidate_frame spec before k inside =
    let count = length_candidates spec before in
    div_below k (length (kinds_of spec)) (length (frames_after spec before)) (some_kind spec before k inside) (omega (arith, inside, count))

pub candidate_is : (spec : Parts) (before : List Fault) (k frame : ℕ) (kind : FaultKind) → slice_get (frames_after spec before) (k / length (kinds_of spec)) ≡ Some frame
    → slice_get (kinds_of spec) (k % length (kinds_of spec)) ≡ Some kind → slice_get (candidates spec before) k ≡ Some (record { frame = frame; kind = kind })
candidate_is spec before k frame kind row column =
    let made : ℕ → FaultKind → Fault = λ frame kind. record { frame = frame; kind = kind } in
    let place = div-add-mod' k (length (kinds_of spec)) in
    ap (λ (faults : List Fault). slice_get faults k) (are_rows made (kinds_of spec) (frames_after spec before))
    ∙ rw (← place) (cell made (kinds_of spec) (frames_after spec before) (k / length (kinds_of spec)) (k % length (kinds_of spec)) frame kind row column)
