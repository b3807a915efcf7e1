-- Lemmas on the state of a processor that has made a frame, and on a bank to which the first words of a draft are
-- copied.
use Rattle.std.proofs.Common.{◌≡◌, ◌∙◌, ℕ, suc, ◌+◌, ◌-◌, ◌*◌, ◌%◌, ◌<◌, Bool, true, false, ◌&&◌, refl, ap, arith, List, [], length}
use Rattle.std.specs.Prelude.{nat_eq, nat_lt, slice_index_or, slice_set, if◌then◌else◌}
use Rattle.std.proofs.lemmas.Bool.Decides.{nat_tests}
use Rattle.std.proofs.lemmas.Grind.{common_steps}
use Rattle.fail_stop.specs.Events.{Place, after_frame}
use Rattle.fail_stop.specs.Flights.{Flight, end_word_after, reaches_mark, stores_by, word_in}
use Rattle.kernel_pair.specs.Pairs.{Processor, frame_made}

pub made_as : (m : Flight) (p f : ℕ) (x : Processor) (place : Place) (mark end : ℕ) (bank : ℕ → ℕ → ℕ)
    → place ≡ after_frame f (m.halt p f) → mark ≡ (if reaches_mark m.width (m.halt p f) then 2 * suc f + (1 - x.mark % 2) else x.mark) → end ≡ end_word_after f (m.halt p f)
    → ((b i : ℕ) → bank b i ≡ (if nat_eq b (1 - x.mark % 2) && nat_lt i (stores_by m.width (m.halt p f)) then word_in (m.draft p f) i else x.bank b i))
    → ◌≡◌ {A = Processor} (record { place = place; mark = mark; end = end; bank = bank }) (frame_made m p f x)
made_as m p f x place mark end bank a b c d = λ i. record { place = a i; mark = b i; end = c i; bank = λ y j. d y j i }

bank_set : (banks : List (List ℕ)) (side b : ℕ) (new : List ℕ) → side < length banks → slice_index_or (slice_set banks side new) b [] ≡ (if nat_eq b side then new else slice_index_or banks b [])
bank_set banks side b new low = grind (arith, common_steps, nat_tests)

pub laid_on : (banks : List (List ℕ)) (side b i count : ℕ) (new draft : List ℕ) → side < length banks
    → ((j : ℕ) → slice_index_or new j 0 ≡ (if nat_lt j count then slice_index_or draft j 0 else slice_index_or (slice_index_or banks side []) j 0))
    → slice_index_or (slice_index_or (slice_set banks side new) b []) i 0 ≡ (if nat_eq b side && nat_lt i count then slice_index_or draft i 0 else slice_index_or (slice_index_or banks b []) i 0)
laid_on banks side b i count new draft low is = ap (λ (l : List ℕ). slice_index_or l i 0) (bank_set banks side b new low) ∙ by_side (nat_eq b side) refl
  where
    by_side : (t : Bool) → nat_eq b side ≡ t → slice_index_or (if t then new else slice_index_or banks b []) i 0 ≡ (if t && nat_lt i count then slice_index_or draft i 0 else slice_index_or (slice_index_or banks b []) i 0)
    by_side true e = let same : b ≡ side = grind (arith, nat_tests, e) in rw same (is i)
    by_side false e = refl
