-- The marks, images and kernel words that loads find are those of the mission's one-thread trace.
use Rattle.std.proofs.Common.{◌≡◌, ℕ, suc, ℤ, pos, ◌+◌, ◌*◌, ◌%◌, ◌<◌, ◌≤◌, Bool, true, false, refl, sym, ap, subst, ◌∙◌, arith, List, [], ◌∷◌, length}
use Rattle.std.specs.Prelude.{Option, Some, None, nat_eq, slice_index, slice_index_or, slice_set}
use Rattle.std.proofs.lemmas.Bool.Decides.{nat_tests}
use Rattle.std.proofs.lemmas.Grind.{get_or-set_at}
use Rattle.std.proofs.lemmas.List.{ext_get_or, get_or-set_other, length-set}
use native.Mathlib.Decide.{dec_le, ℕ_discrete}
use Rattle.scram_types.specs.Specification.{IsSpec}
use Rattle.bank_words.specs.Marks.{pick}
use Rattle.bank_words.specs.Numbers.{decode}
use Rattle.coverage_check.specs.Missions.{MissionParts}
use Rattle.fault_script.specs.Fits.{Fits}
use Rattle.frame_model.specs.Flights.{image_after}
use Rattle.frame_model.specs.Storage.{image_bank_after, mark_after}
use Rattle.fail_stop.specs.Events.{Place, At, Halted, KernelWord, MarkWord, EndWord, BankWord, may_note}
use Rattle.fail_stop.specs.Flights.{Flies, Flight, back_by, end_before, end_word_after, side, word_in}
use Rattle.fail_stop.specs.Kept.{IsPlaced, Running, end_at}
use Rattle.fail_stop.specs.Listed.{index_of, stored_in}
use Rattle.fail_stop.specs.ScriptFlights.{image_words_after, kernel_words}
use Rattle.fail_stop.proofs.FrameFacts.{end_le, side_le}
use Rattle.fail_stop.proofs.FrameSteps.{end_down, end_up}
use Rattle.fail_stop.proofs.ImagesFound.{image_found}
use Rattle.fail_stop.proofs.KernelEvents.{halted_end, noted_by}
use Rattle.fail_stop.proofs.Reading.{holds, kernel_reads, note_bank, note_mark, picks}
use Rattle.fail_stop.proofs.ScriptBorder.{images_same, marks_same, script_flies, sides_same}
use Rattle.word_table.specs.declared.actors.Actor.TheVariants.{Runs, Kernel}
use Rattle.word_table.specs.Actors.{mission_flight}
use Rattle.word_table.specs.Plays.{IsFound}
use Rattle.word_table.specs.Reading.{AreRead, IsWordRead}
use Rattle.word_table.specs.Tables.{has_halted_by}

-- The end word of a processor that the kernel may note is odd if and only if the processor is not up in the frame or
-- halts in it.

not_back : (o : Option ℕ) (h k : ℕ) → ((r : ℕ) → o ≡ Some r → h < r → k < r) → back_by o h k ≡ false
not_back None h k late = refl
not_back (Some r) h k late = by_order (dec_le r h)
  where
    by_order : Dec (r ≤ h) → back_by (Some r) h k ≡ false
    by_order (yes d) = grind (arith, nat_tests, d)
    by_order (no d) = let l = late r refl (omega arith) in grind (arith, nat_tests, l)

module _ (m : Flight) (p k : ℕ) (y : Flies m) where
  up_at : (up : Bool) (halt : Option ℕ) → m.up p k ≡ up → m.halt p k ≡ halt → end_before m p (suc k) ≡ 2 * suc k → (m.up p k ≡ true) × (m.halt p k ≡ None)
  up_at true None is_up is_halt ends = (is_up, is_halt)
  up_at true (Some s) is_up is_halt ends =
      let cut : end_before m p (suc k) ≡ 2 * k + 1 = end_up m p k is_up ∙ ap (end_word_after k) is_halt in absurd (omega (arith, cut, ends))
  up_at false halt is_up is_halt ends =
      let low = end_le m p k in let same = end_down m p k is_up in absurd (omega (arith, low, same, ends))

  runs_on : (f n z j : ℕ) → Running m k j p f n → k < f → z ≡ end_before m p f → (nat_eq (z % 2) 1 ≡ has_halted_by m p k)
  runs_on f n z j r late is =
      let same : f ≡ suc k = omega (arith, r.high) in
      let ends : end_before m p (suc k) ≡ 2 * suc k = subst (λ g. end_before m p g ≡ 2 * g) same (r.done late) in
      let both = up_at (m.up p k) (m.halt p k) refl refl ends in
      let even : z ≡ 2 * suc k = is ∙ ap (end_before m p) same ∙ ends in
      let odd : nat_eq (z % 2) 1 ≡ false = grind (arith, nat_tests, even) in
      rw (both.0, both.1) odd

  halted_in : (h s : ℕ) → m.up p h ≡ true → m.halt p h ≡ Some s → h ≤ k → ((r : ℕ) → m.restart p ≡ Some r → h < r → k < r) → Dec (k ≤ h) → has_halted_by m p k ≡ true
  halted_in h s is_up halts low late (yes d) = let same : h ≡ k = omega (arith, d) in rw (← same, halts, is_up) refl
  halted_in h s is_up halts low late (no d) =
      let down : m.up p k ≡ false = y.gone p h s k is_up halts (omega (arith, d)) (not_back (m.restart p) h k late) in rw down refl

  pub noted_halt : (j z : ℕ) (x : Place) → IsPlaced m k j p x → z ≡ end_at m p x → may_note m p k z ≡ true → nat_eq (z % 2) 1 ≡ has_halted_by m p k
  noted_halt j z (At f n) r is may = runs_on f n z j r (noted_by m k j p z (At f n) y r is may) is
  noted_halt j z (Halted h) s is may =
      let late = noted_by m k j p z (Halted h) y s is may in
      let ends : z ≡ 2 * h + 1 = is ∙ halted_end m k j p h s in
      let odd : nat_eq (z % 2) 1 ≡ true = grind (arith, nat_tests, ends) in
      odd ∙ sym (halted_in h s.step s.up s.halts s.high late (dec_le k h))

module _ (mission : MissionParts) (fits : Fits mission.spec mission.script) where
  abbrev m : Flight
  m = mission_flight mission

  flies : Flies m
  flies = script_flies mission.spec mission.script fits

  -- Lemmas on the words that a processor finds in a frame.
  module _ (p f n : ℕ) (l : p < m.procs) (begun : 0 < n) where
    pub mark_found : (q i z : ℕ) → q < m.procs → i ≡ index_of (MarkWord q) → IsFound m (Runs p f n ∷ []) i z → pick z f ≡ image_bank_after mission.spec mission.script q f
    mark_found q i z lq place found =
        ap (λ (x : ℕ). pick x f) (found.value ∙ ap (slice_index found.list) place)
        ∙ picks m found.at (stored_in found.list) flies found.kept p f n q l found.stand.0 begun lq ∙ sides_same mission.spec mission.script fits q f

    pub bank_found : (q x i z : ℕ) → q < m.procs → x < m.width → i ≡ index_of (BankWord q (image_bank_after mission.spec mission.script q f) x) → IsFound m (Runs p f n ∷ []) i z
        → z ≡ word_in (image_words_after mission.spec mission.script q f) x
    bank_found q x i z lq lx place found =
        let own : index_of (BankWord q (image_bank_after mission.spec mission.script q f) x) ≡ index_of (BankWord q (side m q f) x) =
        ap (λ (b : ℕ). index_of (BankWord q b x)) (sym (sides_same mission.spec mission.script fits q f)) in
        found.value ∙ ap (slice_index found.list) (place ∙ own)
        ∙ holds m found.at (stored_in found.list) flies found.kept p f n q x l found.stand.0 begun lq lx
        ∙ ap (λ (image : List ℕ). word_in image x) (images_same mission.spec mission.script fits q f)

    pub kernel_found : (x i z : ℕ) → x < 20 → i ≡ index_of (KernelWord x) → IsFound m (Runs p f n ∷ []) i z → z ≡ word_in (kernel_words mission.spec mission.script f) x
    kernel_found x i z lx place found =
        found.value ∙ ap (slice_index found.list) place ∙ kernel_reads m found.at (stored_in found.list) flies found.kept p f n x l found.stand.0 begun lx

  -- Lemmas on the words of processor `p` that the kernel finds when it may note the processor, and after it has noted
  -- it.
  module _ (k p : ℕ) (l : p < m.procs) where
    pub halt_found : (i z : ℕ) → i ≡ index_of (EndWord p) → IsFound m (Kernel k p ∷ []) i z → may_note m p k z ≡ true → nat_eq (z % 2) 1 ≡ has_halted_by m p k
    halt_found i z place found may =
        let stand = found.stand.0 in
        let is : z ≡ end_at m p (found.at.proc p) = found.value ∙ ap (slice_index found.list) place ∙ found.kept.words_are (EndWord p) l in
        noted_halt m p k flies found.at.step z (found.at.proc p) (subst (λ g. IsPlaced m g found.at.step p (found.at.proc p)) stand.0 (found.kept.placed p l)) is may

    pub noted_mark : (i z : ℕ) → i ≡ index_of (MarkWord p) → IsFound m (Kernel k (suc p) ∷ []) i z → z ≡ mark_after mission.spec mission.script p (suc k)
    noted_mark i z place found =
        let stand = found.stand.0 in
        found.value ∙ ap (slice_index found.list) place
        ∙ note_mark m found.at (stored_in found.list) flies found.kept p l (omega (arith, stand.1))
        ∙ marks_same mission.spec mission.script fits p (suc found.at.frame) ∙ ap (λ g. mark_after mission.spec mission.script p (suc g)) stand.0

    pub noted_bank : (x i z : ℕ) → x < m.width → i ≡ index_of (BankWord p (image_bank_after mission.spec mission.script p (suc k)) x) → IsFound m (Kernel k (suc p) ∷ []) i z
        → z ≡ word_in (image_words_after mission.spec mission.script p (suc k)) x
    noted_bank x i z lx place found =
        let stand = found.stand.0 in
        let own : index_of (BankWord p (image_bank_after mission.spec mission.script p (suc k)) x) ≡ index_of (BankWord p (side m p (suc found.at.frame)) x) =
        ap (λ (b : ℕ). index_of (BankWord p b x)) (sym (sides_same mission.spec mission.script fits p (suc k)) ∙ ap (λ g. side m p (suc g)) (sym stand.0)) in
        found.value ∙ ap (slice_index found.list) (place ∙ own)
        ∙ note_bank m found.at (stored_in found.list) flies found.kept p x l (omega (arith, stand.1)) lx
        ∙ ap (λ (image : List ℕ). word_in image x) (images_same mission.spec mission.script fits p (suc found.at.frame))
        ∙ ap (λ g. word_in (image_words_after mission.spec mission.script p (suc g)) x) stand.0

  -- The parity of a mark is the number of the bank that the mark names.
  pub bank_of_mark : (p f z : ℕ) → z ≡ mark_after mission.spec mission.script p f → z % 2 ≡ image_bank_after mission.spec mission.script p f
  bank_of_mark p f z is =
      let low : image_bank_after mission.spec mission.script p f ≤ 1 = rw (← sides_same mission.spec mission.script fits p f) (side_le m p f) in
      omega (arith, is, low)

  bank_low : (q f : ℕ) → image_bank_after mission.spec mission.script q f ≤ 1
  bank_low q f = rw (← sides_same mission.spec mission.script fits q f) (side_le m q f)

  module _ (facts : IsSpec mission.spec) where
    -- The image that a processor reads in frame `f`, with the first word read last, is the image that processor `q`
    -- has committed after the first `f` frames.
    pub image_looked : (p f n q at z : ℕ) (image : List ℤ) → p < m.procs → 0 < n → q < m.procs → at ≡ index_of (BankWord q (image_bank_after mission.spec mission.script q f) 0)
        → AreRead m (Runs p f n ∷ []) at 1 m.width image → IsFound m (Runs p f n ∷ []) at z → slice_set image 0 (decode z) ≡ image_after mission.spec mission.script q f
    image_looked p f n q at z image l begun lq place read first =
        let wide = facts.apps_count.enough in
        image_found mission.spec facts mission.script f q (slice_set image 0 (decode z)) (length-set image 0 (decode z) ∙ read.long)
        (λ i inside. by_word i inside (ℕ_discrete i 0))
        (λ i low past. get_or-set_other image 0 i (decode z) (pos 0) (λ same. omega (arith, same, past, wide)) ∙ read.past i past)
      where
        by_word : (i : ℕ) → i < m.width → Dec (i ≡ 0) → slice_index_or (slice_set image 0 (decode z)) i (pos 0) ≡ decode (word_in (image_words_after mission.spec mission.script q f) i)
        by_word i inside (yes d) =
            let there : at ≡ index_of (BankWord q (image_bank_after mission.spec mission.script q f) i) = place ∙ ap (λ x. index_of (BankWord q (image_bank_after mission.spec mission.script q f) x)) (sym d) in
            get_or-set_at image 0 i (decode z) (pos 0) d (omega (arith, read.long)) ∙ ap decode (bank_found p f n l begun q i at z lq inside there first)
        by_word i inside (no d) =
            let r : IsWordRead m (Runs p f n ∷ []) (at + i) (slice_index_or image i (pos 0)) = read.read i (omega (arith, d)) inside in
            get_or-set_other image 0 i (decode z) (pos 0) d ∙ r.value
            ∙ ap decode (bank_found p f n l begun q i (at + i) r.word lq inside (omega (arith, place)) r.found)

    -- The image of processor `p` that the kernel reads after it has noted `p` in frame `k` is the image that `p` has
    -- committed after the first `k + 1` frames.
    pub image_noted : (k p at : ℕ) (image : List ℤ) → p < m.procs → at ≡ index_of (BankWord p (image_bank_after mission.spec mission.script p (suc k)) 0)
        → AreRead m (Kernel k (suc p) ∷ []) at 0 m.width image → image ≡ image_after mission.spec mission.script p (suc k)
    image_noted k p at image l place read =
        image_found mission.spec facts mission.script (suc k) p image read.long
        (λ i inside. let r : IsWordRead m (Kernel k (suc p) ∷ []) (at + i) (slice_index_or image i (pos 0)) = read.read i (omega arith) inside in
        r.value ∙ ap decode (noted_bank k p l i (at + i) r.word inside (omega (arith, place)) r.found))
        (λ i low past. read.past i past)

  -- The twenty kernel words that a processor finds in frame `f` are those of the kernel image of frame `f`.
  pub words_read : (p f n : ℕ) (words : List ℕ) → p < m.procs → 0 < n → length words ≡ 20 → ((i : ℕ) → i < 20 → IsFound m (Runs p f n ∷ []) (8 + i) (slice_index words i))
      → words ≡ kernel_words mission.spec mission.script f
  words_read p f n words l begun long read =
      ext_get_or 0 words (kernel_words mission.spec mission.script f) long
      (λ i low. kernel_found p f n l begun i (8 + i) (slice_index words i) (omega (arith, low, long)) refl (read i (omega (arith, low, long))))
