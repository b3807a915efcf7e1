-- A step of a processor changes only its own place and its own words. These lemmas derive the invariant `Kept` after
-- the step from facts on that place and these words.
use Rattle.std.proofs.Common.{◌≡◌, ◌≢◌, ℕ, ◌<◌, true, false, refl, sym, ap, ◌∙◌, arith}
use Rattle.std.specs.Prelude.{Option, Some, None, nat_eq}
use Rattle.std.proofs.lemmas.Bool.Decides.{nat_tests}
use native.Mathlib.Decide.{ℕ_discrete}
use Rattle.fail_stop.specs.Flights.{Flight}
use Rattle.bank_words.specs.declared.events.Event.{Event}
use Rattle.fail_stop.specs.Events.{Place, Places, Word, ReleaseWord, KernelWord, MarkWord, EndWord, BankWord, IsStored, Happens, is_actor, moved, frame_after, step_after, writes, written}
use Rattle.fail_stop.specs.Kept.{Kept, IsPlaced, mark_at, end_at, bank_at, stored_word}

abbrev pub owner : Word → Option ℕ
owner ReleaseWord = None
owner (KernelWord i) = None
owner (MarkWord p) = Some p
owner (EndWord p) = Some p
owner (BankWord p b i) = Some p

differ : (a b p : ℕ) → Some a ≡ Some p → Some b ≢ Some p → nat_eq a b ≡ false
differ a b p o n = let d : a ≢ b = λ e. n (ap (λ (x : ℕ). Some x) (sym e) ∙ o) in grind (arith, nat_tests)

-- A write to a word of processor `p` does not change the words of the other owners.
pub foreign : (t w : Word) (v p : ℕ) (words : Word → ℕ) → owner t ≡ Some p → owner w ≢ Some p → written (Some (t, v)) words w ≡ words w
foreign ReleaseWord w v p words o n = cc
foreign (KernelWord i) w v p words o n = cc
foreign (MarkWord a) ReleaseWord v p words o n = refl
foreign (MarkWord a) (KernelWord i) v p words o n = refl
foreign (MarkWord a) (MarkWord b) v p words o n = rw (differ a b p o n) refl
foreign (MarkWord a) (EndWord b) v p words o n = refl
foreign (MarkWord a) (BankWord b c i) v p words o n = refl
foreign (EndWord a) ReleaseWord v p words o n = refl
foreign (EndWord a) (KernelWord i) v p words o n = refl
foreign (EndWord a) (MarkWord b) v p words o n = refl
foreign (EndWord a) (EndWord b) v p words o n = rw (differ a b p o n) refl
foreign (EndWord a) (BankWord b c i) v p words o n = refl
foreign (BankWord a d j) ReleaseWord v p words o n = refl
foreign (BankWord a d j) (KernelWord i) v p words o n = refl
foreign (BankWord a d j) (MarkWord b) v p words o n = refl
foreign (BankWord a d j) (EndWord b) v p words o n = refl
foreign (BankWord a d j) (BankWord b c i) v p words o n = rw (differ a b p o n) refl

pub record Own (m : Flight) (p : ℕ) (at : Places) (words : Word → ℕ) (at2 : Places) (words2 : Word → ℕ) (x : Place) : Type 0 where
  pub here : at2.proc p ≡ x
  pub others : (q : ℕ) → q ≢ p → at2.proc q ≡ at.proc q
  pub frame : at2.frame ≡ at.frame
  pub step : at2.step ≡ at.step
  pub others_words : (w : Word) → IsStored m w → owner w ≢ Some p → words2 w ≡ words w
  pub marks : words2 (MarkWord p) ≡ mark_at m p x
  pub ends : words2 (EndWord p) ≡ end_at m p x
  pub banks : (b i : ℕ) → b < 2 → i < m.width → words2 (BankWord p b i) ≡ bank_at m p x b i
  pub placed : IsPlaced m at.frame at.step p x

module _ (m : Flight) (p : ℕ) (at : Places) (words : Word → ℕ) (at2 : Places) (words2 : Word → ℕ) (x : Place) (o : Own m p at words at2 words2 x) (k : Kept m at words) where
  placed_at : (q : ℕ) → q < m.procs → Dec (q ≡ p) → IsPlaced m at2.frame at2.step q (at2.proc q)
  placed_at q l (yes e) = rw (e, o.here, o.frame, o.step) o.placed
  placed_at q l (no n) = rw (o.others q n, o.frame, o.step) (k.placed q l)

  not_own : (q : ℕ) → q ≢ p → Some q ≢ Some p
  not_own q n e = n (cc)

  mark_is : (q : ℕ) → q < m.procs → Dec (q ≡ p) → words2 (MarkWord q) ≡ mark_at m q (at2.proc q)
  mark_is q l (yes e) = rw (e, o.here) o.marks
  mark_is q l (no n) = rw (o.others q n) (o.others_words (MarkWord q) l (not_own q n) ∙ k.words_are (MarkWord q) l)

  end_is : (q : ℕ) → q < m.procs → Dec (q ≡ p) → words2 (EndWord q) ≡ end_at m q (at2.proc q)
  end_is q l (yes e) = rw (e, o.here) o.ends
  end_is q l (no n) = rw (o.others q n) (o.others_words (EndWord q) l (not_own q n) ∙ k.words_are (EndWord q) l)

  bank_is : (q b i : ℕ) → (q < m.procs) × (b < 2) × (i < m.width) → Dec (q ≡ p) → words2 (BankWord q b i) ≡ bank_at m q (at2.proc q) b i
  bank_is q b i l (yes e) = rw (e, o.here) (o.banks b i l.1 l.2)
  bank_is q b i l (no n) = rw (o.others q n) (o.others_words (BankWord q b i) l (not_own q n) ∙ k.words_are (BankWord q b i) l)

  none_own : owner ReleaseWord ≢ Some p
  none_own e = cc

  word_is : (w : Word) → IsStored m w → words2 w ≡ stored_word m at2 w
  word_is ReleaseWord l = rw o.frame (o.others_words ReleaseWord l none_own ∙ k.words_are ReleaseWord l)
  word_is (KernelWord i) l = rw (o.frame, o.step) (o.others_words (KernelWord i) l none_own ∙ k.words_are (KernelWord i) l)
  word_is (MarkWord q) l = mark_is q l (ℕ_discrete q p)
  word_is (EndWord q) l = end_is q l (ℕ_discrete q p)
  word_is (BankWord q b i) l = bank_is q b i l (ℕ_discrete q p)

  pub own_keeps : Kept m at2 words2
  own_keeps = record { kernel = rw (o.frame, o.step) k.kernel; placed = λ q l. placed_at q l (ℕ_discrete q p); words_are = word_is }

pub nat_eq_self : (p : ℕ) → nat_eq p p ≡ true
nat_eq_self p = grind (arith, nat_tests)

pub nat_eq_other : (q p : ℕ) → q ≢ p → nat_eq q p ≡ false
nat_eq_other q p n = grind (arith, nat_tests)

-- If an event of processor `p` from place `y` leaves the words of `p` as the new place of `p` requires, then the
-- event preserves the invariant.
pub by_actor : (m : Flight) (at : Places) (words : Word → ℕ) (e : Event) (at2 : Places) (words2 : Word → ℕ) (p : ℕ) (y x : Place)
    → Happens m at words e at2 words2 → Kept m at words → p < m.procs → at.proc p ≡ y
    → ((q : ℕ) → is_actor e q ≡ nat_eq q p) → moved m e p y ≡ x → frame_after at e ≡ at.frame → step_after at e ≡ at.step
    → ((w : Word) → owner w ≢ Some p → written (writes m at words e) words w ≡ words w)
    → (words (MarkWord p) ≡ mark_at m p y → written (writes m at words e) words (MarkWord p) ≡ mark_at m p x)
    → (words (EndWord p) ≡ end_at m p y → written (writes m at words e) words (EndWord p) ≡ end_at m p x)
    → ((b i : ℕ) → b < 2 → i < m.width → words (BankWord p b i) ≡ bank_at m p y b i → written (writes m at words e) words (BankWord p b i) ≡ bank_at m p x b i)
    → (IsPlaced m at.frame at.step p y → IsPlaced m at.frame at.step p x)
    → Kept m at2 words2
by_actor m at words e at2 words2 p y x h k l here a mv fr st fo mk en bk pl = own_keeps m p at words at2 words2 x (record {
  here = h.proc p ∙ rw (a p, nat_eq_self p) (ap (λ (z : Place). moved m e p z) here ∙ mv);
  others = λ q n. h.proc q ∙ rw (a q, nat_eq_other q p n) refl;
  frame = h.frame ∙ fr;
  step = h.step ∙ st;
  others_words = λ w i n. h.words_are w i ∙ fo w n;
  marks = h.words_are (MarkWord p) l ∙ mk (rw here at (k.words_are (MarkWord p) l));
  ends = h.words_are (EndWord p) l ∙ en (rw here at (k.words_are (EndWord p) l));
  banks = λ b i c d. h.words_are (BankWord p b i) (l, c, d) ∙ bk b i c d (rw here at (k.words_are (BankWord p b i) (l, c, d)));
  placed = pl (rw here at (k.placed p l));
}) k
