-- The law of events if the words are kept in one list.
use Rattle.std.proofs.Common.{◌≡◌, ℕ, ◌+◌, ◌*◌, ◌<◌, ◌≤◌, Bool, ◌&&◌, refl, ap, ◌∙◌, arith, List, length}
use Rattle.std.specs.Prelude.{Option, Some, None, nat_lt, nat_eq, if◌then◌else◌, slice_index, slice_set}
use Rattle.std.proofs.lemmas.Bool.Decides.{nat_tests}
use Rattle.std.proofs.lemmas.Grind.{common_steps}
use Rattle.fail_stop.specs.Flights.{Flight, Flies}
use Rattle.bank_words.specs.declared.events.Event.{Event}
use Rattle.bank_words.specs.declared.events.Event.TheVariants.{Start, Look, Store, Flip, Done, Halt, KNote, KStore, Release}
use Rattle.fail_stop.specs.Events.{Places, Word, ReleaseWord, KernelWord, MarkWord, EndWord, BankWord, IsStored, IsNext, writes, written, same_word, halts_at, next_from}
use Rattle.fail_stop.specs.Kept.{Kept}
use Rattle.fail_stop.specs.Listed.{index_of, stored_in, list_after, HoldsWords, Moves}
use Rattle.fail_stop.proofs.Plans.{gate, is_less, Mid, mid, plan_store, next_kstore}
use Rattle.fail_stop.proofs.Keeps.{keeps}

abbrev pub IsTarget : Flight → Option (Word × ℕ) → Type 0
IsTarget m None = Unit {0}
IsTarget m (Some t) = IsStored m t.0

module _ (m : Flight) (at : Places) (words : Word → ℕ) where
  acting : (p : ℕ) (e : Event) → (if nat_lt p m.procs then next_from m p (words ReleaseWord) (at.proc p) else None) ≡ Some e → p < m.procs
  acting p e i = is_less p m.procs (gate (nat_lt p m.procs) (next_from m p (words ReleaseWord) (at.proc p)) e i).0

  -- If an event that is the next of its actor writes a word, then the word exists.
  pub target : (e : Event) → IsNext m at words e → IsTarget m (writes m at words e)
  target (Start p) i = tt
  target (Look p q) i = tt
  target (Store p x) i =
      let a = gate (nat_lt p.0 m.procs) (next_from m p.0 (words ReleaseWord) (at.proc p.0)) (Store p x) i in
      let b : Mid m p.0 (at.proc p.0) (Store p x) = mid m p.0 (words ReleaseWord) (at.proc p.0) (Store p x) a.1 (λ e. cc) in
      let c = plan_store m p.0 b.n x (halts_at m b.n (m.halt p.0 b.f)) b.next in
      (acting p.0 (Store p x) i, omega arith, c.2)
  target (Flip p) i = acting p.0 (Flip p) i
  target (Done p) i = acting p.0 (Done p) i
  target (Halt p) i = acting p.0 (Halt p) i
  target (KNote p) i = tt
  target (KStore x) i = (next_kstore m at words x i).2
  target Release i = tt

-- Two words have the same index if and only if they are the same word.
same_index : (m : Flight) (t w : Word) → m.procs ≤ 8 → m.width ≤ 64 → IsStored m t → IsStored m w → nat_eq (index_of t) (index_of w) ≡ same_word t w
same_index m ReleaseWord ReleaseWord np nw a b = refl
same_index m ReleaseWord (KernelWord j) np nw a b = grind (arith, nat_tests)
same_index m ReleaseWord (MarkWord q) np nw a b = grind (arith, nat_tests)
same_index m ReleaseWord (EndWord q) np nw a b = grind (arith, nat_tests)
same_index m ReleaseWord (BankWord q c j) np nw a b = grind (arith, nat_tests)
same_index m (KernelWord i) ReleaseWord np nw a b = grind (arith, nat_tests)
same_index m (KernelWord i) (KernelWord j) np nw a b = grind (arith, nat_tests)
same_index m (KernelWord i) (MarkWord q) np nw a b = grind (arith, nat_tests)
same_index m (KernelWord i) (EndWord q) np nw a b = grind (arith, nat_tests)
same_index m (KernelWord i) (BankWord q c j) np nw a b = grind (arith, nat_tests)
same_index m (MarkWord p) ReleaseWord np nw a b = grind (arith, nat_tests)
same_index m (MarkWord p) (KernelWord j) np nw a b = grind (arith, nat_tests)
same_index m (MarkWord p) (MarkWord q) np nw a b = grind (arith, nat_tests)
same_index m (MarkWord p) (EndWord q) np nw a b = grind (arith, nat_tests)
same_index m (MarkWord p) (BankWord q c j) np nw a b = grind (arith, nat_tests)
same_index m (EndWord p) ReleaseWord np nw a b = grind (arith, nat_tests)
same_index m (EndWord p) (KernelWord j) np nw a b = grind (arith, nat_tests)
same_index m (EndWord p) (MarkWord q) np nw a b = grind (arith, nat_tests)
same_index m (EndWord p) (EndWord q) np nw a b = grind (arith, nat_tests)
same_index m (EndWord p) (BankWord q c j) np nw a b = grind (arith, nat_tests)
same_index m (BankWord p d i) ReleaseWord np nw a b = grind (arith, nat_tests)
same_index m (BankWord p d i) (KernelWord j) np nw a b = grind (arith, nat_tests)
same_index m (BankWord p d i) (MarkWord q) np nw a b = grind (arith, nat_tests)
same_index m (BankWord p d i) (EndWord q) np nw a b = grind (arith, nat_tests)
same_index m (BankWord p d i) (BankWord q c j) np nw a b = bank_index p d i q c j a.1 b.1 (omega arith) (omega arith)
  where
    bank_index : (p d i q c j : ℕ) → d < 2 → c < 2 → i < 64 → j < 64 → nat_eq (40 + 136 * p + 64 * d + i) (40 + 136 * q + 64 * c + j) ≡ (nat_eq p q && (nat_eq d c && nat_eq i j))
    bank_index p d i q c j hd hc hi hj = grind (arith, nat_tests)

set_index : (list : List ℕ) (i j v : ℕ) → i < length list → slice_index (slice_set list i v) j ≡ (if nat_eq i j then v else slice_index list j)
set_index list i j v h = grind (arith, common_steps)

index_small : (m : Flight) (t : Word) → m.procs ≤ 8 → m.width ≤ 64 → IsStored m t → index_of t < 1120
index_small m ReleaseWord np nw a = omega arith
index_small m (KernelWord i) np nw a = omega arith
index_small m (MarkWord p) np nw a = omega arith
index_small m (EndWord p) np nw a = omega arith
index_small m (BankWord p b i) np nw a = omega arith

-- If a list holds the words of a flight, then a write to the list changes the value of each word as `written` states.
pub list_written : (m : Flight) (list : List ℕ) (o : Option (Word × ℕ)) (w : Word) → HoldsWords m list → IsTarget m o → IsStored m w → stored_in (list_after list o) w ≡ written o (stored_in list) w
list_written m list None w s t l = refl
list_written m list (Some t) w s k l =
    let small = index_small m t.0 s.procs s.width k in
    set_index list (index_of t.0) (index_of w) t.1 (omega (arith, s.long)) ∙ ap (λ (b : Bool). if b then t.1 else stored_in list w) (same_index m t.0 w s.procs s.width k l)

pub list_keeps : (m : Flight) (at : Places) (list : List ℕ) (e : Event) (at2 : Places) → Flies m → HoldsWords m list → Kept m at (stored_in list) → IsNext m at (stored_in list) e → Moves m at e at2
    → Kept m at2 (stored_in (list_after list (writes m at (stored_in list) e)))
list_keeps m at list e at2 y s k i v =
    keeps m at (stored_in list) at2 (stored_in (list_after list (writes m at (stored_in list) e))) y k e i (record {
      proc = v.proc;
      frame = v.frame;
      step = v.step;
      words_are = λ w l. list_written m list (writes m at (stored_in list) e) w s (target m at (stored_in list) e i) l;
    })
