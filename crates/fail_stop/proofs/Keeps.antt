-- The law of events: an event that is the next of its actor preserves the invariant `Kept`.
use Rattle.std.proofs.Common.{◌≡◌, ◌⊎◌, ℕ, suc, ◌<◌, ◌≤◌, refl, sym, inl, inr, arith}
use Rattle.std.specs.Prelude.{Some, None, nat_lt, if◌then◌else◌}
use Rattle.std.proofs.lemmas.Bool.Decides.{nat_tests}
use Rattle.fail_stop.specs.Flights.{Flight, Flies, last_commit, side, end_before, bank_before}
use Rattle.bank_words.specs.declared.events.Event.{Event}
use Rattle.bank_words.specs.declared.events.Event.TheVariants.{Start, Look, Store, Flip, Done, Halt, KNote, KStore, Release}
use Rattle.scram_types.specs.Lookups.{proc_id}
use Rattle.fail_stop.specs.Events.{At, Halted, Places, Word, ReleaseWord, KernelWord, MarkWord, EndWord, BankWord, IsStored, IsNext, Happens, halts_at, next_from}
use Rattle.fail_stop.specs.Kept.{Kept, stored_word, release_at, opening_places, opening_words}
use Rattle.fail_stop.proofs.Plans.{gate, is_less, Mid, mid, Begin, begin, plan_look, plan_store, plan_flip, plan_done, plan_halt, HaltsHere, halts_here, next_note, next_kstore, next_release}
use Rattle.fail_stop.proofs.ProcessorEvents.{look_keeps, store_keeps, flip_keeps, done_keeps, halt_keeps, start_keeps, back_keeps, unflipped, bank_begin, made_none}
use Rattle.fail_stop.proofs.KernelEvents.{note_keeps, kstore_keeps, release_keeps, kernel_zero}

release_le : (m : Flight) (k : ℕ) → release_at m k ≤ suc k
release_le m k = grind (arith, nat_tests)

module _ (m : Flight) (at : Places) (words : Word → ℕ) (at2 : Places) (words2 : Word → ℕ) (y : Flies m) (k : Kept m at words) where
  actor : (p : ℕ) (e : Event) → (if nat_lt p m.procs then next_from m p (words ReleaseWord) (at.proc p) else None) ≡ Some e → (p < m.procs) × (next_from m p (words ReleaseWord) (at.proc p) ≡ Some e)
  actor p e i = let g = gate (nat_lt p m.procs) (next_from m p (words ReleaseWord) (at.proc p)) e i in (is_less p m.procs g.0, g.1)

  released : (f : ℕ) → f < words ReleaseWord → f ≤ at.frame
  released f l = let w = k.words_are ReleaseWord tt in let b = release_le m at.frame in omega arith

  start_at : (p f : ℕ) → Happens m at words (Start (proc_id p)) at2 words2 → p < m.procs → f ≤ at.frame → ((at.proc p ≡ At f 0) × (f < m.frames)) ⊎ ((h : ℕ) × (at.proc p ≡ Halted h) × (m.restart p ≡ Some f) × (h < f)) → Kept m at2 words2
  start_at p f h l low (inl b) = start_keeps m at words at2 words2 p k l f low h b.0
  start_at p f h l low (inr b) = back_keeps m at words at2 words2 p k l f low b.0 y h b.1 b.2 b.3

  pub keeps : (e : Event) → IsNext m at words e → Happens m at words e at2 words2 → Kept m at2 words2
  keeps (Start p) i h =
      let a = actor p.0 (Start p) i in
      let b : Begin m p.0 (words ReleaseWord) (at.proc p.0) = begin m p.0 (words ReleaseWord) (at.proc p.0) a.1 in
      start_at p.0 b.f h a.0 (released b.f b.low) b.where_
  keeps (Look p q) i h =
      let a = actor p.0 (Look p q) i in
      let b : Mid m p.0 (at.proc p.0) (Look p q) = mid m p.0 (words ReleaseWord) (at.proc p.0) (Look p q) a.1 (λ e. cc) in
      let c = plan_look m p.0 b.n q.0 (halts_at m b.n (m.halt p.0 b.f)) b.next in
      look_keeps m at words at2 words2 p.0 k a.0 b.f b.n b.here b.begun q.0 h c.0 c.1
  keeps (Store p x) i h =
      let a = actor p.0 (Store p x) i in
      let b : Mid m p.0 (at.proc p.0) (Store p x) = mid m p.0 (words ReleaseWord) (at.proc p.0) (Store p x) a.1 (λ e. cc) in
      let c = plan_store m p.0 b.n x (halts_at m b.n (m.halt p.0 b.f)) b.next in
      store_keeps m at words at2 words2 p.0 k a.0 b.f b.n b.here b.begun x h c.0 c.1 c.2
  keeps (Flip p) i h =
      let a = actor p.0 (Flip p) i in
      let b : Mid m p.0 (at.proc p.0) (Flip p) = mid m p.0 (words ReleaseWord) (at.proc p.0) (Flip p) a.1 (λ e. cc) in
      let c = plan_flip m p.0 b.n (halts_at m b.n (m.halt p.0 b.f)) b.next in
      flip_keeps m at words at2 words2 p.0 k a.0 b.f b.n b.here b.begun h c.0 c.1
  keeps (Done p) i h =
      let a = actor p.0 (Done p) i in
      let b : Mid m p.0 (at.proc p.0) (Done p) = mid m p.0 (words ReleaseWord) (at.proc p.0) (Done p) a.1 (λ e. cc) in
      let c = plan_done m p.0 b.n (halts_at m b.n (m.halt p.0 b.f)) b.next in
      done_keeps m at words at2 words2 p.0 k a.0 b.f b.n b.here b.begun y h c.0 c.1
  keeps (Halt p) i h =
      let a = actor p.0 (Halt p) i in
      let b : Mid m p.0 (at.proc p.0) (Halt p) = mid m p.0 (words ReleaseWord) (at.proc p.0) (Halt p) a.1 (λ e. cc) in
      let c : HaltsHere m b.n (m.halt p.0 b.f) = halts_here m b.n (m.halt p.0 b.f) (plan_halt m p.0 b.n (halts_at m b.n (m.halt p.0 b.f)) b.next) in
      halt_keeps m at words at2 words2 p.0 k a.0 b.f b.n b.here b.begun c.step h c.halts c.count
  keeps (KNote p) i h = let c = next_note m at words p.0 i in note_keeps m at words at2 words2 k p.0 y h c.0 c.1 c.2
  keeps (KStore x) i h = let c = next_kstore m at words x i in kstore_keeps m at words at2 words2 k x h c.1 c.2 c.3
  keeps Release i h = let c = next_release m at words i in release_keeps m at words at2 words2 k h c.0 c.1

opening_word : (m : Flight) (w : Word) → IsStored m w → opening_words m w ≡ stored_word m opening_places w
unfolding last_commit side end_before bank_before
opening_word m ReleaseWord l = refl
opening_word m (KernelWord i) l = sym (kernel_zero m 0 0 i (omega arith))
opening_word m (MarkWord p) l = sym (unflipped m p 0 0 (omega arith))
opening_word m (EndWord p) l = refl
opening_word m (BankWord p b i) l = sym (bank_begin m p 0 0 b i (made_none m 0 (omega arith)))

pub opens : (m : Flight) → Flies m → Kept m opening_places (opening_words m)
opens m y = record {
  placed = λ p l. record { up = y.first p; low = omega arith; high = omega arith; fresh = λ g. refl; within = omega arith; noted = λ g. absurd (omega arith); done = λ g. absurd (omega arith) };
  kernel = record { below = λ g. g; steps = omega arith; ending = λ g. absurd (omega arith) };
  words_are = opening_word m;
}
