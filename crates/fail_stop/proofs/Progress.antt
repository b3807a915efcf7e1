-- Proof that some actor has a next event if the machine is not over, and that each word of a bank is the word that
-- was stored there last.
use Rattle.std.proofs.Common.{◌≡◌, ◌≢◌, ◌⊎◌, ℕ, zero, suc, ◌+◌, ◌-◌, ◌*◌, ◌/◌, ◌%◌, ◌<◌, ◌≤◌, Bool, true, false, ◌||◌, refl, ap, subst, ◌∙◌, inl, inr, arith}
use Rattle.std.specs.Prelude.{Option, Some, None, nat_eq, if◌then◌else◌}
use Rattle.std.proofs.lemmas.Bool.Decides.{nat_tests}
use Rattle.std.proofs.lemmas.Bool.{eq-eqb, le-ltb, lt-ltb}
use native.Mathlib.Decide.{dec_le, ℕ_discrete}
use Rattle.fail_stop.specs.Flights.{Flight, Flies, back_by, side, stores_in, laid, bank_before}
use Rattle.bank_words.specs.declared.events.Event.{Event}
use Rattle.bank_words.specs.declared.events.Event.TheVariants.{Start, Look, Store, Flip, Done, Halt, KNote, KStore, Release}
use Rattle.scram_types.specs.Lookups.{proc_id}
use Rattle.fail_stop.specs.Events.{Place, At, Halted, Places, Word, ReleaseWord, EndWord, IsNext, next_of, next_from, plan_step, halts_at, next_halted, may_note}
use Rattle.fail_stop.specs.Kept.{Kept, IsPlaced, Running, Stopped, last_step, end_at}
use Rattle.fail_stop.specs.Ends.{IsOver, IsDone, Stores, IsStoredLast}
use Rattle.fail_stop.proofs.FrameFacts.{laid_new, laid_past}
use Rattle.fail_stop.proofs.KernelEvents.{halted_end}

-- Some actor has a next event.
abbrev pub Goes : Flight → Places → (Word → ℕ) → Type 0
Goes m at words = (e : Event) × IsNext m at words e

restarted_at : (m : Flight) (p h release r : ℕ) (o : Option ℕ) → o ≡ Some r → h < r → r < release → next_halted p h release o ≡ Some (Start (proc_id p))
restarted_at m p h release r None e a b = cc
restarted_at m p h release r (Some s) e a b = let same : s ≡ r = cc in rw (lt-ltb h s (omega arith), lt-ltb s release (omega arith)) refl

plan_goes : (m : Flight) (at : Places) (words : Word → ℕ) (p n : ℕ) (b : Bool) → next_of m at words p ≡ (if b then Some (Halt (proc_id p)) else plan_step m p n)
    → 0 < n → (b ≡ false → n ≤ m.procs + 2 + m.width) → Goes m at words
plan_goes m at words p n true w z l = (Halt (proc_id p), w)
plan_goes m at words p n false w z l = step_goes (ℕ_discrete n 0) (dec_le n m.procs) (dec_le (suc n) (m.procs + 1 + m.width)) (ℕ_discrete n (m.procs + 1 + m.width)) (l refl)
  where
    look_is : n ≢ 0 → n ≤ m.procs → plan_step m p n ≡ Some (Look (proc_id p) (proc_id (n - 1)))
    look_is a b = grind (arith, nat_tests)

    store_is : m.procs < n → n < m.procs + 1 + m.width → plan_step m p n ≡ Some (Store (proc_id p) (n - (m.procs + 1)))
    store_is a b = grind (arith, nat_tests)

    flip_is : n ≡ m.procs + 1 + m.width → plan_step m p n ≡ Some (Flip (proc_id p))
    flip_is a = grind (arith, nat_tests)

    done_is : n ≡ m.procs + 2 + m.width → plan_step m p n ≡ Some (Done (proc_id p))
    done_is a = grind (arith, nat_tests)

    step_goes : Dec (n ≡ 0) → Dec (n ≤ m.procs) → Dec (n < m.procs + 1 + m.width) → Dec (n ≡ m.procs + 1 + m.width) → n ≤ m.procs + 2 + m.width → Goes m at words
    step_goes (yes a) b c d g = absurd (omega arith)
    step_goes (no a) (yes b) c d g = (Look (proc_id p) (proc_id (n - 1)), w ∙ look_is a b)
    step_goes (no a) (no b) (yes c) d g = (Store (proc_id p) (n - (m.procs + 1)), w ∙ store_is (omega arith) c)
    step_goes (no a) (no b) (no c) (yes d) g = (Flip (proc_id p), w ∙ flip_is d)
    step_goes (no a) (no b) (no c) (no d) g = (Done (proc_id p), w ∙ done_is (omega arith))

in_limit : (m : Flight) (n : ℕ) (o : Option ℕ) → ((s : ℕ) → o ≡ Some s → s ≤ m.width + 1) → n ≤ last_step m o → n ≤ m.procs + 2 + m.width
in_limit m n None y h = h
in_limit m n (Some s) y h = let small : s ≤ m.width + 1 = y s refl in omega arith

pub may_done : (m : Flight) (p k e : ℕ) → e ≡ 2 * suc k → may_note m p k e ≡ true
may_done m p k e h = rw (eq-eqb e (2 * suc k) h) refl

pub may_halted : (m : Flight) (p k h e : ℕ) → e ≡ 2 * h + 1 → back_by (m.restart p) h k ≡ false → may_note m p k e ≡ true
may_halted m p k h e w b =
    let half : e / 2 ≡ h = omega arith in
    let one : e % 2 ≡ 1 = omega arith in
    rw (half, b, eq-eqb (e % 2) 1 one) (or_true (nat_eq e (2 * suc k)))
  where
    or_true : (b : Bool) → (b || true) ≡ true
    or_true true = refl
    or_true false = refl

-- The restart `o` comes after frame `h` and no later than frame `k`.
pub record Found (o : Option ℕ) (h k : ℕ) : Type 0 where
  pub r : ℕ
  pub is : o ≡ Some r
  pub low : h < r
  pub high : r ≤ k

pub found : (o : Option ℕ) (h k : ℕ) → back_by o h k ≡ true → Found o h k
found None h k e = cc
found (Some r) h k e = record { r = r; is = refl; low = grind (arith, nat_tests); high = grind (arith, nat_tests) }

module _ (m : Flight) (at : Places) (words : Word → ℕ) (y : Flies m) (k : Kept m at words) (some_frames : 0 < m.frames) where
  release_is : words ReleaseWord ≡ suc at.frame
  release_is = k.words_are ReleaseWord tt ∙ positive m.frames at.frame some_frames
    where
      positive : (f k : ℕ) → 0 < f → (if nat_eq f 0 then 0 else suc k) ≡ suc k
      positive f k l = grind (arith, nat_tests)

  in_frame : at.frame < m.frames
  in_frame = k.kernel.below some_frames

  noting : at.step < m.procs → may_note m at.step at.frame (words (EndWord at.step)) ≡ true → Goes m at words
  noting l c = (KNote (proc_id at.step), rw (lt-ltb at.frame m.frames in_frame, lt-ltb at.step m.procs l, c) refl)

  own_next : (p : ℕ) (x : Place) → p < m.procs → at.proc p ≡ x → next_of m at words p ≡ next_from m p (words ReleaseWord) x
  own_next p x l here = rw (lt-ltb p m.procs l, here) refl

  start_goes : (p f : ℕ) → p < m.procs → at.proc p ≡ At f 0 → f ≡ at.frame → Goes m at words
  start_goes p f l here e = (Start (proc_id p), own_next p (At f 0) l here ∙ rw (lt-ltb f m.frames (omega (arith, in_frame)), lt-ltb f (words ReleaseWord) (omega (arith, release_is))) refl)

  running_goes : (p f n : ℕ) → p < m.procs → at.proc p ≡ At f n → Running m at.frame at.step p f n → f ≡ at.frame → Goes m at words
  running_goes p f zero l here r e = start_goes p f l here e
  running_goes p f (suc n) l here r e = plan_goes m at words p (suc n) (halts_at m (suc n) (m.halt p f)) (own_next p (At f (suc n)) l here) (omega arith) (λ b. in_limit m (suc n) (m.halt p f) (y.step p f) r.within)

  at_goes : at.step < m.procs → (f n : ℕ) → at.proc at.step ≡ At f n → Running m at.frame at.step at.step f n → Dec (f ≤ at.frame) → Goes m at words
  at_goes l f n here r (yes d) = running_goes at.step f n l here r (omega (arith, r.low))
  at_goes l f n here r (no d) =
      let e : f ≡ suc at.frame = omega (arith, r.high) in
      let w : words (EndWord at.step) ≡ 2 * f = k.words_are (EndWord at.step) l ∙ ap (λ (x : Place). end_at m at.step x) here ∙ r.done (omega arith) in
      noting l (may_done m at.step at.frame (words (EndWord at.step)) (w ∙ ap (λ (z : ℕ). 2 * z) e))

  halted_goes : at.step < m.procs → (h : ℕ) → at.proc at.step ≡ Halted h → Stopped m at.frame at.step at.step h → (b : Bool) → back_by (m.restart at.step) h at.frame ≡ b → Goes m at words
  halted_goes l h here s true b =
      let f : Found (m.restart at.step) h at.frame = found (m.restart at.step) h at.frame b in
      let late = f.high in
      (Start (proc_id at.step), own_next at.step (Halted h) l here ∙ restarted_at m at.step h (words ReleaseWord) f.r (m.restart at.step) f.is f.low (omega (arith, release_is)))
  halted_goes l h here s false b =
      let w : words (EndWord at.step) ≡ 2 * h + 1 = k.words_are (EndWord at.step) l ∙ ap (λ (x : Place). end_at m at.step x) here ∙ halted_end m at.frame at.step at.step h s in
      noting l (may_halted m at.step at.frame h (words (EndWord at.step)) w b)

  note_goes : at.step < m.procs → (x : Place) → at.proc at.step ≡ x → IsPlaced m at.frame at.step at.step x → Goes m at words
  note_goes l (At f n) here r = at_goes l f n here r (dec_le f at.frame)
  note_goes l (Halted h) here s = halted_goes l h here s (back_by (m.restart at.step) h at.frame) refl

  store_goes : m.procs ≤ at.step → suc at.frame < m.frames → Dec (at.step < m.procs + 20) → Goes m at words
  store_goes l f (yes d) = (KStore (at.step - m.procs), rw (lt-ltb at.frame m.frames in_frame, le-ltb at.step m.procs l, lt-ltb (suc at.frame) m.frames f, lt-ltb at.step (m.procs + 20) d) refl)
  store_goes l f (no d) = (Release, rw (lt-ltb at.frame m.frames in_frame, le-ltb at.step m.procs l, lt-ltb (suc at.frame) m.frames f, le-ltb at.step (m.procs + 20) (omega arith), eq-eqb at.step (m.procs + 20) (omega (arith, k.kernel.steps))) refl)

  done_at : ((p r : ℕ) → m.restart p ≡ Some r → r < m.frames) → suc at.frame ≡ m.frames → (p : ℕ) (x : Place) → p < at.step → IsPlaced m at.frame at.step p x → IsDone m p x
  done_at bound e p (At f n) l r = let late : at.frame < f = r.noted l in omega (arith, r.high)
  done_at bound e p (Halted h) l s = λ r i. not_later r h (λ g. let late : at.frame < r = s.noted l r i g in let b : r < m.frames = bound p r i in omega arith) (dec_le r h)
    where
      not_later : (r h : ℕ) → (h < r → ⊥) → Dec (r ≤ h) → r ≤ h
      not_later r h n (yes d) = d
      not_later r h n (no d) = absurd (n (omega arith))

  last_goes : ((p r : ℕ) → m.restart p ≡ Some r → r < m.frames) → m.procs ≤ at.step → Dec (suc at.frame < m.frames) → IsOver m at ⊎ Goes m at words
  last_goes bound l (yes d) = inr (store_goes l d (dec_le (suc at.step) (m.procs + 20)))
  last_goes bound l (no d) =
      let e : suc at.frame ≡ m.frames = omega (arith, in_frame) in
      inl (inr ((λ p lp. done_at bound e p (at.proc p) (omega arith) (k.placed p lp)), e, l))

  goes_on : ((p r : ℕ) → m.restart p ≡ Some r → r < m.frames) → Dec (at.step < m.procs) → IsOver m at ⊎ Goes m at words
  goes_on bound (yes d) = inr (note_goes d (at.proc at.step) refl (k.placed at.step d))
  goes_on bound (no d) = last_goes bound (omega arith) (dec_le (suc (suc at.frame)) m.frames)

progress_at : (m : Flight) (at : Places) (words : Word → ℕ) → Flies m → ((p r : ℕ) → m.restart p ≡ Some r → r < m.frames) → Kept m at words → Dec (m.frames ≡ 0) → IsOver m at ⊎ Goes m at words
progress_at m at words y bound k (yes d) = inl (inl d)
progress_at m at words y bound k (no d) = goes_on m at words y k (omega arith) bound (dec_le (suc at.step) m.procs)

pub progress : (m : Flight) (at : Places) (words : Word → ℕ) → Flies m → ((p r : ℕ) → m.restart p ≡ Some r → r < m.frames) → Kept m at words → IsOver m at ⊎ Goes m at words
progress m at words y bound k = progress_at m at words y bound k (ℕ_discrete m.frames 0)

-- If processor `p` stores a word of a bank in frame `f`, then after frame `f` the bank holds the word that `p` stored
-- last.
last_new : (m : Flight) (p f b i old : ℕ) → Stores m p f b i → IsStoredLast m p (suc f) b i (laid m p f (stores_in m p f) b i old)
last_new m p f b i old s = inl (f, omega arith, s, laid_new m p f (stores_in m p f) b i old s.0 s.1, (λ later a c d. omega arith))

last_in : (P : ℕ → Type 0) (f g : ℕ) → ((x : ℕ) → x < f → P x → ⊥) → (P f → ⊥) → g < suc f → Dec (g ≡ f) → P g → ⊥
last_in P f g a b l (yes d) x = b (subst P d x)
last_in P f g a b l (no d) x = a g (omega arith) x

last_keep : (m : Flight) (p f b i v w : ℕ) → w ≡ v → (Stores m p f b i → ⊥) → IsStoredLast m p f b i v → IsStoredLast m p (suc f) b i w
last_keep m p f b i v w e n (inl s) = inl (s.0, omega (arith, s.1), s.2, e ∙ s.3, (λ later a c. later_not later a c (ℕ_discrete later f)))
  where
    later_not : (later : ℕ) → s.0 < later → later < suc f → Dec (later ≡ f) → Stores m p later b i → ⊥
    later_not later a c (yes d) x = n (subst (λ (z : ℕ). Stores m p z b i) d x)
    later_not later a c (no d) x = s.4 later a (omega arith) x
last_keep m p f b i v w e n (inr s) = inr (e ∙ s.0, (λ g l x. last_in (λ (z : ℕ). Stores m p z b i) f g s.1 n l (ℕ_discrete g f) x))

laid_not : (m : Flight) (p f s b i old : ℕ) → b ≢ 1 - side m p f → laid m p f s b i old ≡ old
unfolding laid
laid_not m p f s b i old n = grind (arith, nat_tests)

last_more : (m : Flight) (p f b i old : ℕ) → IsStoredLast m p f b i old → Dec (b ≡ 1 - side m p f) → Dec (i < stores_in m p f) → IsStoredLast m p (suc f) b i (laid m p f (stores_in m p f) b i old)
last_more m p f b i old s (yes d) (yes l) = last_new m p f b i old (d, l)
last_more m p f b i old s (no d) l = last_keep m p f b i old _ (laid_not m p f (stores_in m p f) b i old d) (λ x. d x.0) s
last_more m p f b i old s (yes d) (no l) = last_keep m p f b i old _ (laid_past m p f (stores_in m p f) b i old (omega arith)) (λ x. l x.1) s

pub stored_last_is : (m : Flight) (p f b i : ℕ) → IsStoredLast m p f b i (bank_before m p f b i)
unfolding bank_before
stored_last_is m p zero b i = inr (refl, (λ g l x. absurd (omega arith)))
stored_last_is m p (suc f) b i = last_more m p f b i (bank_before m p f b i) (stored_last_is m p f b i) (ℕ_discrete b (1 - side m p f)) (dec_le (suc i) (stores_in m p f))
