-- Each state of each schedule satisfies `Kept`, for a flight whose halts and restarts decide which processors are up.
use Rattle.std.proofs.Common.{◌≡◌, ℕ, zero, suc, ◌<◌, ◌≤◌, Bool, true, false, ◌&&◌, ◌||◌, refl, sym, ap, ◌∙◌, arith, List, [], ◌∷◌}
use Rattle.std.specs.Prelude.{Option, Some, None, nat_eq, is_none, is_some, if◌then◌else◌}
use Rattle.std.proofs.lemmas.Bool.Decides.{nat_tests}
use native.Mathlib.Decide.{dec_le}
use Rattle.fail_stop.specs.Flights.{Flight, Flies, back_by}
use Rattle.bank_words.specs.declared.events.Event.{Event}
use Rattle.fail_stop.specs.Events.{Happens}
use Rattle.fail_stop.specs.Kept.{Kept}
use Rattle.fail_stop.specs.Schedules.{Machine, happened, opening, IsSchedule, up_by, is_frame, latest, is_up_after, IsUpBy}
use Rattle.fail_stop.proofs.Keeps.{opens, keeps}

pub happens_so : (m : Flight) (s : Machine) (e : Event) → Happens m s.at s.words e (happened m s e).at (happened m s e).words
happens_so m s e = record { proc = λ q. refl; frame = refl; step = refl; words_are = λ w l. refl }

pub schedule_keeps : (m : Flight) (s : Machine) (es : List Event) (t : Machine) → Flies m → Kept m s.at s.words → IsSchedule m s es t → Kept m t.at t.words
schedule_keeps m s [] t y k i = rw i k
schedule_keeps m s (e ∷ es) t y k i = schedule_keeps m (happened m s e) es t y (keeps m s.at s.words (happened m s e).at (happened m s e).words y k e i.0 (happens_so m s e)) i.1

pub each_state : (m : Flight) (es : List Event) (t : Machine) → Flies m → IsSchedule m (opening m) es t → Kept m t.at t.words
each_state m es t y i = schedule_keeps m (opening m) es t y (opens m y) i

module _ (halt : ℕ → Option ℕ) (restart : Option ℕ) where
  up_first : up_by halt restart 0 ≡ true
  unfolding up_by
  up_first = refl

  up_stays : (f : ℕ) → up_by halt restart f ≡ true → halt f ≡ None → up_by halt restart (suc f) ≡ true
  unfolding up_by
  up_stays f u e = rw (u, e) refl

  fallen : (f s : ℕ) → halt f ≡ Some s → is_frame restart (suc f) ≡ false → up_by halt restart (suc f) ≡ false
  unfolding up_by
  fallen f s e r = rw (e, r) (and_false (up_by halt restart f))
    where
      and_false : (b : Bool) → ((b && false) || false) ≡ false
      and_false true = refl
      and_false false = refl

  stays_down : (f : ℕ) → up_by halt restart f ≡ false → is_frame restart (suc f) ≡ false → up_by halt restart (suc f) ≡ false
  unfolding up_by
  stays_down f d r = rw (d, r) refl

  up_restart : (f : ℕ) → restart ≡ Some f → 0 < f → up_by halt restart f ≡ true
  unfolding up_by
  up_restart zero e l = absurd (omega arith)
  up_restart (suc f) e l = rw (e, same f) (or_true (up_by halt restart f && is_none (halt f)))
    where
      same : (f : ℕ) → nat_eq (suc f) (suc f) ≡ true
      same f = grind (arith, nat_tests)

      or_true : (b : Bool) → (b || true) ≡ true
      or_true true = refl
      or_true false = refl

not_frame : (o : Option ℕ) (h g f : ℕ) → h < f → f ≤ g → back_by o h g ≡ false → is_frame o f ≡ false
not_frame None h g f a b e = refl
not_frame (Some r) h g f a b e = grind (arith, nat_tests)

not_before : (o : Option ℕ) (h g f : ℕ) → f ≤ g → back_by o h g ≡ false → back_by o h f ≡ false
not_before None h g f b e = refl
not_before (Some r) h g f b e = grind (arith, nat_tests)

down_next : (halt : ℕ → Option ℕ) (restart : Option ℕ) (h s g : ℕ) → halt h ≡ Some s → h < suc g → back_by restart h (suc g) ≡ false → (h < g → up_by halt restart g ≡ false) → Dec (h < g) → up_by halt restart (suc g) ≡ false
down_next halt restart h s g e l b ih (yes d) = stays_down halt restart g (ih d) (not_frame restart h (suc g) (suc g) (omega arith) (omega arith) b)
down_next halt restart h s g e l b ih (no d) = let same : h ≡ g = omega arith in fallen halt restart g s (rw same at e) (not_frame restart h (suc g) (suc g) (omega arith) (omega arith) b)

down_by : (halt : ℕ → Option ℕ) (restart : Option ℕ) (h s g : ℕ) → halt h ≡ Some s → h < g → back_by restart h g ≡ false → up_by halt restart g ≡ false
down_by halt restart h s zero e l b = absurd (omega arith)
down_by halt restart h s (suc g) e l b = down_next halt restart h s g e l b (λ d. down_by halt restart h s g e d (not_before restart h (suc g) g (omega arith) b)) (dec_le (suc h) g)

latest_low : (halt : ℕ → Option ℕ) (f h : ℕ) → latest halt f ≡ Some h → h < f
latest_low halt zero h e = cc
latest_low halt (suc f) h e = latest_next halt f h (halt f) e (latest_low halt f h)
  where
    latest_next : (halt : ℕ → Option ℕ) (f h : ℕ) (o : Option ℕ) → (if is_some o then Some f else latest halt f) ≡ Some h → (latest halt f ≡ Some h → h < f) → h < suc f
    latest_next halt f h None e ih = let l : h < f = ih e in omega arith
    latest_next halt f h (Some s) e ih = let same : f ≡ h = cc in omega arith

-- Proof that `is_up_after` and the recursion over frames agree on whether a processor is up.
up_more : (restart l : Option ℕ) (f : ℕ) → ((h : ℕ) → l ≡ Some h → h < f) → is_up_after l restart (suc f) ≡ ((is_up_after l restart f && true) || is_frame restart (suc f))
up_more restart None f low = refl
up_more None (Some h) f low = refl
up_more (Some r) (Some h) f low = let l : h < f = low h refl in grind (arith, nat_tests)

up_fresh : (restart : Option ℕ) (f : ℕ) (b : Bool) → back_by restart f (suc f) ≡ ((b && false) || is_frame restart (suc f))
up_fresh None f true = refl
up_fresh None f false = refl
up_fresh (Some r) f true = grind (arith, nat_tests)
up_fresh (Some r) f false = grind (arith, nat_tests)

up_same_next : (halt : ℕ → Option ℕ) (restart : Option ℕ) (f : ℕ) (o : Option ℕ) → is_up_after (latest halt f) restart f ≡ up_by halt restart f
    → is_up_after (if is_some o then Some f else latest halt f) restart (suc f) ≡ ((up_by halt restart f && is_none o) || is_frame restart (suc f))
up_same_next halt restart f None ih = up_more restart (latest halt f) f (latest_low halt f) ∙ ap (λ (b : Bool). (b && true) || is_frame restart (suc f)) ih
up_same_next halt restart f (Some s) ih = up_fresh restart f (up_by halt restart f)

up_same : (halt : ℕ → Option ℕ) (restart : Option ℕ) (f : ℕ) → is_up_after (latest halt f) restart f ≡ up_by halt restart f
unfolding up_by
up_same halt restart zero = refl
up_same halt restart (suc f) = up_same_next halt restart f (halt f) (up_same halt restart f)

pub flies : (m : Flight) → IsUpBy m → Flies m
flies m u = let up : (p f : ℕ) → m.up p f ≡ up_by (m.halt p) (m.restart p) f = λ p f. u.up p f ∙ up_same (m.halt p) (m.restart p) f in record {
  first = λ p. up p 0 ∙ up_first (m.halt p) (m.restart p);
  stays = λ p f a e. up p (suc f) ∙ up_stays (m.halt p) (m.restart p) f (sym (up p f) ∙ a) e;
  gone = λ p h s g a e l b. up p g ∙ down_by (m.halt p) (m.restart p) h s g e l b;
  back = λ p h s r a e i l. up p r ∙ up_restart (m.halt p) (m.restart p) r i (omega arith);
  step = u.steps;
}
