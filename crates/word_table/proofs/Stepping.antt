-- Lemmas on a seat whose next step is a given event.
use Rattle.std.proofs.Common.{◌≡◌, ◌∙◌, ℕ, zero, suc, ◌+◌, ◌<◌, Bool, true, false, refl, List, [], ◌∷◌}
use Rattle.std.specs.Prelude.{Some}
use Rattle.scram_types.specs.Lookups.{proc_id}
use Rattle.bank_words.specs.declared.events.Event.{Event}
use Rattle.bank_words.specs.declared.events.Event.TheVariants.{Flip, Store}
use Rattle.fail_stop.specs.Events.{frame_of, halts_at, plan}
use Rattle.fail_stop.specs.Flights.{Flight}
use Rattle.fail_stop.proofs.Plans.{plan_flip, plan_store}
use Rattle.word_table.specs.declared.actors.Actor.{Actor}
use Rattle.word_table.specs.declared.actors.Actor.TheVariants.{Runs}
use Rattle.word_table.specs.Actors.{actor_at, place_at, step_at}
use Rattle.word_table.specs.Reading.{IsReader}

-- The seat has begun its frame, and `e` is the next event of the frame's plan.
pub record IsStep (m : Flight) (p f n : ℕ) (h : Bool) (e : Event) : Type 0 where
  pub runs : h ≡ false
  pub before : ℕ
  pub steps : n ≡ suc before
  pub next : plan m p f (suc before) ≡ Some e

pub step_is : (m : Flight) (p f n : ℕ) (h : Bool) (e : Event) → step_at m p (place_at f n h) ≡ Some e → IsStep m p f n h e
step_is m p f n true e is = cc
step_is m p f zero false e is = cc
step_is m p f (suc n) false e is = record { runs = refl; before = n; steps = refl; next = is }

module _ (m : Flight) (p f n : ℕ) (h : Bool) (e : Event) (s : IsStep m p f n h e) (actors : List Actor) (alone : actors ≡ actor_at p (place_at f n h) ∷ []) where
  pub runs_there : actors ≡ Runs p f (suc s.before) ∷ []
  runs_there = alone ∙ rw (s.runs, s.steps) refl

  pub reader : p < m.procs → IsReader m actors f
  reader low = record { proc = p; before = s.before; low = low; alone = runs_there }

pub frame_at : (f n : ℕ) (h : Bool) → frame_of (place_at f n h) ≡ f
frame_at f n true = refl
frame_at f n false = refl

module _ (m : Flight) (p f n : ℕ) where
  pub store_low : (i : ℕ) → plan m p f n ≡ Some (Store (proc_id p) i) → (n ≡ m.procs + 1 + i) × (i < m.width)
  store_low i is = let low = plan_store m p n i (halts_at m n (m.halt p f)) is in (low.1, low.2)

  pub flip_low : plan m p f n ≡ Some (Flip (proc_id p)) → n ≡ m.procs + 1 + m.width
  flip_low is = (plan_flip m p n (halts_at m n (m.halt p f)) is).1
