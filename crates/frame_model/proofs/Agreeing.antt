-- The effect of a frame depends only on whether the processors that exist commit.
use Rattle.std.proofs.Common.{◌≡◌, ◌∙◌, ℕ, ◌<◌, refl, ap, length, Bool, List}
use Rattle.std.specs.Prelude.{ℤ, Option, Some, None, IfSome, option_and_then, slice_get}
use Rattle.scram_types.specs.declared.ids.ConfId.{ConfId}
use Rattle.scram_types.specs.declared.ids.ProcId.{ProcId}
use Rattle.scram_types.specs.declared.rows.Env.{Env}
use Rattle.scram_types.specs.declared.rows.Row.{Row}
use Rattle.scram_types.specs.declared.orders.Act.{Act}
use Rattle.scram_types.specs.declared.orders.KMode.{KMode}
use Rattle.scram_types.specs.declared.orders.Order.{Order}
use Rattle.scram_types.specs.declared.orders.Order.TheVariants.{Run}
use Rattle.scram_types.specs.declared.specification.Conf.{Conf}
use Rattle.scram_types.specs.declared.specification.Place.{Place}
use Rattle.scram_types.specs.Specification.{IsSpec, Parts, place_in}
use Rattle.scram_types.specs.Lookups.{place_of}
use Rattle.scram_types.proofs.Eights.{eight_same}
use Rattle.dep_order.specs.Timetables.{halt_offset, halt_time, init_offset, init_time, prepare_time}
use Rattle.frame_model.specs.declared.phases.Phase.{Phase}
use Rattle.frame_model.specs.declared.phases.Phase.TheVariants.{Running, Halting, Preparing, Initialising}
use Rattle.frame_model.specs.declared.tasks.Task.{Task}
use Rattle.frame_model.specs.Phases.{phase_at}
use Rattle.frame_model.specs.States.{State, has_arrived, act_after, act_on, acts_in, area_after, area_at, area_on, areas_in, keeper_after, keeper_at, keeper_on, keepers_in, law_of, row_of, step, step_with, world_in, mode_decided}
use Rattle.frame_model.specs.Tasks.{halting_order, initialising_order, preparing_order, task_for, task_in}

-- The optional processor is `None` or exists in the specification.
unfoldable pub Exists : Parts → Option ProcId → Type 0
Exists spec proc = IfSome proc (λ p. p.0 < length spec.procs)

placed_in : (spec : Parts) → IsSpec spec → (c a : ℕ) (found : Option Conf) → slice_get spec.confs c ≡ found → (place : Option Place)
    → option_and_then (λ (conf : Conf). place_in conf a) found ≡ place → IfSome place (λ p. p.proc.0 < length spec.procs)
placed_in spec facts c a found there None is = tt
placed_in spec facts c a None there (Some place) is = cc
placed_in spec facts c a (Some conf) there (Some place) is = ((facts.confs c conf there).places a place is).on

pub place_exists : (spec : Parts) → IsSpec spec → (c : ConfId) (a : ℕ) → IfSome (place_of spec c a) (λ p. p.proc.0 < length spec.procs)
place_exists spec facts c a = placed_in spec facts c.0 a (slice_get spec.confs c.0) refl (place_of spec c a) refl

for_exists : (spec : Parts) (order : Order) (place : Option Place) → IfSome place (λ p. p.proc.0 < length spec.procs) → Exists spec (task_for order place).proc
unfolding Exists
for_exists spec order None there = tt
for_exists spec order (Some place) there = there

pub task_exists : (spec : Parts) → IsSpec spec → (phase : Phase) (a : ℕ) → Exists spec (task_in spec phase a).proc
task_exists spec facts (Running c) a = for_exists spec Run (place_of spec c a) (place_exists spec facts c a)
task_exists spec facts (Halting c age) a = for_exists spec (halting_order (halt_offset spec c a) (halt_time spec c a) age) (place_of spec c a) (place_exists spec facts c a)
task_exists spec facts (Preparing c age) a = for_exists spec (preparing_order (prepare_time spec c a) age) (place_of spec c a) (place_exists spec facts c a)
task_exists spec facts (Initialising c age) a = for_exists spec (initialising_order (init_offset spec c a) (init_time spec c a) age) (place_of spec c a) (place_exists spec facts c a)

-- Two tests of whether a processor commits agree on the processors that exist.
unfoldable pub Agree : Parts → (ℕ → Bool) → (ℕ → Bool) → Type 0
Agree spec s t = (p : ℕ) → p < length spec.procs → s p ≡ t p

pub agreeing : (spec : Parts) (s t : ℕ → Bool) → ((p : ℕ) → p < length spec.procs → s p ≡ t p) → Agree spec s t
unfolding Agree
agreeing spec s t is = is

act_same : (spec : Parts) (s t : ℕ → Bool) (task : Task) → Agree spec s t → (proc : Option ProcId) → Exists spec proc → act_on s task proc ≡ act_on t task proc
unfolding Agree Exists
act_same spec s t task agree None there = refl
act_same spec s t task agree (Some proc) there = rw (agree proc.0 there) refl

area_same : (spec : Parts) (s t : ℕ → Bool) (made old : List ℤ) → Agree spec s t → (proc : Option ProcId) → Exists spec proc → area_on s made old proc ≡ area_on t made old proc
unfolding Agree Exists
area_same spec s t made old agree None there = refl
area_same spec s t made old agree (Some proc) there = rw (agree proc.0 there) refl

keeper_same : (spec : Parts) (s t : ℕ → Bool) (old : Option ProcId) → Agree spec s t → (proc : Option ProcId) → Exists spec proc → keeper_on s old proc ≡ keeper_on t old proc
unfolding Agree Exists
keeper_same spec s t old agree None there = refl
keeper_same spec s t old agree (Some proc) there = rw (agree proc.0 there) refl

pub acts_same : (spec : Parts) → IsSpec spec → (s t : ℕ → Bool) (phase : Phase) → Agree spec s t → acts_in spec phase s ≡ acts_in spec phase t
acts_same spec facts s t phase agree = eight_same (λ a. act_after s (task_in spec phase a)) (λ a. act_after t (task_in spec phase a))
    (λ a low. act_same spec s t (task_in spec phase a) agree (task_in spec phase a).proc (task_exists spec facts phase a))

areas_same : (spec : Parts) → IsSpec spec → (v : Env) (s t : ℕ → Bool) (state : State) (phase : Phase) → Agree spec s t → areas_in spec v s state phase ≡ areas_in spec v t state phase
areas_same spec facts v s t state phase agree = eight_same (λ a. area_after spec v s state (task_in spec phase a) a) (λ a. area_after spec v t state (task_in spec phase a) a)
    (λ a low. area_same spec s t (law_of spec v state (task_in spec phase a) a) (area_at state.areas a) agree (task_in spec phase a).proc (task_exists spec facts phase a))

pub keepers_same : (spec : Parts) → IsSpec spec → (s t : ℕ → Bool) (state : State) (phase : Phase) → Agree spec s t → keepers_in spec s state phase ≡ keepers_in spec t state phase
keepers_same spec facts s t state phase agree = eight_same (λ a. keeper_after s state (task_in spec phase a) a) (λ a. keeper_after t state (task_in spec phase a) a)
    (λ a low. keeper_same spec s t (keeper_at state.keepers a) agree (task_in spec phase a).proc (task_exists spec facts phase a))

abbrev row_with : Parts → ℕ → Env → State → KMode → List Act → List (List ℤ) → Row
row_with spec f v state mode acts areas = record { frame = f; env = v; mode = mode; acts = acts; areas = areas; world = world_in spec state.world areas }

pub row_same : (spec : Parts) → IsSpec spec → (f : ℕ) (v : Env) (s t : ℕ → Bool) (state : State) → Agree spec s t → row_of spec f v s state ≡ row_of spec f v t state
row_same spec facts f v s t state agree =
    ap (λ acts. row_with spec f v state (mode_decided spec f v state) acts (areas_in spec v s state (phase_at spec (mode_decided spec f v state) f)))
    (acts_same spec facts s t (phase_at spec (mode_decided spec f v state) f) agree)
    ∙ ap (λ areas. row_with spec f v state (mode_decided spec f v state) (acts_in spec (phase_at spec (mode_decided spec f v state) f) t) areas)
    (areas_same spec facts v s t state (phase_at spec (mode_decided spec f v state) f) agree)

abbrev state_with : Parts → Row → List (Option ProcId) → State
state_with spec row keepers = record { mode = row.mode; arrived = has_arrived spec row; areas = row.areas; keepers = keepers; world = row.world }

pub step_same : (spec : Parts) → IsSpec spec → (f : ℕ) (v : Env) (s t : ℕ → Bool) (state : State) → Agree spec s t → step spec f v s state ≡ step spec f v t state
step_same spec facts f v s t state agree =
    ap (λ row. step_with spec s state row) (row_same spec facts f v s t state agree)
    ∙ ap (state_with spec (row_of spec f v t state)) (keepers_same spec facts s t state (phase_at spec (mode_decided spec f v state) f) agree)
