-- The values in the rows of a flight are within the ranges of the specification, the kinds and the aircraft.
use Rattle.std.proofs.Common.{◌≡◌, ◌∙◌, ℕ, zero, suc, ◌<◌, ◌≤◌, ◌-◌, Bool, true, false, cond, List, [], ◌∷◌, length, arith, refl, sym, subst}
use Rattle.std.specs.Prelude.{◌&&◌, ℤ, pos, negsuc, ◌≤ℤ◌, int_le, Option, Some, None, replicate, slice_get, slice_index, slice_index_or}
use Rattle.std.proofs.lemmas.Int.{ints}
use Rattle.std.proofs.lemmas.Option.{slice_get_within}
use Rattle.scram_types.specs.declared.rows.Env.{Env}
use Rattle.scram_types.specs.declared.rows.Row.{Row}
use Rattle.scram_types.specs.declared.rows.World.{World}
use Rattle.scram_types.specs.declared.ids.ProcId.{ProcId}
use Rattle.scram_types.specs.declared.limits.TheConstants.{MAX_FRAMES}
use Rattle.scram_types.specs.declared.orders.Act as act_kinds
use Rattle.scram_types.specs.declared.orders.Act.TheVariants as act_names
use Rattle.scram_types.specs.declared.orders.Order.{Order}
use Rattle.scram_types.specs.declared.orders.Order.TheVariants as order
use Rattle.scram_types.specs.Eights.{eight}
use Rattle.scram_types.specs.Lookups.{kind_of_app, place_of}
use Rattle.scram_types.specs.Numbers.{minus, word}
use Rattle.scram_types.specs.Scripts.{ScriptParts}
use Rattle.scram_types.specs.Searches.{all_below}
use Rattle.scram_types.specs.Specification.{Each, IsSpec, Parts}
use Rattle.scram_types.specs.declared.specification.Place.{Place}
use Rattle.scram_types.proofs.Booleans.{and_left, and_right}
use Rattle.scram_types.proofs.Eights.{eight_at}
use Rattle.scram_types.proofs.Integers.{int_of}
use Rattle.scram_types.proofs.Options.{same_some}
use Rattle.scram_types.proofs.Searches.{all_each, get_listed, length_listed}
use Rattle.app_model.specs.declared.seen.Seen.{Seen}
use Rattle.app_model.specs.Areas.{AreaLies, Between, status_of}
use Rattle.kind_table.specs.Bounds.{after_init, during, sane}
use Rattle.kind_table.specs.Kinds.{kind_variable}
use Rattle.app_model.specs.Law.{law}
use Rattle.kind_table.specs.Ranges.{mode_range, sane_range, widest_mode}
use Rattle.app_model.specs.Starts.{start_of}
use Rattle.app_model.proofs.AreaLaws.{law_lies_during, start_lies_after_init}
use Rattle.app_model.proofs.Lengths.{law_eight}
use Rattle.app_model.proofs.Tables.{tables_narrow}
use Rattle.kind_table.proofs.EachKind.{each_kind}
use Rattle.airframe.specs.Motion.{IsFlyable}
use Rattle.airframe.proofs.Flyable.{flyable}
use Rattle.fault_script.specs.Environments.{env_at}
use Rattle.fault_script.specs.Fits.{Fits}
use Rattle.fault_script.specs.Times.{commits, factor_at, factors_at}
use Rattle.fault_script.proofs.Showing.{environments_show}
use Rattle.coverage_check.proofs.Keeping.{value_in}
use Rattle.frame_model.specs.declared.phases.Phase.{Phase}
use Rattle.frame_model.specs.declared.tasks.Task.{Task}
use Rattle.frame_model.specs.Flights.{row_at, rows_of, state_after}
use Rattle.frame_model.specs.Phases.{is_settled, phase_at}
use Rattle.frame_model.specs.States.{State, act_after, area_after, area_at, area_on, areas_in, law_of, mode_decided, row_of, seen_by, start_area_at, start_area_of, start_state, zeros}
use Rattle.frame_model.specs.Tasks.{task_in}
use Rattle.trace_props.proofs.Ranging.{kind_known}
use Rattle.trace_text.specs.Flights.{IsAreaShown, IsEnvShown, IsModeShown, IsRowShown, IsShown, IsWorldShown}
use Rattle.scram_cli.proofs.ShownModes.{IsTold, Nothing, Told, act_idle, act_shown, decision_shown, task_told}

-- Lemmas that numbers from -1,000,000 to 1,000,000 can be in a trace.

shown_between : (z : ℤ) → minus 1000000 ≤ℤ z → z ≤ℤ pos 1000000 → IsShown z
shown_between (pos n) low high = omega (arith, ints, high)
shown_between (negsuc n) low high = omega (arith, ints, low)

wider : (low high least most x : ℤ) → low ≤ℤ least → most ≤ℤ high → least ≤ℤ x → x ≤ℤ most → (low ≤ℤ x) × (x ≤ℤ high)
wider low high least most x a b c d = (omega (arith, ints), omega (arith, ints))

-- Lemmas that the areas of applications can be in a trace.

-- Whether the range of word `i` of a kind is within -1,000,000 to 1,000,000.
abbrev is_small : ℕ → ℕ → Bool
is_small kind i = int_le (minus 1000000) (sane kind i).0 && int_le (sane kind i).1 (pos 1000000)

small_ranges : (kind : ℕ) → kind < 6 → all_below (is_small kind) 8 ≡ true
unfolding sane sane_range mode_range kind_variable widest_mode
small_ranges = each_kind (λ kind. all_below (is_small kind) 8 ≡ true) refl refl refl refl refl refl

small_range : (kind i : ℕ) → kind < 6 → i < 8 → (minus 1000000 ≤ℤ (sane kind i).0) × ((sane kind i).1 ≤ℤ pos 1000000)
small_range kind i k below =
    let e = all_each (is_small kind) 8 i (small_ranges kind k) below in
    (int_of (minus 1000000) (sane kind i).0 (and_left _ _ e), int_of (sane kind i).1 (pos 1000000) (and_right _ _ e))

during_shown : (kind status mode i : ℕ) (x : ℤ) → kind < 6 → status ≤ 4 → i < 8 → Between (during kind status mode i) x → IsShown x
during_shown kind status mode i x k s below lies =
    let inside = (tables_narrow kind mode i k below).sane status s in
    let small = small_range kind i k below in
    let one = wider (sane kind i).0 (sane kind i).1 (during kind status mode i).0 (during kind status mode i).1 x inside.least inside.greatest lies.least lies.greatest in
    let two = wider (minus 1000000) (pos 1000000) (sane kind i).0 (sane kind i).1 x small.0 small.1 one.0 one.1 in
    shown_between x two.0 two.1

word_at : (area : List ℤ) (i : ℕ) (x : ℤ) → slice_get area i ≡ Some x → word area i ≡ x
unfolding word
word_at [] i x h = absurd (let e = h in cc)
word_at (z ∷ area) zero x h = let e : z ≡ x = cc in e
word_at (z ∷ area) (suc i) x h = word_at area i x h

each_word : (area : List ℤ) → length area ≡ 8 → ((i : ℕ) → i < 8 → IsShown (word area i)) → Each IsShown area
each_word area width h i x there =
    let below = slice_get_within area i x there in
    subst IsShown (word_at area i x there) (h i (omega (arith, below, width)))

zeros_shown : IsAreaShown zeros
zeros_shown = record { width = refl; words = λ i x there. zero_shown 8 i x there }
  where
    zero_shown : (n : ℕ) → Each IsShown (replicate n (pos 0))
    zero_shown zero i x there = absurd (let e = there in cc)
    zero_shown (suc n) zero x there = let e : pos 0 ≡ x = cc in rw (← e) (omega arith)
    zero_shown (suc n) (suc i) x there = zero_shown n i x there

told_area : (kind status : ℕ) (o : Order) (seen : Seen) → kind < 6 → status ≤ 4 → status_of o ≡ Some status → IsAreaShown seen.own → IsAreaShown (law kind o seen)
told_area kind status o seen k s is own = record {
  width = law_eight kind o seen own.width;
  words = each_word (law kind o seen) (law_eight kind o seen own.width)
      (λ i below. during_shown kind status seen.mode.0 i (word (law kind o seen) i) k s below (law_lies_during kind status o seen k is i below));
}

law_shown : (kind : ℕ) (o : Order) (seen : Seen) → kind < 6 → IsAreaShown seen.own → IsAreaShown (law kind o seen)
law_shown kind order.Run seen k own = told_area kind 1 order.Run seen k (omega arith) refl own
law_shown kind (order.Halt j n) seen k own = told_area kind 2 (order.Halt j n) seen k (omega arith) refl own
law_shown kind order.Hold seen k own = own
law_shown kind (order.Prepare j n) seen k own = told_area kind 3 (order.Prepare j n) seen k (omega arith) refl own
law_shown kind (order.Init j n) seen k own = told_area kind 4 (order.Init j n) seen k (omega arith) refl own
law_shown kind order.Off seen k own = zeros_shown

area_by : (t : Bool) (one other : List ℤ) → IsAreaShown one → IsAreaShown other → IsAreaShown (cond t one other)
area_by true one other h k = h
area_by false one other h k = k

area_told : (made old : List ℤ) (commits : ℕ → Bool) (proc : Option ProcId) → IsAreaShown made → IsAreaShown old → IsAreaShown (area_on commits made old proc)
area_told made old commits None h k = zeros_shown
area_told made old commits (Some proc) h k = area_by (commits proc.0) made old h k

-- The mode and the areas of the state can be in a trace.
pub record IsStateShown (spec : Parts) (state : State) : Type 0 where
  pub mode : IsModeShown spec state.mode
  pub areas : (a : ℕ) → a < 8 → IsAreaShown (area_at state.areas a)

area_shown : (spec : Parts) → IsSpec spec → (v : Env) (commits : ℕ → Bool) (state : State) (told : Task) (a : ℕ) → a < 8 → IsStateShown spec state → IsAreaShown (area_after spec v commits state told a)
area_shown spec sound v commits state told a low shown =
    area_told (law_of spec v state told a) (area_at state.areas a) commits told.proc
    (law_shown (kind_of_app spec a) told.order (seen_by spec v state told.mode a) (kind_known spec sound a) (shown.areas a low)) (shown.areas a low)

area_past : (spec : Parts) (v : Env) (commits : ℕ → Bool) (state : State) (told : Task) (a : ℕ) → length spec.apps ≤ a → IsTold spec a told → area_after spec v commits state told a ≡ zeros
area_past spec v commits state told a past (Nothing is) = rw is refl
area_past spec v commits state told a past (Told o place is shown at) = absurd (let low = slice_get_within spec.apps a at.app at.there in omega (arith, low, past))

-- A lemma that the altitude, climb, heading and bank of the world can be in a trace.

world_shown : (world : World) → IsFlyable world → IsWorldShown world
world_shown world flies =
    let a = flies.lowest in let b = flies.highest in
    let c = flies.steepest_down in let d = flies.steepest_up in
    let e = flies.first in let f = flies.last in
    let g = flies.left in let h = flies.right in
    let alt = wider (minus 1000000) (pos 1000000) (pos 0) (pos 40000) world.alt (omega (arith, ints)) (omega (arith, ints)) a b in
    let climb = wider (minus 1000000) (pos 1000000) (minus 300) (pos 300) world.climb (omega (arith, ints)) (omega (arith, ints)) c d in
    let heading = wider (minus 1000000) (pos 1000000) (pos 0) (pos 3599) world.heading (omega (arith, ints)) (omega (arith, ints)) e f in
    let bank = wider (minus 1000000) (pos 1000000) (minus 300) (pos 300) world.bank (omega (arith, ints)) (omega (arith, ints)) g h in
    record {
      alt = shown_between world.alt alt.0 alt.1;
      climb = shown_between world.climb climb.0 climb.1;
      heading = shown_between world.heading heading.0 heading.1;
      bank = shown_between world.bank bank.0 bank.1;
    }

-- Lemmas that the environment of a frame can be in a trace.

rest_by : (script : ScriptParts) (f : ℕ) (few : ℕ) → ((x : ℕ) → few ≤ x → factor_at script x f ≡ 0) → (x : ℕ) → few ≤ x → slice_index (factors_at script f) x ≡ 0
rest_by script f few h zero past = h 0 past
rest_by script f few h (suc zero) past = h 1 past
rest_by script f few h (suc (suc zero)) past = h 2 past
rest_by script f few h (suc (suc (suc zero))) past = h 3 past
rest_by script f few h (suc (suc (suc (suc zero)))) past = h 4 past
rest_by script f few h (suc (suc (suc (suc (suc zero))))) past = h 5 past
rest_by script f few h (suc (suc (suc (suc (suc (suc x)))))) past = refl

env_shown : (spec : Parts) (script : ScriptParts) (f : ℕ) → IsSpec spec → Fits spec script → IsEnvShown spec (env_at spec script f)
env_shown spec script f sound fits =
    let shows = environments_show spec script sound fits f in
    let few = sound.factors_count in
    record {
      up = shows.past;
      width = refl;
      values = λ x factor there.
          let low = slice_get_within spec.factors x factor there in
          rw (value_in script f x (omega (arith, low, few))) (shows.values x factor there);
      rest = rest_by script f (length spec.factors) shows.rest;
    }

-- Lemmas that the states of a flight can be in a trace.

start_by : (spec : Parts) (a : ℕ) → IsSpec spec → (place : Option Place) → IsAreaShown (start_area_at spec a place)
start_by spec a sound None = zeros_shown
start_by spec a sound (Some place) = start_shown (kind_of_app spec a) (kind_known spec sound a)
  where
    start_lies : (kind : ℕ) → kind < 6 → AreaLies (after_init kind 1) (start_of kind)
    start_lies kind k = start_lies_after_init kind 1 k

    narrow : (kind i : ℕ) (x : ℤ) → kind < 6 → i < 8 → Between (after_init kind 1 i) x → IsShown x
    narrow kind i x k below lies =
        let inside = (tables_narrow kind 1 i k below).init in
        let one = wider (during kind 4 1 i).0 (during kind 4 1 i).1 (after_init kind 1 i).0 (after_init kind 1 i).1 x inside.least inside.greatest lies.least lies.greatest in
        during_shown kind 4 1 i x k (omega arith) below (record { least = one.0; greatest = one.1 })

    start_shown : (kind : ℕ) → kind < 6 → IsAreaShown (start_of kind)
    start_shown kind k = record { width = refl; words = each_word (start_of kind) refl (λ i below. narrow kind i (word (start_of kind) i) k below (start_lies kind k i below)) }

starts_shown : (spec : Parts) → IsSpec spec → IsStateShown spec (start_state spec)
starts_shown spec sound = record {
  mode = sound.start;
  areas = λ a low. subst IsAreaShown (sym (eight_at (start_area_of spec) a zeros low)) (start_by spec a sound (place_of spec spec.start a));
}

mode_shown : (spec : Parts) → IsSpec spec → (f : ℕ) (v : Env) (state : State) → f < MAX_FRAMES → IsStateShown spec state → IsModeShown spec (mode_decided spec f v state)
mode_shown spec sound f v state low shown = decision_shown spec f state.mode (is_settled spec state.mode (f - 1)) state.arrived v sound shown.mode low

areas_shown : (spec : Parts) → IsSpec spec → (v : Env) (commits : ℕ → Bool) (state : State) (phase : Phase) → IsStateShown spec state → (a : ℕ) (d : List ℤ) → a < 8 →
    IsAreaShown (slice_index_or (areas_in spec v commits state phase) a d)
areas_shown spec sound v commits state phase shown a d low =
    subst IsAreaShown (sym (eight_at (λ (b : ℕ). area_after spec v commits state (task_in spec phase b) b) a d low)) (area_shown spec sound v commits state (task_in spec phase a) a low shown)

state_shown : (spec : Parts) (script : ScriptParts) → IsSpec spec → (f : ℕ) → f ≤ MAX_FRAMES → IsStateShown spec (state_after spec script f)
state_shown spec script sound zero few = starts_shown spec sound
state_shown spec script sound (suc f) few =
    let before = state_shown spec script sound f (omega (arith, few)) in
    let v = env_at spec script f in
    let state = state_after spec script f in
    record {
      mode = mode_shown spec sound f v state (omega (arith, few)) before;
      areas = λ a low. areas_shown spec sound v (λ p. commits spec script p f) state (phase_at spec (mode_decided spec f v state) f) before a zeros low;
    }

-- Lemmas that the rows of a flight can be in a trace.

idle_at : (value : ℕ → act_kinds.Act) (few : ℕ) → ((a : ℕ) → few ≤ a → value a ≡ act_names.Off) → (a : ℕ) → few ≤ a → slice_index_or (eight value) a act_names.Off ≡ act_names.Off
idle_at value few h zero past = h 0 past
idle_at value few h (suc zero) past = h 1 past
idle_at value few h (suc (suc zero)) past = h 2 past
idle_at value few h (suc (suc (suc zero))) past = h 3 past
idle_at value few h (suc (suc (suc (suc zero)))) past = h 4 past
idle_at value few h (suc (suc (suc (suc (suc zero))))) past = h 5 past
idle_at value few h (suc (suc (suc (suc (suc (suc zero)))))) past = h 6 past
idle_at value few h (suc (suc (suc (suc (suc (suc (suc zero))))))) past = h 7 past
idle_at value few h (suc (suc (suc (suc (suc (suc (suc (suc a)))))))) past = refl

row_shown : (spec : Parts) (f : ℕ) (v : Env) (commits : ℕ → Bool) (state : State) → IsSpec spec → f < MAX_FRAMES → IsStateShown spec state → IsEnvShown spec v → IsRowShown spec f (row_of spec f v commits state)
row_shown spec f v commits state sound low shown env =
    let few = sound.apps_count.few in
    let phase = phase_at spec (mode_decided spec f v state) f in
    record {
      frame = refl;
      mode = mode_shown spec sound f v state low shown;
      env = env;
      world = world_shown (row_of spec f v commits state).world (flyable _);
      acts_width = refl;
      areas_width = refl;
      acts = λ a app there.
          let below = slice_get_within spec.apps a app there in
          rw (eight_at (λ (b : ℕ). act_after commits (task_in spec phase b)) a act_names.Off (omega (arith, below, few))) (act_shown spec a app commits (task_in spec phase a) there (task_told spec sound phase a));
      areas = λ a below. areas_shown spec sound v commits state phase shown a [] (omega (arith, below, few));
      idle = idle_at (λ (b : ℕ). act_after commits (task_in spec phase b)) (length spec.apps) (λ a past. act_idle spec a commits (task_in spec phase a) past (task_told spec sound phase a));
      empty = λ a past below. eight_at (λ (b : ℕ). area_after spec v commits state (task_in spec phase b) b) a [] below ∙ area_past spec v commits state (task_in spec phase a) a past (task_told spec sound phase a);
    }

row_at_shown : (spec : Parts) (script : ScriptParts) (f : ℕ) → IsSpec spec → Fits spec script → f < MAX_FRAMES → IsRowShown spec f (row_at spec script f)
row_at_shown spec script f sound fits low =
    row_shown spec f (env_at spec script f) (λ p. commits spec script p f) (state_after spec script f) sound low (state_shown spec script sound f (omega (arith, low))) (env_shown spec script f sound fits)

pub rows_shown : (spec : Parts) (script : ScriptParts) → IsSpec spec → Fits spec script → (f : ℕ) (row : Row) → slice_get (rows_of spec script) f ≡ Some row → IsRowShown spec f row
rows_shown spec script sound fits f row there =
    let few = fits.frames in
    let count = length_listed (row_at spec script) script.frames in
    let low = slice_get_within (rows_of spec script) f row there in
    let below : f < script.frames = omega (arith, count, low) in
    let same : row_at spec script f ≡ row = same_some (row_at spec script f) row (sym (get_listed (row_at spec script) script.frames f below) ∙ there) in
    subst (IsRowShown spec f) same (row_at_shown spec script f sound fits (omega (arith, below, few)))
