-- The frames at which the applications of a configuration halt, prepare and initialise, and the lengths of these
-- phases.
use Rattle.std.specs.Prelude.{◌≡◌, ℕ, ◌+◌, ◌<◌, ◌≤◌, Bool, true, false, ◌==◌, List, length, nat_lt, slice_get, slice_index, if◌then◌else◌}
use Rattle.std.specs.Option.{option_map_or}
use Rattle.std.specs.List.{list_any}
use Rattle.scram_types.specs.Eights.{eight}
use Rattle.scram_types.specs.Lookups.{mode_of, is_on}
use Rattle.scram_types.specs.declared.ids.AppId.{AppId}
use Rattle.scram_types.specs.declared.ids.ConfId.{ConfId}
use Rattle.scram_types.specs.declared.specification.ModeSpec.{ModeSpec}
use Rattle.scram_types.specs.declared.specification.AppSpec.{AppSpec}
use Rattle.scram_types.specs.Specification.{Parts, IsSpec}
use Rattle.scram_types.specs.Searches.{greatest_below}
use Rattle.dep_order.specs.declared.timetables.Phase.{Phase}
use Rattle.dep_order.specs.declared.timetables.Phase.TheVariants as phase
use Rattle.dep_order.specs.declared.timetables.Times.{Times}
use Rattle.dep_order.specs.Chains.{Chart, HasFirst, IsOffset, offset, time_added}

-- The number of frames in which application `a` halts in a configuration, or 0 if it is off.
abbrev pub halt_time : Parts → ConfId → ℕ → ℕ
halt_time spec c a = option_map_or (λ (listed : ModeSpec). listed.halt) (mode_of spec c a) 0

-- The number of frames in which application `a` prepares for its mode in a configuration, or 0 if it is off.
abbrev pub prepare_time : Parts → ConfId → ℕ → ℕ
prepare_time spec c a = option_map_or (λ (listed : ModeSpec). listed.prepare) (mode_of spec c a) 0

-- The number of frames in which application `a` initialises in its mode in a configuration, or 0 if it is off.
abbrev pub init_time : Parts → ConfId → ℕ → ℕ
init_time spec c a = option_map_or (λ (listed : ModeSpec). listed.init) (mode_of spec c a) 0

-- Whether a list of needs names application `a`.
abbrev pub is_named : List AppId → ℕ → Bool
is_named needs a = list_any (λ (needed : AppId). needed.0 == a) needs

-- Whether application `b` lists `a` among its needs.
abbrev pub needs : Parts → ℕ → ℕ → Bool
needs spec b a = option_map_or (λ (app : AppSpec). is_named app.needs a) (slice_get spec.apps b) false

-- The chart of the halt phase of a configuration, in which dependents halt before the applications that they need.
abbrev pub halt_chart : Parts → ConfId → Chart
halt_chart spec c = record { apps = length spec.apps; on = is_on spec c; before = needs spec; time = halt_time spec c }

-- The chart of the init phase of a configuration, in which each application initialises after the applications that
-- it needs.
abbrev pub init_chart : Parts → ConfId → Chart
init_chart spec c = record { apps = length spec.apps; on = is_on spec c; before = λ b a. needs spec a b; time = init_time spec c }

-- The halt offset of application `a` in a configuration: the maximum sum of halt times along the chains of its
-- dependents that are on.
abbrev pub halt_offset : Parts → ConfId → ℕ → ℕ
halt_offset spec c a = offset (halt_chart spec c) a

-- The init offset of application `a` in a configuration: the maximum sum of init times along the chains of
-- applications that it needs and that are on.
abbrev pub init_offset : Parts → ConfId → ℕ → ℕ
init_offset spec c a = offset (init_chart spec c) a

-- The number `n` if application `a` is on in a configuration, else 0.
abbrev pub where_on : Parts → ConfId → ℕ → ℕ → ℕ
where_on spec c a n = if is_on spec c a then n else 0

-- The number of frames of the halt phase of a configuration, or 0 if no application is on.
abbrev pub halting_time : Parts → ConfId → ℕ
halting_time spec c = greatest_below (λ a. where_on spec c a (halt_offset spec c a + halt_time spec c a)) (length spec.apps)

-- The number of frames of the prepare phase of a configuration: the maximum prepare time of its applications, or 0 if
-- no application is on.
abbrev pub preparing_time : Parts → ConfId → ℕ
preparing_time spec c = greatest_below (prepare_time spec c) (length spec.apps)

-- The number of frames of the init phase of a configuration, up to the end of the last application's initialisation,
-- or 0 if no application is on.
abbrev pub initialising_time : Parts → ConfId → ℕ
initialising_time spec c = greatest_below (λ a. where_on spec c a (init_offset spec c a + init_time spec c a)) (length spec.apps)

-- The number of frames that application `a` takes for a phase in a configuration, or 0 if it is off.
abbrev pub phase_time : Parts → ConfId → Phase → ℕ → ℕ
phase_time spec c phase.Halt a = halt_time spec c a
phase_time spec c phase.Prepare a = prepare_time spec c a
phase_time spec c phase.Init a = init_time spec c a

-- Whether application `b` goes before application `a` in a phase. In the prepare phase no application goes before
-- another.
abbrev pub goes_before : Parts → Phase → ℕ → ℕ → Bool
goes_before spec phase.Halt b a = needs spec b a
goes_before spec phase.Prepare b a = false
goes_before spec phase.Init b a = needs spec a b

-- The chart of a phase, given the time of each application. An application is on if its time is above 0.
abbrev pub timed_chart : Parts → Phase → List ℕ → Chart
timed_chart spec phase times = record {
  apps = length spec.apps;
  on = λ b. nat_lt 0 (slice_index times b);
  before = goes_before spec phase;
  time = slice_index times;
}

-- The number of frames of a phase, given the times and offsets of the first `n` applications. The value is the
-- maximum sum of offset and time of an application whose time is above 0.
abbrev pub phase_length : List ℕ → List ℕ → ℕ → ℕ
phase_length times offsets n =
    greatest_below (λ a. if nat_lt 0 (slice_index times a) then slice_index offsets a + slice_index times a else 0) n

-- The offset of application `a` if its time is above 0, else 0.
abbrev pub offset_where_on : List ℕ → List ℕ → ℕ → ℕ
offset_where_on times offsets a = if nat_lt 0 (slice_index times a) then slice_index offsets a else 0

-- The number of frames after which all applications that go before application `a` have ended a phase, given the times
-- and offsets of the applications.
abbrev pub offset_from : Parts → Phase → List ℕ → List ℕ → ℕ → ℕ
offset_from spec phase times offsets a = greatest_below (time_added (timed_chart spec phase times) (slice_index offsets) a) (length spec.apps)

-- A list holds a function's values for all arguments below `n`.
abbrev pub IsTableOf : (ℕ → ℕ) → ℕ → List ℕ → Type 0
IsTableOf value n xs = (a : ℕ) → a < n → slice_index xs a ≡ value a

-- The first `n` numbers of a list are at most `most`.
abbrev pub AtMost : ℕ → ℕ → List ℕ → Type 0
AtMost most n xs = (a : ℕ) → a < n → slice_index xs a ≤ most

-- The timetable of a configuration: the halt and init offset of each application, and the length of each phase.
abbrev pub timetable : Parts → ConfId → Times
timetable spec c = record {
  halt = eight (λ a. where_on spec c a (halt_offset spec c a));
  init = eight (λ a. where_on spec c a (init_offset spec c a));
  h = halting_time spec c;
  p = preparing_time spec c;
  i = initialising_time spec c;
}

-- The halt and init offsets of a configuration are maximum sums of times along chains.
pub record OffsetsAreSums (spec : Parts) (c : ConfId) : Type 0 where
  pub halt : IsOffset (halt_chart spec c)
  pub init : IsOffset (init_chart spec c)

-- Each phase of an application that is on ends within the same phase of the configuration and takes at least one
-- frame. If an application is on, some application has halt offset 0 and some application has init offset 0. The halt
-- phase and the init phase take at most 128 frames, and the prepare phase takes at most 16.
pub record IsInTime (spec : Parts) (c : ConfId) : Type 0 where
  pub halts : (a : ℕ) → is_on spec c a ≡ true → halt_offset spec c a + halt_time spec c a ≤ halting_time spec c
  pub prepares : (a : ℕ) → is_on spec c a ≡ true → prepare_time spec c a ≤ preparing_time spec c
  pub initialises : (a : ℕ) → is_on spec c a ≡ true → init_offset spec c a + init_time spec c a ≤ initialising_time spec c
  pub halt_least : (a : ℕ) → is_on spec c a ≡ true → 1 ≤ halt_time spec c a
  pub prepare_least : (a : ℕ) → is_on spec c a ≡ true → 1 ≤ prepare_time spec c a
  pub init_least : (a : ℕ) → is_on spec c a ≡ true → 1 ≤ init_time spec c a
  pub halt_first : HasFirst (halt_chart spec c)
  pub init_first : HasFirst (init_chart spec c)
  pub halt_most : halting_time spec c ≤ 128
  pub prepare_most : preparing_time spec c ≤ 16
  pub init_most : initialising_time spec c ≤ 128

-- In each configuration of every specification, halt and init offsets are maximum sums of times along chains.
abbrev pub OffsetsAreGreatestSums : Type 0
OffsetsAreGreatestSums = (spec : Parts) → IsSpec spec → (c : ConfId) → OffsetsAreSums spec c

-- In every specification, each configuration satisfies `IsInTime`.
abbrev pub PhasesEndInTime : Type 0
PhasesEndInTime = (spec : Parts) → IsSpec spec → (c : ConfId) → IsInTime spec c
