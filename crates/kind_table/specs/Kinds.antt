-- The table of kinds: the names of each kind, its modes and the words of its area, and the ranges of the words.
use Rattle.std.specs.Prelude.{ℕ, ℤ, pos, Bool, true, false, List, [], ◌∷◌, Option, Some, None, codes, map, option_map, slice_get, slice_index_or, ◌==◌, if◌then◌else◌}
use Rattle.scram_types.specs.declared.ranges.Range.{Range}
use Rattle.scram_types.specs.Ranges.{limit}
use Rattle.kind_table.specs.declared.table.Kind.{Kind as TableKind}
use Rattle.kind_table.specs.declared.table.Variable.{Variable as TableVariable}
use Rattle.kind_table.specs.declared.kinds.autopilot.TheConstants.{NAVIGATE}
use Rattle.kind_table.specs.declared.kinds.flight_control.TheConstants.{DIRECT}
use Rattle.kind_table.specs.declared.kinds.power_monitor.TheConstants.{NORMAL}
use Rattle.kind_table.specs.declared.kinds.navigator.TheConstants.{ROUTE}
use Rattle.kind_table.specs.declared.kinds.data_link.TheConstants.{FAST}
use Rattle.kind_table.specs.declared.kinds.task.TheConstants.{FULL}

-- A word of a kind's area. `name` is `None` if the kind does not use the word. `ranges` are the word's ranges by
-- mode, and `initialised` are its ranges after an init phase. `moves` is `true` if a halt brings the word to 0.
-- `start` is the value with which the word begins.
pub record Variable : Type 0 where
  pub name : Option (List ℕ)
  pub ranges : List Range
  pub initialised : List Range
  pub moves : Bool
  pub start : ℤ

-- A kind of application. `modes` are the names of its modes by number, and mode 0, off, has no name. `widest` is the
-- mode that has the widest range of each variable. `variables` are the eight words of its area.
pub record Kind : Type 0 where
  pub name : List ℕ
  pub modes : List (Option (List ℕ))
  pub widest : ℕ
  pub variables : List Variable

-- The variable with this name, these ranges and this start value. `moves` is `true` if a halt brings the variable to
-- 0.
abbrev pub variable : List ℕ → List Range → List Range → Bool → ℕ → Variable
variable name ranges initialised moves start = record { name = Some name; ranges = ranges; initialised = initialised; moves = moves; start = pos start }

-- The variable with this name and these ranges that a halt brings to 0 and that begins with 0.
abbrev pub moving : List ℕ → List Range → List Range → Variable
moving name ranges initialised = variable name ranges initialised true 0

-- The variable with this name, these ranges and this start value that a halt and an init phase do not change.
abbrev pub lasting : List ℕ → List Range → ℕ → Variable
lasting name ranges start = variable name ranges ranges false start

-- The range from `-below` to `above` for all modes.
abbrev pub always : ℕ → ℕ → List Range
always below above = limit below above ∷ []

-- The range that contains only 0, for all modes.
abbrev pub at_zero : List Range
at_zero = always 0 0

-- The range `first` for mode 1 and the range `second` for every other mode.
abbrev pub by_mode : Range → Range → List Range
by_mode first second = first ∷ second ∷ []

-- The names of the modes of a kind with two modes, by number: `first` for mode 1 and `second` for mode 2.
abbrev pub two_modes : List ℕ → List ℕ → List (Option (List ℕ))
two_modes first second = None ∷ Some first ∷ Some second ∷ []

-- The first variable of every kind: the application's status.
abbrev pub status : Variable
status = lasting (codes "status") (always 0 4) 4

-- The variable that counts the frames in which the application ran.
abbrev pub ticks : Variable
ticks = lasting (codes "ticks") (always 0 1000000) 0

-- The word of an area that a kind does not use.
abbrev pub unused : Variable
unused = record { name = None; ranges = at_zero; initialised = at_zero; moves = false; start = pos 0 }

-- The kind that commands pitch and roll. An init phase sets the targets to the aircraft's altitude and heading.
abbrev pub autopilot : Kind
autopilot = record {
  name = codes "autopilot";
  modes = two_modes (codes "navigate") (codes "hold");
  widest = NAVIGATE;
  variables =
      status ∷
      moving (codes "pitch") (by_mode (limit 100 100) (limit 80 80)) at_zero ∷
      moving (codes "roll") (by_mode (limit 150 150) (limit 0 0)) at_zero ∷
      lasting (codes "target_alt") (always 0 40000) 5000 ∷
      lasting (codes "target_heading") (always 0 3599) 900 ∷
      variable (codes "integral") (always 4000 4000) at_zero false 0 ∷
      ticks ∷
      unused ∷
      [];
}

-- The kind that moves the elevator and the aileron as the autopilot commands.
abbrev pub flight_control : Kind
flight_control = record {
  name = codes "flight_control";
  modes = two_modes (codes "augmented") (codes "direct");
  widest = DIRECT;
  variables =
      status ∷
      moving (codes "elevator") (by_mode (limit 100 100) (limit 200 200)) (by_mode (limit 50 50) (limit 200 200)) ∷
      moving (codes "aileron") (by_mode (limit 150 150) (limit 300 300)) (by_mode (limit 50 50) (limit 100 100)) ∷
      moving (codes "command_pitch") (always 100 100) (always 100 100) ∷
      moving (codes "command_roll") (always 150 150) (always 150 150) ∷
      unused ∷
      ticks ∷
      unused ∷
      [];
}

-- The kind that tracks the supply of the alternators and the charge of the battery.
abbrev pub power_monitor : Kind
power_monitor = record {
  name = codes "power_monitor";
  modes = None ∷ Some (codes "normal") ∷ Some (codes "saver") ∷ Some (codes "essential") ∷ [];
  widest = NORMAL;
  variables =
      status ∷
      lasting (codes "charge") (always 0 10000) 8000 ∷
      moving (codes "supply") (always 0 120) (always 0 120) ∷
      moving (codes "demand") (limit 0 100 ∷ limit 0 60 ∷ limit 0 20 ∷ []) (limit 0 100 ∷ limit 0 60 ∷ limit 0 20 ∷ []) ∷
      lasting (codes "shed") (always 0 1) 0 ∷
      unused ∷
      ticks ∷
      unused ∷
      [];
}

-- The kind that measures how far the aircraft is from its goal.
abbrev pub navigator : Kind
navigator = record {
  name = codes "navigator";
  modes = two_modes (codes "route") (codes "coarse");
  widest = ROUTE;
  variables =
      status ∷
      moving (codes "bearing_error") (always 1800 1799) at_zero ∷
      moving (codes "climb_left") (by_mode (limit 5000 5000) (limit 0 0)) at_zero ∷
      lasting (codes "on_course") (always 0 1) 0 ∷
      unused ∷
      unused ∷
      ticks ∷
      unused ∷
      [];
}

-- The kind that sends a message for each of the kinds 0 to 3 whose lowest-numbered application has status 1.
abbrev pub data_link : Kind
data_link = record {
  name = codes "datalink";
  modes = two_modes (codes "fast") (codes "slow");
  widest = FAST;
  variables =
      status ∷
      lasting (codes "queued") (always 0 64) 0 ∷
      lasting (codes "sent") (always 0 1000000) 0 ∷
      moving (codes "rate") (by_mode (limit 0 4) (limit 0 1)) (by_mode (limit 0 4) (limit 0 1)) ∷
      lasting (codes "dropped") (always 0 1000000) 0 ∷
      unused ∷
      ticks ∷
      unused ∷
      [];
}

-- The kind that uses only a status and a count of frames.
abbrev pub task : Kind
task = record {
  name = codes "task";
  modes = None ∷ Some (codes "full") ∷ Some (codes "reduced") ∷ Some (codes "minimal") ∷ [];
  widest = FULL;
  variables = status ∷ unused ∷ unused ∷ unused ∷ unused ∷ unused ∷ ticks ∷ unused ∷ [];
}

-- The list of kinds, in the order of their numbers.
abbrev pub kinds : List Kind
kinds = autopilot ∷ flight_control ∷ power_monitor ∷ navigator ∷ data_link ∷ task ∷ []

-- The kind with this number, or `None` if there is no such kind.
abbrev pub find_kind : ℕ → Option Kind
find_kind kind = slice_get kinds kind

-- The kind with this number, or the task if there is no such kind.
abbrev pub kind_or_last : ℕ → Kind
kind_or_last kind = slice_index_or kinds kind task

-- Word `i` of the area of a kind, or an unused word if `i` is 8 or more. If there is no such kind, the area is the
-- task's.
unfoldable pub kind_variable : ℕ → ℕ → Variable
kind_variable kind i = slice_index_or (kind_or_last kind).variables i unused

-- The range of mode `mode` in a list of up to three ranges for modes 1, 2 and 3. Every other mode has the last range
-- of the list. If the list is empty, the range contains only 0.
abbrev pub range_in : List Range → ℕ → Range
range_in [] mode = limit 0 0
range_in (only ∷ []) mode = only
range_in (first ∷ (second ∷ [])) mode = if mode == 1 then first else second
range_in (first ∷ (second ∷ (third ∷ more))) mode = if mode == 1 then first else (if mode == 2 then second else third)

-- A word of the table in the code, as plain data.
abbrev pub variable_read : TableVariable → Variable
variable_read v = record { name = option_map (λ s. s.now) v.name; ranges = v.ranges.now; initialised = v.initialised.now; moves = v.moves; start = v.start }

-- A kind of the table in the code, as plain data.
abbrev pub kind_read : TableKind → Kind
kind_read k = record { name = k.name.now; modes = map (option_map (λ s. s.now)) k.modes.now; widest = k.widest; variables = map variable_read k.variables.now }
