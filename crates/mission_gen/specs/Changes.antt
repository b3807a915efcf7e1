-- The changes that turns make, and the script of a mission.
use Rattle.std.specs.Prelude.{ℕ, ◌+◌, ◌-◌, ◌*◌, ◌/◌, ◌%◌, List, [], ◌∷◌, nat_lt, replicate, set, slice_index, if◌then◌else◌}
use Rattle.scram_types.specs.declared.scripts.Change.{Change}
use Rattle.scram_types.specs.declared.scripts.HaltAt.{HaltAt}
use Rattle.scram_types.specs.Scripts.{ScriptParts}
use Rattle.mission_gen.specs.Blocks.{first_frame, random}
use Rattle.mission_gen.specs.Turns.{Turn, turns_to}

-- The number of values of a factor, which is two for each of the two alternators and four for each further factor.
abbrev pub count_of_values : ℕ → ℕ
count_of_values factor = if nat_lt factor 2 then 2 else 4

-- The value of a factor that follows `value`, or the first value if `value` is the last.
abbrev pub next_value : ℕ → ℕ → ℕ
next_value factor value = (value + 1) % count_of_values factor

-- The value that a turn sets for its factor, given the current values.
abbrev pub value_by : List ℕ → Turn → ℕ
value_by values turn = next_value turn.factor (slice_index values turn.factor)

-- The change that a turn makes, given the current values.
abbrev pub change_by : List ℕ → Turn → Change
change_by values turn = record { frame = turn.frame; factor = record { 0 = turn.factor }; value = value_by values turn }

-- The values after a turn, given the values before it.
abbrev pub values_by : List ℕ → Turn → List ℕ
values_by values turn = set values turn.factor (value_by values turn)

-- The changes that turns make in order, given the values before them.
abbrev pub changes_by : List ℕ → List Turn → List Change
changes_by values [] = []
changes_by values (turn ∷ turns) = change_by values turn ∷ changes_by (values_by values turn) turns

-- The values after a list of turns, given the values before them.
abbrev pub values_after : List ℕ → List Turn → List ℕ
values_after values [] = values
values_after values (turn ∷ turns) = values_after (values_by values turn) turns

-- The number of frames in the script of mission `n`, from 1,000 to 19,000.
abbrev pub frames_of : ℕ → ℕ
frames_of n = 1000 + 1000 * (n % 19)

-- The greatest `k` such that `60 * k + 20` is at most the number of frames, or 0 if there are fewer than 20 frames.
abbrev pub last_block : ℕ → ℕ
last_block frames = (frames - 20) / 60

-- The changes of the script of mission `n`, which has `frames` frames. Each factor begins with its first value.
abbrev pub changes_of : ℕ → ℕ → List Change
changes_of n frames = changes_by (replicate 6 0) (turns_to n (last_block frames))

-- The halt in the script of mission `n`. The halt is in block 5.
abbrev pub generated_halt : ℕ → HaltAt
generated_halt n = record { proc = record { 0 = n % 2 }; frame = first_frame 5 (random n 5); step = random n 5 % 26 }

-- The script of mission `n`.
abbrev pub generated_script : ℕ → ScriptParts
generated_script n = record {
  frames = frames_of n;
  changes = changes_of n (frames_of n);
  halts = generated_halt n ∷ [];
  restarts = [];
}
