-- Acts of applications, reduced to their first word, their mode and their processor.
use Rattle.std.specs.Prelude.{ℕ, ◌==◌, List, slice_index_or, Option, Some, None, codes}
use Rattle.std.specs.List.{count_by}
use Rattle.scram_types.specs.declared.rows.Row.{Row}
use Rattle.scram_types.specs.declared.ids.ProcId.{ProcId}
use Rattle.scram_types.specs.declared.orders.Act.{Act}
use Rattle.scram_types.specs.declared.orders.Act.TheVariants as act
use Rattle.flight_facts.specs.declared.acts.ActWord.{ActWord}
use Rattle.flight_facts.specs.declared.acts.ActWord.TheVariants.{Ran, Halting, Preparing, Initialising, Held, Off, Lost}

-- The act of application `a` in a row, or `Off` if there is no such application.
abbrev pub act_of : Row → ℕ → Act
act_of row a = slice_index_or row.acts a act.Off

-- The first word of an act.
abbrev pub act_word : Act → ActWord
act_word (act.Ran mode proc) = Ran
act_word (act.Halting k n proc) = Halting
act_word act.Held = Held
act_word (act.Preparing k n proc) = Preparing
act_word (act.Initialising k n proc) = Initialising
act_word act.Off = Off
act_word act.Lost = Lost

-- The text of a word, as a trace spells it.
abbrev pub word_text : ActWord → List ℕ
word_text Ran = codes "ran"
word_text Halting = codes "halting"
word_text Preparing = codes "preparing"
word_text Initialising = codes "initialising"
word_text Held = codes "held"
word_text Off = codes "off"
word_text Lost = codes "lost"

-- The number of a word. No two words have the same number.
abbrev pub word_number : ActWord → ℕ
word_number Ran = 0
word_number Halting = 1
word_number Preparing = 2
word_number Initialising = 3
word_number Held = 4
word_number Off = 5
word_number Lost = 6

-- The mode in which an application ran, or 0, which is off, if it did not run.
abbrev pub mode_of_act : Act → ℕ
mode_of_act (act.Ran mode proc) = mode.0
mode_of_act (act.Halting k n proc) = 0
mode_of_act act.Held = 0
mode_of_act (act.Preparing k n proc) = 0
mode_of_act (act.Initialising k n proc) = 0
mode_of_act act.Off = 0
mode_of_act act.Lost = 0

-- The processor that an act names, or `None` if it names none.
abbrev pub proc_of_act : Act → Option ProcId
proc_of_act (act.Ran mode proc) = Some proc
proc_of_act (act.Halting k n proc) = Some proc
proc_of_act act.Held = None
proc_of_act (act.Preparing k n proc) = Some proc
proc_of_act (act.Initialising k n proc) = Some proc
proc_of_act act.Off = None
proc_of_act act.Lost = None

-- The number of rows in which the first word of the act of application `a` is a given word.
abbrev pub count_acts : ActWord → ℕ → List Row → ℕ
count_acts what a rows = count_by (λ (row : Row). word_number (act_word (act_of row a)) == word_number what) rows
