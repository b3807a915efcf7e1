use Rattle.std.proofs.Common.{rules, ◌≡◌, ◌+◌, ◌≤◌, List, ℕ, ◌++◌, length, codes, ap, arith, length-append}
use Rattle.std.proofs.lemmas.List.{append_assoc}
use Rattle.trace_text.proofs.row_lines.add_act.Goals as goal

-- A word and then a phase have a few bytes in all.
phase_short : (line word after : List ℕ) {before : List ℕ} → before ≡ line ++ word → length word ≤ 13 → length after ≤ length before + 38 → length after ≤ length line + 51
phase_short line word after is few short = omega (arith, ap length is, length-append line word)

pub returns-in-Ran-clause-text : goal.returns-in-Ran-clause-text
returns-in-Ran-clause-text c = rw (c.text-in-Ran-3.ensures.text, c.text-in-Ran-2.ensures.text, c.text-in-Ran.ensures.text, c.text.ensures.text, c.as_bytes-in-Ran.ensures.value, c.as_bytes.ensures.value, c.proc_name.ensures.name, c.name_of_mode.ensures.name, c.in-Ran.is) (simp append_assoc)

pub returns-in-Halting-clause-text : goal.returns-in-Halting-clause-text
returns-in-Halting-clause-text c = rw (c.add_phase.ensures.text, c.text-in-Halting.ensures.text, c.in-Halting.is, append_assoc c.args.line.now (codes "halting "))

pub returns-in-Preparing-clause-text : goal.returns-in-Preparing-clause-text
returns-in-Preparing-clause-text c = rw (c.add_phase-in-Preparing.ensures.text, c.text-in-Preparing.ensures.text, c.in-Preparing.is, append_assoc c.args.line.now (codes "preparing "))

pub returns-in-Initialising-clause-text : goal.returns-in-Initialising-clause-text
returns-in-Initialising-clause-text c = rw (c.add_phase-in-Initialising.ensures.text, c.text-in-Initialising.ensures.text, c.in-Initialising.is, append_assoc c.args.line.now (codes "initialising "))

pub returns-in-Halting-clause-short : goal.returns-in-Halting-clause-short
returns-in-Halting-clause-short c = phase_short c.args.line.now _ _ c.text-in-Halting.ensures.text (omega arith) c.add_phase.ensures.short

pub returns-in-Preparing-clause-short : goal.returns-in-Preparing-clause-short
returns-in-Preparing-clause-short c = phase_short c.args.line.now _ _ c.text-in-Preparing.ensures.text (omega arith) c.add_phase-in-Preparing.ensures.short

pub returns-in-Initialising-clause-short : goal.returns-in-Initialising-clause-short
returns-in-Initialising-clause-short c = phase_short c.args.line.now _ _ c.text-in-Initialising.ensures.text (omega arith) c.add_phase-in-Initialising.ensures.short

pub returns-in-Held-clause-text : goal.returns-in-Held-clause-text
returns-in-Held-clause-text c = search rules
