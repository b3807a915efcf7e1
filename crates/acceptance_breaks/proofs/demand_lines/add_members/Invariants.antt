use Rattle.std.proofs.Common.{◌≡◌, ◌+◌, ◌*◌, ◌≤◌, ◌++◌, length}
use Rattle.scram_types.specs.Bits.{has_bit}
use Rattle.scram_types.specs.Searches.{any_below}
use Rattle.form_base.specs.Texts.{texts_below}
use Rattle.acceptance_breaks.specs.Lines.{conf_in_text}
use Rattle.acceptance_breaks.proofs.demand_lines.add_members.Given as goal

abbrev pub invariant-loop-c : goal.invariant-loop-c
invariant-loop-c l = record {
  text : l.line ≡ l.initial.line ++ texts_below (conf_in_text l.spec l.set) l.c;
  further : l.is_further ≡ any_below (has_bit l.set) l.c;
  short : length l.line ≤ length l.initial.line + 18 * l.c;
}
