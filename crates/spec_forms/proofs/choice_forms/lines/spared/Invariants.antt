use Rattle.std.proofs.Common.{◌≡◌, ◌<◌, ◌^◌, ◌||◌, not}
use Rattle.scram_types.specs.Bits.{bits_below}
use Rattle.choice_table.specs.Environments.{is_up_in}
use Rattle.spec_forms.specs.choice_forms.Choosing.{is_used}
use Rattle.spec_forms.proofs.choice_forms.lines.spared.Given as goal

abbrev pub invariant-loop-p : goal.invariant-loop-p
invariant-loop-p l = record {
  spared : l.spared ≡ bits_below (λ p. is_up_in l.env p || not (is_used l.spec l.c p)) l.p;
  few : l.spared < 2 ^ l.p;
}
