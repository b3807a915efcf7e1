use Rattle.std.proofs.Common.{[], ◌∷◌, rules, arith}
use Rattle.std.specs.Option.{option_copied}
use Rattle.std.proofs.lemmas.List.{length-append}
use Rattle.scram_doc.proofs.Growing.{after_push, step_made}
use Rattle.spec_reading.specs.Demands.{read_on_mode}
use Rattle.spec_reading.specs.TableFacts.{IsNewOn}
use Rattle.spec_reading.proofs.demands.read_on_modes.Goals as goal

pub loop-i-preserved : goal.loop-i-preserved
loop-i-preserved c =
    let more = c.in_ok-modes.ensures.more in
    let so_far = c.loop-i.invariant in
    let long = length-append c.loop-i.modes (more.mode ∷ []) in
    let count = so_far.count in
    record {
      value = step_made (read_on_mode (option_copied c.args.app)) c.args.at.now c.loop-i.i c.loop-i.modes c.in_ok-items.items.now c.index-items-i.result c.in_ok-modes.modes _ (search rules) (search rules) (search rules) so_far.value;
      count = rw (more.behind) (omega (arith, long, count));
      each = rw (more.behind) (after_push (IsNewOn (option_copied c.args.app)) c.loop-i.modes more.mode so_far.each more.new);
    }
