use Rattle.bank_words.specs.declared.events.Event.TheVariants.{KStore}
use Rattle.schedule_replay.proofs.Adding.{adds_all, adds_next}
use Rattle.schedule_replay.proofs.turns.add_kernel_stores.Goals as goal

pub loop-i-preserved : goal.loop-i-preserved
loop-i-preserved c = adds_next KStore c.loop-i.i c.args.list.now.items c.loop-i.list.items c.add.new.list.items c.loop-i.invariant c.in_ok-add.ensures

pub returns : goal.returns
returns c = adds_all KStore c.loop-i.i 20 c.args.list.now.items c.loop-i.list.items c.loop-i.auto.i-end c.loop-i-test.false c.loop-i.invariant
