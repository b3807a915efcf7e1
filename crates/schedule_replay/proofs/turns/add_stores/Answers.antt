use Rattle.std.proofs.Common.{ℕ}
use Rattle.scram_types.specs.Lookups.{proc_id}
use Rattle.bank_words.specs.declared.events.Event.TheVariants.{Store}
use Rattle.schedule_replay.proofs.Adding.{adds_all, adds_next}
use Rattle.schedule_replay.proofs.turns.add_stores.Goals as goal

pub loop-i-preserved : goal.loop-i-preserved
loop-i-preserved c = adds_next (λ (i : ℕ). Store (proc_id c.args.p.0) i) c.loop-i.i c.args.list.now.items c.loop-i.list.items c.add.new.list.items c.loop-i.invariant c.in_ok-add.ensures

pub returns : goal.returns
returns c = adds_all (λ (i : ℕ). Store (proc_id c.args.p.0) i) c.loop-i.i c.args.stores c.args.list.now.items c.loop-i.list.items c.loop-i.auto.i-end c.loop-i-test.false c.loop-i.invariant
