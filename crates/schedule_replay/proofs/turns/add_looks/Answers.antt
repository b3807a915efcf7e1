use Rattle.std.proofs.Common.{ℕ}
use Rattle.scram_types.specs.Lookups.{proc_id}
use Rattle.bank_words.specs.declared.events.Event.TheVariants.{Look}
use Rattle.schedule_replay.proofs.Adding.{adds_all, adds_next}
use Rattle.schedule_replay.proofs.turns.add_looks.Goals as goal

pub loop-q-preserved : goal.loop-q-preserved
loop-q-preserved c = adds_next (λ (q : ℕ). Look (proc_id c.args.p.0) (proc_id q)) c.loop-q.q c.args.list.now.items c.loop-q.list.items c.add.new.list.items c.loop-q.invariant c.in_ok-add.ensures

pub returns : goal.returns
returns c = adds_all (λ (q : ℕ). Look (proc_id c.args.p.0) (proc_id q)) c.loop-q.q c.args.procs c.args.list.now.items c.loop-q.list.items c.loop-q.auto.q-end c.loop-q-test.false c.loop-q.invariant
