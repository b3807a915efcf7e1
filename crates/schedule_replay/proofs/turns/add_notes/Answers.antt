use Rattle.std.proofs.Common.{ℕ}
use Rattle.scram_types.specs.Lookups.{proc_id}
use Rattle.bank_words.specs.declared.events.Event.TheVariants.{KNote}
use Rattle.schedule_replay.proofs.Adding.{adds_all, adds_next}
use Rattle.schedule_replay.proofs.turns.add_notes.Goals as goal

pub loop-p-preserved : goal.loop-p-preserved
loop-p-preserved c = adds_next (λ (p : ℕ). KNote (proc_id p)) c.loop-p.p c.args.list.now.items c.loop-p.list.items c.add.new.list.items c.loop-p.invariant c.in_ok-add.ensures

pub returns : goal.returns
returns c = adds_all (λ (p : ℕ). KNote (proc_id p)) c.loop-p.p c.args.procs c.args.list.now.items c.loop-p.list.items c.loop-p.auto.p-end c.loop-p-test.false c.loop-p.invariant
