use Rattle.std.proofs.Common.{subst}
use Rattle.scram_io.specs.Outside.{CutOff, Printed, Prints}
use Rattle.scram_io.proofs.Puts.{cut_more, prints_more}
use Rattle.spec_forms.proofs.choice_forms.choosing.put_chosen.Goals as goal

pub returns-in-Ok : goal.returns-in-Ok
returns-in-Ok g c =
    prints_more c.put-in-Ok.result (g.K.Sink.state c.args.out.now) (g.K.Sink.state c.put.new.self) (g.K.Sink.state c.put-in-Ok.new.self) c.args.chosen.now.choice c.args.chosen.now.needs
    (subst (Printed (g.K.Sink.state c.args.out.now) (g.K.Sink.state c.put.new.self)) c.as_bytes.ensures c.in-Ok.ensures)
    (subst (Prints c.put-in-Ok.result (g.K.Sink.state c.put.new.self) (g.K.Sink.state c.put-in-Ok.new.self)) c.as_bytes-in-Ok.ensures c.put-in-Ok.ensures)

pub returns-in-Err : goal.returns-in-Err
returns-in-Err g c =
    cut_more (g.K.Sink.state c.args.out.now) (g.K.Sink.state c.put.new.self) c.args.chosen.now.choice c.args.chosen.now.needs
    (subst (CutOff (g.K.Sink.state c.args.out.now) (g.K.Sink.state c.put.new.self)) c.as_bytes.ensures c.in-Err.ensures)
