use Rattle.std.proofs.Common.{refl}
use Rattle.bank_words.specs.declared.events.Event.TheVariants.{Start, Look, Store, Flip, Done, Halt}
use Rattle.fail_stop.specs.ScriptFlights.{flight_of}
use Rattle.event_core.proofs.Moving.{moves_of}
use Rattle.event_core.proofs.moves.places_after.Goals as goal

pub returns-in-Start : goal.returns-in-Start
returns-in-Start c = λ spec. moves_of (flight_of spec c.args.script.now) c.args.places.now c.with_proc.result c.args.event (Start c.in-Start.p) c.in-Start.p.0 c.in-Start.is (λ q. refl) refl refl
    (c.with_proc.ensures.procs spec) c.with_proc.ensures.frame c.with_proc.ensures.step

pub returns-in-Look : goal.returns-in-Look
returns-in-Look c = λ spec. moves_of (flight_of spec c.args.script.now) c.args.places.now c.with_proc-in-Look.result c.args.event (Look c.in-Look.p c.in-Look.field-1) c.in-Look.p.0 c.in-Look.is (λ q. refl) refl refl
    (c.with_proc-in-Look.ensures.procs spec) c.with_proc-in-Look.ensures.frame c.with_proc-in-Look.ensures.step

pub returns-in-Store : goal.returns-in-Store
returns-in-Store c = λ spec. moves_of (flight_of spec c.args.script.now) c.args.places.now c.with_proc-in-Store.result c.args.event (Store c.in-Store.p c.in-Store.field-1) c.in-Store.p.0 c.in-Store.is (λ q. refl) refl refl
    (c.with_proc-in-Store.ensures.procs spec) c.with_proc-in-Store.ensures.frame c.with_proc-in-Store.ensures.step

pub returns-in-Flip : goal.returns-in-Flip
returns-in-Flip c = λ spec. moves_of (flight_of spec c.args.script.now) c.args.places.now c.with_proc-in-Flip.result c.args.event (Flip c.in-Flip.p) c.in-Flip.p.0 c.in-Flip.is (λ q. refl) refl refl
    (c.with_proc-in-Flip.ensures.procs spec) c.with_proc-in-Flip.ensures.frame c.with_proc-in-Flip.ensures.step

pub returns-in-Done : goal.returns-in-Done
returns-in-Done c = λ spec. moves_of (flight_of spec c.args.script.now) c.args.places.now c.with_proc-in-Done.result c.args.event (Done c.in-Done.p) c.in-Done.p.0 c.in-Done.is (λ q. refl) refl refl
    (c.with_proc-in-Done.ensures.procs spec) c.with_proc-in-Done.ensures.frame c.with_proc-in-Done.ensures.step

pub returns-in-Halt : goal.returns-in-Halt
returns-in-Halt c = λ spec. moves_of (flight_of spec c.args.script.now) c.args.places.now c.with_proc-in-Halt.result c.args.event (Halt c.in-Halt.p) c.in-Halt.p.0 c.in-Halt.is (λ q. refl) refl refl
    (c.with_proc-in-Halt.ensures.procs spec) c.with_proc-in-Halt.ensures.frame c.with_proc-in-Halt.ensures.step
