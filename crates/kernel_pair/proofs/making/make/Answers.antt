use Rattle.std.proofs.Common.{◌∙◌, ap, sym, subst}
use Rattle.fail_stop.specs.ScriptFlights.{flight_of}
use Rattle.kernel_pair.specs.declared.events.PairEvent.{PairEvent}
use Rattle.kernel_pair.specs.Machines.{AreEventWords}
use Rattle.kernel_pair.specs.Pairs.{IsPairNext, pair_after}
use Rattle.kernel_pair.specs.States.{flight_by, pair_of}
use Rattle.kernel_pair.proofs.Allowed.{note_small, release_small, store_small}
use Rattle.kernel_pair.proofs.making.make.Goals as goal

pub note-requires-clause-p : goal.note-requires-clause-p
note-requires-clause-p c =
    note_small c.args.setup.now.spec.now c.args.setup.now.script.now c.args.setup.now.halt (pair_of c.args.state.now) c.requires.facts c.requires.fits c.requires.kept c.in-Note.u c.in-Note.p
    (subst (λ (e : PairEvent). IsPairNext (flight_of c.args.setup.now.spec.now c.args.setup.now.script.now) c.args.setup.now.halt (pair_of c.args.state.now) e) c.in-Note.is c.requires.next)

pub store-requires-clause-i : goal.store-requires-clause-i
store-requires-clause-i c =
    store_small c.args.setup.now.spec.now c.args.setup.now.script.now c.args.setup.now.halt (pair_of c.args.state.now) c.requires.facts c.requires.fits c.requires.kept c.in-Store.u c.in-Store.i
    (subst (λ (e : PairEvent). IsPairNext (flight_of c.args.setup.now.spec.now c.args.setup.now.script.now) c.args.setup.now.halt (pair_of c.args.state.now) e) c.in-Store.is c.requires.next)

pub release-requires-clause-frame : goal.release-requires-clause-frame
release-requires-clause-frame c =
    release_small c.args.setup.now.spec.now c.args.setup.now.script.now c.args.setup.now.halt (pair_of c.args.state.now) c.requires.facts c.requires.fits c.requires.kept c.in-Release.u
    (subst (λ (e : PairEvent). IsPairNext (flight_of c.args.setup.now.spec.now c.args.setup.now.script.now) c.args.setup.now.halt (pair_of c.args.state.now) e) c.in-Release.is c.requires.next)

pub returns-in-Store : goal.returns-in-Store
returns-in-Store c =
    c.store.ensures (flight_of c.args.setup.now.spec.now c.args.setup.now.script.now)
    (subst (λ (e : PairEvent). AreEventWords (flight_of c.args.setup.now.spec.now c.args.setup.now.script.now) (pair_of c.args.state.now) e c.args.draft.now c.args.word) c.in-Store.is c.requires.words)
    ∙ ap (λ (e : PairEvent). pair_after (flight_of c.args.setup.now.spec.now c.args.setup.now.script.now) c.args.setup.now.halt (pair_of c.args.state.now) e) (sym c.in-Store.is)

pub returns-in-Note : goal.returns-in-Note
returns-in-Note c = c.note.ensures ∙ ap (pair_after (flight_by c.args.setup.now) c.args.setup.now.halt (pair_of c.args.state.now)) (sym c.in-Note.is)

pub returns-in-Ready : goal.returns-in-Ready
returns-in-Ready c = c.ready.ensures ∙ ap (pair_after (flight_by c.args.setup.now) c.args.setup.now.halt (pair_of c.args.state.now)) (sym c.in-Ready.is)

pub returns-in-Meet : goal.returns-in-Meet
returns-in-Meet c = c.meet.ensures ∙ ap (pair_after (flight_by c.args.setup.now) c.args.setup.now.halt (pair_of c.args.state.now)) (sym c.in-Meet.is)

pub returns-in-Release : goal.returns-in-Release
returns-in-Release c = c.release.ensures ∙ ap (pair_after (flight_by c.args.setup.now) c.args.setup.now.halt (pair_of c.args.state.now)) (sym c.in-Release.is)

pub returns-in-Fly : goal.returns-in-Fly
returns-in-Fly c = c.make_frame.ensures ∙ ap (pair_after (flight_by c.args.setup.now) c.args.setup.now.halt (pair_of c.args.state.now)) (sym c.in-Fly.is)

pub make_frame-requires-clause-next : goal.make_frame-requires-clause-next
make_frame-requires-clause-next c = subst (IsPairNext (flight_by c.args.setup.now) c.args.setup.now.halt (pair_of c.args.state.now)) c.in-Fly.is c.requires.next
