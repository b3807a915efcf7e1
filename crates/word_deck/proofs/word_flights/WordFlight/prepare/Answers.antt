use Rattle.std.proofs.Common.{rules, ◌≡◌, length}
use Rattle.word_deck.proofs.Outcomes.{kernel_flown, open_flown}
use Rattle.word_deck.proofs.word_flights.WordFlight.prepare.Goals as goal

pub returns-clause-waiting : goal.returns-clause-waiting
returns-clause-waiting g c =
    let all : length c.args.self.roster.waiting.items ≡ length c.args.self.mission.now.spec.procs = search rules in
    open_flown c.args.self.words c.set_spins.new.self c.args.self.roster.waiting.items c.args.self.mission.now c.set_spins.ensures c.args.self.waiting all c.args.self.of
    c.holds.ensures.spec c.holds.ensures.mission

pub returns-clause-seated : goal.returns-clause-seated
returns-clause-seated g c =
    kernel_flown c.args.self.words c.set_spins.new.self c.args.self.kernel.kseat c.args.self.mission.now c.set_spins.ensures c.args.self.seated c.args.self.of
    c.holds.ensures.spec c.holds.ensures.mission

pub returns-clause-fresh : goal.returns-clause-fresh
returns-clause-fresh g c = rw c.args.self.same c.args.self.fresh
