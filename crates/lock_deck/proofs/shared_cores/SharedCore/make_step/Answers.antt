use Rattle.coverage_check.specs.Missions.{mission_of}
use Rattle.lock_deck.proofs.shared_cores.SharedCore.make_step.Goals as goal

pub make_step-requires : goal.make_step-requires
make_step-requires g c = record { drafted = c.requires (mission_of c.args.self.now.core.spec c.args.self.now.core.script) c.args.self.now.own }
