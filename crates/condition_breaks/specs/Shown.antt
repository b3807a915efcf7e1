-- The environments in places.
use Rattle.std.specs.Prelude.{⊤}
use Rattle.scram_types.specs.Specification.{Parts}
use Rattle.choice_table.specs.Environments.{IsEnv}
use Rattle.condition_breaks.specs.declared.breaks.Break.{Break}
use Rattle.condition_breaks.specs.declared.breaks.Break.TheVariants as broken

-- If a place contains an environment, the environment belongs to the specification.
abbrev pub AnyEnvIsOf : Parts → Break → Type 0
AnyEnvIsOf spec (broken.NeedOff c a b) = ⊤
AnyEnvIsOf spec broken.ManyStates = ⊤
AnyEnvIsOf spec (broken.NothingOn c) = ⊤
AnyEnvIsOf spec (broken.SameAgain c d) = ⊤
AnyEnvIsOf spec (broken.Overloaded c p) = ⊤
AnyEnvIsOf spec (broken.Unmet asked c v) = IsEnv spec v
AnyEnvIsOf spec broken.StartLeft = ⊤
AnyEnvIsOf spec (broken.BoundLacking i j) = ⊤
AnyEnvIsOf spec broken.WindowShort = ⊤
AnyEnvIsOf spec (broken.Unheld found) = ⊤
AnyEnvIsOf spec (broken.PreconditionMissed k) = ⊤
AnyEnvIsOf spec (broken.DemandMissed c k v) = IsEnv spec v
