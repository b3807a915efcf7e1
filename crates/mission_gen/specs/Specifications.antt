-- The texts of specifications and missions, and the specifications that texts encode.
use Rattle.std.specs.Prelude.{◌≡◌, ℕ, List, [], ◌∷◌, ◌++◌, Ok, codes}
use Rattle.scram_types.specs.declared.specification.Factor.{Factor}
use Rattle.scram_types.specs.Scripts.{ScriptParts}
use Rattle.scram_types.specs.Specification.{Parts}
use Rattle.fault_script.specs.Texts.{script_text}
use Rattle.spec_reading.specs.Documents.{spec_of}
use Rattle.reconf_spec.specs.Texts.{spec_text}
use Rattle.mission_gen.specs.declared.texts.TheConstants.{GENERATED, UAV}

-- The text of the specification of an aircraft with two alternators and two computers.
unfoldable pub uav_text : List ℕ
uav_text = UAV.now

-- The text of the specification of the same aircraft with four further factors.
unfoldable pub generated_text : List ℕ
generated_text = GENERATED.now

-- The canonical texts of a specification and of a script, one line each.
abbrev pub mission_text : Parts → ScriptParts → List ℕ
mission_text spec script = spec_text spec ++ codes "\n" ++ script_text spec script ++ codes "\n"

-- The text encodes a specification.
pub record GivesSpecification (text : List ℕ) : Type 0 where
  pub spec : Parts
  pub given : spec_of text ≡ Ok spec

-- A further factor with the given name, which has four values.
abbrev pub further_factor : List ℕ → Factor
further_factor name = record { name = name; values = codes "v0" ∷ codes "v1" ∷ codes "v2" ∷ codes "v3" ∷ [] }

-- A specification with four further factors after its own factors.
abbrev pub with_further_factors : Parts → Parts
with_further_factors spec = record {
  procs = spec.procs;
  apps = spec.apps;
  confs = spec.confs;
  factors =
      spec.factors ++ further_factor (codes "aux0") ∷ further_factor (codes "aux1") ∷ further_factor (codes "aux2")
      ∷ further_factor (codes "aux3") ∷ [];
  rules = spec.rules;
  bounds = spec.bounds;
  start = spec.start;
  goal = spec.goal;
  invariants = spec.invariants;
  preconditions = spec.preconditions;
  policy = spec.policy;
  demands = spec.demands;
  halts = spec.halts;
  changes = spec.changes;
  window = spec.window;
}
