-- Worked examples of the first frame in which a script leaves the failure assumption.
use Rattle.std.proofs.Common.{◌≡◌, refl, ℕ, List, [], ◌∷◌, pos}
use Rattle.std.specs.Prelude.{Some, None, replicate}
use Rattle.scram_types.specs.declared.scripts.Change.{Change}
use Rattle.scram_types.specs.declared.scripts.HaltAt.{HaltAt}
use Rattle.scram_types.specs.declared.scripts.RestartAt.{RestartAt}
use Rattle.scram_types.specs.declared.specification.Policy.TheVariants as policy
use Rattle.scram_types.specs.Scripts.{ScriptParts}
use Rattle.scram_types.specs.Specification.{Parts}
use Rattle.fault_script.specs.declared.assumption.OutsideKind.TheVariants as kind
use Rattle.fault_script.specs.Assumption.{first_outside}

-- A specification with two processors and one factor. A window may have two change frames.
abbrev assumed : ℕ → ℕ → Parts
assumed halts window = record {
  procs = replicate 2 (record { name = []; capacity = 0 });
  apps = [];
  confs = [];
  factors = record { name = []; values = [] ∷ [] ∷ [] } ∷ [];
  rules = [];
  bounds = [];
  start = record { 0 = 0 };
  goal = record { altitude = pos 0; heading = pos 0 };
  invariants = [];
  preconditions = [];
  policy = policy.Retarget;
  demands = [];
  halts = halts;
  changes = 1;
  window = window;
}

abbrev change : ℕ → ℕ → Change
change frame value = record { frame = frame; factor = record { 0 = 0 }; value = value }

abbrev halt : ℕ → ℕ → HaltAt
halt p frame = record { proc = record { 0 = p }; frame = frame; step = 0 }

abbrev script : ℕ → List Change → List HaltAt → List RestartAt → ScriptParts
script frames changes halts restarts = record { frames = frames; changes = changes; halts = halts; restarts = restarts }

-- In a window that is longer than the script, the third change is one too many.
changes_again : first_outside (assumed 0 40) (script 20 (change 1 1 ∷ change 3 0 ∷ change 5 1 ∷ []) [] []) ≡ Some (record { frame = 5; kind = kind.Changes })
changes_again = refl

-- A change to the same value again does not change the environment.
stays : first_outside (assumed 0 40) (script 20 (change 1 1 ∷ change 3 1 ∷ change 5 0 ∷ []) [] []) ≡ None
stays = refl

-- The window of four frames that ends with the third change does not contain the first.
far_apart : first_outside (assumed 0 4) (script 20 (change 1 1 ∷ change 3 0 ∷ change 5 1 ∷ []) [] []) ≡ None
far_apart = refl

-- A halt in the last frame counts.
halts_last : first_outside (assumed 1 40) (script 6 [] (halt 1 2 ∷ halt 0 5 ∷ []) []) ≡ Some (record { frame = 5; kind = kind.Halts })
halts_last = refl

-- A third change of the environment, by a halt in the last frame, counts in the frame after the last one.
changes_last : first_outside (assumed 1 40) (script 6 (change 1 1 ∷ change 3 0 ∷ []) (halt 1 5 ∷ []) []) ≡ Some (record { frame = 6; kind = kind.Changes })
changes_last = refl

-- A processor that has restarted is up.
restarts : first_outside (assumed 1 5) (script 20 [] (halt 1 2 ∷ halt 0 12 ∷ []) (record { proc = record { 0 = 1 }; frame = 8 } ∷ [])) ≡ None
restarts = refl
