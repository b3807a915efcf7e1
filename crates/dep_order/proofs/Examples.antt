-- Worked examples of timetables.
use Rattle.std.proofs.Common.{◌≡◌, refl, ℕ, List, [], ◌∷◌, pos}
use Rattle.std.specs.Prelude.{Some, None, map, replicate}
use Rattle.scram_types.specs.declared.specification.AppSpec.{AppSpec}
use Rattle.scram_types.specs.declared.specification.Conf.{Conf}
use Rattle.scram_types.specs.declared.specification.Policy.TheVariants as policy
use Rattle.scram_types.specs.Specification.{Parts}
use Rattle.dep_order.specs.Timetables.{timetable}

-- An application with one mode, and with these needs, this rank, and these halt and init times.
app : List ℕ → ℕ → ℕ → ℕ → AppSpec
app needs rank halt init = record {
  name = [];
  kind = record { 0 = 2 };
  needs = map (λ (a : ℕ). record { 0 = a }) needs;
  modes = record { mode = record { 0 = 1 }; load = 0; halt = halt; prepare = 1; init = init } ∷ [];
  rank = rank;
}

-- A specification with one processor, these applications and these configurations.
made : List AppSpec → List Conf → Parts
made apps confs = record {
  procs = record { name = []; capacity = 0 } ∷ [];
  apps = apps;
  confs = confs;
  factors = [];
  rules = [];
  bounds = [];
  start = record { 0 = 0 };
  goal = record { altitude = pos 0; heading = pos 0 };
  invariants = [];
  preconditions = [];
  policy = policy.Retarget;
  demands = [];
  halts = 0;
  changes = 0;
  window = 1;
}

-- A specification of applications a, b, c and d, in which a needs b, and b and d need c. All are on in the first
-- configuration, none in the second, and a and c in the third.
four : Parts
four = made
    (app (1 ∷ []) 2 2 1 ∷ app (2 ∷ []) 1 1 2 ∷ app [] 0 3 1 ∷ app (2 ∷ []) 1 5 2 ∷ [])
    (record { name = []; places = Some (record { mode = record { 0 = 1 }; proc = record { 0 = 0 } }) ∷ Some (record { mode = record { 0 = 1 }; proc = record { 0 = 0 } }) ∷ Some (record { mode = record { 0 = 1 }; proc = record { 0 = 0 } }) ∷ Some (record { mode = record { 0 = 1 }; proc = record { 0 = 0 } }) ∷ replicate 4 None }
    ∷ record { name = []; places = replicate 8 None }
    ∷ record { name = []; places = Some (record { mode = record { 0 = 1 }; proc = record { 0 = 0 } }) ∷ None ∷ Some (record { mode = record { 0 = 1 }; proc = record { 0 = 0 } }) ∷ replicate 5 None }
    ∷ [])

all_on : timetable four (record { 0 = 0 }) ≡ record { halt = 0 ∷ 2 ∷ 5 ∷ 0 ∷ replicate 4 0; init = 3 ∷ 1 ∷ 0 ∷ 1 ∷ replicate 4 0; h = 8; p = 1; i = 4 }
unfolding four made app
all_on = refl

nothing_on : timetable four (record { 0 = 1 }) ≡ record { halt = replicate 8 0; init = replicate 8 0; h = 0; p = 0; i = 0 }
unfolding four made app
nothing_on = refl

-- An application that is off between two others breaks the chain.
broken_chain : timetable four (record { 0 = 2 }) ≡ record { halt = replicate 8 0; init = replicate 8 0; h = 3; p = 1; i = 1 }
unfolding four made app
broken_chain = refl
