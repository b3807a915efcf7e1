-- Worked examples of the numbers of environments, the environments in scope and the choices of a table.
use Rattle.std.proofs.Common.{◌≡◌, refl, ℕ, List, [], ◌∷◌, true, false, pos}
use Rattle.std.specs.Prelude.{Some, None, replicate}
use Rattle.scram_types.specs.declared.rows.Env.{Env}
use Rattle.scram_types.specs.declared.specification.Choice.{Choice}
use Rattle.scram_types.specs.declared.specification.Conf.{Conf}
use Rattle.scram_types.specs.declared.specification.Factor.{Factor}
use Rattle.scram_types.specs.declared.specification.Proc.{Proc}
use Rattle.scram_types.specs.declared.specification.Want.{Want}
use Rattle.scram_types.specs.declared.specification.Policy.TheVariants as policy
use Rattle.scram_types.specs.Lookups.{conf_id}
use Rattle.scram_types.specs.Specification.{Parts}
use Rattle.choice_table.specs.Environments.{in_scope}
use Rattle.choice_table.specs.Choices.{choose, has_rule, is_runnable}
use Rattle.choice_table.specs.Numbering.{env_of, environments, number_of, states}

proc : Proc
proc = record { name = []; capacity = 0 }

factor : ℕ → Factor
factor count = record { name = []; values = replicate count [] }

want : ℕ → ℕ → Want
want x value = record { factor = record { 0 = x }; value = value }

environment : ℕ → List ℕ → Env
environment up factors = record { up = up; factors = factors }

-- A specification with the given processors, factors, configurations and rules. At most `halts` of the processors may
-- be down.
made : List Proc → List Factor → List Conf → List Choice → ℕ → Parts
made procs factors confs rules halts = record {
  procs = procs;
  apps = [];
  confs = confs;
  factors = factors;
  rules = rules;
  bounds = [];
  start = conf_id 0;
  goal = record { altitude = pos 0; heading = pos 0 };
  invariants = [];
  preconditions = [];
  policy = policy.Retarget;
  demands = [];
  halts = halts;
  changes = 0;
  window = 1;
}

-- A specification with eight processors and six factors of four values each. It has the maximum number of
-- environments.
large : Parts
large = made (replicate 8 proc) (replicate 6 (factor 4)) [] [] 1

most_environments : environments large ≡ 1048576
unfolding large made proc factor
most_environments = refl

all_well : number_of large (environment 255 (replicate 6 0)) ≡ 0
unfolding large made proc factor environment
all_well = refl

-- The first factor is the most significant digit.
first_factor : number_of large (environment 255 (1 ∷ replicate 5 0)) ≡ 1024
unfolding large made proc factor environment
first_factor = refl

last_factor : number_of large (environment 255 (0 ∷ 0 ∷ 0 ∷ 0 ∷ 0 ∷ 3 ∷ [])) ≡ 3
unfolding large made proc factor environment
last_factor = refl

-- Processor 0 adds 4096 to the number if it is down, and processor 7 adds 128 times 4096.
down_first : number_of large (environment 254 (3 ∷ 0 ∷ 0 ∷ 0 ∷ 0 ∷ 1 ∷ [])) ≡ 7169
unfolding large made proc factor environment
down_first = refl

back_first : env_of large 7169 ≡ Some (environment 254 (3 ∷ 0 ∷ 0 ∷ 0 ∷ 0 ∷ 1 ∷ []))
unfolding large made proc factor environment
back_first = refl

down_last : number_of large (environment 127 (replicate 6 0)) ≡ 524288
unfolding large made proc factor environment
down_last = refl

back_last : env_of large 524288 ≡ Some (environment 127 (replicate 6 0))
unfolding large made proc factor environment
back_last = refl

worst : number_of large (environment 0 (replicate 6 3)) ≡ 1048575
unfolding large made proc factor environment
worst = refl

back_worst : env_of large 1048575 ≡ Some (environment 0 (replicate 6 3))
unfolding large made proc factor environment
back_worst = refl

no_more : env_of large 1048576 ≡ None
unfolding large made proc factor environment
no_more = refl

one_down : in_scope large (environment 253 (replicate 6 0)) ≡ true
unfolding large made proc factor environment
one_down = refl

two_down : in_scope large (environment 126 (replicate 6 0)) ≡ false
unfolding large made proc factor environment
two_down = refl

-- A specification with two processors and two factors, the first with two values and the second with three. Its
-- environments have zeros past the last factor.
small : ℕ → Parts
small halts = made (replicate 2 proc) (factor 2 ∷ factor 3 ∷ []) [] [] halts

mixed : number_of (small 1) (environment 1 (1 ∷ 2 ∷ 0 ∷ 0 ∷ 0 ∷ 0 ∷ [])) ≡ 17
unfolding small made proc factor environment
mixed = refl

back_mixed : env_of (small 1) 17 ≡ Some (environment 1 (1 ∷ 2 ∷ 0 ∷ 0 ∷ 0 ∷ 0 ∷ []))
unfolding small made proc factor environment
back_mixed = refl

none_may_be_down : states (small 0) ≡ 6
unfolding small made proc factor
none_may_be_down = refl

one_may_be_down : states (small 1) ≡ 18
unfolding small made proc factor
one_may_be_down = refl

-- A specification with three rules: from configuration 0 to 2 if factor 0 has value 1, from any configuration to 0 if
-- processor 1 is up, and from configuration 0 to 1.
ruled : Parts
ruled = made (replicate 2 proc) (factor 2 ∷ []) (
    record { name = []; places = Some (record { mode = record { 0 = 1 }; proc = record { 0 = 1 } }) ∷ replicate 7 None }
    ∷ record { name = []; places = replicate 8 None }
    ∷ [])
    (record { from = Some (conf_id 0); wants = want 0 1 ∷ []; up = 0; to = conf_id 2 }
    ∷ record { from = None; wants = []; up = 2; to = conf_id 0 }
    ∷ record { from = Some (conf_id 0); wants = []; up = 0; to = conf_id 1 }
    ∷ [])
    1

by_value : choose ruled (conf_id 0) (environment 3 (1 ∷ replicate 5 0)) ≡ conf_id 2
unfolding ruled made proc factor environment want
by_value = refl

by_source : choose ruled (conf_id 1) (environment 3 (1 ∷ replicate 5 0)) ≡ conf_id 0
unfolding ruled made proc factor environment want
by_source = refl

by_processor : choose ruled (conf_id 0) (environment 1 (replicate 6 0)) ≡ conf_id 1
unfolding ruled made proc factor environment want
by_processor = refl

without_rule : choose ruled (conf_id 1) (environment 1 (replicate 6 0)) ≡ conf_id 1
unfolding ruled made proc factor environment want
without_rule = refl

no_rule : has_rule ruled (conf_id 1) (environment 1 (replicate 6 0)) ≡ false
unfolding ruled made proc factor environment want
no_rule = refl

cannot_run : is_runnable ruled (conf_id 0) (environment 1 (replicate 6 0)) ≡ false
unfolding ruled made proc factor environment want
cannot_run = refl

can_run : is_runnable ruled (conf_id 0) (environment 2 (replicate 6 0)) ≡ true
unfolding ruled made proc factor environment want
can_run = refl

uses_none : is_runnable ruled (conf_id 1) (environment 0 (replicate 6 0)) ≡ true
unfolding ruled made proc factor environment want
uses_none = refl
