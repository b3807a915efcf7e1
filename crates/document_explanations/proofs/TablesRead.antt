-- The tables have the members that the readers of specifications and scripts expect for each version of a document.
use Rattle.std.proofs.Common.{◌≡◌, ℕ, Bool, true, false, List, [], ◌∷◌, ◌++◌, cond, length, Option, Some, None, option_and_then, refl, map}
use Rattle.std.specs.Prelude.{◌==◌, ◌||◌, codes}
use Rattle.serde_json.specs.Find.{as_number, as_u64, get}
use Rattle.spec_reading.specs.Versions.{first_members, has_demands, has_policy, has_version, is_version}
use Rattle.fault_script.specs.Versions.{member_count, version_from}
use Rattle.fault_script.specs.declared.version.Version.TheVariants.{First, Second}
use Rattle.document_explanations.specs.Laws.{TablesAreRead}
use Rattle.document_explanations.specs.Objects.{Member, later, objects}
use Rattle.scram_types.specs.declared.limits.TheConstants.{MAX_DEMANDS, MAX_PROCESSORS}
use Rattle.document_explanations.specs.declared.objects.ObjectKind.TheVariants as object
use Rattle.document_explanations.specs.declared.wanted_values.Text.TheVariants as text
use Rattle.document_explanations.specs.declared.wanted_values.Versions.TheVariants as versions
use Rattle.document_explanations.specs.declared.wanted_values.Wanted.TheVariants as wanted

-- The members that only some versions of a specification or of a script have.
abbrev policy_member : Member
policy_member = later (codes "policy") versions.SecondOn (wanted.Text text.Policy)

abbrev demands_member : Member
demands_member = later (codes "demands") versions.Third (objects 0 MAX_DEMANDS object.Demand)

abbrev restarts_member : Member
restarts_member = later (codes "restarts") versions.Second (objects 0 MAX_PROCESSORS object.Restart)

abbrev last_names : Bool → Bool → List (List ℕ)
last_names policy demands = map (λ (m : Member). m.name) (cond policy (policy_member ∷ cond demands (demands_member ∷ []) []) (cond demands (demands_member ∷ []) []))

names_by : (policy demands : Bool) → first_members ++ last_names policy demands
    ≡ first_members ++ cond policy (codes "policy" ∷ []) [] ++ cond demands (codes "demands" ∷ []) []
names_by true true = refl
names_by true false = refl
names_by false true = refl
names_by false false = refl

count_by : (second third : Bool) → length (first_members ++ last_names (second || third) third) ≡ cond third 14 (cond (second || third) 13 12)
count_by true true = refl
count_by true false = refl
count_by false true = refl
count_by false false = refl

-- The names of the members of a script, given whether its version is 2.
abbrev script_names : Bool → List (List ℕ)
script_names second =
    codes "scram" ∷ codes "frames" ∷ codes "changes" ∷ codes "halts" ∷ map (λ (m : Member). m.name) (cond second (restarts_member ∷ []) [])

script_at : (second : Bool) → length (script_names second) ≡ member_count (cond second Second First)
script_at true = refl
script_at false = refl

script_by : (version : Option ℕ) → length (script_names (is_version 2 version)) ≡ member_count (version_from version)
script_by None = refl
script_by (Some n) = script_at (n == 2)

pub tables_are_read : TablesAreRead
tables_are_read = record {
  specification = λ d. names_by (has_policy d) (has_demands d);
  specification_count = λ d. count_by (has_version 2 d) (has_version 3 d);
  script_count = λ d. script_by (option_and_then as_u64 (option_and_then as_number (get (codes "scram") d)));
}
