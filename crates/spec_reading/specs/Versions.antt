-- The three versions of the specification document, and their members.
use Rattle.std.specs.Prelude.{◌≡◌, ℕ, ◌==◌, ◌||◌, Bool, true, false, List, [], ◌∷◌, codes, Option, Some, None, option_and_then, Result, Ok, ⊤, if◌then◌else◌}
use Rattle.serde_json.specs.Data.{Data}
use Rattle.serde_json.specs.Find.{get, as_number, as_u64}
use Rattle.scram_doc.specs.declared.fault.DocFault.{DocFault}
use Rattle.scram_doc.specs.Chain.{chain}
use Rattle.scram_doc.specs.Members.{object_at, required_at, no_more_than}

-- Whether the version is present and equals `number`.
abbrev pub is_version : ℕ → Option ℕ → Bool
is_version number None = false
is_version number (Some version) = version == number

-- Whether the value of the member `scram` is the whole number `number`.
abbrev pub is_version_in : ℕ → Option Data → Bool
is_version_in number scram = is_version number (option_and_then as_u64 (option_and_then as_number scram))

-- Whether the member `scram` of a document is the whole number `number`.
abbrev pub has_version : ℕ → Data → Bool
has_version number d = is_version_in number (get (codes "scram") d)

-- Whether the document is of version 2 or 3. Only these versions have a policy.
abbrev pub has_policy : Data → Bool
has_policy d = has_version 2 d || has_version 3 d

-- Whether the document is of version 3. Only this version has demands.
abbrev pub has_demands : Data → Bool
has_demands d = has_version 3 d

-- The members of version 1, in the order in which they are checked.
abbrev pub first_members : List (List ℕ)
first_members =
    codes "scram" ∷ codes "processors" ∷ codes "apps" ∷ codes "configurations" ∷ codes "factors" ∷ codes "rules" ∷ codes "bounds"
    ∷ codes "start" ∷ codes "goal" ∷ codes "invariants" ∷ codes "preconditions" ∷ codes "assumption" ∷ []

-- The members of version 1 up to those that contain names, in the order in which they are checked.
abbrev pub naming_members : List (List ℕ)
naming_members = codes "scram" ∷ codes "processors" ∷ codes "apps" ∷ codes "configurations" ∷ codes "factors" ∷ []

-- The first members of version 1 after those that contain names, in the order in which they are checked.
abbrev pub table_members : List (List ℕ)
table_members = codes "rules" ∷ codes "bounds" ∷ codes "start" ∷ codes "goal" ∷ []

-- The last members of version 1, in the order in which they are checked.
abbrev pub limit_members : List (List ℕ)
limit_members = codes "invariants" ∷ codes "preconditions" ∷ codes "assumption" ∷ []

-- The number of members that a document must have. It is 14 in version 3, which has a policy and demands, 13 in
-- version 2, which has a policy, and 12 otherwise.
abbrev pub members_count : Data → ℕ
members_count d = if has_demands d then 14 else (if has_policy d then 13 else 12)

-- The second argument is the policy of the document if its version is 2 or 3, and `None` otherwise.
abbrev pub IsPolicy : Data → Option Data → Type 0
IsPolicy d None = has_policy d ≡ false
IsPolicy d (Some policy) = (has_policy d ≡ true) × (required_at (codes "policy") [] d ≡ Ok policy)

-- The second argument is the demands of the document if its version is 3, and `None` otherwise.
abbrev pub AreDemands : Data → Option Data → Type 0
AreDemands d None = has_demands d ≡ false
AreDemands d (Some demands) = (has_demands d ≡ true) × (required_at (codes "demands") [] d ≡ Ok demands)

-- The result `rest` if each of these members is present, else the fault of the first missing one.
abbrev pub each_then : List (List ℕ) → Data → Result ⊤ DocFault → Result ⊤ DocFault
each_then [] d rest = rest
each_then (name ∷ names) d rest = chain (required_at name [] d) (λ (_ : Data). each_then names d rest)

-- `Ok` if each of these members is present, else the fault of the first missing one.
abbrev pub each_needed : List (List ℕ) → Data → Result ⊤ DocFault
each_needed names d = each_then names d (Ok tt)

-- `Ok` if the policy is present or the document's version has none, else the fault of the missing member.
abbrev pub policy_tested : Data → Result ⊤ DocFault
policy_tested d = if has_policy d then chain (required_at (codes "policy") [] d) (λ (_ : Data). Ok tt) else Ok tt

-- `Ok` if the demands are present or the document's version has none, else the fault of the missing member.
abbrev pub demands_tested : Data → Result ⊤ DocFault
demands_tested d = if has_demands d then chain (required_at (codes "demands") [] d) (λ (_ : Data). Ok tt) else Ok tt

-- `Ok` if the document is an object with exactly the members of its version, else the first broken rule.
abbrev pub members_tested : Data → Result ⊤ DocFault
members_tested d =
    chain (object_at [] d) (λ (_ : ⊤).
    each_then first_members d (chain (policy_tested d) (λ (_ : ⊤). chain (demands_tested d) (λ (_ : ⊤). no_more_than (members_count d) [] d))))
