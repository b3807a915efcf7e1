-- Objects and their members. If the text repeats a member, its last value counts.
use Rattle.std.specs.Prelude.{ℕ, List, Option, Some, None, Result, Ok, nat_le, if◌then◌else◌, ⊤}
use Rattle.serde_json.specs.Data.{Data, Members}
use Rattle.serde_json.specs.Find.{get, as_object}
use Rattle.serde_json.specs.Events.{members_len}
use Rattle.scram_doc.specs.declared.fault.DocFault.{DocFault}
use Rattle.scram_doc.specs.declared.rule.TheConstants.{NO_OBJECT, MISSING_MEMBER, FURTHER_MEMBER}
use Rattle.scram_doc.specs.Chain.{chain, ok_map}
use Rattle.scram_doc.specs.Faults.{broken, or_broken}
use Rattle.scram_doc.specs.Paths.{member_path}

-- The check that the value at a path is an object. Rule 2 is broken at the path if it is not.
abbrev pub object_at : List ℕ → Data → Result ⊤ DocFault
object_at at d = ok_map (λ (_ : Members). tt) (or_broken NO_OBJECT at (as_object d))

-- The value of member `name` of the value at path `at`. Rule 3 is broken at the member's path if there is no such
-- member.
abbrev pub required_at : List ℕ → List ℕ → Data → Result Data DocFault
required_at name at d = or_broken MISSING_MEMBER (member_path at name) (get name d)

-- The check that there are at most `most` members. Rule 4 is broken at the path if there are more. A value that is
-- not an object has no members.
abbrev pub members_within : ℕ → List ℕ → Option Members → Result ⊤ DocFault
members_within most at (Some ms) = if nat_le (members_len ms) most then Ok tt else broken FURTHER_MEMBER at
members_within most at None = Ok tt

-- The check that the value at a path has at most `most` members. Rule 4 is broken at the path if it has more.
abbrev pub no_more_than : ℕ → List ℕ → Data → Result ⊤ DocFault
no_more_than most at d = members_within most at (as_object d)

-- The values of members `l`, `m`, `n` and `o` of the value at path `at`. Rule 3 is broken at the path of the first that
-- is missing.
abbrev pub required_four_at : List ℕ → List ℕ → List ℕ → List ℕ → List ℕ → Data → Result (Data × Data × Data × Data) DocFault
required_four_at l m n o at d =
    chain (required_at l at d) (λ (a : Data).
    chain (required_at m at d) (λ (b : Data).
    chain (required_at n at d) (λ (c : Data).
    chain (required_at o at d) (λ (e : Data). Ok (a, b, c, e)))))

-- The values of members `l` and `m` of the object at path `at`, or the first of rules 2 to 4 that is broken: the value
-- is no object, lacks one of them, or has further members.
abbrev pub exactly_two_at : List ℕ → List ℕ → List ℕ → Data → Result (Data × Data) DocFault
exactly_two_at l m at d =
    chain (object_at at d) (λ (_ : ⊤).
    chain (required_at l at d) (λ (a : Data).
    chain (required_at m at d) (λ (b : Data).
    chain (no_more_than 2 at d) (λ (_ : ⊤). Ok (a, b)))))

-- The values of three members likewise.
abbrev pub exactly_three_at : List ℕ → List ℕ → List ℕ → List ℕ → Data → Result (Data × Data × Data) DocFault
exactly_three_at l m n at d =
    chain (object_at at d) (λ (_ : ⊤).
    chain (required_at l at d) (λ (a : Data).
    chain (required_at m at d) (λ (b : Data).
    chain (required_at n at d) (λ (c : Data).
    chain (no_more_than 3 at d) (λ (_ : ⊤). Ok (a, b, c))))))

-- The values of four members likewise.
abbrev pub exactly_four_at : List ℕ → List ℕ → List ℕ → List ℕ → List ℕ → Data → Result (Data × Data × Data × Data) DocFault
exactly_four_at l m n o at d =
    chain (object_at at d) (λ (_ : ⊤).
    chain (required_four_at l m n o at d) (λ (found : Data × Data × Data × Data).
    chain (no_more_than 4 at d) (λ (_ : ⊤). Ok found)))

-- The values of five members likewise.
abbrev pub exactly_five_at : List ℕ → List ℕ → List ℕ → List ℕ → List ℕ → List ℕ → Data → Result (Data × Data × Data × Data × Data) DocFault
exactly_five_at k l m n o at d =
    chain (object_at at d) (λ (_ : ⊤).
    chain (required_at k at d) (λ (a : Data).
    chain (required_four_at l m n o at d) (λ (others : Data × Data × Data × Data).
    chain (no_more_than 5 at d) (λ (_ : ⊤). Ok (a, others.0, others.1, others.2, others.3)))))
