-- The canonical text of a script is the text spelled member by member, in which names are between quotes without
-- escapes.
use Rattle.std.proofs.Common.{◌≡◌, ◌∙◌, ℕ, suc, ◌+◌, Bool, true, false, List, [], ◌∷◌, ◌++◌, length, map, append_assoc, arith, ap, refl, sym}
use Rattle.std.specs.Prelude.{nat_lt, slice_get, Option, Some, None, codes, decimal, filter_map}
use Rattle.std.specs.List.{cons_option, list_all}
use Rattle.std.specs.Option.{option_map_or}
use Rattle.std.proofs.lemmas.Bool.Decides.{nat_tests}
use Rattle.std.proofs.lemmas.Fmt.{decimal_digit}
use Rattle.json.specs.Print.{quoted}
use Rattle.serde_json.specs.Data.{Data, Members, member, no_members, string}
use Rattle.serde_json.specs.View.{items_of}
use Rattle.serde_json.specs.Written.{comma_if, compact_text, items_text, members_text}
use Rattle.scram_doc.specs.Canonical.{count_data, list_data}
use Rattle.scram_doc.specs.Names.{is_letter_of_name}
use Rattle.scram_doc.proofs.QuotedNames.{quoted_found, quoted_letters}
use Rattle.scram_types.specs.declared.scripts.Change.{Change}
use Rattle.scram_types.specs.declared.scripts.HaltAt.{HaltAt}
use Rattle.scram_types.specs.declared.scripts.RestartAt.{RestartAt}
use Rattle.scram_types.specs.declared.specification.Factor.{Factor}
use Rattle.scram_types.specs.declared.specification.Proc.{Proc}
use Rattle.scram_types.specs.Lookups.{factor_name, proc_name, value_name}
use Rattle.scram_types.specs.Scripts.{ScriptParts}
use Rattle.scram_types.specs.Specification.{HasNames, HasValueNames, IsSpec, Parts}
use Rattle.fault_script.specs.Texts.{change_data, halt_data, new_value_name, restart_data, script_text}
use Rattle.fault_family.specs.declared.faults.Fault.{Fault}
use Rattle.fault_family.specs.declared.faults.FaultKind.{FaultKind}
use Rattle.fault_family.specs.declared.faults.FaultKind.TheVariants as kind
use Rattle.fault_family.specs.Scripts.{change_fault_in, change_of_fault, halt_fault_in, halt_of_fault, restart_fault_in, restart_of_fault}
use Rattle.faults_form.specs.Lines.{spelled_change, spelled_halt, listed_text, spelled_restart, spelled_script, version_text}

-- The numbers of changes, halts and restarts in a list of faults add up to the number of faults.

counted_by : (frame : ℕ) (kind : FaultKind) (changes : List Change) (halts : List HaltAt) (restarts : List RestartAt)
    → length (cons_option (change_fault_in frame kind) changes) + length (cons_option (halt_fault_in frame kind) halts) + length (cons_option (restart_fault_in frame kind) restarts)
    ≡ suc (length changes + length halts + length restarts)
counted_by frame (kind.Change factor value) changes halts restarts = omega arith
counted_by frame (kind.Halt proc step) changes halts restarts = omega arith
counted_by frame (kind.Restart proc) changes halts restarts = omega arith

pub counted : (faults : List Fault) → length (filter_map change_of_fault faults) + length (filter_map halt_of_fault faults) + length (filter_map restart_of_fault faults) ≡ length faults
counted [] = refl
counted (fault ∷ faults) =
    let here = counted_by fault.frame fault.kind (filter_map change_of_fault faults) (filter_map halt_of_fault faults) (filter_map restart_of_fault faults) in
    let rest = counted faults in
    omega (arith, here, rest)

-- If there are restarts, the text ends with the restarts and version 2. Otherwise, it ends with version 1.

pub second_version : (spec : Parts) (restarts : List RestartAt) → nat_lt 0 (length restarts) ≡ true
    → version_text spec restarts ≡ codes ",\"restarts\":[" ++ (listed_text false (map (spelled_restart spec) restarts) ++ codes ",\"scram\":2}")
second_version spec [] some = absurd cc
second_version spec (restart ∷ restarts) some = refl

pub first_version : (spec : Parts) (restarts : List RestartAt) → nat_lt 0 (length restarts) ≡ false → version_text spec restarts ≡ codes ",\"scram\":1}"
first_version spec [] none = refl
first_version spec (restart ∷ restarts) none = absurd (grind (arith, nat_tests, none))

-- The name of a value is printed between quotes without escapes.

quoted_value : (found : Option Factor) (value : ℕ) → ((factor : Factor) → found ≡ Some factor → HasValueNames factor)
    → quoted (option_map_or (λ (factor : Factor). value_name factor value) found []) ≡ 34 ∷ (option_map_or (λ (factor : Factor). value_name factor value) found [] ++ 34 ∷ [])
quoted_value None value named = refl
quoted_value (Some factor) value named = quoted_found (λ (name : List ℕ). name) (slice_get factor.values value) (named factor refl value)

-- Lemmas on the members of an object whose names are letters.

member_is : (later : Bool) (key : List ℕ) (value : Data) (members : Members) (text rest : List ℕ) → list_all is_letter_of_name key ≡ true → compact_text value ≡ text → members_text true members ≡ rest
    → members_text later (member key value members) ≡ comma_if later ++ 34 ∷ (key ++ 34 ∷ 58 ∷ (text ++ rest))
member_is later key value members text rest spelled here behind =
    ap (λ (name : List ℕ). comma_if later ++ (name ++ 58 ∷ (compact_text value ++ members_text true members))) (quoted_letters key spelled)
    ∙ ap (λ (after : List ℕ). comma_if later ++ 34 ∷ after) (append_assoc key (34 ∷ []) (58 ∷ (compact_text value ++ members_text true members)))
    ∙ ap (λ (value_text : List ℕ). comma_if later ++ 34 ∷ (key ++ 34 ∷ 58 ∷ (value_text ++ members_text true members))) here
    ∙ ap (λ (after : List ℕ). comma_if later ++ 34 ∷ (key ++ 34 ∷ 58 ∷ (text ++ after))) behind

named_member_is : (later : Bool) (key name : List ℕ) (members : Members) (rest : List ℕ) → list_all is_letter_of_name key ≡ true → quoted name ≡ 34 ∷ (name ++ 34 ∷ []) → members_text true members ≡ rest
    → members_text later (member key (string name) members) ≡ comma_if later ++ 34 ∷ (key ++ 34 ∷ 58 ∷ 34 ∷ (name ++ 34 ∷ rest))
named_member_is later key name members rest spelled named behind =
    member_is later key (string name) members (34 ∷ (name ++ 34 ∷ [])) rest spelled named behind
    ∙ ap (λ (after : List ℕ). comma_if later ++ 34 ∷ (key ++ 34 ∷ 58 ∷ 34 ∷ after)) (append_assoc name (34 ∷ []) rest)

-- Lemmas on the canonical texts of the items of a script.

module _ (spec : Parts) (names : HasNames spec) where
  change_spelled : (change : Change) → compact_text (change_data spec change) ≡ spelled_change spec change
  unfolding spelled_change
  change_spelled change =
      let factor : quoted (factor_name spec change.factor.0) ≡ 34 ∷ (factor_name spec change.factor.0 ++ 34 ∷ []) =
      quoted_found (λ (factor : Factor). factor.name) (slice_get spec.factors change.factor.0) (names.factors change.factor.0) in
      let value : quoted (new_value_name spec change) ≡ 34 ∷ (new_value_name spec change ++ 34 ∷ []) =
      quoted_value (slice_get spec.factors change.factor.0) change.value (names.values change.factor.0) in
      let last = member (codes "value") (string (new_value_name spec change)) no_members in
      ap (λ (text : List ℕ). 123 ∷ text)
      (named_member_is false (codes "factor") (factor_name spec change.factor.0) (member (codes "frame") (count_data change.frame) last) _ refl factor
      (member_is true (codes "frame") (count_data change.frame) last (decimal change.frame) _ refl refl
      (named_member_is true (codes "value") (new_value_name spec change) no_members (125 ∷ []) refl value refl)))

  halt_spelled : (halt : HaltAt) → compact_text (halt_data spec halt) ≡ spelled_halt spec halt
  unfolding spelled_halt
  halt_spelled halt =
      let proc : quoted (proc_name spec halt.proc.0) ≡ 34 ∷ (proc_name spec halt.proc.0 ++ 34 ∷ []) =
      quoted_found (λ (proc : Proc). proc.name) (slice_get spec.procs halt.proc.0) (names.procs halt.proc.0) in
      let last = member (codes "step") (count_data halt.step) no_members in
      ap (λ (text : List ℕ). 123 ∷ text)
      (member_is false (codes "frame") (count_data halt.frame) (member (codes "processor") (string (proc_name spec halt.proc.0)) last) (decimal halt.frame) _ refl refl
      (named_member_is true (codes "processor") (proc_name spec halt.proc.0) last _ refl proc
      (member_is true (codes "step") (count_data halt.step) no_members (decimal halt.step) (125 ∷ []) refl refl refl)))

  restart_spelled : (restart : RestartAt) → compact_text (restart_data spec restart) ≡ spelled_restart spec restart
  unfolding spelled_restart
  restart_spelled restart =
      let proc : quoted (proc_name spec restart.proc.0) ≡ 34 ∷ (proc_name spec restart.proc.0 ++ 34 ∷ []) =
      quoted_found (λ (proc : Proc). proc.name) (slice_get spec.procs restart.proc.0) (names.procs restart.proc.0) in
      ap (λ (text : List ℕ). 123 ∷ text)
      (member_is false (codes "frame") (count_data restart.frame) (member (codes "processor") (string (proc_name spec restart.proc.0)) no_members) (decimal restart.frame) _ refl refl
      (named_member_is true (codes "processor") (proc_name spec restart.proc.0) no_members (125 ∷ []) refl proc refl))

items_spelled : {A : Type 0} (data_of : A → Data) (text_of : A → List ℕ) → ((x : A) → compact_text (data_of x) ≡ text_of x) → (xs : List A) (later : Bool)
    → items_text later (items_of (map data_of xs)) ≡ listed_text later (map text_of xs)
items_spelled data_of text_of same [] later = refl
items_spelled data_of text_of same (x ∷ xs) later =
    ap (λ (text : List ℕ). comma_if later ++ (text ++ items_text true (items_of (map data_of xs)))) (same x)
    ∙ ap (λ (rest : List ℕ). comma_if later ++ (text_of x ++ rest)) (items_spelled data_of text_of same xs true)

list_spelled : {A : Type 0} (data_of : A → Data) (text_of : A → List ℕ) → ((x : A) → compact_text (data_of x) ≡ text_of x) → (xs : List A)
    → compact_text (list_data data_of xs) ≡ 91 ∷ listed_text false (map text_of xs)
list_spelled data_of text_of same xs = ap (λ (text : List ℕ). 91 ∷ text) (items_spelled data_of text_of same xs false)

module _ (spec : Parts) (names : HasNames spec) (frames : ℕ) (changes : List Change) (halts : List HaltAt) where
  script_spelled_by : (restarts : List RestartAt) → script_text spec (record { frames = frames; changes = changes; halts = halts; restarts = restarts })
      ≡ spelled_script spec (record { frames = frames; changes = changes; halts = halts; restarts = restarts })
  script_spelled_by [] =
      let version = member (codes "scram") (count_data 1) no_members in
      let last = member (codes "halts") (list_data (halt_data spec) halts) version in
      ap (λ (text : List ℕ). 123 ∷ text)
      (member_is false (codes "changes") (list_data (change_data spec) changes) (member (codes "frames") (count_data frames) last) (91 ∷ listed_text false (map (spelled_change spec) changes)) _ refl (list_spelled (change_data spec) (spelled_change spec) (change_spelled spec names) changes)
      (member_is true (codes "frames") (count_data frames) last (decimal frames) _ refl refl
      (member_is true (codes "halts") (list_data (halt_data spec) halts) version (91 ∷ listed_text false (map (spelled_halt spec) halts)) _ refl (list_spelled (halt_data spec) (spelled_halt spec) (halt_spelled spec names) halts)
      (member_is true (codes "scram") (count_data 1) no_members (codes "1") (125 ∷ []) refl (decimal_digit 1 (omega arith)) refl))))
  script_spelled_by (restart ∷ restarts) =
      let version = member (codes "restarts") (list_data (restart_data spec) (restart ∷ restarts)) (member (codes "scram") (count_data 2) no_members) in
      let last = member (codes "halts") (list_data (halt_data spec) halts) version in
      ap (λ (text : List ℕ). 123 ∷ text)
      (member_is false (codes "changes") (list_data (change_data spec) changes) (member (codes "frames") (count_data frames) last) (91 ∷ listed_text false (map (spelled_change spec) changes)) _ refl (list_spelled (change_data spec) (spelled_change spec) (change_spelled spec names) changes)
      (member_is true (codes "frames") (count_data frames) last (decimal frames) _ refl refl
      (member_is true (codes "halts") (list_data (halt_data spec) halts) version (91 ∷ listed_text false (map (spelled_halt spec) halts)) _ refl (list_spelled (halt_data spec) (spelled_halt spec) (halt_spelled spec names) halts)
      (member_is true (codes "restarts") (list_data (restart_data spec) (restart ∷ restarts)) (member (codes "scram") (count_data 2) no_members) (91 ∷ listed_text false (map (spelled_restart spec) (restart ∷ restarts))) _ refl (list_spelled (restart_data spec) (spelled_restart spec) (restart_spelled spec names) (restart ∷ restarts))
      (member_is true (codes "scram") (count_data 2) no_members (codes "2") (125 ∷ []) refl (decimal_digit 2 (omega arith)) refl)))))

-- The text of a script spelled member by member is its canonical text.
pub script_spelled : (spec : Parts) (script : ScriptParts) → IsSpec spec → spelled_script spec script ≡ script_text spec script
script_spelled spec script is = sym (script_spelled_by spec is.names script.frames script.changes script.halts script.restarts)
