-- Lemmas on the text of a family, candidate by candidate.
use Rattle.std.proofs.Common.{◌≡◌, ◌∙◌, ℕ, zero, suc, ◌-◌, ◌<◌, Bool, true, false, List, [], ◌∷◌, ◌++◌, length, append_assoc, append-nil, arith, ap, refl, sym}
use Rattle.std.specs.Prelude.{Some, flat_map, slice_get, if◌then◌else◌}
use Rattle.std.specs.Option.{option_map_or}
use Rattle.std.proofs.lemmas.Grind.{flat_map-append}
use Rattle.scram_types.specs.Specification.{Parts}
use Rattle.form_base.specs.Texts.{texts_below}
use Rattle.fault_family.specs.declared.faults.Fault.{Fault}
use Rattle.fault_family.specs.Families.{extended, may_follow}
use Rattle.fault_family.specs.NextFaults.{candidates}
use Rattle.fault_family.specs.Scripts.{is_within, script_of_faults}
use Rattle.faults_form.specs.Families.{branch_text, extended_text, within_text}
use Rattle.faults_form.specs.Lines.{faults_line}

texts_shift : (text : ℕ → List ℕ) (n : ℕ) → texts_below text (suc n) ≡ text 0 ++ texts_below (λ k. text (suc k)) n
texts_shift text zero = sym (append-nil (text 0))
texts_shift text (suc n) = ap (λ (front : List ℕ). front ++ text (suc n)) (texts_shift text n) ∙ append_assoc (text 0) (texts_below (λ k. text (suc k)) n) (text (suc n))

-- The text of item `k` of a list, or the empty text if there is no such item.
abbrev pub item_text : {A : Type 0} → (A → List ℕ) → List A → ℕ → List ℕ
item_text text xs k = option_map_or text (slice_get xs k) []

pub texts_of_items : {A : Type 0} (text : A → List ℕ) (xs : List A) → texts_below (item_text text xs) (length xs) ≡ flat_map text xs
texts_of_items text [] = refl
texts_of_items text (x ∷ xs) = texts_shift (item_text text (x ∷ xs)) (length xs) ∙ ap (λ (rest : List ℕ). text x ++ rest) (texts_of_items text xs)

flat_map_within : {A B : Type 0} (text : B → List ℕ) (parts : A → List B) (of_part : A → List ℕ) → ((x : A) → flat_map text (parts x) ≡ of_part x)
    → (xs : List A) → flat_map text (flat_map parts xs) ≡ flat_map of_part xs
flat_map_within text parts of_part same [] = refl
flat_map_within text parts of_part same (x ∷ xs) =
    flat_map-append text (parts x) (flat_map parts xs)
    ∙ ap (λ (front : List ℕ). front ++ flat_map text (flat_map parts xs)) (same x)
    ∙ ap (λ (rest : List ℕ). of_part x ++ rest) (flat_map_within text parts of_part same xs)

text_where : {B : Type 0} (text : B → List ℕ) (b : Bool) (ys : List B) → flat_map text (if b then ys else []) ≡ (if b then flat_map text ys else [])
text_where text true ys = refl
text_where text false ys = refl

module _ (spec : Parts) where
  extended_branches : (more : ℕ) (before : List Fault) → extended_text spec (suc more) before ≡ flat_map (branch_text spec more before) (candidates spec before)
  extended_branches more before =
      flat_map_within (faults_line spec) (λ (fault : Fault). if may_follow spec before fault then extended spec more (before ++ fault ∷ []) else [])
      (branch_text spec more before) (λ fault. text_where (faults_line spec) (may_follow spec before fault) (extended spec more (before ++ fault ∷ []))) (candidates spec before)

  -- If `more` is greater than 0, the lines of the candidates, concatenated, are the lines of the scripts that begin
  -- with the faults `before` and have `more` further faults.
  pub candidate_texts : (more : ℕ) (before : List Fault) → 0 < more
      → texts_below (item_text (branch_text spec (more - 1) before) (candidates spec before)) (length (candidates spec before)) ≡ extended_text spec more before
  candidate_texts zero before some = absurd (omega (arith, some))
  candidate_texts (suc more) before some =
      let back : suc more - 1 ≡ more = omega arith in
      rw back (texts_of_items (branch_text spec more before) (candidates spec before) ∙ sym (extended_branches more before))

  -- If a candidate may follow the faults `before`, its text consists of the lines of the scripts that begin with
  -- `before` and the candidate. Otherwise, its text is empty.
  pub branch_followed : (more : ℕ) (before : List Fault) (k : ℕ) (fault : Fault) → slice_get (candidates spec before) k ≡ Some fault → may_follow spec before fault ≡ true
      → item_text (branch_text spec more before) (candidates spec before) k ≡ extended_text spec more (before ++ fault ∷ [])
  branch_followed more before k fault there follows = rw (there, follows) refl

  pub branch_not_followed : (more : ℕ) (before : List Fault) (k : ℕ) (fault : Fault) → slice_get (candidates spec before) k ≡ Some fault → may_follow spec before fault ≡ false
      → item_text (branch_text spec more before) (candidates spec before) k ≡ []
  branch_not_followed more before k fault there not_followed = rw (there, not_followed) refl

  line_where : (b : Bool) (faults : List Fault) → flat_map (faults_line spec) (if b then faults ∷ [] else []) ≡ (if b then faults_line spec faults else [])
  line_where true faults = append-nil (faults_line spec faults)
  line_where false faults = refl

  -- If no further fault follows, the text is the line of the script with the given faults, or the empty text if the
  -- script violates the failure assumption.
  pub within_is : (faults : List Fault) → extended_text spec 0 faults ≡ within_text spec faults
  within_is faults = line_where (is_within spec (script_of_faults spec faults)) faults
