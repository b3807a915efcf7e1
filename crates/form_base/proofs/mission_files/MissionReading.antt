-- Lemmas that derive the answer to a mission from its specification and its script.
use Rattle.std.proofs.Common.{◌≡◌, ℕ, List, refl, inl, inr}
use Rattle.std.specs.Prelude.{◌⊎◌, Option, Some, None, Result, Ok, Err, unwrap_or}
use Rattle.scram_types.specs.Scripts.{ScriptParts}
use Rattle.scram_types.specs.Specification.{Parts}
use Rattle.coverage_check.specs.declared.shown.Shown.{Shown}
use Rattle.coverage_check.specs.Missions.{MissionParts, mission_of}
use Rattle.form_base.specs.declared.refusals.Refusal.{Refusal}
use Rattle.form_base.specs.Acceptance.{acceptance_refusal}
use Rattle.form_base.specs.Answers.{Gives}
use Rattle.form_base.specs.Endings.{IsMemoryRefusal, PreparesWithoutFiles}
use Rattle.form_base.specs.Loads.{IsOutOfMemory}
use Rattle.form_base.specs.Refusals.{answer_of}
use Rattle.form_base.proofs.Reading.{memory_refusal}
use Rattle.form_base.specs.mission_files.Missions.{MakesMission, UnlessRefused, mission_refusal, refusal_by}

-- If there is a refusal, the answer is the refusal. Otherwise, the answer is `A`.
pub unless_none : (refusal : Option (ℕ × List ℕ)) (A : ℕ → List ℕ → Type 0) (status : ℕ) (text : List ℕ) → refusal ≡ None → A status text → UnlessRefused refusal A status text
unless_none refusal A status text none is = rw none is

unless_some : (refusal : Option (ℕ × List ℕ)) (A : ℕ → List ℕ → Type 0) (told : ℕ × List ℕ) → refusal ≡ Some told → UnlessRefused refusal A told.0 told.1
unless_some refusal A told some = rw some refl

pub refused_settles : (refusal : Option (ℕ × List ℕ)) (A : ℕ → List ℕ → Type 0) (told : ℕ × List ℕ) → (refusal ≡ Some told) ⊎ IsOutOfMemory told
    → UnlessRefused refusal A told.0 told.1 ⊎ IsMemoryRefusal told.0 told.1
refused_settles refusal A told (inl some) = inl (unless_some refusal A told some)
refused_settles refusal A told (inr is) = inr (memory_refusal told is)

-- The refusal of a specification is the refusal of each mission with the specification.
pub mission_refused : (spec : Parts) (script : ScriptParts) (shown : Option Shown) (told : ℕ × List ℕ) → acceptance_refusal spec shown ≡ Some told → refusal_by spec script shown ≡ Some told
mission_refused spec script None told e = absurd cc
mission_refused spec script (Some shown) told e = e

-- If there is a refusal, the answer is the refusal. Otherwise, it is `answered`.
pub refusal_given : (refusal : Option (ℕ × List ℕ)) (answered told : ℕ × List ℕ) → (refusal ≡ Some told) ⊎ IsOutOfMemory told
    → Gives (unwrap_or refusal answered) told.0 told.1 ⊎ IsMemoryRefusal told.0 told.1
refusal_given refusal answered told (inl some) = inl (rw some refl)
refusal_given refusal answered told (inr is) = inr (memory_refusal told is)

-- If the result satisfies `MakesMission`, the answer to the mission is prepared.
pub mission_settles : (spec : Parts) (script : ScriptParts) (A : MissionParts → ℕ → List ℕ → Type 0) (result : Result MissionParts Refusal) → MakesMission spec script result
    → PreparesWithoutFiles (UnlessRefused (mission_refusal spec script) (A (mission_of spec script))) A result
mission_settles spec script A (Ok mission) makes = λ status text is.
    unless_none (mission_refusal spec script) (A (mission_of spec script)) status text makes.1 (rw (makes.0) at is)
mission_settles spec script A (Err refusal) makes =
    (refused_settles (mission_refusal spec script) (A (mission_of spec script)) (answer_of refusal) makes.0, makes.1)
