-- The slots of an image past the last application are zeros.
use Rattle.std.proofs.Common.{◌≡◌, ℕ, zero, suc, ◌≤◌, refl, arith, length, Bool, true, false, List, [], ◌∷◌}
use Rattle.std.specs.Prelude.{ℤ, Option, Some, None, option_and_then, slice_get, if◌then◌else◌}
use Rattle.scram_types.specs.declared.ids.ConfId.{ConfId}
use Rattle.scram_types.specs.declared.specification.AppSpec.{AppSpec}
use Rattle.scram_types.specs.declared.specification.Conf.{Conf}
use Rattle.scram_types.specs.declared.specification.Place.{Place}
use Rattle.scram_types.specs.Scripts.{ScriptParts}
use Rattle.scram_types.specs.Specification.{IsSpec, Parts, place_in}
use Rattle.scram_types.specs.Lookups.{place_of}
use Rattle.fault_script.specs.Times.{commits}
use Rattle.frame_model.specs.declared.phases.Phase.{Phase}
use Rattle.frame_model.specs.declared.phases.Phase.TheVariants.{Running, Halting, Preparing, Initialising}
use Rattle.frame_model.specs.Flights.{decided, slot_after}
use Rattle.frame_model.specs.Phases.{phase_at}
use Rattle.frame_model.specs.States.{zeros}
use Rattle.frame_model.specs.Tasks.{task_in}

none_past : (apps : List AppSpec) (a : ℕ) (app : AppSpec) → length apps ≤ a → slice_get apps a ≡ Some app → ⊥
none_past [] a app low is = cc
none_past (x ∷ xs) zero app low is = absurd (omega arith)
none_past (x ∷ xs) (suc a) app low is = none_past xs a app (omega arith) is

placed_past : (spec : Parts) → IsSpec spec → (c a : ℕ) → length spec.apps ≤ a → (found : Option Conf) → slice_get spec.confs c ≡ found → (place : Option Place)
    → option_and_then (λ (conf : Conf). place_in conf a) found ≡ place → place ≡ None
placed_past spec facts c a low found there None is = refl
placed_past spec facts c a low None there (Some place) is = cc
placed_past spec facts c a low (Some conf) there (Some place) is =
    let stands = (facts.confs c conf there).places a place is in absurd (none_past spec.apps a stands.app low stands.there)

place_past : (spec : Parts) → IsSpec spec → (c : ConfId) (a : ℕ) → length spec.apps ≤ a → place_of spec c a ≡ None
place_past spec facts c a low = placed_past spec facts c.0 a low (slice_get spec.confs c.0) refl (place_of spec c a) refl

task_past : (spec : Parts) → IsSpec spec → (phase : Phase) (a : ℕ) → length spec.apps ≤ a → (task_in spec phase a).proc ≡ None
task_past spec facts (Running c) a low = rw (place_past spec facts c a low) refl
task_past spec facts (Halting c age) a low = rw (place_past spec facts c a low) refl
task_past spec facts (Preparing c age) a low = rw (place_past spec facts c a low) refl
task_past spec facts (Initialising c age) a low = rw (place_past spec facts c a low) refl

chosen : (b : Bool) (x y : List ℤ) → x ≡ zeros → y ≡ zeros → (if b then x else y) ≡ zeros
chosen true x y is_x is_y = is_x
chosen false x y is_x is_y = is_y

pub slot_past : (spec : Parts) → IsSpec spec → (script : ScriptParts) (p f a : ℕ) → length spec.apps ≤ a → slot_after spec script p f a ≡ zeros
slot_past spec facts script p zero a low = rw (place_past spec facts spec.start a low) refl
slot_past spec facts script p (suc f) a low =
    let before = slot_past spec facts script p f a low in
    let none = task_past spec facts (phase_at spec (decided spec script f) f) a low in
    chosen (commits spec script p f) _ _ (rw none before) before
