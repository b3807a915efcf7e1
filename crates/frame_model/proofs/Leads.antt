-- Lemmas on the search for the lowest-numbered application of a kind.
use Rattle.std.proofs.Common.{◌≡◌, ◌∙◌, ℕ, zero, suc, ◌+◌, ◌<◌, refl, arith, drop, List, [], ◌∷◌, length, true, false}
use Rattle.std.specs.Prelude.{ℤ, ◌==◌, slice_get, slice_index_or, if◌then◌else◌}
use Rattle.std.proofs.lemmas.Bool.Decides.{nat_tests}
use Rattle.std.specs.Option.{option_map_or}
use Rattle.scram_types.specs.declared.specification.AppSpec.{AppSpec}
use Rattle.frame_model.specs.States.{lead_among, zeros}

same : {a b : ℕ} → a ≡ b → (a == b) ≡ true
same {a} {b} is = grind (arith, nat_tests, is)

differ : {a b : ℕ} → (a ≡ b → ⊥) → (a == b) ≡ false
differ {a} {b} apart = grind (arith, nat_tests, apart)

lead_step : (apps : List AppSpec) (areas : List (List ℤ)) (a kind : ℕ) (none : List ℤ) → a < length apps → a < length areas
    → lead_among (drop a apps) (drop a areas) kind
    ≡ (if option_map_or (λ (app : AppSpec). app.kind.0) (slice_get apps a) 0 == kind then slice_index_or areas a none else lead_among (drop (suc a) apps) (drop (suc a) areas) kind)
lead_step [] areas a kind none low room = absurd (omega arith)
lead_step (app ∷ apps) [] a kind none low room = absurd (omega arith)
lead_step (app ∷ apps) (area ∷ areas) zero kind none low room = refl
lead_step (app ∷ apps) (area ∷ areas) (suc a) kind none low room = lead_step apps areas a kind none (omega arith) (omega arith)

pub lead_here : (apps : List AppSpec) (areas : List (List ℤ)) (a kind : ℕ) (none : List ℤ) → a < length apps → length areas ≡ 8 → a < 8
    → option_map_or (λ (app : AppSpec). app.kind.0) (slice_get apps a) 0 ≡ kind → lead_among (drop a apps) (drop a areas) kind ≡ slice_index_or areas a none
lead_here apps areas a kind none low eight room is =
    let test : (option_map_or (λ (app : AppSpec). app.kind.0) (slice_get apps a) 0 == kind) ≡ true = same is in
    lead_step apps areas a kind none low (rw eight room) ∙ rw test refl

pub lead_later : (apps : List AppSpec) (areas : List (List ℤ)) (a kind : ℕ) → a < length apps → length areas ≡ 8 → a < 8
    → (option_map_or (λ (app : AppSpec). app.kind.0) (slice_get apps a) 0 ≡ kind → ⊥) → lead_among (drop a apps) (drop a areas) kind ≡ lead_among (drop (a + 1) apps) (drop (a + 1) areas) kind
lead_later apps areas a kind low eight room is = let e : a + 1 ≡ suc a = omega arith in lead_step apps areas a kind zeros low (rw eight room) ∙ rw (differ is, e) refl

pub lead_none : (apps : List AppSpec) (areas : List (List ℤ)) (kind : ℕ) → lead_among (drop (length apps) apps) areas kind ≡ zeros
lead_none [] areas kind = refl
lead_none (app ∷ apps) areas kind = lead_none apps areas kind
