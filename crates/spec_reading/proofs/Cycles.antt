-- Applications that are ranked have no cycle of needs, and the applications of a cycle exist.
use Rattle.std.proofs.Common.{◌≡◌, ◌<◌, zero, suc, Bool, true, List, [], ◌∷◌, length, refl, subst, sym}
use Rattle.std.specs.Prelude.{Some, None, Result, Ok, Err, OnOk}
use Rattle.std.proofs.lemmas.Option.{slice_get_within}
use Rattle.scram_types.specs.declared.ids.AppId.{AppId}
use Rattle.scram_types.specs.Specification.{Each}
use Rattle.dep_order.specs.Ranks.{Needs, NeedsInTurn, IsCycle}
use Rattle.scram_types.specs.declared.specification.AppSpec.{AppSpec}
use Rattle.scram_doc.specs.declared.fault.DocFault.{DocFault}
use Rattle.spec_reading.specs.Needs.{are_ranked}
use Rattle.spec_reading.specs.Answers.{CycleIf, HasNoCycle}

pub no_cycle : {A E : Type 0} → (answer : Result A E) (unranked : Result (List AppSpec) DocFault) (apps : List AppSpec) → unranked ≡ Ok apps
    → OnOk answer (are_ranked apps ≡ true) → OnOk answer (HasNoCycle unranked)
no_cycle (Ok a) unranked apps is ranked = subst HasNoCycle (sym is) (subst (λ (b : Bool). CycleIf b apps []) (sym ranked) refl)
no_cycle (Err e) unranked apps is ranked = ranked

same : (x y : AppId) → Some x ≡ Some y → x ≡ y
same x y e = cc

needs_something : (apps : List AppSpec) (a b : AppId) → Needs apps a b → a.0 < length apps
needs_something apps a b is = slice_get_within apps a.0 is.app is.there

in_turn_there : (apps : List AppSpec) (listed : List AppId) (end : AppId) → NeedsInTurn apps listed end → Each (λ (a : AppId). a.0 < length apps) listed
in_turn_there apps [] end turn i x e = absurd (let none : None ≡ Some x = e in cc)
in_turn_there apps (a ∷ []) end turn zero x e = subst (λ (y : AppId). y.0 < length apps) (same a x e) (needs_something apps a end turn)
in_turn_there apps (a ∷ []) end turn (suc i) x e = absurd (let none : None ≡ Some x = e in cc)
in_turn_there apps (a ∷ b ∷ rest) end turn zero x e = subst (λ (y : AppId). y.0 < length apps) (same a x e) (needs_something apps a b turn.0)
in_turn_there apps (a ∷ b ∷ rest) end turn (suc i) x e = in_turn_there apps (b ∷ rest) end turn.1 i x e

pub cycle_there : (apps : List AppSpec) (cycle : List AppId) → IsCycle apps cycle → Each (λ (a : AppId). a.0 < length apps) cycle
cycle_there apps cycle is = in_turn_there apps cycle is.first is.closed
