-- Properties of lists of zero, one and two items, for the small specification of the tests.
use Rattle.std.proofs.Common.{rules, ◌≡◌, ℕ, zero, suc, List, [], ◌∷◌, subst, sym, refl, ap, ◌∙◌, arith}
use Rattle.std.specs.Prelude.{slice_index_or, IsTrue, codes, pos}
use Rattle.scram_types.specs.declared.specification.AppSpec.{AppSpec}
use Rattle.scram_types.specs.declared.specification.Conf.{Conf}
use Rattle.scram_types.specs.declared.specification.Factor.{Factor}
use Rattle.scram_types.specs.declared.specification.Policy.TheVariants.{Retarget}
use Rattle.scram_types.specs.declared.specification.Proc.{Proc}
use Rattle.scram_types.specs.Names.{is_name}
use Rattle.scram_types.specs.Specification.{Each, HasNames, HasValueNames, IsAppSpec, IsConf, IsFactor, IsProc, IsSpec, NamesDiffer, Parts}
use Rattle.std.proofs.lemmas.Option.{same_Some}

pub each_none : {A : Type 0} (P : A → Type 0) → Each P []
each_none P i x there = absurd cc

pub each_one : {A : Type 0} (P : A → Type 0) (x : A) → P x → Each P (x ∷ [])
each_one P x fact zero y there = subst P (same_Some x y there) fact
each_one P x fact (suc i) y there = absurd cc

pub each_two : {A : Type 0} (P : A → Type 0) (x y : A) → P x → P y → Each P (x ∷ y ∷ [])
each_two P x y first second zero z there = subst P (same_Some x z there) first
each_two P x y first second (suc i) z there = each_one P y second i z there

pub differ_none : {A : Type 0} (name : A → List ℕ) → NamesDiffer name []
differ_none name i j x y first second same = absurd cc

pub differ_one : {A : Type 0} (name : A → List ℕ) (x : A) → NamesDiffer name (x ∷ [])
differ_one name x zero zero y z first second same = refl
differ_one name x zero (suc j) y z first second same = absurd cc
differ_one name x (suc i) j y z first second same = absurd cc

pub differ_two : {A : Type 0} (name : A → List ℕ) (x y : A) → (name x ≡ name y → ⊥) → NamesDiffer name (x ∷ y ∷ [])
differ_two name x y apart zero zero a b first second same = refl
differ_two name x y apart zero (suc zero) a b first second same = absurd (apart (subst (λ z. name z ≡ name y) (sym (same_Some x a first)) (subst (λ z. name a ≡ name z) (sym (same_Some y b second)) same)))
differ_two name x y apart zero (suc (suc j)) a b first second same = absurd cc
differ_two name x y apart (suc zero) zero a b first second same = absurd (apart (sym (subst (λ z. name z ≡ name x) (sym (same_Some y a first)) (subst (λ z. name a ≡ name z) (sym (same_Some x b second)) same))))
differ_two name x y apart (suc zero) (suc zero) a b first second same = refl
differ_two name x y apart (suc zero) (suc (suc j)) a b first second same = absurd cc
differ_two name x y apart (suc (suc i)) j a b first second same = absurd cc

-- A specification with two processors, one application, one configuration and two factors.
abbrev pub small : Proc → Proc → AppSpec → Conf → Factor → Factor → Parts
small p0 p1 app conf x0 x1 = record {
  procs = p0 ∷ p1 ∷ [];
  apps = app ∷ [];
  confs = conf ∷ [];
  factors = x0 ∷ x1 ∷ [];
  rules = [];
  bounds = [];
  start = record { 0 = 0 };
  goal = record { altitude = pos 5000; heading = pos 900 };
  invariants = [];
  preconditions = [];
  policy = Retarget;
  demands = [];
  halts = 2;
  changes = 1;
  window = 40;
}

-- If the items have valid names, the small specification satisfies `HasNames`.
pub small_names : (p0 p1 : Proc) (app : AppSpec) (conf : Conf) (x0 x1 : Factor) → IsTrue (is_name p0.name) → IsTrue (is_name p1.name) → IsTrue (is_name app.name) → IsTrue (is_name conf.name)
    → IsTrue (is_name x0.name) → IsTrue (is_name x1.name) → HasValueNames x0 → HasValueNames x1 → HasNames (small p0 p1 app conf x0 x1)
small_names p0 p1 app conf x0 x1 named0 named1 named_app named_conf named_x0 named_x1 values0 values1 = record {
  procs = each_two (λ (p : Proc). IsTrue (is_name p.name)) p0 p1 named0 named1;
  apps = each_one (λ (a : AppSpec). IsTrue (is_name a.name)) app named_app;
  confs = each_one (λ (c : Conf). IsTrue (is_name c.name)) conf named_conf;
  factors = each_two (λ (x : Factor). IsTrue (is_name x.name)) x0 x1 named_x0 named_x1;
  values = each_two HasValueNames x0 x1 values0 values1;
  demands = each_none _;
}

-- If the items satisfy their invariants, the small specification satisfies its invariant.
pub small_kept : (p0 p1 : Proc) (app : AppSpec) (conf : Conf) (x0 x1 : Factor) → p0.name ≡ codes "p0" → p1.name ≡ codes "p1" → IsProc p0 → IsProc p1 → IsAppSpec (app ∷ []) app
    → ((procs : List Proc) (apps : List AppSpec) → IsConf procs apps conf) → x0.name ≡ codes "alternator1" → x1.name ≡ codes "alternator2" → IsFactor x0 → IsFactor x1
    → HasNames (small p0 p1 app conf x0 x1) → IsSpec (small p0 p1 app conf x0 x1)
small_kept p0 p1 app conf x0 x1 name0 name1 kept0 kept1 kept_app kept_conf name_x0 name_x1 kept_x0 kept_x1 names = record {
  names = names;
  procs_count = record { enough = omega arith; few = omega arith };
  procs_differ = differ_two (λ (p : Proc). p.name) p0 p1 (λ same. let e : 48 ≡ 49 = ap (λ (t : List ℕ). slice_index_or t 1 0) (sym name0 ∙ same ∙ name1) in absurd (omega (arith, e)));
  procs = each_two IsProc p0 p1 kept0 kept1;
  apps_count = record { enough = omega arith; few = omega arith };
  apps_differ = differ_one (λ (a : AppSpec). a.name) app;
  apps = each_one (IsAppSpec (app ∷ [])) app kept_app;
  confs_count = record { enough = omega arith; few = omega arith };
  confs_differ = differ_one (λ (c : Conf). c.name) conf;
  confs = each_one (IsConf (p0 ∷ p1 ∷ []) (app ∷ [])) conf (kept_conf (p0 ∷ p1 ∷ []) (app ∷ []));
  factors_count = omega arith;
  factors_differ = differ_two (λ (x : Factor). x.name) x0 x1 (λ same. let e : 49 ≡ 50 = ap (λ (t : List ℕ). slice_index_or t 10 0) (sym name_x0 ∙ same ∙ name_x1) in absurd (omega (arith, e)));
  factors = each_two IsFactor x0 x1 kept_x0 kept_x1;
  rules_count = omega arith;
  rules = each_none _;
  bounds_count = omega arith;
  bounds = each_none _;
  start = omega arith;
  goal = record { lowest = search rules; highest = search rules; first = search rules; last = search rules };
  invariants_count = omega arith;
  invariants = each_none _;
  preconditions_count = omega arith;
  preconditions = each_none _;
  demands_count = omega arith;
  demands_differ = differ_none _;
  demands = each_none _;
  halts = omega arith;
  changes = omega arith;
  window_least = omega arith;
  window_most = omega arith;
}
