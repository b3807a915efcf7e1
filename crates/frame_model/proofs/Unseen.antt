-- The effect of a frame does not depend on what a script lists for later frames.
use Rattle.std.proofs.Common.{◌≡◌, ◌∙◌, ℕ, zero, suc, ◌≤◌, refl, ap, sym, arith, Bool, true, false, List, [], ◌∷◌}
use Rattle.std.specs.Prelude.{filter, nat_le, if◌then◌else◌}
use Rattle.std.proofs.Math.Path.{fun_ext}
use Rattle.std.proofs.lemmas.Bool.Decides.{nat_tests}
use Rattle.scram_types.specs.declared.scripts.Change.{Change}
use Rattle.scram_types.specs.declared.scripts.HaltAt.{HaltAt}
use Rattle.scram_types.specs.declared.scripts.RestartAt.{RestartAt}
use Rattle.scram_types.specs.Scripts.{ScriptParts}
use Rattle.scram_types.specs.Specification.{Parts}
use Rattle.fault_script.specs.Environments.{env_at}
use Rattle.fault_script.specs.Laws.{AgreeUpTo, LaterIsUnseen as ScriptUnseen}
use Rattle.fault_script.specs.Times.{commits}
use Rattle.frame_model.specs.Flights.{state_after}
use Rattle.frame_model.specs.Laws.{LaterIsUnseenInRows}
use Rattle.frame_model.specs.States.{row_of, step}

narrow_one : {A : Type 0} (frame : A → ℕ) (f g : ℕ) (x : A) (all some : List A) (b : Bool) → g ≤ f → nat_le (frame x) f ≡ b
    → all ≡ filter (λ y. nat_le (frame y) g) some
    → (if nat_le (frame x) g then x ∷ all else all) ≡ filter (λ y. nat_le (frame y) g) (if b then x ∷ some else some)
narrow_one frame f g x all some true le is before = ap (λ l. if nat_le (frame x) g then x ∷ l else l) before
narrow_one frame f g x all some false le is before =
    let out : nat_le (frame x) g ≡ false = grind (arith, nat_tests, is, le) in
    rw out before

narrow : {A : Type 0} (frame : A → ℕ) (f g : ℕ) (xs : List A) → g ≤ f → filter (λ y. nat_le (frame y) g) xs ≡ filter (λ y. nat_le (frame y) g) (filter (λ y. nat_le (frame y) f) xs)
narrow frame f g [] le = refl
narrow frame f g (x ∷ xs) le =
    narrow_one frame f g x (filter (λ y. nat_le (frame y) g) xs) (filter (λ y. nat_le (frame y) f) xs) (nat_le (frame x) f) le refl (narrow frame f g xs le)

same_before : {A : Type 0} (frame : A → ℕ) (f g : ℕ) (xs ys : List A) → g ≤ f → filter (λ y. nat_le (frame y) f) xs ≡ filter (λ y. nat_le (frame y) f) ys
    → filter (λ y. nat_le (frame y) g) xs ≡ filter (λ y. nat_le (frame y) g) ys
same_before frame f g xs ys le same = narrow frame f g xs le ∙ ap (filter (λ y. nat_le (frame y) g)) same ∙ sym (narrow frame f g ys le)

agree_before : (f g : ℕ) (one other : ScriptParts) → g ≤ f → AgreeUpTo f one other → AgreeUpTo g one other
agree_before f g one other le agree = record {
  changes = same_before (λ (change : Change). change.frame) f g one.changes other.changes le agree.changes;
  halts = same_before (λ (halt : HaltAt). halt.frame) f g one.halts other.halts le agree.halts;
  restarts = same_before (λ (restart : RestartAt). restart.frame) f g one.restarts other.restarts le agree.restarts;
}

states_same : ScriptUnseen → (spec : Parts) (one other : ScriptParts) (f : ℕ) → AgreeUpTo f one other → (n : ℕ) → n ≤ suc f → state_after spec one n ≡ state_after spec other n
states_same unseen spec one other f agree zero le = refl
states_same unseen spec one other f agree (suc n) le =
    let seen = unseen spec one other n (agree_before f n one other (omega arith) agree) in
    ap (step spec n (env_at spec one n) (λ p. commits spec one p n)) (states_same unseen spec one other f agree n (omega arith))
    ∙ ap (λ v. step spec n v (λ p. commits spec one p n) (state_after spec other n)) seen.0
    ∙ ap (λ c. step spec n (env_at spec other n) c (state_after spec other n)) (fun_ext seen.1)

pub unseen_later : ScriptUnseen → LaterIsUnseenInRows
unseen_later unseen spec one other f agree =
    let seen = unseen spec one other f agree in (
      ap (row_of spec f (env_at spec one f) (λ p. commits spec one p f)) (states_same unseen spec one other f agree f (omega arith))
          ∙ ap (λ v. row_of spec f v (λ p. commits spec one p f) (state_after spec other f)) seen.0
          ∙ ap (λ c. row_of spec f (env_at spec other f) c (state_after spec other f)) (fun_ext seen.1),
      states_same unseen spec one other f agree (suc f) (omega arith),
    )
