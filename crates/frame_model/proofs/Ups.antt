-- The processors that are up, from frame to frame.
use Rattle.std.proofs.Common.{◌≡◌, ◌∙◌, ℕ, zero, suc, ◌<◌, ◌≤◌, refl, sym, arith, length, Bool, true, false, not, ◌&&◌, ◌||◌, List, [], ◌∷◌}
use Rattle.std.specs.Prelude.{◌==◌, nat_le, nat_lt, Option, Some, None, IfSome, bit_and, bit_or, if◌then◌else◌}
use Rattle.std.specs.List.{list_any}
use Rattle.std.specs.Int.{bit_not, w8}
use Rattle.std.proofs.lemmas.Bool.Decides.{nat_tests}
use Rattle.std.proofs.Math.Bool.{and-false, and-true}
use Rattle.scram_types.specs.declared.scripts.HaltAt.{HaltAt}
use Rattle.scram_types.specs.declared.scripts.RestartAt.{RestartAt}
use Rattle.scram_types.specs.Scripts.{ScriptParts}
use Rattle.scram_types.specs.Specification.{Parts}
use Rattle.scram_types.specs.Bits.{has_bit, bits_below}
use Rattle.scram_types.proofs.Items.{any_or, any_same, none_any}
use Rattle.scram_types.proofs.BitSets.{bits_but, bits_or, has_bits, same_bits}
use Rattle.fault_script.specs.Environments.{env_at}
use Rattle.fault_script.specs.Times.{commits, halts_before_mark, halts_in, is_halt_in, is_restart_between, is_up, is_up_since, latest_halt, restarted, words, halts_after_mark, restarts_in}
use Rattle.fault_script.specs.Inputs.{input_at}
use Rattle.frame_model.specs.Standing.{is_up_before, up_before}

-- A restart after a halt is at or before frame `f + 1` if and only if it is at or before frame `f`, or in frame `f +
-- 1`.
one_more : (b : Bool) (h f r : ℕ) → h ≤ f → ((b && nat_lt h r) && nat_le r (suc f)) ≡ (((b && nat_lt h r) && nat_le r f) || (b && (r == suc f)))
one_more true h f r below = grind (arith, nat_tests)
one_more false h f r below = refl

restarted_more : (script : ScriptParts) (p h f : ℕ) → h ≤ f → restarted script p h (suc f) ≡ (restarted script p h f || restarts_in script p (suc f))
restarted_more script p h f below =
    any_same (is_restart_between p h (suc f)) (λ (r : RestartAt). is_restart_between p h f r || (r.proc.0 == p && r.frame == suc f)) script.restarts
    (λ r. one_more (r.proc.0 == p) h f r.frame below)
    ∙ any_or (is_restart_between p h f) (λ (r : RestartAt). r.proc.0 == p && r.frame == suc f) script.restarts

no_time : (b : Bool) (f r : ℕ) → ((b && nat_lt f r) && nat_le r f) ≡ false
no_time true f r = grind (arith, nat_tests)
no_time false f r = refl

not_restarted : (script : ScriptParts) (p f : ℕ) → restarted script p f f ≡ false
not_restarted script p f = none_any (is_restart_between p f f) script.restarts (λ r. no_time (r.proc.0 == p) f r.frame)

latest_in : (b : Bool) (f : ℕ) (o : Option ℕ) → IfSome o (λ h. h < f) → IfSome (if b then Some f else o) (λ h. h < suc f)
latest_in true f o below = omega arith
latest_in false f None below = tt
latest_in false f (Some h) below = omega arith

latest_below : (script : ScriptParts) (p f : ℕ) → IfSome (latest_halt script p f) (λ h. h < f)
latest_below script p zero = tt
latest_below script p (suc f) = latest_in (halts_in script p f) f (latest_halt script p f) (latest_below script p f)

since_more : (script : ScriptParts) (p f : ℕ) (o : Option ℕ) → IfSome o (λ h. h < f) → is_up_since script p (suc f) o ≡ (is_up_since script p f o || restarts_in script p (suc f))
since_more script p f None below = refl
since_more script p f (Some h) below = restarted_more script p h f (omega arith)

up_step : (script : ScriptParts) (p f : ℕ) (b : Bool) → IfSome (latest_halt script p f) (λ h. h < f)
    → is_up_since script p (suc f) (if b then Some f else latest_halt script p f) ≡ ((is_up script p f && not b) || restarts_in script p (suc f))
up_step script p f true below = restarted_more script p f f (omega arith) ∙ rw (not_restarted script p f, and-false (is_up script p f)) refl
up_step script p f false below = since_more script p f (latest_halt script p f) below ∙ rw (and-true (is_up script p f)) refl

-- A processor is up in a frame if and only if it was up at the end of the preceding frame or restarts in the frame.
pub up_again : (script : ScriptParts) (p f : ℕ) → is_up script p f ≡ (is_up_before script p f || restarts_in script p f)
up_again script p zero = refl
up_again script p (suc f) = up_step script p f (halts_in script p f) (latest_below script p f)

pub env_up : (spec : Parts) (script : ScriptParts) (f : ℕ) → bit_or (up_before spec script f) (input_at spec script f).back ≡ (env_at spec script f).up
env_up spec script f =
    bits_or (λ p. is_up_before script p f) (λ p. restarts_in script p f) (length spec.procs)
    ∙ same_bits _ _ (length spec.procs) (λ p low. sym (up_again script p f))

either_mark : (halts before : Bool) → (before ≡ true → halts ≡ true) → (before || (halts && not before)) ≡ halts
either_mark true true is = refl
either_mark true false is = refl
either_mark false true is = let e = is refl in cc
either_mark false false is = refl

one_of : (a b c d : Bool) → (c ≡ true → d ≡ true) → ((a && b) || c) ≡ true → (a || d) ≡ true
one_of true b c d more is = refl
one_of false b c d more is = more is

implies_any : {A : Type 0} (s t : A → Bool) (xs : List A) → list_any (λ x. s x && t x) xs ≡ true → list_any s xs ≡ true
implies_any s t [] is = is
implies_any s t (x ∷ xs) is = one_of (s x) (t x) (list_any (λ y. s y && t y) xs) (list_any s xs) (implies_any s t xs) is

pub halts_either : (spec : Parts) (script : ScriptParts) (p f : ℕ) → (halts_before_mark spec script p f || halts_after_mark spec script p f) ≡ halts_in script p f
halts_either spec script p f = either_mark (halts_in script p f) (halts_before_mark spec script p f) (implies_any (is_halt_in p f) (λ (halt : HaltAt). nat_le halt.step (words spec)) script.halts)

pub up_next : (spec : Parts) (script : ScriptParts) (f : ℕ) → length spec.procs ≤ 8
    → bit_and (env_at spec script f).up (bit_not w8 (bit_or (input_at spec script f).early (input_at spec script f).late)) ≡ up_before spec script (suc f)
up_next spec script f few =
    rw (
      bits_or (λ p. halts_before_mark spec script p f) (λ p. halts_after_mark spec script p f) (length spec.procs),
      same_bits _ _ (length spec.procs) (λ p low. halts_either spec script p f),
    )
    (bits_but (λ p. is_up script p f) (λ p. halts_in script p f) (length spec.procs) few)

pub commits_same : (spec : Parts) (script : ScriptParts) (f p : ℕ) → length spec.procs ≤ 8 → p < length spec.procs
    → has_bit (bit_and (env_at spec script f).up (bit_not w8 (input_at spec script f).early)) p ≡ commits spec script p f
commits_same spec script f p few low =
    rw (bits_but (λ q. is_up script q f) (λ q. halts_before_mark spec script q f) (length spec.procs) few)
    (has_bits (λ q. is_up script q f && not (halts_before_mark spec script q f)) (length spec.procs) p low)

pub up_first : (spec : Parts) (script : ScriptParts) → bits_below (λ p. true) (length spec.procs) ≡ up_before spec script 0
up_first spec script = refl
