-- Lemmas on charts that agree, and bounds on sums of times along chains.
use Rattle.std.proofs.Common.{◌≡◌, ℕ, zero, suc, ◌+◌, ◌*◌, ◌<◌, ◌≤◌, Bool, true, false, refl, arith, ap, ◌∙◌}
use Rattle.std.specs.Prelude.{◌&&◌, if◌then◌else◌}
use Rattle.scram_types.proofs.Searches.{greatest_same, greatest_within}
use Rattle.scram_types.specs.Searches.{greatest_below}
use Rattle.dep_order.specs.Chains.{Chart, longest, offset, time_added}

-- Two charts agree if they have the same number of applications, the same applications that are on, the same order
-- and the same times.

pub record Agree (one other : Chart) : Type 0 where
  pub apps : one.apps ≡ other.apps
  pub on : (b : ℕ) → b < one.apps → one.on b ≡ other.on b
  pub before : (b a : ℕ) → one.before b a ≡ other.before b a
  pub time : (b : ℕ) → b < one.apps → one.time b ≡ other.time b

same_longest : (one other : Chart) → Agree one other → (links a : ℕ) → longest one links a ≡ longest other links a
same_longest one other agree zero a = refl
same_longest one other agree (suc links) a =
    greatest_same (time_added one (longest one links) a) (time_added other (longest other links) a) one.apps
    (λ b less. rw (agree.on b less, agree.before b a, agree.time b less, same_longest one other agree links b) refl)
    ∙ ap (greatest_below (time_added other (longest other links) a)) agree.apps

pub same_offset : (one other : Chart) → Agree one other → (a : ℕ) → offset one a ≡ offset other a
same_offset one other agree a = same_longest one other agree 8 a

-- Bounds on sums of times along chains if each time is at most 16 frames.

if_most : (test : Bool) (x most : ℕ) → x ≤ most → (if test then x else 0) ≤ most
if_most true x most h = h
if_most false x most h = omega arith

pub step_most : (chart : Chart) (summed : ℕ → ℕ) (most a b : ℕ) → chart.time b ≤ 16 → summed b ≤ most → time_added chart summed a b ≤ most + 16
step_most chart summed most a b few sum = if_most (chart.on b && chart.before b a) (chart.time b + summed b) (most + 16) (omega arith)

pub longest_most : (chart : Chart) → ((b : ℕ) → b < chart.apps → chart.time b ≤ 16) → (links a : ℕ) → longest chart links a ≤ 16 * links
longest_most chart few zero a = omega arith
longest_most chart few (suc links) a =
    let all = greatest_within (time_added chart (longest chart links) a) chart.apps (16 * links + 16)
    (λ b less. step_most chart (longest chart links) (16 * links) a b (few b less) (longest_most chart few links b)) in
    omega arith

pub step_greatest : (chart : Chart) (f g : ℕ → ℕ) (a : ℕ) → ((b : ℕ) → b < chart.apps → f b ≡ g b)
    → greatest_below (time_added chart f a) chart.apps ≡ greatest_below (time_added chart g a) chart.apps
step_greatest chart f g a same = greatest_same (time_added chart f a) (time_added chart g a) chart.apps (λ b less. rw (same b less) refl)
