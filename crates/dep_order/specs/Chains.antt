-- Chains of applications that go before one another, and the maximum sum of times along a chain.
use Rattle.std.specs.Prelude.{◌≡◌, ℕ, zero, suc, ◌+◌, ◌<◌, ◌≤◌, Bool, true, ◌&&◌, List, [], ◌∷◌, if◌then◌else◌}
use Rattle.scram_types.specs.Searches.{greatest_below}

-- A chart of the applications with the numbers below `apps`. Application `a` is on if `on a` is `true`, and `time a`
-- is the number of frames that `a` takes. Application `b` goes before `a` if `before b a` is `true`.
pub record Chart : Type 0 where
  pub apps : ℕ
  pub on : ℕ → Bool
  pub before : ℕ → ℕ → Bool
  pub time : ℕ → ℕ

-- The time that application `b` adds to a chain before application `a`: the time of `b` plus `summed b`, or 0 if `b`
-- is off or does not go before `a`. `summed c` is the sum of times along a chain before application `c`.
abbrev pub time_added : Chart → (ℕ → ℕ) → ℕ → ℕ → ℕ
time_added chart summed a b = if chart.on b && chart.before b a then chart.time b + summed b else 0

-- The maximum sum of times along chains of at most `links` applications that go before `a`.
abbrev pub longest : Chart → ℕ → ℕ → ℕ
longest chart zero a = 0
longest chart (suc links) a = greatest_below (time_added chart (longest chart links) a) chart.apps

-- The offset of application `a`: the maximum sum of times along chains of at most 8 applications that go before `a`.
-- Eight links are enough, since ranks are below 8.
abbrev pub offset : Chart → ℕ → ℕ
offset chart a = longest chart 8 a

-- A list of applications is a chain before application `a`: each application is on, the first goes before `a`, and
-- each further application goes before its predecessor in the list.
abbrev pub Chain : Chart → List ℕ → ℕ → Type 0
Chain chart [] a = Unit {0}
Chain chart (b ∷ bs) a = (b < chart.apps) × (chart.on b ≡ true) × (chart.before b a ≡ true) × Chain chart bs b

-- The sum of the times of the applications of a chain, in frames.
abbrev pub chain_time : Chart → List ℕ → ℕ
chain_time chart [] = 0
chain_time chart (b ∷ bs) = chart.time b + chain_time chart bs

-- The offset of each application is the sum of times along some chain before it, and no such chain has a greater sum.
-- Without a chain the offset is 0.
pub record IsOffset (chart : Chart) : Type 0 where
  pub reached : (a : ℕ) → (bs : List ℕ) × Chain chart bs a × (chain_time chart bs ≡ offset chart a)
  pub most : (a : ℕ) (bs : List ℕ) → Chain chart bs a → chain_time chart bs ≤ offset chart a

-- If an application is on, some application that is on has offset 0.
abbrev pub HasFirst : Chart → Type 0
HasFirst chart = (a : ℕ) → a < chart.apps → chart.on a ≡ true → (b : ℕ) × (b < chart.apps) × (chart.on b ≡ true) × (offset chart b ≡ 0)
