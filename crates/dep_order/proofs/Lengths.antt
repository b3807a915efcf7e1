-- Lemmas that derive the timetable from lists of times and offsets.
use Rattle.std.proofs.Common.{◌≡◌, ℕ, ◌+◌, ◌<◌, ◌≤◌, Bool, true, false, refl, arith, ap, sym, ◌∙◌, List, length}
use Rattle.std.specs.Prelude.{if◌then◌else◌, nat_lt, slice_index}
use Rattle.std.proofs.lemmas.Bool.Decides.{nat_tests}
use Rattle.scram_types.proofs.Eights.{eight_same}
use Rattle.scram_types.specs.declared.ids.ConfId.{ConfId}
use Rattle.scram_types.specs.Specification.{IsSpec, Parts}
use Rattle.scram_types.specs.Searches.{greatest_below}
use Rattle.scram_types.specs.Eights.{eight}
use Rattle.scram_types.specs.Lookups.{is_on}
use Rattle.scram_types.proofs.Searches.{greatest_same}
use Rattle.dep_order.specs.declared.timetables.Phase.{Phase}
use Rattle.dep_order.specs.declared.timetables.Times.{Times}
use Rattle.dep_order.specs.Chains.{Chart}
use Rattle.dep_order.specs.Timetables.{IsTableOf, goes_before, offset_where_on, phase_length, timed_chart, where_on}
use Rattle.dep_order.proofs.Charts.{Agree}
use Rattle.dep_order.proofs.Modes.{IsTimed, timed}

pub same_times : (a b c d : List ℕ) (e f g h i j : ℕ) → a ≡ b → c ≡ d → e ≡ f → g ≡ h → i ≡ j
    → ◌≡◌ {A = Times} (record { halt = a; init = c; h = e; p = g; i = i }) (record { halt = b; init = d; h = f; p = h; i = j })
same_times a b c d e f g h i j one two three four five = rw (one, two, three, four, five) refl

if_same : (b : Bool) (x y : ℕ) → (b ≡ true → x ≡ y) → (if b then x else 0) ≡ (if b then y else 0)
if_same true x y h = h refl
if_same false x y h = refl

not_above : (n : ℕ) → false ≡ nat_lt 0 n → 0 ≡ n
not_above n h = grind (arith, nat_tests)

off_zero : (b : Bool) (n : ℕ) → b ≡ nat_lt 0 n → (if b then n else 0) ≡ n
off_zero true n h = refl
off_zero false n h = not_above n h

-- Lemmas on a phase of a configuration, given lists of its times and offsets.
module _ (spec : Parts) (known : IsSpec spec) (c : ConfId) (times offsets : List ℕ) (time : ℕ → ℕ)
    (tests : (a : ℕ) → IsTimed (is_on spec c a) (time a)) (listed : IsTableOf time 8 times) where
  on_test : (a : ℕ) → a < 8 → is_on spec c a ≡ nat_lt 0 (slice_index times a)
  on_test a less = (tests a).test ∙ ap (nat_lt 0) (sym (listed a less))

  pub times_most : (n : ℕ) → n ≤ 8 → (a : ℕ) → a < n → slice_index times a ≤ 16
  times_most n few a less = rw (listed a (omega arith)) (tests a).most

  pub timed_agree : (phase : Phase) (chart : Chart) → chart.apps ≡ length spec.apps → ((b : ℕ) → chart.on b ≡ is_on spec c b) → ((b a : ℕ) → chart.before b a ≡ goes_before spec phase b a) → ((b : ℕ) → chart.time b ≡ time b)
      → Agree (timed_chart spec phase times) chart
  timed_agree phase chart apps on before time =
      let few = known.apps_count.few in
      record {
        apps = sym apps;
        on = λ b less. sym (on b ∙ on_test b (omega arith));
        before = λ b a. sym (before b a);
        time = λ b less. listed b (omega arith) ∙ sym (time b);
      }

  pub kept_is : (value : ℕ → ℕ) → IsTableOf value (length spec.apps) offsets → eight (offset_where_on times offsets) ≡ eight (λ a. where_on spec c a (value a))
  kept_is value holds = eight_same (offset_where_on times offsets) (λ a. where_on spec c a (value a)) (λ a less.
      ap (λ b. if b then slice_index offsets a else 0) (sym (on_test a less))
      ∙ if_same (is_on spec c a) (slice_index offsets a) (value a) (λ on. holds a ((timed spec known c a).inside on)))

  pub length_is : (value : ℕ → ℕ) → IsTableOf value (length spec.apps) offsets
      → phase_length times offsets (length spec.apps) ≡ greatest_below (λ a. where_on spec c a (value a + time a)) (length spec.apps)
  length_is value holds =
      let few = known.apps_count.few in
      greatest_same (λ a. if nat_lt 0 (slice_index times a) then slice_index offsets a + slice_index times a else 0) (λ a. where_on spec c a (value a + time a)) (length spec.apps) (λ a less.
      ap (λ b. if b then slice_index offsets a + slice_index times a else 0) (sym (on_test a (omega arith)))
      ∙ if_same (is_on spec c a) (slice_index offsets a + slice_index times a) (value a + time a) (λ on. rw (holds a less, listed a (omega arith)) refl))

  -- If no application goes before another, the length of the phase is the maximum time.
  pub length_alone : ((a : ℕ) → a < length spec.apps → slice_index offsets a ≡ 0) → phase_length times offsets (length spec.apps) ≡ greatest_below time (length spec.apps)
  length_alone zeros =
      length_is (λ a. 0) zeros
      ∙ greatest_same (λ a. where_on spec c a (0 + time a)) time (length spec.apps) (λ a less.
      (let plain : 0 + time a ≡ time a = omega arith in ap (λ n. if is_on spec c a then n else 0) plain) ∙ off_zero (is_on spec c a) (time a) ((tests a).test))
