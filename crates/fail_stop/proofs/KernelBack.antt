-- The kernel image of a frame can be decoded from its words, since each number of the image is small enough for its
-- word.
use Rattle.std.proofs.Common.{◌≡◌, ◌∙◌, ℕ, zero, suc, ℤ, pos, ◌+◌, ◌-◌, ◌*◌, ◌/◌, ◌%◌, ◌^◌, ◌<◌, ◌≤◌, Bool, true, false, cond, refl, sym, ap, subst, arith, List, [], ◌∷◌, length}
use Rattle.std.specs.Prelude.{◌==◌, ◌≤ℤ◌, Option, Some, None, IfSome, nat_lt, option_and_then, option_map, slice_get, slice_index, slice_index_or}
use Rattle.std.proofs.lemmas.Bool.Decides.{nat_tests}
use Rattle.std.proofs.lemmas.Int.{ints}
use Rattle.scram_types.specs.declared.rows.Env.{Env}
use Rattle.scram_types.specs.declared.rows.World.{World}
use Rattle.scram_types.specs.declared.ids.ConfId.{ConfId}
use Rattle.scram_types.specs.declared.ids.ProcId.{ProcId}
use Rattle.scram_types.specs.declared.orders.KMode.{KMode}
use Rattle.scram_types.specs.declared.orders.KMode.TheVariants.{Stable, Moving}
use Rattle.scram_types.specs.declared.orders.Order.{Order}
use Rattle.scram_types.specs.declared.scripts.Change.{Change}
use Rattle.scram_types.specs.declared.specification.Choice.{Choice}
use Rattle.scram_types.specs.declared.specification.Conf.{Conf}
use Rattle.scram_types.specs.declared.specification.Place.{Place}
use Rattle.scram_types.specs.declared.specification.Policy.{Policy}
use Rattle.scram_types.specs.declared.specification.Policy.TheVariants.{Retarget, Settle}
use Rattle.scram_types.specs.Bits.{bits_below}
use Rattle.scram_types.specs.Eights.{eight}
use Rattle.scram_types.specs.Lookups.{conf_id, place_of}
use Rattle.scram_types.specs.Numbers.{FitsSums, minus}
use Rattle.scram_types.specs.Scripts.{ScriptParts}
use Rattle.scram_types.specs.Specification.{Each, IsChoice, IsSpec, Parts, place_in}
use Rattle.scram_types.proofs.BitSets.{bits_lt}
use Rattle.scram_types.proofs.Eights.{eight_at, eight_same}
use Rattle.bank_words.specs.Images.{conf_of, conf_word, factors_of, factors_word, keeper_of, keeper_word, keeper_words, keepers_of, kernel_decode, last_byte, mode_in_words, mode_words}
use Rattle.bank_words.specs.Numbers.{encode}
use Rattle.bank_words.proofs.ImageWords.{image_back}
use Rattle.airframe.specs.Motion.{IsFlyable}
use Rattle.airframe.proofs.Flyable.{flyable}
use Rattle.choice_table.specs.Choices.{choose, is_runnable, rule_fits, target_among}
use Rattle.fault_script.specs.Environments.{env_at}
use Rattle.fault_script.specs.Fits.{Fits}
use Rattle.fault_script.specs.Times.{commits, factors_at, is_up, value_after}
use Rattle.frame_model.specs.declared.phases.Phase.{Phase}
use Rattle.frame_model.specs.declared.phases.Phase.TheVariants as phase
use Rattle.frame_model.specs.Decisions.{decision, moving_decision, stable_decision, turn_to, wanted}
use Rattle.frame_model.specs.Flights.{decided, state_after}
use Rattle.frame_model.specs.Phases.{halting_frames, phase_at}
use Rattle.frame_model.specs.States.{keeper_after, keeper_at, keeper_on, start_keeper_of}
use Rattle.frame_model.specs.Storage.{kernel_image}
use Rattle.frame_model.specs.Tasks.{task_for, task_in}
use Rattle.fail_stop.specs.ScriptFlights.{kernel_words}
use Rattle.fail_stop.proofs.ImageRanges.{read_back}

-- Proof that a mode with small numbers can be decoded from its words.

abbrev IsMoveSmall : ConfId → Option ConfId → ConfId → ℕ → Type 0
IsMoveSmall from halting to since = (from.0 < 256) × IfSome halting (λ c. c.0 < 256) × (to.0 < 256) × (since < 4294967296)

abbrev IsModeSmall : KMode → Type 0
IsModeSmall (Stable c) = c.0 < 256
IsModeSmall (Moving from halting to since) = IsMoveSmall from halting to since

small_conf : (c : ConfId) → c.0 < 256 → conf_id (last_byte c.0) ≡ c
small_conf c low = let same : c.0 % 256 ≡ c.0 = omega (arith, low) in ap conf_id same

named : (n : ℕ) → (suc n == 0) ≡ false
named n = grind (arith, nat_tests)

conf_back : (c : Option ConfId) → IfSome c (λ c. c.0 < 256) → conf_of (conf_word c) ≡ c
conf_back None low = refl
conf_back (Some c) low = let some : (suc c.0 == 0) ≡ false = named c.0 in let same : (suc c.0 - 1) % 256 ≡ c.0 = omega (arith, low) in rw (some, same) refl

mode_back : (mode : KMode) → IsModeSmall mode → mode_in_words (mode_words mode) ≡ mode
mode_back (Stable c) low = ap Stable (small_conf c low)
mode_back (Moving from halting to since) low =
    let when : since % 4294967296 ≡ since = (let l = low.3 in omega (arith, l)) in
    rw (small_conf from low.0, conf_back halting low.1, small_conf to low.2, when) refl

mode_by : (t : Bool) (a b : KMode) → IsModeSmall a → IsModeSmall b → IsModeSmall (cond t a b)
mode_by true a b h k = h
mode_by false a b h k = k

conf_by : (t : Bool) (a b : ConfId) → a.0 < 256 → b.0 < 256 → (cond t a b).0 < 256
conf_by true a b h k = h
conf_by false a b h k = k

target_small : (spec : Parts) (rules : List Choice) (c : ConfId) (v : Env) → length spec.confs ≤ 12 → Each (IsChoice spec.procs spec.confs spec.factors) rules → c.0 < 256 → (target_among rules c v).0 < 256
target_small spec [] c v few sound low = low
target_small spec (rule ∷ rules) c v few sound low =
    let known = (sound 0 rule refl).to in
    conf_by (rule_fits c v rule) rule.to (target_among rules c v) (omega (arith, known, few)) (target_small spec rules c v few (λ i x there. sound (suc i) x there) low)

module _ (spec : Parts) (facts : IsSpec spec) where
  chosen_small : (c : ConfId) (v : Env) → c.0 < 256 → (choose spec c v).0 < 256
  chosen_small c v low = target_small spec spec.rules c v facts.confs_count.few facts.rules low

  stable_small : (c : ConfId) (frame : ℕ) (v : Env) → c.0 < 256 → frame < 4294967296 → IsModeSmall (stable_decision spec c frame v)
  stable_small c frame v low now =
      let t = choose spec c v in
      mode_by (t.0 == c.0) (Stable c) (Moving c (Some c) t frame) low (low, low, chosen_small c v low, now)

  wanted_small : (policy : Policy) (from to : ConfId) (v : Env) → from.0 < 256 → to.0 < 256 → (wanted policy spec from to v).0 < 256
  wanted_small Retarget from to v low high = chosen_small from v low
  wanted_small Settle from to v low high = conf_by (is_runnable spec to v) to (choose spec from v) high (chosen_small from v low)

  turn_small : (frame : ℕ) (from : ConfId) (halting : Option ConfId) (to : ConfId) (since : ℕ) (settled : Bool) (t : ConfId) → IsMoveSmall from halting to since → t.0 < 256 → frame < 4294967296
      → IsModeSmall (turn_to spec frame from halting to since settled t)
  turn_small frame from halting to since settled t low chosen now =
      mode_by (nat_lt (frame - since) (halting_frames spec halting)) (Moving from halting t since) (cond settled (Moving from (Some to) t frame) (Moving from None t frame))
      (low.0, low.1, chosen, low.3)
      (mode_by settled (Moving from (Some to) t frame) (Moving from None t frame) (low.0, low.2, chosen, now) (low.0, tt, chosen, now))

  decision_small : (frame : ℕ) (mode : KMode) (settled arrived : Bool) (v : Env) → IsModeSmall mode → frame < 4294967296 → IsModeSmall (decision spec frame mode settled arrived v)
  decision_small frame (Stable c) settled arrived v low now = stable_small c frame v low now
  decision_small frame (Moving from halting to since) settled arrived v low now =
      let t = wanted spec.policy spec from to v in
      let chosen = wanted_small spec.policy from to v low.0 low.2 in
      mode_by arrived (stable_decision spec to frame v) (moving_decision spec frame from halting to since settled t) (stable_small to frame v low.2 now)
      (mode_by (t.0 == to.0) (Moving from halting to since) (turn_to spec frame from halting to since settled t) low (turn_small frame from halting to since settled t low chosen now))

  -- Proof that the numbers of the mode of each frame are small.

  module _ (script : ScriptParts) where
    decided_small : (f : ℕ) → f < 4294967296 → IsModeSmall (state_after spec script f).mode → IsModeSmall (decided spec script f)
    decided_small f now low = decision_small f (state_after spec script f).mode _ _ (env_at spec script f) low now

    mode_small : (f : ℕ) → f < 4294967296 → IsModeSmall (state_after spec script f).mode
    mode_small zero now = let known = facts.start in let few = facts.confs_count.few in omega (arith, known, few)
    mode_small (suc f) now = decided_small f (omega (arith, now)) (mode_small f (omega (arith, now)))

  -- Proof that the number of each keeper is small.

  abbrev IsKeeperSmall : Option ProcId → Type 0
  IsKeeperSmall keeper = IfSome keeper (λ p. p.0 < 256)

  placed_small : (c a : ℕ) (found : Option Conf) → slice_get spec.confs c ≡ found → (place : Place) → option_and_then (λ (conf : Conf). place_in conf a) found ≡ Some place → place.proc.0 < 256
  placed_small c a None there place is = absurd (let e = is in cc)
  placed_small c a (Some conf) there place is = let on = ((facts.confs c conf there).places a place is).on in let few = facts.procs_count.few in omega (arith, on, few)

  task_small : (c : ConfId) (a : ℕ) (o : Order) (place : Option Place) → place_of spec c a ≡ place → IsKeeperSmall (task_for o place).proc
  task_small c a o None is = tt
  task_small c a o (Some place) is = placed_small c.0 a (slice_get spec.confs c.0) refl place is

  asked_small : (p : Phase) (a : ℕ) → IsKeeperSmall (task_in spec p a).proc
  asked_small (phase.Running c) a = task_small c a _ (place_of spec c a) refl
  asked_small (phase.Halting c age) a = task_small c a _ (place_of spec c a) refl
  asked_small (phase.Preparing c age) a = task_small c a _ (place_of spec c a) refl
  asked_small (phase.Initialising c age) a = task_small c a _ (place_of spec c a) refl

  keeper_by : (t : Bool) (a b : Option ProcId) → IsKeeperSmall a → IsKeeperSmall b → IsKeeperSmall (cond t a b)
  keeper_by true a b h k = h
  keeper_by false a b h k = k

  kept_small : (commits : ℕ → Bool) (old proc : Option ProcId) → IsKeeperSmall old → IsKeeperSmall proc → IsKeeperSmall (keeper_on commits old proc)
  kept_small commits old None low asked = tt
  kept_small commits old (Some proc) low asked = keeper_by (commits proc.0) (Some proc) old asked low

  start_small : (a : ℕ) (place : Option Place) → place_of spec spec.start a ≡ place → IsKeeperSmall (option_map (λ (place : Place). place.proc) place)
  start_small a None is = tt
  start_small a (Some place) is = placed_small spec.start.0 a (slice_get spec.confs spec.start.0) refl place is

  keeper_back : (keeper : Option ProcId) → IsKeeperSmall keeper → keeper_of (keeper_word keeper) ≡ keeper
  keeper_back None low = refl
  keeper_back (Some p) low = let some : (suc p.0 == 0) ≡ false = named p.0 in let same : (suc p.0 - 1) % 256 ≡ p.0 = omega (arith, low) in rw (some, same) refl

  keepers_back : (k : ℕ → Option ProcId) → ((a : ℕ) → a < 8 → IsKeeperSmall (k a)) → keepers_of (keeper_words (eight k)) ≡ eight k
  keepers_back k low =
      eight_same (λ a. keeper_of (slice_index (keeper_words (eight k)) a)) k
      (λ a under. ap keeper_of (eight_at (λ b. keeper_word (slice_index_or (eight k) b None)) a 0 under) ∙ ap (λ keeper. keeper_of (keeper_word keeper)) (eight_at k a None under) ∙ keeper_back (k a) (low a under))

  module _ (script : ScriptParts) where
    keepers_small : (f a : ℕ) → a < 8 → IsKeeperSmall (keeper_at (state_after spec script f).keepers a)
    keepers_small zero a under = subst IsKeeperSmall (sym (eight_at (start_keeper_of spec) a None under)) (start_small a (place_of spec spec.start a) refl)
    keepers_small (suc f) a under =
        subst IsKeeperSmall (sym (eight_at (λ b. keeper_after (λ p. commits spec script p f) (state_after spec script f) (task_in spec (phase_at spec (decided spec script f) f) b) b) a None under))
        (kept_small (λ p. commits spec script p f) (keeper_at (state_after spec script f).keepers a) _ (keepers_small f a under) (asked_small (phase_at spec (decided spec script f) f) a))

    all_keepers_back : (f : ℕ) → keepers_of (keeper_words (state_after spec script f).keepers) ≡ (state_after spec script f).keepers
    all_keepers_back zero = keepers_back (start_keeper_of spec) (λ a under. start_small a (place_of spec spec.start a) refl)
    all_keepers_back (suc f) =
        keepers_back (λ b. keeper_after (λ p. commits spec script p f) (state_after spec script f) (task_in spec (phase_at spec (decided spec script f) f) b) b)
        (λ a under. kept_small (λ p. commits spec script p f) (keeper_at (state_after spec script f).keepers a) _ (keepers_small f a under) (asked_small (phase_at spec (decided spec script f) f) a))

-- Proof that each number of the world fits in a word.

record IsWorldWords (world : World) : Type 0 where
  alt : FitsSums world.alt
  climb : FitsSums world.climb
  heading : FitsSums world.heading
  bank : FitsSums world.bank

word_between : (x : ℤ) → minus 300 ≤ℤ x → x ≤ℤ pos 40000 → FitsSums x
word_between x low high = record { low = omega (arith, ints, low, high); high = omega (arith, ints, low, high) }

lower : (x : ℤ) → pos 0 ≤ℤ x → minus 300 ≤ℤ x
lower x h = omega (arith, ints, h)

higher : (x : ℤ) (most : ℕ) → most ≤ 40000 → x ≤ℤ pos most → x ≤ℤ pos 40000
higher x most low h = omega (arith, ints, low, h)

world_words : (world : World) → IsFlyable world → IsWorldWords world
world_words world flies = record {
  alt = word_between world.alt (lower world.alt flies.lowest) flies.highest;
  climb = word_between world.climb flies.steepest_down (higher world.climb 300 (omega arith) flies.steepest_up);
  heading = word_between world.heading (lower world.heading flies.first) (higher world.heading 3599 (omega arith) flies.last);
  bank = word_between world.bank flies.left (higher world.bank 300 (omega arith) flies.right);
}

world_at : (spec : Parts) (script : ScriptParts) (f : ℕ) → IsWorldWords (state_after spec script f).world
world_at spec script zero =
    let zero_is : FitsSums (pos 0) = record { low = omega (arith, ints); high = omega (arith, ints) } in
    record { alt = record { low = omega (arith, ints); high = omega (arith, ints) }; climb = zero_is; heading = record { low = omega (arith, ints); high = omega (arith, ints) }; bank = zero_is }
world_at spec script (suc f) = world_words (state_after spec script (suc f)).world (flyable _)

-- Proof that the factors and the set of processors that are up can be decoded from their words.

number_by : (t : Bool) (a b : ℕ) → a < 256 → b < 256 → cond t a b < 256
number_by true a b h k = h
number_by false a b h k = k

value_small : (changes : List Change) (x f value : ℕ) → Each (λ (change : Change). change.value < 256) changes → value < 256 → value_after changes x f value < 256
value_small [] x f value each low = low
value_small (change ∷ changes) x f value each low = value_small changes x f _ (λ i c there. each (suc i) c there) (number_by _ change.value value (each 0 change refl) low)

changes_small : (spec : Parts) (script : ScriptParts) → IsSpec spec → Fits spec script → Each (λ (change : Change). change.value < 256) script.changes
changes_small spec script facts fits i change there =
    let is = fits.changes i change there in
    let low = is.value in
    let few = (facts.factors change.factor.0 is.factor is.there).count.few in
    omega (arith, low, few)

-- Six bytes that are packed into one number can be read back.
digits : (a b c d e g : ℕ) → a < 256 → b < 256 → c < 256 → d < 256 → e < 256 → g < 256 → factors_of (factors_word (a ∷ b ∷ c ∷ d ∷ e ∷ g ∷ [])) ≡ a ∷ b ∷ c ∷ d ∷ e ∷ g ∷ []
digits a b c d e g la lb lc ld le lg =
    let n : ℕ = a + 256 * b + 65536 * c + 16777216 * d + 4294967296 * e + 1099511627776 * g in
    let first : (a + 256 * b + 65536 * c + 16777216 * d + 4294967296 * e + 1099511627776 * g) % 256 ≡ a = omega arith in
    let second : (a + 256 * b + 65536 * c + 16777216 * d + 4294967296 * e + 1099511627776 * g) / 256 % 256 ≡ b = omega arith in
    let third : (a + 256 * b + 65536 * c + 16777216 * d + 4294967296 * e + 1099511627776 * g) / 65536 % 256 ≡ c = omega arith in
    let fourth : (a + 256 * b + 65536 * c + 16777216 * d + 4294967296 * e + 1099511627776 * g) / 16777216 % 256 ≡ d = omega arith in
    let fifth : (a + 256 * b + 65536 * c + 16777216 * d + 4294967296 * e + 1099511627776 * g) / 4294967296 % 256 ≡ e = omega arith in
    let sixth : (a + 256 * b + 65536 * c + 16777216 * d + 4294967296 * e + 1099511627776 * g) / 1099511627776 % 256 ≡ g = omega arith in
    rw (first, second, third, fourth, fifth, sixth) refl

factors_back : (spec : Parts) (script : ScriptParts) (f : ℕ) → IsSpec spec → Fits spec script → factors_of (factors_word (factors_at script f)) ≡ factors_at script f
factors_back spec script f facts fits = digits _ _ _ _ _ _ (low 0) (low 1) (low 2) (low 3) (low 4) (low 5)
  where
    low : (x : ℕ) → value_after script.changes x f 0 < 256
    low x = value_small script.changes x f 0 (changes_small spec script facts fits) (omega arith)

up_back : (spec : Parts) (script : ScriptParts) (f : ℕ) → IsSpec spec → last_byte (bits_below (λ p. is_up script p f) (length spec.procs)) ≡ bits_below (λ p. is_up script p f) (length spec.procs)
up_back spec script f facts =
    let under = bits_lt (λ p. is_up script p f) (length spec.procs) in
    let most = power_small (length spec.procs) facts.procs_count.few in
    omega (arith, under, most)
  where
    power_small : (n : ℕ) → n ≤ 8 → 2 ^ n ≤ 256
    power_small zero low = omega arith
    power_small (suc zero) low = omega arith
    power_small (suc (suc zero)) low = omega arith
    power_small (suc (suc (suc zero))) low = omega arith
    power_small (suc (suc (suc (suc zero)))) low = omega arith
    power_small (suc (suc (suc (suc (suc zero))))) low = omega arith
    power_small (suc (suc (suc (suc (suc (suc zero)))))) low = omega arith
    power_small (suc (suc (suc (suc (suc (suc (suc zero))))))) low = omega arith
    power_small (suc (suc (suc (suc (suc (suc (suc (suc zero)))))))) low = omega arith
    power_small (suc (suc (suc (suc (suc (suc (suc (suc (suc n))))))))) low = absurd (omega arith)

pub kernel_back : (spec : Parts) (script : ScriptParts) (f : ℕ) → IsSpec spec → Fits spec script → f < 4294967296 → kernel_decode (kernel_words spec script f) ≡ kernel_image spec script f
kernel_back spec script f facts fits now =
    let world = world_at spec script f in
    let frame : f % 4294967296 ≡ f = omega (arith, now) in
    image_back (kernel_image spec script f) (mode_words (decided spec script f)) (keeper_words (state_after spec script f).keepers) f (env_at spec script f).up (factors_word (factors_at script f))
    (encode (state_after spec script f).world.alt) (encode (state_after spec script f).world.climb) (encode (state_after spec script f).world.heading) (encode (state_after spec script f).world.bank)
    frame (mode_back (decided spec script f) (decided_small spec facts script f now (mode_small spec facts script f now))) (up_back spec script f facts) (factors_back spec script f facts fits) (all_keepers_back spec facts script f)
    (read_back _ world.alt) (read_back _ world.climb) (read_back _ world.heading) (read_back _ world.bank)
