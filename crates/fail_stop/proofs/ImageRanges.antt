-- Every word of an image fits in 64 bits. Therefore the word can be decoded from its stored word.
use Rattle.std.proofs.Common.{◌≡◌, ℕ, zero, suc, ℤ, pos, negsuc, ◌<◌, ◌≤◌, refl, sym, subst, arith, Bool, true, false, ◌&&◌, List}
use Rattle.std.specs.Prelude.{Option, Some, None, slice_get, slice_index_or, nat_le, if◌then◌else◌}
use Rattle.std.specs.Int.{w64}
use Rattle.std.proofs.lemmas.Bool.Decides.{nat_tests}
use Rattle.std.proofs.lemmas.Int.{ints, to_z-of_z}
use Rattle.scram_types.specs.declared.orders.Order.{Order}
use Rattle.scram_types.specs.declared.orders.Order.TheVariants.{Run, Hold, Halt, Prepare, Init, Off}
use Rattle.scram_types.specs.declared.ranges.Range.{Range}
use Rattle.scram_types.specs.declared.specification.AppSpec.{AppSpec}
use Rattle.scram_types.specs.declared.specification.Place.{Place}
use Rattle.scram_types.specs.declared.rows.Env.{Env}
use Rattle.scram_types.specs.declared.ids.ProcId.{ProcId}
use Rattle.scram_types.specs.Lookups.{kind_of_app, place_of}
use Rattle.scram_types.specs.Numbers.{FitsSums, word}
use Rattle.scram_types.specs.Scripts.{ScriptParts}
use Rattle.scram_types.specs.Specification.{IsSpec, Parts}
use Rattle.scram_types.proofs.Eights.{eight_at}
use Rattle.bank_words.specs.Numbers.{decode, encode}
use Rattle.app_model.specs.declared.seen.Seen.{Seen}
use Rattle.app_model.specs.Areas.{Between, status_of}
use Rattle.kind_table.specs.Bounds.{after_init, during, sane}
use Rattle.kind_table.specs.Kinds.{kind_variable}
use Rattle.app_model.specs.Law.{law}
use Rattle.kind_table.specs.Ranges.{mode_range, sane_range, widest_mode}
use Rattle.app_model.specs.Starts.{start_of}
use Rattle.app_model.proofs.AreaLaws.{law_lies_during, start_lies_after_init}
use Rattle.app_model.proofs.Tables.{tables_narrow}
use Rattle.kind_table.proofs.EachKind.{each_kind}
use Rattle.fault_script.specs.Environments.{env_at}
use Rattle.fault_script.specs.Times.{commits}
use Rattle.frame_model.specs.declared.tasks.Task.{Task}
use Rattle.frame_model.specs.Flights.{is_proc, slot_after, state_after, task_given}
use Rattle.frame_model.specs.States.{State, area_after, area_at, area_on, law_of, start_area_at, start_area_of, start_keeper_of, zeros}

each_word : (P : ℕ → Type 0) → P 0 → P 1 → P 2 → P 3 → P 4 → P 5 → P 6 → P 7 → (i : ℕ) → i < 8 → P i
each_word P s a b c d e f g zero h = s
each_word P s a b c d e f g (suc zero) h = a
each_word P s a b c d e f g (suc (suc zero)) h = b
each_word P s a b c d e f g (suc (suc (suc zero))) h = c
each_word P s a b c d e f g (suc (suc (suc (suc zero)))) h = d
each_word P s a b c d e f g (suc (suc (suc (suc (suc zero))))) h = e
each_word P s a b c d e f g (suc (suc (suc (suc (suc (suc zero)))))) h = f
each_word P s a b c d e f g (suc (suc (suc (suc (suc (suc (suc zero))))))) h = g
each_word P s a b c d e f g (suc (suc (suc (suc (suc (suc (suc (suc i)))))))) h = absurd (omega arith)

abbrev is_small : Range → Bool
is_small r = nat_le r.below 4294967296 && nat_le r.above 4294967296

abbrev SaneSmall : ℕ → Type 0
SaneSmall kind = (i : ℕ) → i < 8 → is_small (sane_range kind i) ≡ true

sane_small : (kind : ℕ) → kind < 6 → SaneSmall kind
unfolding sane_range mode_range widest_mode kind_variable
sane_small = each_kind SaneSmall
    (each_word (λ i. is_small (sane_range 0 i) ≡ true) refl refl refl refl refl refl refl refl)
    (each_word (λ i. is_small (sane_range 1 i) ≡ true) refl refl refl refl refl refl refl refl)
    (each_word (λ i. is_small (sane_range 2 i) ≡ true) refl refl refl refl refl refl refl refl)
    (each_word (λ i. is_small (sane_range 3 i) ≡ true) refl refl refl refl refl refl refl refl)
    (each_word (λ i. is_small (sane_range 4 i) ≡ true) refl refl refl refl refl refl refl refl)
    (each_word (λ i. is_small (sane_range 5 i) ≡ true) refl refl refl refl refl refl refl refl)

small_ends : (r : Range) → is_small r ≡ true → (r.below ≤ 4294967296) × (r.above ≤ 4294967296)
small_ends r is = (grind (arith, nat_tests, is), grind (arith, nat_tests, is))

in_during : (kind status mode i : ℕ) (x : ℤ) → kind < 6 → status ≤ 4 → i < 8 → Between (during kind status mode i) x → FitsSums x
unfolding sane
in_during kind status mode i x low few small b =
    let inside = (tables_narrow kind mode i low small).sane status few in
    let ends = small_ends (sane_range kind i) (sane_small kind low i small) in
    let below = ends.0 in
    let above = ends.1 in
    record { low = omega (arith, ints, inside.least, b.least, below); high = omega (arith, ints, inside.greatest, b.greatest, above) }

in_start : (kind mode i : ℕ) (x : ℤ) → kind < 6 → i < 8 → Between (after_init kind mode i) x → FitsSums x
in_start kind mode i x low small b =
    let inside = (tables_narrow kind mode i low small).init in
    in_during kind 4 mode i x low (omega arith) small (record { least = omega (arith, ints, inside.least, b.least); greatest = omega (arith, ints, inside.greatest, b.greatest) })

-- Each of the eight words of a slot satisfies `FitsSums`.
abbrev pub AreWords : List ℤ → Type 0
AreWords xs = (i : ℕ) → i < 8 → FitsSums (slice_index_or xs i (pos 0))

zero_word : FitsSums (pos 0)
zero_word = record { low = omega (arith, ints); high = omega (arith, ints) }

zeros_words : AreWords zeros
zeros_words i low = subst FitsSums (sym (eight_at (λ j. pos 0) i (pos 0) low)) zero_word

either_words : (b : Bool) (x y : List ℤ) → AreWords x → AreWords y → AreWords (if b then x else y)
either_words true x y is_x is_y = is_x
either_words false x y is_x is_y = is_y

by_status : (kind status : ℕ) (order : Order) (seen : Seen) → kind < 6 → status ≤ 4 → status_of order ≡ Some status → AreWords (law kind order seen)
unfolding word
by_status kind status order seen low few is i small = in_during kind status seen.mode.0 i _ low few small (law_lies_during kind status order seen low is i small)

law_words : (kind : ℕ) (order : Order) (seen : Seen) → kind < 6 → AreWords seen.own → AreWords (law kind order seen)
law_words kind Run seen low own = by_status kind 1 Run seen low (omega arith) refl
law_words kind (Halt k n) seen low own = by_status kind 2 (Halt k n) seen low (omega arith) refl
law_words kind Hold seen low own = own
law_words kind (Prepare k n) seen low own = by_status kind 3 (Prepare k n) seen low (omega arith) refl
law_words kind (Init k n) seen low own = by_status kind 4 (Init k n) seen low (omega arith) refl
law_words kind Off seen low own = zeros_words

start_words : (kind : ℕ) → kind < 6 → AreWords (start_of kind)
unfolding word
start_words kind low i small = in_start kind 0 i _ low small (start_lies_after_init kind 0 low i small)

kind_low : (spec : Parts) → IsSpec spec → (a : ℕ) (app : Option AppSpec) → slice_get spec.apps a ≡ app → kind_of_app spec a < 6
kind_low spec facts a None is = rw is (omega arith)
kind_low spec facts a (Some app) is = rw is (facts.apps a app is).kind

start_at_words : (spec : Parts) → IsSpec spec → (a : ℕ) (place : Option Place) → AreWords (start_area_at spec a place)
start_at_words spec facts a None = zeros_words
start_at_words spec facts a (Some place) = start_words (kind_of_app spec a) (kind_low spec facts a (slice_get spec.apps a) refl)

law_of_words : (spec : Parts) → IsSpec spec → (v : Env) (state : State) (task : Task) (a : ℕ) → AreWords (area_at state.areas a) → AreWords (law_of spec v state task a)
law_of_words spec facts v state task a own = law_words (kind_of_app spec a) task.order _ (kind_low spec facts a (slice_get spec.apps a) refl) own

on_words : (committed : ℕ → Bool) (made old : List ℤ) (proc : Option ProcId) → AreWords made → AreWords old → AreWords (area_on committed made old proc)
on_words committed made old None is_made is_old = zeros_words
on_words committed made old (Some proc) is_made is_old = either_words (committed proc.0) made old is_made is_old

areas_words : (spec : Parts) → IsSpec spec → (script : ScriptParts) (f a : ℕ) → a < 8 → AreWords (area_at (state_after spec script f).areas a)
areas_words spec facts script zero a low = subst AreWords (sym (eight_at (start_area_of spec) a zeros low)) (start_at_words spec facts a (place_of spec spec.start a))
areas_words spec facts script (suc f) a low =
    let before = areas_words spec facts script f a low in
    subst AreWords (sym (eight_at (λ b. area_after spec (env_at spec script f) (λ p. commits spec script p f) (state_after spec script f) (task_given spec script f b) b) a zeros low))
    (on_words (λ p. commits spec script p f) (law_of spec (env_at spec script f) (state_after spec script f) (task_given spec script f a) a) (area_at (state_after spec script f).areas a)
    (task_given spec script f a).proc (law_of_words spec facts (env_at spec script f) (state_after spec script f) (task_given spec script f a) a before) before)

pub slot_words : (spec : Parts) → IsSpec spec → (script : ScriptParts) (p f a : ℕ) → a < 8 → AreWords (slot_after spec script p f a)
slot_words spec facts script p zero a low = either_words (is_proc p (start_keeper_of spec a)) (start_area_of spec a) zeros (start_at_words spec facts a (place_of spec spec.start a)) zeros_words
slot_words spec facts script p (suc f) a low =
    let before = slot_words spec facts script p f a low in
    either_words (commits spec script p f) _ _
    (either_words (is_proc p (task_given spec script f a).proc) _ _ (law_of_words spec facts (env_at spec script f) (state_after spec script f) (task_given spec script f a) a (areas_words spec facts script f a low)) before)
    before

pub read_back : (x : ℤ) → FitsSums x → decode (encode x) ≡ x
read_back (pos n) is = to_z-of_z w64 (pos n) (record { sfits = omega (arith, ints, is.high) })
read_back (negsuc n) is = to_z-of_z w64 (negsuc n) (record { sfits = omega (arith, ints, is.low) })
