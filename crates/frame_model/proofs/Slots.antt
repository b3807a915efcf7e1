-- Each slot of an image has eight words and equals the slot that `slot_in` reads from the image.
use Rattle.std.proofs.Common.{◌≡◌, ◌∙◌, ℕ, zero, suc, ◌+◌, ◌*◌, ◌<◌, refl, ap, sym, arith, length, Bool, List, [], ◌∷◌, ◌++◌, ◌⊎◌}
use mathlib.Core.Logic.{inl, inr}
use Rattle.std.specs.Prelude.{ℤ, pos, Option, Some, None, slice_index_or}
use Rattle.std.proofs.lemmas.List.{get_or_append_left, get_or-append-add, length-append}
use Rattle.scram_types.specs.declared.rows.Env.{Env}
use Rattle.scram_types.specs.declared.ids.ProcId.{ProcId}
use Rattle.scram_types.specs.declared.specification.Place.{Place}
use Rattle.scram_types.specs.Eights.{eight}
use Rattle.scram_types.specs.Lookups.{kind_of_app, place_of}
use Rattle.scram_types.specs.Scripts.{ScriptParts}
use Rattle.scram_types.specs.Specification.{Parts}
use Rattle.scram_types.proofs.Eights.{eight_at, eight_same}
use Rattle.app_model.proofs.Lengths.{either_eight, law_eight}
use Rattle.fault_script.specs.Environments.{env_at}
use Rattle.fault_script.specs.Times.{commits}
use Rattle.frame_model.specs.declared.tasks.Task.{Task}
use Rattle.frame_model.specs.Flights.{image_after, image_of, is_proc, slot_after, slot_in, state_after, task_given}
use Rattle.frame_model.specs.States.{State, area_after, area_at, area_on, law_of, start_area_at, start_area_of, start_keeper_of, zeros}

start_at_eight : (spec : Parts) (a : ℕ) (place : Option Place) → length (start_area_at spec a place) ≡ 8
start_at_eight spec a None = refl
start_at_eight spec a (Some place) = refl

start_area_eight : (spec : Parts) (a : ℕ) → length (start_area_of spec a) ≡ 8
start_area_eight spec a = start_at_eight spec a (place_of spec spec.start a)

on_eight : (committed : ℕ → Bool) (made old : List ℤ) (proc : Option ProcId) → length made ≡ 8 → length old ≡ 8 → length (area_on committed made old proc) ≡ 8
on_eight committed made old None is_made is_old = refl
on_eight committed made old (Some proc) is_made is_old = either_eight _ _ (committed proc.0) is_made is_old

law_of_eight : (spec : Parts) (v : Env) (state : State) (task : Task) (a : ℕ) → length (area_at state.areas a) ≡ 8 → length (law_of spec v state task a) ≡ 8
law_of_eight spec v state task a own = law_eight (kind_of_app spec a) task.order _ own

areas_eight : (spec : Parts) (script : ScriptParts) (f a : ℕ) → a < 8 → length (area_at (state_after spec script f).areas a) ≡ 8
areas_eight spec script zero a low = ap length (eight_at (start_area_of spec) a zeros low) ∙ start_area_eight spec a
areas_eight spec script (suc f) a low =
    let before = areas_eight spec script f a low in
    ap length (eight_at (λ b. area_after spec (env_at spec script f) (λ p. commits spec script p f) (state_after spec script f) (task_given spec script f b) b) a zeros low)
    ∙ on_eight (λ p. commits spec script p f) (law_of spec (env_at spec script f) (state_after spec script f) (task_given spec script f a) a) (area_at (state_after spec script f).areas a)
    (task_given spec script f a).proc (law_of_eight spec (env_at spec script f) (state_after spec script f) (task_given spec script f a) a before) before

slot_eight : (spec : Parts) (script : ScriptParts) (p f a : ℕ) → a < 8 → length (slot_after spec script p f a) ≡ 8
slot_eight spec script p zero a low = either_eight _ _ (is_proc p (start_keeper_of spec a)) (start_area_eight spec a) refl
slot_eight spec script p (suc f) a low =
    let before = slot_eight spec script p f a low in
    either_eight _ _ (commits spec script p f)
    (either_eight _ _ (is_proc p (task_given spec script f a).proc) (law_of_eight spec (env_at spec script f) (state_after spec script f) (task_given spec script f a) a (areas_eight spec script f a low)) before)
    before

eight_words : (xs : List ℤ) → length xs ≡ 8 → eight (λ i. slice_index_or xs i (pos 0)) ≡ xs
eight_words [] is = absurd (omega arith)
eight_words (a ∷ []) is = absurd (omega arith)
eight_words (a ∷ b ∷ []) is = absurd (omega arith)
eight_words (a ∷ b ∷ c ∷ []) is = absurd (omega arith)
eight_words (a ∷ b ∷ c ∷ d ∷ []) is = absurd (omega arith)
eight_words (a ∷ b ∷ c ∷ d ∷ e ∷ []) is = absurd (omega arith)
eight_words (a ∷ b ∷ c ∷ d ∷ e ∷ f ∷ []) is = absurd (omega arith)
eight_words (a ∷ b ∷ c ∷ d ∷ e ∷ f ∷ g ∷ []) is = absurd (omega arith)
eight_words (a ∷ b ∷ c ∷ d ∷ e ∷ f ∷ g ∷ h ∷ []) is = refl
eight_words (a ∷ b ∷ c ∷ d ∷ e ∷ f ∷ g ∷ h ∷ i ∷ more) is = absurd (omega arith)

-- The concatenation of the first `n` slots.
joined : (ℕ → List ℤ) → ℕ → List ℤ
joined slot zero = []
joined slot (suc n) = joined slot n ++ slot n

joined_long : (slot : ℕ → List ℤ) → ((a : ℕ) → a < 8 → length (slot a) ≡ 8) → (n : ℕ) → n < 9 → length (joined slot n) ≡ 8 * n
unfolding joined
joined_long slot is zero all = refl
joined_long slot is (suc n) all =
    let before = joined_long slot is n (omega arith) in
    let last = is n (omega arith) in
    length-append (joined slot n) (slot n) ∙ omega (arith, before, last)

last_or_below : (k n : ℕ) → k < suc n → (k ≡ n) ⊎ (k < n)
last_or_below k n h = grind arith

found_in : (slot : ℕ → List ℤ) → ((a : ℕ) → a < 8 → length (slot a) ≡ 8) → (n k i : ℕ) → n < 9 → k < n → i < 8
    → slice_index_or (joined slot n) (8 * k + i) (pos 0) ≡ slice_index_or (slot k) i (pos 0)
unfolding joined
found_in slot is zero k i all low small = absurd (omega arith)
found_in slot is (suc n) k i all low small =
    let long = joined_long slot is n (omega arith) in
    elim (last_or_below k n low) [
      | inl last ↦
          let at : 8 * k + i ≡ length (joined slot n) + i = rw (long, last) refl in
          rw (at, last) (get_or-append-add (joined slot n) (slot n) i (pos 0))
      | inr below ↦
          let inside : 8 * k + i < length (joined slot n) = rw long (omega arith) in
          get_or_append_left (joined slot n) (slot n) (pos 0) (8 * k + i) inside ∙ found_in slot is n k i (omega arith) below small
    ]

joined_all : (slot : ℕ → List ℤ) → joined slot 8 ≡ image_of slot
unfolding joined
joined_all slot = refl

pub slot_found : (slot : ℕ → List ℤ) → ((a : ℕ) → a < 8 → length (slot a) ≡ 8) → (a : ℕ) → a < 8 → slot_in (image_of slot) a ≡ slot a
slot_found slot is a low =
    eight_same (λ i. slice_index_or (image_of slot) (8 * a + i) (pos 0)) (λ i. slice_index_or (slot a) i (pos 0))
    (λ i small. ap (λ l. slice_index_or l (8 * a + i) (pos 0)) (sym (joined_all slot)) ∙ found_in slot is 8 a i (omega arith) low small)
    ∙ eight_words (slot a) (is a low)

pub slot_is : (spec : Parts) (script : ScriptParts) (p f a : ℕ) → a < 8 → slot_in (image_after spec script p f) a ≡ slot_after spec script p f a
slot_is spec script p f a low = slot_found (slot_after spec script p f) (λ b small. slot_eight spec script p f b small) a low
