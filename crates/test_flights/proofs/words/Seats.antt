-- Suppose that each item of a list of two items satisfies a fact for its index. Then the item that is taken from the
-- end first satisfies the fact for 1, and the other item satisfies the fact for 0.
use Rattle.std.proofs.Common.{◌≡◌, ◌∙◌, ℕ, ap, arith, List, [], ◌∷◌, ◌++◌, length, subst}
use Rattle.std.specs.Prelude.{Option, Some, None, IfSome, option_to_list, slice_get}
use Rattle.std.proofs.lemmas.List.{length-append}
use Rattle.scram_types.proofs.Items.{first_part, next_part}
use Rattle.word_deck.proofs.Listing.{EachAt}

pub last_of_two : {A : Type 0} (Fact : ℕ → A → Type 0) (all most : List A) (o : Option A) → length all ≡ 2 → all ≡ most ++ option_to_list o → EachAt Fact all → IfSome o (Fact 1)
last_of_two Fact all most None two is each = tt
last_of_two Fact all most (Some x) two is each =
    let long : length most ≡ 1 = omega (arith, ap length is, length-append most (x ∷ []), two) in
    subst (λ i. Fact i x) long (each (length most) x (ap (λ list. slice_get list (length most)) is ∙ next_part most [] x))

pub first_of_two : {A : Type 0} (Fact : ℕ → A → Type 0) (all most none : List A) (o p : Option A) → length all ≡ 2 → all ≡ most ++ option_to_list o → most ≡ none ++ option_to_list p → length (option_to_list o) ≡ 1 → EachAt Fact all → IfSome p (Fact 0)
first_of_two Fact all most none o None two is then some each = tt
first_of_two Fact all most none o (Some x) two is then some each =
    let long : length none ≡ 0 = omega (arith, ap length is, length-append most (option_to_list o), ap length then, length-append none (x ∷ []), two, some) in
    let there : slice_get most (length none) ≡ Some x = ap (λ list. slice_get list (length none)) then ∙ next_part none [] x in
    subst (λ i. Fact i x) long (each (length none) x (ap (λ list. slice_get list (length none)) is ∙ first_part most (option_to_list o) (length none) x there))
