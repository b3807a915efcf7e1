-- Lemmas on two lists of texts that are joined by commas.
use Rattle.std.proofs.Common.{◌≡◌, ℕ, Bool, true, List, [], ◌∷◌, ◌++◌, refl, sym, ap, append_assoc, append-nil, ◌∙◌}
use Rattle.std.specs.Prelude.{◌||◌, codes, if◌then◌else◌}
use Rattle.trace_text.specs.Names.{further_joined, joined}
use Rattle.flight_facts.specs.Differences.{is_any, comma_joined, comma_joined_after}

further_both : (xs ys : List (List ℕ)) → further_joined (xs ++ ys) ≡ further_joined xs ++ further_joined ys
further_both [] ys = refl
further_both (x ∷ xs) ys =
    ap (λ (tail : List ℕ). codes "," ++ x ++ tail) (further_both xs ys) ∙ sym (append_assoc (codes "," ++ x) (further_joined xs) (further_joined ys))

-- The joined text of two concatenated lists is the text of the first list followed by the text of the second list,
-- joined by commas. If both lists are empty, it is a dash.
pub joined_both : (xs ys : List (List ℕ)) →
    joined (xs ++ ys) ≡ (comma_joined xs ++ comma_joined_after (is_any xs) ys) ++ (if is_any xs || is_any ys then [] else codes "-")
joined_both [] [] = refl
joined_both [] (y ∷ ys) = sym (append-nil (y ++ further_joined ys))
joined_both (x ∷ xs) ys =
    ap (λ (tail : List ℕ). x ++ tail) (further_both xs ys) ∙ sym (append_assoc x (further_joined xs) (further_joined ys))
    ∙ sym (append-nil ((x ++ further_joined xs) ++ further_joined ys))

-- Two concatenated lists are not empty if and only if one of the lists is not empty.
pub any_both : (xs ys : List (List ℕ)) → is_any (xs ++ ys) ≡ (is_any xs || is_any ys)
any_both [] ys = refl
any_both (x ∷ xs) ys = refl

-- Suppose that the texts of both lists have been appended to a line, and that one of the lists is not empty. Then the
-- line has been extended by the joined text of the concatenated lists.
pub both_added : (line values all : List ℕ) (some any : Bool) (xs ys : List (List ℕ)) → values ≡ line ++ comma_joined xs → some ≡ is_any xs
    → all ≡ values ++ comma_joined_after some ys → any ≡ (some || is_any ys) → any ≡ true → all ≡ line ++ joined (xs ++ ys)
both_added line values all some any xs ys first is_some second is_any_of given =
    let there : (is_any xs || is_any ys) ≡ true = ap (λ (b : Bool). b || is_any ys) (sym is_some) ∙ sym is_any_of ∙ given in
    let joined_is : joined (xs ++ ys) ≡ (comma_joined xs ++ comma_joined_after (is_any xs) ys) ++ [] =
    joined_both xs ys ∙ ap (λ (b : Bool). (comma_joined xs ++ comma_joined_after (is_any xs) ys) ++ (if b then [] else codes "-")) there in
    second ∙ ap (λ (b : Bool). values ++ comma_joined_after b ys) is_some ∙ ap (λ (front : List ℕ). front ++ comma_joined_after (is_any xs) ys) first
    ∙ append_assoc line (comma_joined xs) (comma_joined_after (is_any xs) ys)
    ∙ ap (λ (tail : List ℕ). line ++ tail) (sym (append-nil (comma_joined xs ++ comma_joined_after (is_any xs) ys)) ∙ sym joined_is)
