-- The text that is shown for items is the same whether or not they are read as plain data first.
use Rattle.std.proofs.Common.{◌≡◌, ℕ, Bool, true, false, cond, List, [], ◌∷◌, ◌++◌, map, refl, ap, ◌∙◌}
use Rattle.std.specs.Prelude.{codes}
use Rattle.document_explanations.specs.Wants.{further_listed, listed}

read_first : {A B C : Type 0} (shown : B → C) (seen : A → B) (items : List A) → map (λ (x : A). shown (seen x)) items ≡ map shown (map seen items)
read_first shown seen [] = refl
read_first shown seen (x ∷ items) = ap (λ (rest : List _). shown (seen x) ∷ rest) (read_first shown seen items)

-- If the items are read as the plain data `things`, the listed texts of the items are the listed texts of `things`.
pub listed_read : {A B : Type 0} (shown : B → List ℕ) (seen : A → B) (items : List A) (things : List B) → map seen items ≡ things
    → listed (map (λ (x : A). shown (seen x)) items) ≡ listed (map shown things)
listed_read {A} {B} shown seen items things same = ap listed (read_first shown seen items ∙ ap (map shown) same)

-- The text of the remaining items of a list, given whether some items have been written before them.
abbrev pub left_listed : Bool → List (List ℕ) → List ℕ
left_listed true texts = further_listed texts
left_listed false texts = listed texts

pub nothing_left : (later : Bool) → left_listed later [] ≡ []
nothing_left true = refl
nothing_left false = refl

pub one_more : (later : Bool) (text : List ℕ) (texts : List (List ℕ)) → left_listed later (text ∷ texts) ≡ cond later (codes ", ") [] ++ text ++ further_listed texts
one_more true text texts = refl
one_more false text texts = refl
