-- Lemmas that appending pieces of a text one by one is the same as appending their concatenation.
use Rattle.std.proofs.Common.{◌≡◌, ℕ, List, ◌++◌, Result, Ok, Err, OnOk, ap, sym, ◌∙◌, append_assoc}
use Rattle.std.specs.Prelude.{codes}

-- If a fact that holds on success implies another fact, the other fact holds on success.
pub on_ok : {T E P Q : Type 0} (result : Result T E) → (P → Q) → OnOk result P → OnOk result Q
on_ok (Ok value) then is = then is
on_ok (Err error) then is = is

pub three_more : (a b c d : List ℕ) → ((a ++ b) ++ c) ++ d ≡ a ++ (b ++ (c ++ d))
three_more a b c d = append_assoc (a ++ b) c d ∙ append_assoc a b (c ++ d)

pub four_more : (a b c d e : List ℕ) → (((a ++ b) ++ c) ++ d) ++ e ≡ a ++ (b ++ (c ++ (d ++ e)))
four_more a b c d e = append_assoc ((a ++ b) ++ c) d e ∙ three_more a b c (d ++ e)

pub six_more : (a b c d e f g : List ℕ) → (((((a ++ b) ++ c) ++ d) ++ e) ++ f) ++ g ≡ a ++ (b ++ (c ++ (d ++ (e ++ (f ++ g)))))
six_more a b c d e f g = append_assoc ((((a ++ b) ++ c) ++ d) ++ e) f g ∙ append_assoc (((a ++ b) ++ c) ++ d) e (f ++ g) ∙ four_more a b c d (e ++ (f ++ g))

-- Appending three texts to a text one by one is the same as appending their concatenation.
pub joined_three : (a b c d : List ℕ) → ((a ++ b) ++ c) ++ d ≡ a ++ (b ++ c ++ d)
joined_three a b c d = three_more a b c d ∙ ap (λ (rest : List ℕ). a ++ rest) (sym (append_assoc b c d))

-- Appending four texts to a text one by one is the same as appending their concatenation.
pub joined_four : (a b c d e : List ℕ) → (((a ++ b) ++ c) ++ d) ++ e ≡ a ++ (b ++ c ++ d ++ e)
joined_four a b c d e = four_more a b c d e ∙ ap (λ (rest : List ℕ). a ++ rest) (sym (three_more b c d e))

-- The text of the rule that limits the number of bytes of a document. `limit` is the maximum number in decimal.
abbrev pub limit_end : List ℕ → List ℕ
limit_end limit = codes "more than" ++ (codes " " ++ limit ++ codes " bytes")

-- The pieces that are appended for a document with too many bytes are the line with the number of the broken rule,
-- followed by the line with the rule's text.
pub long_lines : (first rule number limit : List ℕ)
    → (((((first ++ rule) ++ codes "\n  rule ") ++ number) ++ codes ": more than ") ++ limit) ++ codes " bytes\n"
    ≡ first ++ rule ++ codes "\n" ++ (codes "  rule " ++ number ++ codes ": " ++ limit_end limit ++ codes "\n")
long_lines first rule number limit =
    six_more first rule (codes "\n  rule ") number (codes ": more than ") limit (codes " bytes\n")
    ∙ sym (three_more first rule (codes "\n") (codes "  rule " ++ number ++ codes ": " ++ limit_end limit ++ codes "\n")
    ∙ ap (λ (rest : List ℕ). first ++ (rule ++ (codes "\n" ++ rest))) (four_more (codes "  rule ") number (codes ": ") (limit_end limit) (codes "\n")
    ∙ ap (λ (rest : List ℕ). codes "  rule " ++ (number ++ (codes ": more than " ++ rest))) (append_assoc limit (codes " bytes") (codes "\n"))))
