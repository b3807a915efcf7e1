-- A lemma that appending four pieces to a line one by one is the same as appending their concatenation.
use Rattle.std.proofs.Common.{◌≡◌, ℕ, List, ◌++◌, ap, append_assoc, ◌∙◌}

pub route_added : (line one two three four before name given between dash : List ℕ) → one ≡ line ++ before → given ≡ name → two ≡ one ++ given
    → three ≡ two ++ between → four ≡ three ++ dash → four ≡ line ++ (((before ++ name) ++ between) ++ dash)
route_added line one two three four before name given between dash a b c d e =
    e ∙ ap (λ (l : List ℕ). l ++ dash) (d ∙ ap (λ (l : List ℕ). l ++ between) (c ∙ ap (λ (l : List ℕ). l ++ given) a ∙ ap (λ (n : List ℕ). (line ++ before) ++ n) b
    ∙ append_assoc line before name) ∙ append_assoc line (before ++ name) between) ∙ append_assoc line ((before ++ name) ++ between) dash
