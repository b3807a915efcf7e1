-- Proof that the text of each line of a trace is the words of the line, separated by single spaces and followed by a
-- line feed.
use Rattle.std.proofs.Common.{ℕ, ℤ, ◌≡◌, ◌∙◌, List, [], ◌∷◌, ◌++◌, append_assoc, append-nil, refl, sym, ap, map}
use Rattle.std.specs.Prelude.{codes}
use Rattle.std.specs.Fmt.{signed_decimal}
use Rattle.std.specs.List.{join_with_byte}
use Rattle.trace_text.specs.Text.{area_text}

-- A binary tree of texts that are joined by `++`.
data Tree : Type 0 where
  leaf : List ℕ → Tree
  fork : Tree → Tree → Tree

abbrev flat : Tree → List ℕ
flat (leaf text) = text
flat (fork a b) = flat a ++ flat b

-- The text of a tree, followed by another text.
abbrev before : Tree → List ℕ → List ℕ
before (leaf text) more = text ++ more
before (fork a b) more = before a (before b more)

before_flat : (t : Tree) (more : List ℕ) → before t more ≡ flat t ++ more
before_flat (leaf text) more = refl
before_flat (fork a b) more = before_flat a (before b more) ∙ ap (λ (rest : List ℕ). flat a ++ rest) (before_flat b more) ∙ sym (append_assoc (flat a) (flat b) more)

flattened : (t : Tree) → before t [] ≡ flat t
flattened t = before_flat t [] ∙ append-nil (flat t)

-- The tree of `t` and the trees after it, nested to the left.
abbrev chain : Tree → List Tree → Tree
chain t [] = t
chain t (u ∷ us) = chain (fork t u) us

abbrev say : List ℕ → Tree
say text = leaf text

-- The text of words, separated by single spaces, and a line feed.
abbrev ended : List ℕ → List (List ℕ) → List ℕ
ended word [] = word ++ codes "\n"
ended word (next ∷ words) = word ++ 32 ∷ ended next words

ended_joined : (word : List ℕ) (words : List (List ℕ)) → join_with_byte 32 (word ∷ words) ++ codes "\n" ≡ ended word words
ended_joined word [] = refl
ended_joined word (next ∷ words) =
    append_assoc word (32 ∷ join_with_byte 32 (next ∷ words)) (codes "\n") ∙ ap (λ (rest : List ℕ). word ++ 32 ∷ rest) (ended_joined next words)

pub stable_shape : (f c v u a b h k : List ℕ) →
    join_with_byte 32 (codes "frame" ∷ f ∷ codes "stable" ∷ c ∷ codes "env" ∷ v ∷ codes "up" ∷ u ∷ codes "world" ∷ a ∷ b ∷ h ∷ k ∷ []) ++ codes "\n"
    ≡ codes "frame " ++ f ++ codes " " ++ (codes "stable " ++ c) ++ codes " env " ++ v ++ codes " up " ++ u ++ codes " world "
    ++ (a ++ codes " " ++ b ++ codes " " ++ h ++ codes " " ++ k) ++ codes "\n"
stable_shape f c v u a b h k =
    ended_joined (codes "frame") (f ∷ codes "stable" ∷ c ∷ codes "env" ∷ v ∷ codes "up" ∷ u ∷ codes "world" ∷ a ∷ b ∷ h ∷ k ∷ [])
    ∙ flattened (chain (say (codes "frame ")) (say f ∷ say (codes " ") ∷ fork (say (codes "stable ")) (say c) ∷ say (codes " env ") ∷ say v ∷ say (codes " up ") ∷ say u ∷ say (codes " world ")
    ∷ chain (say a) (say (codes " ") ∷ say b ∷ say (codes " ") ∷ say h ∷ say (codes " ") ∷ say k ∷ []) ∷ say (codes "\n") ∷ []))

pub moving_shape : (f c d e s v u a b h k : List ℕ) →
    join_with_byte 32 (codes "frame" ∷ f ∷ codes "moving" ∷ c ∷ d ∷ e ∷ s ∷ codes "env" ∷ v ∷ codes "up" ∷ u ∷ codes "world" ∷ a ∷ b ∷ h ∷ k ∷ []) ++ codes "\n"
    ≡ codes "frame " ++ f ++ codes " " ++ (codes "moving " ++ c ++ codes " " ++ d ++ codes " " ++ e ++ codes " " ++ s) ++ codes " env " ++ v ++ codes " up " ++ u ++ codes " world "
    ++ (a ++ codes " " ++ b ++ codes " " ++ h ++ codes " " ++ k) ++ codes "\n"
moving_shape f c d e s v u a b h k =
    ended_joined (codes "frame") (f ∷ codes "moving" ∷ c ∷ d ∷ e ∷ s ∷ codes "env" ∷ v ∷ codes "up" ∷ u ∷ codes "world" ∷ a ∷ b ∷ h ∷ k ∷ [])
    ∙ flattened (chain (say (codes "frame ")) (say f ∷ say (codes " ")
    ∷ chain (say (codes "moving ")) (say c ∷ say (codes " ") ∷ say d ∷ say (codes " ") ∷ say e ∷ say (codes " ") ∷ say s ∷ [])
    ∷ say (codes " env ") ∷ say v ∷ say (codes " up ") ∷ say u ∷ say (codes " world ")
    ∷ chain (say a) (say (codes " ") ∷ say b ∷ say (codes " ") ∷ say h ∷ say (codes " ") ∷ say k ∷ []) ∷ say (codes "\n") ∷ []))

-- The words of an area, each preceded by a space, and a line feed.
abbrev area_ended : List ℤ → List ℕ
area_ended [] = codes "\n"
area_ended (z ∷ zs) = 32 ∷ (signed_decimal z ++ area_ended zs)

ended_area : (w : List ℕ) (area : List ℤ) → ended w (map signed_decimal area) ≡ w ++ area_ended area
ended_area w [] = refl
ended_area w (z ∷ zs) = ap (λ (rest : List ℕ). w ++ 32 ∷ rest) (ended_area (signed_decimal z) zs)

area_before : (area : List ℤ) → area_text area ++ codes "\n" ≡ area_ended area
area_before [] = refl
area_before (z ∷ zs) = ap (λ (rest : List ℕ). 32 ∷ rest) (append_assoc (signed_decimal z) (area_text zs) (codes "\n") ∙ ap (λ (rest : List ℕ). signed_decimal z ++ rest) (area_before zs))

pub ran_shape : (n m p : List ℕ) (area : List ℤ) →
    join_with_byte 32 (codes "app" ∷ n ∷ codes "ran" ∷ m ∷ p ∷ codes ":" ∷ map signed_decimal area) ++ codes "\n"
    ≡ codes "app " ++ n ++ codes " " ++ (codes "ran " ++ m ++ codes " " ++ p) ++ codes " :" ++ area_text area ++ codes "\n"
ran_shape n m p area =
    ended_joined (codes "app") (n ∷ codes "ran" ∷ m ∷ p ∷ codes ":" ∷ map signed_decimal area)
    ∙ ap (λ (rest : List ℕ). codes "app" ++ 32 ∷ (n ++ 32 ∷ (codes "ran" ++ 32 ∷ (m ++ 32 ∷ (p ++ 32 ∷ rest))))) (ended_area (codes ":") area ∙ ap (λ (rest : List ℕ). 58 ∷ rest) (sym (area_before area)))
    ∙ flattened (chain (say (codes "app ")) (say n ∷ say (codes " ") ∷ chain (say (codes "ran ")) (say m ∷ say (codes " ") ∷ say p ∷ []) ∷ say (codes " :") ∷ say (area_text area) ∷ say (codes "\n") ∷ []))

pub phase_shape : (n tag k l p : List ℕ) (area : List ℤ) →
    join_with_byte 32 (codes "app" ∷ n ∷ tag ∷ (k ++ 47 ∷ l) ∷ p ∷ codes ":" ∷ map signed_decimal area) ++ codes "\n"
    ≡ codes "app " ++ n ++ codes " " ++ ((tag ++ codes " ") ++ (k ++ codes "/" ++ l ++ codes " " ++ p)) ++ codes " :" ++ area_text area ++ codes "\n"
phase_shape n tag k l p area =
    ended_joined (codes "app") (n ∷ tag ∷ (k ++ 47 ∷ l) ∷ p ∷ codes ":" ∷ map signed_decimal area)
    ∙ ap (λ (rest : List ℕ). codes "app" ++ 32 ∷ (n ++ 32 ∷ (tag ++ 32 ∷ rest)))
    (append_assoc k (47 ∷ l) (32 ∷ (p ++ 32 ∷ ended (codes ":") (map signed_decimal area)))
    ∙ ap (λ (rest : List ℕ). k ++ 47 ∷ (l ++ 32 ∷ (p ++ 32 ∷ rest))) (ended_area (codes ":") area ∙ ap (λ (rest : List ℕ). 58 ∷ rest) (sym (area_before area))))
    ∙ flattened (chain (say (codes "app ")) (say n ∷ say (codes " ")
    ∷ fork (fork (say tag) (say (codes " "))) (chain (say k) (say (codes "/") ∷ say l ∷ say (codes " ") ∷ say p ∷ [])) ∷ say (codes " :") ∷ say (area_text area) ∷ say (codes "\n") ∷ []))

pub bare_shape : (n tag : List ℕ) (area : List ℤ) →
    join_with_byte 32 (codes "app" ∷ n ∷ tag ∷ codes ":" ∷ map signed_decimal area) ++ codes "\n"
    ≡ codes "app " ++ n ++ codes " " ++ tag ++ codes " :" ++ area_text area ++ codes "\n"
bare_shape n tag area =
    ended_joined (codes "app") (n ∷ tag ∷ codes ":" ∷ map signed_decimal area)
    ∙ ap (λ (rest : List ℕ). codes "app" ++ 32 ∷ (n ++ 32 ∷ (tag ++ 32 ∷ rest))) (ended_area (codes ":") area ∙ ap (λ (rest : List ℕ). 58 ∷ rest) (sym (area_before area)))
    ∙ flattened (chain (say (codes "app ")) (say n ∷ say (codes " ") ∷ say tag ∷ say (codes " :") ∷ say (area_text area) ∷ say (codes "\n") ∷ []))

pub finished_shape : (f c b e d g : List ℕ) →
    join_with_byte 32 (codes "reconfiguration" ∷ f ∷ codes ">" ∷ c ∷ codes "begin" ∷ b ∷ codes "end" ∷ e ∷ codes "took" ∷ d ∷ codes "of" ∷ g ∷ []) ++ codes "\n"
    ≡ codes "reconfiguration " ++ f ++ (codes " > " ++ c ++ codes " begin " ++ b ++ codes " end " ++ e ++ (codes " took " ++ d ++ codes " of " ++ g)) ++ codes "\n"
finished_shape f c b e d g =
    ended_joined (codes "reconfiguration") (f ∷ codes ">" ∷ c ∷ codes "begin" ∷ b ∷ codes "end" ∷ e ∷ codes "took" ∷ d ∷ codes "of" ∷ g ∷ [])
    ∙ flattened (chain (say (codes "reconfiguration ")) (say f ∷ chain (say (codes " > ")) (say c ∷ say (codes " begin ") ∷ say b ∷ say (codes " end ") ∷ say e
    ∷ chain (say (codes " took ")) (say d ∷ say (codes " of ") ∷ say g ∷ []) ∷ []) ∷ say (codes "\n") ∷ []))

pub unfinished_shape : (f b d g : List ℕ) →
    join_with_byte 32 (codes "reconfiguration" ∷ f ∷ codes ">" ∷ codes "-" ∷ codes "begin" ∷ b ∷ codes "end" ∷ codes "-" ∷ codes "took" ∷ d ∷ codes "of" ∷ g ∷ []) ++ codes "\n"
    ≡ codes "reconfiguration " ++ f ++ (codes " > - begin " ++ b ++ codes " end -" ++ (codes " took " ++ d ++ codes " of " ++ g)) ++ codes "\n"
unfinished_shape f b d g =
    ended_joined (codes "reconfiguration") (f ∷ codes ">" ∷ codes "-" ∷ codes "begin" ∷ b ∷ codes "end" ∷ codes "-" ∷ codes "took" ∷ d ∷ codes "of" ∷ g ∷ [])
    ∙ flattened (chain (say (codes "reconfiguration ")) (say f ∷ chain (say (codes " > - begin ")) (say b ∷ say (codes " end -")
    ∷ chain (say (codes " took ")) (say d ∷ say (codes " of ") ∷ say g ∷ []) ∷ []) ∷ say (codes "\n") ∷ []))

pub end_shape : (f r : List ℕ) →
    join_with_byte 32 (codes "end" ∷ codes "frames" ∷ f ∷ codes "reconfigurations" ∷ r ∷ []) ++ codes "\n"
    ≡ codes "end frames " ++ f ++ codes " reconfigurations " ++ r ++ codes "\n"
end_shape f r =
    ended_joined (codes "end") (codes "frames" ∷ f ∷ codes "reconfigurations" ∷ r ∷ [])
    ∙ flattened (chain (say (codes "end frames ")) (say f ∷ say (codes " reconfigurations ") ∷ say r ∷ say (codes "\n") ∷ []))
