-- If the result of a reading is `Ok`, each of its tests has passed.
use Rattle.std.proofs.Common.{ℕ, ℤ, suc, zero, ◌≡◌, ◌+◌, ◌∙◌, Bool, true, false, cond, List, [], ◌∷◌, Option, Some, None, Result, Ok, Err, drop, length, arith, refl, sym, ap}
use Rattle.std.specs.Prelude.{◌==◌, ◌&&◌, nat_le, option_map, option_and_then}
use Rattle.std.specs.List.{join_with_byte, list_all}
use Rattle.std.proofs.lemmas.Bool.{eqb-true}
use Rattle.std.proofs.lemmas.List.{drop_all, drop_more}
use Rattle.std.proofs.lemmas.List.Splits.{join_with_byte-slice_split}
use Rattle.scram_types.specs.declared.rows.World.{World}
use Rattle.scram_types.proofs.Equality.{same_text}
use Rattle.trace_text.specs.Pieces.{words_of, words_in, is_word, is_filled, word_at}
use Rattle.trace_text.specs.RowReading.{world_at}
use Rattle.trace_text.specs.Rules.{or_rule}
use Rattle.trace_text.specs.Spelling.{signed_of}

pub or_rule_ok : {A B : Type 0} (rule : ℕ) (o : Option A) (next : A → Result B ℕ) (b : B) → or_rule rule o next ≡ Ok b →
    (a : A) × (o ≡ Some a) × (next a ≡ Ok b)
or_rule_ok rule None next b h = absurd (let e = h in cc)
or_rule_ok rule (Some a) next b h = (a, refl, h)

pub if_ok : {B : Type 0} (t : Bool) (r : Result B ℕ) (rule : ℕ) (b : B) → cond t r (Err rule) ≡ Ok b → (t ≡ true) × (r ≡ Ok b)
if_ok true r rule b h = (refl, h)
if_ok false r rule b h = absurd (let e = h in cc)

pub some_says : {A : Type 0} (b : Bool) (x y : A) → cond b (Some x) None ≡ Some y → (b ≡ true) × (x ≡ y)
some_says true x y h = (refl, cc)
some_says false x y h = absurd (let e = h in cc)

pub kept_says : {A : Type 0} (b : Bool) (o : Option A) (y : A) → cond b o None ≡ Some y → (b ≡ true) × (o ≡ Some y)
kept_says true o y h = (refl, h)
kept_says false o y h = absurd (let e = h in cc)

pub map_some : {A B : Type 0} (f : A → B) (o : Option A) (b : B) → option_map f o ≡ Some b → (a : A) × (o ≡ Some a) × (f a ≡ b)
map_some f None b h = absurd (let e = h in cc)
map_some f (Some a) b h = (a, refl, let e : f a ≡ b = cc in e)

pub then_some : {A B : Type 0} (f : A → Option B) (o : Option A) (b : B) → option_and_then f o ≡ Some b → (a : A) × (o ≡ Some a) × (f a ≡ Some b)
then_some f None b h = absurd (let e = h in cc)
then_some f (Some a) b h = (a, refl, h)

pub is_text : (ws : List (List ℕ)) (k : ℕ) (text : List ℕ) → is_word ws k text ≡ true → word_at ws k ≡ text
is_text ws k text h = same_text (word_at ws k) text h

-- The `n` words from index `k` on.
abbrev pub tab : ℕ → ℕ → List (List ℕ) → List (List ℕ)
tab zero k ws = []
tab (suc n) k ws = word_at ws k ∷ tab n (k + 1) ws

tab_from : (n k : ℕ) (ws : List (List ℕ)) → length ws ≡ k + n → tab n k ws ≡ drop k ws
tab_from zero k ws e = sym (drop_all k ws (omega (arith, e)))
tab_from (suc n) k ws e = ap (λ (rest : List (List ℕ)). word_at ws k ∷ rest) (tab_from n (k + 1) ws (omega (arith, e))) ∙ sym (drop_more ws k [] (omega (arith, e)))

pub words_listed : (n : ℕ) (ws : List (List ℕ)) → (length ws == n) ≡ true → ws ≡ tab n 0 ws
words_listed n ws e = let same : length ws ≡ n = eqb-true (length ws) n e in sym (tab_from n 0 ws (omega (arith, same)))

-- Lists of words are equal if their first words and their remaining words are equal.
pub both : {a b : List ℕ} {xs ys : List (List ℕ)} → a ≡ b → xs ≡ ys → a ∷ xs ≡ b ∷ ys
both {a} {b} {xs} {ys} e f = ap (λ (x : List ℕ). x ∷ xs) e ∙ ap (λ (l : List (List ℕ)). b ∷ l) f

pub line_joined : (line : List ℕ) (ws : List (List ℕ)) → words_in line ≡ Some ws → line ≡ join_with_byte 32 ws
line_joined line ws h =
    let p = some_says (nat_le (length (words_of line)) 16 && list_all is_filled (words_of line)) (words_of line) ws h in
    sym (join_with_byte-slice_split 32 line) ∙ ap (join_with_byte 32) p.1

pub words_are : (line : List ℕ) (ws : List (List ℕ)) → words_in line ≡ Some ws → words_of line ≡ ws
words_are line ws h = (some_says (nat_le (length (words_of line)) 16 && list_all is_filled (words_of line)) (words_of line) ws h).1

-- The four words from index `at` on spell the numbers of `world`.
pub record WorldFound (ws : List (List ℕ)) (at : ℕ) (world : World) : Type 0 where
  pub alt : signed_of (word_at ws at) ≡ Some world.alt
  pub climb : signed_of (word_at ws (at + 1)) ≡ Some world.climb
  pub heading : signed_of (word_at ws (at + 2)) ≡ Some world.heading
  pub bank : signed_of (word_at ws (at + 3)) ≡ Some world.bank

pub world_found : (ws : List (List ℕ)) (at : ℕ) (world : World) → world_at ws at ≡ Some world → WorldFound ws at world
world_found ws at world h =
    let a = then_some (λ (alt : ℤ). option_and_then (λ (climb : ℤ). option_and_then (λ (heading : ℤ). option_map (λ (bank : ℤ).
    record { alt = alt; climb = climb; heading = heading; bank = bank })
    (signed_of (word_at ws (at + 3)))) (signed_of (word_at ws (at + 2)))) (signed_of (word_at ws (at + 1)))) (signed_of (word_at ws at)) world h in
    let b = then_some (λ (climb : ℤ). option_and_then (λ (heading : ℤ). option_map (λ (bank : ℤ).
    record { alt = a.0; climb = climb; heading = heading; bank = bank })
    (signed_of (word_at ws (at + 3)))) (signed_of (word_at ws (at + 2)))) (signed_of (word_at ws (at + 1))) world a.2 in
    let c = then_some (λ (heading : ℤ). option_map (λ (bank : ℤ).
    record { alt = a.0; climb = b.0; heading = heading; bank = bank })
    (signed_of (word_at ws (at + 3)))) (signed_of (word_at ws (at + 2))) world b.2 in
    let d = map_some (λ (bank : ℤ). record { alt = a.0; climb = b.0; heading = c.0; bank = bank }) (signed_of (word_at ws (at + 3))) world c.2 in
    let made : WorldFound ws at (record { alt = a.0; climb = b.0; heading = c.0; bank = d.0 }) = record { alt = a.1; climb = b.1; heading = c.1; bank = d.1 } in
    rw (← d.2) made
