-- In a table in which no name occurs twice, the look-ups of names and numbers agree.
use Rattle.std.proofs.Common.{◌≡◌, ◌∙◌, refl, ap, subst, ℕ, zero, suc, ◌+◌, ◌<◌, ◌≤◌, length, Bool, true, false, ◌&&◌, ◌||◌, not, if◌then◌else◌, List, [], ◌∷◌, Option, Some, None, IsSome, arith}
use Rattle.std.specs.Prelude.{codes}
use Rattle.std.specs.Str.{bytes_eq}
use Rattle.std.proofs.Math.Bool.{or-true}
use Rattle.std.proofs.lemmas.Slice.Eq.{bytes_eq-Decides}
use Rattle.kind_table.specs.Names.{kind_names, mode_names, variable_names, is_spelled, IsModeNumber, NamesAgree, KindIsNamed, AllNamesAgree, number_in, number_in_from, name_in}
use Rattle.scram_types.specs.Specification.{modes_of_kind}
use Rattle.scram_types.proofs.Booleans.{and_right}
use Rattle.scram_types.proofs.Equality.{same_text}
use Rattle.kind_table.proofs.EachKind.{each_kind}

-- Whether the text is a name of the table.
abbrev stands : List (Option (List ℕ)) → List ℕ → Bool
stands [] text = false
stands (name ∷ names) text = is_spelled name text || stands names text

abbrev is_new : Option (List ℕ) → List (Option (List ℕ)) → Bool
is_new None names = true
is_new (Some name) names = not (stands names name)

-- Whether no name of the table occurs twice.
abbrev differ : List (Option (List ℕ)) → Bool
differ [] = true
differ (name ∷ names) = is_new name names && differ names

spelled_itself : (text : List ℕ) → bytes_eq text text ≡ true
spelled_itself text = (bytes_eq-Decides text text).1 refl

stands_at : (names : List (Option (List ℕ))) (i : ℕ) (text : List ℕ) → name_in names i ≡ Some text → stands names text ≡ true
stands_at [] i text h = cc
stands_at (None ∷ names) zero text h = cc
stands_at (Some name ∷ names) zero text h =
    let e : name ≡ text = cc in
    let t = spelled_itself text in
    rw (e, t) refl
stands_at (name ∷ names) (suc i) text h = rw (stands_at names i text h) (or-true (is_spelled name text))

not_spelled : (name text : List ℕ) (names : List (Option (List ℕ))) (b : Bool) → stands names text ≡ true → (not (stands names name) && b) ≡ true → bytes_eq name text ≡ false
not_spelled name text names b s d = by (bytes_eq name text) refl
  where
    by : (c : Bool) → bytes_eq name text ≡ c → c ≡ false
    by false e = refl
    by true e =
        let same : name ≡ text = same_text name text e in
        let new : (not (stands names text) && b) ≡ true = subst (λ (t : List ℕ). (not (stands names t) && b) ≡ true) same d in
        let no : (not true && b) ≡ true = subst (λ (c : Bool). (not c && b) ≡ true) s new in
        cc

named_from : (n : ℕ) (names : List (Option (List ℕ))) (i : ℕ) (text : List ℕ) → differ names ≡ true → name_in names i ≡ Some text → number_in_from n names text ≡ Some (n + i)
named_from n [] i text d h = cc
named_from n (None ∷ names) zero text d h = cc
named_from n (Some name ∷ names) zero text d h =
    let e : name ≡ text = cc in
    let t = spelled_itself text in
    let sum : n + 0 ≡ n = omega arith in
    rw (e, t, sum) refl
named_from n (None ∷ names) (suc i) text d h =
    let sum : (n + 1) + i ≡ n + suc i = omega arith in
    named_from (n + 1) names i text d h ∙ ap Some sum
named_from n (Some name ∷ names) (suc i) text d h =
    let other : bytes_eq name text ≡ false = not_spelled name text names (differ names) (stands_at names i text h) d in
    let sum : (n + 1) + i ≡ n + suc i = omega arith in
    rw other (named_from (n + 1) names i text (and_right (not (stands names name)) (differ names) d) h ∙ ap Some sum)

record Found (n : ℕ) (names : List (Option (List ℕ))) (text : List ℕ) (m : ℕ) : Type 0 where
  place : ℕ
  sum : m ≡ n + place
  there : name_in names place ≡ Some text

spelled_is : (name : Option (List ℕ)) (text : List ℕ) → is_spelled name text ≡ true → name ≡ Some text
spelled_is None text e = cc
spelled_is (Some name) text e = ap Some (same_text name text e)

spelled_from : (n : ℕ) (names : List (Option (List ℕ))) (text : List ℕ) (m : ℕ) → number_in_from n names text ≡ Some m → Found n names text m
spelled_from n [] text m h = cc
spelled_from n (name ∷ names) text m h = by (is_spelled name text) refl h (spelled_from (n + 1) names text m)
  where
    by : (c : Bool) → is_spelled name text ≡ c → (if c then Some n else number_in_from (n + 1) names text) ≡ Some m
        → (number_in_from (n + 1) names text ≡ Some m → Found (n + 1) names text m) → Found n (name ∷ names) text m
    by true e f later =
        let same : n ≡ m = cc in
        record { place = 0; sum = omega arith; there = spelled_is name text e }
    by false e f later =
        let rest = later f in
        let sum = rest.sum in
        record { place = suc rest.place; sum = omega arith; there = rest.there }

agree : (names : List (Option (List ℕ))) → differ names ≡ true → NamesAgree names
agree names d = record {
  named = λ number text h.
      let sum : 0 + number ≡ number = omega arith in
      named_from 0 names number text d h ∙ ap Some sum;
  spelled = λ number text h. let found = spelled_from 0 names text number h in
      let sum = found.sum in
      let same : found.place ≡ number = omega arith in
      subst (λ (i : ℕ). name_in names i ≡ Some text) same found.there;
}

-- `m` is the number of an entry of the table, whose first entry has number `n`.
pub record Counted (n m : ℕ) (names : List (Option (List ℕ))) : Type 0 where
  pub first : n ≤ m
  pub last : m < n + length names

counted_from : (n : ℕ) (names : List (Option (List ℕ))) (text : List ℕ) (m : ℕ) → number_in_from n names text ≡ Some m → Counted n m names
counted_from n [] text m h = cc
counted_from n (name ∷ names) text m h = by (is_spelled name text) h (counted_from (n + 1) names text m)
  where
    by : (c : Bool) → (if c then Some n else number_in_from (n + 1) names text) ≡ Some m
        → (number_in_from (n + 1) names text ≡ Some m → Counted (n + 1) m names) → Counted n m (name ∷ names)
    by true f later =
        let same : n ≡ m = cc in
        record { first = omega arith; last = omega arith }
    by false f later =
        let rest = later f in
        record { first = omega (arith, rest.first); last = omega (arith, rest.last) }

modes_counted : (names : List (Option (List ℕ))) (text : List ℕ) (m modes : ℕ) → length names ≤ modes → number_in (None ∷ names) text ≡ Some m → IsModeNumber m modes
modes_counted names text m modes l h =
    let c = counted_from 1 names text m h in
    record { first = c.first; last = omega (arith, c.last) }

words_counted : (names : List (Option (List ℕ))) → length names ≤ 8 → (text : List ℕ) (i : ℕ) → number_in names text ≡ Some i → i < 8
words_counted names l text i h = let c = counted_from 0 names text i h in omega (arith, c.last)

few_variables : (kind : ℕ) → length (variable_names kind) ≤ 8
few_variables zero = omega arith
few_variables (suc zero) = omega arith
few_variables (suc (suc zero)) = omega arith
few_variables (suc (suc (suc zero))) = omega arith
few_variables (suc (suc (suc (suc zero)))) = omega arith
few_variables (suc (suc (suc (suc (suc zero))))) = omega arith
few_variables (suc (suc (suc (suc (suc (suc kind)))))) = omega arith

-- Each named variable is one of the eight words.
pub variable_number_below : (kind : ℕ) (text : List ℕ) (i : ℕ) → number_in (variable_names kind) text ≡ Some i → i < 8
variable_number_below kind = words_counted (variable_names kind) (few_variables kind)

two_named : (a b : List ℕ) (mode : ℕ) → IsModeNumber mode 2 → IsSome (name_in (None ∷ Some a ∷ Some b ∷ []) mode)
two_named a b zero p = absurd (omega (arith, p.first))
two_named a b (suc zero) p = refl
two_named a b (suc (suc zero)) p = refl
two_named a b (suc (suc (suc mode))) p = absurd (omega (arith, p.last))

three_named : (a b c : List ℕ) (mode : ℕ) → IsModeNumber mode 3 → IsSome (name_in (None ∷ Some a ∷ Some b ∷ Some c ∷ []) mode)
three_named a b c zero p = absurd (omega (arith, p.first))
three_named a b c (suc zero) p = refl
three_named a b c (suc (suc zero)) p = refl
three_named a b c (suc (suc (suc zero))) p = refl
three_named a b c (suc (suc (suc (suc mode)))) p = absurd (omega (arith, p.last))

with_two_modes : (kind : ℕ) (a b : List ℕ) → modes_of_kind kind ≡ 2 → mode_names kind ≡ None ∷ Some a ∷ Some b ∷ [] → IsSome (name_in kind_names kind)
    → NamesAgree (mode_names kind) → NamesAgree (variable_names kind) → length (variable_names kind) ≤ 8 → KindIsNamed kind
with_two_modes kind a b two names named modes variables few = record {
  name = named;
  modes = modes;
  mode_named = rw (two, names) (two_named a b);
  mode_number = λ text mode. rw (two, names) (modes_counted (Some a ∷ Some b ∷ []) text mode 2 (omega arith));
  variables = variables;
  variable_number = words_counted (variable_names kind) few;
}

with_three_modes : (kind : ℕ) (a b c : List ℕ) → modes_of_kind kind ≡ 3 → mode_names kind ≡ None ∷ Some a ∷ Some b ∷ Some c ∷ [] → IsSome (name_in kind_names kind)
    → NamesAgree (mode_names kind) → NamesAgree (variable_names kind) → length (variable_names kind) ≤ 8 → KindIsNamed kind
with_three_modes kind a b c three names named modes variables few = record {
  name = named;
  modes = modes;
  mode_named = rw (three, names) (three_named a b c);
  mode_number = λ text mode. rw (three, names) (modes_counted (Some a ∷ Some b ∷ Some c ∷ []) text mode 3 (omega arith));
  variables = variables;
  variable_number = words_counted (variable_names kind) few;
}

pub each_is_named : (kind : ℕ) → kind < 6 → KindIsNamed kind
unfolding modes_of_kind
each_is_named = each_kind KindIsNamed
    (with_two_modes 0 (codes "navigate") (codes "hold") refl refl refl (agree (mode_names 0) refl) (agree (variable_names 0) refl) (omega arith))
    (with_two_modes 1 (codes "augmented") (codes "direct") refl refl refl (agree (mode_names 1) refl) (agree (variable_names 1) refl) (omega arith))
    (with_three_modes 2 (codes "normal") (codes "saver") (codes "essential") refl refl refl (agree (mode_names 2) refl) (agree (variable_names 2) refl) (omega arith))
    (with_two_modes 3 (codes "route") (codes "coarse") refl refl refl (agree (mode_names 3) refl) (agree (variable_names 3) refl) (omega arith))
    (with_two_modes 4 (codes "fast") (codes "slow") refl refl refl (agree (mode_names 4) refl) (agree (variable_names 4) refl) (omega arith))
    (with_three_modes 5 (codes "full") (codes "reduced") (codes "minimal") refl refl refl (agree (mode_names 5) refl) (agree (variable_names 5) refl) (omega arith))

pub all_names_agree : AllNamesAgree
all_names_agree = record {
  kinds = agree kind_names refl;
  kind_number = λ text kind h. let c = counted_from 0 kind_names text kind h in omega (arith, c.last);
  each = each_is_named;
}
