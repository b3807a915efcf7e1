-- Lemmas that parts of equal texts end at the same positions.
use Rattle.std.proofs.Common.{◌≡◌, ℕ, zero, suc, ◌<◌, Bool, true, false, cond, List, [], ◌∷◌, ◌++◌, Option, Some, None, refl, sym, ap, arith, ◌∙◌}
use Rattle.std.specs.Prelude.{◌==◌, nat_le, if◌then◌else◌}
use Rattle.std.specs.List.{list_all}
use Rattle.std.proofs.lemmas.Bool.{and_from, and_parts, leb-true, ne_eqb}
use Rattle.std.proofs.lemmas.List.{append_cancel_left}
use Rattle.std.proofs.lemmas.List.Folds.{list_all-append}
use Rattle.trace_text.proofs.WordBytes.{all_over, over}

-- Two equal texts begin with fields whose bytes satisfy `P`. If the byte after each field does not satisfy `P`, the
-- fields are equal, and the texts after the fields are equal.
pub fields : (P : ℕ → Bool) (d f : ℕ) (a b r s : List ℕ) → P d ≡ false → P f ≡ false → list_all P a ≡ true → list_all P b ≡ true → a ++ d ∷ r ≡ b ++ f ∷ s → (a ≡ b) × (d ∷ r ≡ f ∷ s)
fields P d f [] [] r s free other e g h = (refl, h)
fields P d f [] (c ∷ b) r s free other e g h =
    absurd (let same : d ≡ c = cc in let p = and_parts (P c) (list_all P b) g in let q : P d ≡ true = rw same p.0 in cc)
fields P d f (c ∷ a) [] r s free other e g h =
    absurd (let same : f ≡ c = cc in let p = and_parts (P c) (list_all P a) e in let q : P f ≡ true = rw same p.0 in cc)
fields P d f (c ∷ a) (b ∷ bs) r s free other e g h =
    let same : c ≡ b = cc in
    let rest : a ++ d ∷ r ≡ bs ++ f ∷ s = cc in
    let more = fields P d f a bs r s free other (and_parts (P c) (list_all P a) e).1 (and_parts (P b) (list_all P bs) g).1 rest in
    let tails : a ≡ bs = more.0 in
    (let x : c ∷ a ≡ b ∷ bs = cc in x, more.1)

-- Two equal texts begin with fields whose bytes satisfy `P`. If the same byte follows both fields and does not
-- satisfy `P`, the fields are equal, and the texts after that byte are equal.
pub field : (P : ℕ → Bool) (d : ℕ) (a b r s : List ℕ) → P d ≡ false → list_all P a ≡ true → list_all P b ≡ true → a ++ d ∷ r ≡ b ++ d ∷ s → (a ≡ b) × (r ≡ s)
field P d a b r s free e g h = let both = fields P d d a b r s free free e g h in (both.0, append_cancel_left (d ∷ []) r s both.1)

-- The number of occurrences of byte `d` that remain after byte `b`, given the number that remained before `b`. It is
-- `None` if none remained before `b`, which means that `b` is past the end of the part.
abbrev pub to_come : ℕ → Option ℕ → ℕ → Option ℕ
to_come d None b = None
to_come d (Some zero) b = None
to_come d (Some (suc n)) b = if b == d then Some n else Some (suc n)

abbrev pub left_after : ℕ → Option ℕ → List ℕ → Option ℕ
left_after d n [] = n
left_after d n (b ∷ text) = left_after d (to_come d n b) text

pub left_append : (d : ℕ) (n : Option ℕ) (t u : List ℕ) → left_after d n (t ++ u) ≡ left_after d (left_after d n t) u
left_append d n [] u = refl
left_append d n (b ∷ t) u = left_append d (to_come d n b) t u

left_none : (d : ℕ) (t : List ℕ) → left_after d None t ≡ None
left_none d [] = refl
left_none d (b ∷ t) = left_none d t

past_end : (d c : ℕ) (n : Option ℕ) (u : List ℕ) → n ≡ Some 0 → left_after d (to_come d n c) u ≡ Some 0 → ⊥
past_end d c None u e f = let x = e in cc
past_end d c (Some zero) u e f = let k : left_after d None u ≡ None = left_none d u in let x : left_after d None u ≡ Some 0 = f in cc
past_end d c (Some (suc n)) u e f = let x = e in cc

-- If two equal texts begin with parts that end at the `n`-th occurrence of byte `d`, the parts are equal, and the
-- texts after them are equal.
pub cut : (d : ℕ) (n : Option ℕ) (t u r s : List ℕ) → left_after d n t ≡ Some 0 → left_after d n u ≡ Some 0 → t ++ r ≡ u ++ s → (t ≡ u) × (r ≡ s)
cut d n [] [] r s e f h = (refl, h)
cut d n [] (c ∷ u) r s e f h = absurd (past_end d c n u e f)
cut d n (b ∷ t) [] r s e f h = absurd (past_end d b n t f e)
cut d n (b ∷ t) (c ∷ u) r s e f h =
    let same : b ≡ c = cc in
    let rest : t ++ r ≡ u ++ s = cc in
    let g : left_after d (to_come d n b) u ≡ Some 0 = rw same f in
    let more = cut d (to_come d n b) t u r s e g rest in
    let tails : t ≡ u = more.0 in
    (let x : b ∷ t ≡ c ∷ u = cc in x, more.1)

-- A text without byte `d` does not change the number of occurrences of `d` that remain.
pub passed : (d least n : ℕ) (text rest : List ℕ) → d < least → all_over least text ≡ true → left_after d (Some (suc n)) (text ++ rest) ≡ left_after d (Some (suc n)) rest
passed d least n [] rest h e = refl
passed d least n (b ∷ text) rest h e =
    let p = and_parts _ _ e in
    let q = and_parts (nat_le least b) (nat_le b 126) p.0 in
    let k = leb-true least b q.0 in
    ap (λ (same : Bool). left_after d (cond same (Some n) (Some (suc n))) (text ++ rest)) (ne_eqb b d (λ same. omega (arith, same, k, h))) ∙ passed d least n text rest h p.1

-- If all bytes of two texts are from `least` to 126, all bytes of their concatenation are from `least` to 126.
pub both_over : (least : ℕ) (a b : List ℕ) → all_over least a ≡ true → all_over least b ≡ true → all_over least (a ++ b) ≡ true
both_over least a b e f = list_all-append (over least) a b ∙ and_from _ _ e f

-- A position in a text whose lines begin with an angle bracket. The position is `Broken` if a line begins with
-- another byte, or if the byte after the bracket is not allowed there.
pub data Place : Type 0 where
  Start : Place
  Opened : Place
  Inside : Place
  Broken : Place

-- The position after a byte, given the test `ok` for the bytes that may follow an angle bracket at the beginning of a
-- line.
abbrev pub moved : (ℕ → Bool) → Place → ℕ → Place
moved ok Start b = if b == 60 then Opened else Broken
moved ok Opened b = if ok b then Inside else Broken
moved ok Inside b = if b == 10 then Start else Inside
moved ok Broken b = Broken

abbrev pub walk : (ℕ → Bool) → Place → List ℕ → Place
walk ok at [] = at
walk ok at (b ∷ text) = walk ok (moved ok at b) text

walk_append : (ok : ℕ → Bool) (at : Place) (t u : List ℕ) → walk ok at (t ++ u) ≡ walk ok (walk ok at t) u
walk_append ok at [] u = refl
walk_append ok at (b ∷ t) u = walk_append ok (moved ok at b) t u

walk_broken : (ok : ℕ → Bool) (t : List ℕ) → walk ok Broken t ≡ Broken
walk_broken ok [] = refl
walk_broken ok (b ∷ t) = walk_broken ok t

-- If two texts consist of whole lines, their concatenation consists of whole lines.
pub walk_both : (ok : ℕ → Bool) (t u : List ℕ) → walk ok Start t ≡ Start → walk ok Start u ≡ Start → walk ok Start (t ++ u) ≡ Start
walk_both ok t u e f = walk_append ok Start t u ∙ ap (λ (at : Place). walk ok at u) e ∙ f

no_text : (ok : ℕ → Bool) (d : ℕ) (u r s : List ℕ) → ok d ≡ false → walk ok Opened u ≡ Start → d ∷ r ≡ u ++ s → ⊥
no_text ok d [] r s free e h = let x = e in cc
no_text ok d (b ∷ u) r s free e h =
    let same : b ≡ d = cc in
    let other : ok b ≡ false = rw same free in
    let x : walk ok Broken u ≡ Start = ap (λ (t : Bool). walk ok (cond t Inside Broken) u) (sym other) ∙ e in
    let k = walk_broken ok u in cc

no_line : (ok : ℕ → Bool) (d : ℕ) (at : Place) (c : ℕ) (u r s : List ℕ) → ok d ≡ false → at ≡ Start → walk ok (moved ok at c) u ≡ Start → 60 ∷ d ∷ r ≡ c ∷ (u ++ s) → ⊥
no_line ok d Start c u r s free at e h =
    let same : c ≡ 60 = cc in
    let rest : d ∷ r ≡ u ++ s = cc in
    let x : walk ok (moved ok Start 60) u ≡ Start = rw same at e in
    no_text ok d u r s free x rest
no_line ok d Opened c u r s free at e h = let x = at in cc
no_line ok d Inside c u r s free at e h = let x = at in cc
no_line ok d Broken c u r s free at e h = let x = at in cc

-- Two equal texts begin with whole lines, followed by an angle bracket and a byte for which `ok` is false. Then the
-- lines are equal, and the texts from that byte on are equal.
pub skip : (ok : ℕ → Bool) (d f : ℕ) (at : Place) (t u r s : List ℕ) → ok d ≡ false → ok f ≡ false → walk ok at t ≡ Start → walk ok at u ≡ Start
    → t ++ 60 ∷ d ∷ r ≡ u ++ 60 ∷ f ∷ s → (t ≡ u) × (d ∷ r ≡ f ∷ s)
skip ok d f at [] [] r s free other e g h = (refl, let x : d ∷ r ≡ f ∷ s = cc in x)
skip ok d f at [] (c ∷ u) r s free other e g h = absurd (no_line ok d at c u r (60 ∷ f ∷ s) free e g h)
skip ok d f at (b ∷ t) [] r s free other e g h = absurd (no_line ok f at b t s (60 ∷ d ∷ r) other g e (sym h))
skip ok d f at (b ∷ t) (c ∷ u) r s free other e g h =
    let same : b ≡ c = cc in
    let rest : t ++ 60 ∷ d ∷ r ≡ u ++ 60 ∷ f ∷ s = cc in
    let k : walk ok (moved ok at b) u ≡ Start = rw same g in
    let more = skip ok d f (moved ok at b) t u r s free other e k rest in
    let tails : t ≡ u = more.0 in
    (let x : b ∷ t ≡ c ∷ u = cc in x, more.1)

line_by : (ok : ℕ → Bool) (same : Bool) (t : List ℕ) → left_after 10 (cond same (Some 0) (Some 1)) t ≡ Some 0 → (left_after 10 (Some 1) t ≡ Some 0 → walk ok Inside t ≡ Start)
    → walk ok (cond same Start Inside) t ≡ Start
line_by ok true [] e more = refl
line_by ok true (b ∷ t) e more = absurd (past_end 10 b (Some 0) t refl e)
line_by ok false t e more = more e

line_inside : (ok : ℕ → Bool) (t : List ℕ) → left_after 10 (Some 1) t ≡ Some 0 → walk ok Inside t ≡ Start
line_inside ok [] e = absurd (let x = e in cc)
line_inside ok (b ∷ t) e = line_by ok (b == 10) t e (line_inside ok t)

-- A text that begins with an angle bracket and a byte for which `ok` is true, and whose only line feed is at its end,
-- is a whole line.
pub is_line : (ok : ℕ → Bool) (d : ℕ) (t : List ℕ) → ok d ≡ true → (d == 10) ≡ false → left_after 10 (Some 1) (60 ∷ d ∷ t) ≡ Some 0 → walk ok Start (60 ∷ d ∷ t) ≡ Start
is_line ok d t good other e =
    ap (λ (b : Bool). walk ok (cond b Inside Broken) t) good
    ∙ line_inside ok t (ap (λ (b : Bool). left_after 10 (cond b (Some 0) (Some 1)) t) (sym other) ∙ e)

-- Tests for the byte after the angle bracket of a line. The test `no_name` passes if the line does not name a lane,
-- and the test `a_path` passes if the line is a path.
abbrev pub no_name : ℕ → Bool
no_name b = if b == 116 then false else true

abbrev pub a_path : ℕ → Bool
a_path b = b == 112
