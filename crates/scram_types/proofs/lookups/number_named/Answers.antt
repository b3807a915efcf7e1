use Rattle.std.proofs.lemmas.Grind.{common_steps}
use Rattle.std.proofs.Common.{arith, ◌≡◌, ◌∙◌, ℕ, ◌+◌, ◌<◌, List, add-one, drop, false, get_or, length, refl, subst, sym}
use Rattle.std.specs.Str.{bytes_eq}
use Rattle.std.proofs.lemmas.List.{at_drop_all, drop_more}
use Rattle.scram_types.specs.Lookups.{number_from}
use Rattle.scram_types.proofs.lookups.number_named.Goals as goal

next_from : {A : Type 0} (name : A → List ℕ) (text : List ℕ) (xs : List A) (i : ℕ) (x : A) → i < length xs → x ≡ get_or xs i x → bytes_eq (name x) text ≡ false
    → number_from name (i + 1) (drop (i + 1) xs) text ≡ number_from name i (drop i xs) text
next_from name text xs i x low is apart =
    let other : bytes_eq (name (get_or xs i x)) text ≡ false = subst (λ y. bytes_eq (name y) text ≡ false) is apart in
    rw (drop_more xs i x low, other, add-one) refl

pub loop-i-preserved : goal.loop-i-preserved
loop-i-preserved g c =
    let name = c.as_bytes.ensures.value ∙ c.as_str.ensures.text ∙ c.name.ensures in
    next_from g.T.Named.spelling c.args.text.now c.args.items.now c.loop-i.i c.index-items-i.result c.loop-i-test.true c.index-items-i.is
    (subst (λ said. bytes_eq said c.args.text.now ≡ false) name (sym c.eq.ensures ∙ c.if-eq.false))
    ∙ c.loop-i.invariant

pub returns-clause-number : goal.returns-clause-number
returns-clause-number g c =
    sym (at_drop_all (λ xs. number_from g.T.Named.spelling c.loop-i.i xs c.args.text.now) c.args.items.now c.loop-i.i c.loop-i-test.false) ∙ c.loop-i.invariant

pub returns-then-eq-clause-number : goal.returns-then-eq-clause-number
returns-then-eq-clause-number c = grind (arith, common_steps)
