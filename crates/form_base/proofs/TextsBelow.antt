-- Lemmas on concatenated texts.
use Rattle.std.proofs.Common.{◌≡◌, ℕ, zero, suc, ◌+◌, ◌<◌, ◌≤◌, List, [], ◌++◌, refl, sym, ap, arith, append_assoc, append-nil, ◌∙◌}
use mathlib.Core.Logic.{inl, inr}
use Rattle.scram_types.proofs.Naturals.{at_or_below}
use Rattle.scram_io.specs.Outside.{CutOff, Printed, SinkState}
use Rattle.scram_io.proofs.Puts.{cut_in, printed_more}
use Rattle.form_base.specs.Texts.{texts_below}

-- The concatenated texts of the numbers below `n` begin with the concatenated texts of the numbers below `i`.
pub texts_rest : (text : ℕ → List ℕ) (i n : ℕ) → i ≤ n → (rest : List ℕ) × (texts_below text n ≡ texts_below text i ++ rest)
texts_rest text i zero few = let none : i ≡ 0 = omega (arith, few) in ([], rw none refl)
texts_rest text i (suc n) few = elim (at_or_below i n few) [
  | inl lower ↦
      let known = texts_rest text i n lower in
      (known.0 ++ text n, ap (λ (front : List ℕ). front ++ text n) known.1 ∙ append_assoc (texts_below text i) known.0 (text n))
  | inr last ↦ ([], rw last (sym (append-nil (texts_below text (suc n)))))
]

-- The concatenated texts of the numbers below `i + 1` are the concatenated texts of the numbers below `i`, followed
-- by the text of `i`.
pub texts_more : (text : ℕ → List ℕ) (i : ℕ) → texts_below text (i + 1) ≡ texts_below text i ++ text i
texts_more text i = let next : i + 1 ≡ suc i = omega arith in rw next refl

-- If the texts of the numbers below `i` were printed, followed by the text of `i`, then the texts of the numbers
-- below `i + 1` were printed.
pub printed_next : (text : ℕ → List ℕ) (i : ℕ) (old mid new : SinkState) → Printed old mid (texts_below text i) → Printed mid new (text i) → Printed old new (texts_below text (i + 1))
printed_next text i old mid new first second = rw (texts_more text i) (printed_more old mid new (texts_below text i) (text i) first second)

-- If the texts of the numbers below `i` were printed and the text of `i` was cut off, the texts of the numbers below
-- `n` were cut off.
pub cut_below : (text : ℕ → List ℕ) (i n : ℕ) (old mid new : SinkState) → i < n → Printed old mid (texts_below text i) → CutOff mid new (text i) → CutOff old new (texts_below text n)
cut_below text i n old mid new below first second =
    let rest = texts_rest text (suc i) n (omega (arith, below)) in
    cut_in old mid new (texts_below text n) (texts_below text i) (text i) rest.0 rest.1 first second

-- If the texts of the numbers below `i` were appended to a line, followed by the text of `i`, the texts of the
-- numbers below `i + 1` were appended.
pub added_next : (text : ℕ → List ℕ) (i : ℕ) (line before after : List ℕ) → before ≡ line ++ texts_below text i → after ≡ before ++ text i → after ≡ line ++ texts_below text (i + 1)
added_next text i line before after first second =
    second ∙ ap (λ (front : List ℕ). front ++ text i) first ∙ append_assoc line (texts_below text i) (text i) ∙ ap (λ (tail : List ℕ). line ++ tail) (sym (texts_more text i))
