-- Lemmas that show the contract of `put` for the bytes of several puts in sequence.
use Rattle.std.proofs.Common.{◌≡◌, ℕ, ◌+◌, ◌-◌, ◌<◌, ◌≤◌, List, [], ◌++◌, length, Option, Some, None, Result, Ok, Err, IfSome, append_assoc, append-nil, length-append, arith, sym, ◌∙◌, ap, refl}
use Rattle.scram_io.specs.Outside.{CutOff, Printed, Prints, Rose, SinkState, TakesSurely, Took, TookPrefix, Unrisen, greatest_count, taken}

-- If a sink takes the bytes `a` and then the bytes `b`, it takes `a ++ b`.
pub took_more : (old mid new : SinkState) (a b : List ℕ) → Took old mid a → Took mid new b → Took old new (a ++ b)
took_more old mid new a b first second = second ∙ ap (λ (front : List ℕ). front ++ b) first ∙ append_assoc (taken old) a b

-- If a sink takes all of `a` and then a prefix of `b`, it takes a prefix of `a ++ b`.
pub prefix_after : (old mid new : SinkState) (a b : List ℕ) → Took old mid a → TookPrefix mid new b → TookPrefix old new (a ++ b)
prefix_after old mid new a b first second = record {
  front = a ++ second.front;
  rest = second.rest;
  parts = ap (λ (tail : List ℕ). a ++ tail) second.parts ∙ sym (append_assoc a second.front second.rest);
  took = took_more old mid new a second.front first second.took;
}

-- If a sink takes a prefix of `a`, it takes a prefix of `a ++ b`.
pub prefix_more : (old new : SinkState) (a b : List ℕ) → TookPrefix old new a → TookPrefix old new (a ++ b)
prefix_more old new a b first = record {
  front = first.front;
  rest = first.rest ++ b;
  parts = ap (λ (head : List ℕ). head ++ b) first.parts ∙ append_assoc first.front first.rest b;
  took = first.took;
}

-- No count both rose and did not rise.
pub risen : (before now : ℕ) → Rose before now → Unrisen before now → ⊥
risen before now rose unrisen = omega (arith, unrisen.same, unrisen.below)

surely_by : (room last : Option ℕ) (before between now : ℕ) (after : Option ℕ) (a b : List ℕ) →
    IfSome room (λ n. length a ≤ n → Unrisen before between × (last ≡ Some (n - length a))) →
    IfSome last (λ n. length b ≤ n → Unrisen between now × (after ≡ Some (n - length b))) →
    IfSome room (λ n. length (a ++ b) ≤ n → Unrisen before now × (after ≡ Some (n - length (a ++ b))))
surely_by None last before between now after a b first second = tt
surely_by (Some n) last before between now after a b first second = λ fits.
    let whole : length (a ++ b) ≡ length a + length b = length-append a b in
    let one : Unrisen before between × (last ≡ Some (n - length a)) = first (omega arith) in
    let then : length b ≤ n - length a → Unrisen between now × (after ≡ Some (n - length a - length b)) = rw one.1 at second in
    let two : Unrisen between now × (after ≡ Some (n - length a - length b)) = then (omega arith) in
    let left : n - length a - length b ≡ n - length (a ++ b) = omega arith in
    (record { same = two.0.same ∙ one.0.same; below = one.0.below }, two.1 ∙ ap (λ (m : ℕ). Some m) left)

-- If `TakesSurely` holds for the bytes `a` and then for the bytes `b`, it holds for `a ++ b`.
pub surely_more : (old mid new : SinkState) (a b : List ℕ) → TakesSurely old mid a → TakesSurely mid new b → TakesSurely old new (a ++ b)
surely_more old mid new a b first second = surely_by old.surely mid.surely old.faults mid.faults new.faults new.surely a b first second

stopped_by : (room after : Option ℕ) (before now : ℕ) (a b : List ℕ) → Rose before now →
    IfSome room (λ n. length a ≤ n → Unrisen before now × (after ≡ Some (n - length a))) →
    IfSome room (λ n. length (a ++ b) ≤ n → Unrisen before now × (after ≡ Some (n - length (a ++ b))))
stopped_by None after before now a b rose first = tt
stopped_by (Some n) after before now a b rose first = λ fits.
    let whole : length (a ++ b) ≡ length a + length b = length-append a b in
    absurd (risen before now rose (first (omega arith)).0)

surely_none_by : (room : Option ℕ) (count : ℕ) → IfSome room (λ _. count < greatest_count) → IfSome room (λ n. length {A = ℕ} [] ≤ n → Unrisen count count × (room ≡ Some (n - 0)))
surely_none_by None count below = tt
surely_none_by (Some n) count below = λ fits. (record { same = refl; below = below }, let same : n ≡ n - 0 = omega arith in ap (λ (left : ℕ). Some left) same)

-- Without a put, a sink takes the empty list, and no count rises. If the number of bytes that the sink is sure to
-- take is known, its count of faults must be below the maximum.
pub printed_none : (sink : SinkState) → IfSome sink.surely (λ _. sink.faults < greatest_count) → Printed sink sink []
printed_none sink below = record {
  count = omega arith;
  whole = sym (append-nil (taken sink));
  surely = surely_none_by sink.surely sink.faults below;
}

-- If `a` is printed and then `b` is printed, `a ++ b` is printed.
pub printed_more : (old mid new : SinkState) (a b : List ℕ) → Printed old mid a → Printed mid new b → Printed old new (a ++ b)
printed_more old mid new a b first second = record {
  count = omega (arith, first.count, second.count);
  whole = took_more old mid new a b first.whole second.whole;
  surely = surely_more old mid new a b first.surely second.surely;
}

-- If `a` is printed and then `b` is cut off, `a ++ b` is cut off.
pub cut_after : (old mid new : SinkState) (a b : List ℕ) → Printed old mid a → CutOff mid new b → CutOff old new (a ++ b)
cut_after old mid new a b first second = record {
  count = omega (arith, first.count, second.count);
  prefix = prefix_after old mid new a b first.whole second.prefix;
  rose = omega (arith, first.count, second.rose);
  surely = surely_more old mid new a b first.surely second.surely;
}

-- If `a` is cut off, `a ++ b` is cut off.
pub cut_more : (old new : SinkState) (a b : List ℕ) → CutOff old new a → CutOff old new (a ++ b)
cut_more old new a b cut = record {
  count = cut.count;
  prefix = prefix_more old new a b cut.prefix;
  rose = cut.rose;
  surely = stopped_by old.surely new.surely old.faults new.faults a b cut.rose cut.surely;
}

-- If `a` is printed and then `b` is printed or cut off, the same happens to `a ++ b`.
pub prints_more : {A E : Type 0} (result : Result A E) (old mid new : SinkState) (a b : List ℕ) → Printed old mid a → Prints result mid new b → Prints result old new (a ++ b)
prints_more (Ok x) old mid new a b first second = printed_more old mid new a b first second
prints_more (Err fault) old mid new a b first second = cut_after old mid new a b first second

-- If `a` is printed and then `b` is cut off, each text that begins with `a ++ b` is cut off.
pub cut_in : (old mid new : SinkState) (whole a b rest : List ℕ) → whole ≡ (a ++ b) ++ rest → Printed old mid a → CutOff mid new b → CutOff old new whole
cut_in old mid new whole a b rest parts first second = rw parts (cut_more old new (a ++ b) rest (cut_after old mid new a b first second))
