-- Lemmas on reading lists of names to their end.
use Rattle.std.proofs.Common.{ℕ, ◌≡◌, ◌<◌, ◌≤◌, ◌+◌, ◌∙◌, false, List, [], ◌∷◌, Option, Some, None, drop, length, arith, refl, sym, Bor}
use Rattle.std.specs.Prelude.{◌==◌, option_map}
use Rattle.std.proofs.lemmas.Bool.{ne_eqb}
use Rattle.std.proofs.lemmas.List.{drop_all}
use Rattle.scram_types.specs.declared.specification.Proc.{Proc}
use Rattle.trace_text.specs.Pieces.{pieces_of, pieces_left}
use Rattle.trace_text.specs.RowReading.{up_from}
use Rattle.trace_text.proofs.Splitting.{some_piece}

none_left : (names : List (List ℕ)) (bit up : ℕ) → 0 < length names → up_from [] names bit up ≡ None
none_left [] bit up h = absurd (omega arith)
none_left (name ∷ names) bit up h = refl

-- If names are left after the last processor, the list of names is refused.
pub names_over : (procs : List Proc) (i : ℕ) (left : Option (Bor (List ℕ))) (names : Bor (List ℕ)) (bit up : ℕ) (read : Option ℕ) →
    length procs ≤ i → left ≡ Some names →
    up_from (drop i procs) (pieces_left 44 (option_map (λ (b : Bor (List ℕ)). b.now) left)) bit up ≡ read → None ≡ read
names_over procs i left names bit up read end is rest =
    let d : drop i procs ≡ [] = drop_all i procs end in
    let e : up_from [] (pieces_of 44 names.now) bit up ≡ read = rw (d, is) at rest in
    sym (none_left (pieces_of 44 names.now) bit up (some_piece 44 names.now)) ∙ e

-- If a list has further names after the first `count` names, the number of its names is not `count`.
pub too_many : (list : List ℕ) (left : Option (Bor (List ℕ))) (names : Bor (List ℕ)) (wanted count : ℕ) → left ≡ Some names → wanted ≡ 0 →
    length (pieces_left 44 (option_map (λ (b : Bor (List ℕ)). b.now) left)) + count ≡ length (pieces_of 44 list) + wanted →
    false ≡ (length (pieces_of 44 list) == count)
too_many list left names wanted count is none rest =
    let e : length (pieces_of 44 names.now) + count ≡ length (pieces_of 44 list) + wanted = rw is at rest in
    let more : 0 < length (pieces_of 44 names.now) = some_piece 44 names.now in
    sym (ne_eqb (length (pieces_of 44 list)) count (λ same. omega (arith, more, e, none, same)))
