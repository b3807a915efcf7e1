-- Lemmas on the known bytes of a stream, which lose or gain bytes over several calls.
use Rattle.std.proofs.Common.{◌≡◌, ℕ, ◌+◌, ◌-◌, ◌≤◌, List, ◌++◌, length, take, arith, drop, Option, Some, None, append_assoc, sym, ◌∙◌, ap}
use Rattle.std.proofs.Math.Seq.{take-add}
use Rattle.std.proofs.lemmas.List.{length-drop, take-append-drop, take_all}
use Rattle.std.specs.Io.KnownBytes.{Appends, Consumes, Keeps}
use Rattle.scram_io.specs.Streams.{AppendsPrefix}

-- If a stream loses the bytes `a` and then the bytes `b`, it loses `a ++ b`.
pub consumes_more : (old mid new : Option (List ℕ)) (a b : List ℕ) → Consumes old mid a → Consumes mid new b → Consumes old new (a ++ b)
consumes_more None mid new a b first second = tt
consumes_more (Some x) None new a b first second = absurd first
consumes_more (Some x) (Some y) None a b first second = absurd second
consumes_more (Some x) (Some y) (Some z) a b first second = first ∙ ap (λ (rest : List ℕ). a ++ rest) second ∙ sym (append_assoc a b z)

-- If a stream gains the bytes `a` and then the bytes `b`, it gains `a ++ b`.
pub appends_more : (old mid new : Option (List ℕ)) (a b : List ℕ) → Appends old mid a → Appends mid new b → Appends old new (a ++ b)
appends_more None mid new a b first second = tt
appends_more (Some x) None new a b first second = absurd first
appends_more (Some x) (Some y) None a b first second = absurd second
appends_more (Some x) (Some y) (Some z) a b first second = second ∙ ap (λ (front : List ℕ). front ++ b) first ∙ append_assoc x a b

-- If a stream gains the bytes `a` and then stays unchanged, it gains `a`.
pub appends_kept : (old mid new : Option (List ℕ)) (a : List ℕ) → Appends old mid a → Keeps mid new → Appends old new a
appends_kept None mid new a first kept = tt
appends_kept (Some x) None new a first kept = absurd first
appends_kept (Some x) (Some y) None a first kept = absurd kept
appends_kept (Some x) (Some y) (Some z) a first kept = kept ∙ first

-- If a stream gains the first `i` bytes and then the first `n` bytes of the rest, which is written as a slice, it
-- gains the first `i + n` bytes.
pub appends_part : (old mid new : Option (List ℕ)) (bytes : List ℕ) (i n : ℕ) → Appends old mid (take i bytes) → Appends mid new (take n (take (length bytes - i) (drop i bytes))) → Appends old new (take (i + n) bytes)
appends_part old mid new bytes i n first second =
    let long : length (drop i bytes) ≤ length bytes - i = omega (arith, length-drop i bytes) in
    let rest : take (length bytes - i) (drop i bytes) ≡ drop i bytes = take_all (length bytes - i) (drop i bytes) long in
    let gained : Appends mid new (take n (drop i bytes)) = rw rest at second in
    rw (take-add i n bytes) (appends_more old mid new (take i bytes) (take n (drop i bytes)) first gained)

-- If a stream gains the first `i` bytes, it gains a prefix of the bytes.
pub prefix_taken : (old new : Option (List ℕ)) (bytes : List ℕ) (i : ℕ) → Appends old new (take i bytes) → AppendsPrefix old new bytes
prefix_taken old new bytes i gained = record { front = take i bytes; rest = drop i bytes; parts = sym (take-append-drop i bytes); gained = gained }
