-- Lemmas on events that are appended to a list in two parts, one after the other.
use Rattle.std.proofs.Common.{◌≡◌, ◌∙◌, ℕ, suc, ◌+◌, ◌≤◌, List, [], ◌∷◌, ◌++◌, append_assoc, arith, ap}
use Rattle.std.specs.Prelude.{OnOk, Result, Ok, Err}
use Rattle.bank_words.specs.declared.events.Event.{Event}
use Rattle.scram_types.specs.Searches.{listed_below}
use Rattle.fail_stop.specs.Flights.{Flight}
use Rattle.schedule_replay.specs.Turns.{Adds, frames_in_turns, turn_of_kernel, turns_of_procs}

pub adds_both : (old between new xs ys : List Event) → Adds old between xs → Adds between new ys → Adds old new (xs ++ ys)
adds_both old between new xs ys first second = second ∙ ap (λ (l : List Event). l ++ ys) first ∙ append_assoc old xs ys

-- If `xs` is appended, and `ys` is appended after it unless there is an error, then `xs ++ ys` is appended unless
-- there is an error.
pub adds_then : {A E : Type 0} (result : Result A E) (old between new xs ys : List Event) → Adds old between xs → OnOk result (Adds between new ys) → OnOk result (Adds old new (xs ++ ys))
adds_then (Ok done) old between new xs ys first second = adds_both old between new xs ys first second
adds_then (Err error) old between new xs ys first second = tt

-- Lemmas on a loop that appends one event after another.
pub adds_next : (of : ℕ → Event) (n : ℕ) (old between new : List Event) → Adds old between (listed_below of n) → Adds between new (of n ∷ []) → Adds old new (listed_below of (n + 1))
adds_next of n old between new first second = let next : n + 1 ≡ suc n = omega arith in rw next (adds_both old between new (listed_below of n) (of n ∷ []) first second)

pub adds_all : (of : ℕ → Event) (n end : ℕ) (old new : List Event) → n ≤ end → end ≤ n → Adds old new (listed_below of n) → Adds old new (listed_below of end)
adds_all of n end old new low high adds = let same : end ≡ n = omega (arith, low, high) in rw same adds

pub adds_frame : (m : Flight) (f : ℕ) (list procs kernel : List Event) → list ≡ frames_in_turns m f → Adds list procs (turns_of_procs m f m.procs) → Adds procs kernel (turn_of_kernel m f)
    → kernel ≡ frames_in_turns m (f + 1)
adds_frame m f list procs kernel before turned ended =
    let next : f + 1 ≡ suc f = omega arith in
    let both = adds_both list procs kernel (turns_of_procs m f m.procs) (turn_of_kernel m f) turned ended in
    rw next (both ∙ ap (λ (l : List Event). l ++ (turns_of_procs m f m.procs ++ turn_of_kernel m f)) before)
