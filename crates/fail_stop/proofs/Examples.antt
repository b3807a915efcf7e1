-- Computed states of a small flight, with one processor, one word, a halt in frame 0 and a restart in frame 2.
use Rattle.std.proofs.Common.{◌≡◌, ℕ, zero, suc, refl, List, [], ◌∷◌}
use Rattle.std.specs.Prelude.{Option, Some, None}
use Rattle.fail_stop.specs.Flights.{Flight}
use Rattle.bank_words.specs.declared.events.Event.{Event}
use Rattle.bank_words.specs.declared.events.Event.TheVariants.{Start, Look, Store, Flip, Done, Halt, KNote, KStore, Release}
use Rattle.scram_types.specs.Lookups.{proc_id}
use Rattle.fail_stop.specs.Events.{next_of, next_kernel, MarkWord, BankWord}
use Rattle.fail_stop.specs.Schedules.{Machine, happened, opening, IsSchedule, up_by}

abbrev halts : ℕ → ℕ → Option ℕ
halts p zero = Some 0
halts p (suc f) = None

abbrev small : Flight
small = record { frames = 4; procs = 1; width = 1; up = λ p f. up_by (halts p) (Some 2) f; halt = halts; restart = λ p. Some 2; start = λ p. 7 ∷ []; draft = λ p f. f ∷ []; kernel_image = λ f. [] }

abbrev after : Machine → List Event → Machine
after s [] = s
after s (e ∷ es) = after (happened small s e) es

abbrev stores : List Event
stores = KStore 0 ∷ KStore 1 ∷ KStore 2 ∷ KStore 3 ∷ KStore 4 ∷ KStore 5 ∷ KStore 6 ∷ KStore 7 ∷ KStore 8 ∷ KStore 9 ∷ KStore 10 ∷ KStore 11 ∷ KStore 12 ∷ KStore 13 ∷ KStore 14 ∷ KStore 15 ∷ KStore 16 ∷ KStore 17 ∷ KStore 18 ∷ KStore 19 ∷ Release ∷ []

abbrev one : Machine
one = after (opening small) (Start (proc_id 0) ∷ Look (proc_id 0) (proc_id 0) ∷ [])

pub halt_next : next_of small one.at one.words 0 ≡ Some (Halt (proc_id 0))
halt_next = refl

abbrev two : Machine
two = after one (Halt (proc_id 0) ∷ KNote (proc_id 0) ∷ [])

pub store_next : next_kernel small two.at two.words ≡ Some (KStore 0)
store_next = refl

-- In frame 1 the kernel notes the halt again. In frame 2 it does not, since the processor restarts there.
abbrev three : Machine
three = after two stores

pub note_again : next_kernel small three.at three.words ≡ Some (KNote (proc_id 0))
note_again = refl

pub no_start : next_of small three.at three.words 0 ≡ None
no_start = refl

abbrev four : Machine
four = after (after three (KNote (proc_id 0) ∷ [])) stores

pub no_note : next_kernel small four.at four.words ≡ None
no_note = refl

pub start_again : next_of small four.at four.words 0 ≡ Some (Start (proc_id 0))
start_again = refl

abbrev five : Machine
five = after four (Start (proc_id 0) ∷ Look (proc_id 0) (proc_id 0) ∷ Store (proc_id 0) 0 ∷ Flip (proc_id 0) ∷ Done (proc_id 0) ∷ [])

pub note_done : next_kernel small five.at five.words ≡ Some (KNote (proc_id 0))
note_done = refl

pub mark_is : five.words (MarkWord 0) ≡ 7
mark_is = refl

pub bank_is : five.words (BankWord 0 1 0) ≡ 2
bank_is = refl

-- The events from the opening to the kernel's first store are a schedule.
pub is_schedule : IsSchedule small (opening small) (Start (proc_id 0) ∷ Look (proc_id 0) (proc_id 0) ∷ Halt (proc_id 0) ∷ KNote (proc_id 0) ∷ KStore 0 ∷ []) (after (opening small) (Start (proc_id 0) ∷ Look (proc_id 0) (proc_id 0) ∷ Halt (proc_id 0) ∷ KNote (proc_id 0) ∷ KStore 0 ∷ []))
is_schedule = (refl, (refl, (refl, (refl, (refl, refl)))))
