-- The kinds of events, and the words that begin their lines.
use Rattle.std.specs.Prelude.{ℕ, List, Option, Some, None, bytes_eq, codes, if◌then◌else◌}
use Rattle.schedule_replay.specs.declared.verbs.Verb.{Verb}
use Rattle.schedule_replay.specs.declared.verbs.Verb.TheVariants.{Start, Look, Store, Flip, Done, Halt, Note, KernelStore, Release}

-- The kind of event that a word names, or `None` if it names none.
abbrev pub verb_named : List ℕ → Option Verb
verb_named word =
    if bytes_eq word (codes "start") then Some Start
    else (if bytes_eq word (codes "look") then Some Look
    else (if bytes_eq word (codes "store") then Some Store
    else (if bytes_eq word (codes "flip") then Some Flip
    else (if bytes_eq word (codes "done") then Some Done
    else (if bytes_eq word (codes "halt") then Some Halt
    else (if bytes_eq word (codes "note") then Some Note
    else (if bytes_eq word (codes "kstore") then Some KernelStore
    else (if bytes_eq word (codes "release") then Some Release else None))))))))

-- The number of words in a line for an event of the given kind, including the first word.
abbrev pub word_count : Verb → ℕ
word_count Start = 2
word_count Look = 3
word_count Store = 3
word_count Flip = 2
word_count Done = 2
word_count Halt = 2
word_count Note = 2
word_count KernelStore = 2
word_count Release = 1
