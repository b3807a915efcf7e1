-- Reading the first line of a row.
use Rattle.std.specs.Prelude.{ℕ, ℤ, pos, ◌==◌, ◌+◌, ◌*◌, ◌&&◌, Bool, true, false, List, [], ◌∷◌, replicate, length, codes, slice_set, option_and_then, option_map, Option, Some, None, Result, Ok, Err, bytes_eq, if◌then◌else◌}
use Rattle.std.specs.List.{list_all}
use Rattle.std.specs.Option.{option_map_or}
use Rattle.scram_types.specs.declared.limits.TheConstants.{MAX_FRAMES}
use Rattle.scram_types.specs.Specification.{Parts}
use Rattle.scram_types.specs.declared.ids.ConfId.{ConfId}
use Rattle.scram_types.specs.declared.ids.ProcId.{ProcId}
use Rattle.scram_types.specs.declared.rows.Env.{Env}
use Rattle.scram_types.specs.declared.rows.Row.{Row}
use Rattle.scram_types.specs.declared.rows.World.{World}
use Rattle.scram_types.specs.declared.orders.Act.TheVariants.{Off}
use Rattle.scram_types.specs.declared.orders.KMode.{KMode}
use Rattle.scram_types.specs.declared.orders.KMode.TheVariants.{Stable, Moving}
use Rattle.scram_types.specs.declared.specification.Factor.{Factor}
use Rattle.scram_types.specs.declared.specification.Proc.{Proc}
use Rattle.trace_text.specs.Lookups.{conf_or_none}
use Rattle.scram_types.specs.Lookups.{value_named, proc_named, conf_named}
use Rattle.trace_text.specs.Pieces.{pieces_of, items_of, words_in, is_word, word_at}
use Rattle.trace_text.specs.Rules.{or_rule}
use Rattle.trace_text.specs.Spelling.{signed_of, spelled_number}
use Rattle.trace_text.specs.declared.rule.TheConstants.{NOT_NEXT, NO_FORM, OUT_OF_ORDER, UNKNOWN_NAME, WRONG_NUMBER}

-- Whether the list has one name for each factor, or is `-` if there are no factors.
abbrev pub are_values : List Factor → List ℕ → Bool
are_values [] list = bytes_eq list (codes "-")
are_values (factor ∷ factors) list = length (pieces_of 44 list) == length (factor ∷ factors)

-- Whether the words from index `at` on have the form of an environment and a world.
abbrev pub is_env_form : Parts → List (List ℕ) → ℕ → Bool
is_env_form spec words at =
    is_word words at (codes "env") && are_values spec.factors (word_at words (at + 1)) && is_word words (at + 2) (codes "up")
    && is_word words (at + 4) (codes "world")

-- Whether the words have the form of a row whose mode is stable.
abbrev pub is_stable_form : Parts → List (List ℕ) → Bool
is_stable_form spec words = (length words == 13) && is_word words 2 (codes "stable") && is_env_form spec words 4

-- Whether the words have the form of a row whose mode is moving.
abbrev pub is_moving_form : Parts → List (List ℕ) → Bool
is_moving_form spec words = (length words == 16) && is_word words 2 (codes "moving") && is_env_form spec words 7

-- The list `values` with new entries from factor `i` on: the numbers of the values that `names` lists. The result is
-- `None` if a name is unknown or missing.
abbrev pub values_from : List Factor → List (List ℕ) → ℕ → List ℕ → Option (List ℕ)
values_from [] names i values = Some values
values_from (factor ∷ factors) [] i values = None
values_from (factor ∷ factors) (name ∷ names) i values =
    option_and_then (λ (v : ℕ). values_from factors names (i + 1) (slice_set values i v)) (value_named factor name)

-- The numbers of the values that a list names, one for each factor, padded with zeros to six numbers. The result is
-- `None` if a name is unknown or missing.
abbrev pub values_in : List Factor → List ℕ → Option (List ℕ)
values_in factors list = values_from factors (pieces_of 44 list) 0 (replicate 6 0)

-- Whether a processor has this name.
abbrev pub is_proc_name : Parts → List ℕ → Bool
is_proc_name spec name = option_map_or (λ (p : ProcId). true) (proc_named spec name) false

-- The factor values of the environment whose words begin at index `at`, or `None` if the name of a value or of a
-- processor is unknown.
abbrev pub env_names : Parts → List (List ℕ) → ℕ → Option (List ℕ)
env_names spec words at =
    if list_all (is_proc_name spec) (items_of (word_at words (at + 3))) then values_in spec.factors (word_at words (at + 1)) else None

-- Whether there is a first name, and it is the name of the processor.
abbrev pub is_next : Proc → List (List ℕ) → Bool
is_next proc [] = false
is_next proc (name ∷ names) = bytes_eq proc.name name

-- The names after the first name if the first name is the name of the processor, or else all names.
abbrev pub names_left : Proc → List (List ℕ) → List (List ℕ)
names_left proc [] = []
names_left proc (name ∷ names) = if bytes_eq proc.name name then names else name ∷ names

-- The bits `up`, together with `bit` if the processor is named.
abbrev pub with_bit : Bool → ℕ → ℕ → ℕ
with_bit named bit up = if named then up + bit else up

-- The bits of the named processors, or `None` if a name is unknown or the names are not in the order of the
-- processors. `bit` is the bit of the first processor of the list, and `up` has the bits of the preceding ones.
abbrev pub up_from : List Proc → List (List ℕ) → ℕ → ℕ → Option ℕ
up_from [] [] bit up = Some up
up_from [] (name ∷ names) bit up = None
up_from (proc ∷ procs) names bit up =
    up_from procs (names_left proc names) (bit * 2) (with_bit (is_next proc names) bit up)

-- The bits of the processors that a list names, or `None` if a name is unknown or the names are not in the order of
-- the processors.
abbrev pub up_in : List Proc → List ℕ → Option ℕ
up_in procs list = up_from procs (items_of list) 1 0

-- The world that the four words from index `at` on spell, or `None` if a word spells no number.
abbrev pub world_at : List (List ℕ) → ℕ → Option World
world_at words at =
    option_and_then (λ (alt : ℤ). option_and_then (λ (climb : ℤ). option_and_then (λ (heading : ℤ). option_map (λ (bank : ℤ).
    record { alt = alt; climb = climb; heading = heading; bank = bank })
    (signed_of (word_at words (at + 3)))) (signed_of (word_at words (at + 2)))) (signed_of (word_at words (at + 1)))) (signed_of (word_at words at))

-- The environment with these processors up and these values of the factors.
abbrev pub env_read : ℕ → List ℕ → Env
env_read up values = record { up = up; factors = values }

-- The row before the lines of its applications are read: all acts are `Off`, and all areas are zeros.
abbrev pub row_begun : ℕ → KMode → Env → World → Row
row_begun frame mode env world =
    record { frame = frame; env = env; mode = mode; acts = replicate 8 Off; areas = replicate 8 (replicate 8 (pos 0)); world = world }

-- The result of reading the other words of row `next`, which has this mode and these values: the row, or the first of
-- rules 5 to 7 that the words break. `at` is the index of the environment's first word. The spelling of `since` is
-- tested before.
abbrev pub row_end : Parts → ℕ → List (List ℕ) → ℕ → KMode → List ℕ → Result Row ℕ
row_end spec next words at mode values =
    or_rule WRONG_NUMBER (spelled_number MAX_FRAMES (word_at words 1)) (λ (frame : ℕ).
    or_rule WRONG_NUMBER (world_at words (at + 5)) (λ (world : World).
    if frame == next then
    or_rule OUT_OF_ORDER (up_in spec.procs (word_at words (at + 3))) (λ (up : ℕ). Ok (row_begun frame mode (env_read up values) world))
    else Err NOT_NEXT))

-- The result of reading the words of row `next` if its mode is stable.
abbrev pub stable_row : Parts → ℕ → List (List ℕ) → Result Row ℕ
stable_row spec next words =
    or_rule UNKNOWN_NAME (conf_named spec (word_at words 3)) (λ (conf : ConfId).
    or_rule UNKNOWN_NAME (env_names spec words 4) (λ (values : List ℕ).
    row_end spec next words 4 (Stable conf) values))

-- The result of reading the words of row `next` if its mode is moving.
abbrev pub moving_row : Parts → ℕ → List (List ℕ) → Result Row ℕ
moving_row spec next words =
    or_rule UNKNOWN_NAME (conf_named spec (word_at words 3)) (λ (from : ConfId).
    or_rule UNKNOWN_NAME (conf_or_none spec (word_at words 4)) (λ (halting : Option ConfId).
    or_rule UNKNOWN_NAME (conf_named spec (word_at words 5)) (λ (to : ConfId).
    or_rule UNKNOWN_NAME (env_names spec words 7) (λ (values : List ℕ).
    or_rule WRONG_NUMBER (spelled_number MAX_FRAMES (word_at words 6)) (λ (since : ℕ).
    row_end spec next words 7 (Moving from halting to since) values)))))

-- The result of reading the words of the first line of row `next`, which have one of two forms.
abbrev pub row_of_words : Parts → ℕ → List (List ℕ) → Result Row ℕ
row_of_words spec next words =
    if is_stable_form spec words then stable_row spec next words
    else (if is_moving_form spec words then moving_row spec next words else Err NO_FORM)

-- The result of reading the first line of row `next`.
abbrev pub row_read : Parts → ℕ → List ℕ → Result Row ℕ
row_read spec next line = or_rule NO_FORM (words_in line) (row_of_words spec next)
