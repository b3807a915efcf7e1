-- The choice from a configuration in a state of the environment.
use Rattle.std.specs.Prelude.{◌≡◌, ◌⊎◌, ℕ, ◌-◌, ◌^◌, Bool, false, not, ◌||◌, ◌==◌, List, [], ◌∷◌, ◌++◌, length, slice_get, Option, Some, None, Result, Ok, Err, codes, set, option_and_then, option_map, if◌then◌else◌}
use Rattle.std.specs.List.{list_any}
use Rattle.std.specs.Option.{option_map_or}
use Rattle.scram_types.specs.Bits.{bits_below, has_bit}
use Rattle.scram_types.specs.Lookups.{conf_name, conf_named, factor_named, opening_env, proc_named}
use Rattle.scram_types.specs.Specification.{Parts}
use Rattle.scram_types.specs.declared.rows.Env.{Env}
use Rattle.scram_types.specs.declared.ids.ConfId.{ConfId}
use Rattle.scram_types.specs.declared.ids.FactorId.{FactorId}
use Rattle.scram_types.specs.declared.ids.ProcId.{ProcId}
use Rattle.scram_types.specs.declared.specification.Choice.{Choice}
use Rattle.scram_types.specs.declared.specification.Place.{Place}
use Rattle.fault_script.specs.Reading.{find_value}
use Rattle.choice_table.specs.Choices.{is_runnable, places_of}
use Rattle.choice_table.specs.Environments.{is_up_in}
use Rattle.cube_cover.specs.Shares.{first_rule}
use Rattle.flight_facts.specs.Differences.{difference_text, have_changed}
use Rattle.form_base.specs.declared.status.TheConstants.{ANSWERED, OUT_OF_MEMORY, UNKNOWN_NAME}
use Rattle.form_base.specs.Lines.{added, names_down}
use Rattle.form_base.specs.Refusals.{memory_line}
use Rattle.spec_forms.specs.declared.choice_forms.states.StateWord.{StateWord}
use Rattle.spec_forms.specs.declared.choice_forms.states.StateWord.TheVariants.{Value, Down}
use Rattle.spec_forms.specs.choice_forms.Lines.{ruled_text}
use Rattle.spec_forms.specs.choice_forms.States.{state_word_text}

-- The environment `v` with `value` as the value of factor `x`.
abbrev pub with_value : Env → ℕ → ℕ → Env
with_value v x value = record { up = v.up; factors = set v.factors x value }

-- The set `up` without processor `p`.
abbrev pub others_up : ℕ → ℕ → ℕ
others_up up p = if has_bit up p then up - 2 ^ p else up

-- The environment `v` in which the named factor has the named value, or `None` if the specification has no such
-- factor or value.
abbrev pub valued : Parts → Env → List ℕ → List ℕ → Option Env
valued spec v factor value =
    option_and_then (λ (x : FactorId). option_map (λ (n : ℕ). with_value v x.0 n) (find_value spec x value)) (factor_named spec factor)

-- The environment `v` with the named processor down, or `None` if the specification has no such processor.
abbrev pub taken_down : Parts → Env → List ℕ → Option Env
taken_down spec v proc = option_map (λ (p : ProcId). record { up = others_up v.up p.0; factors = v.factors }) (proc_named spec proc)

-- The environment `v` changed by a word of a state, or `None` if the specification does not have the factor, value or
-- processor that the word names.
abbrev pub env_after : Parts → Env → StateWord → Option Env
env_after spec v (Value factor value) = valued spec v factor value
env_after spec v (Down proc) = taken_down spec v proc

-- The environment `v` changed by the words of a state, or the first word with a name that the specification does not
-- have.
abbrev pub env_after_all : Parts → Env → List StateWord → Result Env StateWord
env_after_all spec v [] = Ok v
env_after_all spec v (word ∷ words) = option_map_or (λ (w : Env). env_after_all spec w words) (env_after spec v word) (Err word)

-- Whether there is a place and the place is on processor `p`.
abbrev pub is_placed_on : ℕ → Option Place → Bool
is_placed_on p None = false
is_placed_on p (Some place) = place.proc.0 == p

-- Whether configuration `c` places an application on processor `p`.
abbrev pub is_used : Parts → ConfId → ℕ → Bool
is_used spec c p = list_any (is_placed_on p) (places_of spec c)

-- The set, as bits, of the processors that are up or that configuration `c` does not use.
abbrev pub spared : Parts → ConfId → Env → ℕ
spared spec c v = bits_below (λ p. is_up_in v p || not (is_used spec c p)) (length spec.procs)

-- The text of the processors that a target uses and that are down, or the empty text if the target can run.
abbrev pub needs_text : Parts → ConfId → Env → List ℕ
needs_text spec to v = if is_runnable spec to v then [] else codes ", which needs " ++ added (names_down spec.procs (spared spec to v))

-- The text of the difference between an environment and the opening environment of a flight, or `ok` if there is no
-- difference.
abbrev pub state_text : Parts → Env → List ℕ
state_text spec v = if have_changed spec (opening_env spec) v then difference_text spec (opening_env spec) v else codes "ok"

-- The text of the processors that the target of rule `k` uses and that are down. It is empty if the target can run or
-- there is no such rule.
abbrev pub rule_needs : Parts → ℕ → Env → List ℕ
rule_needs spec k v = option_map_or (λ (rule : Choice). needs_text spec rule.to v) (slice_get spec.rules k) []

-- The first piece of the line of a choice from configuration `c` in environment `v`: the configuration, the
-- environment, rule `k` and its target. The piece has the text ` no rule` if there is no rule `k`.
abbrev pub choice_piece : Parts → ConfId → Env → ℕ → List ℕ
choice_piece spec c v k = codes "choice " ++ conf_name spec c.0 ++ codes " in " ++ state_text spec v ++ ruled_text spec k

-- The second piece of the line of a choice in environment `v`: the processors that the target of rule `k` needs but
-- that are down, and the line feed. If there is no rule `k`, the piece is only the line feed.
abbrev pub needs_piece : Parts → Env → ℕ → List ℕ
needs_piece spec v k = rule_needs spec k v ++ codes "\n"

-- The line of the choice from configuration `c` in an environment.
abbrev pub chosen_line : Parts → ConfId → Env → List ℕ
chosen_line spec c v = choice_piece spec c v (first_rule spec.rules c v) ++ needs_piece spec v (first_rule spec.rules c v)

-- The line that refuses a word with a name that the specification does not have.
abbrev pub no_name_line : List ℕ → List ℕ
no_name_line word = codes "refused: no such name " ++ word ++ codes "\n"

-- The status and the line report that the specification does not have a name in the word, or that there was no memory
-- for that line.
abbrev pub IsUnknown : List ℕ → ℕ × List ℕ → Type 0
IsUnknown word refusal = (refusal ≡ (UNKNOWN_NAME, no_name_line word)) ⊎ (refusal ≡ (OUT_OF_MEMORY, memory_line))

-- The answer for the choice from configuration `c`, given the result of reading the words of a state. If the result
-- is an environment, the text is the line of the choice. If the result is a word with an unknown name, the text is
-- the refusal of this word.
abbrev pub chosen_in : Parts → ConfId → Result Env StateWord → ℕ × List ℕ
chosen_in spec c (Ok v) = (ANSWERED, chosen_line spec c v)
chosen_in spec c (Err word) = (UNKNOWN_NAME, no_name_line (state_word_text word))

-- The answer for the choice from a configuration, or the refusal of the name `conf` if no configuration has this
-- name.
abbrev pub chosen_from : Parts → Option ConfId → List ℕ → List StateWord → ℕ × List ℕ
chosen_from spec None conf words = (UNKNOWN_NAME, no_name_line conf)
chosen_from spec (Some c) conf words = chosen_in spec c (env_after_all spec (opening_env spec) words)

-- The answer to `choose` about a specification, with a configuration's name and the words of a state.
abbrev pub choose_answer : Parts → List ℕ → List StateWord → ℕ × List ℕ
choose_answer spec conf words = chosen_from spec (conf_named spec conf) conf words
