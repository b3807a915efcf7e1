-- Reading the line of a reconfiguration, and the end line.
use Rattle.std.specs.Prelude.{ℕ, ◌==◌, ◌-◌, ◌^◌, ◌&&◌, Bool, true, false, ⊤, List, codes, length, nat_le, option_map, Option, Some, None, Result, Ok, Err, bytes_eq, if◌then◌else◌}
use Rattle.scram_types.specs.declared.limits.TheConstants.{MAX_FRAMES}
use Rattle.scram_types.specs.Specification.{Parts, bound_in, greatest_bound_in}
use Rattle.scram_types.specs.declared.ids.ConfId.{ConfId}
use Rattle.scram_types.specs.declared.rows.Report.{Report}
use Rattle.scram_types.specs.Lookups.{conf_named}
use Rattle.trace_text.specs.Pieces.{words_in, is_word, word_at}
use Rattle.trace_text.specs.Rules.{or_rule}
use Rattle.trace_text.specs.Spelling.{spelled_number}
use Rattle.trace_text.specs.declared.rule.TheConstants.{NO_FORM, UNKNOWN_NAME, WRONG_COUNT, WRONG_NUMBER}

-- Whether the words have the form of a reconfiguration.
abbrev pub is_report_form : List (List ℕ) → Bool
is_report_form words =
    (length words == 12) && is_word words 2 (codes ">") && is_word words 4 (codes "begin") && is_word words 6 (codes "end")
    && is_word words 8 (codes "took") && is_word words 10 (codes "of")

-- The bound that a text spells, `Some None` for `-`, or `None` if it spells no bound.
abbrev pub bound_or_none : List ℕ → Option (Option ℕ)
bound_or_none text = if bytes_eq text (codes "-") then Some None else option_map (λ (b : ℕ). Some b) (spelled_number (2 ^ 32) text)

-- Whether two bounds are equal or both missing.
abbrev pub same_bound : Option ℕ → Option ℕ → Bool
same_bound None None = true
same_bound None (Some b) = false
same_bound (Some a) None = false
same_bound (Some a) (Some b) = a == b

-- The result of reading the other words of a reconfiguration with this source, target and end: the reconfiguration,
-- or the first of rules 5 and 8 that the words break. `given` is the bound that the words have to spell. The spelling
-- of the end is tested before.
abbrev pub report_end : List (List ℕ) → ConfId → Option ConfId → ℕ → Option ℕ → Result Report ℕ
report_end words from to end given =
    or_rule WRONG_NUMBER (spelled_number MAX_FRAMES (word_at words 5)) (λ (begin : ℕ).
    or_rule WRONG_NUMBER (spelled_number (2 ^ 32) (word_at words 9)) (λ (took : ℕ).
    or_rule WRONG_NUMBER (bound_or_none (word_at words 11)) (λ (bound : Option ℕ).
    if nat_le begin end && (took == end - begin) && same_bound bound given then
    Ok (record { from = from; to = to; begin = begin; end = end })
    else Err WRONG_COUNT)))

-- The result of reading the words of a reconfiguration that ended. The words must name a source and a target, and
-- spell the end. The bound must be the specification's bound from the source to the target.
abbrev pub finished_report : Parts → List (List ℕ) → Result Report ℕ
finished_report spec words =
    or_rule UNKNOWN_NAME (conf_named spec (word_at words 1)) (λ (from : ConfId).
    or_rule UNKNOWN_NAME (conf_named spec (word_at words 3)) (λ (to : ConfId).
    or_rule WRONG_NUMBER (spelled_number MAX_FRAMES (word_at words 7)) (λ (end : ℕ).
    report_end words from (Some to) end (bound_in spec.bounds from.0 to.0))))

-- The result of reading the words of a reconfiguration that was cut off, given the number of frames of the flight.
-- This number is the end of the reconfiguration.
abbrev pub unfinished_report : Parts → ℕ → List (List ℕ) → Result Report ℕ
unfinished_report spec frames words =
    or_rule UNKNOWN_NAME (conf_named spec (word_at words 1)) (λ (from : ConfId).
    report_end words from None frames (greatest_bound_in spec.bounds from.0))

-- The result of reading the words of a reconfiguration. Either the target and the end are both `-`, or neither is.
abbrev pub report_in : Parts → ℕ → List (List ℕ) → Result Report ℕ
report_in spec frames words =
    if is_report_form words then
    (if is_word words 3 (codes "-") then
    (if is_word words 7 (codes "-") then unfinished_report spec frames words else Err NO_FORM)
    else (if is_word words 7 (codes "-") then Err NO_FORM else finished_report spec words))
    else Err NO_FORM

-- The result of reading the line of a reconfiguration, given the number of frames of the flight.
abbrev pub report_read : Parts → ℕ → List ℕ → Result Report ℕ
report_read spec frames line = or_rule NO_FORM (words_in line) (report_in spec frames)

-- Whether the words have the form of the end line.
abbrev pub is_end_form : List (List ℕ) → Bool
is_end_form words = (length words == 5) && is_word words 1 (codes "frames") && is_word words 3 (codes "reconfigurations")

-- The result of reading the words of the end line, which have to spell these numbers of frames and reconfigurations.
abbrev pub end_in : ℕ → ℕ → List (List ℕ) → Result ⊤ ℕ
end_in frames reports words =
    if is_end_form words then
    or_rule WRONG_NUMBER (spelled_number (2 ^ 32) (word_at words 2)) (λ (f : ℕ).
    or_rule WRONG_NUMBER (spelled_number (2 ^ 32) (word_at words 4)) (λ (r : ℕ).
    if (f == frames) && (r == reports) then Ok tt else Err WRONG_COUNT))
    else Err NO_FORM

-- The result of reading the end line of a trace with these numbers of frames and reports.
abbrev pub end_read : ℕ → ℕ → List ℕ → Result ⊤ ℕ
end_read frames reports line = or_rule NO_FORM (words_in line) (end_in frames reports)
