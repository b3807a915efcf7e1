-- The explanation in the refusal of a document that breaks a rule: the lines that follow the refusal's first line.
use Rattle.std.specs.Prelude.{ℕ, List, [], ◌++◌, Option, codes, decimal, if◌then◌else◌}
use Rattle.std.specs.Option.{option_map_or}
use Rattle.serde_json.specs.Data.{Data}
use Rattle.scram_types.specs.Specification.{Parts}
use Rattle.document_explanations.specs.Found.{cut, found_text_at}
use Rattle.document_explanations.specs.Paths.{wanted_at}
use Rattle.document_explanations.specs.Rules.{DocumentRule, broken_rule, rule_words, shows_found, shows_wanted}
use Rattle.document_explanations.specs.Wants.{wanted_text}
use Rattle.document_explanations.specs.declared.rules.DocumentKind.{DocumentKind}

-- The line with the number and the text of a rule.
abbrev pub rule_line : DocumentRule → List ℕ
rule_line rule = codes "  rule " ++ decimal rule.number ++ codes ": " ++ rule_words rule ++ codes "\n"

-- The text that describes the expected value at a path where a rule is broken, or the empty text if no value is
-- expected there. `spec` is the specification that a script is for, or `None` if there is none.
abbrev pub wanted_part : DocumentKind → Option Parts → ℕ → List ℕ → List ℕ
wanted_part kind spec rule path = option_map_or (wanted_text spec) (wanted_at kind rule path) []

-- The line with the expected value, or the empty text if the rule does not show it.
abbrev pub wanted_line : DocumentKind → Option Parts → DocumentRule → List ℕ → List ℕ
wanted_line kind spec rule path =
    if shows_wanted rule.shows then codes "  wanted: " ++ wanted_part kind spec rule.number path ++ codes "\n" else []

-- The text of the value that was found at a path where a rule is broken, shortened by `cut`. The text is empty if
-- `document` is `None`, which means that the bytes are not a JSON text.
abbrev pub found_part : DocumentKind → ℕ → List ℕ → Option Data → List ℕ
found_part kind rule path document = option_map_or (λ (d : Data). cut (found_text_at kind rule path d)) document []

-- The line with the value that was found, or the empty text if the rule does not show it.
abbrev pub found_line : DocumentKind → DocumentRule → List ℕ → Option Data → List ℕ
found_line kind rule path document =
    if shows_found rule.shows then codes "  found: " ++ found_part kind rule.number path document ++ codes "\n" else []

-- The lines that follow the first line of the refusal of a document that breaks `rule` at a path.
abbrev pub rule_lines : DocumentKind → Option Parts → List ℕ → Option Data → DocumentRule → List ℕ
rule_lines kind spec path document rule = rule_line rule ++ wanted_line kind spec rule path ++ found_line kind rule path document

-- The lines that follow the first line of the refusal of a document that breaks the rule with number `rule` at a
-- path, or the empty text if there is no such rule.
abbrev pub explanation : DocumentKind → Option Parts → ℕ → List ℕ → Option Data → List ℕ
explanation kind spec rule path document = option_map_or (rule_lines kind spec path document) (broken_rule kind rule) []
