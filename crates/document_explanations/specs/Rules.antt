-- The rules of specifications and scripts, each with the text that is shown if the rule is broken.
use Rattle.std.specs.Prelude.{ℕ, ◌==◌, Bool, true, false, List, [], ◌∷◌, ◌++◌, Option, Some, None, codes, decimal, if◌then◌else◌}
use Rattle.std.specs.Option.{option_map_or, option_or}
use Rattle.scram_types.specs.declared.limits.TheConstants.{MAX_SCRIPT_BYTES, MAX_SPECIFICATION_BYTES}
use Rattle.scram_doc.specs.declared.rule.TheConstants as rule
use Rattle.spec_reading.specs.declared.rule.TheConstants as specification_rule
use Rattle.fault_script.specs.declared.rule.TheConstants as script_rule
use Rattle.document_explanations.specs.declared.objects.ObjectKind.{ObjectKind}
use Rattle.document_explanations.specs.declared.objects.ObjectKind.TheVariants as object
use Rattle.document_explanations.specs.declared.rules.DocumentKind.{DocumentKind}
use Rattle.document_explanations.specs.declared.rules.DocumentKind.TheVariants.{Specification, Script}
use Rattle.document_explanations.specs.declared.rules.DocumentRule.{DocumentRule as TableRule}
use Rattle.document_explanations.specs.declared.rules.Shows.{Shows}
use Rattle.document_explanations.specs.declared.rules.Shows.TheVariants.{Both, Found, Nothing, Wanted}

-- The object that is the whole document.
abbrev pub root_of : DocumentKind → ObjectKind
root_of Specification = object.Specification
root_of Script = object.Script

-- A rule: its number, its text, the limit in bytes that is shown after the text, if the rule has one, and the parts
-- of an explanation that are shown if the rule is broken.
pub record DocumentRule : Type 0 where
  pub number : ℕ
  pub text : List ℕ
  pub limit : Option ℕ
  pub shows : Shows

-- A rule of the program's table as plain data.
abbrev pub plain_rule : TableRule → DocumentRule
plain_rule r = record { number = r.number; text = r.text.now; limit = r.limit; shows = r.shows }

-- A rule with this number and this text, without a limit. `shows` states which parts of an explanation are shown if
-- the rule is broken.
abbrev pub says : ℕ → List ℕ → Shows → DocumentRule
says number text shows = record { number = number; text = text; limit = None; shows = shows }

-- The rule with this number, which states that a document has at most `limit` bytes.
abbrev pub has_limit : ℕ → ℕ → DocumentRule
has_limit number limit = record { number = number; text = codes "more than"; limit = Some limit; shows = Nothing }

-- Rules 1 to 9, which both kinds of document have.
abbrev pub common_rules : List DocumentRule
common_rules =
    says rule.NO_JSON_TEXT (codes "no JSON text") Nothing ∷
    says rule.NO_OBJECT (codes "an object is wanted") Both ∷
    says rule.MISSING_MEMBER (codes "a member is missing") Wanted ∷
    says rule.FURTHER_MEMBER (codes "a member that is not known") Both ∷
    says rule.NO_LIST (codes "a list is wanted") Both ∷
    says rule.WRONG_LENGTH (codes "the list is too short or too long") Both ∷
    says rule.NO_TEXT (codes "a text is wanted") Both ∷
    says rule.NO_NUMBER_IN_RANGE (codes "a whole number in its range is wanted") Both ∷
    says specification_rule.UNKNOWN_VERSION (codes "no such version") Both ∷
    []

-- The rules of a kind of document that the other kind does not have.
abbrev pub own_rules : DocumentKind → List DocumentRule
own_rules Specification =
    says specification_rule.NO_NAME (codes "no name") Both ∷
    says specification_rule.NAME_TWICE (codes "the name is given twice") Found ∷
    says specification_rule.UNKNOWN_KIND (codes "no such kind") Both ∷
    says specification_rule.UNKNOWN_MODE (codes "the kind has no such mode") Both ∷
    says specification_rule.MODE_TWICE (codes "the mode is given twice") Found ∷
    says specification_rule.UNKNOWN_PROCESSOR (codes "no such processor") Found ∷
    says specification_rule.UNKNOWN_APPLICATION (codes "no such application") Found ∷
    says specification_rule.UNKNOWN_CONFIGURATION (codes "no such configuration") Found ∷
    says specification_rule.UNKNOWN_FACTOR_OR_VALUE (codes "no such factor, or no such value of it") Found ∷
    says specification_rule.UNKNOWN_VARIABLE (codes "the kind has no such variable") Both ∷
    says specification_rule.TWICE_IN_LIST (codes "given twice") Found ∷
    says specification_rule.CYCLE_OF_NEEDS (codes "the needs have a cycle") Nothing ∷
    says specification_rule.MODE_NOT_LISTED (codes "the application does not list this mode") Found ∷
    says specification_rule.EMPTY_INTERVAL (codes "least is above greatest") Found ∷
    has_limit specification_rule.TOO_LONG MAX_SPECIFICATION_BYTES ∷
    says specification_rule.UNKNOWN_POLICY (codes "no such policy") Both ∷
    []
own_rules Script =
    says script_rule.UNKNOWN_NAME (codes "no such factor, no such value of it, or no such processor") Both ∷
    says script_rule.OUT_OF_ORDER (codes "not after the one before it by frame, then factor or processor; or a second halt without restarts") Found ∷
    has_limit script_rule.TOO_LONG MAX_SCRIPT_BYTES ∷
    says script_rule.WRONG_RESTART
    (codes "not after the restart before it by frame, then processor; or its processor restarts twice, or has no halt two frames before it or earlier") Found ∷
    says script_rule.WRONG_HALT (codes "a third halt of a processor, or a second one without a restart up to its frame") Found ∷
    []

-- The first rule of a list with this number, or `None` if there is none.
abbrev pub rule_in : List DocumentRule → ℕ → Option DocumentRule
rule_in [] number = None
rule_in (rule ∷ rules) number = if rule.number == number then Some rule else rule_in rules number

-- The rule with this number that a document of this kind has, or `None` if there is none.
abbrev pub broken_rule : DocumentKind → ℕ → Option DocumentRule
broken_rule kind number = option_or (rule_in common_rules number) (rule_in (own_rules kind) number)

-- The text of a limit in bytes, preceded by a space.
abbrev pub limit_text : ℕ → List ℕ
limit_text limit = codes " " ++ decimal limit ++ codes " bytes"

-- The text of a rule, followed by its limit if there is one.
abbrev pub rule_words : DocumentRule → List ℕ
rule_words rule = rule.text ++ option_map_or limit_text rule.limit []

-- Whether the expected value is shown.
abbrev pub shows_wanted : Shows → Bool
shows_wanted Nothing = false
shows_wanted Wanted = true
shows_wanted Found = false
shows_wanted Both = true

-- Whether the value that was found is shown.
abbrev pub shows_found : Shows → Bool
shows_found Nothing = false
shows_found Wanted = false
shows_found Found = true
shows_found Both = true
