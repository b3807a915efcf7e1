-- Examples of the texts for expected and found values. Each text is computed and compared with the correct one.
use Rattle.std.proofs.Common.{◌≡◌, ℕ, List, [], ◌∷◌, ◌++◌, Some, None, refl, decimal}
use Rattle.std.specs.Option.{option_map_or}
use Rattle.std.specs.Prelude.{◌+◌, codes, is_some, neg_ℤ, pos, true}
use Rattle.scram_types.specs.Searches.{all_below}
use Rattle.serde_json.specs.Data.{Members, array, member, no_items, no_members, number, object, string, unsigned}
use Rattle.document_explanations.specs.Found.{found_text_at, further_names}
use Rattle.document_explanations.specs.Objects.{list, signed, texts, whole}
use Rattle.document_explanations.specs.Paths.{value_at, wanted_at}
use Rattle.document_explanations.specs.Rules.{broken_rule}
use Rattle.document_explanations.specs.Wants.{wanted_text}
use Rattle.document_explanations.specs.declared.wanted_values.Element.TheVariants as element
use Rattle.document_explanations.specs.declared.objects.ObjectKind.TheVariants as object_kind
use Rattle.document_explanations.specs.declared.wanted_values.Text.TheVariants as text
use Rattle.document_explanations.specs.declared.rules.DocumentKind.{DocumentKind}
use Rattle.document_explanations.specs.declared.rules.DocumentKind.TheVariants.{Specification, Script}

-- The text that describes the expected value at a path of a document where a rule is broken, or the empty text if
-- there is none.
abbrev wanted_in : DocumentKind → ℕ → List ℕ → List ℕ
wanted_in kind rule path = option_map_or (wanted_text None) (wanted_at kind rule path) []

place_on : wanted_in Specification 7 (codes ".configurations.0.apps.1.on") ≡ codes "the name of a processor"
place_on = refl

any_conf : wanted_in Specification 17 (codes ".rules.63.from") ≡ codes "the name of a configuration, or *"
any_conf = refl

bound : wanted_at Specification 8 (codes ".bounds.143.frames") ≡ Some (whole 1 1000)
bound = refl

interval_end : wanted_at Specification 8 (codes ".preconditions.0.least") ≡ Some (signed (neg_ℤ (pos 1000000000)) (pos 1000000000))
interval_end = refl

phase : wanted_at Specification 8 (codes ".apps.0.modes.2.init") ≡ Some (whole 1 16)
phase = refl

values : wanted_at Specification 6 (codes ".factors.5.values") ≡ Some (list 2 4 (element.Text text.Name))
values = refl

required_processors : wanted_at Specification 6 (codes ".demands.3.down") ≡ Some (texts 8 text.Processor)
required_processors = refl

modes : wanted_in Specification 13 (codes ".demands.0.on.0.modes.1")
    ≡ codes "autopilot: navigate hold, flight_control: augmented direct, power_monitor: normal saver essential, navigator: route coarse, " ++
    codes "datalink: fast slow, task: full reduced minimal"
modes = refl

-- If a member is missing, the expected value of its object is described.
name_missing : wanted_in Specification 3 (codes ".factors.1.name") ≡ codes "name, values"
name_missing = refl

restarts_missing : wanted_in Script 3 (codes ".restarts") ≡ codes "scram, frames, changes, halts, restarts where scram is 2"
restarts_missing = refl

halts : wanted_in Script 6 (codes ".halts") ≡ codes "0 to " ++ decimal 8 ++ codes " elements, 0 to " ++ decimal 16 ++ codes " where scram is 2"
halts = refl

-- The members of a document of version 2, with some that the table has only for other versions or not at all.
members : Members
members = member (codes "demands") (array no_items) (member (codes "extra") (number (unsigned 1)) (member (codes "policy") (string (codes "settle")) (member (codes "scram") (number (unsigned 2)) no_members)))

further : further_names (object members) object_kind.Specification members ≡ codes "demands" ∷ codes "extra" ∷ []
unfolding members
further = refl

policy : value_at (codes ".policy") (object members) ≡ Some (string (codes "settle"))
unfolding members
policy = refl

elements : found_text_at Specification 6 (codes ".demands") (object members) ≡ decimal 0 ++ codes " elements"
unfolding members
elements = refl

-- The rules of specifications have the numbers 1 to 25, and the rules of scripts have the numbers 1 to 14.
specification_rules : all_below (λ (k : ℕ). is_some (broken_rule Specification (k + 1))) 25 ≡ true
specification_rules = refl

script_rules : all_below (λ (k : ℕ). is_some (broken_rule Script (k + 1))) 14 ≡ true
script_rules = refl

no_further_rules : (broken_rule Specification 26 ≡ None) × (broken_rule Script 15 ≡ None)
no_further_rules = (refl, refl)
