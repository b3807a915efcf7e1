-- The objects of specifications and scripts. Each object has a list of its members with their expected values, in the
-- order in which the members are read.
use Rattle.std.specs.Prelude.{ℕ, ℤ, neg_ℤ, pos, List, [], ◌∷◌, Option, Some, None, codes, bytes_eq, if◌then◌else◌}
use Rattle.scram_types.specs.declared.limits.TheConstants.{MAX_ALTITUDE, MAX_APPLICATIONS, MAX_ASSUMED_CHANGES, MAX_ASSUMED_HALTS, MAX_BOUND, MAX_BOUNDS, MAX_CHANGES, MAX_CONFIGURATIONS, MAX_DEMANDS, MAX_FACTORS, MAX_FRAMES, MAX_HEADING, MAX_INTERVAL_END, MAX_INTERVALS, MAX_LOAD, MAX_MODES, MAX_PHASE, MAX_PROCESSORS, MAX_RULES, MAX_VALUES, MAX_WINDOW, MIN_VALUES}
use Rattle.document_explanations.specs.declared.wanted_values.Element.{Element}
use Rattle.document_explanations.specs.declared.wanted_values.Element.TheVariants as element
use Rattle.document_explanations.specs.declared.wanted_values.Length.TheVariants as extent
use Rattle.document_explanations.specs.declared.objects.Member.{Member as TableMember}
use Rattle.document_explanations.specs.declared.wanted_values.Number.TheVariants as number
use Rattle.document_explanations.specs.declared.objects.ObjectKind.{ObjectKind}
use Rattle.document_explanations.specs.declared.objects.ObjectKind.TheVariants as object
use Rattle.document_explanations.specs.declared.wanted_values.Text.{Text}
use Rattle.document_explanations.specs.declared.wanted_values.Text.TheVariants as text
use Rattle.document_explanations.specs.declared.wanted_values.Versions.{Versions}
use Rattle.document_explanations.specs.declared.wanted_values.Versions.TheVariants as versions
use Rattle.document_explanations.specs.declared.wanted_values.Wanted.{Wanted}
use Rattle.document_explanations.specs.declared.wanted_values.Wanted.TheVariants as wanted

-- A member of an object, with its name, the versions of the document that have it, and its expected value.
pub record Member : Type 0 where
  pub name : List ℕ
  pub versions : Versions
  pub wanted : Wanted

-- A member of the program's table as plain data.
abbrev pub member_read : TableMember → Member
member_read m = record { name = m.name.now; versions = m.versions; wanted = m.wanted }

-- A member that only the given versions of the document have.
abbrev pub later : List ℕ → Versions → Wanted → Member
later name versions wanted = record { name = name; versions = versions; wanted = wanted }

-- A member that every version has.
abbrev pub has : List ℕ → Wanted → Member
has name wanted = later name versions.All wanted

-- An expected list of `least` to `most` elements.
abbrev pub list : ℕ → ℕ → Element → Wanted
list least most element = wanted.List (extent.Within least most) element

-- An expected list of `least` to `most` objects.
abbrev pub objects : ℕ → ℕ → ObjectKind → Wanted
objects least most object = list least most (element.Object object)

-- An expected list of up to `most` texts.
abbrev pub texts : ℕ → Text → Wanted
texts most text = list 0 most (element.Text text)

-- An expected number from `least` to `greatest`.
abbrev pub whole : ℕ → ℕ → Wanted
whole least greatest = wanted.Number (number.Whole least greatest)

-- An expected number from `least` to `greatest`, which may be negative.
abbrev pub signed : ℤ → ℤ → Wanted
signed least greatest = wanted.Number (number.Signed least greatest)

-- The expected value of an end of an interval: a number from `-MAX_INTERVAL_END` to `MAX_INTERVAL_END`.
abbrev pub interval_end : Wanted
interval_end = signed (neg_ℤ MAX_INTERVAL_END) MAX_INTERVAL_END

-- The members of an invariant or a precondition after the first one, which names its configuration.
abbrev pub interval_members : List Member
interval_members =
    has (codes "app") (wanted.Text text.Application) ∷
    has (codes "variable") (wanted.Text text.Variable) ∷
    has (codes "least") interval_end ∷
    has (codes "greatest") interval_end ∷
    []

-- The members that an object may have, in the order in which they are read.
abbrev pub known_members : ObjectKind → List Member
known_members object.Specification =
    has (codes "scram") (wanted.Number number.SpecificationVersion) ∷
    has (codes "processors") (objects 1 MAX_PROCESSORS object.Processor) ∷
    has (codes "apps") (objects 1 MAX_APPLICATIONS object.Application) ∷
    has (codes "configurations") (objects 1 MAX_CONFIGURATIONS object.Configuration) ∷
    has (codes "factors") (objects 0 MAX_FACTORS object.Factor) ∷
    has (codes "rules") (objects 0 MAX_RULES object.Rule) ∷
    has (codes "bounds") (objects 0 MAX_BOUNDS object.Bound) ∷
    has (codes "start") (wanted.Text text.Configuration) ∷
    has (codes "goal") (wanted.Object object.Goal) ∷
    has (codes "invariants") (objects 0 MAX_INTERVALS object.Invariant) ∷
    has (codes "preconditions") (objects 0 MAX_INTERVALS object.Precondition) ∷
    has (codes "assumption") (wanted.Object object.Assumption) ∷
    later (codes "policy") versions.SecondOn (wanted.Text text.Policy) ∷
    later (codes "demands") versions.Third (objects 0 MAX_DEMANDS object.Demand) ∷
    []
known_members object.Processor =
    has (codes "name") (wanted.Text text.Name) ∷
    has (codes "capacity") (whole 0 MAX_LOAD) ∷
    []
known_members object.Application =
    has (codes "name") (wanted.Text text.Name) ∷
    has (codes "kind") (wanted.Text text.Kind) ∷
    has (codes "needs") (texts MAX_APPLICATIONS text.Application) ∷
    has (codes "modes") (objects 1 MAX_MODES object.Mode) ∷
    []
known_members object.Mode =
    has (codes "mode") (wanted.Text text.Mode) ∷
    has (codes "load") (whole 0 MAX_LOAD) ∷
    has (codes "halt") (whole 1 MAX_PHASE) ∷
    has (codes "prepare") (whole 1 MAX_PHASE) ∷
    has (codes "init") (whole 1 MAX_PHASE) ∷
    []
known_members object.Configuration =
    has (codes "name") (wanted.Text text.Name) ∷
    has (codes "apps") (objects 0 MAX_APPLICATIONS object.Place) ∷
    []
known_members object.Place =
    has (codes "app") (wanted.Text text.Application) ∷
    has (codes "mode") (wanted.Text text.Mode) ∷
    has (codes "on") (wanted.Text text.Processor) ∷
    []
known_members object.Factor =
    has (codes "name") (wanted.Text text.Name) ∷
    has (codes "values") (list MIN_VALUES MAX_VALUES (element.Text text.Name)) ∷
    []
known_members object.Rule =
    has (codes "from") (wanted.Text text.ConfigurationOrAny) ∷
    has (codes "when") (objects 0 MAX_FACTORS object.RequiredValue) ∷
    has (codes "up") (texts MAX_PROCESSORS text.Processor) ∷
    has (codes "to") (wanted.Text text.Configuration) ∷
    []
known_members object.RequiredValue =
    has (codes "factor") (wanted.Text text.Factor) ∷
    has (codes "value") (wanted.Text text.Value) ∷
    []
known_members object.Bound =
    has (codes "from") (wanted.Text text.Configuration) ∷
    has (codes "to") (wanted.Text text.Configuration) ∷
    has (codes "frames") (whole 1 MAX_BOUND) ∷
    []
known_members object.Goal =
    has (codes "altitude") (signed (pos 0) MAX_ALTITUDE) ∷
    has (codes "heading") (signed (pos 0) MAX_HEADING) ∷
    []
known_members object.Invariant = has (codes "from") (wanted.Text text.ConfigurationOrAny) ∷ interval_members
known_members object.Precondition = has (codes "configuration") (wanted.Text text.Configuration) ∷ interval_members
known_members object.Assumption =
    has (codes "halts") (whole 0 MAX_ASSUMED_HALTS) ∷
    has (codes "changes") (whole 0 MAX_ASSUMED_CHANGES) ∷
    has (codes "window") (whole 1 MAX_WINDOW) ∷
    []
known_members object.Demand =
    has (codes "name") (wanted.Text text.Name) ∷
    has (codes "from") (texts MAX_CONFIGURATIONS text.Configuration) ∷
    has (codes "when") (objects 0 MAX_FACTORS object.RequiredValue) ∷
    has (codes "up") (texts MAX_PROCESSORS text.Processor) ∷
    has (codes "down") (texts MAX_PROCESSORS text.Processor) ∷
    has (codes "to") (texts MAX_CONFIGURATIONS text.Configuration) ∷
    has (codes "on") (objects 0 MAX_APPLICATIONS object.RequiredApplication) ∷
    has (codes "off") (texts MAX_APPLICATIONS text.Application) ∷
    []
known_members object.RequiredApplication =
    has (codes "app") (wanted.Text text.Application) ∷
    has (codes "modes") (texts MAX_MODES text.Mode) ∷
    []
known_members object.Script =
    has (codes "scram") (wanted.Number number.ScriptVersion) ∷
    has (codes "frames") (whole 0 MAX_FRAMES) ∷
    has (codes "changes") (objects 0 MAX_CHANGES object.Change) ∷
    has (codes "halts") (wanted.List extent.Halts (element.Object object.Halt)) ∷
    later (codes "restarts") versions.Second (objects 0 MAX_PROCESSORS object.Restart) ∷
    []
known_members object.Change =
    has (codes "frame") (wanted.Number (number.Frame 1)) ∷
    has (codes "factor") (wanted.Text text.ScriptFactor) ∷
    has (codes "value") (wanted.Text text.ScriptFactor) ∷
    []
known_members object.Halt =
    has (codes "processor") (wanted.Text text.ScriptProcessor) ∷
    has (codes "frame") (wanted.Number (number.Frame 0)) ∷
    has (codes "step") (wanted.Number number.Step) ∷
    []
known_members object.Restart =
    has (codes "processor") (wanted.Text text.ScriptProcessor) ∷
    has (codes "frame") (wanted.Number (number.Frame 2)) ∷
    []

-- The first member with this name, or `None` if there is none.
abbrev pub member_named : List Member → List ℕ → Option Member
member_named [] name = None
member_named (member ∷ members) name = if bytes_eq member.name name then Some member else member_named members name
