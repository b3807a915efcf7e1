-- Examples of lines, which are computed and compared with the text that is printed.
use Rattle.std.proofs.Common.{◌≡◌, refl, ℕ, List, [], ◌∷◌, pos}
use Rattle.std.specs.Prelude.{Option, Some, None, codes, replicate}
use Rattle.std.specs.Fmt.{digits}
use Rattle.scram_types.specs.declared.rows.Report.{Report}
use Rattle.scram_types.specs.declared.rows.Row.{Row}
use Rattle.scram_types.specs.declared.ids.ConfId.{ConfId}
use Rattle.scram_types.specs.declared.specification.Bound.{Bound}
use Rattle.scram_types.specs.declared.specification.Conf.{Conf}
use Rattle.scram_types.specs.declared.specification.Factor.{Factor}
use Rattle.scram_types.specs.declared.specification.Policy.TheVariants as policy
use Rattle.scram_types.specs.declared.specification.Proc.{Proc}
use Rattle.scram_types.specs.Lookups.{conf_id}
use Rattle.scram_types.specs.Specification.{Parts}
use Rattle.fault_script.specs.declared.assumption.OutsideKind.TheVariants as kind
use Rattle.coverage_check.specs.declared.shown.Other.TheVariants as other
use Rattle.trace_props.specs.declared.breaks.Property.TheVariants as property
use Rattle.form_base.specs.Lines.{shown_line, specification_line}
use Rattle.spec_forms.specs.Lines.{accepted_line}
use Rattle.form_base.specs.mission_files.Lines.{outside_line, script_line}
use Rattle.flight_forms.specs.Lines.{fly_line}
use Rattle.form_base.specs.trace_files.Lines.{broken_trace_line}
use Rattle.trace_forms.specs.Lines.{broken_line, holds_line}

abbrev conf : List ℕ → Conf
conf name = record { name = name; places = replicate 8 None }

abbrev two_valued : List ℕ → Factor
two_valued name = record { name = name; values = codes "ok" ∷ codes "failed" ∷ [] }

abbrev proc : List ℕ → Proc
proc name = record { name = name; capacity = 100 }

-- A specification with the given factors and bounds, two processors, one application and two configurations.
abbrev named : List Factor → List Bound → Parts
named factors bounds = record {
  procs = proc (codes "p0") ∷ proc (codes "p1") ∷ [];
  apps = record { name = codes "autopilot"; kind = record { 0 = 0 }; needs = []; modes = []; rank = 0 } ∷ [];
  confs = conf (codes "full") ∷ conf (codes "reduced_a") ∷ [];
  factors = factors;
  rules = [];
  bounds = bounds;
  start = record { 0 = 0 };
  goal = record { altitude = pos 5000; heading = pos 900 };
  invariants = [];
  preconditions = [];
  policy = policy.Retarget;
  demands = [];
  halts = 1;
  changes = 1;
  window = 40;
}

abbrev alternators : Parts
alternators = named (two_valued (codes "alternator1") ∷ two_valued (codes "alternator2") ∷ []) []

-- The line for needs that have a cycle.
cycle : specification_line (record {
  rule = 21;
  path = codes ".apps";
  cycle = record { items = [] };
  names = record { items = codes "autopilot" ∷ codes "flight_control" ∷ [] };
}) ≡ codes "refused: specification rule 21 at .apps cycle autopilot,flight_control\n"
unfolding digits
cycle = refl

-- The line for a rule that the whole document breaks.
whole : specification_line (record { rule = 1; path = []; cycle = record { items = [] }; names = record { items = [] } })
    ≡ codes "refused: specification rule 1 at .\n"
unfolding digits
whole = refl

script : script_line (record { rule = 11; path = codes ".changes.1" }) ≡ codes "refused: script rule 11 at .changes.1\n"
unfolding digits
script = refl

-- The line for an environment in which a processor is down, without a further part.
down : shown_line alternators (record {
  condition = 5;
  conf = Some (conf_id 0);
  env = Some (record { up = 2; factors = replicate 6 0 });
  other = other.Nothing;
}) ≡ codes "refused: A5 full alternator1=ok,alternator2=ok,down=p0 -\n"
unfolding digits
down = refl

-- The line for an environment in which an alternator has failed, with a further configuration.
failed : shown_line alternators (record {
  condition = 7;
  conf = Some (conf_id 0);
  env = Some (record { up = 3; factors = 1 ∷ 0 ∷ 0 ∷ 0 ∷ 0 ∷ 0 ∷ [] });
  other = other.Conf (conf_id 1);
}) ≡ codes "refused: A7 full alternator1=failed,alternator2=ok,down=- reduced_a\n"
unfolding digits
failed = refl

-- The line for an environment without factors in which both processors are down.
both_down : shown_line (named [] []) (record {
  condition = 5;
  conf = Some (conf_id 1);
  env = Some (record { up = 0; factors = replicate 6 0 });
  other = other.Nothing;
}) ≡ codes "refused: A5 reduced_a down=p0+p1 -\n"
unfolding digits
both_down = refl

states : shown_line alternators (record { condition = 2; conf = None; env = None; other = other.Count 16385 }) ≡ codes "refused: A2 - - 16385\n"
unfolding digits
states = refl

bound : shown_line alternators (record { condition = 9; conf = Some (conf_id 0); env = None; other = other.Least (conf_id 1) 12 })
    ≡ codes "refused: A9 full - reduced_a:12\n"
unfolding digits
bound = refl

place : shown_line alternators (record { condition = 12; conf = Some (conf_id 1); env = None; other = other.Item 3 })
    ≡ codes "refused: A12 reduced_a - 3\n"
unfolding digits
place = refl

need : shown_line alternators (record { condition = 1; conf = Some (conf_id 0); env = None; other = other.App (record { 0 = 0 }) })
    ≡ codes "refused: A1 full - autopilot\n"
unfolding digits
need = refl

load : shown_line alternators (record { condition = 4; conf = Some (conf_id 0); env = None; other = other.Proc (record { 0 = 1 }) })
    ≡ codes "refused: A4 full - p1\n"
unfolding digits
load = refl

changes : outside_line (record { frame = 16; kind = kind.Changes }) ≡ codes "refused: outside at frame 16: changes\n"
unfolding digits
changes = refl

halts : outside_line (record { frame = 30; kind = kind.Halts }) ≡ codes "refused: outside at frame 30: halts\n"
unfolding digits
halts = refl

-- There are 12 states: four sets of values of the factors, each with both processors up or with one of them down.
accepted : accepted_line alternators ≡ codes "accepted: configurations 2 states 12 bounds 0\n"
unfolding digits
accepted = refl

-- The line for a trace in whose first line a number has a leading zero.
trace : broken_trace_line (record { line = 1; rule = 5 }) ≡ codes "refused: trace rule 5 at line 1\n"
unfolding digits
trace = refl

-- The line for a trace in a file that is too long.
long : broken_trace_line (record { line = 0; rule = 9 }) ≡ codes "refused: trace rule 9 at line 0\n"
unfolding digits
long = refl

broken : broken_line (record { property = property.Sp4; frame = 12 }) ≡ codes "broken: SP4 at frame 12\n"
unfolding digits
broken = refl

reconfiguration : Option ConfId → ℕ → ℕ → Report
reconfiguration to begin end = record { from = conf_id 0; to = to; begin = begin; end = end }

-- An unfinished reconfiguration is counted among the reconfigurations.
holds : (row : Row) → holds_line (record { rows = replicate 11 row; reports = reconfiguration None 10 11 ∷ [] })
    ≡ codes "holds: frames 11 reconfigurations 1\n"
unfolding digits
holds row = refl

-- If there are no rows, the line has the start configuration. An unfinished reconfiguration is not the longest one.
flown : fly_line 18 alternators [] (reconfiguration (Some (conf_id 1)) 10 15 ∷ reconfiguration (Some (conf_id 0)) 50 57 ∷ reconfiguration None 60 99 ∷ [])
    ≡ codes "fly 18 frames 0 reconfigurations 3 longest 7 final full\n"
unfolding digits reconfiguration
flown = refl
