-- The script that a document encodes, or the first rule that the document breaks.
use Rattle.std.specs.Prelude.{ℕ, suc, ◌+◌, ◌==◌, ◌||◌, Bool, List, [], ◌∷◌, ◌++◌, length, codes, Option, Some, None, option_and_then, slice_get, Result, Ok, nat_le, if◌then◌else◌, ⊤}
use Rattle.serde_json.specs.Data.{Data}
use Rattle.scram_doc.specs.declared.fault.DocFault.{DocFault}
use Rattle.scram_doc.specs.Chain.{chain, ok_map}
use Rattle.scram_doc.specs.Documents.{parsed}
use Rattle.scram_doc.specs.Faults.{broken, or_broken}
use Rattle.scram_doc.specs.Lists.{elements_at}
use Rattle.scram_doc.specs.Members.{exactly_three_at, exactly_two_at, required_at, required_four_at, no_more_than, object_at}
use Rattle.scram_doc.specs.Paths.{item_path, member_path}
use Rattle.scram_doc.specs.Values.{text_at, whole_at}
use Rattle.scram_types.specs.declared.ids.FactorId.{FactorId}
use Rattle.scram_types.specs.declared.ids.ProcId.{ProcId}
use Rattle.scram_types.specs.declared.limits.TheConstants.{MAX_CHANGES, MAX_FRAMES, MAX_SCRIPT_BYTES}
use Rattle.scram_types.specs.declared.scripts.Change.{Change}
use Rattle.scram_types.specs.declared.scripts.HaltAt.{HaltAt}
use Rattle.scram_types.specs.declared.scripts.RestartAt.{RestartAt}
use Rattle.scram_types.specs.declared.specification.Factor.{Factor}
use Rattle.scram_types.specs.Lookups.{factor_named, proc_named, value_named}
use Rattle.scram_types.specs.Scripts.{ScriptParts}
use Rattle.scram_types.specs.Specification.{Parts}
use Rattle.fault_script.specs.declared.rule.TheConstants.{OUT_OF_ORDER, TOO_LONG, UNKNOWN_NAME, UNKNOWN_VERSION, WRONG_HALT, WRONG_RESTART}
use Rattle.fault_script.specs.declared.version.Version.{Version}
use Rattle.fault_script.specs.declared.version.Version.TheVariants.{First, Second}
use Rattle.fault_script.specs.Orders.{change_follows, halt_follows, may_halt, restart_follows}
use Rattle.fault_script.specs.Times.{words}
use Rattle.fault_script.specs.Versions.{halts_limit, member_count, version_of}

-- `Ok` if a test passes, else the fault of a rule at a path.
abbrev pub check : Bool → ℕ → List ℕ → Result ⊤ DocFault
check test rule at = if test then Ok tt else broken rule at

-- `Ok` if the value at a path is 1 or 2, else the first broken rule. The range 0 to 1,000 is checked first.
abbrev pub read_scram : List ℕ → Data → Result ⊤ DocFault
read_scram at d = chain (whole_at 0 1001 at d) (λ (n : ℕ). check (n == 1 || n == 2) UNKNOWN_VERSION at)

-- The processor that the text at a path names, or the first broken rule.
abbrev pub read_named_proc : Parts → List ℕ → Data → Result ProcId DocFault
read_named_proc spec at d = chain (text_at at d) (λ (text : List ℕ). or_broken UNKNOWN_NAME at (proc_named spec text))

-- The factor that the text at a path names, or the first broken rule.
abbrev pub read_named_factor : Parts → List ℕ → Data → Result FactorId DocFault
read_named_factor spec at d = chain (text_at at d) (λ (text : List ℕ). or_broken UNKNOWN_NAME at (factor_named spec text))

-- The number of the value of factor `x` that has this name, or `None` if there is no such factor or value.
abbrev pub find_value : Parts → FactorId → List ℕ → Option ℕ
find_value spec x text = option_and_then (λ (factor : Factor). value_named factor text) (slice_get spec.factors x.0)

-- The value of factor `x` that the text at a path names, or the first broken rule.
abbrev pub read_named_value : Parts → FactorId → List ℕ → Data → Result ℕ DocFault
read_named_value spec x at d = chain (text_at at d) (λ (text : List ℕ). or_broken UNKNOWN_NAME at (find_value spec x text))

-- The change of a factor to a value in a frame.
abbrev pub make_change : ℕ → FactorId → ℕ → Change
make_change frame factor value = record { frame = frame; factor = factor; value = value }

-- The change whose members have these values, or the first broken rule. The members are read in the order frame,
-- factor, value.
abbrev pub change_values : Parts → ℕ → List ℕ → Data → Data → Data → Result Change DocFault
change_values spec frames at frame factor value =
    chain (whole_at 1 frames (member_path at (codes "frame")) frame) (λ (frame : ℕ).
    chain (read_named_factor spec (member_path at (codes "factor")) factor) (λ (factor : FactorId).
    chain (read_named_value spec factor (member_path at (codes "value")) value) (λ (value : ℕ).
    Ok (make_change frame factor value))))

-- The change that the value at a path encodes, or the first broken rule.
abbrev pub read_change : Parts → ℕ → List ℕ → Data → Result Change DocFault
read_change spec frames at d =
    chain (exactly_three_at (codes "frame") (codes "factor") (codes "value") at d) (λ (m : Data × Data × Data).
    change_values spec frames at m.0 m.1 m.2)

-- The change that a value encodes, or the first broken rule. The change must come after the preceding ones.
abbrev pub read_next_change : Parts → ℕ → List ℕ → List Change → Data → Result Change DocFault
read_next_change spec frames at before d =
    chain (read_change spec frames at d) (λ (change : Change).
    chain (check (change_follows before change) OUT_OF_ORDER at) (λ (_ : ⊤). Ok change))

-- The changes of a script, or the first broken rule. Each change must come after the preceding ones.
abbrev pub read_changes : Parts → ℕ → List ℕ → Data → Result (List Change) DocFault
read_changes spec frames at d = elements_at (read_next_change spec frames) 0 MAX_CHANGES at d

-- The halt of a processor in a frame, after a number of stores.
abbrev pub make_halt : ProcId → ℕ → ℕ → HaltAt
make_halt proc frame step = record { proc = proc; frame = frame; step = step }

-- The halt whose members have these values, or the first broken rule. The members are read in the order processor,
-- frame, step.
abbrev pub halt_values : Parts → ℕ → List ℕ → Data → Data → Data → Result HaltAt DocFault
halt_values spec frames at proc frame step =
    chain (read_named_proc spec (member_path at (codes "processor")) proc) (λ (proc : ProcId).
    chain (whole_at 0 frames (member_path at (codes "frame")) frame) (λ (frame : ℕ).
    chain (whole_at 0 (words spec + 2) (member_path at (codes "step")) step) (λ (step : ℕ).
    Ok (make_halt proc frame step))))

-- The halt that the value at a path encodes, or the first broken rule.
abbrev pub read_halt : Parts → ℕ → List ℕ → Data → Result HaltAt DocFault
read_halt spec frames at d =
    chain (exactly_three_at (codes "processor") (codes "frame") (codes "step") at d) (λ (m : Data × Data × Data).
    halt_values spec frames at m.0 m.1 m.2)

-- The halt that a value encodes, or the first broken rule. The halt must come after the preceding ones.
abbrev pub read_next_halt : Parts → Version → ℕ → List ℕ → List HaltAt → Data → Result HaltAt DocFault
read_next_halt spec version frames at before d =
    chain (read_halt spec frames at d) (λ (halt : HaltAt).
    chain (check (halt_follows version before halt) OUT_OF_ORDER at) (λ (_ : ⊤). Ok halt))

-- The halts of a script, or the first broken rule. Each halt must come after the preceding ones.
abbrev pub read_halts : Parts → Version → ℕ → List ℕ → Data → Result (List HaltAt) DocFault
read_halts spec version frames at d = elements_at (read_next_halt spec version frames) 0 (halts_limit version) at d

-- The restart of a processor in a frame.
abbrev pub make_restart : ProcId → ℕ → RestartAt
make_restart proc frame = record { proc = proc; frame = frame }

-- The restart whose members have these values, or the first broken rule. The members are read in the order processor,
-- frame.
abbrev pub restart_values : Parts → ℕ → List ℕ → Data → Data → Result RestartAt DocFault
restart_values spec frames at proc frame =
    chain (read_named_proc spec (member_path at (codes "processor")) proc) (λ (proc : ProcId).
    chain (whole_at 2 frames (member_path at (codes "frame")) frame) (λ (frame : ℕ).
    Ok (make_restart proc frame)))

-- The restart that the value at a path encodes, or the first broken rule.
abbrev pub read_restart : Parts → ℕ → List ℕ → Data → Result RestartAt DocFault
read_restart spec frames at d =
    chain (exactly_two_at (codes "processor") (codes "frame") at d) (λ (m : Data × Data).
    restart_values spec frames at m.0 m.1)

-- The restart that a value encodes, or the first broken rule. The restart must come after the preceding ones.
abbrev pub read_next_restart : Parts → ℕ → List HaltAt → List ℕ → List RestartAt → Data → Result RestartAt DocFault
read_next_restart spec frames halts at before d =
    chain (read_restart spec frames at d) (λ (restart : RestartAt).
    chain (check (restart_follows halts before restart) WRONG_RESTART at) (λ (_ : ⊤). Ok restart))

-- The restarts of a script, or the first broken rule. The list is empty in the first version.
abbrev pub read_restarts : Parts → ℕ → List HaltAt → List ℕ → Option Data → Result (List RestartAt) DocFault
read_restarts spec frames halts at None = Ok []
read_restarts spec frames halts at (Some d) = elements_at (read_next_restart spec frames halts) 0 8 at d

-- `Ok` if each halt of a list is one that its processor may have after the preceding ones, else the fault of the
-- first halt that is not. The first halt of the list has index `i` in the script.
abbrev pub check_halts : List RestartAt → List ℕ → ℕ → List HaltAt → List HaltAt → Result ⊤ DocFault
check_halts restarts at i before [] = Ok tt
check_halts restarts at i before (halt ∷ halts) =
    chain (check (may_halt restarts before halt) WRONG_HALT (item_path at i)) (λ (_ : ⊤).
    check_halts restarts at (suc i) (before ++ halt ∷ []) halts)

-- The values of a script's members.
pub record ScriptMembers : Type 0 where
  pub scram : Data
  pub frames : Data
  pub changes : Data
  pub halts : Data
  pub restarts : Option Data

-- The values of a script's members, in the order in which they are looked up.
abbrev pub make_members : Data → Data → Data → Data → Option Data → ScriptMembers
make_members scram frames changes halts restarts =
    record { scram = scram; frames = frames; changes = changes; halts = halts; restarts = restarts }

-- The value of the member `restarts` in the second version, or the broken rule if the member is missing. In the first
-- version the value is `None`.
abbrev pub need_restarts : Version → Data → Result (Option Data) DocFault
need_restarts First d = Ok None
need_restarts Second d = ok_map (λ (restarts : Data). Some restarts) (required_at (codes "restarts") [] d)

-- The values of the members of a script document, or the first broken rule. The document must have exactly the
-- members of its version.
abbrev pub find_members : Version → Data → Result ScriptMembers DocFault
find_members version d =
    chain (object_at [] d) (λ (_ : ⊤).
    chain (required_four_at (codes "scram") (codes "frames") (codes "changes") (codes "halts") [] d) (λ (m : Data × Data × Data × Data).
    chain (need_restarts version d) (λ (restarts : Option Data).
    chain (no_more_than (member_count version) [] d) (λ (_ : ⊤).
    Ok (make_members m.0 m.1 m.2 m.3 restarts)))))

-- The number of frames of a script, or the first broken rule. The version is checked first.
abbrev pub read_frames : Data → Data → Result ℕ DocFault
read_frames scram frames =
    chain (read_scram (member_path [] (codes "scram")) scram) (λ (_ : ⊤).
    whole_at 0 (MAX_FRAMES + 1) (member_path [] (codes "frames")) frames)

-- The script with this number of frames and these changes, halts and restarts.
abbrev pub make_script : ℕ → List Change → List HaltAt → List RestartAt → ScriptParts
make_script frames changes halts restarts =
    record { frames = frames; changes = changes; halts = halts; restarts = restarts }

-- The script whose members have these values, or the first broken rule. The values are read and checked in the order
-- of the members.
abbrev pub read_values : Parts → Version → ScriptMembers → Result ScriptParts DocFault
read_values spec version m =
    chain (read_frames m.scram m.frames) (λ (frames : ℕ).
    chain (read_changes spec frames (member_path [] (codes "changes")) m.changes) (λ (changes : List Change).
    chain (read_halts spec version frames (member_path [] (codes "halts")) m.halts) (λ (halts : List HaltAt).
    chain (read_restarts spec frames halts (member_path [] (codes "restarts")) m.restarts) (λ (restarts : List RestartAt).
    chain (check_halts restarts (member_path [] (codes "halts")) 0 [] halts) (λ (_ : ⊤).
    Ok (make_script frames changes halts restarts))))))

-- The script that a JSON value encodes, or the first broken rule with its path.
abbrev pub script_in : Parts → Data → Result ScriptParts DocFault
script_in spec d = chain (find_members (version_of d) d) (λ (m : ScriptMembers). read_values spec (version_of d) m)

-- The script that the bytes encode, or the first broken rule with its path. The length is checked first.
abbrev pub script_of : Parts → List ℕ → Result ScriptParts DocFault
script_of spec bytes =
    if nat_le (length bytes) MAX_SCRIPT_BYTES then chain (parsed bytes) (λ (d : Data). script_in spec d) else broken TOO_LONG []
