-- How applications are read, before the needs are looked up by name.
use Rattle.std.specs.Prelude.{ℕ, List, [], codes, is_some, Result, Ok, ⊤, if◌then◌else◌}
use Rattle.serde_json.specs.Data.{Data, Items}
use Rattle.scram_types.specs.declared.specification.ModeSpec.{ModeSpec}
use Rattle.scram_types.specs.declared.specification.AppSpec.{AppSpec}
use Rattle.scram_types.specs.Specification.{mode_in}
use Rattle.kind_table.specs.Names.{kind_names, number_in}
use Rattle.scram_doc.specs.declared.fault.DocFault.{DocFault}
use Rattle.scram_doc.specs.Chain.{chain}
use Rattle.scram_doc.specs.Faults.{broken, or_broken}
use Rattle.scram_doc.specs.Paths.{member_path}
use Rattle.scram_doc.specs.Members.{exactly_five_at, exactly_four_at}
use Rattle.scram_doc.specs.Values.{list_at, text_at, whole_at}
use Rattle.spec_reading.specs.declared.rule.TheConstants.{UNKNOWN_KIND, MODE_TWICE}
use Rattle.scram_doc.specs.Lists.{elements_at, folded_from}
use Rattle.spec_reading.specs.Names.{read_new_name, name_of_app}
use Rattle.spec_reading.specs.Modes.{read_kind_mode}

-- The mode that the text at a path names, or the first broken rule. The mode must not be among the modes `done`.
abbrev pub read_new_mode : ℕ → List ModeSpec → List ℕ → Data → Result ℕ DocFault
read_new_mode kind done at d =
    chain (read_kind_mode kind at d) (λ (mode : ℕ). if is_some (mode_in done mode) then broken MODE_TWICE at else Ok mode)

-- The number of frames of a phase, 1 to 16, or the first broken rule.
abbrev pub read_phase : List ℕ → Data → Result ℕ DocFault
read_phase at d = whole_at 1 17 at d

-- The mode that the value at a path encodes, with its load and phases, or the first broken rule. The mode must not be
-- among the modes `done`.
abbrev pub read_mode : ℕ → List ℕ → List ModeSpec → Data → Result ModeSpec DocFault
read_mode kind at done d =
    chain (exactly_five_at (codes "mode") (codes "load") (codes "halt") (codes "prepare") (codes "init") at d)
    (λ (m : Data × Data × Data × Data × Data).
    chain (read_new_mode kind done (member_path at (codes "mode")) m.0) (λ (mode : ℕ).
    chain (whole_at 0 1000001 (member_path at (codes "load")) m.1) (λ (load : ℕ).
    chain (read_phase (member_path at (codes "halt")) m.2) (λ (halt : ℕ).
    chain (read_phase (member_path at (codes "prepare")) m.3) (λ (prepare : ℕ).
    chain (read_phase (member_path at (codes "init")) m.4) (λ (init : ℕ).
    Ok (record { mode = record { 0 = mode }; load = load; halt = halt; prepare = prepare; init = init })))))))

-- The 1 to 3 modes that an application lists, or the first broken rule.
abbrev pub read_modes : ℕ → List ℕ → Data → Result (List ModeSpec) DocFault
read_modes kind at d = elements_at (read_mode kind) 1 3 at d

-- The kind of application that the text at a path names, or the first broken rule.
abbrev pub read_kind : List ℕ → Data → Result ℕ DocFault
read_kind at d = chain (text_at at d) (λ (text : List ℕ). or_broken UNKNOWN_KIND at (number_in kind_names text))

-- `Ok` if the value at a path is a text, else the first broken rule.
abbrev pub check_text : List ℕ → ⊤ → Data → Result ⊤ DocFault
check_text at made d = chain (text_at at d) (λ (_ : List ℕ). Ok tt)

-- `Ok` if the value at a path is a list of 0 to 8 texts, else the first broken rule.
abbrev pub check_text_list : List ℕ → Data → Result ⊤ DocFault
check_text_list at d = chain (list_at 0 8 at d) (λ (ds : Items). folded_from check_text at 0 tt ds)

-- The application that the value at a path encodes, without its needs and its rank, or the first broken rule. No
-- application of `done` may have its name.
abbrev pub read_app : List ℕ → List AppSpec → Data → Result AppSpec DocFault
read_app at done d =
    chain (exactly_four_at (codes "name") (codes "kind") (codes "needs") (codes "modes") at d)
    (λ (m : Data × Data × Data × Data).
    chain (read_new_name name_of_app done (member_path at (codes "name")) m.0) (λ (name : List ℕ).
    chain (read_kind (member_path at (codes "kind")) m.1) (λ (kind : ℕ).
    chain (check_text_list (member_path at (codes "needs")) m.2) (λ (_ : ⊤).
    chain (read_modes kind (member_path at (codes "modes")) m.3) (λ (modes : List ModeSpec).
    Ok (record { name = name; kind = record { 0 = kind }; needs = []; modes = modes; rank = 0 }))))))
