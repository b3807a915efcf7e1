-- Facts about applications, their modes and their needs while they are read.
use Rattle.std.specs.Prelude.{◌≡◌, ◌<◌, ◌≤◌, ℕ, false, List, length, None}
use Rattle.scram_types.specs.declared.ids.AppId.{AppId}
use Rattle.scram_types.specs.declared.specification.ModeSpec.{ModeSpec}
use Rattle.scram_types.specs.declared.specification.AppSpec.{AppSpec}
use Rattle.scram_types.specs.Specification.{IsModeSpec, HasLength, mode_in}
use Rattle.scram_doc.specs.Lists.{AllAfter}
use Rattle.spec_reading.specs.Names.{name_of_app}
use Rattle.dep_order.specs.Timetables.{is_named}
use Rattle.spec_reading.specs.Facts.{IsFresh}

-- The mode is not among the modes before it. If the kind exists, the mode is a valid mode of the kind.
pub record IsNewMode (kind : ℕ) (done : List ModeSpec) (mode : ModeSpec) : Type 0 where
  pub new : mode_in done mode.mode.0 ≡ None
  pub is : kind < 6 → IsModeSpec kind mode

-- An application has a valid kind, different modes, and a name that no application before it has. Its needs are not
-- checked.
pub record IsNewApp (done : List AppSpec) (app : AppSpec) : Type 0 where
  pub name : IsFresh name_of_app done app.name
  pub kind : app.kind.0 < 6
  pub count : HasLength 1 3 app.modes
  pub modes : AllAfter (IsNewMode app.kind.0) app.modes

-- A needed application exists and is not among the needs before it.
pub record IsNewNeed (apps : List AppSpec) (done : List AppId) (need : AppId) : Type 0 where
  pub new : is_named done need.0 ≡ false
  pub there : need.0 < length apps

-- The needs of an application are at most eight different applications that exist.
pub record AreNeeds (apps : List AppSpec) (needs : List AppId) : Type 0 where
  pub few : length needs ≤ 8
  pub each : AllAfter (IsNewNeed apps) needs
