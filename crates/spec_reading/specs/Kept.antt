-- Facts about the applications of a document, their needs and their ranks.
use Rattle.std.specs.Prelude.{List, map, ◌≡◌, ℕ, Bool, false, is_some}
use Rattle.scram_types.specs.declared.specification.AppSpec.{AppSpec}
use Rattle.scram_types.specs.Specification.{AreSpelled, HasLength, Each, NamesDiffer, IsAppSpec, mode_in}
use Rattle.dep_order.specs.Ranks.{IsRanking}
use Rattle.spec_reading.specs.Names.{name_of_app}
use Rattle.scram_doc.specs.Lists.{AllAfter}
use Rattle.scram_types.specs.declared.ids.AppId.{AppId}
use Rattle.scram_types.specs.declared.specification.ModeSpec.{ModeSpec}
use Rattle.dep_order.specs.Timetables.{is_named}

-- No element is among the elements before it. `stands done x` tests whether `x` is among `done`.
abbrev pub NoDuplicates : {A : Type 0} → (List A → A → Bool) → List A → Type 0
NoDuplicates {A} stands xs = AllAfter (λ (done : List A) (x : A). stands done x ≡ false) xs

-- Whether a mode is among the modes listed before it.
abbrev pub lists_mode : List ModeSpec → ModeSpec → Bool
lists_mode done listed = is_some (mode_in done listed.mode.0)

-- Whether an application is among the needs listed before it.
abbrev pub lists_need : List AppId → AppId → Bool
lists_need done need = is_named done need.0

-- The rank of an application.
abbrev pub rank_of : AppSpec → ℕ
rank_of app = app.rank

-- An application needs no application twice and lists no mode twice.
pub record IsWritableApp (app : AppSpec) : Type 0 where
  pub needs : NoDuplicates lists_need app.needs
  pub modes : NoDuplicates lists_mode app.modes

-- There are 1 to 8 applications, and their names differ. Each application is valid, has a valid name, and lists no
-- need and no mode twice. Each application has the rank that the needs determine.
pub record AreApps (apps : List AppSpec) : Type 0 where
  pub count : HasLength 1 8 apps
  pub differ : NamesDiffer name_of_app apps
  pub each : Each (IsAppSpec apps) apps
  pub spelled : AreSpelled name_of_app apps
  pub writable : Each IsWritableApp apps
  pub ranks : IsRanking apps (map rank_of apps)
