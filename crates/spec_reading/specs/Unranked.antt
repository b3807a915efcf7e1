-- Facts about applications that have no rank yet.
use Rattle.std.specs.Prelude.{◌<◌, ◌≤◌, ℕ, List, length, IsTrue}
use Rattle.scram_types.specs.declared.ids.AppId.{AppId}
use Rattle.scram_types.specs.declared.specification.AppSpec.{AppSpec}
use Rattle.scram_types.specs.Names.{is_name}
use Rattle.scram_types.specs.Specification.{HasLength, Each, NamesDiffer, IsModeSpec}
use Rattle.spec_reading.specs.Names.{name_of_app}
use Rattle.spec_reading.specs.Kept.{IsWritableApp}

-- The application is valid, apart from its rank. Its needs are among the first `count` applications.
pub record IsUnranked (count : ℕ) (app : AppSpec) : Type 0 where
  pub kind : app.kind.0 < 6
  pub few_needs : length app.needs ≤ 8
  pub needs : Each (λ (need : AppId). need.0 < count) app.needs
  pub modes_count : HasLength 1 3 app.modes
  pub modes : Each (IsModeSpec app.kind.0) app.modes
  pub spelled : IsTrue (is_name app.name)
  pub writable : IsWritableApp app

-- There are 1 to 8 applications, their names differ, and each application is valid, apart from its rank.
pub record AreUnranked (apps : List AppSpec) : Type 0 where
  pub count : HasLength 1 8 apps
  pub differ : NamesDiffer name_of_app apps
  pub each : Each (IsUnranked (length apps)) apps
