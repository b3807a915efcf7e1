-- The facts from other crates on which the theorems on missions rest.
use Rattle.choice_table.specs.Laws.{RunsWherePlacesAreUp}
use Rattle.dep_order.specs.Timetables.{PhasesEndInTime}
use Rattle.app_model.specs.Areas.{AllTablesNarrow, LawLiesAfterInit, LawLiesDuring, StartLiesAfterInit}
use Rattle.fault_script.specs.Laws.{EnvironmentsShow, LossesShow}
use Rattle.frame_model.specs.Laws.{ReadsRowByRow}

-- The laws of the other crates on choices, phase times, scripts, rows and the kinds of applications hold.
pub record IsKnown : Type 0 where
  pub runs_up : RunsWherePlacesAreUp
  pub timed : PhasesEndInTime
  pub show : EnvironmentsShow
  pub losses : LossesShow
  pub by_row : ReadsRowByRow
  pub during : LawLiesDuring
  pub initialised : LawLiesAfterInit
  pub starts : StartLiesAfterInit
  pub narrow : AllTablesNarrow
