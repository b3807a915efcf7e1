-- The processors, applications, configurations and factors of a document. The other parts of the document refer to
-- them by name.
use Rattle.std.specs.Prelude.{List}
use Rattle.scram_types.specs.declared.specification.Proc.{Proc}
use Rattle.scram_types.specs.declared.specification.AppSpec.{AppSpec}
use Rattle.scram_types.specs.declared.specification.Conf.{Conf}
use Rattle.scram_types.specs.declared.specification.Factor.{Factor}
use Rattle.scram_types.specs.Specification.{HasLength}
use Rattle.scram_doc.specs.Lists.{AllAfter}
use Rattle.spec_reading.specs.Facts.{IsNewProc, IsNewFactor, FewValues}
use Rattle.spec_reading.specs.TableFacts.{IsNewConf}
use Rattle.spec_reading.specs.Kept.{AreApps}

-- The processors, applications, configurations and factors of a document.
pub record Names : Type 0 where
  pub procs : List Proc
  pub apps : List AppSpec
  pub confs : List Conf
  pub factors : List Factor

-- The numbers of processors, applications, configurations and factors are within their limits, and each item is valid
-- and has a new name.
pub record AreNames (procs : List Proc) (apps : List AppSpec) (confs : List Conf) (factors : List Factor) : Type 0 where
  pub procs_count : HasLength 1 8 procs
  pub procs_fit : AllAfter IsNewProc procs
  pub apps_fit : AreApps apps
  pub confs_count : HasLength 1 12 confs
  pub confs_fit : AllAfter (IsNewConf procs apps) confs
  pub factors_count : HasLength 0 6 factors
  pub factors_fit : AllAfter IsNewFactor factors
  pub few_values : FewValues factors
