use Rattle.std.proofs.Common.{rules, ◌≡◌, ◌≤◌, length}
use Rattle.std.specs.Prelude.{Ok}
use Rattle.scram_doc.specs.Lists.{AllAfter}
use Rattle.spec_reading.specs.TableFacts.{IsNewConf}
use Rattle.spec_reading.specs.Facts.{IsNewFactor}
use Rattle.spec_reading.proofs.Distinct.{kept}
use Rattle.spec_reading.proofs.reading.read_more_names.Goals as goal

pub invariant_of-result : goal.invariant_of-result
invariant_of-result c =
    let procs = c.args.procs in
    let apps = c.args.apps in
    let confs = c.in_ok-confs.confs in
    let factors = c.in_ok-factors.factors in
    let confs_least : 1 ≤ length confs = search rules in
    let confs_few : length confs ≤ 12 = search rules in
    let confs_read : c.read_confs.result ≡ Ok confs = search rules in
    let confs_fit : AllAfter (IsNewConf procs apps) confs =
    kept (AllAfter (IsNewConf procs apps)) c.read_confs.result confs confs_read c.read_confs.ensures.fits in
    let factors_few : length factors ≤ 6 = search rules in
    let factors_read : c.read_factors.result ≡ Ok factors = search rules in
    let factors_fit : AllAfter IsNewFactor factors =
    kept (AllAfter IsNewFactor) c.read_factors.result factors factors_read c.read_factors.ensures.fits in
    record {
      procs_count = c.requires.procs_count;
      procs_fit = c.requires.procs_fit;
      apps_fit = c.requires.apps_fit;
      confs_count = record { enough = confs_least; few = confs_few };
      confs_fit = confs_fit;
      factors_count = record { enough = search rules; few = factors_few };
      factors_fit = factors_fit;
      few_values = λ f factor there. (factors_fit f factor there).count.few;
    }
