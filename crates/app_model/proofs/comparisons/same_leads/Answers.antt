use Rattle.std.proofs.Common.{rules, ◌≡◌}
use Rattle.std.specs.Bool.{Decides}
use Rattle.app_model.proofs.Equality.{leads_same}
use Rattle.app_model.proofs.comparisons.same_leads.Goals as goal

pub returns : goal.returns
returns c = let d : Decides c.eq.result (c.args.a.now ≡ c.args.b.now) = leads_same _ _ _ c.eq.ensures in search rules
