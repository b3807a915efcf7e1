use Rattle.std.proofs.Common.{subst, sym}
use Rattle.scram_types.specs.Lookups.{conf_id}
use Rattle.cube_cover.specs.Shares.{AreShares}
use Rattle.cube_cover.proofs.Listed.{each_more, length_more}
use Rattle.spec_forms.proofs.choice_forms.tables.find_shares.Goals as goal

pub loop-i-preserved : goal.loop-i-preserved
loop-i-preserved c = record {
  width = length_more c.loop-i.shares.items c.push.new.self.items c.loop-i.i c.of.result c.in_ok-push.ensures.items c.loop-i.invariant.width;
  each = each_more (λ k found. AreShares c.args.spec.now (conf_id k) found) c.loop-i.shares.items c.push.new.self.items c.loop-i.i c.of.result c.in_ok-push.ensures.items
      c.loop-i.invariant.width c.loop-i.invariant.each (subst (AreShares c.args.spec.now (conf_id c.loop-i.i)) (sym c.of.ensures) c.in_ok-shares_of.ensures);
}
