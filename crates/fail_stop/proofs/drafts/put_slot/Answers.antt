use Rattle.std.proofs.Common.{◌≡◌, ℕ, rules, arith, length, subst}
use Rattle.fail_stop.proofs.Joining.{IsPut, all_put}
use Rattle.fail_stop.proofs.drafts.put_slot.Goals as goal

pub returns : goal.returns
returns c =
    let last : c.loop-i.i ≡ 8 = omega arith in
    let long : length c.args.area.now ≡ 8 = search rules in
    record {
      slots = all_put c.args.a c.args.area.now c.args.image.now c.loop-i.image long (subst (λ (n : ℕ). IsPut c.args.a n c.args.area.now c.args.image.now c.loop-i.image) last c.loop-i.invariant);
    }

pub loop-i-preserved : goal.loop-i-preserved
loop-i-preserved c = search rules
