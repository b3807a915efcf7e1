use Rattle.std.proofs.Common.{rules, ◌≡◌, ◌∙◌, ◌∷◌, ◌++◌, [], ◌+◌, ◌<◌, ap, arith, length, subst, sym}
use Rattle.std.proofs.lemmas.List.{length-append}
use Rattle.std.specs.Prelude.{Some, map}
use Rattle.fail_stop.specs.Events.{At}
use Rattle.fail_stop.specs.Flyers.{IsFlyerAt, unit_rack}
use Rattle.fail_stop.proofs.FlyersAt.{all_taken, each_pushed, opening_flyer, taken_more}
use Rattle.fail_stop.proofs.flyers.make_flyers.Goals as goal

pub loop-p-preserved : goal.loop-p-preserved
loop-p-preserved g c =
    let at = c.loop-p in
    let pushed : c.push.new.self.items ≡ at.flyers.items ++ c.new.result ∷ [] = c.in_ok-push.ensures.items in
    let long : length (at.flyers.items ++ c.new.result ∷ []) ≡ length at.flyers.items + 1 = length-append at.flyers.items (c.new.result ∷ []) in
    record {
      racks_left = omega (arith, at.invariant.racks_left, c.next_rack-rack.ensures.fewer);
      spares_left = omega (arith, at.invariant.spares_left, c.next_rack-spare.ensures.fewer);
      racks_taken = rw pushed (taken_more (λ flyer. unit_rack flyer.unit) at.flyers.items c.new.result _ _ (ap unit_rack c.new.ensures.unit) (ap (map Some) c.next_rack-rack.ensures.first) ∙ at.invariant.racks_taken);
      spares_taken = rw pushed (taken_more (λ flyer. flyer.spare) at.flyers.items c.new.result _ _ c.new.ensures.spare (ap (map Some) c.next_rack-spare.ensures.first) ∙ at.invariant.spares_taken);
      made = search rules;
      each = λ m. rw pushed (λ k none low. each_pushed (λ k flyer. IsFlyerAt m k (At 0 0) flyer) at.flyers.items c.new.result
          (opening_flyer m (length at.flyers.items) c.new.result _ _ _ c.new.ensures.unit c.new.ensures.spare (sym at.invariant.made)) (at.invariant.each m) k none (subst (λ n. k < n) long low));
    }

pub returns-clause-racks : goal.returns-clause-racks
returns-clause-racks g c =
    let left : c.loop-p.racks.rest.len ≡ 0 = omega (arith, c.loop-p.invariant.racks_left, c.loop-p-test.false) in
    let none : length c.loop-p.racks.rest.items ≡ 0 = search (rules, left) in
    all_taken _ c.loop-p.racks.rest.items Some _ none c.loop-p.invariant.racks_taken

pub returns-clause-spares : goal.returns-clause-spares
returns-clause-spares g c =
    let left : c.loop-p.spares.rest.len ≡ 0 = omega (arith, c.loop-p.invariant.spares_left, c.loop-p-test.false) in
    let none : length c.loop-p.spares.rest.items ≡ 0 = search (rules, left) in
    all_taken _ c.loop-p.spares.rest.items Some _ none c.loop-p.invariant.spares_taken
