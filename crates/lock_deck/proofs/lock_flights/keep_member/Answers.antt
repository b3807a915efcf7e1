use Rattle.std.proofs.Common.{◌≡◌, rules}
use Rattle.std.specs.Prelude.{Some}
use Rattle.lock_deck.proofs.Lists.{kept}
use Rattle.lock_deck.specs.Members.{MemberFits}
use Rattle.lock_deck.proofs.lock_flights.keep_member.Goals as goal

pub returns-in-Some-clause-fits : goal.returns-in-Some-clause-fits
returns-in-Some-clause-fits g c = λ mission one all.
    let some : c.args.member ≡ Some c.in-Some.member = search rules in
    rw c.push_reserved.ensures.items (kept (MemberFits mission) c.args.kept.now.items c.args.member c.in-Some.member some one all)
