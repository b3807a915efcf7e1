use Rattle.std.proofs.Common.{◌≡◌, ◌∙◌, length, refl, sym}
use Rattle.std.specs.Prelude.{None, Some, find, slice_get}
use Rattle.std.proofs.lemmas.Option.{slice_get_read}
use Rattle.scram_types.specs.declared.ids.AppId.{AppId}
use Rattle.dep_order.specs.Ranking.{is_unranked}
use Rattle.dep_order.proofs.Walks.{found_at, is_without, someone_waits}
use Rattle.dep_order.proofs.ranks.wait_of.Goals as goal

pub unreachable-requires : goal.unreachable-requires
unreachable-requires c =
    let there : slice_get c.args.apps.now c.args.a.0 ≡ Some c.index-apps-from.result =
    rw (← c.from.ensures) (slice_get_read c.args.apps.now (length c.args.apps.now) c.from.result c.index-apps-from.result refl (rw (c.from.ensures) c.requires.waiting.there) c.index-apps-from.is) in
    let none : find (λ (n : AppId). is_unranked c.args.ranks.now n.0) c.items.result.now ≡ None = sym c.find_waiting.ensures ∙ c.in-None.is in
    let none_needed = rw (c.items.ensures, ← c.index-apps-from.is) at none in
    someone_waits c.args.ranks.now c.index-apps-from.result.needs 0 none_needed
    (c.requires.stuck c.args.a.0 c.index-apps-from.result there c.requires.waiting.unranked)

pub returns-clause-needs : goal.returns-clause-needs
returns-clause-needs c =
    let there : slice_get c.args.apps.now c.args.a.0 ≡ Some c.index-apps-from.result =
    rw (← c.from.ensures) (slice_get_read c.args.apps.now (length c.args.apps.now) c.from.result c.index-apps-from.result refl (rw (c.from.ensures) c.requires.waiting.there) c.index-apps-from.is) in
    let some : find (λ (n : AppId). is_unranked c.args.ranks.now n.0) c.items.result.now ≡ Some c.in-Some.needed = sym c.find_waiting.ensures ∙ c.in-Some.is in
    let some_needed = rw (c.items.ensures, ← c.index-apps-from.is) at some in
    let found = found_at (λ (n : AppId). is_unranked c.args.ranks.now n.0) c.index-apps-from.result.needs c.in-Some.needed some_needed in
    record { app = c.index-apps-from.result; there = there; place = found.0; named = found.1 }

pub returns-clause-waiting : goal.returns-clause-waiting
returns-clause-waiting c =
    let there : slice_get c.args.apps.now c.args.a.0 ≡ Some c.index-apps-from.result =
    rw (← c.from.ensures) (slice_get_read c.args.apps.now (length c.args.apps.now) c.from.result c.index-apps-from.result refl (rw (c.from.ensures) c.requires.waiting.there) c.index-apps-from.is) in
    let some : find (λ (n : AppId). is_unranked c.args.ranks.now n.0) c.items.result.now ≡ Some c.in-Some.needed = sym c.find_waiting.ensures ∙ c.in-Some.is in
    let some_needed = rw (c.items.ensures, ← c.index-apps-from.is) at some in
    let found = found_at (λ (n : AppId). is_unranked c.args.ranks.now n.0) c.index-apps-from.result.needs c.in-Some.needed some_needed in
    record {
      there = c.requires.needs c.args.a.0 c.index-apps-from.result there found.0 c.in-Some.needed found.1;
      unranked = is_without c.args.ranks.now c.in-Some.needed.0 found.2;
    }
