use Rattle.std.proofs.Common.{◌≡◌, arith, subst}
use Rattle.std.specs.Prelude.{Some, slice_get}
use Rattle.std.proofs.lemmas.Option.{slice_get-get_or}
use Rattle.scram_types.specs.Specification.{IsBound, IsSpec}
use Rattle.scram_types.proofs.Placed.{read_within}
use Rattle.idle_parts.proofs.texts.add_bound_at.Goals as goal
use Rattle.idle_parts.proofs.texts.add_bound_at.Goals.{In-Some}

is_spec : (c : In-Some) → IsSpec c.args.spec.now
is_spec c = subst IsSpec c.spec.view_is c.spec.invariant

there : (c : In-Some) → slice_get c.args.spec.now.bounds c.args.k ≡ Some c.in-Some.bound.now
there c = rw (← c.spec.view_is, ← c.items.ensures, ← c.from.ensures) (read_within c.items.result.now c.from.result c.in-Some.bound.now c.in-Some.ensures.lookup.0 c.in-Some.ensures.lookup.1)

is_bound : (c : In-Some) → IsBound c.args.spec.now.confs c.in-Some.bound.now
is_bound c = (is_spec c).bounds c.args.k c.in-Some.bound.now (there c)

pub bounds-sets-from : goal.bounds-sets-from
bounds-sets-from c = let at = (goal.at.bounds-sets-from c).In-Some in omega (arith, (is_bound at).from, (is_spec at).confs_count.few, c.from-in-Some.ensures)

pub add_bound-requires-clause-set : goal.add_bound-requires-clause-set
add_bound-requires-clause-set c =
    let at = (goal.at.add_bound-requires-clause-set c).In-Some in
    let from = c.in-Some.bound.now.from.0 in
    rw (c.from-in-Some.ensures) (c.requires from _ (is_bound at).from (slice_get-get_or c.args.sets.now from 0 (omega (arith, (is_bound at).from, (is_spec at).confs_count.few))))

pub add_bound-requires-clause-to : goal.add_bound-requires-clause-to
add_bound-requires-clause-to c = (is_bound (goal.at.add_bound-requires-clause-to c).In-Some).to

pub add_bound-requires-clause-few : goal.add_bound-requires-clause-few
add_bound-requires-clause-few c = let at = (goal.at.add_bound-requires-clause-few c).In-Some in omega (arith, (is_bound at).to, (is_spec at).confs_count.few)

pub returns-in-Some : goal.returns-in-Some
returns-in-Some c = rw (there (goal.at.returns-in-Some c).In-Some) c.add_bound.ensures
