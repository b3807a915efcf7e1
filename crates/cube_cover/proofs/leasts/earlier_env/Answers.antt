use Rattle.std.proofs.Common.{refl}
use Rattle.scram_types.proofs.Naturals.{above_test, at_most_test}
use Rattle.cube_cover.proofs.leasts.earlier_env.Goals as goal

pub returns-then-number_of : goal.returns-then-number_of
returns-then-number_of c =
    let test = at_most_test c.number_of.result c.number_of-in-Some-Some.result c.if-number_of.true in
    rw (c.in-Some-Some.is-0, c.in-Some-Some.is-1, ← c.number_of.ensures.number, ← c.number_of-in-Some-Some.ensures.number, test) refl

pub returns-else-number_of : goal.returns-else-number_of
returns-else-number_of c =
    let test = above_test c.number_of.result c.number_of-in-Some-Some.result c.if-number_of.false in
    rw (c.in-Some-Some.is-0, c.in-Some-Some.is-1, ← c.number_of.ensures.number, ← c.number_of-in-Some-Some.ensures.number, test) refl
