use Rattle.std.proofs.Common.{refl, sym}
use Rattle.std.proofs.lemmas.Option.{slice_get_past}
use Rattle.scram_types.proofs.Naturals.{not_below}
use Rattle.scram_types.proofs.Placed.{read_within}
use Rattle.condition_breaks.proofs.demands.missed_at.Goals as goal

pub returns-in_err-first : goal.returns-in_err-first
returns-in_err-first c = rw (slice_get_past c.args.found.now c.args.k (not_below _ _ (sym c.in_err-first.ensures.lookup.0))) c.from_residual.ensures

pub returns-in_err-env : goal.returns-in_err-env
returns-in_err-env c =
    let there = read_within c.args.found.now c.args.k c.in_ok-first.first.now c.in_ok-first.ensures.lookup.0 c.in_ok-first.ensures.lookup.1 in
    rw (there, c.in_err-env.was) c.from_residual-in_err-env.ensures

pub returns : goal.returns
returns c =
    let there = read_within c.args.found.now c.args.k c.in_ok-first.first.now c.in_ok-first.ensures.lookup.0 c.in_ok-first.ensures.lookup.1 in
    rw (there, c.in_ok-env.was) refl
