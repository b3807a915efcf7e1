use Rattle.std.proofs.Common.{refl, sym}
use Rattle.std.proofs.lemmas.Option.{slice_get_past}
use Rattle.scram_types.proofs.Naturals.{not_below}
use Rattle.scram_types.proofs.Placed.{read_within}
use Rattle.trace_props.proofs.kept.breaks_at.Goals as goal

pub returns-in-Some : goal.returns-in-Some
returns-in-Some c =
    rw (read_within c.args.rows.now c.args.frame c.in-Some.row.now c.in-Some.ensures.lookup.0 c.in-Some.ensures.lookup.1) c.breaks_invariant.ensures

pub returns-in-None : goal.returns-in-None
returns-in-None c = rw (slice_get_past c.args.rows.now c.args.frame (not_below _ _ (sym c.in-None.ensures.lookup.0))) refl
