use Rattle.std.proofs.Common.{sym, ◌∙◌}
use Rattle.scram_types.proofs.Naturals.{not_below}
use Rattle.std.proofs.lemmas.Option.{slice_get_past}
use Rattle.scram_types.proofs.Placed.{read_within}
use Rattle.picture_form.proofs.spans.make_span.Goals as goal

pub returns-in-Some-span_at : goal.returns-in-Some-span_at
returns-in-Some-span_at c =
    let there = read_within c.args.rows.now c.args.k c.in-Some.row.now c.in-Some.ensures.lookup.0 c.in-Some.ensures.lookup.1 in
    rw (sym c.span_at.ensures ∙ c.in-Some-span_at.is, there) c.make_lane_span.ensures

pub returns-in-None-span_at : goal.returns-in-None-span_at
returns-in-None-span_at c =
    let there = read_within c.args.rows.now c.args.k c.in-Some.row.now c.in-Some.ensures.lookup.0 c.in-Some.ensures.lookup.1 in
    rw (sym c.span_at.ensures ∙ c.in-None-span_at.is, there) c.new.ensures

pub returns-in-None : goal.returns-in-None
returns-in-None c = rw (slice_get_past c.args.rows.now c.args.k (not_below _ _ (sym c.in-None.ensures.lookup.0))) c.new-in-None.ensures
