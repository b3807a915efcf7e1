use Rattle.std.proofs.Common.{◌≡◌, arith, refl, suc, sym, ◌∙◌}
use Rattle.scram_types.proofs.Placed.{read_within}
use Rattle.trace_props.proofs.kept.unmet_at.Goals as goal

pub returns-then-unmet_in : goal.returns-then-unmet_in
returns-then-unmet_in c =
    let after : c.args.read.end ≡ suc c.in_ok-frame.frame = omega (arith, c.in_ok-frame.ensures) in
    let there = read_within c.args.rows.now c.in_ok-frame.frame c.in_ok-row.row.now c.in_ok-row.ensures.lookup.0 c.in_ok-row.ensures.lookup.1 in
    rw (after, there, sym c.unmet_in.ensures ∙ c.if-unmet_in.true) refl

pub returns-else-unmet_in : goal.returns-else-unmet_in
returns-else-unmet_in c =
    let after : c.args.read.end ≡ suc c.in_ok-frame.frame = omega (arith, c.in_ok-frame.ensures) in
    let there = read_within c.args.rows.now c.in_ok-frame.frame c.in_ok-row.row.now c.in_ok-row.ensures.lookup.0 c.in_ok-row.ensures.lookup.1 in
    rw (after, there, sym c.unmet_in.ensures ∙ c.if-unmet_in.false) refl
