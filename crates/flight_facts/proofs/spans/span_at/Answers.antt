use Rattle.std.proofs.Common.{◌≡◌, ◌+◌, ◌-◌, arith, drop, length, sym, take, length-drop}
use Rattle.std.proofs.lemmas.Bool.{ltb-false}
use Rattle.std.proofs.lemmas.List.{take_all}
use Rattle.std.proofs.lemmas.Option.{slice_get_past}
use Rattle.scram_types.proofs.Placed.{read_within}
use Rattle.flight_facts.proofs.spans.span_at.Goals as goal

pub returns-then-is_new : goal.returns-then-is_new
returns-then-is_new c =
    let there = read_within c.args.rows.now c.args.k c.in-Some.row.now c.in-Some.ensures.lookup.0 c.in-Some.ensures.lookup.1 in
    let rest = drop (c.args.k + 1) c.args.rows.now in
    let all : take (length c.args.rows.now - (c.args.k + 1)) rest ≡ rest = take_all _ rest (omega (arith, length-drop (c.args.k + 1) c.args.rows.now)) in
    rw (there, ← c.row_before.ensures, ← c.is_new.ensures, c.if-is_new.true, c.alike_rows.ensures.value, all)

pub returns-else-is_new : goal.returns-else-is_new
returns-else-is_new c =
    let there = read_within c.args.rows.now c.args.k c.in-Some.row.now c.in-Some.ensures.lookup.0 c.in-Some.ensures.lookup.1 in
    rw (there, ← c.row_before.ensures, ← c.is_new.ensures, c.if-is_new.false)

pub returns-in-None : goal.returns-in-None
returns-in-None c = rw (slice_get_past c.args.rows.now c.args.k (ltb-false c.args.k (length c.args.rows.now) (sym c.in-None.ensures.lookup.0)))
