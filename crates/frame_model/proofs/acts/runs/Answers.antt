use Rattle.std.proofs.Common.{◌≡◌, ◌∙◌, sym, ap, arith, false, length}
use Rattle.scram_types.specs.Specification.{Parts}
use Rattle.scram_types.specs.Lookups.{place_of}
use Rattle.scram_types.proofs.Searches.{all_false}
use Rattle.frame_model.specs.Runs.{act_at, is_run_by}
use Rattle.frame_model.proofs.acts.runs.Goals as goal

pub returns-then-not-is_run : goal.returns-then-not-is_run
returns-then-not-is_run c =
    let count = ap length c.items.ensures in
    let whole = ap (λ (s : Parts). length s.apps) c.spec.view_is in
    let fails : is_run_by (place_of c.args.spec.now c.args.c c.loop-a.a) (act_at c.args.acts.now c.loop-a.a) ≡ false =
    rw (← c.place_of.ensures.place, ← c.act_of.ensures) (sym c.is_run.ensures ∙ c.if-not-is_run.true) in
    sym (all_false (λ a. is_run_by (place_of c.args.spec.now c.args.c a) (act_at c.args.acts.now a)) (length c.args.spec.now.apps) c.loop-a.a (omega arith) fails)
