use Rattle.std.proofs.Common.{◌≡◌, ◌∙◌, ℕ, ap, false, length, refl, sym, true}
use Rattle.scram_types.specs.Bits.{has_bit}
use Rattle.scram_types.specs.Lookups.{conf_id}
use Rattle.scram_types.proofs.BitSets.{has_bits}
use Rattle.coverage_check.specs.Timing.{is_target}
use Rattle.condition_breaks.proofs.ranges.is_other_target.Goals as goal

pub returns-then-is_in : goal.returns-then-is_in
returns-then-is_in c =
    let is = c.is_in.ensures ∙ ap (λ (set : ℕ). has_bit set c.args.j) c.requires.set ∙ has_bits (is_target c.args.spec.now (conf_id c.args.i)) (length c.args.spec.now.confs) c.args.j c.requires.inside in
    let target : is_target c.args.spec.now (conf_id c.args.i) c.args.j ≡ true = sym is ∙ c.if-is_in.true in
    rw target refl

pub returns-else-is_in : goal.returns-else-is_in
returns-else-is_in c =
    let is = c.is_in.ensures ∙ ap (λ (set : ℕ). has_bit set c.args.j) c.requires.set ∙ has_bits (is_target c.args.spec.now (conf_id c.args.i)) (length c.args.spec.now.confs) c.args.j c.requires.inside in
    let target : is_target c.args.spec.now (conf_id c.args.i) c.args.j ≡ false = sym is ∙ c.if-is_in.false in
    rw target c.if-is_in.false
