use Rattle.std.proofs.Common.{ℕ, Bool, ◌&&◌, ◌||◌, not, drop}
use Rattle.std.specs.List.{list_any}
use Rattle.choice_table.specs.Choices.{has_rule, rule_fits}
use Rattle.cube_cover.specs.Cubes.{Agree, is_in}
use Rattle.cube_cover.specs.Regions.{is_marked, is_ruled}
use Rattle.cube_cover.proofs.regions.regions_of.Given as goal

abbrev pub invariant-loop-rule : goal.invariant-loop-rule
invariant-loop-rule l = record {
  targets : (passes : ℕ → Bool) → Agree l.spec (λ v. is_marked l.ruled.items passes v || (is_in l.open.items v && is_ruled (drop l.rule-index l.spec.rules) l.c passes v))
      (λ v. is_in l.fn.cubes.items v && is_ruled l.spec.rules l.c passes v);
  rest : Agree l.spec (λ v. is_in l.open.items v && not (list_any (rule_fits l.c v) (drop l.rule-index l.spec.rules)))
      (λ v. is_in l.fn.cubes.items v && not (has_rule l.spec l.c v));
}
