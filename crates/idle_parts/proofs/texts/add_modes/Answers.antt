use Rattle.std.proofs.Common.{◌≡◌, ℕ, ◌+◌, ◌<◌, List, ◌++◌, ◌∙◌, length, drop, get_or, append_assoc, ap, sym}
use Rattle.std.proofs.lemmas.List.{at_drop_more}
use Rattle.scram_types.specs.Specification.{Parts}
use Rattle.scram_types.specs.declared.specification.ModeSpec.{ModeSpec}
use Rattle.idle_parts.specs.Texts.{idle_modes_text, mode_line}
use Rattle.idle_parts.proofs.texts.add_modes.Goals as goal

next_mode : (spec : Parts) (a : ℕ) (modes : List ModeSpec) (i : ℕ) (d : ModeSpec) (all before after : List ℕ) → i < length modes → before ++ idle_modes_text spec a (drop i modes) ≡ all
    → after ≡ before ++ mode_line spec a (get_or modes i d) → after ++ idle_modes_text spec a (drop (i + 1) modes) ≡ all
next_mode spec a modes i d all before after below so_far added =
    ap (λ (text : List ℕ). text ++ idle_modes_text spec a (drop (i + 1) modes)) added
    ∙ append_assoc before (mode_line spec a (get_or modes i d)) (idle_modes_text spec a (drop (i + 1) modes))
    ∙ ap (λ (rest : List ℕ). before ++ rest) (sym (at_drop_more (idle_modes_text spec a) modes i d below)) ∙ so_far

pub loop-listed-preserved : goal.loop-listed-preserved
loop-listed-preserved c =
    next_mode c.args.spec.now c.args.app.0 c.args.modes.now c.loop-listed.listed-index _ _ _ _ c.loop-listed-test.true c.loop-listed.invariant c.in_ok-add_mode.ensures
