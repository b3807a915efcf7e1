use Rattle.std.proofs.Common.{◌≡◌, ◌∙◌, ◌<◌, ℕ, List, ap, sym, subst, length, slice_index_or}
use Rattle.scram_types.specs.Scripts.{ScriptParts}
use Rattle.fail_stop.specs.Laws.{IsOpening}
use Rattle.fail_stop.specs.Openings.{opening_list}
use Rattle.fail_stop.proofs.OpeningLists.{list_opens, opening_long}
use Rattle.kernel_pair.specs.Openings.{IsUnitOpened}
use Rattle.kernel_pair.specs.States.{blank_unit, stand_place}
use Rattle.kernel_pair.proofs.Opened.{opening_by}
use Rattle.kernel_pair.proofs.openings.opening_state.Goals as goal

pub processors_opened-requires : goal.processors_opened-requires
processors_opened-requires c = ap length (c.deref.ensures.value ∙ c.in_ok-words.ensures) ∙ opening_long _ _ _ _

pub returns-clause-opening : goal.returns-clause-opening
returns-clause-opening c =
    let spec = c.args.spec.now in
    let script = c.args.script.now in
    let listed : c.deref.result.now ≡ opening_list script.frames c.args.first.now c.start.result.areas c.start.result.keepers =
    c.deref.ensures.value ∙ c.in_ok-words.ensures ∙ ap (λ (s : ScriptParts). opening_list s.frames c.args.first.now c.start.result.areas c.start.result.keepers) c.script.view_is in
    let opening : IsOpening spec script c.deref.result.now = subst (λ (list : List ℕ). IsOpening spec script list) (sym (rw (c.requires.first, c.start.ensures) at listed)) (list_opens spec script c.requires.facts) in
    let units : (u : ℕ) → u < 2 → IsUnitOpened script.frames c.args.first.now (slice_index_or c.units_opened.result u blank_unit) =
    subst (λ (s : ScriptParts). (u : ℕ) → u < 2 → IsUnitOpened s.frames c.args.first.now (slice_index_or c.units_opened.result u blank_unit)) c.script.view_is c.units_opened.ensures in
    opening_by spec script c.requires.facts c.deref.result.now opening c.args.first.now (record { procs = c.processors_opened.result; units = c.units_opened.result }) c.requires.first c.processors_opened.ensures units

pub returns-clause-places : goal.returns-clause-places
returns-clause-places c = λ p low. ap stand_place (c.processors_opened.ensures p low).stand
