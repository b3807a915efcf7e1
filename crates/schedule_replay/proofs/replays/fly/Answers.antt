use Rattle.std.proofs.Common.{rules, ◌≡◌, ◌∙◌, ◌++◌, ◌∷◌, [], ℕ, List, Some, ◌+◌, ◌<◌, suc, arith, ap, length, subst, sym, take}
use Rattle.std.specs.Prelude.{Err, slice_get, slice_index_or}
use Rattle.std.proofs.Math.Seq.{take-suc}
use Rattle.std.proofs.lemmas.List.{length-take-le}
use Rattle.std.proofs.lemmas.Option.{slice_get-get_or}
use Rattle.scram_types.specs.Scripts.{ScriptParts}
use Rattle.scram_types.specs.Specification.{Parts}
use Rattle.schedule_replay.specs.Replaying.{AnswersReplay}
use Rattle.bank_words.specs.declared.events.Event.{Event}
use Rattle.bank_words.specs.declared.events.Event.TheVariants.{Start}
use Rattle.scram_types.specs.Lookups.{proc_id}
use Rattle.schedule_replay.proofs.replays.fly.Goals as goal

pub returns-in-Err-clause-refused : goal.returns-in-Err-clause-refused
returns-in-Err-clause-refused g c =
    let list = c.args.events.now in
    let index = c.loop-event.event-index in
    let core = c.loop-event.core in
    let low : index < length list = search rules in
    let long : length core.history ≡ index = ap length c.loop-event.invariant.history ∙ length-take-le index list (omega (arith, low)) in
    let before : take (length core.history) list ≡ core.history = ap (λ (n : ℕ). take n list) long ∙ sym c.loop-event.invariant.history in
    let there : slice_get list (length core.history) ≡ Some (slice_index_or list index (Start (proc_id 0))) = ap (λ (n : ℕ). slice_get list n) long ∙ slice_get-get_or list index (Start (proc_id 0)) low in
    let refused : AnswersReplay core.spec core.script list (Err c.in-Err.error) = c.in-Err.ensures.refused list before there in
    subst (λ (script : ScriptParts). AnswersReplay c.args.core.spec script list (Err c.in-Err.error)) c.loop-event.invariant.script
    (subst (λ (spec : Parts). AnswersReplay spec core.script list (Err c.in-Err.error)) c.loop-event.invariant.spec refused)

pub loop-event-preserved : goal.loop-event-preserved
loop-event-preserved g c =
    let list = c.args.events.now in
    let index = c.loop-event.event-index in
    let core = c.loop-event.core in
    let low : index < length list = search rules in
    let next : index + 1 ≡ suc index = omega arith in
    let one_more : take (index + 1) list ≡ take index list ++ slice_index_or list index (Start (proc_id 0)) ∷ [] =
    ap (λ (n : ℕ). take n list) next ∙ take-suc list index (Start (proc_id 0)) low in
    let more = c.in-Ok.ensures.history in
    record {
      spec = c.make.ensures.spec ∙ c.loop-event.invariant.spec;
      script = c.make.ensures.script ∙ c.loop-event.invariant.script;
      history = more ∙ ap (λ (l : List Event). l ++ slice_index_or list index (Start (proc_id 0)) ∷ []) c.loop-event.invariant.history ∙ sym one_more;
      fits = c.in-Ok.ensures.fits;
    }
