use Rattle.std.proofs.Common.{◌≡◌, ℕ, ◌+◌, ◌<◌, List, ◌++◌, ◌∙◌, append_assoc, ap, drop, get_or, length, sym}
use Rattle.std.proofs.lemmas.List.{at_drop_more}
use Rattle.scram_types.specs.Specification.{Parts}
use Rattle.schedule_replay.specs.Events.{event_line, schedule_text}
use Rattle.bank_words.specs.declared.events.Event.{Event}
use Rattle.schedule_replay.proofs.schedule_writing.write_lines.Goals as goal

next_line : (spec : Parts) (events : List Event) (i : ℕ) (d : Event) (before after : List ℕ) → i < length events → schedule_text spec events ≡ before ++ schedule_text spec (drop i events)
    → after ≡ before ++ event_line spec (get_or events i d) → schedule_text spec events ≡ after ++ schedule_text spec (drop (i + 1) events)
next_line spec events i d before after below so_far added =
    so_far ∙ ap (λ (rest : List ℕ). before ++ rest) (at_drop_more (schedule_text spec) events i d below)
    ∙ sym (append_assoc before (event_line spec (get_or events i d)) (schedule_text spec (drop (i + 1) events)))
    ∙ ap (λ (text : List ℕ). text ++ schedule_text spec (drop (i + 1) events)) (sym added)

pub loop-event-preserved : goal.loop-event-preserved
loop-event-preserved c =
    let line = c.in_ok-extend_from_slice.ensures.items ∙ ap (λ (text : List ℕ). c.loop-event.text.items ++ text) (c.as_bytes.ensures ∙ c.make_event_line-line.ensures) in
    next_line c.args.spec.now c.args.events.now c.loop-event.event-index _ c.loop-event.text.items _ c.loop-event-test.true c.loop-event.invariant line
