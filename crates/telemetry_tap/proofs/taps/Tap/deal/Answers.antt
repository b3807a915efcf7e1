use Rattle.std.proofs.Common.{rules, ◌∙◌, ◌+◌, List, ◌∷◌, [], ap, length}
use Rattle.std.proofs.lemmas.List.{length-append}
use Rattle.telemetry_tap.specs.declared.taps.Reader.{Reader}
use Rattle.telemetry_tap.proofs.Starting.{new_more}
use Rattle.telemetry_tap.proofs.taps.Tap.deal.Goals as goal

pub loop-i-preserved : goal.loop-i-preserved
loop-i-preserved c = (
  c.note.ensures.writer,
  c.note.ensures.published ∙ c.loop-i.invariant.1,
  new_more c.args.self.now c.loop-i.dealt.items c.push.new.self.items c.note.result c.loop-i.invariant.2 c.note.ensures.reader (c.note.ensures.seen ∙ c.loop-i.invariant.1) c.in_ok-push.ensures.items,
  ap (λ (list : List Reader). length list) c.in_ok-push.ensures.items ∙ length-append c.loop-i.dealt.items (c.note.result ∷ []) ∙ ap (λ n. n + 1) c.loop-i.invariant.3,
)

pub loop-i-init : goal.loop-i-init
loop-i-init c = search rules
