use Rattle.std.proofs.Common.{rules, ◌≡◌, ◌∙◌, ◌+◌, ◌<◌, ap, sym, arith, length}
use Rattle.frame_model.specs.Flights.{image_after}
use Rattle.frame_model.specs.Storage.{mark_after}
use Rattle.word_table.specs.Tables.{mission_in, kernel_frame}
use Rattle.word_deck.proofs.Noting.{noted_on, noted_still}
use Rattle.word_deck.proofs.kernels.note_all.Goals as goal

pub returns-in-None-clause-tries : goal.returns-in-None-clause-tries
returns-in-None-clause-tries c = λ same low.
    c.in-None.ensures.tries ∙ ap (λ n. n + 1) (c.loop-p.invariant.tries (sym c.loop-p.invariant.steps ∙ sym c.in-None.ensures.steps ∙ same))

pub loop-p-preserved : goal.loop-p-preserved
loop-p-preserved c =
    let more = c.loop-p.invariant.more in
    let low : c.loop-p.p < 8 = search rules in
    let marks : length c.loop-p.noted.marks ≡ 8 = search rules in
    let images : length c.loop-p.noted.images ≡ 8 = search rules in
    let mark : c.in-Some.marked.mark ≡ mark_after (mission_in c.args.words.now).spec (mission_in c.args.words.now).script c.loop-p.p (kernel_frame c.loop-p.kseat + 1) = search rules in
    let image : c.gone.new.image ≡ image_after (mission_in c.args.words.now).spec (mission_in c.args.words.now).script c.loop-p.p (kernel_frame c.loop-p.kseat + 1) = search rules in
    record {
      seated = c.in-Some.ensures.seat;
      frame = c.in-Some.ensures.frame ∙ c.loop-p.invariant.frame;
      steps = c.in-Some.ensures.steps ∙ ap (λ n. n + 1) c.loop-p.invariant.steps;
      more = omega (arith, more);
      tries = λ same. absurd (omega (arith, same, more));
      are_noted = noted_on (mission_in c.args.words.now) (kernel_frame c.args.kseat.now) (kernel_frame c.loop-p.kseat) c.loop-p.p c.loop-p.noted c.in-Some.marked.mark c.gone.new.image
          c.loop-p.invariant.frame c.loop-p.invariant.are_noted low marks images mark image;
    }

pub returns-in-None-clause-noted : goal.returns-in-None-clause-noted
returns-in-None-clause-noted c =
    rw (c.in-None.ensures.frame ∙ c.loop-p.invariant.frame, c.in-None.ensures.steps ∙ c.loop-p.invariant.steps)
    (noted_still (mission_in c.args.words.now) (kernel_frame c.args.kseat.now) c.loop-p.p c.loop-p.noted _ c.loop-p.invariant.are_noted)
