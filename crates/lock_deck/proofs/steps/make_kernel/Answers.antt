use Rattle.std.proofs.Common.{◌≡◌, ◌∙◌, ap, suc, ◌+◌, arith}
use Rattle.fail_stop.specs.Flights.{word_in}
use Rattle.fail_stop.specs.ScriptFlights.{kernel_words}
use Rattle.lock_deck.proofs.steps.make_kernel.Goals as goal

pub make-requires : goal.make-requires
make-requires c =
    let same : c.args.core.now.places.frame + 1 ≡ suc c.args.core.now.places.frame = omega arith in
    λ next. c.kernel_word-word.ensures ∙ ap (λ f. word_in (kernel_words c.args.core.now.spec c.args.core.now.script f) c.in-Some-KStore.i) same
