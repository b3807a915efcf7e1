use Rattle.std.proofs.Common.{rules, ◌≡◌, ◌∙◌, ap}
use Rattle.std.specs.Prelude.{slice_index_or}
use Rattle.event_core.proofs.Ending.{kernel_says}
use Rattle.event_core.proofs.Overs.{word_said}
use Rattle.event_core.proofs.cores.Core.kernel_word.Goals as goal

pub returns : goal.returns
returns c =
    let same : c.from.result ≡ c.args.i = search rules in
    ap (λ n. slice_index_or c.kernel_encode.result n 0) same
    ∙ ap (λ words. slice_index_or words c.args.i 0) (c.kernel_encode.ensures.words
    ∙ word_said c.args.self.now c.self.inside.spec.now c.self.inside.script.now c.self.inside.places c.self.inside.stored.items c.self.inside.history.items c.image.result c.self.view_is (kernel_says c.self.inside.kernel c.self.inside.spec.now c.self.inside.script.now _ c.image.result c.self.invariant.kernel_is c.image.ensures) c.requires.noted)
