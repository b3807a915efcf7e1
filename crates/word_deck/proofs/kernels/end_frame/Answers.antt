use Rattle.std.proofs.Common.{◌∙◌, ◌+◌, ap, sym, subst, ◌<◌}
use Rattle.scram_types.specs.Scripts.{ScriptParts}
use Rattle.frame_model.specs.Storage.{kernel_image}
use Rattle.scram_kernel.specs.Kernels.{KernelParts, kernel_after}
use Rattle.word_deck.proofs.Noting.{images_for, marks_for}
use Rattle.word_deck.proofs.kernels.end_frame.Goals as goal

pub tick-requires : goal.tick-requires
tick-requires c =
    let kernel = c.args.kernel.now in
    record {
      frames = subst (λ (script : ScriptParts). kernel.past < script.frames) (ap (λ (k : KernelParts). k.script) (sym c.requires.kernel)) c.requires.frame;
      marks = marks_for kernel c.args.mission.now c.args.noted.now c.requires.kernel c.requires.noted;
      images = images_for kernel c.args.mission.now c.args.noted.now c.requires.kernel c.requires.noted;
    }

pub returns-clause-kernel : goal.returns-clause-kernel
returns-clause-kernel c =
    let past = c.args.kernel.now.past in
    let by : KernelParts → KernelParts = λ k. kernel_after k.spec k.script (past + 1) in
    c.tick.ensures.kernel ∙ ap by c.requires.kernel

pub returns-clause-image : goal.returns-clause-image
returns-clause-image c =
    let past = c.args.kernel.now.past in
    c.tick.ensures.image ∙ ap (λ (k : KernelParts). kernel_image k.spec k.script (past + 1)) c.requires.kernel
