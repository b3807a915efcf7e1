use Rattle.std.proofs.Common.{rules, ◌≡◌, ◌∙◌, ◌<◌, ap, sym, arith, length, slice_index_or}
use Rattle.bank_words.specs.Images.{kernel_decode}
use Rattle.kernel_pair.specs.States.{blank_unit}
use Rattle.kernel_pair.proofs.Seeing.{image_seen, kernel_found}
use Rattle.frame_model.specs.Flights.{image_in}
use Rattle.kernel_pair.proofs.sights.snapshot.Goals as goal

pub returns : goal.returns
returns c =
    let few = c.requires.facts.procs_count.few in
    let long : length (slice_index_or c.args.state.now.units c.args.u blank_unit).words ≡ 20 = ap length (sym c.words_of.ensures.words) ∙ c.words_of.ensures.long in
    let low : c.args.frame < 4294967296 = search rules in
    record {
      kernel = c.kernel_decode.ensures ∙ ap kernel_decode c.words_of.ensures.words
          ∙ kernel_found c.args.spec.now c.args.script.now c.args.state.now c.args.u c.args.frame c.requires.facts c.requires.fits c.requires.finds c.kernel_images_come_back.ensures low long;
      images = λ q l. image_seen c.args.spec.now c.args.script.now c.args.state.now c.args.u c.args.frame c.requires.facts c.requires.fits c.requires.finds q (image_in c.images_picked.result q) l
          (c.images_picked.ensures.long q (omega (arith, l, few))) (c.images_picked.ensures.words q (omega (arith, l, few)));
    }
