use Rattle.std.proofs.Common.{rules, ◌≡◌, ◌%◌}
use Rattle.bank_words.specs.Numbers.{decode}
use Rattle.bank_words.proofs.ImageWords.{image_back}
use Rattle.bank_words.proofs.images.kernel_encode.Goals as goal

pub returns-clause-back : goal.returns-clause-back
returns-clause-back c =
    let frame : c.from.result % 4294967296 ≡ c.args.k.now.frame = search rules in
    let alt : decode c.encode.result ≡ c.args.k.now.world.alt = search rules in
    let climb : decode c.encode-2.result ≡ c.args.k.now.world.climb = search rules in
    let heading : decode c.encode-3.result ≡ c.args.k.now.world.heading = search rules in
    let bank : decode c.encode-4.result ≡ c.args.k.now.world.bank = search rules in
    image_back c.args.k.now c.mode_words-mode.result c.keeper_words-keepers.result _ _ _ _ _ _ _ frame c.mode_words-mode.ensures.back c.byte_word.ensures.back c.factors_word.ensures.back c.keeper_words-keepers.ensures.back
    alt climb heading bank
