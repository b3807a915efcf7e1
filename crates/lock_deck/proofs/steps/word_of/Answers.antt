use Rattle.std.proofs.Common.{rules, ◌≡◌, pos, subst}
use Rattle.bank_words.specs.Numbers.{encode}
use Rattle.std.specs.Prelude.{IfSome, Some, slice_index_or}
use Rattle.lock_deck.specs.SharedCores.{IsDraftOf}
use Rattle.lock_deck.proofs.Storing.{draft_word}
use Rattle.lock_deck.proofs.steps.word_of.Goals as goal

pub returns-in_ok-get : goal.returns-in_ok-get
returns-in_ok-get c = λ mission p is.
    let some : c.args.drafted ≡ Some c.in_ok-draft.draft = search rules in
    let made : IsDraftOf mission p c.in_ok-draft.draft.now = subst (λ drafted. IfSome drafted (λ draft. IsDraftOf mission p draft.now)) some is in
    let here : c.in_ok-draft.draft.now.frame ≡ c.args.frame = search rules in
    let at : c.in_ok-get.field-0.now ≡ slice_index_or c.in_ok-draft.draft.now.image c.args.i (pos 0) = search rules in
    let same : c.encode.result ≡ encode c.in_ok-get.field-0.now = search rules in
    draft_word mission p c.args.frame c.args.i c.encode.result c.in_ok-get.field-0.now c.in_ok-draft.draft.now made here at same
