use Rattle.std.proofs.Common.{◌∙◌, ap, subst, sym}
use Rattle.word_table.specs.Tables.{IsSeatOf, proc_of}
use Rattle.word_deck.proofs.Listing.{crews_more, numbers_more}
use Rattle.word_deck.proofs.scopes.board.Goals as goal

pub returns-then-not-site-clause-own : goal.returns-then-not-site-clause-own
returns-then-not-site-clause-own g c =
    crews_more c.args.site.now.words.now c.args.own.now.items c.push_reserved.new.self.items c.crew_from.result
    c.requires.own c.crew_from.ensures.fits c.push_reserved.ensures.items

pub returns-else-landing-clause-own : goal.returns-else-landing-clause-own
returns-else-landing-clause-own g c =
    crews_more c.args.site.now.words.now c.args.own.now.items c.push_reserved-in-Err.new.self.items c.crew_from-in-Err.result
    c.requires.own c.crew_from-in-Err.ensures.fits c.push_reserved-in-Err.ensures.items

pub returns-then-not-site-clause-numbers : goal.returns-then-not-site-clause-numbers
returns-then-not-site-clause-numbers g c =
    numbers_more c.args.own.now.items c.push_reserved.new.self.items c.crew_from.result (proc_of c.args.seat) c.push_reserved.ensures.items c.crew_from.ensures.proc

pub returns-else-landing-clause-numbers : goal.returns-else-landing-clause-numbers
returns-else-landing-clause-numbers g c =
    numbers_more c.args.own.now.items c.push_reserved-in-Err.new.self.items c.crew_from-in-Err.result (proc_of c.args.seat) c.push_reserved-in-Err.ensures.items
    (c.crew_from-in-Err.ensures.proc ∙ ap proc_of (c.in-Err.ensures.back.stayed c.if-landing.false))

pub crew_from-requires-in-Err-clause-seat : goal.crew_from-requires-in-Err-clause-seat
crew_from-requires-in-Err-clause-seat g c =
    subst (λ seat. IsSeatOf c.args.site.now.words.now seat) (sym (c.in-Err.ensures.back.stayed c.if-landing.false)) c.requires.seat

pub returns-then-landing-clause-boarded : goal.returns-then-landing-clause-boarded
returns-then-landing-clause-boarded g c = c.in-Err.ensures.back.landed c.if-landing.true
