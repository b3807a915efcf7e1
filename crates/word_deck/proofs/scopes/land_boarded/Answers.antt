use Rattle.std.proofs.Common.{rules, ◌≡◌, ◌∙◌, ap, subst, length, [], ◌∷◌, ◌++◌}
use Rattle.word_table.specs.Tables.{proc_of}
use Rattle.word_deck.specs.Flights.{numbers_boarded, numbers_in}
use Rattle.word_deck.specs.Landing.{IsLanded}
use Rattle.word_deck.proofs.Listing.{crews_less, numbers_less, numbers_some}
use Rattle.word_deck.proofs.scopes.land_boarded.Goals as goal

pub fly_crew-requires-clause-fits : goal.fly_crew-requires-clause-fits
fly_crew-requires-clause-fits g c =
    (crews_less c.args.site.now.words.now c.args.own.now.items c.pop.new.self.items c.pop.result c.in-Some.crew c.pop.ensures.items c.in-Some.is c.requires.own).1

pub returns-in-Some-clause-landed : goal.returns-in-Some-clause-landed
returns-in-Some-clause-landed g c =
    let p = proc_of c.args.was.value in
    let front = c.requires.last.front in
    let are : numbers_in c.args.own.now.items ≡ front ++ p ∷ [] = c.requires.last.same ∙ ap (λ boarding. numbers_boarded boarding p front) c.in-Own.is in
    let last = numbers_less front c.args.own.now.items c.pop.new.self.items c.pop.result c.in-Some.crew p are c.pop.ensures.items c.in-Some.is in
    subst (λ q. IsLanded c.args.site.now.words.now q c.fly_crew.result) last.1 c.fly_crew.ensures

pub returns-in-Some-clause-own : goal.returns-in-Some-clause-own
returns-in-Some-clause-own g c =
    (crews_less c.args.site.now.words.now c.args.own.now.items c.pop.new.self.items c.pop.result c.in-Some.crew c.pop.ensures.items c.in-Some.is c.requires.own).0

pub returns-in-Some-clause-numbers : goal.returns-in-Some-clause-numbers
returns-in-Some-clause-numbers g c = λ front same.
    let p = proc_of c.args.was.value in
    let are : numbers_in c.args.own.now.items ≡ front ++ p ∷ [] = same ∙ ap (λ boarding. numbers_boarded boarding p front) c.in-Own.is in
    (numbers_less front c.args.own.now.items c.pop.new.self.items c.pop.result c.in-Some.crew p are c.pop.ensures.items c.in-Some.is).0

pub unreachable-requires : goal.unreachable-requires
unreachable-requires g c =
    let p = proc_of c.args.was.value in
    let front = c.requires.last.front in
    let are : numbers_in c.args.own.now.items ≡ front ++ p ∷ [] = c.requires.last.same ∙ ap (λ boarding. numbers_boarded boarding p front) c.in-Own.is in
    let none : length c.args.own.now.items ≡ 0 = search rules in
    numbers_some front c.args.own.now.items p are none
