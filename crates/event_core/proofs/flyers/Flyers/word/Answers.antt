use Rattle.std.proofs.Common.{rules, ◌≡◌, ◌∙◌, ◌+◌, suc, ap, arith, subst, sym}
use Rattle.bank_words.specs.declared.events.Event.{Event}
use Rattle.bank_words.specs.declared.events.Event.TheVariants.{KStore}
use Rattle.event_core.specs.Cores.{core_places, core_flight}
use Rattle.event_core.specs.Stores.{IsEventWord}
use Rattle.fail_stop.specs.Flights.{word_in}
use Rattle.fail_stop.specs.ScriptFlights.{kernel_words}
use Rattle.event_core.proofs.flyers.Flyers.word.Goals as goal

pub returns-in-KStore-clause-word : goal.returns-in-KStore-clause-word
returns-in-KStore-clause-word g c =
    let is : c.args.event ≡ KStore c.in-KStore.i = search rules in
    let same : c.args.core.now.places.frame + 1 ≡ suc c.args.core.now.places.frame = omega arith in
    subst (λ (event : Event). IsEventWord (core_flight c.args.core.now) (core_places c.args.core.now) event c.kernel_word.result) (sym is)
    (c.kernel_word.ensures ∙ ap (λ f. word_in (kernel_words c.args.core.now.spec c.args.core.now.script f) c.in-KStore.i) same)

pub returns-in-Halt-clause-fits : goal.returns-in-Halt-clause-fits
returns-in-Halt-clause-fits c = search rules

pub returns-in-Start-clause-fits : goal.returns-in-Start-clause-fits
returns-in-Start-clause-fits c = search rules
