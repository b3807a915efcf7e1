use Rattle.std.proofs.Common.{◌∙◌, ap}
use Rattle.std.proofs.lemmas.List.Elements.{All-set}
use Rattle.std.proofs.Math.Seq.{map-set_same}
use Rattle.word_table.specs.Tables.{proc_of}
use Rattle.word_deck.specs.Crews.{IsCrewOf}
use Rattle.word_deck.proofs.scopes.turn_all.Goals as goal

pub loop-i-preserved : goal.loop-i-preserved
loop-i-preserved g c =
    let value = c.index_mut.ensures.value in (
      All-set (λ crew. IsCrewOf c.args.words.now crew) c.loop-i.own.items c.loop-i.i c.turn.new.self c.turn.ensures.fits c.loop-i.invariant.0,
      map-set_same (λ crew. proc_of crew.seat) c.loop-i.own.items c.loop-i.i c.turn.new.self c.index_mut.result.now (c.turn.ensures.proc ∙ ap (λ crew. proc_of crew.seat) value) ∙ c.loop-i.invariant.1,
    )
