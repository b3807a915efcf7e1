use Rattle.word_deck.proofs.Steps.{draft_for}
use Rattle.word_table.specs.Tables.{mission_in}
use Rattle.word_deck.proofs.crews.Crew.fly.Goals as goal

pub end-requires-clause-image : goal.end-requires-clause-image
end-requires-clause-image g c =
    draft_for (mission_in c.args.words.now) c.args.mission.now c.draft.new.self.seat c.look_at_all.new.seat c.draft.new.self.image c.requires.mission c.draft.ensures.seat c.draft.ensures.image
