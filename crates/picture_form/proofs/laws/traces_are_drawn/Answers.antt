use Rattle.picture_form.proofs.TracesDrawn.{traces_drawn}
use Rattle.picture_form.proofs.laws.traces_are_drawn.Goals as goal

pub returns : goal.returns
returns c = traces_drawn
