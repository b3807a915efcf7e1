use Rattle.scram_cli.proofs.command.look_at.Goals as goal

pub returns-in-Props : goal.returns-in-Props
returns-in-Props g c = rw (c.in-Props.is) c.props_form.ensures

pub returns-in-Summary : goal.returns-in-Summary
returns-in-Summary g c = rw (c.in-Summary.is) c.summary_form.ensures

pub returns-in-Columns : goal.returns-in-Columns
returns-in-Columns g c = rw (c.in-Columns.is) c.columns_form.ensures

pub returns-in-Picture : goal.returns-in-Picture
returns-in-Picture g c = rw (c.in-Picture.is) c.picture_form.ensures
