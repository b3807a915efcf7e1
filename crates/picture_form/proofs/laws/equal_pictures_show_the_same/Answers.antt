use Rattle.picture_form.proofs.PicturesTell.{equal_pictures_show_the_same as law}
use Rattle.picture_form.proofs.laws.equal_pictures_show_the_same.Goals as goal

pub returns : goal.returns
returns c = law
