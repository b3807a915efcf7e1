-- The parts of the document that are the same in every picture.
use Rattle.std.specs.Prelude.{ℕ, List}
use Rattle.picture_form.specs.declared.styles.Part.{Part}
use Rattle.picture_form.specs.declared.styles.Part.TheVariants.{Style, Names, Legend}
use Rattle.picture_form.specs.declared.styles.TheConstants.{LEGEND, NAMES, STYLE}

-- The text of a part that is the same in every picture.
abbrev pub part_text : Part → List ℕ
part_text Style = STYLE.now
part_text Names = NAMES.now
part_text Legend = LEGEND.now
