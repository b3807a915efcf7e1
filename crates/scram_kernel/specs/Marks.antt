-- The marks and the images of the processors after a number of frames, as a caller passes them to end a frame.
use Rattle.std.specs.Prelude.{◌≡◌, ℕ, ◌<◌, ℤ, List, length, slice_index_or}
use Rattle.scram_types.specs.Scripts.{ScriptParts}
use Rattle.scram_types.specs.Specification.{Parts}
use Rattle.frame_model.specs.Flights.{image_after, image_in}
use Rattle.frame_model.specs.Storage.{mark_after}

-- The mark of processor `p` in a list of marks, or 0 past the end of the list.
abbrev pub mark_in : List ℕ → ℕ → ℕ
mark_in marks p = slice_index_or marks p 0

-- A list has the marks of the processors after the first `f` frames. Its entries after the last processor are
-- arbitrary.
abbrev pub AreMarks : Parts → ScriptParts → ℕ → List ℕ → Type 0
AreMarks spec script f marks = (p : ℕ) → p < length spec.procs → mark_in marks p ≡ mark_after spec script p f

-- A list has the images of the processors after the first `f` frames. Its entries after the last processor are
-- arbitrary.
abbrev pub AreImages : Parts → ScriptParts → ℕ → List (List ℤ) → Type 0
AreImages spec script f images = (p : ℕ) → p < length spec.procs → image_in images p ≡ image_after spec script p f
