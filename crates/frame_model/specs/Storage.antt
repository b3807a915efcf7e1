-- The contents of stable storage in a flight: the kernel's images and the marks of the processors.
use Rattle.std.specs.Prelude.{ℕ, zero, suc, ◌-◌, if◌then◌else◌}
use Rattle.scram_types.specs.Scripts.{ScriptParts}
use Rattle.scram_types.specs.Specification.{Parts}
use Rattle.bank_words.specs.declared.images.KernelImage.{KernelImage}
use Rattle.bank_words.specs.Marks.{mark_word}
use Rattle.fault_script.specs.Environments.{env_at}
use Rattle.fault_script.specs.Times.{commits}
use Rattle.frame_model.specs.Flights.{decided, state_after}

-- The kernel's image for frame `f`, which may be the frame after the last one: the mode and the environment of the
-- frame, and the keepers and the world before it.
abbrev pub kernel_image : Parts → ScriptParts → ℕ → KernelImage
kernel_image spec script f = record {
  frame = f;
  mode = decided spec script f;
  env = env_at spec script f;
  keepers = (state_after spec script f).keepers;
  world = (state_after spec script f).world;
}

-- One more than the last frame below `f` that processor `p` commits, or 0 if it commits none.
abbrev pub last_count : Parts → ScriptParts → ℕ → ℕ → ℕ
last_count spec script p zero = 0
last_count spec script p (suc f) = if commits spec script p f then suc f else last_count spec script p f

-- The bank that holds the image of processor `p` after the first `f` frames: 0 or 1. Each commit switches to the
-- other bank.
abbrev pub image_bank_after : Parts → ScriptParts → ℕ → ℕ → ℕ
image_bank_after spec script p zero = 0
image_bank_after spec script p (suc f) = if commits spec script p f then 1 - image_bank_after spec script p f else image_bank_after spec script p f

-- The mark of processor `p` after the first `f` frames.
abbrev pub mark_after : Parts → ScriptParts → ℕ → ℕ → ℕ
mark_after spec script p f = mark_word (last_count spec script p f) (image_bank_after spec script p f)
