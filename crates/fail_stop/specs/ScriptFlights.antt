-- The flight of a specification and a script. Only this file connects the event machine with scripts and
-- specifications.
use Rattle.std.specs.Prelude.{ℕ, ℤ, List, length, map, Option, option_map}
use Rattle.scram_types.specs.declared.scripts.HaltAt.{HaltAt}
use Rattle.scram_types.specs.Scripts.{ScriptParts}
use Rattle.scram_types.specs.Specification.{Parts}
use Rattle.bank_words.specs.Images.{kernel_encode}
use Rattle.bank_words.specs.Numbers.{encode}
use Rattle.fault_script.specs.Times.{halt_in, is_up, restart_of, words}
use Rattle.frame_model.specs.Flights.{draft, image_after}
use Rattle.frame_model.specs.Storage.{kernel_image}
use Rattle.fail_stop.specs.Flights.{Flight}

-- The step at which processor `p` halts in frame `f`, or `None` if it does not halt there.
abbrev pub halt_step : ScriptParts → ℕ → ℕ → Option ℕ
halt_step script p f = option_map (λ (halt : HaltAt). halt.step) (halt_in script p f)

-- The words of an image.
abbrev pub image_words : List ℤ → List ℕ
image_words image = map encode image

-- The words of the image of processor `p` after the first `f` frames.
abbrev pub image_words_after : Parts → ScriptParts → ℕ → ℕ → List ℕ
image_words_after spec script p f = image_words (image_after spec script p f)

-- The words that processor `p` stores in frame `f`.
abbrev pub draft_words : Parts → ScriptParts → ℕ → ℕ → List ℕ
draft_words spec script p f = image_words (draft spec script p f)

-- The words of the kernel image of frame `f`.
abbrev pub kernel_words : Parts → ScriptParts → ℕ → List ℕ
kernel_words spec script f = kernel_encode (kernel_image spec script f)

-- The flight of a script. Processors are up, halt and restart as the script states. Images and drafts are those of
-- the one-thread trace.
abbrev pub flight_of : Parts → ScriptParts → Flight
flight_of spec script = record {
  frames = script.frames;
  procs = length spec.procs;
  width = words spec;
  up = is_up script;
  halt = halt_step script;
  restart = restart_of script;
  start = λ p. image_words_after spec script p 0;
  draft = draft_words spec script;
  kernel_image = kernel_words spec script;
}
