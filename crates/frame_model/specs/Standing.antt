-- The state of a system before a frame of a script, and the processors that are up.
use Rattle.std.specs.Prelude.{◌≡◌, ℕ, zero, suc, Bool, true, not, ◌&&◌, length}
use Rattle.scram_types.specs.Scripts.{ScriptParts}
use Rattle.scram_types.specs.Specification.{Parts}
use Rattle.scram_types.specs.Bits.{bits_below}
use Rattle.fault_script.specs.Times.{halts_in, is_up}
use Rattle.fault_script.specs.declared.walks.Walk.{Walk}
use Rattle.fault_script.specs.Walks.{IsWalk}
use Rattle.frame_model.specs.declared.systems.Sys.{Sys}
use Rattle.frame_model.specs.Flights.{state_after}
use Rattle.frame_model.specs.Frames.{state_of}

-- Whether processor `p` was up in the frame before frame `f` and did not halt in that frame. The value is `true` if
-- `f` is 0.
abbrev pub is_up_before : ScriptParts → ℕ → ℕ → Bool
is_up_before script p zero = true
is_up_before script p (suc f) = is_up script p f && not (halts_in script p f)

-- The processors that are up before frame `f`, as bits.
abbrev pub up_before : Parts → ScriptParts → ℕ → ℕ
up_before spec script f = bits_below (λ p. is_up_before script p f) (length spec.procs)

-- The system has the state before frame `f` of a script, and the walk over the script is at that frame.
pub record StandsBefore (spec : Parts) (script : ScriptParts) (f : ℕ) (sys : Sys) (walk : Walk) : Type 0 where
  pub frame : sys.frame ≡ f
  pub state : state_of sys ≡ state_after spec script f
  pub up : sys.up ≡ up_before spec script f
  pub walks : IsWalk spec script f walk
