-- The environment of each frame.
use Rattle.std.specs.Prelude.{ℕ, length}
use Rattle.scram_types.specs.Bits.{bits_below}
use Rattle.scram_types.specs.declared.rows.Env.{Env}
use Rattle.scram_types.specs.Scripts.{ScriptParts}
use Rattle.scram_types.specs.Specification.{Parts}
use Rattle.fault_script.specs.Times.{factors_at, is_up}

-- The environment of frame `f`. It is defined for every `f`, also past the last frame.
abbrev pub env_at : Parts → ScriptParts → ℕ → Env
env_at spec script f = record { up = bits_below (λ p. is_up script p f) (length spec.procs); factors = factors_at script f }
