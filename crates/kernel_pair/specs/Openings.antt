-- The opening state of a pair, given the words at the opening.
use Rattle.std.specs.Prelude.{◌≡◌, ◌<◌, ℕ, List, [], None, slice_index_or, if◌then◌else◌, nat_eq}
use Rattle.fail_stop.specs.Events.{BankWord}
use Rattle.fail_stop.specs.Listed.{stored_in}
use Rattle.kernel_pair.specs.declared.processors.Stand.TheVariants.{Before}
use Rattle.kernel_pair.specs.declared.processors.ProcessorState.{ProcessorState}
use Rattle.kernel_pair.specs.declared.units.UnitState.{UnitState}

-- Processor `p` is at the beginning of frame 0. Its mark and its end word are 0, and its banks are the banks in the
-- list of all words.
pub record IsProcessorOpened (list : List ℕ) (p : ℕ) (x : ProcessorState) : Type 0 where
  pub stand : x.stand ≡ Before 0
  pub mark : x.mark ≡ 0
  pub end : x.end ≡ 0
  pub bank : (b i : ℕ) → b < 2 → i < 64 → slice_index_or (slice_index_or x.banks b []) i 0 ≡ stored_in list (BankWord p b i)

-- A unit has made no step of a flight with `frames` frames. Its kernel words are `first`, and its ready word is 0.
-- Its release word is 1, or 0 if `frames` is 0.
pub record IsUnitOpened (frames : ℕ) (first : List ℕ) (x : UnitState) : Type 0 where
  pub frame : x.frame ≡ 0
  pub step : x.step ≡ 0
  pub stopped : x.stopped ≡ None
  pub release : x.release ≡ (if nat_eq frames 0 then 0 else 1)
  pub ready : x.ready ≡ 0
  pub words : x.words ≡ first
