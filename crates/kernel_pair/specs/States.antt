-- The pairs that values of `PairState` represent.
use Rattle.std.specs.Prelude.{ℕ, ℤ, pos, List, [], None, nat_lt, slice_index_or, if◌then◌else◌}
use Rattle.scram_types.specs.Specification.{Parts}
use Rattle.bank_words.specs.Numbers.{decode}
use Rattle.fault_script.specs.Times.{words as width_of}
use Rattle.fail_stop.specs.Events.{At, Halted, Place}
use Rattle.kernel_pair.specs.declared.processors.Stand.{Stand}
use Rattle.kernel_pair.specs.declared.processors.Stand.TheVariants as stand
use Rattle.kernel_pair.specs.declared.processors.ProcessorState.{ProcessorState}
use Rattle.kernel_pair.specs.declared.units.UnitState.{UnitState}
use Rattle.kernel_pair.specs.declared.states.PairState.{PairState}
use Rattle.kernel_pair.specs.Pairs.{Processor, KernelUnit, Pair}
use Rattle.kernel_pair.specs.declared.setups.Setup.{Setup}
use Rattle.fail_stop.specs.ScriptFlights.{flight_of}
use Rattle.fail_stop.specs.Flights.{Flight}
use Rattle.bank_words.specs.Marks.{pick}

-- The `Place` that a `Stand` represents.
abbrev pub stand_place : Stand → Place
stand_place (stand.Before f) = At f 0
stand_place (stand.Halted h) = Halted h

-- Word `i` of bank `b`, or 0 if there is no such word.
abbrev pub bank_word : List (List ℕ) → ℕ → ℕ → ℕ
bank_word banks b i = slice_index_or (slice_index_or banks b []) i 0

-- The `Processor` that a `ProcessorState` represents.
abbrev pub processor_of : ProcessorState → Processor
processor_of x = record { place = stand_place x.stand; mark = x.mark; end = x.end; bank = λ b i. bank_word x.banks b i }

-- The `KernelUnit` that a `UnitState` represents.
abbrev pub unit_of : UnitState → KernelUnit
unit_of x = record {
  frame = x.frame;
  step = x.step;
  stopped = x.stopped;
  release = x.release;
  ready = x.ready;
  kernel = λ i. slice_index_or x.words i 0;
  marks = λ p. slice_index_or x.marks p 0;
  images = λ p i. slice_index_or (slice_index_or x.images p []) i 0;
}

-- The state that is read past the last processor.
abbrev pub blank_processor : ProcessorState
blank_processor = record { stand = stand.Before 0; mark = 0; end = 0; banks = [] }

-- The state that is read past the last unit.
abbrev pub blank_unit : UnitState
blank_unit = record { frame = 0; step = 0; stopped = None; release = 0; ready = 0; words = []; marks = []; images = [] }

-- The `Pair` that a `PairState` represents.
abbrev pub pair_of : PairState → Pair
pair_of s = record { proc = λ p. processor_of (slice_index_or s.procs p blank_processor); unit = λ u. unit_of (slice_index_or s.units u blank_unit) }

-- Word `i` of the image that these words encode, or 0 if an image of the specification has no word `i`.
abbrev pub word_decoded : Parts → List ℕ → ℕ → ℤ
word_decoded spec words i = if nat_lt i (width_of spec) then decode (slice_index_or words i 0) else pos 0

-- The flight of a setup.
abbrev pub flight_by : Setup → Flight
flight_by setup = flight_of setup.spec.now setup.script.now

-- The end word of processor `p`.
abbrev pub end_word_in : List ProcessorState → ℕ → ℕ
end_word_in procs p = (processor_of (slice_index_or procs p blank_processor)).end

-- Word `i` of the image that a reader in frame `frame` finds for processor `q`.
abbrev pub word_seen : Parts → List ProcessorState → ℕ → ℕ → ℕ → ℤ
word_seen spec procs q frame i =
    let x = slice_index_or procs q blank_processor in word_decoded spec (slice_index_or x.banks (pick x.mark frame) []) i
