-- The law of events. For a script that fits its specification, the invariant `Kept` on places and words holds in each
-- state of each schedule.
use Rattle.std.specs.Prelude.{◌≡◌, ◌⊎◌, ℕ, suc, ◌<◌, List, length}
use Rattle.scram_types.specs.Scripts.{ScriptParts}
use Rattle.scram_types.specs.Specification.{IsSpec, Parts}
use Rattle.bank_words.specs.declared.events.Event.{Event}
use Rattle.bank_words.specs.Images.{kernel_decode}
use Rattle.bank_words.specs.Marks.{pick}
use Rattle.fault_script.specs.Fits.{Fits}
use Rattle.fault_script.specs.Times.{commits, words as width_of}
use Rattle.frame_model.specs.Flights.{draft, state_after}
use Rattle.frame_model.specs.Storage.{image_bank_after, kernel_image, mark_after}
use Rattle.fail_stop.specs.Consistency.{IsConsistent, Reads}
use Rattle.fail_stop.specs.declared.snapshots.Snapshot.{Snapshot}
use Rattle.fail_stop.specs.Drafts.{IsSnapshot, draft_made}
use Rattle.fail_stop.specs.Ends.{IsOver, IsStoredLast}
use Rattle.fail_stop.specs.Events.{BankWord, EndWord, Happens, IsNext, KernelWord, MarkWord, Places, ReleaseWord, Word, writes}
use Rattle.fail_stop.specs.Flights.{Flies, bank_before, image_before, is_committed, mark_before, side, word_in}
use Rattle.fail_stop.specs.Kept.{Kept, opening_places, opening_words}
use Rattle.fail_stop.specs.Listed.{Moves, list_after, stored_in, word_index_count}
use Rattle.fail_stop.specs.Openings.{opening_list}
use Rattle.fail_stop.specs.Schedules.{IsSchedule, Machine, opening}
use Rattle.fail_stop.specs.ScriptFlights.{flight_of, image_words_after, kernel_words}

-- The flight of a script commits the frames that the one-thread trace commits, and has the marks, banks and images of
-- the one-thread trace.
pub record IsOfTrace (spec : Parts) (script : ScriptParts) : Type 0 where
  pub flies : Flies (flight_of spec script)
  pub committed : (p f : ℕ) → is_committed (flight_of spec script) p f ≡ commits spec script p f
  pub marks : (p f : ℕ) → mark_before (flight_of spec script) p f ≡ mark_after spec script p f
  pub banks : (p f : ℕ) → side (flight_of spec script) p f ≡ image_bank_after spec script p f
  pub images : (p f : ℕ) → image_before (flight_of spec script) p f ≡ image_words_after spec script p f

-- The flight of a fitting script has the commits, marks, banks and images of its one-thread trace.
abbrev pub FlightsAreOfTraces : Type 0
FlightsAreOfTraces = (spec : Parts) (script : ScriptParts) → Fits spec script → IsOfTrace spec script

-- The opening state satisfies `Kept`.
abbrev pub OpeningKeeps : Type 0
OpeningKeeps = (spec : Parts) (script : ScriptParts) → Fits spec script
    → Kept (flight_of spec script) opening_places (opening_words (flight_of spec script))

-- A list holds the words before the first event. The release is 1, or 0 if the flight has no frame. The kernel's
-- words are those of frame 0, and all marks and end words are 0. Bank 0 of each processor holds the processor's image
-- before frame 0, and bank 1 holds zeros.
pub record IsOpening (spec : Parts) (script : ScriptParts) (list : List ℕ) : Type 0 where
  pub long : length list ≡ word_index_count
  pub released : 0 < script.frames → stored_in list ReleaseWord ≡ 1
  pub unreleased : script.frames ≡ 0 → stored_in list ReleaseWord ≡ 0
  pub kernel : (i : ℕ) → i < 20 → stored_in list (KernelWord i) ≡ word_in (kernel_words spec script 0) i
  pub mark : (p : ℕ) → p < length spec.procs → stored_in list (MarkWord p) ≡ 0
  pub end : (p : ℕ) → p < length spec.procs → stored_in list (EndWord p) ≡ 0
  pub image : (p i : ℕ) → p < length spec.procs → i < width_of spec
      → stored_in list (BankWord p 0 i) ≡ word_in (image_words_after spec script p 0) i
  pub empty : (p i : ℕ) → p < length spec.procs → i < width_of spec → stored_in list (BankWord p 1 i) ≡ 0

-- The opening list of a script holds the opening words.
abbrev pub OpeningListsAreOfScripts : Type 0
OpeningListsAreOfScripts = (spec : Parts) (script : ScriptParts) → IsSpec spec
    → IsOpening spec script (opening_list script.frames (kernel_words spec script 0) (state_after spec script 0).areas (state_after spec script 0).keepers)

-- An event that is the next of its actor preserves `Kept`.
abbrev pub EventsKeep : Type 0
EventsKeep = (spec : Parts) (script : ScriptParts) → Fits spec script
    → (at : Places) (words : Word → ℕ) (event : Event) (at_after : Places) (words_after : Word → ℕ)
    → Kept (flight_of spec script) at words → IsNext (flight_of spec script) at words event
    → Happens (flight_of spec script) at words event at_after words_after
    → Kept (flight_of spec script) at_after words_after

-- An event that is the next of its actor preserves `Kept` if the words are kept in one list.
abbrev pub EventsKeepLists : Type 0
EventsKeepLists = (spec : Parts) (script : ScriptParts) → IsSpec spec → Fits spec script
    → (at : Places) (list : List ℕ) (event : Event) (at_after : Places)
    → length list ≡ word_index_count → Kept (flight_of spec script) at (stored_in list) → IsNext (flight_of spec script) at (stored_in list) event
    → Moves (flight_of spec script) at event at_after
    → Kept (flight_of spec script) at_after (stored_in (list_after list (writes (flight_of spec script) at (stored_in list) event)))

-- `Kept` implies `IsConsistent`.
abbrev pub KeptIsConsistent : Type 0
KeptIsConsistent = (spec : Parts) (script : ScriptParts) → Fits spec script → (at : Places) (words : Word → ℕ)
    → Kept (flight_of spec script) at words → IsConsistent (flight_of spec script) at words

-- Each state of each schedule satisfies `Kept` and `IsConsistent`.
abbrev pub SchedulesKeep : Type 0
SchedulesKeep = (spec : Parts) (script : ScriptParts) → Fits spec script → (events : List Event) (state : Machine)
    → IsSchedule (flight_of spec script) (opening (flight_of spec script)) events state
    → Kept (flight_of spec script) state.at state.words × IsConsistent (flight_of spec script) state.at state.words

-- A processor that reads in frame `f` finds the words of that frame. The bank of processor `q` that the reader picks
-- does not change during the frame and holds the image of `q` after the first `f` frames. The kernel's words are
-- those of frame `f`.
pub record Finds (spec : Parts) (script : ScriptParts) (words : Word → ℕ) (f : ℕ) : Type 0 where
  pub picked : (q : ℕ) → q < length spec.procs → pick (words (MarkWord q)) f ≡ image_bank_after spec script q f
  pub held : (q i : ℕ) → q < length spec.procs → i < width_of spec
      → words (BankWord q (image_bank_after spec script q f) i) ≡ word_in (image_words_after spec script q f) i
  pub kernel : (i : ℕ) → i < 20 → words (KernelWord i) ≡ word_in (kernel_words spec script f) i

-- Each reader in a frame finds the images and the kernel's words of that frame.
abbrev pub ReadersFind : Type 0
ReadersFind = (spec : Parts) (script : ScriptParts) → Fits spec script → (at : Places) (words : Word → ℕ)
    → Kept (flight_of spec script) at words → (p f n : ℕ) → p < length spec.procs → Reads at p f n → Finds spec script words f

-- The mark of processor `p` is the mark of `p` after frame `k`, and the marked bank holds the image of `p` after that
-- frame.
pub record IsNoted (spec : Parts) (script : ScriptParts) (words : Word → ℕ) (k p : ℕ) : Type 0 where
  pub mark : words (MarkWord p) ≡ mark_after spec script p (suc k)
  pub held : (i : ℕ) → i < width_of spec
      → words (BankWord p (image_bank_after spec script p (suc k)) i) ≡ word_in (image_words_after spec script p (suc k)) i

-- If the kernel has noted a processor, the mark and the image of the processor are those after the kernel's frame.
abbrev pub NotesFix : Type 0
NotesFix = (spec : Parts) (script : ScriptParts) → Fits spec script → (at : Places) (words : Word → ℕ)
    → Kept (flight_of spec script) at words → (p : ℕ) → p < length spec.procs → p < at.step → IsNoted spec script words at.frame p

-- If the machine is not over, some actor has a next event.
abbrev pub MachineGoesOn : Type 0
MachineGoesOn = (spec : Parts) (script : ScriptParts) → Fits spec script → (at : Places) (words : Word → ℕ)
    → Kept (flight_of spec script) at words
    → IsOver (flight_of spec script) at ⊎ ((event : Event) × IsNext (flight_of spec script) at words event)

-- At the start of a frame, each word of a bank is the word that was stored there last, or the opening word.
abbrev pub BanksHoldTheLastStores : Type 0
BanksHoldTheLastStores = (spec : Parts) (script : ScriptParts) (p f b i : ℕ)
    → IsStoredLast (flight_of spec script) p f b i (bank_before (flight_of spec script) p f b i)

-- The kernel image of a frame can be decoded from its words.
abbrev pub KernelImagesComeBack : Type 0
KernelImagesComeBack = (spec : Parts) (script : ScriptParts) (f : ℕ) → IsSpec spec → Fits spec script → f < 4294967296
    → kernel_decode (kernel_words spec script f) ≡ kernel_image spec script f

-- The draft that a processor makes of the snapshot of frame `f` is its draft in frame `f` of the one-thread trace.
abbrev pub DraftsAreOfTraces : Type 0
DraftsAreOfTraces = (spec : Parts) (script : ScriptParts) → IsSpec spec → (f p : ℕ) (snap : Snapshot) → p < length spec.procs
    → IsSnapshot spec script f snap → draft_made spec snap p ≡ draft spec script p f
