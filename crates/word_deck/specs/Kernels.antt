-- The kernel with the values that it needs in a flight.
use Rattle.std.specs.Prelude.{◌≡◌, ◌⊎◌, ℕ, suc, ◌<◌, ◌≤◌, length, if◌then◌else◌, nat_lt}
use Rattle.coverage_check.specs.Missions.{MissionParts}
use Rattle.frame_model.specs.Flights.{image_after, image_in}
use Rattle.frame_model.specs.Storage.{mark_after}
use Rattle.scram_kernel.specs.Kernels.{KernelParts, kernel_after}
use Rattle.scram_kernel.specs.Marks.{mark_in}
use Rattle.word_table.specs.declared.seats.KSeat.{KSeat}
use Rattle.word_table.specs.Tables.{kernel_frame, kernel_steps, kernel_tries}
use Rattle.word_deck.specs.declared.kernels.Noted.{Noted}
use Rattle.word_deck.specs.declared.turns.Turn.{Turn}
use Rattle.word_deck.specs.declared.turns.Turn.TheVariants.{Worked, NotYet, Finished}

-- The number of frames in which the kernel has noted all of the `procs` processors.
abbrev pub frames_noted : ℕ → KSeat → ℕ
frames_noted procs kseat = if nat_lt (kernel_steps kseat) procs then kernel_frame kseat else suc (kernel_frame kseat)

-- The noted marks and images of the first `n` processors are the marks and images that these processors have
-- committed by the end of frame `k`.
pub record AreNoted (mission : MissionParts) (k n : ℕ) (noted : Noted) : Type 0 where
  pub marks : (p : ℕ) → p < n → mark_in noted.marks p ≡ mark_after mission.spec mission.script p (suc k)
  pub images : (p : ℕ) → p < n → image_in noted.images p ≡ image_after mission.spec mission.script p (suc k)

-- No frame is flown, or the kernel has made its last note.
abbrev pub IsKernelDone : MissionParts → KSeat → Type 0
IsKernelDone mission kseat =
    (mission.script.frames ≡ 0) ⊎ ((suc (kernel_frame kseat) ≡ mission.script.frames) × (kernel_steps kseat ≡ length mission.spec.procs))

-- The kernel is between two turns. It has not noted all processors of its frame, or its frame is the last one.
pub record IsKernelBetween (procs frames : ℕ) (kseat : KSeat) : Type 0 where
  pub within : kernel_frame kseat ≤ frames
  pub flies : 0 < frames → kernel_frame kseat < frames
  pub steps : kernel_steps kseat ≤ procs
  pub last : kernel_steps kseat ≡ procs → suc (kernel_frame kseat) ≡ frames

-- The invariant of a kernel between two turns. The log contains the frames in which the kernel has noted all
-- processors. The marks and images of the processors noted in the current frame are those that these processors have
-- committed by the end of that frame.
pub record KernelCrewKeeps (mission : MissionParts) (kseat : KSeat) (kernel : KernelParts) (noted : Noted) : Type 0 where
  pub between : IsKernelBetween (length mission.spec.procs) mission.script.frames kseat
  pub log : kernel ≡ kernel_after mission.spec mission.script (frames_noted (length mission.spec.procs) kseat)
  pub noted_are : AreNoted mission (kernel_frame kseat) (kernel_steps kseat) noted

-- `before` and `after` are the kernel's seats before and after a turn with the given result. After `NotYet`, the
-- kernel is at the same place and has counted another try. After `Worked`, it has noted more processors of its frame,
-- or is at the start of the next frame. After `Finished`, it is in the same frame and has made at least as many steps
-- as before.
abbrev pub IsKernelMoved : Turn → ℕ → ℕ → KSeat → KSeat → Type 0
IsKernelMoved NotYet procs frames before after =
    (kernel_frame after ≡ kernel_frame before) × (kernel_steps after ≡ kernel_steps before) × (kernel_tries after ≡ suc (kernel_tries before))
IsKernelMoved Worked procs frames before after =
    ((kernel_frame after ≡ kernel_frame before) × (kernel_steps before < kernel_steps after) × (kernel_steps after < procs))
    ⊎ ((kernel_frame after ≡ suc (kernel_frame before)) × (kernel_steps after ≡ 0) × (kernel_frame after < frames))
IsKernelMoved Finished procs frames before after = (kernel_frame after ≡ kernel_frame before) × (kernel_steps before ≤ kernel_steps after)
