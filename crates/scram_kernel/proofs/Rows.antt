-- The row that `row_drawn` computes is the row of the frame in the one-thread trace.
use Rattle.std.proofs.Common.{◌≡◌, ◌∙◌, ℕ, suc, ◌<◌, refl, ap, arith, length, Bool, true, false, List}
use Rattle.std.specs.Prelude.{ℤ, ◌==◌, Option, Some, None, IfSome, if◌then◌else◌}
use Rattle.std.proofs.lemmas.Bool.Decides.{nat_tests}
use Rattle.scram_types.specs.declared.rows.Row.{Row}
use Rattle.scram_types.specs.declared.ids.ProcId.{ProcId}
use Rattle.scram_types.specs.declared.orders.Act.{Act}
use Rattle.scram_types.specs.Scripts.{ScriptParts}
use Rattle.scram_types.specs.Specification.{IsSpec, Parts}
use Rattle.scram_types.proofs.Eights.{eight_same}
use Rattle.fault_script.specs.Environments.{env_at}
use Rattle.fault_script.specs.Times.{commits}
use Rattle.frame_model.specs.Flights.{decided, image_in, row_at, slot_after, slot_in, state_after, task_given}
use Rattle.frame_model.specs.Phases.{phase_at}
use Rattle.frame_model.specs.States.{area_after, area_at, area_on, law_of, world_in}
use Rattle.frame_model.proofs.Slots.{slot_is}
use Rattle.frame_model.proofs.Agreeing.{Agree, Exists, acts_same, agreeing, keepers_same, task_exists}
use Rattle.scram_kernel.specs.Drawing.{area_from, area_drawn, areas_drawn, has_committed, keepers_drawn, row_drawn}
use Rattle.frame_model.specs.Storage.{kernel_image}
use Rattle.scram_kernel.specs.Marks.{AreImages, AreMarks}
use Rattle.scram_kernel.proofs.Commits.{committed_told}

-- If a processor commits a frame and hosts an application in it, the application's slot holds the area that the law
-- of its kind computes.
slot_made : (spec : Parts) (script : ScriptParts) (f a : ℕ) (proc : ProcId) → commits spec script proc.0 f ≡ true → (task_given spec script f a).proc ≡ Some proc
    → slot_after spec script proc.0 (suc f) a ≡ law_of spec (env_at spec script f) (state_after spec script f) (task_given spec script f a) a
slot_made spec script f a proc commits_it hosts = let itself : (proc.0 == proc.0) ≡ true = grind (arith, nat_tests) in rw (commits_it, hosts, itself) refl

area_by : (spec : Parts) (script : ScriptParts) (f a : ℕ) (marks : List ℕ) (images : List (List ℤ)) (proc : ProcId) (b : Bool) → a < 8 → proc.0 < length spec.procs
    → AreImages spec script (suc f) images → (task_given spec script f a).proc ≡ Some proc → commits spec script proc.0 f ≡ b
    → (if b then slot_in (image_in images proc.0) a else area_at (state_after spec script f).areas a)
    ≡ (if b then law_of spec (env_at spec script f) (state_after spec script f) (task_given spec script f a) a else area_at (state_after spec script f).areas a)
area_by spec script f a marks images proc true low there are hosts is =
    ap (λ image. slot_in image a) (are proc.0 there) ∙ slot_is spec script proc.0 (suc f) a low ∙ slot_made spec script f a proc is hosts
area_by spec script f a marks images proc false low there are hosts is = refl

area_is : (spec : Parts) (script : ScriptParts) (f a : ℕ) (marks : List ℕ) (images : List (List ℤ)) → a < 8 → AreMarks spec script (suc f) marks → AreImages spec script (suc f) images
    → (proc : Option ProcId) → (task_given spec script f a).proc ≡ proc → IfSome proc (λ p. p.0 < length spec.procs)
    → area_from (has_committed marks f) images a (area_at (state_after spec script f).areas a) proc
    ≡ area_on (λ p. commits spec script p f) (law_of spec (env_at spec script f) (state_after spec script f) (task_given spec script f a) a) (area_at (state_after spec script f).areas a) proc
area_is spec script f a marks images low are_marks are_images None is there = refl
area_is spec script f a marks images low are_marks are_images (Some proc) is there =
    rw (committed_told spec script f marks are_marks proc.0 there) (area_by spec script f a marks images proc (commits spec script proc.0 f) low there are_images is refl)

exists : (spec : Parts) → IsSpec spec → (script : ScriptParts) (f a : ℕ) → IfSome (task_given spec script f a).proc (λ p. p.0 < length spec.procs)
unfolding Exists
exists spec facts script f a = task_exists spec facts (phase_at spec (decided spec script f) f) a

agree_told : (spec : Parts) (script : ScriptParts) (f : ℕ) (marks : List ℕ) → AreMarks spec script (suc f) marks → Agree spec (has_committed marks f) (λ p. commits spec script p f)
agree_told spec script f marks are = agreeing spec (has_committed marks f) (λ p. commits spec script p f) (committed_told spec script f marks are)

abbrev row_made : Parts → ScriptParts → ℕ → List Act → List (List ℤ) → Row
row_made spec script f acts areas = record { frame = f; env = env_at spec script f; mode = decided spec script f; acts = acts; areas = areas; world = world_in spec (state_after spec script f).world areas }

module _ (spec : Parts) (facts : IsSpec spec) (script : ScriptParts) (f : ℕ) (marks : List ℕ) (images : List (List ℤ)) (are_marks : AreMarks spec script (suc f) marks) (are_images : AreImages spec script (suc f) images) where
  areas_are : areas_drawn spec (kernel_image spec script f) marks images (state_after spec script f).areas ≡ (row_at spec script f).areas
  areas_are =
      eight_same (area_drawn spec (kernel_image spec script f) marks images (state_after spec script f).areas)
      (λ a. area_after spec (env_at spec script f) (λ p. commits spec script p f) (state_after spec script f) (task_given spec script f a) a)
      (λ a low. area_is spec script f a marks images low are_marks are_images (task_given spec script f a).proc refl (exists spec facts script f a))

  pub row_is : row_drawn spec (kernel_image spec script f) marks images (state_after spec script f).areas ≡ row_at spec script f
  row_is =
      ap (λ acts. row_made spec script f acts (areas_drawn spec (kernel_image spec script f) marks images (state_after spec script f).areas))
      (acts_same spec facts (has_committed marks f) (λ p. commits spec script p f) (phase_at spec (decided spec script f) f) (agree_told spec script f marks are_marks))
      ∙ ap (row_made spec script f (row_at spec script f).acts) areas_are

pub keepers_are : (spec : Parts) → IsSpec spec → (script : ScriptParts) (f : ℕ) (marks : List ℕ) → AreMarks spec script (suc f) marks
    → keepers_drawn spec (kernel_image spec script f) marks ≡ (state_after spec script (suc f)).keepers
keepers_are spec facts script f marks are =
    keepers_same spec facts (has_committed marks f) (λ p. commits spec script p f) (state_after spec script f) (phase_at spec (decided spec script f) f) (agree_told spec script f marks are)
