-- A processor's draft of a snapshot is `draft_made`. If the snapshot belongs to a frame of a script, the draft is the
-- processor's draft in the one-thread trace.
use Rattle.std.proofs.Common.{◌≡◌, ◌∙◌, ℕ, zero, suc, ◌+◌, ◌<◌, refl, ap, sym, subst, arith, length, Bool, true, false, List}
use native.Mathlib.Decide.{ℕ_discrete}
use Rattle.std.specs.Prelude.{ℤ, Option, Some, None, IfSome, option_map, if◌then◌else◌, nat_eq, nat_lt}
use Rattle.std.proofs.lemmas.Bool.Decides.{nat_tests}
use Rattle.scram_types.specs.declared.rows.Env.{Env}
use Rattle.scram_types.specs.declared.ids.ProcId.{ProcId}
use Rattle.scram_types.specs.declared.specification.Place.{Place}
use Rattle.scram_types.specs.Eights.{eight}
use Rattle.scram_types.specs.Lookups.{kind_of_app, place_of}
use Rattle.scram_types.specs.Scripts.{ScriptParts}
use Rattle.scram_types.specs.Specification.{IsSpec, Parts}
use Rattle.scram_types.proofs.Eights.{eight_at, eight_same}
use Rattle.app_model.specs.declared.seen.Seen.{Seen}
use Rattle.app_model.specs.Law.{law}
use Rattle.bank_words.specs.declared.images.KernelImage.{KernelImage}
use Rattle.fault_script.specs.Environments.{env_at}
use Rattle.fault_script.specs.Times.{commits}
use Rattle.frame_model.specs.declared.tasks.Task.{Task}
use Rattle.frame_model.specs.Flights.{decided, draft, image_in, image_of, is_proc, slot_after, slot_drafted, slot_in, state_after, task_given}
use Rattle.frame_model.specs.Laws.{AreasAreKept, IsSlotOfKeeper}
use Rattle.frame_model.specs.Phases.{phase_at}
use Rattle.frame_model.specs.States.{State, area_at, keeper_after, keeper_at, keeper_on, seen_by_all, seen_in, start_keeper_of}
use Rattle.frame_model.specs.Tasks.{off_task, task_in, task_of}
use Rattle.frame_model.proofs.Agreeing.{Exists, place_exists, task_exists}
use Rattle.frame_model.proofs.Slots.{slot_is}
use Rattle.fail_stop.specs.declared.snapshots.Snapshot.{Snapshot}
use Rattle.fail_stop.specs.Drafts.{IsSnapshot, area_kept, areas_shown, draft_made, slot_made, state_shown, task_among}
use Rattle.fail_stop.proofs.Joining.{image_same, of_slots}

-- If the tasks, the view, the areas and the old image are taken from a snapshot, the image that is made from these
-- values is `draft_made`.

pub draft_is : (spec : Parts) (snap : Snapshot) (p : ℕ) (tasks : List Task) (seen : Seen) (areas : List (List ℤ)) (own image : List ℤ)
    → tasks ≡ eight (task_of spec snap.kernel.mode snap.kernel.frame) → seen ≡ seen_by_all spec snap.kernel.env (state_shown snap)
    → areas ≡ areas_shown snap → own ≡ image_in snap.images p
    → image ≡ image_of (slot_made spec tasks seen areas own p) → image ≡ draft_made spec snap p
draft_is spec snap p tasks seen areas own image is_tasks is_seen is_areas is_own is_image = is_image ∙ rw (is_tasks, is_seen, is_areas, is_own) refl

-- The slots of the first `n` applications are made, and the other slots are those of the old image.

abbrev pub MadeBelow : (ℕ → List ℤ) → ℕ → List ℤ → List ℤ → Type 0
MadeBelow slot n old image = (b : ℕ) → b < 8 → slot_in image b ≡ (if nat_lt b n then slot b else slot_in old b)

-- If the slots of the first `n` applications are made, and slot `n` replaces the old slot, then the slots of the
-- first `n + 1` applications are made.
pub one_made : (slot : ℕ → List ℤ) (n : ℕ) (area old image after : List ℤ) → MadeBelow slot n old image → area ≡ slot n → ((b : ℕ) → b < 8 → slot_in after b ≡ (if nat_eq b n then area else slot_in image b))
    → MadeBelow slot (n + 1) old after
one_made slot n area old image after before is put b low = put b low ∙ by_place (ℕ_discrete b n) (before b low)
  where
    by_place : Dec (b ≡ n) → slot_in image b ≡ (if nat_lt b n then slot b else slot_in old b) → (if nat_eq b n then area else slot_in image b) ≡ (if nat_lt b (n + 1) then slot b else slot_in old b)
    by_place (yes d) was =
        let here : nat_eq b n ≡ true = grind (arith, nat_tests, d) in
        let under : nat_lt b (n + 1) ≡ true = grind (arith, nat_tests, d) in
        rw (here, under, d) is
    by_place (no d) was =
        let other : nat_eq b n ≡ false = grind (arith, nat_tests, d) in
        let same : nat_lt b (n + 1) ≡ nat_lt b n = grind (arith, nat_tests, d) in
        rw (other, same) was

-- If the slots of the first `n` applications are made, and slot `n` equals the old slot, then the slots of the first
-- `n + 1` applications are made without a change.
pub one_kept : (slot : ℕ → List ℤ) (n : ℕ) (old image : List ℤ) → MadeBelow slot n old image → slot n ≡ slot_in old n → MadeBelow slot (n + 1) old image
one_kept slot n old image before is b low = by_place (ℕ_discrete b n) (before b low)
  where
    by_place : Dec (b ≡ n) → slot_in image b ≡ (if nat_lt b n then slot b else slot_in old b) → slot_in image b ≡ (if nat_lt b (n + 1) then slot b else slot_in old b)
    by_place (yes d) was =
        let not_yet : nat_lt b n ≡ false = grind (arith, nat_tests, d) in
        let under : nat_lt b (n + 1) ≡ true = grind (arith, nat_tests, d) in
        was ∙ rw (not_yet, under, d) (sym is)
    by_place (no d) was = let same : nat_lt b (n + 1) ≡ nat_lt b n = grind (arith, nat_tests, d) in was ∙ rw same refl

pub all_made : (slot : ℕ → List ℤ) (old image : List ℤ) → length image ≡ 64 → MadeBelow slot 8 old image → image ≡ image_of slot
all_made slot old image long made = of_slots image long ∙ image_same (slot_in image) slot (λ b low. let under : nat_lt b 8 ≡ true = grind (arith, nat_tests, low) in made b low ∙ rw under refl)

-- Proof that the keeper of an application is a processor of the specification.

start_exists : (spec : Parts) (place : Option Place) → IfSome place (λ p. p.proc.0 < length spec.procs) → Exists spec (option_map (λ (place : Place). place.proc) place)
unfolding Exists
start_exists spec None there = tt
start_exists spec (Some place) there = there

either_exists : (spec : Parts) (proc : ProcId) (old : Option ProcId) (b : Bool) → Exists spec (Some proc) → Exists spec old → Exists spec (if b then Some proc else old)
either_exists spec proc old true there before = there
either_exists spec proc old false there before = before

on_exists : (spec : Parts) (committed : ℕ → Bool) (old proc : Option ProcId) → Exists spec proc → Exists spec old → Exists spec (keeper_on committed old proc)
unfolding Exists
on_exists spec committed old None there before = tt
on_exists spec committed old (Some proc) there before = either_exists spec proc old (committed proc.0) there before

keeper_exists : (spec : Parts) → IsSpec spec → (script : ScriptParts) (f a : ℕ) → a < 8 → Exists spec (keeper_at (state_after spec script f).keepers a)
keeper_exists spec is script zero a low =
    subst (Exists spec) (sym (eight_at (start_keeper_of spec) a None low)) (start_exists spec (place_of spec spec.start a) (place_exists spec is spec.start a))
keeper_exists spec is script (suc f) a low =
    let phase = phase_at spec (decided spec script f) f in
    subst (Exists spec) (sym (eight_at (λ b. keeper_after (λ p. commits spec script p f) (state_after spec script f) (task_in spec phase b) b) a None low))
    (on_exists spec (λ p. commits spec script p f) (keeper_at (state_after spec script f).keepers a) (task_in spec phase a).proc (task_exists spec is phase a) (keeper_exists spec is script f a low))

-- Proof that the areas in the snapshot of a frame are the areas as of the start of the frame.

kept_same : (spec : Parts) (script : ScriptParts) (f a : ℕ) (snap : Snapshot) (keeper : Option ProcId) (area : List ℤ) → a < 8 → IsSnapshot spec script f snap → Exists spec keeper
    → IsSlotOfKeeper keeper area (λ p. slot_after spec script p f a) → area_kept snap.images keeper a ≡ area
unfolding Exists
kept_same spec script f a snap None area low of there kept = sym kept
kept_same spec script f a snap (Some q) area low of there kept =
    ap (λ (image : List ℤ). slot_in image a) (of.images q.0 there) ∙ slot_is spec script q.0 f a low ∙ sym kept

areas_listed : (spec : Parts) (script : ScriptParts) (f : ℕ) → eight (area_at (state_after spec script f).areas) ≡ (state_after spec script f).areas
areas_listed spec script zero = refl
areas_listed spec script (suc f) = refl

module _ (spec : Parts) (is : IsSpec spec) (script : ScriptParts) (f : ℕ) (snap : Snapshot) (of : IsSnapshot spec script f snap) (kept : AreasAreKept) where
  keepers : snap.kernel.keepers ≡ (state_after spec script f).keepers
  keepers = ap (λ (k : KernelImage). k.keepers) of.kernel

  area_same : (a : ℕ) → a < 8 → area_kept snap.images (keeper_at snap.kernel.keepers a) a ≡ area_at (state_after spec script f).areas a
  area_same a low =
      ap (λ (all : List (Option ProcId)). area_kept snap.images (keeper_at all a) a) keepers
      ∙ kept_same spec script f a snap (keeper_at (state_after spec script f).keepers a) (area_at (state_after spec script f).areas a) low of (keeper_exists spec is script f a low) (kept spec script f a low)

  areas_same : areas_shown snap ≡ (state_after spec script f).areas
  areas_same = eight_same (λ a. area_kept snap.images (keeper_at snap.kernel.keepers a) a) (area_at (state_after spec script f).areas) area_same ∙ areas_listed spec script f

  seen_same : seen_by_all spec snap.kernel.env (state_shown snap) ≡ seen_by_all spec (env_at spec script f) (state_after spec script f)
  seen_same = seen_of spec snap.kernel.env (env_at spec script f) (state_shown snap) (state_after spec script f) (ap (λ (k : KernelImage). k.env) of.kernel) areas_same (ap (λ (k : KernelImage). k.world) of.kernel)
    where
      seen_of : (spec : Parts) (v w : Env) (one other : State) → v ≡ w → one.areas ≡ other.areas → one.world ≡ other.world → seen_by_all spec v one ≡ seen_by_all spec w other
      seen_of spec v w one other env areas world = rw (env, areas, world) refl

  task_same : (a : ℕ) → a < 8 → task_among (eight (task_of spec snap.kernel.mode snap.kernel.frame)) a ≡ task_given spec script f a
  task_same a low = eight_at (task_of spec snap.kernel.mode snap.kernel.frame) a off_task low ∙ ap (λ (k : KernelImage). task_of spec k.mode k.frame a) of.kernel

  made_same : (p a : ℕ) → p < length spec.procs → a < 8
      → slot_made spec (eight (task_of spec snap.kernel.mode snap.kernel.frame)) (seen_by_all spec snap.kernel.env (state_shown snap)) (areas_shown snap) (image_in snap.images p) p a
      ≡ slot_drafted spec script p f a (slot_after spec script p f a)
  made_same p a there low =
      made_of p (kind_of_app spec a) (task_among (eight (task_of spec snap.kernel.mode snap.kernel.frame)) a) (task_given spec script f a)
      (seen_by_all spec snap.kernel.env (state_shown snap)) (seen_by_all spec (env_at spec script f) (state_after spec script f))
      (area_at (areas_shown snap) a) (area_at (state_after spec script f).areas a) (slot_in (image_in snap.images p) a) (slot_after spec script p f a)
      (task_same a low) seen_same (ap (λ (areas : List (List ℤ)). area_at areas a) areas_same)
      (ap (λ (image : List ℤ). slot_in image a) (of.images p there) ∙ slot_is spec script p f a low)
    where
      made_of : (p kind : ℕ) (task given : Task) (seen shown : Seen) (area kept old before : List ℤ) → task ≡ given → seen ≡ shown → area ≡ kept → old ≡ before
          → (if is_proc p task.proc then law kind task.order (seen_in seen task.mode area) else old) ≡ (if is_proc p given.proc then law kind given.order (seen_in shown given.mode kept) else before)
      made_of p kind task given seen shown area kept old before t s a o = rw (t, s, a, o) refl

  pub draft_same : (p : ℕ) → p < length spec.procs → draft_made spec snap p ≡ draft spec script p f
  draft_same p there = image_same _ _ (λ a low. made_same p a there low)
