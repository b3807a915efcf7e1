-- The tasks of a phase, read from a timetable in which an application that is off has offset 0.
use Rattle.std.proofs.Common.{◌≡◌, ◌∙◌, ℕ, ◌<◌, refl, ap, List}
use Rattle.std.specs.Prelude.{Option, Some, None, is_some, slice_index_or, if◌then◌else◌}
use Rattle.scram_types.specs.declared.ids.ConfId.{ConfId}
use Rattle.scram_types.specs.declared.orders.Order.{Order}
use Rattle.scram_types.specs.declared.specification.Place.{Place}
use Rattle.scram_types.specs.Specification.{Parts}
use Rattle.scram_types.specs.Eights.{eight}
use Rattle.scram_types.specs.Lookups.{place_of}
use Rattle.scram_types.proofs.Eights.{eight_at}
use Rattle.dep_order.specs.Timetables.{halt_offset, halt_time, init_offset, init_time, where_on}
use Rattle.frame_model.specs.declared.phases.Phase.{Phase}
use Rattle.frame_model.specs.declared.phases.Phase.TheVariants.{Halting, Initialising}
use Rattle.frame_model.specs.Phases.{offsets_in}
use Rattle.frame_model.specs.Tasks.{halting_order, initialising_order, task_for, task_in}

same_task : (order : ℕ → Order) (place : Option Place) (n : ℕ) → task_for (order (if is_some place then n else 0)) place ≡ task_for (order n) place
same_task order None n = refl
same_task order (Some place) n = refl

pub halting_task : (spec : Parts) (c : ConfId) (a age : ℕ) (phase : Phase) (offsets : List ℕ) → a < 8 → phase ≡ Halting c age → offsets ≡ offsets_in spec phase
    → task_for (halting_order (slice_index_or offsets a 0) (halt_time spec c a) age) (place_of spec c a) ≡ task_in spec phase a
halting_task spec c a age phase offsets low is listed =
    let all : offsets ≡ eight (λ b. where_on spec c b (halt_offset spec c b)) = listed ∙ ap (offsets_in spec) is in
    rw (is, all, eight_at (λ b. where_on spec c b (halt_offset spec c b)) a 0 low)
    (same_task (λ n. halting_order n (halt_time spec c a) age) (place_of spec c a) (halt_offset spec c a))

pub initialising_task : (spec : Parts) (c : ConfId) (a age : ℕ) (phase : Phase) (offsets : List ℕ) → a < 8 → phase ≡ Initialising c age → offsets ≡ offsets_in spec phase
    → task_for (initialising_order (slice_index_or offsets a 0) (init_time spec c a) age) (place_of spec c a) ≡ task_in spec phase a
initialising_task spec c a age phase offsets low is listed =
    let all : offsets ≡ eight (λ b. where_on spec c b (init_offset spec c b)) = listed ∙ ap (offsets_in spec) is in
    rw (is, all, eight_at (λ b. where_on spec c b (init_offset spec c b)) a 0 low)
    (same_task (λ n. initialising_order n (init_time spec c a) age) (place_of spec c a) (init_offset spec c a))
