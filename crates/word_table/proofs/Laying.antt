-- The words and the first view of a table that is opened satisfy the rule of the table.
use Rattle.std.proofs.Common.{◌≡◌, ◌∙◌, ℕ, ℤ, ap, arith, List, [], length}
use Rattle.std.specs.Prelude.{Option}
use Rattle.scram_types.specs.declared.ids.ProcId.{ProcId}
use Rattle.scram_types.specs.Eights.{eight}
use Rattle.scram_types.specs.Specification.{IsSpec}
use Rattle.atomic_table.specs.Seated.{TableId}
use Rattle.atomic_table.specs.Table as table
use Rattle.coverage_check.specs.Missions.{MissionParts}
use Rattle.fault_script.specs.Fits.{Fits}
use Rattle.fault_script.specs.Times.{restart_of, words}
use Rattle.frame_model.specs.States.{start_area_of, start_keeper_of}
use Rattle.fail_stop.specs.Listed.{word_index_count}
use Rattle.fail_stop.specs.Openings.{opening_list}
use Rattle.fail_stop.specs.ScriptFlights.{kernel_words}
use Rattle.fail_stop.proofs.OpeningLists.{opening_listed, opening_long}
use Rattle.word_table.specs.Keeping.{IsFlown, TableKeeps}
use Rattle.word_table.specs.Rule.{IsRuled, first_view}
use Rattle.word_table.proofs.Dealing.{opening_rule}
use Rattle.word_table.proofs.Seating.{sound}

pub laid : (mission : MissionParts) (list first : List ℕ) (areas : List (List ℤ)) (keepers : List (Option ProcId)) → IsSpec mission.spec → Fits mission.spec mission.script
    → list ≡ opening_list mission.script.frames first areas keepers → first ≡ kernel_words mission.spec mission.script 0 → areas ≡ eight (start_area_of mission.spec) → keepers ≡ eight (start_keeper_of mission.spec)
    → IsRuled mission (table.opening list [] (first_view mission))
laid mission list first areas keepers facts fits is is_first is_areas is_keepers =
    let whole : list ≡ opening_list mission.script.frames (kernel_words mission.spec mission.script 0) (eight (start_area_of mission.spec)) (eight (start_keeper_of mission.spec)) = rw (is_first, is_areas, is_keepers) at is in
    opening_rule mission list (sound mission facts fits) (ap length is ∙ opening_long mission.script.frames first areas keepers)
    (λ w l. opening_listed mission.spec mission.script list w whole facts.procs_count.few (omega (arith, facts.apps_count.few)) l)

pub flown_is : (mission key : MissionParts) → IsSpec mission.spec → Fits mission.spec mission.script → key ≡ mission → IsFlown key
flown_is mission key facts fits is = rw is record { facts = facts; fits = fits }

pub kept_by : (mission key : MissionParts) (id : TableId) (frames procs width : ℕ) (restarts : List (Option ℕ)) → IsSpec mission.spec → key ≡ mission → id.words ≡ word_index_count → id.slots ≡ 0
    → frames ≡ mission.script.frames → procs ≡ length mission.spec.procs → width ≡ words mission.spec → restarts ≡ eight (restart_of mission.script) → TableKeeps key id frames procs width restarts
kept_by mission key id frames procs width restarts facts is places slots is_frames is_procs is_width is_restarts = rw is record {
  places = places;
  slots = slots;
  frames_are = is_frames;
  procs_are = is_procs;
  procs_few = omega (arith, is_procs, facts.procs_count.few);
  width_is = is_width;
  width_most = omega (arith, is_width, facts.apps_count.few);
  width_least = omega (arith, is_width, facts.apps_count.enough);
  restarts_are = is_restarts;
}
