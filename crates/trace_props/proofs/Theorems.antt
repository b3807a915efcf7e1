-- The theorems that SP1 to SP6 hold for every mission, and that the central facts hold in each of its moving frames.
use Rattle.std.proofs.Common.{◌≡◌, ℕ, ◌+◌, ◌*◌, ◌≤◌, false, refl, ap, sym, ◌∙◌}
use Rattle.std.specs.Prelude.{Option}
use Rattle.scram_types.specs.declared.ids.ConfId.{ConfId}
use Rattle.scram_types.specs.declared.orders.KMode.{KMode}
use Rattle.scram_types.specs.declared.orders.KMode.TheVariants as kmode
use Rattle.scram_types.specs.declared.specification.Policy.{Policy}
use Rattle.scram_types.specs.declared.specification.Policy.TheVariants.{Retarget}
use Rattle.scram_types.specs.Scripts.{ScriptParts}
use Rattle.scram_types.specs.Specification.{IsSpec, Parts}
use Rattle.scram_types.specs.Lookups.{conf_id}
use Rattle.coverage_check.specs.Missions.{IsMission, mission_of}
use Rattle.frame_model.specs.Flights.{decided, reports_of, rows_of}
use Rattle.trace_props.proofs.Plans.{IsAcceptedPlan}
use Rattle.trace_props.proofs.Courses.{IsCourseFlown, IsCourseWithin, CourseReading, CourseReading.Steady, CourseReading.Leaving, course_reading_before}
use Rattle.trace_props.proofs.Promises as promises
use Rattle.trace_props.proofs.CourseRows.{IsBuilt, IsRun}
use Rattle.trace_props.specs.Calms.{CalmSettles}
use Rattle.trace_props.specs.Known.{IsKnown}
use Rattle.trace_props.specs.Properties.{HoldsAll}
use Rattle.trace_props.specs.Missions.{IsTargetChosen, FurtherChangesAreFew, HaltingEndsInTime, HaltsInTime, SeesFewChanges, SettlesInTime, PhasesArePastInTime, ReconfigurationsAreAssured, TargetsAreChosen, begin_at, begin_in, changes_since, first_moving, first_moving_in}
use Rattle.trace_props.proofs.Assurances as law
use Rattle.trace_props.proofs.Builds.{flown, reconfigures_built}
use Rattle.trace_props.proofs.Areas.{keeps_areas}
use Rattle.trace_props.proofs.Accepting.{accepted_of, further_same}
use Rattle.trace_props.proofs.SameActs.{committed}
use Rattle.trace_props.proofs.Building.{built_of}
use Rattle.trace_props.proofs.SameCourses.{counts_same, run_of, within_of}
use Rattle.trace_props.proofs.AreasHold.{each_holds}
use Rattle.trace_props.proofs.CalmRows.{satisfied, settled}
use Rattle.trace_props.proofs.TimesKept.{each_keeps}
use Rattle.trace_props.proofs.SameModes.{frames_same, same_mode}
use Rattle.trace_props.proofs.Products.{build_of, course_of, course_mode_of, halting_number, plan_of, settles_under}
use Rattle.trace_props.proofs.Ranging.{KindsLie, area, filled_of, laws_of}
use Rattle.trace_props.proofs.SameReports.{reading_same, told_reading}

retargets : (policy : Policy) → policy ≡ Retarget → settles_under policy ≡ false
retargets policy h = rw h refl

moved : {a b m n d e : ℕ} (h q : ℕ) → a ≡ b → m ≡ n → d ≡ e → a ≤ m + h + d * q → b ≤ n + h + e * q
moved h k p q r t = rw (← p, ← q, ← r) t

begin_same : (rd : CourseReading) (f : ℕ) → begin_in (told_reading rd) f ≡ promises.course_begin_of rd f
begin_same (Steady c) f = refl
begin_same (Leaving c s) f = refl

first_same : (m : KMode) (s : ℕ) → first_moving_in m s ≡ promises.course_first_moving_in (course_mode_of m) s
first_same (kmode.Stable c) s = refl
first_same (kmode.Moving from halting to since) s = refl

module _ (known : IsKnown) (spec : Parts) (script : ScriptParts) (sound : IsSpec spec) (mission : IsMission (mission_of spec script)) where
  accepted : IsAcceptedPlan (plan_of spec)
  accepted = accepted_of spec sound mission.accepts (known.timed spec sound)

  built : IsBuilt (plan_of spec) (build_of spec)
  built = built_of spec sound mission.accepts (known.timed spec sound) known.runs_up

  within : IsCourseWithin (plan_of spec) (course_of spec script)
  within = within_of spec script sound mission.fits known.show mission.within

  run : IsRun (plan_of spec) (build_of spec) (course_of spec script) (committed spec script)
  run = run_of spec script sound mission.fits known.show known.losses

  kinds : KindsLie
  kinds = record { during = known.during; initialised = known.initialised; starts = known.starts; narrow = known.narrow }

  assured : promises.IsCourseAllAssured (plan_of spec) (course_of spec script)
  assured = reconfigures_built (plan_of spec) (build_of spec) (course_of spec script) (committed spec script) accepted built within run

  is_flown : IsCourseFlown (plan_of spec) (course_of spec script)
  is_flown = flown (plan_of spec) (course_of spec script) accepted (build_of spec) (committed spec script) built run

  pub holds_all : HoldsAll spec (rows_of spec script) (reports_of spec script)
  holds_all = record {
    sp1 = refl;
    sp2 = λ k r there. (each_keeps spec script known.by_row assured k r there).sp2;
    sp3 = λ k r there. (each_keeps spec script known.by_row assured k r there).sp3;
    sp4 = each_holds spec sound mission.accepts kinds script known.by_row
        (keeps_areas (plan_of spec) (build_of spec) (course_of spec script) (committed spec script) (laws_of spec) (area spec sound kinds script)
        accepted built within run (filled_of spec sound kinds script));
    sp5 = λ k r there. (each_keeps spec script known.by_row assured k r there).sp5;
    sp6 = λ t row calm. satisfied spec script sound t row calm accepted within is_flown mission.accepts;
  }

  begin_is : (f : ℕ) → begin_at spec script f ≡ promises.course_begin_of (course_reading_before (plan_of spec) (course_of spec script) f) f
  begin_is f = ap (λ rd. begin_in rd f) (reading_same spec script known.by_row f) ∙ begin_same (course_reading_before (plan_of spec) (course_of spec script) f) f

  first_is : (f : ℕ) → first_moving spec script f ≡ promises.course_first_moving (plan_of spec) (course_of spec script) (begin_at spec script f)
  first_is f =
      first_same (decided spec script (begin_at spec script f)) (begin_at spec script f)
      ∙ ap (λ m. promises.course_first_moving_in m (begin_at spec script f)) (same_mode spec script (begin_at spec script f))

  since_is : (f : ℕ) → promises.course_further_changes (plan_of spec) (course_of spec script) (begin_at spec script f) f ≡ changes_since spec script f
  since_is f = rw (counts_same spec script f, ← first_is f, counts_same spec script (first_moving spec script f)) refl

  central : (f : ℕ) (from : ConfId) (halting : Option ConfId) (to : ConfId) (since : ℕ) → f ≤ script.frames → decided spec script f ≡ kmode.Moving from halting to since
      → promises.CentralFacts (plan_of spec) (course_of spec script) (begin_at spec script f) f from.0 (halting_number halting) to.0 since
  central f from halting to since inside moving =
      rw (begin_is f) (law.central_facts (plan_of spec) (course_of spec script) accepted within is_flown f from.0 (halting_number halting) to.0 since inside
      (sym (same_mode spec script f) ∙ ap course_mode_of moving))

  pub target_chosen : (f : ℕ) (from : ConfId) (halting : Option ConfId) (to : ConfId) (since : ℕ) → f ≤ script.frames → decided spec script f ≡ kmode.Moving from halting to since
      → IsTargetChosen spec script f from halting to since
  target_chosen f from halting to since inside moving =
      let c = central f from halting to since inside moving in
      record {
        can_run = c.runnable;
        chosen_at = c.chosen_at;
        chosen_from = rw (first_is f) c.chosen_from;
        chosen_to = c.chosen_to;
        chosen = ap conf_id c.chosen;
        anew = λ anew. ap conf_id (c.prompt (retargets spec.policy anew));
      }

  pub halts_in_time : (f : ℕ) (from : ConfId) (halting : Option ConfId) (to : ConfId) (since : ℕ) → f ≤ script.frames → decided spec script f ≡ kmode.Moving from halting to since
      → HaltsInTime spec script f from halting to since
  halts_in_time f from halting to since inside moving =
      moved _ _ (ap (λ n. since + n) (frames_same spec halting)) (sym (first_is f)) (since_is f) (central f from halting to since inside moving).halted

  pub settles_in_time : (f : ℕ) (from : ConfId) (halting : Option ConfId) (to : ConfId) (since : ℕ) → f ≤ script.frames → decided spec script f ≡ kmode.Moving from halting to since
      → SettlesInTime spec script f from halting to since
  settles_in_time f from halting to since inside moving = rw (← frames_same spec halting) (central f from halting to since inside moving).settled

  pub few_changes : (f : ℕ) (from : ConfId) (halting : Option ConfId) (to : ConfId) (since : ℕ) → f ≤ script.frames → decided spec script f ≡ kmode.Moving from halting to since
      → SeesFewChanges spec script f from halting to since
  few_changes f from halting to since inside moving = rw (← since_is f, ← further_same spec.policy spec.changes) (central f from halting to since inside moving).few

pub all_hold : IsKnown → ReconfigurationsAreAssured
all_hold known spec script sound mission = holds_all known spec script sound mission

pub calm_settles : IsKnown → CalmSettles
calm_settles known spec script sound mission t row calm =
    settled spec script sound t row calm (accepted known spec script sound mission) (within known spec script sound mission) (is_flown known spec script sound mission)

pub targets_are_chosen : IsKnown → TargetsAreChosen
targets_are_chosen known spec script sound mission = target_chosen known spec script sound mission

pub halting_ends_in_time : IsKnown → HaltingEndsInTime
halting_ends_in_time known spec script sound mission = halts_in_time known spec script sound mission

pub phases_are_past_in_time : IsKnown → PhasesArePastInTime
phases_are_past_in_time known spec script sound mission = settles_in_time known spec script sound mission

pub further_changes_are_few : IsKnown → FurtherChangesAreFew
further_changes_are_few known spec script sound mission = few_changes known spec script sound mission
