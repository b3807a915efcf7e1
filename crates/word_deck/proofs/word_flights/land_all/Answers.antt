use Rattle.std.proofs.Common.{rules, ◌≡◌, ◌∙◌, ap, subst, sym, length}
use Rattle.coverage_check.specs.Missions.{MissionParts}
use Rattle.frame_model.specs.Flights.{reports_of, rows_of}
use Rattle.scram_kernel.specs.Kernels.{KernelParts, kernel_after}
use Rattle.word_deck.specs.Kernels.{IsKernelDone}
use Rattle.word_deck.proofs.Outcomes.{all_hold, few_told, landed_seats}
use Rattle.word_deck.proofs.Watching.{rows_count}
use Rattle.word_deck.proofs.word_flights.land_all.Goals as goal

pub returns-clause-flown : goal.returns-clause-flown
returns-clause-flown g c =
    let mission = c.args.mission.now in
    let flown = c.finish.result in
    let last = c.into_parts-kseat.ensures.kernel (rw c.requires.same c.requires.done) ∙ ap (λ (m : MissionParts). kernel_after m.spec m.script m.script.frames) c.requires.same in
    let rows : flown.rows ≡ rows_of mission.spec mission.script = c.finish.ensures.rows ∙ ap (λ (k : KernelParts). rows_of k.spec k.script) last in
    let told : flown.reports ≡ reports_of mission.spec mission.script = c.finish.ensures.reports ∙ ap (λ (k : KernelParts). reports_of k.spec k.script) last in
    record {
      rows = rows;
      reports = told;
      assured = all_hold mission.spec mission.script flown.rows flown.reports c.reconfigurations_are_assured.ensures c.holds.ensures.spec c.holds.ensures.mission rows told;
      count = rows_count mission flown.rows mission.script.frames rows;
      few = few_told mission.spec mission.script flown.rows flown.reports rows told;
    }

pub returns-clause-seats : goal.returns-clause-seats
returns-clause-seats g c =
    let long : length c.args.seats.items ≡ length c.args.mission.now.spec.procs = search rules in
    landed_seats c.args.resources.words c.args.seats.items c.requires.seats (long ∙ ap (λ mission. length mission.spec.procs) (sym c.requires.mission))

pub finish-requires : goal.finish-requires
finish-requires g c =
    let last = c.into_parts-kseat.ensures.kernel (rw c.requires.same c.requires.done) in
    ap (λ (k : KernelParts). k.past) last ∙ sym (ap (λ (k : KernelParts). k.script.frames) last)

pub returns-clause-kernel_done : goal.returns-clause-kernel_done
returns-clause-kernel_done g c = subst (λ kseat. IsKernelDone c.args.mission.now kseat) (sym c.into_parts-kseat.ensures.seat) c.requires.done
