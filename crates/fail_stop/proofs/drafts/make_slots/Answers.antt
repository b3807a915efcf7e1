use Rattle.std.proofs.Common.{◌≡◌, ◌∙◌, ◌+◌, ℕ, rules, ap, arith, refl, subst, sym, true, false}
use Rattle.scram_types.specs.Lookups.{kind_of_app}
use Rattle.app_model.specs.Law.{law}
use Rattle.frame_model.specs.Flights.{is_proc}
use Rattle.frame_model.specs.States.{ShowAlike, area_at}
use Rattle.fail_stop.specs.Drafts.{areas_shown, slot_made, task_among}
use Rattle.fail_stop.proofs.Drafting.{MadeBelow, all_made, one_kept, one_made}
use Rattle.fail_stop.proofs.drafts.make_slots.Goals.{then-hosts, else-hosts}
use Rattle.fail_stop.proofs.drafts.make_slots.Goals as goal

pub loop-a-preserved : goal.loop-a-preserved
loop-a-preserved g c =
    let s = c.args.setting.now in
    let slot = slot_made s.spec.now s.tasks c.args.seen.now (areas_shown s.snap.now) c.args.image.now c.args.proc.0 in
    record {
      long = search rules;
      alike = elim c.if-hosts.branch [
        | then-hosts w ↦
            subst (ShowAlike c.args.seen.now) (sym w.seen-is) (λ mode own. w.area_drafted-area.ensures.seen mode own ∙ c.loop-a.invariant.alike mode own)
        | else-hosts w ↦ subst (ShowAlike c.args.seen.now) (sym w.seen-is) c.loop-a.invariant.alike
      ];
      made = elim c.if-hosts.branch [
        | then-hosts w ↦
            let yes : is_proc c.args.proc.0 (task_among s.tasks c.loop-a.a).proc ≡ true = search rules in
            let task = task_among s.tasks c.loop-a.a in
            let same = ap (law (kind_of_app s.spec.now c.loop-a.a) task.order) (c.loop-a.invariant.alike task.mode (area_at (areas_shown s.snap.now) c.loop-a.a)) in
            let is : w.area_drafted-area.result ≡ slot c.loop-a.a = w.area_drafted-area.ensures.area ∙ same ∙ rw yes refl in
            subst (MadeBelow slot (c.loop-a.a + 1) c.args.image.now) (sym w.image-is) (one_made slot c.loop-a.a w.area_drafted-area.result c.args.image.now c.loop-a.image w.put_slot.new.image c.loop-a.invariant.made is w.put_slot.ensures.slots)
        | else-hosts w ↦
            let no : is_proc c.args.proc.0 (task_among s.tasks c.loop-a.a).proc ≡ false = search rules in
            subst (MadeBelow slot (c.loop-a.a + 1) c.args.image.now) (sym w.image-is) (one_kept slot c.loop-a.a c.args.image.now c.loop-a.image c.loop-a.invariant.made (rw no refl))
      ];
    }

pub returns : goal.returns
returns g c =
    let s = c.args.setting.now in
    let slot = slot_made s.spec.now s.tasks c.args.seen.now (areas_shown s.snap.now) c.args.image.now c.args.proc.0 in
    let last : c.loop-a.a ≡ 8 = omega arith in
    record { image = all_made slot c.args.image.now c.loop-a.image c.loop-a.invariant.long (subst (λ (n : ℕ). MadeBelow slot n c.args.image.now c.loop-a.image) last c.loop-a.invariant.made) }
