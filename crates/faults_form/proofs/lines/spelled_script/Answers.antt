use Rattle.std.proofs.Common.{append_assoc, arith, refl}
use Rattle.faults_form.proofs.Spelled.{counted}
use Rattle.faults_form.proofs.lines.spelled_script.Goals as goal

pub add_changes-requires : goal.add_changes-requires
add_changes-requires c =
    let count = counted c.args.script.now.faults.now in
    omega (arith, count, c.requires, c.open_line-line.ensures.short)

pub add_frames-requires : goal.add_frames-requires
add_frames-requires c =
    let count = counted c.args.script.now.faults.now in
    omega (arith, count, c.requires, c.open_line-line.ensures.short, c.add_changes.ensures.short)

pub add_halts-requires : goal.add_halts-requires
add_halts-requires c =
    let count = counted c.args.script.now.faults.now in
    omega (arith, count, c.requires, c.open_line-line.ensures.short, c.add_changes.ensures.short, c.add_frames.ensures.short)

pub add_version-requires : goal.add_version-requires
add_version-requires c =
    let count = counted c.args.script.now.faults.now in
    omega (arith, count, c.requires, c.open_line-line.ensures.short, c.add_changes.ensures.short, c.add_frames.ensures.short, c.add_halts.ensures.short)

pub returns : goal.returns
returns c = rw (c.add_version.ensures.text, c.add_halts.ensures.text, c.add_frames.ensures.text, c.add_changes.ensures.text, c.open_line-line.ensures.text) (simp append_assoc refl)
