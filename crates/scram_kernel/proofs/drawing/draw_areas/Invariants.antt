use Rattle.frame_model.proofs.Eights.{AreStill, Filled}
use Rattle.scram_kernel.proofs.Areas.{area_by_tasks}
use Rattle.scram_kernel.proofs.drawing.draw_areas.Given as goal

abbrev pub invariant-loop-a : goal.invariant-loop-a
invariant-loop-a l = record {
  drawn : Filled (area_by_tasks l.tasks l.image.frame l.stored.marks.now l.stored.images.now l.fn.areas) l.areas l.a;
  still : AreStill l.fn.areas l.areas l.a;
}
