use Rattle.std.proofs.Common.{◌%◌, length}
use Rattle.std.proofs.lemmas.Nat.{mod_below}
use Rattle.std.proofs.lemmas.Option.{slice_get-get_or}
use Rattle.fault_family.proofs.Numbered.{candidate_frame, candidate_is, some_kind}
use Rattle.fault_family.proofs.candidates.candidate.Goals as goal

pub nonzero_div-k : goal.nonzero_div-k
nonzero_div-k c = rw (c.requires.kinds) (some_kind c.args.spec.now c.args.before.now c.args.k c.requires.k)

pub nonzero_rem-result : goal.nonzero_rem-result
nonzero_rem-result c = rw (c.requires.kinds) (some_kind c.args.spec.now c.args.before.now c.args.k c.requires.k)

pub frame_after-requires-clause-i : goal.frame_after-requires-clause-i
frame_after-requires-clause-i c = rw (c.requires.kinds) (candidate_frame c.args.spec.now c.args.before.now c.args.k c.requires.k)

pub bounds-kinds-k : goal.bounds-kinds-k
bounds-kinds-k c = mod_below c.args.k (length c.args.kinds.now) (rw (c.requires.kinds) (some_kind c.args.spec.now c.args.before.now c.args.k c.requires.k))

pub returns-clause-fault : goal.returns-clause-fault
returns-clause-fault c =
    candidate_is c.args.spec.now c.args.before.now c.args.k c.frame_after.result _
    (rw (← c.requires.kinds) c.frame_after.ensures.value)
    (rw (← c.requires.kinds) (slice_get-get_or c.args.kinds.now (c.args.k % length c.args.kinds.now) _
    (mod_below c.args.k (length c.args.kinds.now) (rw (c.requires.kinds) (some_kind c.args.spec.now c.args.before.now c.args.k c.requires.k)))))
