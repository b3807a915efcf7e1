use Rattle.std.proofs.Common.{◌≤◌, ◌^◌, arith, length, refl, rules}
use Rattle.std.proofs.Math.Nat.{pow-le-pow_right}
use Rattle.spec_reading.proofs.OnSets.{off_apart}
use Rattle.spec_reading.proofs.demands.read_requirements.Goals as goal

pub returns-clause-fits : goal.returns-clause-fits
returns-clause-fits c =
    let off = c.in_ok-off.ensures.below in
    let apart = rw (c.on_set.ensures) at c.in_ok-off.ensures.apart in
    let wide : 2 ^ length c.vocabulary.inside.apps ≤ 2 ^ 8 = pow-le-pow_right (omega arith) c.vocabulary.invariant.apps_fit.count.few in
    rw (← c.vocabulary.view_is) (record {
      up = c.in_ok-up.ensures.below;
      down = c.in_ok-down.ensures.below;
      down_apart = c.in_ok-down.ensures.apart;
      to = c.in_ok-to.ensures.below;
      width = search rules;
      on = c.in_ok-on.ensures.fits;
      off = off;
      off_apart = off_apart c.in_ok-on.on c.in_ok-off.off (omega (arith, wide, off)) apart;
    })

pub returns-in_err-up-clause-value : goal.returns-in_err-up-clause-value
returns-in_err-up-clause-value c =
    rw (← c.vocabulary.view_is, ← c.member.ensures.path, ← c.in_err-up.ensures.value) (search rules)

pub returns-in_err-down-clause-value : goal.returns-in_err-down-clause-value
returns-in_err-down-clause-value c =
    rw (← c.vocabulary.view_is, ← c.member.ensures.path, ← c.in_ok-up.ensures.value, ← c.member-2.ensures.path, ← c.in_err-down.ensures.value) (search rules)

pub returns-in_err-to-clause-value : goal.returns-in_err-to-clause-value
returns-in_err-to-clause-value c =
    rw (← c.vocabulary.view_is, ← c.member.ensures.path, ← c.in_ok-up.ensures.value, ← c.member-2.ensures.path, ← c.in_ok-down.ensures.value, ← c.member-3.ensures.path, ← c.in_err-to.ensures.value) (search rules)

pub returns-in_err-on-clause-value : goal.returns-in_err-on-clause-value
returns-in_err-on-clause-value c =
    rw (← c.vocabulary.view_is, ← c.member.ensures.path, ← c.in_ok-up.ensures.value, ← c.member-2.ensures.path, ← c.in_ok-down.ensures.value, ← c.member-3.ensures.path, ← c.in_ok-to.ensures.value, ← c.member-4.ensures.path, ← c.in_err-on.ensures.value) (search rules)

pub returns-in_err-off-clause-value : goal.returns-in_err-off-clause-value
returns-in_err-off-clause-value c =
    rw (← c.vocabulary.view_is, ← c.member.ensures.path, ← c.in_ok-up.ensures.value, ← c.member-2.ensures.path, ← c.in_ok-down.ensures.value, ← c.member-3.ensures.path, ← c.in_ok-to.ensures.value, ← c.member-4.ensures.path, ← c.in_ok-on.ensures.value, ← c.on_set.ensures, ← c.member-5.ensures.path, ← c.in_err-off.ensures.value) (search rules)

pub returns-clause-value : goal.returns-clause-value
returns-clause-value c =
    rw (← c.vocabulary.view_is, ← c.member.ensures.path, ← c.in_ok-up.ensures.value, ← c.member-2.ensures.path, ← c.in_ok-down.ensures.value, ← c.member-3.ensures.path, ← c.in_ok-to.ensures.value, ← c.member-4.ensures.path, ← c.in_ok-on.ensures.value, ← c.on_set.ensures, ← c.member-5.ensures.path, ← c.in_ok-off.ensures.value) refl

pub read_procs_set-requires-clause-few : goal.read_procs_set-requires-clause-few
read_procs_set-requires-clause-few c = c.vocabulary.invariant.procs_count.few

pub read_procs_set-requires-2-clause-few : goal.read_procs_set-requires-2-clause-few
read_procs_set-requires-2-clause-few c = c.vocabulary.invariant.procs_count.few

pub read_confs_set-requires-clause-few : goal.read_confs_set-requires-clause-few
read_confs_set-requires-clause-few c = c.vocabulary.invariant.confs_count.few

pub read_modes_on-requires-clause-few : goal.read_modes_on-requires-clause-few
read_modes_on-requires-clause-few c = c.vocabulary.invariant.apps_fit.count.few

pub read_apps_set-requires-clause-few : goal.read_apps_set-requires-clause-few
read_apps_set-requires-clause-few c = c.vocabulary.invariant.apps_fit.count.few
