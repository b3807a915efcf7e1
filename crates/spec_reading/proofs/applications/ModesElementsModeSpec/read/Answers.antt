use Rattle.std.proofs.Common.{◌<◌, arith, refl, rules}
use Rattle.kind_table.proofs.Spelling.{all_names_agree}
use Rattle.spec_reading.proofs.applications.ModesElementsModeSpec.read.Goals as goal

-- A mode whose name is found is one of the kind's modes.
pub returns-clause-fits : goal.returns-clause-fits
returns-clause-fits c =
    let listed = c.in_ok-mode-2.ensures.of_kind in
    let load = c.in_ok-load.ensures.end in
    let of_kind = λ (below : c.args.self.now.kind.0 < 6). (all_names_agree.each c.args.self.now.kind.0 below).mode_number listed.text c.in_ok-mode-2.mode.0 listed.there in
    record {
      new = c.in_ok-mode-2.ensures.new;
      is = λ below. record {
        on = (of_kind below).first;
        of_kind = (of_kind below).last;
        load = omega (arith, load);
        halt = record { least = c.in_ok-halt.ensures.least; most = c.in_ok-halt.ensures.most };
        prepare = record { least = c.in_ok-prepare.ensures.least; most = c.in_ok-prepare.ensures.most };
        init = record { least = c.in_ok-init.ensures.least; most = c.in_ok-init.ensures.most };
      };
    }

pub returns-in_err-mode-clause-value : goal.returns-in_err-mode-clause-value
returns-in_err-mode-clause-value c = rw (← c.in_err-mode.ensures) (search rules)

pub returns-in_err-mode-2-clause-value : goal.returns-in_err-mode-2-clause-value
returns-in_err-mode-2-clause-value c =
    rw (← c.in_ok-mode.ensures, ← c.member.ensures.path, ← c.in_err-mode-2.ensures.value) (search rules)

pub returns-in_err-load-clause-value : goal.returns-in_err-load-clause-value
returns-in_err-load-clause-value c =
    rw (← c.in_ok-mode.ensures, ← c.member.ensures.path, ← c.in_ok-mode-2.ensures.value, ← c.member-2.ensures.path, ← c.in_err-load.ensures.value) (search rules)

pub returns-in_err-halt-clause-value : goal.returns-in_err-halt-clause-value
returns-in_err-halt-clause-value c =
    rw (← c.in_ok-mode.ensures, ← c.member.ensures.path, ← c.in_ok-mode-2.ensures.value, ← c.member-2.ensures.path, ← c.in_ok-load.ensures.value, ← c.member-3.ensures.path, ← c.in_err-halt.ensures.value) (search rules)

pub returns-in_err-prepare-clause-value : goal.returns-in_err-prepare-clause-value
returns-in_err-prepare-clause-value c =
    rw (← c.in_ok-mode.ensures, ← c.member.ensures.path, ← c.in_ok-mode-2.ensures.value, ← c.member-2.ensures.path, ← c.in_ok-load.ensures.value, ← c.member-3.ensures.path, ← c.in_ok-halt.ensures.value, ← c.member-4.ensures.path, ← c.in_err-prepare.ensures.value) (search rules)

pub returns-in_err-init-clause-value : goal.returns-in_err-init-clause-value
returns-in_err-init-clause-value c =
    rw (← c.in_ok-mode.ensures, ← c.member.ensures.path, ← c.in_ok-mode-2.ensures.value, ← c.member-2.ensures.path, ← c.in_ok-load.ensures.value, ← c.member-3.ensures.path, ← c.in_ok-halt.ensures.value, ← c.member-4.ensures.path, ← c.in_ok-prepare.ensures.value, ← c.member-5.ensures.path, ← c.in_err-init.ensures.value) (search rules)

pub returns-clause-value : goal.returns-clause-value
returns-clause-value c =
    rw (← c.in_ok-mode.ensures, ← c.member.ensures.path, ← c.in_ok-mode-2.ensures.value, ← c.member-2.ensures.path, ← c.in_ok-load.ensures.value, ← c.member-3.ensures.path, ← c.in_ok-halt.ensures.value, ← c.member-4.ensures.path, ← c.in_ok-prepare.ensures.value, ← c.member-5.ensures.path, ← c.in_ok-init.ensures.value) refl
