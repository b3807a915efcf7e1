use Rattle.std.proofs.Common.{refl}
use Rattle.reconf_spec.proofs.table.WriterWritesPrecondition.value.Goals as goal

pub returns : goal.returns
returns c =
    rw (
      c.into_value.ensures,
      c.in_ok-object.ensures,
      c.in_ok-integer-2.ensures,
      c.in_ok-integer.ensures,
      c.in_ok-text-2.ensures,
      c.in_ok-text.ensures,
      c.new.ensures,
      c.app_name-app.ensures.name,
      c.conf_name-conf.ensures.name,
      c.name_of_variable-variable.ensures,
      c.items-apps.ensures,
      ← c.spec.view_is,
    ) refl
