use Rattle.std.proofs.Common.{refl}
use Rattle.fault_script.proofs.writing.WriterWritesChange.value.Goals as goal

pub returns : goal.returns
returns c =
    rw (
      c.into_value.ensures,
      c.in_ok-object.ensures,
      c.in_ok-text.ensures,
      c.in_ok-count.ensures,
      c.new.ensures,
      c.new_value_name-value.ensures.name,
      c.factor_name-factor.ensures.name,
    ) refl
