use Rattle.std.proofs.Common.{refl}
use Rattle.fault_script.proofs.writing.WriterWritesHaltAt.value.Goals as goal

pub returns : goal.returns
returns c =
    rw (
      c.into_value.ensures,
      c.in_ok-object.ensures,
      c.in_ok-count.ensures,
      c.in_ok-text.ensures,
      c.new.ensures,
      c.proc_name-proc.ensures.name,
      c.from.ensures,
    ) refl
