use Rattle.std.proofs.Common.{append_assoc}
use Rattle.trace_forms.proofs.columns_form.fields.add_mode_fields.Goals as goal

pub returns-in-Moving-clause-text : goal.returns-in-Moving-clause-text
returns-in-Moving-clause-text c =
    rw (c.in-Moving.is, c.number.ensures.text, c.text-in-Moving-6.ensures.text, c.text-in-Moving-5.ensures.text, c.as_bytes-in-Moving-2.ensures.value, c.conf_name-in-Moving-2.ensures.name, c.text-in-Moving-4.ensures.text, c.add_conf_field.ensures.text, c.text-in-Moving-3.ensures.text, c.text-in-Moving-2.ensures.text, c.as_bytes-in-Moving.ensures.value, c.conf_name-in-Moving.ensures.name, c.text-in-Moving.ensures.text) (simp append_assoc)
