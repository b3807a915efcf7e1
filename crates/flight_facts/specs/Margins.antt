-- The margin of a reconfiguration: its bound minus its length.
use Rattle.std.specs.Prelude.{ℕ, pos, ◌-◌, ◌-ℤ◌, List, Option, Some, None, codes}
use Rattle.std.specs.Fmt.{signed_decimal}
use Rattle.scram_types.specs.Specification.{Parts, bound_in, greatest_bound_in}
use Rattle.scram_types.specs.declared.rows.Report.{Report}
use Rattle.scram_types.specs.declared.ids.ConfId.{ConfId}

-- The bound on a reconfiguration from a source to a target, or `None` if none is given. Without a target, the
-- reconfiguration is unfinished, and the value is the greatest bound from the source.
abbrev pub bound_to : Parts → ConfId → Option ConfId → Option ℕ
bound_to spec from None = greatest_bound_in spec.bounds from.0
bound_to spec from (Some to) = bound_in spec.bounds from.0 to.0

-- The bound on a reconfiguration, or `None` if none is given. For an unfinished reconfiguration, the bound is the
-- greatest bound from its source.
abbrev pub bound_of : Parts → Report → Option ℕ
bound_of spec report = bound_to spec report.from report.to

-- The text of a bound minus the number `took` of frames that a reconfiguration took, or `-` if there is no bound. The
-- difference is negative if more frames were taken than the bound allows.
abbrev pub margin_text : Option ℕ → ℕ → List ℕ
margin_text None took = codes "-"
margin_text (Some bound) took = signed_decimal (pos bound -ℤ pos took)

-- The text of the margin of a reconfiguration, or `-` if there is no bound.
abbrev pub margin_of : Parts → Report → List ℕ
margin_of spec report = margin_text (bound_of spec report) (report.end - report.begin)
