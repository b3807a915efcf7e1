use Rattle.std.proofs.Common.{rules}
use Rattle.picture_form.proofs.spans.make_lane_span.Goals as goal

pub returns-else-has_bit : goal.returns-else-has_bit
returns-else-has_bit c = search rules
