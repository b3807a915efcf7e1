-- The call is listed among the remaining numbers exactly if it is listed in the whole list.
use Rattle.std.proofs.Common.{◌≡◌, drop}
use Rattle.scram_io.specs.Memory.{is_listed}
use Rattle.scram_io.proofs.listed.is_listed_call.Given as goal

abbrev pub invariant-loop-number : goal.invariant-loop-number
invariant-loop-number l = is_listed (drop l.number-index l.failing) l.call ≡ is_listed l.failing l.call
