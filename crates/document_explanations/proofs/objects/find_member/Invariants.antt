use Rattle.std.proofs.Common.{◌≡◌, drop, map}
use Rattle.document_explanations.specs.Objects.{member_named, member_read, known_members}
use Rattle.document_explanations.proofs.objects.find_member.Given as goal

abbrev pub invariant-loop-member : goal.invariant-loop-member
invariant-loop-member l =
    member_named (map member_read (drop l.member-index l.member-items)) l.name ≡ member_named (known_members l.fn.object) l.name
