use Rattle.document_explanations.specs.Objects.{member_read}
use Rattle.document_explanations.specs.Wants.{member_wanted}
use Rattle.document_explanations.proofs.Listing.{listed_read}
use Rattle.document_explanations.proofs.wants.add_wanted.Goals as goal

pub returns-in-Object : goal.returns-in-Object
returns-in-Object c = rw (c.in-Object.is) (rw (listed_read member_wanted member_read c.known_members.result.now _ c.known_members.ensures) at c.add_listed.ensures)
