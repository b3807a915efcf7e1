-- Objects that are written member by member.
use Rattle.serde_json.specs.Data.{Members}
use Rattle.serde_json.specs.View.{members_view}
use Rattle.scram_doc.specs.declared.objects.Object.{Object}

-- The members that an object has so far, sorted by their bytes.
abbrev pub members_of : Object → Members
members_of object = members_view object.members.entries
