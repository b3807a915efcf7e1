-- Processors with their last drafts.
use Rattle.std.specs.Prelude.{◌<◌, length, IfSome, All, List}
use Rattle.crossbeam_utils.specs.declared.cache_padded.CachePadded.{CachePadded}
use Rattle.coverage_check.specs.Missions.{MissionParts}
use Rattle.fail_stop.specs.Flyers.{unit_proc}
use Rattle.lock_deck.specs.declared.members.Member.{Member}
use Rattle.lock_deck.specs.SharedCores.{IsDraftOf}

-- The processor exists in the mission. Its last draft, if there is one, is the draft that the processor makes in the
-- draft's frame of the mission.
pub record MemberFits {X : Type 0} {Y : X → Type 0} (mission : MissionParts) (member : Member X Y) : Type 0 where
  pub known : unit_proc member.flyer.unit < length mission.spec.procs
  pub drafted : IfSome member.drafted (IsDraftOf mission (unit_proc member.flyer.unit))

-- Each processor in the list satisfies `MemberFits`. The processors are padded to cache lines.
abbrev pub AreMembersOf : {X : Type 0} {Y : X → Type 0} → MissionParts → List (CachePadded (Member X Y)) → Type 0
AreMembersOf {X = X} {Y = Y} mission members = All (λ (member : CachePadded (Member X Y)). MemberFits mission member.value) members
