use Rattle.std.proofs.Common.{◌≡◌, Ok}
use Rattle.spec_reading.specs.Documents.{spec_of}
use Rattle.reconf_spec.specs.Texts.{spec_text}
use Rattle.mission_gen.specs.Specifications.{uav_text}
use Rattle.mission_gen.proofs.Reading.{if_ok_more, uav_canonical, uav_given}
use Rattle.mission_gen.proofs.missions.uav.Goals as goal

pub read_text-requires : goal.read_text-requires
read_text-requires c = rw c.uav.ensures uav_given

pub returns-clause-canonical : goal.returns-clause-canonical
returns-clause-canonical c =
    if_ok_more (λ spec. spec_of uav_text ≡ Ok spec) (λ spec. spec_text spec ≡ uav_text) _ uav_canonical (rw (← c.uav.ensures) c.read_text.ensures)
