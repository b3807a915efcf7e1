-- A document that breaks a rule after its applications have been ranked has no cycle of needs.
use Rattle.std.proofs.Common.{◌≡◌, [], refl, List}
use Rattle.std.specs.Prelude.{Result, Ok, Err}
use Rattle.serde_json.specs.Data.{Data}
use Rattle.scram_types.specs.declared.specification.AppSpec.{AppSpec}
use Rattle.scram_doc.specs.declared.fault.DocFault.{DocFault}
use Rattle.scram_doc.specs.declared.fault.DocError.{DocError}
use Rattle.scram_doc.specs.declared.fault.DocError.TheVariants.{Fault, NoMemory}
use Rattle.spec_reading.specs.Versions.{members_tested}
use Rattle.spec_reading.specs.Answers.{HasNoCycle, NamedAmong, ShowsCycle, plain_error}
use Rattle.spec_reading.specs.Documents.{unranked_in, unranked_names_in}

names_none : (unranked : Result (List AppSpec) DocFault) → NamedAmong unranked [] []
names_none (Err fault) = refl
names_none (Ok apps) = refl

pub shows_none : (d : Data) (error : DocError) → members_tested d ≡ Ok tt → HasNoCycle (unranked_names_in d) → ShowsCycle (unranked_in d) (plain_error error)
shows_none d NoMemory tested none = tt
shows_none d (Fault fault) tested none = rw (tested) (none, names_none (unranked_names_in d))
