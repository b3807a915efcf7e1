use Rattle.scram_doc.proofs.Parsed.{parsed-some, parsed-none}
use Rattle.scram_doc.proofs.document.parse.Goals as goal

pub returns-in-Ok : goal.returns-in-Ok
returns-in-Ok c = parsed-some c.args.bytes.now _ c.in-Ok.ensures.ok.0 c.in-Ok.ensures.ok.1

pub returns-in-Err-2 : goal.returns-in-Err-2
returns-in-Err-2 c = let none = parsed-none c.args.bytes.now (c.in-Err.ensures.err (λ m. let e = c.if-is_memory.ensures.1 m in cc)) in rw (c.new.ensures, c.root.ensures) none
