-- The lines that are printed for a script that is refused.
use Rattle.std.specs.Prelude.{ℕ, List, ◌++◌, codes, decimal}
use Rattle.scram_doc.specs.declared.fault.DocFault.{DocFault}
use Rattle.fault_script.specs.declared.assumption.Outside.{Outside}
use Rattle.fault_script.specs.declared.assumption.OutsideKind.{OutsideKind}
use Rattle.fault_script.specs.declared.assumption.OutsideKind.TheVariants.{Halts, Changes}
use Rattle.form_base.specs.Lines.{rule_text}

-- The line for a script document that breaks a rule.
abbrev pub script_line : DocFault → List ℕ
script_line fault = codes "refused: script" ++ rule_text fault.rule fault.path ++ codes "\n"

-- The word for the way in which a script violates the failure assumption.
abbrev pub outside_kind_text : OutsideKind → List ℕ
outside_kind_text Halts = codes "halts"
outside_kind_text Changes = codes "changes"

-- The line for a script that violates the failure assumption.
abbrev pub outside_line : Outside → List ℕ
outside_line outside = codes "refused: outside at frame " ++ decimal outside.frame ++ codes ": " ++ outside_kind_text outside.kind ++ codes "\n"
