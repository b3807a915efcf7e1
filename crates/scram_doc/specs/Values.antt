-- Lists, strings and whole numbers of a document.
use Rattle.std.specs.Prelude.{ℕ, ℤ, int_le, ◌&&◌, List, Option, Some, None, Result, Ok, nat_le, nat_lt, option_and_then, if◌then◌else◌}
use Rattle.serde_json.specs.Data.{Data, Items}
use Rattle.serde_json.specs.Find.{as_number, as_str, as_array, as_u64, as_i64}
use Rattle.serde_json.specs.Events.{items_len}
use Rattle.scram_doc.specs.declared.fault.DocFault.{DocFault}
use Rattle.scram_doc.specs.declared.rule.TheConstants.{NO_LIST, WRONG_LENGTH, NO_TEXT, NO_NUMBER_IN_RANGE}
use Rattle.scram_doc.specs.Chain.{chain}
use Rattle.scram_doc.specs.Faults.{broken, or_broken}

-- The elements, if their number is from `least` to `most`. Rule 6 is broken at the path otherwise.
abbrev pub items_within : ℕ → ℕ → List ℕ → Items → Result Items DocFault
items_within least most at ds = if nat_le least (items_len ds) && nat_le (items_len ds) most then Ok ds else broken WRONG_LENGTH at

-- The elements of the list at a path, if their number is from `least` to `most`. Rule 5 is broken at the path if the
-- value is not a list, and rule 6 if the number is out of range.
abbrev pub list_at : ℕ → ℕ → List ℕ → Data → Result Items DocFault
list_at least most at d = chain (or_broken NO_LIST at (as_array d)) (λ (ds : Items). items_within least most at ds)

-- The text of the string at a path. Rule 7 is broken at the path if the value is not a string.
abbrev pub text_at : List ℕ → Data → Result (List ℕ) DocFault
text_at at d = or_broken NO_TEXT at (as_str d)

-- The number `n`, or `None` if it is not from `least` to `most`, both inclusive.
abbrev pub int_within : ℤ → ℤ → ℤ → Option ℤ
int_within least most n = if int_le least n && int_le n most then Some n else None

-- The whole number at a path, if it is from `least` to `most`, both inclusive. Rule 8 is broken at the path
-- otherwise.
abbrev pub int_at : ℤ → ℤ → List ℕ → Data → Result ℤ DocFault
int_at least most at d = or_broken NO_NUMBER_IN_RANGE at (option_and_then (int_within least most) (option_and_then as_i64 (as_number d)))

-- The number `n`, or `None` if it is below `least` or not below `end`.
abbrev pub whole_below : ℕ → ℕ → ℕ → Option ℕ
whole_below least end n = if nat_le least n && nat_lt n end then Some n else None

-- The whole number at a path, if it is at least `least` and below `end`. Rule 8 is broken at the path otherwise.
abbrev pub whole_at : ℕ → ℕ → List ℕ → Data → Result ℕ DocFault
whole_at least end at d = or_broken NO_NUMBER_IN_RANGE at (option_and_then (whole_below least end) (option_and_then as_u64 (as_number d)))
