-- The results of the JSON crate agree with the value that bytes encode.
use Rattle.std.proofs.Common.{◌≡◌, ℕ, Bool, true, false, List, [], refl}
use Rattle.std.specs.Prelude.{Option, Some, None, IsUtf8, cond, Ok}
use Rattle.std.specs.Str.{is_utf8}
use Rattle.std.proofs.lemmas.Str.{IsUtf8-from_is_utf8, is_utf8-from_IsUtf8}
use Rattle.serde_json.specs.Data.{Data}
use Rattle.serde_json.specs.Read.{read}
use Rattle.scram_doc.specs.declared.rule.TheConstants.{NO_JSON_TEXT}
use Rattle.scram_doc.specs.Documents.{document, parsed}
use Rattle.scram_doc.specs.Faults.{broken}

-- If bytes are UTF-8 and a value is read from them, they encode that value.
pub document-some : (bytes : List ℕ) (d : Data) → IsUtf8 bytes → read bytes ≡ Some d → document bytes ≡ Some d
document-some bytes d utf8 value = rw (is_utf8-from_IsUtf8 bytes utf8) value

cond-none : (test : Bool) (o : Option Data) → (test ≡ true → o ≡ None) → cond test o None ≡ None
cond-none true o none = none refl
cond-none false o none = refl

-- If no value is read from bytes that are UTF-8, they encode no value.
pub document-none : (bytes : List ℕ) → (IsUtf8 bytes → read bytes ≡ None) → document bytes ≡ None
document-none bytes none = cond-none (is_utf8 bytes) (read bytes) (λ e. none (IsUtf8-from_is_utf8 bytes e))

pub parsed-some : (bytes : List ℕ) (d : Data) → IsUtf8 bytes → read bytes ≡ Some d → parsed bytes ≡ Ok d
parsed-some bytes d utf8 value = rw (document-some bytes d utf8 value) refl

pub parsed-none : (bytes : List ℕ) → (IsUtf8 bytes → read bytes ≡ None) → parsed bytes ≡ broken NO_JSON_TEXT []
parsed-none bytes none = rw (document-none bytes none) refl
