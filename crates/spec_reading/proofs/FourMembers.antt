-- Where four members are found together, each is found.
use Rattle.std.proofs.Common.{◌≡◌, ℕ, List, [], ◌∷◌, refl, ap}
use Rattle.std.specs.Prelude.{Result, Ok, Err, ⊤}
use Rattle.serde_json.specs.Data.{Data}
use Rattle.scram_doc.specs.declared.fault.DocFault.{DocFault}
use Rattle.scram_doc.specs.Chain.{chain, ok_map}
use Rattle.scram_doc.specs.Members.{required_at, required_four_at}
use Rattle.spec_reading.specs.Versions.{each_needed}

abbrev pub Four : Type 0
Four = Data × Data × Data × Data

abbrev four : (p q r s : Result Data DocFault) → Result Four DocFault
four p q r s = chain p (λ (a : Data). chain q (λ (b : Data). chain r (λ (c : Data). chain s (λ (d : Data). Ok (a, b, c, d)))))

tested : (p q r s : Result Data DocFault) → ok_map (λ (_ : Four). tt {0}) (four p q r s)
    ≡ chain {B = ⊤} p (λ (_ : Data). chain q (λ (_ : Data). chain r (λ (_ : Data). chain s (λ (_ : Data). Ok tt))))
tested (Ok a) (Ok b) (Ok c) (Ok d) = refl
tested (Ok a) (Ok b) (Ok c) (Err e) = refl
tested (Ok a) (Ok b) (Err e) s = refl
tested (Ok a) (Err e) r s = refl
tested (Err e) q r s = refl

found : (p q r s : Result Data DocFault) (a b c d : Data) → Ok (a, b, c, d) ≡ four p q r s
    → (p ≡ Ok a) × (q ≡ Ok b) × (r ≡ Ok c) × (s ≡ Ok d)
found (Ok x) (Ok y) (Ok z) (Ok w) a b c d e =
    let same : (x, y, z, w) ≡ (a, b, c, d) = cc in
    (ap (λ (t : Four). Ok t.0) same, ap (λ (t : Four). Ok t.1) same, ap (λ (t : Four). Ok t.2) same, ap (λ (t : Four). Ok t.3) same)
found (Ok x) (Ok y) (Ok z) (Err f) a b c d e = absurd (cc)
found (Ok x) (Ok y) (Err f) s a b c d e = absurd (cc)
found (Ok x) (Err f) r s a b c d e = absurd (cc)
found (Err f) q r s a b c d e = absurd (cc)

pub four_tested : (l m n o : List ℕ) (d : Data) → ok_map (λ (_ : Four). tt {0}) (required_four_at l m n o [] d) ≡ each_needed (l ∷ m ∷ n ∷ o ∷ []) d
four_tested l m n o d = tested (required_at l [] d) (required_at m [] d) (required_at n [] d) (required_at o [] d)

pub four_found : (l m n o : List ℕ) (x a b c d : Data) → Ok (a, b, c, d) ≡ required_four_at l m n o [] x
    → (required_at l [] x ≡ Ok a) × (required_at m [] x ≡ Ok b) × (required_at n [] x ≡ Ok c) × (required_at o [] x ≡ Ok d)
four_found l m n o x = found (required_at l [] x) (required_at m [] x) (required_at n [] x) (required_at o [] x)
