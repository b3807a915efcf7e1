-- Lemmas on prefixes of the list of all rows.
use Rattle.std.proofs.Common.{◌≡◌, ◌∙◌, ℕ, zero, suc, ◌≤◌, refl, subst, sym, arith, List, [], ◌∷◌, ◌⊎◌}
use mathlib.Core.Logic.{inl, inr}
use Rattle.std.specs.Prelude.{ℤ, take}
use Rattle.std.proofs.Math.Seq.{take-length}
use Rattle.std.proofs.lemmas.List.{take-append-le}
use Rattle.scram_types.specs.declared.rows.Report.{Report}
use Rattle.scram_types.specs.declared.rows.Row.{Row}
use Rattle.scram_types.specs.Scripts.{ScriptParts}
use Rattle.scram_types.specs.Specification.{Parts}
use Rattle.bank_words.specs.declared.images.KernelImage.{KernelImage}
use Rattle.fault_script.specs.declared.walks.Walk.{Walk}
use Rattle.frame_model.specs.declared.readings.Reading.{Reading}
use Rattle.scram_types.specs.Searches.{listed_below}
use Rattle.frame_model.specs.Flights.{row_at, rows_of}
use Rattle.scram_types.proofs.Searches.{length_listed}
use Rattle.scram_kernel.specs.Kernels.{KernelKeeps, KernelParts, kernel_after}

last_or_below : (m n : ℕ) → m ≤ suc n → (m ≡ suc n) ⊎ (m ≤ n)
last_or_below m n le = grind arith

take_listed : (value : ℕ → Row) (m n : ℕ) → m ≤ n → take m (listed_below value n) ≡ listed_below value m
take_listed value m zero le = let e : m ≡ 0 = omega arith in rw e refl
take_listed value m (suc n) le = elim (last_or_below m n le) [
  | inl last ↦ rw last (subst (λ k. take k (listed_below value (suc n)) ≡ listed_below value (suc n)) (length_listed value (suc n)) (take-length (listed_below value (suc n))))
  | inr below ↦
      let long = length_listed value n in
      take-append-le m (listed_below value n) (value n ∷ []) (rw long below) ∙ take_listed value m n below
]

-- The rows of a kernel are a prefix of all rows.
pub are_first : {spec : Parts} {script : ScriptParts} {walk : Walk} {image : KernelImage} {areas : List (List ℤ)} {reading : Reading} {rows : List Row} {reports : List Report} {rows_room reports_room rows_count reports_count : ℕ}
    → KernelKeeps spec script walk image areas reading rows reports rows_room reports_room rows_count reports_count → (k : KernelParts) → kernel_after spec script image.frame ≡ k
    → rows ≡ take k.past (rows_of k.spec k.script)
are_first {spec} {script} {image = image} {rows = rows} i k is =
    subst (λ (k : KernelParts). rows ≡ take k.past (rows_of k.spec k.script)) is
    (i.stands.rows_are ∙ sym (take_listed (row_at spec script) image.frame script.frames i.room.within))
