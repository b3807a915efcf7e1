-- Lemmas on the number of reconfigurations that begin in the first `m` frames.
use Rattle.std.proofs.Common.{◌≡◌, ◌∙◌, ℕ, zero, suc, ◌+◌, ◌-◌, ◌<◌, ◌≤◌, ap, sym, subst, refl, inl, inr, arith, Bool, true, false, List, [], ◌∷◌, ◌++◌, length, append_assoc}
use Rattle.std.specs.Prelude.{Option, Some, None, filter, map, slice_get, take, if◌then◌else◌}
use Rattle.std.proofs.Math.Seq.{take-append_seam}
use Rattle.std.proofs.lemmas.List.{append-nil, length-append, length-map}
use Rattle.std.proofs.lemmas.Option.{slice_get_cases}
use Rattle.scram_types.specs.Searches.{listed_below}
use Rattle.scram_types.specs.Specification.{Parts}
use Rattle.scram_types.specs.declared.rows.Row.{Row}
use Rattle.scram_types.specs.declared.ids.ConfId.{ConfId}
use Rattle.scram_types.specs.declared.orders.Act.{Act}
use Rattle.scram_types.proofs.Naturals.{at_or_below}
use Rattle.scram_types.proofs.Searches.{get_listed, length_listed}
use Rattle.coverage_check.specs.Missions.{MissionParts}
use Rattle.frame_model.specs.declared.readings.Reading.{Reading}
use Rattle.frame_model.specs.declared.readings.Reading.TheVariants.{Steady, Leaving}
use Rattle.frame_model.specs.Flights.{reports_of, row_at, rows_of}
use Rattle.frame_model.specs.Laws.{BeginningsAreRead, beginning, begins_below}
use Rattle.frame_model.specs.Readings.{arrival, arrive, as_list, close, ended, read_row, reading_of, report_of, reports}
use Rattle.frame_model.specs.Runs.{running, runs}
use Rattle.frame_model.proofs.ReadLaws.{row_by_row}
use Rattle.telemetry_tap.specs.Laws.{SummariesGoOn}
use Rattle.telemetry_tap.specs.Summaries.{summary_begun, begun_with, first_rows}

-- Lemmas on the first `m` of `n` rows.
record Front {A : Type 0} (value : ℕ → A) (m n : ℕ) : Type 0 where
  pub back : List A
  pub is : listed_below value n ≡ listed_below value m ++ back

front : {A : Type 0} (value : ℕ → A) (m n : ℕ) → m ≤ n → Front value m n
front value m zero le = let e : m ≡ 0 = omega arith in record { back = []; is = rw e refl }
front value m (suc n) le = elim (at_or_below m n le) [
  | inl below ↦
      let one = front value m n below in
      record { back = one.back ++ value n ∷ []; is = ap (λ l. l ++ value n ∷ []) one.is ∙ append_assoc (listed_below value m) one.back (value n ∷ []) }
  | inr last ↦ record { back = []; is = rw last (sym (append-nil (listed_below value (suc n)))) }
]

take_listed : {A : Type 0} (value : ℕ → A) (m n : ℕ) → m ≤ n → take m (listed_below value n) ≡ listed_below value m
take_listed value m n le =
    let one = front value m n le in
    ap (take m) one.is ∙ ap (λ k. take k (listed_below value m ++ one.back)) (sym (length_listed value m)) ∙ take-append_seam (listed_below value m) one.back

pub first_listed : (mission : MissionParts) (m : ℕ) → m ≤ mission.script.frames → first_rows mission m ≡ listed_below (row_at mission.spec mission.script) m
first_listed mission m le = take_listed (row_at mission.spec mission.script) m mission.script.frames le

pub first_next : (mission : MissionParts) (m : ℕ) → suc m ≤ mission.script.frames → first_rows mission (suc m) ≡ first_rows mission m ++ row_at mission.spec mission.script m ∷ []
first_next mission m le =
    first_listed mission (suc m) le ∙ ap (λ l. l ++ row_at mission.spec mission.script m ∷ []) (sym (first_listed mission m (omega arith)))

first_long : (mission : MissionParts) (m : ℕ) → m ≤ mission.script.frames → length (first_rows mission m) ≡ m
first_long mission m le = ap length (first_listed mission m le) ∙ length_listed (row_at mission.spec mission.script) m

-- Lemmas on the reconfigurations that a row adds.
steady_adds : (c : ConfId) (f n : ℕ) (b : Bool) → 0 + length (as_list (close (if b then Steady c else Leaving c f) n)) ≡ 0 + (if b then 0 else 1)
steady_adds c f n true = refl
steady_adds c f n false = refl

leaving_adds : (c : ConfId) (s f n k : ℕ) (o : Option ConfId) → length (as_list (arrival c s f o)) + length (as_list (close (arrive c s o) n)) ≡ length (as_list (close (Leaving c s) k)) + 0
leaving_adds c s f n k None = refl
leaving_adds c s f n k (Some j) = refl

adds : (spec : Parts) (r : Reading) (f n k : ℕ) (acts : List Act)
    → length (as_list (report_of spec r f acts)) + length (as_list (close (read_row spec r f acts) n)) ≡ length (as_list (close r k)) + begun_with spec r acts
adds spec (Steady c) f n k acts = steady_adds c f n (runs spec acts c)
adds spec (Leaving c s) f n k acts = leaving_adds c s f n k (running spec acts)

one_more : (spec : Parts) (rows : List Row) (row : Row) → length (reports spec (rows ++ row ∷ [])) ≡ length (reports spec rows) + begun_with spec (reading_of spec rows) row.acts
one_more spec rows row =
    let law = row_by_row spec rows row in
    let told = as_list (report_of spec (reading_of spec rows) (length rows) row.acts) in
    let cut = as_list (close (read_row spec (reading_of spec rows) (length rows) row.acts) (length (rows ++ row ∷ []))) in
    let under_way = as_list (close (reading_of spec rows) (length rows)) in
    let parts : length (reports spec (rows ++ row ∷ [])) ≡ length ((ended spec rows ++ told) ++ cut) = rw (law.0, law.1) refl in
    let a = length-append (ended spec rows ++ told) cut in
    let b = length-append (ended spec rows) told in
    let d = length-append (ended spec rows) under_way in
    let e = adds spec (reading_of spec rows) (length rows) (length (rows ++ row ∷ [])) (length rows) row.acts in
    omega (arith, parts, a, b, d, e)

-- The number of reconfigurations that begin in the first `m` frames is the number of reconfigurations read from the
-- first `m` rows. The number is at most `m`.
pub begun_as_read : BeginningsAreRead → (mission : MissionParts) (m : ℕ) → m ≤ mission.script.frames → summary_begun mission m ≡ length (reports mission.spec (first_rows mission m))
begun_as_read law mission m le =
    let rows = listed_below (row_at mission.spec mission.script) m in
    let one = front (row_at mission.spec mission.script) m mission.script.frames le in
    let long = length_listed (row_at mission.spec mission.script) m in
    let read : map beginning (filter (begins_below m) (reports mission.spec (rows ++ one.back))) ≡ map beginning (reports mission.spec rows) =
    subst (λ k. map beginning (filter (begins_below k) (reports mission.spec (rows ++ one.back))) ≡ map beginning (reports mission.spec rows)) long
    (law mission.spec rows one.back) in
    let there = filter (begins_below m) (reports_of mission.spec mission.script) in
    let same : map beginning there ≡ map beginning (reports mission.spec rows) =
    ap (λ list. map beginning (filter (begins_below m) (reports mission.spec list))) one.is ∙ read in
    sym (length-map there beginning) ∙ ap length same ∙ length-map (reports mission.spec rows) beginning
    ∙ ap (λ list. length (reports mission.spec list)) (sym (first_listed mission m le))

pub begun_next : BeginningsAreRead → (mission : MissionParts) (m : ℕ) → suc m ≤ mission.script.frames
    → summary_begun mission (suc m) ≡ summary_begun mission m + begun_with mission.spec (reading_of mission.spec (first_rows mission m)) (row_at mission.spec mission.script m).acts
begun_next law mission m le =
    begun_as_read law mission (suc m) le
    ∙ ap (λ list. length (reports mission.spec list)) (first_next mission m le)
    ∙ one_more mission.spec (first_rows mission m) (row_at mission.spec mission.script m)
    ∙ ap (λ n. n + begun_with mission.spec (reading_of mission.spec (first_rows mission m)) (row_at mission.spec mission.script m).acts) (sym (begun_as_read law mission m (omega arith)))

few_with : (b : Bool) → (if b then 0 else 1) ≤ 1
few_with true = omega arith
few_with false = omega arith

begun_with_few : (spec : Parts) (r : Reading) (acts : List Act) → begun_with spec r acts ≤ 1
begun_with_few spec (Steady c) acts = few_with (runs spec acts c)
begun_with_few spec (Leaving c s) acts = omega arith

pub begun_few : BeginningsAreRead → (mission : MissionParts) (m : ℕ) → m ≤ mission.script.frames → summary_begun mission m ≤ m
begun_few law mission zero le = let e = begun_as_read law mission 0 le in omega (arith, e)
begun_few law mission (suc m) le =
    let before = begun_few law mission m (omega arith) in
    let e = begun_next law mission m le in
    let once = begun_with_few mission.spec (reading_of mission.spec (first_rows mission m)) (row_at mission.spec mission.script m).acts in
    omega (arith, before, e, once)

pub none_begun : BeginningsAreRead → (mission : MissionParts) → 0 ≡ summary_begun mission 0
none_begun law mission = let few = begun_few law mission 0 (omega arith) in omega (arith, few)

-- From one summary to a later one, the number of reconfigurations that have begun does not decrease, and rises by at
-- most 1 with each frame.
goes_on : BeginningsAreRead → (mission : MissionParts) (m k : ℕ) → m + k ≤ mission.script.frames
    → (summary_begun mission m ≤ summary_begun mission (m + k)) × (summary_begun mission (m + k) ≤ summary_begun mission m + k)
goes_on law mission m zero le = let e : m + 0 ≡ m = omega arith in rw e (omega arith, omega arith)
goes_on law mission m (suc k) le =
    let e : m + suc k ≡ suc (m + k) = omega arith in
    let before = goes_on law mission m k (omega arith) in
    let low = before.0 in
    let high = before.1 in
    let next = begun_next law mission (m + k) (omega arith) in
    let once = begun_with_few mission.spec (reading_of mission.spec (first_rows mission (m + k))) (row_at mission.spec mission.script (m + k)).acts in
    rw e (omega (arith, low, next), omega (arith, high, next, once))

pub summaries_go_on : BeginningsAreRead → SummariesGoOn
summaries_go_on law mission m n low high =
    let e : m + (n - m) ≡ n = omega arith in
    subst (λ k. (summary_begun mission m ≤ summary_begun mission k) × (summary_begun mission k ≤ summary_begun mission m + (n - m))) e (goes_on law mission m (n - m) (omega arith))

pub reading_next : (mission : MissionParts) (m : ℕ) → suc m ≤ mission.script.frames
    → reading_of mission.spec (first_rows mission (suc m)) ≡ read_row mission.spec (reading_of mission.spec (first_rows mission m)) m (row_at mission.spec mission.script m).acts
reading_next mission m le =
    ap (reading_of mission.spec) (first_next mission m le)
    ∙ (row_by_row mission.spec (first_rows mission m) (row_at mission.spec mission.script m)).0
    ∙ ap (λ n. read_row mission.spec (reading_of mission.spec (first_rows mission m)) n (row_at mission.spec mission.script m).acts) (first_long mission m (omega arith))

-- If the mission has a row with index `m`, frame `m` is flown, and the row is the row of this frame.
pub within : (mission : MissionParts) (m : ℕ) (row : Row) → slice_get (rows_of mission.spec mission.script) m ≡ Some row → m < mission.script.frames
within mission m row there =
    let long = length_listed (row_at mission.spec mission.script) mission.script.frames in
    elim (slice_get_cases (rows_of mission.spec mission.script) m).1 [
      | inl inside ↦ let low = inside.1 in omega (arith, low, long)
      | inr past ↦ let none = past.1 in absurd (let bad : None ≡ Some row = sym none ∙ there in cc)
    ]

pub row_is : (mission : MissionParts) (m : ℕ) (row : Row) → slice_get (rows_of mission.spec mission.script) m ≡ Some row → row ≡ row_at mission.spec mission.script m
row_is mission m row there =
    let at : Some row ≡ Some (row_at mission.spec mission.script m) = sym there ∙ get_listed (row_at mission.spec mission.script) mission.script.frames m (within mission m row there) in
    cc
