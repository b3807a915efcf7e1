-- Laws on the reconfigurations that are read off rows.
use Rattle.std.proofs.Common.{◌≡◌, ◌∙◌, ℕ, zero, suc, ◌+◌, ◌<◌, ◌≤◌, refl, ap, sym, arith, append_assoc, length, Bool, true, false, List, [], ◌∷◌, ◌++◌, ◌⊎◌}
use mathlib.Core.Logic.{inl, inr}
use Rattle.std.specs.Prelude.{All, Some, None, option_map}
use Rattle.scram_types.specs.declared.ids.ConfId.{ConfId}
use Rattle.scram_types.specs.declared.rows.Row.{Row}
use Rattle.scram_types.specs.Specification.{Parts}
use Rattle.scram_types.specs.Lookups.{conf_id}
use Rattle.scram_types.specs.Searches.{least_from}
use Rattle.frame_model.specs.declared.readings.Reading.{Reading}
use Rattle.frame_model.specs.declared.readings.Reading.TheVariants.{Steady, Leaving}
use Rattle.frame_model.specs.Laws.{ReadsReconfigurations, ReadsRowByRow, Runs, RunsFirst, RunsNone}
use Rattle.frame_model.specs.Readings.{arrival, arrive, as_list, ended_in, read_row, reading_after, report_of}
use Rattle.frame_model.specs.Runs.{running, runs}

append_none : {A : Type 0} (xs : List A) → xs ++ [] ≡ xs
append_none [] = refl
append_none (x ∷ xs) = ap (λ l. x ∷ l) (append_none xs)

pub ended_append : (spec : Parts) (r : Reading) (f : ℕ) (xs ys : List Row)
    → ended_in spec r f (xs ++ ys) ≡ ended_in spec r f xs ++ ended_in spec (reading_after spec r f xs) (f + length xs) ys
ended_append spec r f [] ys = let e : f + 0 ≡ f = omega arith in ap (λ g. ended_in spec r g ys) (sym e)
ended_append spec r f (x ∷ xs) ys =
    let e : suc f + length xs ≡ f + suc (length xs) = omega arith in
    ap (λ l. as_list (report_of spec r f x.acts) ++ l) (ended_append spec (read_row spec r f x.acts) (suc f) xs ys)
    ∙ sym (append_assoc (as_list (report_of spec r f x.acts)) (ended_in spec (read_row spec r f x.acts) (suc f) xs)
    (ended_in spec (reading_after spec (read_row spec r f x.acts) (suc f) xs) (suc f + length xs) ys))
    ∙ ap (λ g. (as_list (report_of spec r f x.acts) ++ ended_in spec (read_row spec r f x.acts) (suc f) xs)
    ++ ended_in spec (reading_after spec (read_row spec r f x.acts) (suc f) xs) g ys) e

pub reading_append : (spec : Parts) (r : Reading) (f : ℕ) (xs ys : List Row) → reading_after spec r f (xs ++ ys) ≡ reading_after spec (reading_after spec r f xs) (f + length xs) ys
reading_append spec r f [] ys = let e : f + 0 ≡ f = omega arith in ap (λ g. reading_after spec r g ys) (sym e)
reading_append spec r f (x ∷ xs) ys =
    let e : suc f + length xs ≡ f + suc (length xs) = omega arith in
    reading_append spec (read_row spec r f x.acts) (suc f) xs ys
    ∙ ap (λ g. reading_after spec (reading_after spec (read_row spec r f x.acts) (suc f) xs) g ys) e

pub row_by_row : ReadsRowByRow
row_by_row spec rows row =
    let e : 0 + length rows ≡ length rows = omega arith in (
      reading_append spec (Steady spec.start) 0 rows (row ∷ [])
          ∙ ap (λ g. read_row spec (reading_after spec (Steady spec.start) 0 rows) g row.acts) e,
      ended_append spec (Steady spec.start) 0 rows (row ∷ [])
          ∙ ap (λ l. ended_in spec (Steady spec.start) 0 rows ++ l)
          (append_none (as_list (report_of spec (reading_after spec (Steady spec.start) 0 rows) (0 + length rows) row.acts))
          ∙ ap (λ g. as_list (report_of spec (reading_after spec (Steady spec.start) 0 rows) g row.acts)) e),
    )

least_none : (test : ℕ → Bool) (i n : ℕ) → ((c : ℕ) → i ≤ c → c < i + n → test c ≡ false) → least_from test i n ≡ None
least_none test i zero fails = refl
least_none test i (suc n) fails = rw (fails i (omega arith) (omega arith)) (least_none test (suc i) n (λ c low high. fails c (omega arith) (omega arith)))

here_or_later : (i j : ℕ) → i ≤ j → (j ≡ i) ⊎ (suc i ≤ j)
here_or_later i j le = grind arith

least_some : (test : ℕ → Bool) (i n j : ℕ) → i ≤ j → j < i + n → test j ≡ true → ((c : ℕ) → i ≤ c → c < j → test c ≡ false) → least_from test i n ≡ Some j
least_some test i zero j le high is fails = absurd (omega arith)
least_some test i (suc n) j le high is fails = elim (here_or_later i j le) [
  | inl here ↦ let first : test i ≡ true = rw (← here) is in rw (first, here) refl
  | inr later ↦ rw (fails i (omega arith) (omega arith)) (least_some test (suc i) n j later (omega arith) is (λ c low under. fails c (omega arith) under))
]

running_none : (spec : Parts) (row : Row) → RunsNone spec row → running spec row.acts ≡ None
running_none spec row none = ap (option_map conf_id) (least_none (λ c. runs spec row.acts (conf_id c)) 0 (length spec.confs) (λ c low high. none c (omega arith)))

running_first : (spec : Parts) (row : Row) (j : ConfId) → RunsFirst spec j row → running spec row.acts ≡ Some j
running_first spec row j first =
    let inside = first.inside in
    ap (option_map conf_id) (least_some (λ c. runs spec row.acts (conf_id c)) 0 (length spec.confs) j.0 (omega arith) (omega arith) first.here (λ c low under. first.least c under))

tail_all : {A : Type 0} (P : A → Type 0) (x : A) (xs : List A) → All P (x ∷ xs) → All P xs
tail_all P x xs all k d low = all (suc k) d (omega arith)

quiet_ended : (spec : Parts) (c : ConfId) (f : ℕ) (rows : List Row) → All (Runs spec c) rows → ended_in spec (Steady c) f rows ≡ []
quiet_ended spec c f [] all = refl
quiet_ended spec c f (row ∷ rows) all = let here : runs spec row.acts c ≡ true = all 0 row (omega arith) in rw here (quiet_ended spec c (suc f) rows (tail_all (Runs spec c) row rows all))

quiet_reading : (spec : Parts) (c : ConfId) (f : ℕ) (rows : List Row) → All (Runs spec c) rows → reading_after spec (Steady c) f rows ≡ Steady c
quiet_reading spec c f [] all = refl
quiet_reading spec c f (row ∷ rows) all = let here : runs spec row.acts c ≡ true = all 0 row (omega arith) in rw here (quiet_reading spec c (suc f) rows (tail_all (Runs spec c) row rows all))

moving_ended : (spec : Parts) (c : ConfId) (s f : ℕ) (rows : List Row) → All (RunsNone spec) rows → ended_in spec (Leaving c s) f rows ≡ []
moving_ended spec c s f [] all = refl
moving_ended spec c s f (row ∷ rows) all =
    let here : running spec row.acts ≡ None = running_none spec row (all 0 row (omega arith)) in
    ap (λ o. as_list (arrival c s f o) ++ ended_in spec (arrive c s o) (suc f) rows) here ∙ moving_ended spec c s (suc f) rows (tail_all (RunsNone spec) row rows all)

moving_reading : (spec : Parts) (c : ConfId) (s f : ℕ) (rows : List Row) → All (RunsNone spec) rows → reading_after spec (Leaving c s) f rows ≡ Leaving c s
moving_reading spec c s f [] all = refl
moving_reading spec c s f (row ∷ rows) all =
    let here : running spec row.acts ≡ None = running_none spec row (all 0 row (omega arith)) in
    ap (λ o. reading_after spec (arrive c s o) (suc f) rows) here ∙ moving_reading spec c s (suc f) rows (tail_all (RunsNone spec) row rows all)

left_row : (spec : Parts) (c : ConfId) (g : ℕ) (left : Row) → runs spec left.acts c ≡ false → read_row spec (Steady c) g left.acts ≡ Leaving c g
left_row spec c g left out = rw out refl

-- If each row before a row runs `c` and the row itself does not, the reading after the row is `Leaving`, with `c` and
-- the frame of the row.
module _ (spec : Parts) (c : ConfId) (f : ℕ) (before : List Row) (left : Row) (on : List Row) (all : All (Runs spec c) before) (out : runs spec left.acts c ≡ false) where
  leaves_ended : ended_in spec (Steady c) f (before ++ (left ∷ on)) ≡ ended_in spec (Leaving c (f + length before)) (suc (f + length before)) on
  leaves_ended =
      ended_append spec (Steady c) f before (left ∷ on)
      ∙ ap (λ l. l ++ ended_in spec (reading_after spec (Steady c) f before) (f + length before) (left ∷ on)) (quiet_ended spec c f before all)
      ∙ ap (λ r. ended_in spec r (f + length before) (left ∷ on)) (quiet_reading spec c f before all)
      ∙ ap (λ r. ended_in spec r (suc (f + length before)) on) (left_row spec c (f + length before) left out)

  leaves_reading : reading_after spec (Steady c) f (before ++ (left ∷ on)) ≡ reading_after spec (Leaving c (f + length before)) (suc (f + length before)) on
  leaves_reading =
      reading_append spec (Steady c) f before (left ∷ on)
      ∙ ap (λ r. reading_after spec r (f + length before) (left ∷ on)) (quiet_reading spec c f before all)
      ∙ ap (λ r. reading_after spec r (suc (f + length before)) on) (left_row spec c (f + length before) left out)

-- If no row before a row runs a configuration and the row itself first runs `j`, the row ends the reconfiguration.
module _ (spec : Parts) (c : ConfId) (s f e : ℕ) (between : List Row) (arrived : Row) (rest : List Row) (j : ConfId) (all : All (RunsNone spec) between) (first : RunsFirst spec j arrived) (is : e ≡ f + length between) where
  next_frame : suc (f + length between) ≡ e + 1
  next_frame = omega (arith, is)

  arrives_ended : ended_in spec (Leaving c s) f (between ++ (arrived ∷ rest)) ≡ record { from = c; to = Some j; begin = s; end = e } ∷ ended_in spec (Steady j) (e + 1) rest
  arrives_ended =
      ended_append spec (Leaving c s) f between (arrived ∷ rest)
      ∙ ap (λ l. l ++ ended_in spec (reading_after spec (Leaving c s) f between) (f + length between) (arrived ∷ rest)) (moving_ended spec c s f between all)
      ∙ ap (λ r. ended_in spec r (f + length between) (arrived ∷ rest)) (moving_reading spec c s f between all)
      ∙ ap (λ o. as_list (arrival c s (f + length between) o) ++ ended_in spec (arrive c s o) (suc (f + length between)) rest) (running_first spec arrived j first)
      ∙ ap (λ g. record { from = c; to = Some j; begin = s; end = f + length between } ∷ ended_in spec (Steady j) g rest) next_frame
      ∙ ap (λ g. record { from = c; to = Some j; begin = s; end = g } ∷ ended_in spec (Steady j) (e + 1) rest) (sym is)

  arrives_reading : reading_after spec (Leaving c s) f (between ++ (arrived ∷ rest)) ≡ reading_after spec (Steady j) (e + 1) rest
  arrives_reading =
      reading_append spec (Leaving c s) f between (arrived ∷ rest)
      ∙ ap (λ r. reading_after spec r (f + length between) (arrived ∷ rest)) (moving_reading spec c s f between all)
      ∙ ap (λ o. reading_after spec (arrive c s o) (suc (f + length between)) rest) (running_first spec arrived j first)
      ∙ ap (λ g. reading_after spec (Steady j) g rest) next_frame

pub reads : ReadsReconfigurations
reads spec c f = record {
  quiet = λ rows all. (quiet_ended spec c f rows all, quiet_reading spec c f rows all);
  begins = λ before left between all out none. (
    leaves_ended spec c f before left between all out ∙ moving_ended spec c (f + length before) (suc (f + length before)) between none,
    leaves_reading spec c f before left between all out ∙ moving_reading spec c (f + length before) (suc (f + length before)) between none,
  );
  ends = λ before left between arrived rest j all out none first e is. (
    leaves_ended spec c f before left (between ++ (arrived ∷ rest)) all out
        ∙ arrives_ended spec c (f + length before) (suc (f + length before)) e between arrived rest j none first (omega arith),
    leaves_reading spec c f before left (between ++ (arrived ∷ rest)) all out
        ∙ arrives_reading spec c (f + length before) (suc (f + length before)) e between arrived rest j none first (omega arith),
  );
}
