-- The sources and the first frames of reconfigurations.
use Rattle.std.proofs.Common.{◌≡◌, ◌∙◌, ℕ, suc, ◌+◌, ◌<◌, ◌≤◌, refl, ap, sym, arith, append_assoc, length, Bool, true, false, List, [], ◌∷◌, ◌++◌}
use Rattle.std.specs.Prelude.{Option, Some, None, filter, map, nat_lt, if◌then◌else◌}
use Rattle.std.proofs.lemmas.List.{map-append}
use Rattle.std.proofs.lemmas.List.Elements.{filter-append}
use Rattle.scram_types.specs.declared.ids.ConfId.{ConfId}
use Rattle.scram_types.specs.declared.rows.Report.{Report}
use Rattle.scram_types.specs.declared.rows.Row.{Row}
use Rattle.scram_types.specs.Specification.{Parts}
use Rattle.scram_types.proofs.Naturals.{not_below_test, below_test}
use Rattle.frame_model.specs.declared.readings.Reading.{Reading}
use Rattle.frame_model.specs.declared.readings.Reading.TheVariants.{Steady, Leaving}
use Rattle.frame_model.specs.Laws.{BeginningsAreRead, beginning, begins_below}
use Rattle.frame_model.specs.Readings.{arrival, arrive, as_list, close, ended_in, read_row, reading_after, report_of}
use Rattle.frame_model.specs.Runs.{running, runs}
use Rattle.frame_model.proofs.ReadLaws.{ended_append, reading_append}

-- The sources and the first frames of the reports that began before frame `m`.
abbrev below : ℕ → List Report → List (ConfId × ℕ)
below m reports = map beginning (filter (begins_below m) reports)

-- If two reports have the same source and the same first frame, a list of only the first report and a list of only
-- the second report have the same beginnings.
open_same : (b : Bool) (x y : Report) → beginning x ≡ beginning y → map beginning (if b then x ∷ [] else []) ≡ map beginning (if b then y ∷ [] else [])
open_same true x y same = ap (λ z. z ∷ []) same
open_same false x y same = refl

closed_same : (m n k : ℕ) (r : Reading) → below m (as_list (close r n)) ≡ below m (as_list (close r k))
closed_same m n k (Steady c) = refl
closed_same m n k (Leaving c s) = open_same (nat_lt s m) _ _ refl

first_kept : (b : Bool) (x y : Report) (rest : List Report) → beginning x ≡ beginning y → map beginning rest ≡ [] → map beginning (if b then x ∷ rest else rest) ≡ map beginning (if b then y ∷ [] else [])
first_kept true x y rest same none = rw (same, none) refl
first_kept false x y rest same none = none

-- The reconfigurations that end in rows from frame `g` on, and the reconfiguration that is cut off after `n` frames,
-- if any.
abbrev shown_from : Parts → ℕ → ℕ → Reading → List Row → List Report
shown_from spec g n r rows = ended_in spec r g rows ++ as_list (close (reading_after spec r g rows) n)

steady_more : (spec : Parts) (m g n : ℕ) (c : ConfId) (rows : List Row) (b : Bool) → m ≤ g
    → ((r : Reading) → below m (shown_from spec (suc g) n r rows) ≡ below m (as_list (close r m)))
    → below m (shown_from spec (suc g) n (if b then Steady c else Leaving c g) rows) ≡ []
steady_more spec m g n c rows true le more = more (Steady c)
steady_more spec m g n c rows false le more = let out : nat_lt g m ≡ false = not_below_test g m le in more (Leaving c g) ∙ rw out refl

leaving_more : (spec : Parts) (m g n : ℕ) (c : ConfId) (s : ℕ) (rows : List Row) (o : Option ConfId)
    → ((r : Reading) → below m (shown_from spec (suc g) n r rows) ≡ below m (as_list (close r m)))
    → below m ((as_list (arrival c s g o) ++ ended_in spec (arrive c s o) (suc g) rows) ++ as_list (close (reading_after spec (arrive c s o) (suc g) rows) n)) ≡ below m (as_list (close (Leaving c s) m))
leaving_more spec m g n c s rows None more = more (Leaving c s)
leaving_more spec m g n c s rows (Some j) more = first_kept (nat_lt s m) _ _ (filter (begins_below m) (shown_from spec (suc g) n (Steady j) rows)) refl (more (Steady j))

later : (spec : Parts) (m g n : ℕ) (r : Reading) (rows : List Row) → m ≤ g → below m (shown_from spec g n r rows) ≡ below m (as_list (close r m))
later spec m g n r [] le = closed_same m n m r
later spec m g n (Steady c) (row ∷ rows) le = steady_more spec m g n c rows (runs spec row.acts c) le (λ r. later spec m (suc g) n r rows (omega arith))
later spec m g n (Leaving c s) (row ∷ rows) le = leaving_more spec m g n c s rows (running spec row.acts) (λ r. later spec m (suc g) n r rows (omega arith))

-- If a reconfiguration is under way, it began before frame `f`.
Opened : Reading → ℕ → Type 0
Opened (Steady c) f = Unit {0}
Opened (Leaving c s) f = s < f

opened_steady : (c : ConfId) (f : ℕ) (b : Bool) → Opened (if b then Steady c else Leaving c f) (suc f)
unfolding Opened
opened_steady c f true = tt
opened_steady c f false = omega arith

opened_leaving : (c : ConfId) (s f : ℕ) (o : Option ConfId) → Opened (Leaving c s) f → Opened (arrive c s o) (suc f)
unfolding Opened
opened_leaving c s f None before = omega arith
opened_leaving c s f (Some j) before = tt

opened_row : (spec : Parts) (r : Reading) (f : ℕ) (row : Row) → Opened r f → Opened (read_row spec r f row.acts) (suc f)
opened_row spec (Steady c) f row before = opened_steady c f (runs spec row.acts c)
opened_row spec (Leaving c s) f row before = opened_leaving c s f (running spec row.acts) before

is_empty : (f m : ℕ) → m ≡ f + 0 → f ≡ m
is_empty f m is = omega arith

opened_after : (spec : Parts) (r : Reading) (f : ℕ) (rows : List Row) (m : ℕ) → m ≡ f + length rows → Opened r f → Opened (reading_after spec r f rows) m
opened_after spec r f [] m is before = let e : f ≡ m = is_empty f m is in rw (sym e) before
opened_after spec r f (row ∷ rows) m is before = opened_after spec (read_row spec r f row.acts) (suc f) rows m (omega arith) (opened_row spec r f row before)

kept_one : (c : ConfId) (s f m : ℕ) (o : Option ConfId) → Opened (Leaving c s) f → f ≤ m → filter (begins_below m) (as_list (arrival c s f o)) ≡ as_list (arrival c s f o)
unfolding Opened
kept_one c s f m None before le = refl
kept_one c s f m (Some j) before le = let low : nat_lt s m ≡ true = below_test s m (omega arith) in rw low refl

kept_row : (spec : Parts) (r : Reading) (f m : ℕ) (row : Row) → Opened r f → f ≤ m → filter (begins_below m) (as_list (report_of spec r f row.acts)) ≡ as_list (report_of spec r f row.acts)
kept_row spec (Steady c) f m row before le = refl
kept_row spec (Leaving c s) f m row before le = kept_one c s f m (running spec row.acts) before le

kept_all : (spec : Parts) (r : Reading) (f m : ℕ) (rows : List Row) → f + length rows ≤ m → Opened r f → filter (begins_below m) (ended_in spec r f rows) ≡ ended_in spec r f rows
kept_all spec r f m [] le before = refl
kept_all spec r f m (row ∷ rows) le before =
    filter-append (begins_below m) (as_list (report_of spec r f row.acts)) (ended_in spec (read_row spec r f row.acts) (suc f) rows)
    ∙ ap (λ l. l ++ filter (begins_below m) (ended_in spec (read_row spec r f row.acts) (suc f) rows)) (kept_row spec r f m row before (omega arith))
    ∙ ap (λ l. as_list (report_of spec r f row.acts) ++ l) (kept_all spec (read_row spec r f row.acts) (suc f) m rows (omega arith) (opened_row spec r f row before))

kept_open : (r : Reading) (m : ℕ) → Opened r m → filter (begins_below m) (as_list (close r m)) ≡ as_list (close r m)
unfolding Opened
kept_open (Steady c) m before = refl
kept_open (Leaving c s) m before = let low : nat_lt s m ≡ true = below_test s m before in rw low refl

opened_start : (c : ConfId) → Opened (Steady c) 0
unfolding Opened
opened_start c = tt

below_append : (m : ℕ) (xs ys : List Report) → below m (xs ++ ys) ≡ below m xs ++ below m ys
below_append m xs ys = ap (map beginning) (filter-append (begins_below m) xs ys) ∙ map-append beginning (filter (begins_below m) xs) (filter (begins_below m) ys)

-- All reconfigurations that are read off the first rows of a flight began in these rows.
front_same : (spec : Parts) (front : List Row) (r : Reading) → r ≡ reading_after spec (Steady spec.start) 0 front
    → below (length front) (ended_in spec (Steady spec.start) 0 front ++ as_list (close r (length front))) ≡ map beginning (ended_in spec (Steady spec.start) 0 front ++ as_list (close r (length front)))
front_same spec front r is =
    let opened : Opened r (length front) = rw is (opened_after spec (Steady spec.start) 0 front (length front) (omega arith) (opened_start spec.start)) in
    ap (map beginning) (filter-append (begins_below (length front)) (ended_in spec (Steady spec.start) 0 front) (as_list (close r (length front)))
    ∙ ap (λ l. l ++ filter (begins_below (length front)) (as_list (close r (length front)))) (kept_all spec (Steady spec.start) 0 (length front) front (omega arith) (opened_start spec.start))
    ∙ ap (λ l. ended_in spec (Steady spec.start) 0 front ++ l) (kept_open r (length front) opened))

pub beginnings : BeginningsAreRead
beginnings spec front back =
    let e : 0 + length front ≡ length front = omega arith in
    ap (λ l. below (length front) (l ++ as_list (close (reading_after spec (Steady spec.start) 0 (front ++ back)) (length (front ++ back)))))
    (ended_append spec (Steady spec.start) 0 front back ∙ ap (λ g. ended_in spec (Steady spec.start) 0 front ++ ended_in spec (reading_after spec (Steady spec.start) 0 front) g back) e)
    ∙ ap (λ r. below (length front) ((ended_in spec (Steady spec.start) 0 front ++ ended_in spec (reading_after spec (Steady spec.start) 0 front) (length front) back) ++ as_list (close r (length (front ++ back)))))
    (reading_append spec (Steady spec.start) 0 front back ∙ ap (λ g. reading_after spec (reading_after spec (Steady spec.start) 0 front) g back) e)
    ∙ ap (below (length front)) (append_assoc (ended_in spec (Steady spec.start) 0 front) (ended_in spec (reading_after spec (Steady spec.start) 0 front) (length front) back)
    (as_list (close (reading_after spec (reading_after spec (Steady spec.start) 0 front) (length front) back) (length (front ++ back)))))
    ∙ below_append (length front) (ended_in spec (Steady spec.start) 0 front) (shown_from spec (length front) (length (front ++ back)) (reading_after spec (Steady spec.start) 0 front) back)
    ∙ ap (λ l. below (length front) (ended_in spec (Steady spec.start) 0 front) ++ l)
    (later spec (length front) (length front) (length (front ++ back)) (reading_after spec (Steady spec.start) 0 front) back (omega arith))
    ∙ sym (below_append (length front) (ended_in spec (Steady spec.start) 0 front) (as_list (close (reading_after spec (Steady spec.start) 0 front) (length front))))
    ∙ front_same spec front (reading_after spec (Steady spec.start) 0 front) refl
