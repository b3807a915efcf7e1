-- The flight of a script: the processors that are up by its halts and restarts, the committed frames, and the images.
use Rattle.std.proofs.Common.{◌≡◌, ◌∙◌, ℕ, zero, suc, ◌+◌, ◌≤◌, Bool, true, false, not, ◌&&◌, ◌||◌, refl, sym, ap, arith, List, [], ◌∷◌}
use Rattle.std.specs.Prelude.{◌==◌, nat_le, nat_lt, find, is_some, slice_get, Option, Some, None, option_map, if◌then◌else◌}
use Rattle.std.specs.List.{list_any}
use Rattle.std.proofs.lemmas.Bool.Decides.{nat_tests}
use Rattle.scram_types.specs.declared.scripts.HaltAt.{HaltAt}
use Rattle.scram_types.specs.declared.scripts.RestartAt.{RestartAt}
use Rattle.scram_types.specs.Scripts.{ScriptParts}
use Rattle.scram_types.specs.Specification.{Parts}
use Rattle.std.proofs.Math.Bool.{or-false}
use Rattle.scram_types.proofs.Booleans.{and_left, not_true}
use Rattle.scram_types.proofs.Items.{any_found}
use Rattle.scram_types.proofs.Naturals.{equal}
use Rattle.fault_script.specs.Fits.{EachLater, Fits}
use Rattle.fault_script.specs.Times.{commits, halt_in, is_halt_in, is_restart_between, is_restart_of, is_up, is_up_since, latest_halt, restart_of, words}
use Rattle.fault_script.proofs.Fitting.{Differ}
use Rattle.frame_model.specs.Flights.{draft, image_after}
use Rattle.frame_model.specs.Storage.{image_bank_after, last_count, mark_after}
use Rattle.fail_stop.specs.Flights.{Flies, back_by, image_before, is_committed, last_commit, mark_before, reaches_mark, side}
use Rattle.fail_stop.specs.Laws.{IsOfTrace}
use Rattle.fail_stop.specs.Schedules.{IsUpBy, is_up_after, latest}
use Rattle.fail_stop.specs.ScriptFlights.{flight_of, halt_step, image_words, image_words_after}
use Rattle.fail_stop.proofs.EachState.{flies}
use Rattle.fail_stop.proofs.FrameSteps.{img_yes, img_no, last_yes, last_no, side_yes, side_no}
use Rattle.fail_stop.proofs.HaltSteps.{commits_by, is_early}

-- Lemmas on the element that a search in a list finds.

found_some_at : {A : Type 0} (test : A → Bool) (value : A → ℕ) (x : A) (xs : List A) (b : Bool) → is_some (option_map value (find test xs)) ≡ list_any test xs
    → is_some (option_map value (if b then Some x else find test xs)) ≡ (b || list_any test xs)
found_some_at test value x xs true rest = refl
found_some_at test value x xs false rest = rest

found_some : {A : Type 0} (test : A → Bool) (value : A → ℕ) (xs : List A) → is_some (option_map value (find test xs)) ≡ list_any test xs
found_some test value [] = refl
found_some test value (x ∷ xs) = found_some_at test value x xs (test x) (found_some test value xs)

-- The element `x` occurs in the list.
record Stands {A : Type 0} (xs : List A) (x : A) : Type 0 where
  place : ℕ
  there : slice_get xs place ≡ Some x

stands_at : {A : Type 0} (test : A → Bool) (y : A) (ys : List A) (x : A) (b : Bool) → (find test ys ≡ Some x → Stands ys x) → (if b then Some y else find test ys) ≡ Some x → Stands (y ∷ ys) x
stands_at test y ys x true rest e = record { place = 0; there = e }
stands_at test y ys x false rest e = let s : Stands ys x = rest e in record { place = suc s.place; there = s.there }

stands : {A : Type 0} (test : A → Bool) (xs : List A) (x : A) → find test xs ≡ Some x → Stands xs x
stands test [] x e = absurd (cc)
stands test (y ∷ ys) x e = stands_at test y ys x (test y) (stands test ys x) e

-- The latest halt of a processor below a frame is the latest halt in the script.

latest_same : (script : ScriptParts) (p f : ℕ) → latest (halt_step script p) f ≡ latest_halt script p f
latest_same script p zero = refl
latest_same script p (suc f) = rw (found_some (is_halt_in p f) (λ (halt : HaltAt). halt.step) script.halts, latest_same script p f) refl

-- Proof that a processor restarts at most once.

none_later : (p h g : ℕ) (x : RestartAt) (xs : List RestartAt) → (x.proc.0 == p) ≡ true → EachLater Differ (x ∷ xs) → list_any (is_restart_between p h g) xs ≡ false
none_later p h g x xs of_p once = not_true (list_any (is_restart_between p h g) xs) (λ again.
    let found = any_found (is_restart_between p h g) xs again in
    let y = found.1 in
    let first = and_left (y.proc.0 == p && nat_lt h y.frame) (nat_le y.frame g) found.3 in
    let same = equal y.proc.0 p (and_left (y.proc.0 == p) (nat_lt h y.frame) first) in
    once 0 (suc found.0) x y (omega arith) refl found.2 (equal x.proc.0 p of_p ∙ sym same))

back_list_at : (p h g : ℕ) (x : RestartAt) (xs : List RestartAt) → EachLater Differ (x ∷ xs) → (b : Bool) → (x.proc.0 == p) ≡ b
    → back_by (option_map (λ (r : RestartAt). r.frame) (find (is_restart_of p) xs)) h g ≡ list_any (is_restart_between p h g) xs
    → back_by (option_map (λ (r : RestartAt). r.frame) (if b then Some x else find (is_restart_of p) xs)) h g ≡ ((b && nat_lt h x.frame && nat_le x.frame g) || list_any (is_restart_between p h g) xs)
back_list_at p h g x xs once true is rest = rw (none_later p h g x xs is once) (sym (or-false (nat_lt h x.frame && nat_le x.frame g)))
back_list_at p h g x xs once false is rest = rest

back_list : (p h g : ℕ) (xs : List RestartAt) → EachLater Differ xs
    → back_by (option_map (λ (r : RestartAt). r.frame) (find (is_restart_of p) xs)) h g ≡ list_any (is_restart_between p h g) xs
back_list p h g [] once = refl
back_list p h g (x ∷ xs) once =
    back_list_at p h g x xs once (x.proc.0 == p) refl (back_list p h g xs (λ i j a b less is_a is_b. once (suc i) (suc j) a b (omega (arith, less)) is_a is_b))

since_same : (spec : Parts) (script : ScriptParts) → Fits spec script → (p f : ℕ) (o : Option ℕ) → is_up_since script p f o ≡ is_up_after o (restart_of script p) f
since_same spec script fits p f None = refl
since_same spec script fits p f (Some h) = sym (back_list p h f script.restarts fits.restarts_once)

up_by : (spec : Parts) (script : ScriptParts) → Fits spec script → (p f : ℕ) → is_up script p f ≡ is_up_after (latest (halt_step script p) f) (restart_of script p) f
up_by spec script fits p f = since_same spec script fits p f (latest_halt script p f) ∙ ap (λ (o : Option ℕ). is_up_after o (restart_of script p) f) (sym (latest_same script p f))

-- Proof that each halt comes before the mark of its frame, or directly after it.

step_of : (spec : Parts) (script : ScriptParts) → Fits spec script → (p f s : ℕ) (o : Option HaltAt) → halt_in script p f ≡ o → option_map (λ (halt : HaltAt). halt.step) o ≡ Some s → s ≤ words spec + 1
step_of spec script fits p f s None is e = absurd (cc)
step_of spec script fits p f s (Some halt) is e =
    let there : Stands script.halts halt = stands (is_halt_in p f) script.halts halt is in
    let low = (fits.halts there.place halt there.there).step in
    let same : halt.step ≡ s = cc in
    omega (arith, low, same)

up_by_halts : (spec : Parts) (script : ScriptParts) → Fits spec script → IsUpBy (flight_of spec script)
up_by_halts spec script fits = record { up = up_by spec script fits; steps = λ p f s e. step_of spec script fits p f s (halt_in script p f) refl e }

pub script_flies : (spec : Parts) (script : ScriptParts) → Fits spec script → Flies (flight_of spec script)
script_flies spec script fits = flies (flight_of spec script) (up_by_halts spec script fits)

-- Proof that the flight of a script commits the frames of the one-thread trace.

mark_reached : (w : ℕ) (o : Option HaltAt) → reaches_mark w (option_map (λ (halt : HaltAt). halt.step) o) ≡ not (is_early w o)
mark_reached w None = refl
mark_reached w (Some halt) = below_not w halt.step
  where
    below_not : (w s : ℕ) → nat_lt w s ≡ not (nat_le s w)
    below_not w s = grind (arith, nat_tests)

pub committed_same : (spec : Parts) (script : ScriptParts) → Fits spec script → (p f : ℕ) → is_committed (flight_of spec script) p f ≡ commits spec script p f
unfolding is_committed
committed_same spec script fits p f = ap (λ (b : Bool). is_up script p f && b) (mark_reached (words spec) (halt_in script p f)) ∙ sym (commits_by spec script fits p f)

image_more : (spec : Parts) (script : ScriptParts) (p f : ℕ) → commits spec script p f ≡ true → image_after spec script p (suc f) ≡ draft spec script p f
image_more spec script p f c = rw c refl

image_stays : (spec : Parts) (script : ScriptParts) (p f : ℕ) → commits spec script p f ≡ false → image_after spec script p (suc f) ≡ image_after spec script p f
image_stays spec script p f c = rw c refl

-- Proof that the flight of a script has the images and the marks of the one-thread trace. Each lemma `.._next` is on
-- a frame `f` in which processor `p` commits if and only if `b` is `true`.

module _ (spec : Parts) (script : ScriptParts) (fits : Fits spec script) (p f : ℕ) where
  images_next : (b : Bool) → commits spec script p f ≡ b → image_before (flight_of spec script) p f ≡ image_words_after spec script p f
      → image_before (flight_of spec script) p (suc f) ≡ image_words_after spec script p (suc f)
  images_next true c rest = img_yes (flight_of spec script) p f (committed_same spec script fits p f ∙ c) ∙ ap image_words (sym (image_more spec script p f c))
  images_next false c rest = img_no (flight_of spec script) p f (committed_same spec script fits p f ∙ c) ∙ rest ∙ ap image_words (sym (image_stays spec script p f c))

  sides_next : (b : Bool) → commits spec script p f ≡ b → side (flight_of spec script) p f ≡ image_bank_after spec script p f
      → side (flight_of spec script) p (suc f) ≡ image_bank_after spec script p (suc f)
  sides_next true c rest = side_yes (flight_of spec script) p f (committed_same spec script fits p f ∙ c) ∙ rw (c, rest) refl
  sides_next false c rest = side_no (flight_of spec script) p f (committed_same spec script fits p f ∙ c) ∙ rw (c, rest) refl

  counts_next : (b : Bool) → commits spec script p f ≡ b → last_commit (flight_of spec script) p f ≡ last_count spec script p f
      → last_commit (flight_of spec script) p (suc f) ≡ last_count spec script p (suc f)
  counts_next true c rest = last_yes (flight_of spec script) p f (committed_same spec script fits p f ∙ c) ∙ rw c refl
  counts_next false c rest = last_no (flight_of spec script) p f (committed_same spec script fits p f ∙ c) ∙ rw (c, rest) refl

pub images_same : (spec : Parts) (script : ScriptParts) → Fits spec script → (p f : ℕ) → image_before (flight_of spec script) p f ≡ image_words_after spec script p f
unfolding image_before
images_same spec script fits p zero = refl
images_same spec script fits p (suc f) = images_next spec script fits p f (commits spec script p f) refl (images_same spec script fits p f)

pub sides_same : (spec : Parts) (script : ScriptParts) → Fits spec script → (p f : ℕ) → side (flight_of spec script) p f ≡ image_bank_after spec script p f
unfolding side
sides_same spec script fits p zero = refl
sides_same spec script fits p (suc f) = sides_next spec script fits p f (commits spec script p f) refl (sides_same spec script fits p f)

counts_same : (spec : Parts) (script : ScriptParts) → Fits spec script → (p f : ℕ) → last_commit (flight_of spec script) p f ≡ last_count spec script p f
unfolding last_commit
counts_same spec script fits p zero = refl
counts_same spec script fits p (suc f) = counts_next spec script fits p f (commits spec script p f) refl (counts_same spec script fits p f)

pub marks_same : (spec : Parts) (script : ScriptParts) → Fits spec script → (p f : ℕ) → mark_before (flight_of spec script) p f ≡ mark_after spec script p f
marks_same spec script fits p f = rw (counts_same spec script fits p f, sides_same spec script fits p f) refl

pub of_trace : (spec : Parts) (script : ScriptParts) → Fits spec script → IsOfTrace spec script
of_trace spec script fits = record {
  flies = script_flies spec script fits;
  committed = committed_same spec script fits;
  marks = marks_same spec script fits;
  banks = sides_same spec script fits;
  images = images_same spec script fits;
}

pub restarts_within : (spec : Parts) (script : ScriptParts) → Fits spec script → (p r : ℕ) → restart_of script p ≡ Some r → suc r ≤ script.frames
restarts_within spec script fits p r e = within (find (is_restart_of p) script.restarts) refl e
  where
    within : (o : Option RestartAt) → find (is_restart_of p) script.restarts ≡ o → option_map (λ (x : RestartAt). x.frame) o ≡ Some r → suc r ≤ script.frames
    within None is e = absurd (cc)
    within (Some x) is e =
        let there : Stands script.restarts x = stands (is_restart_of p) script.restarts x is in
        let low = (fits.restarts there.place x there.there).most in
        let same : x.frame ≡ r = cc in
        omega (arith, low, same)
