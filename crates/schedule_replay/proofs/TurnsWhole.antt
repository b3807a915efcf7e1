-- The round-robin schedule takes the flight from the opening state to the end of the flight.
use Rattle.std.proofs.lemmas.Bool.{eq-eqb, le-ltb, lt-ltb}
use Rattle.std.proofs.Common.{◌≡◌, ◌∙◌, ℕ, zero, suc, ◌+◌, ◌-◌, ◌*◌, ◌/◌, ◌%◌, ◌<◌, ◌≤◌, Bool, true, false, ◌||◌, refl, ap, sym, subst, inl, inr, arith, List, [], ◌∷◌, ◌++◌}
use Rattle.std.specs.Prelude.{Option, Some, None, nat_eq, nat_lt, nat_le, ◌&&◌, if◌then◌else◌}
use Rattle.std.proofs.lemmas.Bool.Decides.{nat_tests}
use native.Mathlib.Decide.{dec_le, ℕ_discrete}
use Rattle.scram_types.specs.Lookups.{proc_id}
use Rattle.scram_types.specs.Searches.{listed_below}
use Rattle.bank_words.specs.declared.events.Event.{Event}
use Rattle.bank_words.specs.declared.events.Event.TheVariants.{Start, KNote, KStore, Release}
use Rattle.fail_stop.specs.Ends.{IsDone}
use Rattle.fail_stop.specs.Events.{At, EndWord, Halted, Place, ReleaseWord, may_note, moved, next_halted, next_kernel, next_of}
use Rattle.fail_stop.specs.Flights.{Flies, Flight, back_by}
use Rattle.fail_stop.specs.Kept.{IsPlaced, Kept, end_at}
use Rattle.fail_stop.specs.Schedules.{IsSchedule, Machine, happened, opening}
use Rattle.fail_stop.proofs.Keeps.{opens}
use Rattle.fail_stop.proofs.KernelEvents.{halted_end}
use Rattle.fail_stop.proofs.ScriptBorder.{restarts_within, script_flies}
use Rattle.fail_stop.specs.ScriptFlights.{flight_of}
use Rattle.schedule_replay.specs.Turns.{LeadsToTheEnd, TurnsLeadToTheEnd, frames_in_turns, releasing, turn_of_proc, turn_of_kernel, turns_of_procs}
use Rattle.schedule_replay.proofs.TurnsLead.{Leads, ended_at, joined, kept_after, steps_lead}

-- The restart `o` comes after frame `h` and no later than frame `f`.
record Back (o : Option ℕ) (h f : ℕ) : Type 0 where
  r : ℕ
  is : o ≡ Some r
  late : h < r
  low : r ≤ f

back : (o : Option ℕ) (h f : ℕ) → back_by o h f ≡ true → Back o h f
back None h f e = cc
back (Some r) h f e = record { r = r; is = refl; late = grind (arith, nat_tests); low = grind (arith, nat_tests) }

not_at_once : (o : Option ℕ) (f : ℕ) → back_by o f f ≡ false
not_at_once None f = refl
not_at_once (Some r) f = grind (arith, nat_tests)

-- A processor at the given place has not yet had its turn in frame `f`.
abbrev Waits : ℕ → Place → Type 0
Waits f (At g n) = (g ≡ f) × (n ≡ 0)
Waits f (Halted h) = h < f

abbrev Went : Flight → ℕ → ℕ → Place → Type 0
Went m p f (At g n) = (g ≡ suc f) × (n ≡ 0)
Went m p f (Halted h) = (h ≤ f) × (back_by (m.restart p) h f ≡ false)

waits_again : (m : Flight) (p f : ℕ) (place : Place) → Went m p f place → Waits (suc f) place
waits_again m p f (At g n) w = w
waits_again m p f (Halted h) w = let low = w.0 in omega (arith, low)

ended_went : (m : Flight) (p f : ℕ) (o : Option ℕ) → Went m p f (ended_at f o)
ended_went m p f None = (refl, refl)
ended_went m p f (Some s) = (omega arith, not_at_once (m.restart p) f)

module _ (m : Flight) (y : Flies m) where
  -- The next event of processor `p` is the start of its turn in frame `f`.
  record Starts (s : Machine) (p f : ℕ) : Type 0 where
    next : next_of m s.at s.words p ≡ Some (Start (proc_id p))
    goes : moved m (Start (proc_id p)) p (s.at.proc p) ≡ At f 1

  released : (s : Machine) → Kept m s.at s.words → 0 < m.frames → s.words ReleaseWord ≡ suc s.at.frame
  released s kept some = kept.words_are ReleaseWord tt ∙ positive m.frames s.at.frame some
    where
      positive : (f k : ℕ) → 0 < f → (if nat_eq f 0 then 0 else suc k) ≡ suc k
      positive f k l = grind (arith, nat_tests)

  halted_starts : (p f h release r : ℕ) (o : Option ℕ) → o ≡ Some r → h < r → r ≡ f → f < release → next_halted p h release o ≡ Some (Start (proc_id p))
  halted_starts p f h release r None is late same low = cc
  halted_starts p f h release r (Some t) is late same low =
      let e : t ≡ r = cc in
      rw (lt-ltb h t (omega (arith, e, late)), lt-ltb t release (omega (arith, e, same, low))) refl

  starts : (s : Machine) (p f : ℕ) (place : Place) → Kept m s.at s.words → s.at.frame ≡ f → f < m.frames → p < m.procs → m.up p f ≡ true → s.at.proc p ≡ place → IsPlaced m s.at.frame s.at.step p place → Waits f place → Starts s p f
  starts s p f (At g n) kept frame flying low up here is w =
      let release = released s kept (omega (arith, flying)) in
      let g_is = w.0 in
      let at_zero : s.at.proc p ≡ At f 0 = here ∙ ap (λ (k : ℕ). At k n) w.0 ∙ ap (λ (k : ℕ). At f k) w.1 in
      record {
        next = rw (lt-ltb p m.procs low, at_zero, lt-ltb f m.frames flying, lt-ltb f (s.words ReleaseWord) (omega (arith, release, frame))) refl;
        goes = ap (moved m (Start (proc_id p)) p) at_zero;
      }
  starts s p f (Halted h) kept frame flying low up here is w = halted_by (back_by (m.restart p) h f) refl
    where
      halted_by : (b : Bool) → back_by (m.restart p) h f ≡ b → Starts s p f
      halted_by false away = absurd (let down = y.gone p h is.step f is.up is.halts w away in let bad : true ≡ false = sym up ∙ down in cc)
      halted_by true yes_ =
          let b = back (m.restart p) h f yes_ in
          let after = is.later b.r b.is b.late in
          let r_low = b.low in
          let same : b.r ≡ f = omega (arith, after, frame, r_low) in
          let release = released s kept (omega (arith, flying)) in
          record {
            next = rw (lt-ltb p m.procs low, here) (halted_starts p f h (s.words ReleaseWord) b.r (m.restart p) b.is b.late same (omega (arith, release, frame)));
            goes = ap (moved m (Start (proc_id p)) p) here ∙ (rw b.is (ap (λ (k : ℕ). At k 1) same));
          }

  -- If a processor is down in frame `f`, then its place before its turn in the frame is also a place after the turn.
  down_went : (s : Machine) (p f : ℕ) (place : Place) → s.at.frame ≡ f → m.up p f ≡ false → IsPlaced m s.at.frame s.at.step p place → Waits f place → Went m p f place
  down_went s p f (At g n) frame down is w = absurd (let same : m.up p f ≡ true = subst (λ (k : ℕ). m.up p k ≡ true) w.0 is.up in let bad : true ≡ false = sym same ∙ down in cc)
  down_went s p f (Halted h) frame down is w = (omega (arith, w), not_back (back_by (m.restart p) h f) refl)
    where
      not_back : (b : Bool) → back_by (m.restart p) h f ≡ b → back_by (m.restart p) h f ≡ false
      not_back false e = e
      not_back true e =
          let b = back (m.restart p) h f e in
          let after = is.later b.r b.is b.late in
          let r_low = b.low in
          let same : b.r ≡ f = omega (arith, after, frame, r_low) in
          let up = y.back p h is.step b.r is.up is.halts b.is b.late in
          absurd (let again : m.up p f ≡ true = subst (λ (k : ℕ). m.up p k ≡ true) same up in let bad : true ≡ false = sym again ∙ down in cc)

  record Turned (s : Machine) (p f : ℕ) : Type 0 where
    place : Place
    leads : Leads m s (turn_of_proc m p f) p place
    went : Went m p f place

  turned : (s : Machine) (p f : ℕ) (b : Bool) → m.up p f ≡ b → Kept m s.at s.words → s.at.frame ≡ f → f < m.frames → p < m.procs → Waits f (s.at.proc p) → Turned s p f
  turned s p f true up kept frame flying low w =
      let start = starts s p f (s.at.proc p) kept frame flying low up refl (kept.placed p low) w in
      record {
        place = ended_at f (m.halt p f);
        leads = rw up (steps_lead m y p low s f kept start.next start.goes);
        went = ended_went m p f (m.halt p f);
      }
  turned s p f false down kept frame flying low w = record {
    place = s.at.proc p;
    leads = rw down (record { state = s; schedule = refl; came = record { kept = kept; frame = refl; step = refl; here = refl; others = λ q apart. refl } });
    went = down_went s p f (s.at.proc p) frame down (kept.placed p low) w;
  }

  -- State `s` satisfies the invariant `Kept`. The kernel is at the beginning of frame `f`, and no processor has yet
  -- had its turn in the frame.
  record Begun (s : Machine) (f : ℕ) : Type 0 where
    kept : Kept m s.at s.words
    frame : s.at.frame ≡ f
    step : s.at.step ≡ 0
    waits : (p : ℕ) → p < m.procs → Waits f (s.at.proc p)

  record Round (s : Machine) (f n : ℕ) : Type 0 where
    state : Machine
    schedule : IsSchedule m s (turns_of_procs m f n) state
    kept : Kept m state.at state.words
    frame : state.at.frame ≡ f
    step : state.at.step ≡ 0
    went : (p : ℕ) → p < n → Went m p f (state.at.proc p)
    waits : (p : ℕ) → n ≤ p → p < m.procs → Waits f (state.at.proc p)

  round : (s : Machine) (f n : ℕ) → f < m.frames → Begun s f → n ≤ m.procs → Round s f n
  round s f zero flying b few = record { state = s; schedule = refl; kept = b.kept; frame = b.frame; step = b.step; went = λ p below. absurd (omega arith); waits = λ p past low. b.waits p low }
  round s f (suc n) flying b few =
      let r = round s f n flying b (omega (arith, few)) in
      let low : n < m.procs = omega (arith, few) in
      let t = turned r.state n f (m.up n f) refl r.kept r.frame flying low (r.waits n (omega arith) low) in
      record {
        state = t.leads.state;
        schedule = joined m s (turns_of_procs m f n) r.state (turn_of_proc m n f) t.leads.state r.schedule t.leads.schedule;
        kept = t.leads.came.kept;
        frame = t.leads.came.frame ∙ r.frame;
        step = t.leads.came.step ∙ r.step;
        went = λ p below. went_by r t p below (ℕ_discrete p n);
        waits = λ p past within. subst (Waits f) (sym (t.leads.came.others p (λ same. omega (arith, same, past)))) (r.waits p (omega (arith, past)) within);
      }
    where
      went_by : (r : Round s f n) (t : Turned r.state n f) (p : ℕ) → p < suc n → Dec (p ≡ n) → Went m p f (t.leads.state.at.proc p)
      went_by r t p below (yes same) = subst (λ (k : ℕ). Went m k f (t.leads.state.at.proc k)) (sym same) (subst (Went m n f) (sym t.leads.came.here) t.went)
      went_by r t p below (no apart) = subst (Went m p f) (sym (t.leads.came.others p apart)) (r.went p (omega (arith, below, apart)))

  -- Lemmas on the turn of the kernel: its notes, and its stores and release.
  noted_end : (s : Machine) (p : ℕ) (place : Place) → Kept m s.at s.words → p < m.procs → s.at.proc p ≡ place → IsPlaced m s.at.frame s.at.step p place → Went m p s.at.frame place → may_note m p s.at.frame (s.words (EndWord p)) ≡ true
  noted_end s p (At g n) kept low here is w =
      let past = w.0 in
      let word : s.words (EndWord p) ≡ 2 * suc s.at.frame = kept.words_are (EndWord p) low ∙ ap (end_at m p) here ∙ is.done (omega (arith, past)) ∙ ap (λ (k : ℕ). 2 * k) w.0 in
      rw (eq-eqb (s.words (EndWord p)) (2 * suc s.at.frame) word) refl
  noted_end s p (Halted h) kept low here is w =
      let word : s.words (EndWord p) ≡ 2 * h + 1 = kept.words_are (EndWord p) low ∙ ap (end_at m p) here ∙ halted_end m s.at.frame s.at.step p h is in
      let half : s.words (EndWord p) / 2 ≡ h = omega (arith, word) in
      let odd : s.words (EndWord p) % 2 ≡ 1 = omega (arith, word) in
      rw (half, w.1, eq-eqb (s.words (EndWord p) % 2) 1 odd) (or_true (nat_eq (s.words (EndWord p)) (2 * suc s.at.frame)))
    where
      or_true : (b : Bool) → (b || true) ≡ true
      or_true true = refl
      or_true false = refl

  -- The events `es` lead from state `s` to a state that satisfies the invariant `Kept`. In this state, the kernel has
  -- made `j` steps of frame `f`, and the processors are at the same places as in `s`.
  record Kernel (s : Machine) (es : List Event) (f j : ℕ) : Type 0 where
    state : Machine
    schedule : IsSchedule m s es state
    kept : Kept m state.at state.words
    frame : state.at.frame ≡ f
    step : state.at.step ≡ j
    procs : (p : ℕ) → state.at.proc p ≡ s.at.proc p

  notes : (s : Machine) (f n : ℕ) → f < m.frames → Kept m s.at s.words → s.at.frame ≡ f → s.at.step ≡ 0 → ((p : ℕ) → p < m.procs → Went m p f (s.at.proc p)) → n ≤ m.procs
      → Kernel s (listed_below (λ (p : ℕ). KNote (proc_id p)) n) f n
  notes s f zero flying kept frame step went few = record { state = s; schedule = refl; kept = kept; frame = frame; step = step; procs = λ p. refl }
  notes s f (suc n) flying kept frame step went few =
      let k = notes s f n flying kept frame step went (omega (arith, few)) in
      let low : n < m.procs = omega (arith, few) in
      let place = k.procs n in
      let here : Went m n k.state.at.frame (k.state.at.proc n) = subst (λ (g : ℕ). Went m n g (k.state.at.proc n)) (sym k.frame) (subst (Went m n f) (sym place) (went n low)) in
      let may : may_note m n k.state.at.frame (k.state.words (EndWord n)) ≡ true = noted_end k.state n (k.state.at.proc n) k.kept low refl (k.kept.placed n low) here in
      let frame_is = k.frame in
      let step_is = k.step in
      let next : next_kernel m k.state.at k.state.words ≡ Some (KNote (proc_id n)) =
      rw (lt-ltb k.state.at.frame m.frames (omega (arith, frame_is, flying)), lt-ltb k.state.at.step m.procs (omega (arith, step_is, low)), step_is, may) refl in
      record {
        state = happened m k.state (KNote (proc_id n));
        schedule = joined m s (listed_below (λ (p : ℕ). KNote (proc_id p)) n) k.state (KNote (proc_id n) ∷ []) (happened m k.state (KNote (proc_id n))) k.schedule (next, refl);
        kept = kept_after m k.state (KNote (proc_id n)) y k.kept next;
        frame = k.frame;
        step = ap suc k.step;
        procs = k.procs;
      }

  stores : (s : Machine) (f n : ℕ) → suc f < m.frames → Kept m s.at s.words → s.at.frame ≡ f → s.at.step ≡ m.procs → n ≤ 20 → Kernel s (listed_below KStore n) f (m.procs + n)
  stores s f zero flying kept frame step few = record { state = s; schedule = refl; kept = kept; frame = frame; step = step ∙ omega arith; procs = λ p. refl }
  stores s f (suc n) flying kept frame step few =
      let k = stores s f n flying kept frame step (omega (arith, few)) in
      let frame_is = k.frame in
      let step_is = k.step in
      let index : m.procs + n - m.procs ≡ n = omega arith in
      let next : next_kernel m k.state.at k.state.words ≡ Some (KStore n) =
      rw (
        lt-ltb k.state.at.frame m.frames (omega (arith, frame_is, flying)),
        le-ltb k.state.at.step m.procs (omega (arith, step_is)),
        lt-ltb (suc k.state.at.frame) m.frames (omega (arith, frame_is, flying)),
        lt-ltb k.state.at.step (m.procs + 20) (omega (arith, step_is, few)),
        step_is,
        index,
      ) refl in
      record {
        state = happened m k.state (KStore n);
        schedule = joined m s (listed_below KStore n) k.state (KStore n ∷ []) (happened m k.state (KStore n)) k.schedule (next, refl);
        kept = kept_after m k.state (KStore n) y k.kept next;
        frame = k.frame;
        step = ap suc k.step ∙ omega arith;
        procs = k.procs;
      }

  -- The events `es` lead from state `s` to the beginning of frame `f`.
  record Next (s : Machine) (es : List Event) (f : ℕ) : Type 0 where
    state : Machine
    schedule : IsSchedule m s es state
    begun : Begun state f

  released_next : (s : Machine) (f : ℕ) → suc f < m.frames → Kept m s.at s.words → s.at.frame ≡ f → s.at.step ≡ m.procs + 20 → ((p : ℕ) → p < m.procs → Went m p f (s.at.proc p)) → Next s (Release ∷ []) (suc f)
  released_next s f flying kept frame step went =
      let next : next_kernel m s.at s.words ≡ Some Release =
      rw (
        lt-ltb s.at.frame m.frames (omega (arith, frame, flying)),
        le-ltb s.at.step m.procs (omega (arith, step)),
        lt-ltb (suc s.at.frame) m.frames (omega (arith, frame, flying)),
        le-ltb s.at.step (m.procs + 20) (omega (arith, step)),
        eq-eqb s.at.step (m.procs + 20) step,
      ) refl in
      record {
        state = happened m s Release;
        schedule = (next, refl);
        begun = record {
          kept = kept_after m s Release y kept next;
          frame = ap suc frame;
          step = refl;
          waits = λ p low. waits_again m p f (s.at.proc p) (went p low);
        };
      }

  moved_went : (s t : Machine) (f : ℕ) → ((p : ℕ) → t.at.proc p ≡ s.at.proc p) → ((p : ℕ) → p < m.procs → Went m p f (s.at.proc p)) → (p : ℕ) → p < m.procs → Went m p f (t.at.proc p)
  moved_went s t f same went p low = subst (Went m p f) (sym (same p)) (went p low)

  -- The turns of a frame that is not the last lead to the beginning of the next frame.
  frame_leads : (s : Machine) (f : ℕ) → suc f < m.frames → Begun s f → Next s (turns_of_procs m f m.procs ++ turn_of_kernel m f) (suc f)
  frame_leads s f flying b =
      let r = round s f m.procs (omega (arith, flying)) b (omega arith) in
      let n = notes r.state f m.procs (omega (arith, flying)) r.kept r.frame r.step r.went (omega arith) in
      let k = stores n.state f 20 flying n.kept n.frame n.step (omega arith) in
      let went = moved_went n.state k.state f k.procs (moved_went r.state n.state f n.procs r.went) in
      let x = released_next k.state f flying k.kept k.frame k.step went in
      let behind : IsSchedule m n.state (releasing m f) x.state = rw (lt-ltb (suc f) m.frames flying) (joined m n.state (listed_below KStore 20) k.state (Release ∷ []) x.state k.schedule x.schedule) in
      record {
        state = x.state;
        schedule = joined m s (turns_of_procs m f m.procs) r.state (turn_of_kernel m f) x.state r.schedule
            (joined m r.state (listed_below (λ (p : ℕ). KNote (proc_id p)) m.procs) n.state (releasing m f) x.state n.schedule behind);
        begun = x.begun;
      }

  frames_lead : (f : ℕ) → f < m.frames → Next (opening m) (frames_in_turns m f) f
  frames_lead zero flying = record {
    state = opening m;
    schedule = refl;
    begun = record { kept = opens m y; frame = refl; step = refl; waits = λ p low. (refl, refl) };
  }
  frames_lead (suc f) flying =
      let front = frames_lead f (omega (arith, flying)) in
      let x = frame_leads front.state f flying front.begun in
      record {
        state = x.state;
        schedule = joined m (opening m) (frames_in_turns m f) front.state (turns_of_procs m f m.procs ++ turn_of_kernel m f) x.state front.schedule x.schedule;
        begun = x.begun;
      }

  -- Lemmas that the flight is over after the turns of the last frame.
  went_done : ((p r : ℕ) → m.restart p ≡ Some r → r < m.frames) → (p f : ℕ) (place : Place) → suc f ≡ m.frames → Went m p f place → IsDone m p place
  went_done bound p f (At g n) last w = w.0 ∙ last
  went_done bound p f (Halted h) last w = λ r is. not_late r is (dec_le r h)
    where
      not_late : (r : ℕ) → m.restart p ≡ Some r → Dec (r ≤ h) → r ≤ h
      not_late r is (yes d) = d
      not_late r is (no d) =
          let low = bound p r is in
          let late : back_by (m.restart p) h f ≡ true = rw is (both_true r (omega (arith, d)) (omega (arith, low, last))) in
          absurd (let bad : true ≡ false = sym late ∙ w.1 in cc)
        where
          both_true : (r : ℕ) → h < r → r ≤ f → (nat_lt h r && nat_le r f) ≡ true
          both_true r a b = grind (arith, nat_tests)

  last_frame : ((p r : ℕ) → m.restart p ≡ Some r → r < m.frames) → (f : ℕ) → suc f ≡ m.frames → LeadsToTheEnd m (frames_in_turns m (suc f))
  last_frame bound f last =
      let front = frames_lead f (omega (arith, last)) in
      let r = round front.state f m.procs (omega (arith, last)) front.begun (omega arith) in
      let n = notes r.state f m.procs (omega (arith, last)) r.kept r.frame r.step r.went (omega arith) in
      let behind : IsSchedule m n.state (releasing m f) n.state = rw (le-ltb (suc f) m.frames (omega (arith, last))) refl in
      let went = moved_went r.state n.state f n.procs r.went in
      let frame_is = n.frame in
      let step_is = n.step in
      record {
        state = n.state;
        schedule = joined m (opening m) (frames_in_turns m f) front.state (turns_of_procs m f m.procs ++ turn_of_kernel m f) n.state front.schedule
            (joined m front.state (turns_of_procs m f m.procs) r.state (turn_of_kernel m f) n.state r.schedule
            (joined m r.state (listed_below (λ (p : ℕ). KNote (proc_id p)) m.procs) n.state (releasing m f) n.state n.schedule behind));
        over = inr ((λ p low. went_done bound p f (n.state.at.proc p) last (went p low)), omega (arith, frame_is, last), omega (arith, step_is));
      }

  by_frames : ((p r : ℕ) → m.restart p ≡ Some r → r < m.frames) → (frames : ℕ) → m.frames ≡ frames → LeadsToTheEnd m (frames_in_turns m frames)
  by_frames bound zero none = record { state = opening m; schedule = refl; over = inl none }
  by_frames bound (suc f) is = last_frame bound f (sym is)

pub turns_lead : TurnsLeadToTheEnd
turns_lead spec script fits =
    by_frames (flight_of spec script) (script_flies spec script fits) (λ p r is. restarts_within spec script fits p r is) script.frames refl
