-- Lemmas on the next step of a processor within a frame.
use Rattle.std.proofs.Common.{◌≡◌, ◌∙◌, ℕ, zero, suc, ℤ, pos, List, length, ◌+◌, ◌<◌, ◌≤◌, ap, sym, refl, arith, true, false}
use Rattle.std.specs.Prelude.{option_map, Option, Some, None, map, slice_index_or}
use Rattle.std.proofs.lemmas.Bool.Decides.{nat_tests}
use Rattle.scram_types.specs.declared.scripts.HaltAt.{HaltAt}
use Rattle.scram_types.specs.Lookups.{proc_id}
use Rattle.scram_types.specs.Scripts.{ScriptParts}
use Rattle.scram_types.specs.Specification.{IsSpec, Parts}
use Rattle.bank_words.specs.declared.events.Event.{Event}
use Rattle.bank_words.specs.declared.events.Event.TheVariants.{Done, Flip, Halt, Look, Store}
use Rattle.fault_script.specs.Times.{halt_in, words}
use Rattle.frame_model.specs.Flights.{draft}
use Rattle.fail_stop.specs.declared.snapshots.Snapshot.{Snapshot}
use Rattle.fail_stop.specs.Drafts.{IsSnapshot}
use Rattle.fail_stop.specs.Events.{At, Halted, Place, frame_of, frame_on, halted_there, halts_at, one_on, plan, plan_step}
use Rattle.fail_stop.specs.ScriptFlights.{draft_words, flight_of}
use Rattle.bank_words.specs.Numbers.{encode}
use Rattle.fail_stop.specs.Flights.{Flies, Flight, word_in}
use Rattle.fail_stop.proofs.OpeningLists.{encoded_at}
use Rattle.word_table.specs.Actors.{step_at}
use Rattle.coverage_check.specs.Missions.{MissionParts}
use Rattle.word_table.specs.declared.seats.Seat.{Seat}
use Rattle.word_deck.specs.Frames.{HaltsLate, IsSeatDraft}

-- Lemmas on a step before which the processor does not halt.
no_halt : (m : Flight) (n : ℕ) (o : Option ℕ) → ((s : ℕ) → o ≡ Some s → (n ≡ m.procs + 1 + s → ⊥)) → halts_at m n o ≡ false
no_halt m n None late = refl
no_halt m n (Some s) late = let l = late s refl in grind (arith, nat_tests)

planned : (m : Flight) (p f n : ℕ) → halts_at m n (m.halt p f) ≡ false → plan m p f n ≡ plan_step m p n
planned m p f n e = rw e refl

-- Lemmas on the next step at each place of a frame.
step_is : (m : Flight) (p f n : ℕ) (place : Place) (e : Option Event) → place ≡ At f n → 0 < n → plan m p f n ≡ e → step_at m p place ≡ e
step_is m p f zero place e here some next = absurd (omega (arith, some))
step_is m p f (suc n) place e here some next = rw here next

step_looks : (m : Flight) (p q : ℕ) → q < m.procs → plan_step m p (1 + q) ≡ Some (Look (proc_id p) (proc_id q))
step_looks m p q low = grind (arith, nat_tests)

pub looks : (m : Flight) (p f q : ℕ) (place : Place) → place ≡ At f (1 + q) → q < m.procs → step_at m p place ≡ Some (Look (proc_id p) (proc_id q))
looks m p f q place here low =
    step_is m p f (1 + q) place _ here (omega arith) (planned m p f (1 + q) (no_halt m (1 + q) (m.halt p f) (λ s e n. omega (arith, n, low))) ∙ step_looks m p q low)

step_stores : (m : Flight) (p i : ℕ) → i < m.width → plan_step m p (m.procs + 1 + i) ≡ Some (Store (proc_id p) i)
step_stores m p i low = grind (arith, nat_tests)

pub stores : (m : Flight) (p f i : ℕ) (place : Place) → place ≡ At f (m.procs + 1 + i) → i < m.width → HaltsLate m p f (suc i) → step_at m p place ≡ Some (Store (proc_id p) i)
stores m p f i place here low late =
    step_is m p f (m.procs + 1 + i) place _ here (omega arith) (planned m p f (m.procs + 1 + i) (no_halt m (m.procs + 1 + i) (m.halt p f) (λ s e n. let l = late s e in omega (arith, n, l))) ∙ step_stores m p i low)

step_flips : (m : Flight) (p : ℕ) → plan_step m p (m.procs + 1 + m.width) ≡ Some (Flip (proc_id p))
step_flips m p = grind (arith, nat_tests)

pub flips : (m : Flight) (p f : ℕ) (place : Place) → place ≡ At f (m.procs + 1 + m.width) → HaltsLate m p f (suc m.width) → step_at m p place ≡ Some (Flip (proc_id p))
flips m p f place here late =
    step_is m p f (m.procs + 1 + m.width) place _ here (omega arith) (planned m p f (m.procs + 1 + m.width) (no_halt m (m.procs + 1 + m.width) (m.halt p f) (λ s e n. let l = late s e in omega (arith, n, l))) ∙ step_flips m p)

step_ends : (m : Flight) (p : ℕ) → plan_step m p (m.procs + 2 + m.width) ≡ Some (Done (proc_id p))
step_ends m p = grind (arith, nat_tests)

pub ends : (m : Flight) (p f : ℕ) (place : Place) → place ≡ At f (m.procs + 2 + m.width) → m.halt p f ≡ None → step_at m p place ≡ Some (Done (proc_id p))
ends m p f place here none =
    step_is m p f (m.procs + 2 + m.width) place _ here (omega arith) (planned m p f (m.procs + 2 + m.width) (rw none refl) ∙ step_ends m p)

halted_at : (m : Flight) (s : ℕ) → halts_at m (m.procs + 1 + s) (Some s) ≡ true
halted_at m s = grind (arith, nat_tests)

pub halts : (m : Flight) (p f s : ℕ) (place : Place) → place ≡ At f (m.procs + 1 + s) → m.halt p f ≡ Some s → step_at m p place ≡ Some (Halt (proc_id p))
halts m p f s place here some =
    step_is m p f (m.procs + 1 + s) place _ here (omega arith)
    (let is : halts_at m (m.procs + 1 + s) (m.halt p f) ≡ true = ap (halts_at m (m.procs + 1 + s)) some ∙ halted_at m s in rw is refl)

-- If the script has a halt, the step of the halt is at most the number of words plus one.
pub halt_in_width : (spec : Parts) (script : ScriptParts) (p f : ℕ) (halt : HaltAt) (step width : ℕ) → Flies (flight_of spec script) → halt_in script p f ≡ Some halt → step ≡ halt.step → width ≡ words spec
    → step ≤ width + 1
halt_in_width spec script p f halt step width flies there is same =
    let low : halt.step ≤ words spec + 1 = flies.step p f halt.step (ap (option_map (λ (h : HaltAt). h.step)) there) in
    omega (arith, low, is, same)

-- Lemmas on a seat that has moved: its next step, its halt, its new place, and its draft.

pub looks_on : (m : Flight) (p q n f : ℕ) (place : Place) → place ≡ At f (1 + q) → n ≡ m.procs → q < n → step_at m p place ≡ Some (Look (proc_id p) (proc_id q))
looks_on m p q n f place here same low = looks m p f q place here (rw (sym same) low)

pub stores_on : (m : Flight) (p old i n f : ℕ) (place : Place) → p ≡ old → place ≡ At f (m.procs + 1 + i) → i < n → n ≤ m.width → HaltsLate m old f n → step_at m p place ≡ Some (Store (proc_id p) i)
stores_on m p old i n f place same here low few late =
    stores m p f i place here (omega (arith, low, few)) (λ s e. let l = late s (ap (λ q. m.halt q f) (sym same) ∙ e) in omega (arith, low, l))

pub flips_on : (m : Flight) (p old w f : ℕ) (place : Place) → p ≡ old → place ≡ At f (m.procs + 1 + w) → w ≡ m.width → HaltsLate m old f (suc w) → step_at m p place ≡ Some (Flip (proc_id p))
flips_on m p old w f place same here is late =
    flips m p f place (here ∙ ap (λ n. At f (m.procs + 1 + n)) is) (λ s e. let l = late s (ap (λ q. m.halt q f) (sym same) ∙ e) in omega (arith, is, l))

pub never_halts : (m : Flight) (p f n : ℕ) → m.halt p f ≡ None → HaltsLate m p f n
never_halts m p f n none = λ s e. absurd (cc)

pub halts_then : (m : Flight) (p f s n : ℕ) → m.halt p f ≡ Some s → n ≤ s → HaltsLate m p f n
halts_then m p f s n some low = λ r e. let same : s ≡ r = cc in omega (arith, low, same)

pub ends_on : (m : Flight) (p old w f : ℕ) (before place : Place) → p ≡ old → before ≡ At f (m.procs + 1 + w) → w ≡ m.width → place ≡ one_on before → m.halt old f ≡ None → step_at m p place ≡ Some (Done (proc_id p))
ends_on m p old w f before place same here is on none =
    let at : m.procs + 2 + m.width ≡ suc (m.procs + 1 + w) = omega (arith, is) in
    ends m p f place (on ∙ ap one_on here ∙ ap (At f) (sym at)) (ap (λ q. m.halt q f) same ∙ none)

pub halts_on : (m : Flight) (p old s f : ℕ) (place : Place) → p ≡ old → place ≡ At f (m.procs + 1 + s) → m.halt old f ≡ Some s → step_at m p place ≡ Some (Halt (proc_id p))
halts_on m p old s f place same here some = halts m p f s place here (ap (λ q. m.halt q f) same ∙ some)

pub ended : (f n : ℕ) (one two three : Place) → one ≡ At f n → two ≡ one_on one → three ≡ frame_on two → three ≡ At (f + 1) 0
ended f n one two three a b c = let at : suc f ≡ f + 1 = omega arith in c ∙ ap frame_on (b ∙ ap one_on a) ∙ ap (λ g. At g 0) at

pub flipped : (f n k : ℕ) (one two : Place) → one ≡ At f n → two ≡ one_on one → k ≡ n + 1 → two ≡ At f k
flipped f n k one two a b is = let at : suc n ≡ k = omega (arith, is) in b ∙ ap one_on a ∙ ap (At f) at

pub stopped : (f n : ℕ) (one two : Place) → one ≡ At f n → two ≡ halted_there one → two ≡ Halted f
stopped f n one two a b = b ∙ ap halted_there a

pub word_drafted : (spec : Parts) (script : ScriptParts) (p old f n i : ℕ) (place : Place) (image : List ℤ) (word : ℕ) → image ≡ draft spec script old f → p ≡ old → place ≡ At f n
    → word ≡ encode (slice_index_or image i (pos 0)) → word ≡ word_in (draft_words spec script p (frame_of place)) i
word_drafted spec script p old f n i place image word is same here said =
    said ∙ sym (encoded_at image i) ∙ ap (λ xs. word_in (map encode xs) i) is ∙ ap (λ q. word_in (draft_words spec script q f) i) (sym same) ∙ ap (λ g. word_in (draft_words spec script p g) i) (sym (ap frame_of here))

pub drafted_by : (spec : Parts) (script : ScriptParts) (f p old : ℕ) (snap : Snapshot) (image : List ℤ)
    → ((script : ScriptParts) (f : ℕ) → IsSpec spec → old < length spec.procs → IsSnapshot spec script f snap → image ≡ draft spec script old f)
    → old ≡ p → p < length spec.procs → IsSpec spec → IsSnapshot spec script f snap → image ≡ draft spec script p f
drafted_by spec script f p old snap image trace same low facts shown = trace script f facts (rw same low) shown ∙ ap (λ q. draft spec script q f) same

pub draft_for : (mission told : MissionParts) (seat was : Seat) (image : List ℤ) → mission ≡ told → seat ≡ was → IsSeatDraft told was image → IsSeatDraft mission seat image
draft_for mission told seat was image same at is = rw (same, at) is
