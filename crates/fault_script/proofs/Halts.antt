-- Lemmas on the processors that are up after halts.
use Rattle.std.proofs.Common.{◌≡◌, ℕ, zero, suc, ◌<◌, ◌≤◌, Bool, true, false, not, refl, arith, ap, sym, ◌∙◌}
use mathlib.Core.Logic.{inl, inr}
use Rattle.std.specs.Prelude.{◌&&◌, ◌==◌, Some, if◌then◌else◌, nat_le, nat_lt}
use Rattle.std.specs.List.{list_all}
use Rattle.scram_types.proofs.Items.{all_pass, each_passes, any_is, any_found}
use Rattle.scram_types.proofs.Naturals.{at_most_test, at_most, below_test, below, equal_test, equal, below_or_at}
use Rattle.scram_types.proofs.Booleans.{same_test, true_false, and_right, and_left}
use Rattle.scram_types.specs.declared.scripts.HaltAt.{HaltAt}
use Rattle.scram_types.specs.declared.scripts.RestartAt.{RestartAt}
use Rattle.scram_types.specs.Scripts.{ScriptParts}
use Rattle.fault_script.specs.Times.{halts_in, is_halt_in, is_over, is_restart_between, is_up, is_up_since, latest_halt, restarted}
use Rattle.fault_script.specs.Laws.{UpAfterEachHalt}

-- Lemmas on the restarts of a processor, and on the frames in which the processor is up.

-- Here `p` is a processor, `h` is the frame of a halt, and `f` is the frame in which `p` may be up.

-- A restart is of processor `p`, after frame `h`, and in frame `f` or an earlier one.

pub record IsBetween (p h f : ℕ) (restart : RestartAt) : Type 0 where
  pub proc : restart.proc.0 ≡ p
  pub after : h < restart.frame
  pub by : restart.frame ≤ f

pub between : (p h f : ℕ) (restart : RestartAt) → is_restart_between p h f restart ≡ true → IsBetween p h f restart
between p h f restart t =
    let first = and_left (restart.proc.0 == p && nat_lt h restart.frame) (nat_le restart.frame f) t in
    record {
      proc = equal restart.proc.0 p (and_left (restart.proc.0 == p) (nat_lt h restart.frame) first);
      after = below h restart.frame (and_right (restart.proc.0 == p) (nat_lt h restart.frame) first);
      by = at_most restart.frame f (and_right (restart.proc.0 == p && nat_lt h restart.frame) (nat_le restart.frame f) t);
    }

pub between_test : (p h f : ℕ) (restart : RestartAt) → IsBetween p h f restart → is_restart_between p h f restart ≡ true
between_test p h f restart b =
    rw (equal_test restart.proc.0 p b.proc, below_test h restart.frame b.after, at_most_test restart.frame f b.by) refl

-- A processor that has restarted since a frame has restarted since each earlier frame.
restarted_earlier : (script : ScriptParts) (p h g f : ℕ) → h ≤ g → restarted script p g f ≡ true → restarted script p h f ≡ true
restarted_earlier script p h g f earlier t =
    let found = any_found (is_restart_between p g f) script.restarts t in
    let b = between p g f found.1 found.3 in
    any_is (is_restart_between p h f) script.restarts found.0 found.1 found.2
    (between_test p h f found.1 (let after = b.after in record { proc = b.proc; after = omega arith; by = b.by }))

-- Processor `p` has restarted, by frame `f`, since each of its halts in a frame below `n`.
EachOver : ScriptParts → ℕ → ℕ → ℕ → Type 0
EachOver script p f n = (h : ℕ) → h < n → halts_in script p h ≡ true → restarted script p h f ≡ true

each_more : (script : ScriptParts) (p f n : ℕ) (here : Bool) → halts_in script p n ≡ here → (is_up_since script p f (latest_halt script p n) ≡ true → EachOver script p f n)
    → is_up_since script p f (if here then Some n else latest_halt script p n) ≡ true → EachOver script p f (suc n)
unfolding EachOver
each_more script p f n true is before up h less halts = restarted_earlier script p h n f (omega arith) up
each_more script p f n false is before up h less halts = elim (below_or_at h n less) [
  | inl earlier ↦ before up h earlier halts
  | inr same ↦ true_false (halts_in script p h) halts (ap (halts_in script p) same ∙ is)
]

each_over : (script : ScriptParts) (p f n : ℕ) → is_up_since script p f (latest_halt script p n) ≡ true → EachOver script p f n
unfolding EachOver
each_over script p f zero up = λ h less halts. absurd (omega arith)
each_over script p f (suc n) up = each_more script p f n (halts_in script p n) refl (each_over script p f n) up

up_more : (script : ScriptParts) (p f n : ℕ) (here : Bool) → halts_in script p n ≡ here → (EachOver script p f n → is_up_since script p f (latest_halt script p n) ≡ true)
    → EachOver script p f (suc n) → is_up_since script p f (if here then Some n else latest_halt script p n) ≡ true
unfolding EachOver
up_more script p f n true is before over = over n (omega arith) is
up_more script p f n false is before over = before (λ h less halts. over h (omega arith) halts)

over_up : (script : ScriptParts) (p f n : ℕ) → EachOver script p f n → is_up_since script p f (latest_halt script p n) ≡ true
over_up script p f zero over = refl
over_up script p f (suc n) over = up_more script p f n (halts_in script p n) refl (over_up script p f n) over

pub up_after_each_halt : UpAfterEachHalt
unfolding EachOver
up_after_each_halt script p f = (each_over script p f f, over_up script p f f)

-- Lemmas on the condition `EachOver`, stated for the lists of halts and restarts.

over_of : (a b r : Bool) → (a ≡ true → b ≡ true → r ≡ true) → not (a && b && not r) ≡ true
over_of true true true h = refl
over_of true true false h = absurd (let clash = h refl refl in cc)
over_of true false r h = refl
over_of false b r h = refl

over_to : (a b r : Bool) → not (a && b && not r) ≡ true → a ≡ true → b ≡ true → r ≡ true
over_to true true true h s t = refl
over_to true true false h s t = h
over_to true false r h s t = absurd (cc)
over_to false b r h s t = absurd (cc)

halt_test : (p f : ℕ) (halt : HaltAt) → halt.proc.0 ≡ p → halt.frame ≡ f → is_halt_in p f halt ≡ true
halt_test p f halt proc frame = rw (equal_test halt.proc.0 p proc, equal_test halt.frame f frame) refl

listed_over : (script : ScriptParts) (p f : ℕ) → list_all (is_over script p f) script.halts ≡ true → (h : ℕ) → h < f → halts_in script p h ≡ true → restarted script p h f ≡ true
listed_over script p f all h less halts =
    let found = any_found (is_halt_in p h) script.halts halts in
    let over = each_passes (is_over script p f) script.halts all found.0 found.1 found.2 in
    let proc = and_left (found.1.proc.0 == p) (found.1.frame == h) found.3 in
    let frame = equal found.1.frame h (and_right (found.1.proc.0 == p) (found.1.frame == h) found.3) in
    let early = below_test found.1.frame f (omega arith) in
    ap (λ g. restarted script p g f) (sym frame) ∙ over_to (found.1.proc.0 == p) (nat_lt found.1.frame f) (restarted script p found.1.frame f) over proc early

over_listed : (script : ScriptParts) (p f : ℕ) → ((h : ℕ) → h < f → halts_in script p h ≡ true → restarted script p h f ≡ true) → list_all (is_over script p f) script.halts ≡ true
over_listed script p f over = all_pass (is_over script p f) script.halts (λ i halt there.
    over_of (halt.proc.0 == p) (nat_lt halt.frame f) (restarted script p halt.frame f) (λ proc early.
    over halt.frame (below halt.frame f early)
    (any_is (is_halt_in p halt.frame) script.halts i halt there (halt_test p halt.frame halt (equal halt.proc.0 p proc) refl))))

pub up_by_lists : (script : ScriptParts) (p f : ℕ) → list_all (is_over script p f) script.halts ≡ is_up script p f
up_by_lists script p f = same_test (list_all (is_over script p f) script.halts) (is_up script p f)
    (λ all. (up_after_each_halt script p f).1 (listed_over script p f all))
    (λ up. over_listed script p f ((up_after_each_halt script p f).0 up))
