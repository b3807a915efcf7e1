-- A bound on the number of events of a pair.
use Rattle.std.proofs.Common.{◌≡◌, ℕ, zero, suc, ◌+◌, ◌-◌, ◌*◌, ◌≤◌, Bool, true, false, ◌&&◌, refl, arith}
use Rattle.std.specs.Prelude.{Option, Some, None, is_none, nat_eq, if◌then◌else◌}
use Rattle.std.proofs.lemmas.Bool.Decides.{nat_tests}
use Rattle.fail_stop.specs.Flights.{Flight}
use Rattle.kernel_pair.specs.declared.events.UnitHalt.{UnitHalt}
use Rattle.kernel_pair.specs.Pairs.{Processor, KernelUnit, Pair}
use Rattle.kernel_pair.specs.Rooms.{frames_below, halt_left, pair_left, steps_left}

frames_most : (m : Flight) (proc : ℕ → Processor) (n : ℕ) → frames_below m proc n ≤ n * m.frames
frames_most m proc zero = omega arith
frames_most m proc (suc n) =
    let a = frames_most m proc n in
    let b : suc n * m.frames ≡ n * m.frames + m.frames = grind (arith) in
    omega (arith, a, b)

halt_by : (h : UnitHalt) (a b : Bool) (x y : Bool) → nat_eq 0 h.unit ≡ a → nat_eq 1 h.unit ≡ b → (if a && x then 1 else 0) + (if b && y then 1 else 0) ≤ 1
halt_by h true true x y i j = let c : 0 ≡ h.unit = grind (arith, nat_tests, i) in let d : 1 ≡ h.unit = grind (arith, nat_tests, j) in absurd (omega arith)
halt_by h true false true y i j = omega arith
halt_by h true false false y i j = omega arith
halt_by h false true x true i j = omega arith
halt_by h false true x false i j = omega arith
halt_by h false false x y i j = omega arith

halt_once : (halt : Option UnitHalt) (x y : KernelUnit) → halt_left halt 0 x + halt_left halt 1 y ≤ 1
halt_once None x y = omega arith
halt_once (Some h) x y = halt_by h (nat_eq 0 h.unit) (nat_eq 1 h.unit) (is_none x.stopped) (is_none y.stopped) refl refl

steps_most : (m : Flight) (halt : Option UnitHalt) (u : ℕ) (x : KernelUnit) → steps_left m halt u x ≤ m.frames * (m.procs + 23) + halt_left halt u x
steps_most m halt u x = let a = by_frames (m.procs + 23) m.frames x.frame in omega (arith, a)
  where
    by_frames : (w f k : ℕ) → (f - k) * w ≤ f * w
    by_frames w f zero = let e : f - 0 ≡ f = omega arith in rw e (omega arith)
    by_frames w zero (suc k) = let e : 0 - suc k ≡ 0 = omega arith in rw e (omega arith)
    by_frames w (suc f) (suc k) = let a = by_frames w f k in let b : suc f * w ≡ f * w + w = grind (arith) in let e : suc f - suc k ≡ f - k = omega arith in rw e (omega (arith, a, b))

sum_is : (n f : ℕ) → n * f + (f * (n + 23) + f * (n + 23)) ≡ f * (3 * n + 46)
sum_is n f = grind (arith)

pub most_left : (m : Flight) (halt : Option UnitHalt) (s : Pair) → pair_left m halt s ≤ m.frames * (3 * m.procs + 46) + 1
most_left m halt s =
    let a = frames_most m s.proc m.procs in
    let b = steps_most m halt 0 (s.unit 0) in
    let c = steps_most m halt 1 (s.unit 1) in
    let d = halt_once halt (s.unit 0) (s.unit 1) in
    let e = sum_is m.procs m.frames in
    omega (arith, a, b, c, d, e)
