-- If a unit has released frame `k + 1`, then both units have noted every processor in frame `k`, unless the other
-- unit has halted.
use Rattle.std.proofs.Common.{◌≡◌, ◌≢◌, inl, inr, ℕ, suc, ◌+◌, ◌<◌, ◌≤◌, subst, arith}
use Rattle.std.specs.Prelude.{Option, None, nat_le, nat_lt, if◌then◌else◌}
use Rattle.std.proofs.lemmas.Bool.Decides.{nat_tests}
use Rattle.fail_stop.specs.Flights.{Flight, Flies}
use Rattle.kernel_pair.specs.declared.events.UnitHalt.{UnitHalt}
use Rattle.kernel_pair.specs.Laws.{noted_frames}
use Rattle.kernel_pair.specs.Pairs.{IsAtEnd, IsPairOver, KernelUnit, Pair, other_unit}
use Rattle.kernel_pair.specs.Kept.{IsUnit, PairKept, readies}
use Rattle.kernel_pair.proofs.Placing.{meetings_least, released}

noted_least : (m : Flight) (x : KernelUnit) → x.frame ≤ noted_frames m x
noted_least m x = by_step m.procs x.step x.frame
  where
    by_step : (n j k : ℕ) → k ≤ (if nat_le n j then suc k else k)
    by_step n j k = grind (arith, nat_tests)

noted_ready : (m : Flight) (x : KernelUnit) → readies m x.frame x.step ≤ noted_frames m x
noted_ready m x = by_step m.procs x.step x.frame
  where
    by_step : (n j k : ℕ) → (if nat_lt (n + 20) j then suc k else k) ≤ (if nat_le n j then suc k else k)
    by_step n j k = grind (arith, nat_tests)

module _ (m : Flight) (halt : Option UnitHalt) (s : Pair) (y : Flies m) (k : PairKept m halt s) where
  pub both_noted : (u f : ℕ) → u < 2 → suc f < (s.unit u).release → (f < noted_frames m (s.unit u)) × ((s.unit (other_unit u)).stopped ≡ None → f < noted_frames m (s.unit (other_unit u)))
  both_noted u f l late =
      let x : IsUnit m halt u (s.unit u) = k.units u l in
      let a = (released m (s.unit u).frame (suc f) (subst (λ (r : ℕ). suc f < r) x.release late)).0 in
      let own = noted_least m (s.unit u) in
      (omega arith, λ n. let b = k.met u l n in let c = meetings_least m (s.unit u).frame (s.unit u).step in let d = noted_ready m (s.unit (other_unit u)) in omega (arith, a, b, c, d))

pub last_ends : (m : Flight) (s : Pair) → m.frames ≢ 0 → IsPairOver m s → (s.unit 1).stopped ≡ None → IsAtEnd m (s.unit 1)
last_ends m s some (inl e) = absurd (some e)
last_ends m s some (inr o) = o.1 1 (omega arith)
