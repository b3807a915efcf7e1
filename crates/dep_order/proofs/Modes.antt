-- Lemmas on the modes of a configuration's applications, and on the times of their phases.
use Rattle.std.proofs.Common.{◌≡◌, ℕ, suc, ◌<◌, ◌≤◌, Bool, true, false, refl, arith, sym, List, [], ◌∷◌, length, subst}
use Rattle.std.specs.Prelude.{Option, Some, None, if◌then◌else◌, nat_lt, slice_get, IsSome, option_and_then, ◌==◌}
use Rattle.std.proofs.lemmas.Bool.Decides.{nat_tests}
use Rattle.std.proofs.lemmas.Option.{slice_get_within}
use Rattle.scram_types.specs.declared.ids.ConfId.{ConfId}
use Rattle.scram_types.specs.declared.specification.AppSpec.{AppSpec}
use Rattle.scram_types.specs.declared.specification.Conf.{Conf}
use Rattle.scram_types.specs.declared.specification.ModeSpec.{ModeSpec}
use Rattle.scram_types.specs.declared.specification.Place.{Place}
use Rattle.scram_types.specs.Specification.{Each, IsModeSpec, IsPhase, IsPlace, IsSpec, Parts, mode_in, place_in}
use Rattle.scram_types.specs.Lookups.{mode_of_app, is_on, place_of}
use Rattle.scram_types.proofs.Options.{none_some, same_some}
use Rattle.dep_order.specs.Timetables.{halt_time, init_time, prepare_time}

mode_case : (P : ModeSpec → Type 0) (b : Bool) (y x : ModeSpec) (rest : Option ModeSpec) → P y → (rest ≡ Some x → P x)
    → (if b then Some y else rest) ≡ Some x → P x
mode_case P true y x rest here later e = subst P (same_some y x e) here
mode_case P false y x rest here later e = later e

pub mode_in_each : (P : ModeSpec → Type 0) (modes : List ModeSpec) (mode : ℕ) (x : ModeSpec) → Each P modes → mode_in modes mode ≡ Some x → P x
mode_in_each P [] mode x each e = none_some x e
mode_in_each P (y ∷ ys) mode x each e =
    mode_case P (y.mode.0 == mode) y x (mode_in ys mode) (each 0 y refl) (mode_in_each P ys mode x (λ i z f. each (suc i) z f)) e

-- A phase takes 1 to 16 frames for an application that is on, and 0 frames for an application that is off.
pub record IsTimed (on : Bool) (time : ℕ) : Type 0 where
  pub most : time ≤ 16
  pub test : on ≡ nat_lt 0 time

pub record AreTimed (spec : Parts) (c : ConfId) (a : ℕ) : Type 0 where
  pub halt : IsTimed (is_on spec c a) (halt_time spec c a)
  pub prepare : IsTimed (is_on spec c a) (prepare_time spec c a)
  pub init : IsTimed (is_on spec c a) (init_time spec c a)
  pub inside : is_on spec c a ≡ true → a < length spec.apps

above_zero : (n : ℕ) → 1 ≤ n → true ≡ nat_lt 0 n
above_zero n h = sym (grind (arith, nat_tests))

phase_timed : (n : ℕ) → IsPhase n → IsTimed true n
phase_timed n phase = record { most = phase.most; test = above_zero n phase.least }

off_timed : IsTimed false 0
off_timed = record { most = omega arith; test = refl }

timed_off : (spec : Parts) (c : ConfId) (a : ℕ) → place_of spec c a ≡ None → AreTimed spec c a
timed_off spec c a off = record {
  halt = rw (off) off_timed;
  prepare = rw (off) off_timed;
  init = rw (off) off_timed;
  inside = λ on. absurd (let off_on = rw (off) at on in cc);
}

timed_on : (spec : Parts) (c : ConfId) (a : ℕ) (place : Place) (listed : ModeSpec) → place_of spec c a ≡ Some place → mode_of_app spec a place.mode.0 ≡ Some listed
    → a < length spec.apps → IsPhase listed.halt → IsPhase listed.prepare → IsPhase listed.init → AreTimed spec c a
timed_on spec c a place listed on found inside halt prepare init = record {
  halt = rw (on, found) (phase_timed listed.halt halt);
  prepare = rw (on, found) (phase_timed listed.prepare prepare);
  init = rw (on, found) (phase_timed listed.init init);
  inside = λ _. inside;
}

placed : (spec : Parts) → IsSpec spec → (c : ConfId) (a : ℕ) (place : Place) (conf : Option Conf) → slice_get spec.confs c.0 ≡ conf
    → option_and_then (λ (conf : Conf). place_in conf a) conf ≡ Some place → IsPlace spec.procs spec.apps a place
placed spec known c a place None is e = none_some place e
placed spec known c a place (Some conf) is e = (known.confs c.0 conf is).places a place e

timed_listed : (spec : Parts) → IsSpec spec → (c : ConfId) (a : ℕ) (place : Place) (app : AppSpec) (listed : Option ModeSpec)
    → place_of spec c a ≡ Some place → slice_get spec.apps a ≡ Some app → mode_in app.modes place.mode.0 ≡ listed → IsSome listed → AreTimed spec c a
timed_listed spec known c a place app None on there is some = absurd (cc)
timed_listed spec known c a place app (Some listed) on there is some =
    let fits = mode_in_each (IsModeSpec app.kind.0) app.modes place.mode.0 listed (known.apps a app there).modes is in
    timed_on spec c a place listed on (rw (there) is) (slice_get_within spec.apps a app there) fits.halt fits.prepare fits.init

timed_placed : (spec : Parts) → IsSpec spec → (c : ConfId) (a : ℕ) (place : Place) → place_of spec c a ≡ Some place → AreTimed spec c a
timed_placed spec known c a place on =
    let there = placed spec known c a place (slice_get spec.confs c.0) refl on in
    timed_listed spec known c a place there.app (mode_in there.app.modes place.mode.0) on there.there refl there.listed

timed_by : (spec : Parts) → IsSpec spec → (c : ConfId) (a : ℕ) (place : Option Place) → place_of spec c a ≡ place → AreTimed spec c a
timed_by spec known c a None is = timed_off spec c a is
timed_by spec known c a (Some place) is = timed_placed spec known c a place is

pub timed : (spec : Parts) → IsSpec spec → (c : ConfId) (a : ℕ) → AreTimed spec c a
timed spec known c a = timed_by spec known c a (place_of spec c a) refl
