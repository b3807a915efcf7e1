-- Demands are read back as they were written.
use Rattle.std.proofs.Common.{◌≡◌, ◌≤◌, ◌<◌, ◌+◌, ◌==◌, ℕ, zero, suc, true, false, List, [], ◌∷◌, ◌++◌, length, map, set, replicate, take, arith, refl, ◌∙◌, ap, sym, subst, append_assoc, append-nil}
use mathlib.Core.Logic.{inl, inr}
use Rattle.std.specs.Prelude.{Option, Some, None, IsSome, Ok, codes, slice_get, is_some}
use Rattle.std.proofs.Math.Seq.{set-append_seam}
use Rattle.std.proofs.lemmas.List.{length-append}
use Rattle.std.proofs.lemmas.Option.{slice_get_within}
use Rattle.serde_json.specs.Data.{array, string}
use Rattle.serde_json.specs.Events.{items_len}
use Rattle.serde_json.specs.View.{items_of}
use Rattle.scram_doc.specs.Canonical.{list_data}
use Rattle.scram_doc.specs.Lists.{AllAfter, folded_from}
use Rattle.scram_doc.specs.Paths.{item_path, member_path}
use Rattle.scram_doc.proofs.ReadBack.{fact_after, items_back, list_back, within_back}
use Rattle.scram_types.specs.declared.ids.Mode.{Mode}
use Rattle.scram_types.specs.declared.specification.AppSpec.{AppSpec}
use Rattle.scram_types.specs.declared.demands.Demand.{Demand}
use Rattle.scram_types.specs.declared.specification.Want.{Want}
use Rattle.scram_types.specs.Bits.{has_bit}
use Rattle.scram_types.specs.Lookups.{number_from}
use Rattle.scram_types.specs.ModeLists.{is_among}
use Rattle.scram_types.specs.Names.{is_name}
use Rattle.scram_types.specs.Specification.{Each, IsDemand, IsOn, IsSpec, Parts, mode_in}
use Rattle.scram_types.proofs.BitSets.{bits_lt, has_bits, no_bit_past}
use Rattle.scram_types.proofs.Booleans.{not_true, true_false}
use Rattle.scram_types.proofs.Items.{any_found, next_part}
use Rattle.scram_types.proofs.Naturals.{equal, low_or_high}
use Rattle.spec_reading.specs.declared.rule.TheConstants.{UNKNOWN_APPLICATION, UNKNOWN_CONFIGURATION, UNKNOWN_PROCESSOR}
use Rattle.spec_reading.specs.Names.{name_of_app, name_of_conf, name_of_demand, name_of_proc}
use Rattle.spec_reading.specs.Choices.{read_want}
use Rattle.spec_reading.specs.Configurations.{given}
use Rattle.spec_reading.specs.Demands.{on_set, read_demand, read_demands, read_modes_on, read_on_app, read_on_mode, read_on_modes}
use Rattle.reconf_spec.specs.Texts.{demand_data, name_of_app_mode, on_app_data, on_data, want_data}
use Rattle.spec_reading.specs.Writable.{lists_want}
use Rattle.reconf_spec.proofs.AppsBack.{mode_spelled}
use Rattle.reconf_spec.proofs.ConfsBack.{listed_of_kind}
use Rattle.reconf_spec.proofs.Lookups.{all_new, number_back}
use Rattle.reconf_spec.proofs.RestBack.{NewWant, want_back}
use Rattle.reconf_spec.proofs.Sets.{IsFree, all_free, set_back}

-- Item `j` of the first `i` items of a list is item `j` of the list, and `j` is below `i`.
taken : {A : Type 0} (i j : ℕ) (xs : List A) (x : A) → slice_get (take i xs) j ≡ Some x → (j < i) × (slice_get xs j ≡ Some x)
taken zero j xs x e = absurd (let none : None ≡ Some x = e in cc)
taken (suc i) j [] x e = absurd (let none : None ≡ Some x = e in cc)
taken (suc i) zero (y ∷ ys) x e = (omega arith, e)
taken (suc i) (suc j) (y ∷ ys) x e = let rest = taken i j ys x e in (omega (arith, rest.0), rest.1)

-- The application lists the mode, and the mode is not among the modes before it.
record NewMode (app : AppSpec) (done : List Mode) (mode : Mode) : Type 0 where
  new : is_among done mode.0 ≡ false
  listed : IsSome (mode_in app.modes mode.0)

modes_new : (apps : List AppSpec) (a : ℕ) (modes : List Mode) → (on : IsOn apps a modes) → AllAfter (NewMode on.app) modes
modes_new apps a modes on i mode e = record {
  new = not_true (is_among (take i modes) mode.0) (λ found.
      let other = any_found (λ (listed : Mode). listed.0 == mode.0) (take i modes) found in
      let place = taken i other.0 modes other.1 other.2 in
      let same = on.differ other.0 i other.1 mode place.1 e (equal other.1.0 mode.0 other.3) in
      absurd (omega (arith, place.0, same)));
  listed = on.listed i mode e;
}

module _ (spec : Parts) (is : IsSpec spec) (a : ℕ) (app : AppSpec) (there : slice_get spec.apps a ≡ Some app) where
  mode_read : (at : List ℕ) (done : List Mode) (mode : Mode) → NewMode app done mode
      → read_on_mode (Some app) at done (string (name_of_app_mode spec.apps a mode.0)) ≡ Ok (done ++ mode ∷ [])
  mode_read at done mode fits =
      let app_is = is.apps a app there in
      let kind = listed_of_kind app.kind.0 mode.0 app.modes app_is.modes fits.listed in
      rw (there, mode_spelled app.kind.0 mode.0 app_is.kind kind.first kind.last, fits.listed, fits.new) refl

  modes_read : (at : List ℕ) (i : ℕ) (before rest whole : List Mode) → before ++ rest ≡ whole → AllAfter (NewMode app) whole
      → folded_from (read_on_mode (Some app)) at i before (items_of (map (λ (mode : Mode). string (name_of_app_mode spec.apps a mode.0)) rest)) ≡ Ok whole
  modes_read at i before [] whole e all = ap (λ (modes : List Mode). Ok modes) (sym (append-nil before) ∙ e)
  modes_read at i before (mode ∷ rest) whole e all =
      rw (mode_read (item_path at i) before mode (fact_after (NewMode app) before mode rest (subst (AllAfter (NewMode app)) (sym e) all)))
      (modes_read at (suc i) (before ++ mode ∷ []) rest whole (append_assoc before (mode ∷ []) rest ∙ e) all)

  modes_back : (at : List ℕ) (modes : List Mode) → length modes ≤ 3 → AllAfter (NewMode app) modes
      → read_on_modes (slice_get spec.apps a) at (list_data (λ (mode : Mode). string (name_of_app_mode spec.apps a mode.0)) modes) ≡ Ok modes
  modes_back at modes few all =
      rw (items_back (λ (mode : Mode). string (name_of_app_mode spec.apps a mode.0)) 0 3 at modes (omega arith) few)
      (subst (λ (found : Option AppSpec). folded_from (read_on_mode found) at 0 [] (items_of (map (λ (mode : Mode). string (name_of_app_mode spec.apps a mode.0)) modes)) ≡ Ok modes) (sym there)
      (modes_read at 0 [] modes modes refl all))

on_app_back : (spec : Parts) → IsSpec spec → (at : List ℕ) (made : List (Option (List Mode))) (a : ℕ) (modes : List Mode) → IsOn spec.apps a modes → slice_get made a ≡ Some None
    → read_on_app spec.apps at made (on_app_data spec a modes) ≡ Ok (set made a (Some modes))
on_app_back spec is at made a modes on free =
    let number = number_back name_of_app spec.apps a is.apps_differ (slice_get_within spec.apps a on.app on.there) in
    rw (number, free, modes_back spec is a on.app on.there (member_path at (codes "modes")) modes on.few (modes_new spec.apps a modes on)) refl

abbrev AreAllOn : Parts → ℕ → List (Option (List Mode)) → Type 0
AreAllOn spec first on = (i : ℕ) (modes : List Mode) → slice_get on i ≡ Some (Some modes) → IsOn spec.apps (first + i) modes

on_read : (spec : Parts) → IsSpec spec → (at : List ℕ) (i : ℕ) (done rest : List (Option (List Mode))) → AreAllOn spec (length done) rest
    → folded_from (read_on_app spec.apps) at i (done ++ replicate (length rest) None) (items_of (on_data spec (length done) rest)) ≡ Ok (done ++ rest)
on_read spec is at i done [] on = refl
on_read spec is at i done (None ∷ rest) on =
    let longer : length (done ++ None ∷ []) ≡ suc (length done) = length-append done (None ∷ []) ∙ omega arith in
    let next = on_read spec is at i (done ++ None ∷ []) rest
    (λ j modes e. let same : length done + suc j ≡ length (done ++ None ∷ []) + j = omega (arith, longer) in
    subst (λ (n : ℕ). IsOn spec.apps n modes) same (on (suc j) modes e)) in
    rw (← longer, ← append_assoc done (None ∷ []) (replicate (length rest) None), ← append_assoc done (None ∷ []) rest) next
on_read spec is at i done (Some modes ∷ rest) on =
    let longer : length (done ++ Some modes ∷ []) ≡ suc (length done) = length-append done (Some modes ∷ []) ∙ omega arith in
    let here : IsOn spec.apps (length done) modes = subst (λ (n : ℕ). IsOn spec.apps n modes) (omega arith) (on zero modes refl) in
    let next = on_read spec is at (suc i) (done ++ Some modes ∷ []) rest
    (λ j other e. let same : length done + suc j ≡ length (done ++ Some modes ∷ []) + j = omega (arith, longer) in
    subst (λ (n : ℕ). IsOn spec.apps n other) same (on (suc j) other e)) in
    rw (
      on_app_back spec is (item_path at i) (done ++ None ∷ replicate (length rest) None) (length done) modes here (next_part done (replicate (length rest) None) None),
      set-append_seam done None (replicate (length rest) None) (Some modes),
      ← longer,
      ← append_assoc done (Some modes ∷ []) (replicate (length rest) None),
      ← append_assoc done (Some modes ∷ []) rest,
    ) next

few_on : (spec : Parts) (a : ℕ) (on : List (Option (List Mode))) → items_len (items_of (on_data spec a on)) ≤ length on
few_on spec a [] = omega arith
few_on spec a (None ∷ on) = let rest = few_on spec (suc a) on in omega (arith, rest)
few_on spec a (Some modes ∷ on) = let rest = few_on spec (suc a) on in omega (arith, rest)

on_back : (spec : Parts) → IsSpec spec → (at : List ℕ) (on : List (Option (List Mode))) → length on ≡ 8 → ((a : ℕ) (modes : List Mode) → given on a ≡ Some modes → IsOn spec.apps a modes)
    → read_modes_on spec.apps at (array (items_of (on_data spec 0 on))) ≡ Ok on
on_back spec is at on width fits =
    let count = few_on spec 0 on in
    let read : folded_from (read_on_app spec.apps) at 0 (replicate (length on) None) (items_of (on_data spec 0 on)) ≡ Ok on =
    on_read spec is at 0 [] on (λ i modes e. let from_start : i ≡ 0 + i = omega arith in
    subst (λ (n : ℕ). IsOn spec.apps n modes) from_start (fits i modes (rw (e) refl))) in
    rw (within_back 0 8 at (items_of (on_data spec 0 on)) (omega arith) (omega (arith, count, width)))
    (subst (λ (n : ℕ). folded_from (read_on_app spec.apps) at 0 (replicate n None) (items_of (on_data spec 0 on)) ≡ Ok on) width read)

-- If `on` has no modes for any application of `off`, then no application is in both `off` and `on_set on`.
off_free : (on : List (Option (List Mode))) (off : ℕ) → ((a : ℕ) → has_bit off a ≡ true → given on a ≡ None) → IsFree off (on_set on)
off_free on off one a is = elim (low_or_high a 8) [
  | inl low ↦ has_bits (λ b. is_some (given on b)) 8 a low ∙ ap (λ (o : Option (List Mode)). is_some o) (one a is)
  | inr high ↦ no_bit_past (on_set on) 8 a (bits_lt (λ b. is_some (given on b)) 8) high
]

record NewDemand (spec : Parts) (done : List Demand) (demand : Demand) : Type 0 where
  new : number_from name_of_demand 0 done demand.name ≡ None
  spelled : is_name demand.name ≡ true
  is : IsDemand spec.procs spec.apps spec.confs spec.factors demand
  wants : AllAfter (λ (done : List Want) (want : Want). lists_want done want ≡ false) demand.wants

demand_back : (spec : Parts) → IsSpec spec → (at : List ℕ) (done : List Demand) (demand : Demand) → NewDemand spec done demand
    → read_demand spec.procs spec.apps spec.confs spec.factors at done (demand_data spec demand) ≡ Ok demand
demand_back spec is at done demand fits =
    let fact = fits.is in
    let wants = list_back (NewWant spec.factors) (read_want spec.factors) (want_data spec.factors) (want_back spec.factors is.factors_differ is.factors) 0 6 (member_path at (codes "when")) demand.wants (omega arith) fact.few
    (λ i x e. record { new = fits.wants i x e; is = fact.wants i x e }) in
    let down_free : IsFree demand.down demand.up = λ p on. not_true (has_bit demand.up p) (λ also. true_false (has_bit demand.down p) on (fact.apart p also)) in
    rw (
      fits.spelled,
      fits.new,
      set_back name_of_conf spec.confs UNKNOWN_CONFIGURATION 0 12 (member_path at (codes "from")) demand.from is.confs_count.few is.confs_differ fact.from (all_free demand.from),
      wants,
      set_back name_of_proc spec.procs UNKNOWN_PROCESSOR 0 8 (member_path at (codes "up")) demand.up is.procs_count.few is.procs_differ fact.up (all_free demand.up),
      set_back name_of_proc spec.procs UNKNOWN_PROCESSOR demand.up 8 (member_path at (codes "down")) demand.down is.procs_count.few is.procs_differ fact.down down_free,
      set_back name_of_conf spec.confs UNKNOWN_CONFIGURATION 0 12 (member_path at (codes "to")) demand.to is.confs_count.few is.confs_differ fact.to (all_free demand.to),
      on_back spec is (member_path at (codes "on")) demand.on fact.width fact.on,
      set_back name_of_app spec.apps UNKNOWN_APPLICATION (on_set demand.on) 8 (member_path at (codes "off")) demand.off is.apps_count.few is.apps_differ fact.off (off_free demand.on demand.off fact.one),
    ) refl

pub demands_back : (spec : Parts) → IsSpec spec → Each (λ (demand : Demand). AllAfter (λ (done : List Want) (want : Want). lists_want done want ≡ false) demand.wants) spec.demands → (at : List ℕ)
    → read_demands spec.procs spec.apps spec.confs spec.factors at (list_data (demand_data spec) spec.demands) ≡ Ok spec.demands
demands_back spec is wants at =
    list_back (NewDemand spec) (read_demand spec.procs spec.apps spec.confs spec.factors) (demand_data spec) (demand_back spec is) 0 64 at spec.demands (omega arith) is.demands_count
    (λ i x e. record { new = all_new name_of_demand spec.demands is.demands_differ i x e; spelled = is.names.demands i x e; is = is.demands i x e; wants = wants i x e })
