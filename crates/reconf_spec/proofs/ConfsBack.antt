-- Configurations and factors are read back as they were written.
use Rattle.std.proofs.Common.{◌≡◌, ◌≤◌, ◌+◌, ◌==◌, ℕ, zero, suc, Bool, true, false, cond, List, [], ◌∷◌, ◌++◌, length, set, replicate, arith, refl, ◌∙◌, subst, append_assoc}
use Rattle.std.specs.Prelude.{Option, Some, None, IsSome, Ok, IsTrue, codes, slice_get, is_some}
use Rattle.std.proofs.Math.Seq.{set-append_seam}
use Rattle.std.proofs.lemmas.Bool.{eqb-true}
use Rattle.std.proofs.lemmas.List.{length-append}
use Rattle.std.proofs.lemmas.Option.{slice_get_within}
use Rattle.serde_json.specs.Data.{array, string}
use Rattle.serde_json.specs.Events.{items_len}
use Rattle.serde_json.specs.View.{items_of}
use Rattle.scram_doc.specs.Paths.{item_path, member_path}
use Rattle.scram_types.specs.declared.specification.Conf.{Conf}
use Rattle.scram_types.specs.declared.specification.Factor.{Factor}
use Rattle.scram_types.specs.declared.specification.ModeSpec.{ModeSpec}
use Rattle.scram_types.specs.declared.specification.Place.{Place}
use Rattle.scram_types.specs.Names.{is_name}
use Rattle.scram_types.specs.Specification.{AreSpelled, Each, HasValueNames, IsConf, IsFactor, IsModeSpec, IsPlace, IsSpec, NamesDiffer, Parts, mode_in, modes_of_kind}
use Rattle.spec_reading.specs.Names.{name_of_app, name_of_conf, name_of_factor, name_of_proc}
use Rattle.spec_reading.specs.Configurations.{read_conf, read_confs, read_place, read_place_list}
use Rattle.spec_reading.specs.Factors.{read_factor, read_factors, read_value_name}
use Rattle.spec_reading.specs.Numbering.{itself}
use Rattle.scram_doc.specs.Lists.{folded_from}
use Rattle.scram_types.specs.Lookups.{number_from}
use Rattle.reconf_spec.specs.Texts.{conf_data, factor_data, place_data, places_data}
use Rattle.scram_doc.specs.Canonical.{list_data}
use Rattle.reconf_spec.proofs.AppsBack.{mode_spelled}
use Rattle.reconf_spec.proofs.Lookups.{all_new, number_back}
use Rattle.scram_types.proofs.Items.{next_part}
use Rattle.scram_doc.proofs.ReadBack.{list_back, within_back}

-- `mode` is a mode of the kind. The modes of a kind are numbered from 1.
pub record OfKind (kind mode : ℕ) : Type 0 where
  pub first : 1 ≤ mode
  pub last : mode ≤ modes_of_kind kind

of_kind_by : (b : Bool) (listed : ModeSpec) (mode kind : ℕ) (rest : Option ModeSpec) → (b ≡ true → listed.mode.0 ≡ mode) → IsModeSpec kind listed → (is_some rest ≡ true → OfKind kind mode)
    → is_some (cond b (Some listed) rest) ≡ true → OfKind kind mode
of_kind_by true listed mode kind rest here is later some =
    let same = here refl in
    record { first = subst (λ (m : ℕ). 1 ≤ m) same is.on; last = subst (λ (m : ℕ). m ≤ modes_of_kind kind) same is.of_kind }
of_kind_by false listed mode kind rest here is later some = later some

pub listed_of_kind : (kind mode : ℕ) (modes : List ModeSpec) → Each (IsModeSpec kind) modes → IsSome (mode_in modes mode) → OfKind kind mode
listed_of_kind kind mode [] each some = absurd (let wrong : false ≡ true = some in cc)
listed_of_kind kind mode (listed ∷ modes) each some =
    of_kind_by (listed.mode.0 == mode) listed mode kind (mode_in modes mode) (λ e. eqb-true listed.mode.0 mode e) (each zero listed refl)
    (listed_of_kind kind mode modes (λ i x e. each (suc i) x e)) some

-- A place is read back if its application has no place yet.
place_back : (spec : Parts) → IsSpec spec → (at : List ℕ) (made : List (Option Place)) (a : ℕ) (place : Place) → IsPlace spec.procs spec.apps a place → slice_get made a ≡ Some None
    → read_place spec.procs spec.apps at made (place_data spec a place) ≡ Ok (set made a (Some place))
place_back spec is at made a place fits free =
    let app_is = is.apps a fits.app fits.there in
    let kind = listed_of_kind fits.app.kind.0 place.mode.0 fits.app.modes app_is.modes fits.listed in
    let number = number_back name_of_app spec.apps a is.apps_differ (slice_get_within spec.apps a fits.app fits.there) in
    let on = number_back name_of_proc spec.procs place.proc.0 is.procs_differ fits.on in
    rw (number, free, fits.there, mode_spelled fits.app.kind.0 place.mode.0 app_is.kind kind.first kind.last, fits.listed, on) refl

abbrev Placed : Parts → ℕ → List (Option Place) → Type 0
Placed spec first places = (i : ℕ) (place : Place) → slice_get places i ≡ Some (Some place) → IsPlace spec.procs spec.apps (first + i) place

places_read : (spec : Parts) → IsSpec spec → (at : List ℕ) (i : ℕ) (done rest : List (Option Place)) → Placed spec (length done) rest
    → folded_from (read_place spec.procs spec.apps) at i (done ++ replicate (length rest) None) (items_of (places_data spec (length done) rest)) ≡ Ok (done ++ rest)
places_read spec is at i done [] placed = refl
places_read spec is at i done (None ∷ rest) placed =
    let longer : length (done ++ None ∷ []) ≡ suc (length done) = length-append done (None ∷ []) ∙ omega arith in
    let next = places_read spec is at i (done ++ None ∷ []) rest
    (λ j place e. let same : length done + suc j ≡ length (done ++ None ∷ []) + j = omega (arith, longer) in
    subst (λ (n : ℕ). IsPlace spec.procs spec.apps n place) same (placed (suc j) place e)) in
    rw (← longer, ← append_assoc done (None ∷ []) (replicate (length rest) None), ← append_assoc done (None ∷ []) rest) next
places_read spec is at i done (Some place ∷ rest) placed =
    let longer : length (done ++ Some place ∷ []) ≡ suc (length done) = length-append done (Some place ∷ []) ∙ omega arith in
    let here : IsPlace spec.procs spec.apps (length done) place = subst (λ (n : ℕ). IsPlace spec.procs spec.apps n place) (omega arith) (placed zero place refl) in
    let next = places_read spec is at (suc i) (done ++ Some place ∷ []) rest
    (λ j other e. let same : length done + suc j ≡ length (done ++ Some place ∷ []) + j = omega (arith, longer) in
    subst (λ (n : ℕ). IsPlace spec.procs spec.apps n other) same (placed (suc j) other e)) in
    rw (
      place_back spec is (item_path at i) (done ++ None ∷ replicate (length rest) None) (length done) place here (next_part done (replicate (length rest) None) None),
      set-append_seam done None (replicate (length rest) None) (Some place),
      ← longer,
      ← append_assoc done (Some place ∷ []) (replicate (length rest) None),
      ← append_assoc done (Some place ∷ []) rest,
    ) next

few_places : (spec : Parts) (a : ℕ) (places : List (Option Place)) → items_len (items_of (places_data spec a places)) ≤ length places
few_places spec a [] = omega arith
few_places spec a (None ∷ places) = let rest = few_places spec (suc a) places in omega (arith, rest)
few_places spec a (Some place ∷ places) = let rest = few_places spec (suc a) places in omega (arith, rest)

places_back : (spec : Parts) → IsSpec spec → (at : List ℕ) (conf : Conf) → IsConf spec.procs spec.apps conf → read_place_list spec.procs spec.apps at (array (items_of (places_data spec 0 conf.places))) ≡ Ok conf.places
places_back spec is at conf fits =
    let count = few_places spec 0 conf.places in
    let width = fits.width in
    let read : folded_from (read_place spec.procs spec.apps) at 0 (replicate (length conf.places) None) (items_of (places_data spec 0 conf.places)) ≡ Ok conf.places =
    places_read spec is at 0 [] conf.places (λ i place e. let from_start : i ≡ 0 + i = omega arith in
    subst (λ (n : ℕ). IsPlace spec.procs spec.apps n place) from_start (fits.places i place (rw (e) refl))) in
    rw (within_back 0 8 at (items_of (places_data spec 0 conf.places)) (omega arith) (omega (arith, count, width)))
    (subst (λ (n : ℕ). folded_from (read_place spec.procs spec.apps) at 0 (replicate n None) (items_of (places_data spec 0 conf.places)) ≡ Ok conf.places) width read)

record NewConf (spec : Parts) (done : List Conf) (conf : Conf) : Type 0 where
  new : number_from name_of_conf 0 done conf.name ≡ None
  spelled : is_name conf.name ≡ true
  is : IsConf spec.procs spec.apps conf

conf_back : (spec : Parts) → IsSpec spec → (at : List ℕ) (done : List Conf) (conf : Conf) → NewConf spec done conf → read_conf spec.procs spec.apps at done (conf_data spec conf) ≡ Ok conf
conf_back spec is at done conf fits = rw (fits.spelled, fits.new, places_back spec is (member_path at (codes "apps")) conf fits.is) refl

pub confs_back : (spec : Parts) → IsSpec spec → Each (λ (conf : Conf). IsTrue (is_name conf.name)) spec.confs → (at : List ℕ)
    → read_confs spec.procs spec.apps at (list_data (conf_data spec) spec.confs) ≡ Ok spec.confs
confs_back spec is named at =
    list_back (NewConf spec) (read_conf spec.procs spec.apps) (conf_data spec) (conf_back spec is) 1 12 at spec.confs is.confs_count.enough is.confs_count.few
    (λ i x e. record { new = all_new name_of_conf spec.confs is.confs_differ i x e; spelled = named i x e; is = is.confs i x e })

record NewValue (done : List (List ℕ)) (value : List ℕ) : Type 0 where
  new : number_from itself 0 done value ≡ None
  spelled : is_name value ≡ true

value_back : (at : List ℕ) (done : List (List ℕ)) (value : List ℕ) → NewValue done value → read_value_name at done (string value) ≡ Ok value
value_back at done value fits = rw (fits.spelled, fits.new) refl

record NewFactor (done : List Factor) (factor : Factor) : Type 0 where
  new : number_from name_of_factor 0 done factor.name ≡ None
  spelled : is_name factor.name ≡ true
  values : HasValueNames factor
  is : IsFactor factor

factor_back : (at : List ℕ) (done : List Factor) (factor : Factor) → NewFactor done factor → read_factor at done (factor_data factor) ≡ Ok factor
factor_back at done factor fits =
    let values = list_back NewValue read_value_name (λ (name : List ℕ). string name) value_back 2 4 (member_path at (codes "values")) factor.values fits.is.count.enough fits.is.count.few
    (λ i x e. record { new = all_new itself factor.values fits.is.differ i x e; spelled = fits.values i x e }) in
    rw (fits.spelled, fits.new, values) refl

pub factors_back : (at : List ℕ) (factors : List Factor) → length factors ≤ 6 → NamesDiffer name_of_factor factors → Each IsFactor factors → AreSpelled name_of_factor factors → Each HasValueNames factors
    → read_factors at (list_data factor_data factors) ≡ Ok factors
factors_back at factors few differ each spelled values =
    list_back NewFactor read_factor factor_data factor_back 0 6 at factors (omega arith) few
    (λ i x e. record { new = all_new name_of_factor factors differ i x e; spelled = spelled i x e; values = values i x e; is = each i x e })
