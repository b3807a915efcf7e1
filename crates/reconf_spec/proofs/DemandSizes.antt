-- The demands of a specification take at most 300,000 bytes of its canonical text.
use Rattle.std.proofs.Common.{◌≡◌, ◌+◌, ◌*◌, ◌≤◌, ℕ, zero, suc, true, List, [], ◌∷◌, length, map, arith, refl}
use Rattle.std.specs.Prelude.{Option, Some, None, codes, slice_get}
use Rattle.std.specs.Option.{option_map_or}
use Rattle.serde_json.specs.Data.{string}
use Rattle.serde_json.specs.View.{items_of}
use Rattle.scram_types.specs.declared.ids.Mode.{Mode}
use Rattle.scram_types.specs.declared.demands.Demand.{Demand}
use Rattle.scram_types.specs.declared.specification.Factor.{Factor}
use Rattle.scram_types.specs.declared.specification.Want.{Want}
use Rattle.scram_types.specs.Names.{is_name}
use Rattle.scram_types.specs.Specification.{Each, HasNames, HasValueNames, IsDemand, IsSpec, Parts}
use Rattle.spec_reading.specs.Names.{name_of_app, name_of_conf, name_of_factor, name_of_proc}
use Rattle.spec_reading.specs.Numbering.{itself}
use Rattle.reconf_spec.specs.Texts.{demand_data, name_of_app_mode, name_of_item, names_data, on_app_data, on_data, want_data}
use Rattle.reconf_spec.proofs.TextLengths.{app_mode_short}
use Rattle.scram_doc.proofs.TextLengths.{escaped_length, exact, found_length, items_weight, list_weight, name_length, quoted_length, weight}
use Rattle.reconf_spec.proofs.TextLengths.{names_short}

-- Lemmas on the length of a demand's text. The names in the text need no escapes, so their lengths are counted
-- exactly.

set_exact : {A : Type 0} (name : A → List ℕ) (xs : List A) (set : ℕ) → Each (λ (x : A). is_name (name x) ≡ true) xs → items_weight exact (items_of (names_data name set 0 xs)) ≤ length xs * 19 + 1
set_exact name xs set named = names_short exact 18 name set 0 xs (λ i x e. name_length (name x) (named i x e))

want_exact : (spec : Parts) → HasNames spec → (want : Want) → weight exact (want_data spec.factors want) ≤ 60
want_exact spec names want =
    let factor = found_length name_of_factor (slice_get spec.factors want.factor.0) (names.factors want.factor.0) in
    let value = value_exact (slice_get spec.factors want.factor.0) want.value (names.values want.factor.0) in
    omega (arith, factor, value, quoted_length (codes "factor") refl, quoted_length (codes "value") refl)
  where
    value_exact : (found : Option Factor) (value : ℕ) → ((factor : Factor) → found ≡ Some factor → HasValueNames factor)
        → exact (option_map_or (λ (factor : Factor). name_of_item itself factor.values value) found []) ≤ 18
    value_exact None value named = omega arith
    value_exact (Some factor) value named = found_length itself (slice_get factor.values value) (named factor refl value)

on_app_exact : (spec : Parts) → HasNames spec → (a : ℕ) (modes : List Mode) → length modes ≤ 3 → weight exact (on_app_data spec a modes) ≤ 340
on_app_exact spec names a modes few =
    let app = found_length name_of_app (slice_get spec.apps a) (names.apps a) in
    let each = list_weight exact (λ (mode : Mode). string (name_of_app_mode spec.apps a mode.0)) 98 modes
    (λ i x e. let short = app_mode_short spec.apps a x.0 in let written = escaped_length (name_of_app_mode spec.apps a x.0) in omega (arith, short, written)) in
    omega (arith, app, each, few, quoted_length (codes "app") refl, quoted_length (codes "modes") refl)

on_exact : (spec : Parts) → HasNames spec → (a : ℕ) (on : List (Option (List Mode))) → ((i : ℕ) (modes : List Mode) → slice_get on i ≡ Some (Some modes) → length modes ≤ 3)
    → items_weight exact (items_of (on_data spec a on)) ≤ length on * 341 + 1
on_exact spec names a [] few = omega arith
on_exact spec names a (None ∷ on) few = let rest = on_exact spec names (suc a) on (λ i modes e. few (suc i) modes e) in omega (arith, rest)
on_exact spec names a (Some modes ∷ on) few =
    let here = on_app_exact spec names a modes (few zero modes refl) in
    let rest = on_exact spec names (suc a) on (λ i modes e. few (suc i) modes e) in
    omega (arith, here, rest)

demand_exact : (spec : Parts) → IsSpec spec → (demand : Demand) → IsDemand spec.procs spec.apps spec.confs spec.factors demand → is_name demand.name ≡ true → weight exact (demand_data spec demand) ≤ 4500
demand_exact spec is demand fits named =
    let names = is.names in
    let few_procs = is.procs_count.few in
    let few_apps = is.apps_count.few in
    let few_confs = is.confs_count.few in
    let few_wants = fits.few in
    let width = fits.width in
    let down = set_exact name_of_proc spec.procs demand.down names.procs in
    let from = set_exact name_of_conf spec.confs demand.from names.confs in
    let name = name_length demand.name named in
    let off = set_exact name_of_app spec.apps demand.off names.apps in
    let on = on_exact spec names 0 demand.on (λ i modes e. (fits.on i modes (rw (e) refl)).few) in
    let to = set_exact name_of_conf spec.confs demand.to names.confs in
    let up = set_exact name_of_proc spec.procs demand.up names.procs in
    let wants = list_weight exact (want_data spec.factors) 60 demand.wants (λ i x e. want_exact spec names x) in
    omega (
      arith,
      few_procs,
      few_apps,
      few_confs,
      few_wants,
      width,
      down,
      from,
      name,
      off,
      on,
      to,
      up,
      wants,
      quoted_length (codes "down") refl,
      quoted_length (codes "from") refl,
      quoted_length (codes "name") refl,
      quoted_length (codes "off") refl,
      quoted_length (codes "on") refl,
      quoted_length (codes "to") refl,
      quoted_length (codes "up") refl,
      quoted_length (codes "when") refl,
    )

pub demands_exact : (spec : Parts) → IsSpec spec → items_weight exact (items_of (map (demand_data spec) spec.demands)) ≤ 300000
demands_exact spec is =
    let few = is.demands_count in
    let sum = list_weight exact (demand_data spec) 4500 spec.demands (λ i x e. demand_exact spec is x (is.demands i x e) (is.names.demands i x e)) in
    omega (arith, few, sum)
