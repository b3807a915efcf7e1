-- The places that `missed_at` builds from the first environments in which demands are missed equal the places of
-- `demand_break`.
use Rattle.std.proofs.Common.{ℕ, ◌<◌, ◌≡◌, ◌∙◌, List, [], ap, arith, length, sym}
use Rattle.std.specs.Prelude.{Option, option_and_then, option_map}
use Rattle.std.specs.Option.{option_map_or, option_to_list}
use Rattle.scram_types.specs.declared.rows.Env.{Env}
use Rattle.scram_types.specs.declared.demands.Demand.{Demand}
use Rattle.scram_types.specs.Lookups.{conf_id}
use Rattle.scram_types.specs.Specification.{IsSpec, Parts}
use Rattle.scram_types.proofs.Items.{some_item}
use Rattle.cube_cover.specs.Demands.{AreMisses, misses}
use Rattle.coverage_check.proofs.Reaching.{first_is_least}
use Rattle.condition_breaks.specs.declared.breaks.Break.{Break}
use Rattle.condition_breaks.specs.declared.breaks.Break.TheVariants as broken
use Rattle.condition_breaks.specs.Breaks.{demand_break, demand_break_of, missed_at}

module _ (spec : Parts) (made : IsSpec spec) (c : ℕ) (found : List (Option Env)) where
  missed : ℕ → Env → Break
  missed k v = broken.DemandMissed (conf_id c) k v

  pub missed_is : AreMisses spec (conf_id c) found → (k : ℕ) → k < length spec.demands → option_to_list (missed_at found c k) ≡ demand_break spec c k
  unfolding missed
  missed_is are k low =
      some_item spec.demands k low (λ demand there.
      some_item found k (let all = are.all in omega (arith, all, low)) (λ least at.
      ap (λ (o : Option (Option Env)). option_to_list (option_and_then (λ (first : Option Env). option_map (missed k) first) o)) at
      ∙ ap (λ (o : Option Env). option_to_list (option_map (missed k) o)) (first_is_least spec made (misses spec demand (conf_id c)) least (are.least k demand least there at))
      ∙ sym (ap (λ (o : Option Demand). option_map_or (demand_break_of spec c k) o []) there)))
