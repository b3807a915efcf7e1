-- Lemmas on the regions and the remaining cubes, which are built rule by rule.
use Rattle.std.proofs.Common.{◌≡◌, ◌∙◌, ℕ, zero, suc, ◌+◌, ◌<◌, ◌≤◌, refl, ap, sym, arith, Bool, true, false, not, ◌&&◌, ◌||◌, List, [], ◌∷◌, ◌++◌, length, take, drop, get_or}
use Rattle.std.specs.Prelude.{if◌then◌else◌}
use Rattle.std.specs.List.{list_all, list_any}
use Rattle.std.proofs.Math.Bool.{and-true, or-false}
use Rattle.std.proofs.Math.Seq.{drop-cons}
use Rattle.std.proofs.lemmas.List.{take_more}
use Rattle.std.proofs.lemmas.List.Folds.{list_any-append}
use Rattle.scram_types.specs.declared.ids.ConfId.{ConfId}
use Rattle.scram_types.specs.declared.rows.Env.{Env}
use Rattle.scram_types.specs.declared.specification.Choice.{Choice}
use Rattle.scram_types.specs.Specification.{Parts}
use Rattle.scram_types.proofs.Naturals.{plus_one}
use Rattle.choice_table.specs.Choices.{all_up, has_source, has_wanted, rule_fits}
use Rattle.cube_cover.specs.declared.cubes.Cube.{Cube}
use Rattle.cube_cover.specs.declared.regions.Region.{Region}
use Rattle.cube_cover.specs.Cubes.{Agree, IsSplit, holds, is_in}
use Rattle.cube_cover.specs.Regions.{HoldsMarked, HoldsMore, MarksMore, Rule, is_held, is_marked, is_ruled}
use Rattle.cube_cover.proofs.Holders.{split_beyond, split_within}
use Rattle.cube_cover.proofs.Holds.{and_last}
use Rattle.cube_cover.proofs.Unions.{in_none, taken_more}

pub marks_none : (passes : ℕ → Bool) (v : Env) → is_marked [] passes v ≡ false
unfolding is_marked
marks_none passes v = refl

pub marks_one : (regions : List Region) (region : Region) (passes : ℕ → Bool) (v : Env) → is_marked (regions ++ region ∷ []) passes v ≡ (is_marked regions passes v || is_held passes v region)
unfolding is_marked
marks_one regions region passes v = list_any-append (is_held passes v) regions (region ∷ []) ∙ ap (λ (b : Bool). list_any (is_held passes v) regions || b) (or-false (is_held passes v region))

-- Lemmas on the addition of cubes with a common target.

spread : (m t h p : Bool) → ((m || (t && p)) || (p && h)) ≡ (m || ((t || h) && p))
spread true t h p = refl
spread false true h true = refl
spread false true h false = refl
spread false false true true = refl
spread false false true false = refl
spread false false false true = refl
spread false false false false = refl

pub assigned_none : (regions : List Region) (target : ConfId) → MarksMore regions regions [] target
assigned_none regions target passes v = sym (ap (λ (b : Bool). is_marked regions passes v || (b && passes target.0)) (in_none v) ∙ or-false (is_marked regions passes v))

pub assigned_more : (before mid after : List Region) (cubes : List Cube) (k : ℕ) (d : Cube) (target : ConfId) → k < length cubes → MarksMore before mid (take k cubes) target
    → after ≡ mid ++ record { cube = get_or cubes k d; target = target } ∷ [] → MarksMore before after (take (k + 1) cubes) target
assigned_more before mid after cubes k d target low so_far is passes v =
    ap (λ (rs : List Region). is_marked rs passes v) is ∙ marks_one mid (record { cube = get_or cubes k d; target = target }) passes v
    ∙ ap (λ (b : Bool). b || (passes target.0 && holds (get_or cubes k d) v)) (so_far passes v)
    ∙ spread (is_marked before passes v) (is_in (take k cubes) v) (holds (get_or cubes k d) v) (passes target.0)
    ∙ ap (λ (b : Bool). is_marked before passes v || (b && passes target.0)) (sym (taken_more cubes k d v low))

-- Lemmas on the cubes of the selected regions.

pub picked_none : (passes : ℕ → Bool) (cubes : List Cube) → cubes ≡ [] → HoldsMarked [] passes cubes
picked_none passes cubes e v = ap (λ (xs : List Cube). is_in xs v) e ∙ in_none v ∙ sym (marks_none passes v)

pub picked_more : (regions : List Region) (k : ℕ) (d : Region) (passes : ℕ → Bool) (mid after : List Cube) → k < length regions → HoldsMarked (take k regions) passes mid
    → HoldsMore mid after (get_or regions k d).cube (passes (get_or regions k d).target.0) → HoldsMarked (take (k + 1) regions) passes after
picked_more regions k d passes mid after low so_far more v =
    more v ∙ ap (λ (b : Bool). b || is_held passes v (get_or regions k d)) (so_far v)
    ∙ sym (ap (λ (rs : List Region). is_marked rs passes v) (take_more regions k d low) ∙ marks_one (take k regions) (get_or regions k d) passes v)

-- Lemmas on the environments that a rule takes from the cubes.

both_parts : (o f r p : Bool) → ((o && (f && p)) || ((o && not f) && r)) ≡ (o && (if f then p else r))
both_parts true true r true = refl
both_parts true true r false = refl
both_parts true false r p = refl
both_parts false f r p = refl

join_parts : (m a b : Bool) → ((m || a) || b) ≡ (m || (a || b))
join_parts true a b = refl
join_parts false a b = refl

rest_parts : (o f r : Bool) → ((o && not f) && not r) ≡ (o && not (f || r))
rest_parts true true r = refl
rest_parts true false r = refl
rest_parts false f r = refl

module _ (spec : Parts) (c : ConfId) (rules : List Choice) (k : ℕ) (d : Choice) (low : k < length rules) (open_before open_after : List Cube)
    (rest : Agree spec (is_in open_after) (λ v. is_in open_before v && not (rule_fits c v (get_or rules k d)))) where
  next_rule : drop k rules ≡ get_or rules k d ∷ drop (k + 1) rules
  next_rule = drop-cons rules k d low ∙ ap (λ (n : ℕ). get_or rules k d ∷ drop n rules) (plus_one k)

  pub rest_ruled : (total : Env → Bool) → Agree spec (λ v. is_in open_before v && not (list_any (rule_fits c v) (drop k rules))) total
      → Agree spec (λ v. is_in open_after v && not (list_any (rule_fits c v) (drop (k + 1) rules))) total
  rest_ruled total before v scope =
      ap (λ (b : Bool). b && not (list_any (rule_fits c v) (drop (k + 1) rules))) (rest v scope)
      ∙ rest_parts (is_in open_before v) (rule_fits c v (get_or rules k d)) (list_any (rule_fits c v) (drop (k + 1) rules))
      ∙ ap (λ (rs : List Choice). is_in open_before v && not (list_any (rule_fits c v) rs)) (sym next_rule) ∙ before v scope

  ruled_next : (passes : ℕ → Bool) (v : Env) → is_ruled (get_or rules k d ∷ drop (k + 1) rules) c passes v
      ≡ (if rule_fits c v (get_or rules k d) then passes (get_or rules k d).to.0 else is_ruled (drop (k + 1) rules) c passes v)
  unfolding is_ruled
  ruled_next passes v = refl

  pub targets_ruled : (old new : List Region) (passes : ℕ → Bool) (total : Env → Bool) → Rule spec c (get_or rules k d) open_before old new
      → Agree spec (λ v. is_marked old passes v || (is_in open_before v && is_ruled (drop k rules) c passes v)) total
      → Agree spec (λ v. is_marked new passes v || (is_in open_after v && is_ruled (drop (k + 1) rules) c passes v)) total
  targets_ruled old new passes total taken before v scope =
      ap (λ (b : Bool). b || (is_in open_after v && is_ruled (drop (k + 1) rules) c passes v)) (taken passes v scope)
      ∙ ap (λ (b : Bool). (is_marked old passes v || (is_in open_before v && (rule_fits c v (get_or rules k d) && passes (get_or rules k d).to.0))) || (b && is_ruled (drop (k + 1) rules) c passes v)) (rest v scope)
      ∙ join_parts (is_marked old passes v) (is_in open_before v && (rule_fits c v (get_or rules k d) && passes (get_or rules k d).to.0)) _
      ∙ ap (λ (b : Bool). is_marked old passes v || b)
      (both_parts (is_in open_before v) (rule_fits c v (get_or rules k d)) (is_ruled (drop (k + 1) rules) c passes v) (passes (get_or rules k d).to.0)
      ∙ ap (λ (b : Bool). is_in open_before v && b) (sym (ruled_next passes v) ∙ ap (λ (rs : List Choice). is_ruled rs c passes v) (sym next_rule)))
      ∙ before v scope

-- Lemmas on whether one rule fits configuration `c`.

and_none : (a b : Bool) → b ≡ false → (a && b) ≡ false
and_none true b e = e
and_none false b e = refl

pub other_source : (c : ConfId) (v : Env) (rule : Choice) → has_source rule.from c ≡ false → rule_fits c v rule ≡ false
other_source c v rule e = rw (e) refl

pub own_source : (c : ConfId) (v : Env) (rule : Choice) (cube : Cube) → has_source rule.from c ≡ true → holds cube v ≡ (list_all (has_wanted v) rule.wants && all_up rule.up v) → holds cube v ≡ rule_fits c v rule
own_source c v rule cube e is = rw (e) is

pub nothing_left : (spec : Parts) (c : ConfId) (rule : Choice) (held : Env → Bool) → ((v : Env) → (held v && rule_fits c v rule) ≡ false) → Agree spec held (λ v. held v && not (rule_fits c v rule))
nothing_left spec c rule held none v scope = keep (held v) (rule_fits c v rule) (none v)
  where
    keep : (a b : Bool) → (a && b) ≡ false → a ≡ (a && not b)
    keep true true e = absurd (cc)
    keep true false e = refl
    keep false b e = refl

pub nothing_taken : (spec : Parts) (c : ConfId) (rule : Choice) (cubes : List Cube) (regions : List Region) → ((v : Env) → (is_in cubes v && rule_fits c v rule) ≡ false) → Rule spec c rule cubes regions regions
nothing_taken spec c rule cubes regions none passes v scope = keep (is_marked regions passes v) (is_in cubes v) (rule_fits c v rule) (passes rule.to.0) (none v)
  where
    keep : (m a b p : Bool) → (a && b) ≡ false → m ≡ (m || (a && (b && p)))
    keep true a b p e = refl
    keep false true true p e = absurd (cc)
    keep false true false p e = refl
    keep false false b p e = refl

pub none_of_other : (c : ConfId) (rule : Choice) (cubes : List Cube) → has_source rule.from c ≡ false → (v : Env) → (is_in cubes v && rule_fits c v rule) ≡ false
none_of_other c rule cubes e v = and_none (is_in cubes v) (rule_fits c v rule) (other_source c v rule e)

pub none_of_none : (c : ConfId) (rule : Choice) (cubes : List Cube) → cubes ≡ [] → (v : Env) → (is_in cubes v && rule_fits c v rule) ≡ false
none_of_none c rule cubes e v = ap (λ (b : Bool). b && rule_fits c v rule) (ap (λ (xs : List Cube). is_in xs v) e ∙ in_none v)

module _ (spec : Parts) (c : ConfId) (rule : Choice) (cube : Cube) (cubes inside outside : List Cube) (parts : IsSplit spec cubes cube inside outside)
    (is : Agree spec (holds cube) (λ v. rule_fits c v rule)) where
  pub rest_of_rule : Agree spec (is_in outside) (λ v. is_in cubes v && not (rule_fits c v rule))
  rest_of_rule v scope = split_beyond spec cubes cube inside outside parts v scope ∙ ap (λ (b : Bool). is_in cubes v && not b) (is v scope)

  pub taken_by_rule : (before after : List Region) → MarksMore before after inside rule.to → Rule spec c rule cubes before after
  taken_by_rule before after more passes v scope =
      more passes v ∙ ap (λ (b : Bool). is_marked before passes v || (b && passes rule.to.0)) (split_within spec cubes cube inside outside parts v scope ∙ ap (λ (b : Bool). is_in cubes v && b) (is v scope))
      ∙ ap (λ (b : Bool). is_marked before passes v || b) (sym (and_last (is_in cubes v) (rule_fits c v rule) (passes rule.to.0)))

pub no_items : (cubes : List Cube) → length cubes ≡ 0 → cubes ≡ []
no_items [] e = refl
no_items (cube ∷ cubes) e = absurd (omega arith)

pub past_last : {A : Type 0} (xs : List A) (k : ℕ) → length xs ≤ k → drop k xs ≡ []
past_last [] zero high = refl
past_last [] (suc k) high = refl
past_last (x ∷ xs) zero high = absurd (omega arith)
past_last (x ∷ xs) (suc k) high = past_last xs k (omega arith)

pub all_ruled : (spec : Parts) (c : ConfId) (k : ℕ) (held marked total : Env → Bool) (passes : ℕ → Bool) → length spec.rules ≤ k
    → Agree spec (λ v. marked v || (held v && is_ruled (drop k spec.rules) c passes v)) total → Agree spec marked total
unfolding is_ruled
all_ruled spec c k held marked total passes high before v scope =
    or_nothing (marked v) (held v) ∙ ap (λ (rs : List Choice). marked v || (held v && is_ruled rs c passes v)) (sym (past_last spec.rules k high)) ∙ before v scope
  where
    or_nothing : (m h : Bool) → m ≡ (m || (h && false))
    or_nothing true h = refl
    or_nothing false true = refl
    or_nothing false false = refl

pub all_rest : (spec : Parts) (c : ConfId) (k : ℕ) (held total : Env → Bool) → length spec.rules ≤ k
    → Agree spec (λ v. held v && not (list_any (rule_fits c v) (drop k spec.rules))) total → Agree spec held total
all_rest spec c k held total high before v scope =
    sym (and-true (held v)) ∙ ap (λ (rs : List Choice). held v && not (list_any (rule_fits c v) rs)) (sym (past_last spec.rules k high)) ∙ before v scope
