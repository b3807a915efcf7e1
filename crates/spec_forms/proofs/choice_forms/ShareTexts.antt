-- Lemmas that the text for a share is the line of its rule, or the empty text if the share has no environment.
use Rattle.std.proofs.Common.{◌≡◌, ◌∙◌, ℕ, ap, sym, List, []}
use Rattle.std.specs.Prelude.{Option, Some, None}
use Rattle.std.specs.Option.{option_map_or}
use Rattle.scram_types.specs.Lookups.{conf_id}
use Rattle.scram_types.specs.Specification.{IsSpec, Parts}
use Rattle.scram_types.specs.declared.rows.Env.{Env}
use Rattle.cube_cover.specs.declared.shares.Share.{Share}
use Rattle.cube_cover.specs.Shares.{IsShare, is_ruled_by}
use Rattle.cube_cover.specs.Sizes.{count_where}
use Rattle.cube_cover.proofs.RuleShares.{first_is_least}
use Rattle.spec_forms.specs.choice_forms.Lines.{choice_line}
use Rattle.spec_forms.specs.choice_forms.Tables.{choice_text}

module _ (spec : Parts) (made : IsSpec spec) (i k : ℕ) (share : Share) where
  text_of : Option Env → List ℕ
  text_of found = option_map_or (λ (first : Env). choice_line spec i k (count_where spec (is_ruled_by spec (conf_id i) k)) first) found []

  text_is : IsShare spec (is_ruled_by spec (conf_id i) k) share → (found : Option Env) → share.first ≡ found → choice_text spec i k ≡ text_of found
  unfolding text_of
  text_is is found e = ap text_of (sym (first_is_least spec made (is_ruled_by spec (conf_id i) k) share.first is.first) ∙ e)

  pub share_text : (first : Env) → IsShare spec (is_ruled_by spec (conf_id i) k) share → share.first ≡ Some first → choice_text spec i k ≡ choice_line spec i k share.count first
  unfolding text_of
  share_text first is e = text_is is (Some first) e ∙ ap (λ (count : ℕ). choice_line spec i k count first) (sym is.count)

  pub no_text : IsShare spec (is_ruled_by spec (conf_id i) k) share → share.first ≡ None → choice_text spec i k ≡ []
  unfolding text_of
  no_text is e = text_is is None e
