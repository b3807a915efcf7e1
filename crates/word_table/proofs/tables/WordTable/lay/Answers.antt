use Rattle.std.proofs.Common.{◌≡◌, ◌∙◌, ℕ, ap, rules, List, length}
use Rattle.fail_stop.specs.Listed.{word_index_count}
use Rattle.fail_stop.proofs.OpeningLists.{opening_long}
use Rattle.word_table.proofs.Laying.{flown_is, kept_by, laid}
use Rattle.word_table.proofs.tables.WordTable.lay.Goals as goal

pub of_words-requires : goal.of_words-requires
of_words-requires c =
    laid c.args.mission.now _ c.kernel_encode-first.result c.start.result.areas c.start.result.keepers c.holds.ensures.spec c.holds.ensures.mission.fits (search rules) (search rules) (search rules) (search rules)

pub invariant_of-words : goal.invariant_of-words
invariant_of-words c =
    let long : length c.in_ok-stored.stored.items ≡ word_index_count = ap (λ (l : List ℕ). length l) c.in_ok-stored.ensures ∙ opening_long _ _ _ _ in
    let stands : c.in_ok-table.table.shared.table_id.words ≡ length c.in_ok-stored.stored.items = search rules in
    record { keeps = kept_by c.args.mission.now _ _ _ _ _ _ c.holds.ensures.spec (search rules) (stands ∙ long) (search rules) (search rules) (search rules) (search rules) (search rules) }

pub returns-clause-holds : goal.returns-clause-holds
returns-clause-holds c = flown_is c.args.mission.now _ c.holds.ensures.spec c.holds.ensures.mission.fits (search rules)
