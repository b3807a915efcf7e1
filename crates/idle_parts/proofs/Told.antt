-- Proofs of the laws that state which rules, configurations and demands are shown as idle.
use Rattle.std.proofs.Common.{◌≡◌, ap, length, refl, Bool, true, false}
use mathlib.Core.Logic.{inl, inr}
use Rattle.std.specs.Prelude.{◌==◌, not}
use Rattle.scram_types.specs.Lookups.{conf_id}
use Rattle.scram_types.specs.Searches.{any_below}
use Rattle.scram_types.proofs.Booleans.{and_left, and_right, and_true, by_bool, true_false}
use Rattle.scram_types.proofs.Naturals.{differ_test, equal, equal_test}
use Rattle.scram_types.proofs.Searches.{any_below_found, any_below_is}
use Rattle.choice_table.specs.Demands.{applies_in}
use Rattle.coverage_check.proofs.Reaching.{target_test, target_tested}
use Rattle.cube_cover.specs.Shares.{is_ruled_by}
use Rattle.idle_parts.specs.Choices.{is_first_from, is_target_of_other}
use Rattle.idle_parts.specs.Laws.{IdleConfsAreExact, IdleDemandsAreExact, IdleRulesAreExact}
use Rattle.idle_parts.specs.Somewhere.{passes_somewhere}
use Rattle.idle_parts.proofs.Firsts.{first_ruled, ruled_first}
use Rattle.idle_parts.proofs.Somewhere.{fails_in, passes_found, passes_in}

not_true : (b : Bool) → not b ≡ true → b ≡ false
not_true true h = absurd (cc)
not_true false h = refl

not_false : (b : Bool) → not b ≡ false → b ≡ true
not_false true h = refl
not_false false h = absurd (cc)

pub idle_rules_are_exact : IdleRulesAreExact
idle_rules_are_exact spec k rule made there = record {
  idle = λ idle c v known belongs scope first. true_false (any_below (is_first_from spec k) (length spec.confs))
      (any_below_is (is_first_from spec k) (length spec.confs) c.0
      (passes_in spec made (is_ruled_by spec (conf_id c.0) k) v belongs scope (ruled_first spec k rule c v there first)) known)
      (not_true _ idle);
  used = λ used.
      (let from = any_below_found (is_first_from spec k) (length spec.confs) (not_false _ used) in
      let found = passes_found spec made (is_ruled_by spec (conf_id from.0) k) from.2 in
      record {
        c = conf_id from.0;
        known = from.1;
        v = found.v;
        belongs = found.belongs;
        scope = found.scope;
        first = first_ruled spec k rule (conf_id from.0) found.v there found.passes;
      });
}

pub idle_confs_are_exact : IdleConfsAreExact
idle_confs_are_exact spec c made = record {
  idle = λ idle. (
    λ start. true_false (spec.start.0 == c.0) (equal_test _ _ start) (not_true _ (and_left (not (spec.start.0 == c.0)) _ idle)),
    λ i known apart target. true_false (any_below (is_target_of_other spec c.0) (length spec.confs))
        (any_below_is (is_target_of_other spec c.0) (length spec.confs) i.0
        (and_true (not (i.0 == c.0)) _ (ap not (differ_test _ _ apart)) (target_test spec made i c target)) known)
        (not_true _ (and_right (not (spec.start.0 == c.0)) _ idle)),
  );
  used = λ used. by_bool (spec.start.0 == c.0)
      (λ start. inl (equal _ _ start))
      (λ other.
      let some = not_false (any_below (is_target_of_other spec c.0) (length spec.confs)) (rw (other) at used) in
      let found = any_below_found (is_target_of_other spec c.0) (length spec.confs) some in
      inr (
        conf_id found.0,
        found.1,
        (λ same. true_false (found.0 == c.0) (equal_test _ _ same) (not_true _ (and_left (not (found.0 == c.0)) _ found.2))),
        target_tested spec made (conf_id found.0) c (and_right (not (found.0 == c.0)) _ found.2),
      ));
}

pub idle_demands_are_exact : IdleDemandsAreExact
idle_demands_are_exact spec demand made = record {
  idle = λ idle v belongs scope. fails_in spec made (applies_in demand) (not_true (passes_somewhere spec (applies_in demand)) idle) v belongs scope;
  used = λ used.
      (let found = passes_found spec made (applies_in demand) (not_false (passes_somewhere spec (applies_in demand)) used) in
      record { v = found.v; belongs = found.belongs; scope = found.scope; speaks = found.passes });
}
