-- Lemmas on applications with their needs and with their ranks.
use Rattle.std.proofs.Common.{true, ◌≡◌, ◌<◌, ◌≤◌, ℕ, zero, suc, List, [], ◌∷◌, ◌++◌, drop, length, map, arith, refl, sym, ap, subst, ◌∙◌}
use Rattle.std.specs.Prelude.{Option, Some, None, is_some, slice_get, slice_index, take, All}
use Rattle.std.proofs.lemmas.List.Elements.{All-head, All-tail}
use Rattle.std.proofs.Math.Seq.{take-append_seam}
use Rattle.scram_types.specs.declared.ids.AppId.{AppId}
use Rattle.scram_types.specs.declared.specification.AppSpec.{AppSpec}
use Rattle.scram_types.specs.declared.specification.ModeSpec.{ModeSpec}
use Rattle.scram_types.specs.Names.{is_name}
use Rattle.scram_types.specs.Specification.{IsModeSpec, IsAppSpec}
use Rattle.dep_order.specs.Ranks.{IsRanking, RanksFall, NeedsInRange, rank_after}
use Rattle.spec_reading.specs.Names.{name_of_app}
use Rattle.spec_reading.specs.Needs.{with_needs, with_ranks}
use Rattle.scram_doc.specs.Lists.{AllAfter}
use Rattle.spec_reading.specs.AppFacts.{IsNewApp, IsNewMode, IsNewNeed, AreNeeds}
use Rattle.spec_reading.specs.Kept.{AreApps, IsWritableApp, rank_of}
use Rattle.spec_reading.specs.Unranked.{IsUnranked, AreUnranked}
use Rattle.spec_reading.proofs.Distinct.{each_of, new_differ}

-- An application with its needs has its other parts from `apps` and its needs from `needs`.
record Joined (apps : List AppSpec) (needs : List (List AppId)) (a : ℕ) (whole : AppSpec) : Type 0 where
  app : AppSpec
  named : List AppId
  there : slice_get apps a ≡ Some app
  given : slice_get needs a ≡ Some named
  is : whole ≡ record { name = app.name; kind = app.kind; needs = named; modes = app.modes; rank = app.rank }

some_same : (x y : AppSpec) → Some x ≡ Some y → y ≡ x
some_same x y e = cc

joined : (apps : List AppSpec) (needs : List (List AppId)) (a : ℕ) (whole : AppSpec) → length needs ≡ length apps → slice_get (with_needs apps needs) a ≡ Some whole → Joined apps needs a whole
joined [] needs a whole same e = absurd (let none : None ≡ Some whole = e in cc)
joined (app ∷ apps) [] a whole same e = absurd (omega (arith, same))
joined (app ∷ apps) (named ∷ needs) zero whole same e = record { app = app; named = named; there = refl; given = refl; is = some_same _ whole e }
joined (app ∷ apps) (named ∷ needs) (suc a) whole same e =
    let rest = joined apps needs a whole (omega (arith, same)) e in
    record { app = rest.app; named = rest.named; there = rest.there; given = rest.given; is = rest.is }

pub joined_length : (apps : List AppSpec) (needs : List (List AppId)) → length (with_needs apps needs) ≡ length apps
joined_length [] needs = refl
joined_length (app ∷ apps) [] = refl
joined_length (app ∷ apps) (named ∷ needs) = ap suc (joined_length apps needs)

unranked : (apps : List AppSpec) (needs : List (List AppId)) (whole : AppSpec) (a : ℕ) (j : Joined apps needs a whole) → AllAfter IsNewApp apps → AllAfter (λ _. AreNeeds apps) needs → IsUnranked (length apps) whole
unranked apps needs whole a j fits named =
    let f = fits a j.app j.there in
    let n = named a j.named j.given in
    rw (j.is) (record {
      kind = f.kind;
      few_needs = n.few;
      needs = each_of (IsNewNeed apps) _ j.named (λ done need g. g.there) n.each;
      modes_count = f.count;
      modes = each_of (IsNewMode j.app.kind.0) (IsModeSpec j.app.kind.0) j.app.modes (λ done mode g. g.is f.kind) f.modes;
      spelled = f.name.spelled;
      writable = record {
        needs = λ i need e. (n.each i need e).new;
        modes = λ i mode e. ap (λ (o : Option ModeSpec). is_some o) (f.modes i mode e).new;
      };
    })

pub unranked_fit : (apps : List AppSpec) (needs : List (List AppId)) → 1 ≤ length apps → length apps ≤ 8 → length needs ≡ length apps → AllAfter IsNewApp apps → AllAfter (λ _. AreNeeds apps) needs → AreUnranked (with_needs apps needs)
unranked_fit apps needs least most same fits named =
    let names = new_differ name_of_app apps (λ i x e. (fits i x e).name.new) in
    let count = joined_length apps needs in
    record {
      count = record { enough = omega (arith, least, count); few = omega (arith, most, count) };
      differ = λ i j x y there too spelled.
          let one = joined apps needs i x same there in
          let two = joined apps needs j y same too in
          let first : name_of_app x ≡ name_of_app one.app = ap name_of_app one.is in
          let second : name_of_app y ≡ name_of_app two.app = ap name_of_app two.is in
          names i j one.app two.app one.there two.there (sym first ∙ spelled ∙ second);
      each = λ i x e. rw (count) (unranked apps needs x i (joined apps needs i x same e) fits named);
    }

-- Setting needs and ranks does not change the names of applications.
pub joined_names : (apps : List AppSpec) (needs : List (List AppId)) → map name_of_app (with_needs apps needs) ≡ map name_of_app apps
joined_names [] needs = refl
joined_names (app ∷ apps) [] = refl
joined_names (app ∷ apps) (named ∷ needs) = ap (λ (names : List (List ℕ)). name_of_app app ∷ names) (joined_names apps needs)

pub graded_names : (apps : List AppSpec) (ranks : List ℕ) → map name_of_app (with_ranks apps ranks) ≡ map name_of_app apps
graded_names [] ranks = refl
graded_names (app ∷ apps) [] = refl
graded_names (app ∷ apps) (rank ∷ ranks) = ap (λ (names : List (List ℕ)). name_of_app app ∷ names) (graded_names apps ranks)

-- An application with its rank has its other parts from `apps` and its rank from `ranks`.
record Graded (apps : List AppSpec) (ranks : List ℕ) (a : ℕ) (whole : AppSpec) : Type 0 where
  app : AppSpec
  there : slice_get apps a ≡ Some app
  rank : slice_index ranks a ≡ whole.rank
  is : whole ≡ record { name = app.name; kind = app.kind; needs = app.needs; modes = app.modes; rank = whole.rank }

graded : (apps : List AppSpec) (ranks : List ℕ) (a : ℕ) (whole : AppSpec) → length ranks ≡ length apps → slice_get (with_ranks apps ranks) a ≡ Some whole → Graded apps ranks a whole
graded [] ranks a whole same e = absurd (let none : None ≡ Some whole = e in cc)
graded (app ∷ apps) [] a whole same e = absurd (omega (arith, same))
graded (app ∷ apps) (rank ∷ ranks) zero whole same e =
    let is = some_same _ whole e in
    let of_rank : whole.rank ≡ rank = ap (λ (x : AppSpec). x.rank) is in
    record { app = app; there = refl; rank = sym of_rank; is = subst (λ (n : ℕ). whole ≡ record { name = app.name; kind = app.kind; needs = app.needs; modes = app.modes; rank = n }) (sym of_rank) is }
graded (app ∷ apps) (rank ∷ ranks) (suc a) whole same e =
    let rest = graded apps ranks a whole (omega (arith, same)) e in
    record { app = rest.app; there = rest.there; rank = rest.rank; is = rest.is }

pub graded_length : (apps : List AppSpec) (ranks : List ℕ) → length (with_ranks apps ranks) ≡ length apps
graded_length [] ranks = refl
graded_length (app ∷ apps) [] = refl
graded_length (app ∷ apps) (rank ∷ ranks) = ap suc (graded_length apps ranks)

record There (apps : List AppSpec) (ranks : List ℕ) (a : ℕ) : Type 0 where
  whole : AppSpec
  there : slice_get (with_ranks apps ranks) a ≡ Some whole
  rank : whole.rank ≡ slice_index ranks a

there_is : (apps : List AppSpec) (ranks : List ℕ) (a : ℕ) → length ranks ≡ length apps → a < length apps → There apps ranks a
there_is [] ranks a same below = absurd (omega (arith, below))
there_is (app ∷ apps) [] a same below = absurd (omega (arith, same))
there_is (app ∷ apps) (rank ∷ ranks) zero same below = record { whole = _; there = refl; rank = refl }
there_is (app ∷ apps) (rank ∷ ranks) (suc a) same below =
    let rest = there_is apps ranks a (omega (arith, same)) (omega (arith, below)) in
    record { whole = rest.whole; there = rest.there; rank = rest.rank }

small_at : (ranks : List ℕ) (a : ℕ) → All (λ (rank : ℕ). rank < 8) ranks → slice_index ranks a < 8
small_at [] a small = omega arith
small_at (r ∷ rs) zero small = All-head (λ (rank : ℕ). rank < 8) r rs small
small_at (r ∷ rs) (suc a) small = small_at rs a (All-tail (λ (rank : ℕ). rank < 8) r rs small)

ranked : (apps : List AppSpec) (ranks : List ℕ) (a : ℕ) (whole : AppSpec) → length ranks ≡ length apps → All (λ (rank : ℕ). rank < 8) ranks → RanksFall apps ranks
    → AreUnranked apps → slice_get (with_ranks apps ranks) a ≡ Some whole → IsAppSpec (with_ranks apps ranks) whole
ranked apps ranks a whole same small fall fits e =
    let g = graded apps ranks a whole same e in
    let f = fits.each a g.app g.there in
    subst (λ (z : AppSpec). IsAppSpec (with_ranks apps ranks) z) (sym g.is) (record {
      kind = f.kind;
      rank = subst (λ (n : ℕ). n < 8) g.rank (small_at ranks a small);
      few_needs = f.few_needs;
      needs = λ k need named.
          let t = there_is apps ranks need.0 same (f.needs k need named) in
          let below = fall a k g.app need g.there named in
          record { lower = t.whole; there = t.there; falls = omega (arith, below, t.rank, g.rank) };
      count = f.modes_count;
      modes = f.modes;
    })

ranks_given : (apps : List AppSpec) (ranks : List ℕ) → length ranks ≡ length apps → map rank_of (with_ranks apps ranks) ≡ ranks
ranks_given [] [] same = refl
ranks_given [] (rank ∷ ranks) same = absurd (omega (arith, same))
ranks_given (app ∷ apps) [] same = absurd (omega (arith, same))
ranks_given (app ∷ apps) (rank ∷ ranks) same = ap (λ (rs : List ℕ). rank ∷ rs) (ranks_given apps ranks (omega (arith, same)))

still_ranking : (apps : List AppSpec) (ranks : List ℕ) → IsRanking apps ranks → IsRanking (with_ranks apps ranks) ranks
still_ranking apps ranks is = record {
  count = is.count ∙ sym (graded_length apps ranks);
  ranked = λ a whole e.
      let g = graded apps ranks a whole is.count e in
      is.ranked a g.app g.there ∙ ap (λ (x : AppSpec). Some (rank_after ranks x.needs)) (sym g.is);
}

pub ranked_fit : (apps : List AppSpec) (ranks : List ℕ) → IsRanking apps ranks → All (λ (rank : ℕ). rank < 8) ranks → RanksFall apps ranks → AreUnranked apps → AreApps (with_ranks apps ranks)
ranked_fit apps ranks is small fall fits =
    let same = is.count in
    let count = graded_length apps ranks in
    record {
      count = record { enough = omega (arith, fits.count.enough, count); few = omega (arith, fits.count.few, count) };
      differ = λ i j x y there too spelled.
          let one = graded apps ranks i x same there in
          let two = graded apps ranks j y same too in
          let first : name_of_app x ≡ name_of_app one.app = ap name_of_app one.is in
          let second : name_of_app y ≡ name_of_app two.app = ap name_of_app two.is in
          fits.differ i j one.app two.app one.there two.there (sym first ∙ spelled ∙ second);
      each = λ i x e. ranked apps ranks i x same small fall fits e;
      writable = λ i x e.
          let g = graded apps ranks i x same e in
          let w = (fits.each i g.app g.there).writable in
          subst IsWritableApp (sym g.is) (record { needs = w.needs; modes = w.modes });
      spelled = λ i x e.
          let g = graded apps ranks i x same e in
          subst (λ (z : AppSpec). is_name (name_of_app z) ≡ true) (sym g.is) (fits.each i g.app g.there).spelled;
      ranks = subst (λ (rs : List ℕ). IsRanking (with_ranks apps ranks) rs) (sym (ranks_given apps ranks same)) (still_ranking apps ranks is);
    }

pub needs_in_range : (apps : List AppSpec) → AreUnranked apps → NeedsInRange apps
needs_in_range apps fits = λ a app e. (fits.each a app e).needs

-- If a list of length `len` is written over the front of another list, the first `len` elements of the result are
-- that list.
pub written_whole : (len : ℕ) (new old : List AppSpec) → length new ≡ len → take len (new ++ drop (length new) old) ≡ new
written_whole len new old same = rw (← same) (take-append_seam new (drop (length new) old))
