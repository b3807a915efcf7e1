-- The steps keep the rule of the tap's table.
use Rattle.std.proofs.Common.{◌≡◌, ◌≢◌, ◌∙◌, ◌⊎◌, ℕ, zero, suc, ◌<◌, ap, sym, refl, subst, inl, inr, arith, true, false, List, [], ◌∷◌, length}
use Rattle.std.specs.Prelude.{Option, Some, IfSome, slice_index, slice_set}
use Rattle.std.proofs.lemmas.Grind.{common_steps}
use mathlib.Core.Option.{some, none}
use lib.ListN.{get_elem?}
use Rattle.atomic_table.specs.Table.{Allows, Splits, State, keeps, opening, step, stepped}
use Rattle.atomic_table.proofs.Lists.{at_longer, at_set, at_snoc, set_again, set_else, set_here}
use Rattle.coverage_check.specs.Missions.{MissionParts}
use Rattle.telemetry_tap.specs.declared.views.TapView.{TapView}
use Rattle.telemetry_tap.specs.Rule.{IsTapState, IsTapView, ShowsSummary, TapSeat, publishes_row, reader_view, reads_summary, row_later, view_loaded, writer_view}
use Rattle.telemetry_tap.specs.Summaries.{summary_after}
use Rattle.telemetry_tap.specs.Words.{FitsWord, summary_encode}

set_first : (words : List ℕ) (n : ℕ) → length words ≡ 1 → slice_index (slice_set words 0 n) 0 ≡ n
set_first [] n long = absurd (omega (arith, long))
set_first (x ∷ xs) n long = refl

set_long : (words : List ℕ) (i n : ℕ) → length (slice_set words i n) ≡ length words
set_long words i n = grind (arith, common_steps)

there_low : (views : List TapView) (i : ℕ) (v : TapView) → get_elem? views i ≡ some v → i < length views
there_low [] i v there = cc
there_low (x ∷ xs) zero v there = omega arith
there_low (x ∷ xs) (suc i) v there = let low = there_low xs i v there in omega (arith, low)

no_both : (v : TapView) → v.writes ≡ true → v.writes ≡ false → true ≡ false
no_both v pens other = sym pens ∙ other

-- What the load of a reader of this mission shows.
pub summary_shown : (mission : MissionParts) (v w : TapView) (n : ℕ) → v.mission ≡ Some mission → IfSome v.mission (λ (m : MissionParts). ShowsSummary m v n w) → ShowsSummary mission v n w
summary_shown mission v w n is shows = subst (λ (m : Option MissionParts). IfSome m (λ (m : MissionParts). ShowsSummary m v n w)) is shows

module _ (mission : MissionParts) (slots id : ℕ) (me : TapSeat) (empty : me.1 ≡ []) where
  -- The writer's store keeps the rule.
  module _ (writes : me.0.writes ≡ true) where
    publish_each : (s : State (Unit {0}) TapView) (r : IsTapState mission s) → get_elem? s.views id ≡ some me.0
        → (j : ℕ) (u : TapView) → ((j ≡ id) × (row_later me.0 ≡ u)) ⊎ ((j ≢ id) × (get_elem? s.views j ≡ some u)) → IsTapView mission (suc r.m) r.writer j u
    publish_each s r here j u (inl now) =
        let is = r.each id me.0 here in
        let at = is.writing writes in
        subst (IsTapView mission (suc r.m) r.writer j) now.1
        (record { planned = is.planned; writing = λ pens. (now.0 ∙ at.0, ap suc at.1); reading = λ other. (let bad = no_both me.0 writes other in cc) })
    publish_each s r here j u (inr other) =
        let is = r.each j u other.1 in
        let at = (r.each id me.0 here).writing writes in
        record { planned = is.planned; writing = λ pens. absurd (other.0 ((is.writing pens).0 ∙ sym at.0)); reading = λ other. (let low = is.reading other in omega (arith, low)) }

    published : (s : State (Unit {0}) TapView) (r : IsTapState mission s) → get_elem? s.views id ≡ some me.0 → (word : ℕ) → r.m < mission.script.frames
        → word ≡ summary_encode (summary_after mission (suc r.m)) → FitsWord (summary_after mission (suc r.m)) → IsTapState mission (stepped s 0 word id me.1 (row_later me.0) keeps)
    published s r here word low is fits =
        let at = (r.each id me.0 here).writing writes in
        record {
          m = suc r.m;
          writer = r.writer;
          pen = row_later me.0;
          within = omega (arith, low);
          long = set_long s.words 0 word ∙ r.long;
          word = set_first s.words word r.long ∙ is;
          fits = fits;
          there = subst (λ k. get_elem? (slice_set s.views id (row_later me.0)) k ≡ some (row_later me.0)) at.0 (set_here s.views id (row_later me.0) (there_low s.views id me.0 here));
          writes = writes;
          each = λ j u there. publish_each s r here j u (at_set s.views id j (row_later me.0) u there);
        }

    pub publish_allows : (m word : ℕ) → me.0.seen ≡ m → m < mission.script.frames → word ≡ summary_encode (summary_after mission (suc m)) → FitsWord (summary_after mission (suc m))
        → Allows (IsTapState mission) slots id me 0 (λ n. word) (λ n. publishes_row (step slots 0 word 0 none) me word)
    publish_allows m word seen low is fits = λ s r homes here narrow.
        let same : m ≡ r.m = sym seen ∙ ((r.each id me.0 here).writing writes).1 in (
          row_later me.0,
          keeps,
          tt,
          published s r here word (subst (λ k. k < mission.script.frames) same low) (subst (λ k. word ≡ summary_encode (summary_after mission (suc k))) same is)
              (subst (λ k. FitsWord (summary_after mission (suc k))) same fits),
          (refl, empty),
        )

  -- A reader's load keeps the rule.
  module _ (planned : me.0.mission ≡ Some mission) (only_reads : me.0.writes ≡ false) where
    read_each : (s : State (Unit {0}) TapView) (r : IsTapState mission s) → get_elem? s.views id ≡ some me.0
        → (j : ℕ) (u : TapView) → ((j ≡ id) × (view_loaded me.0 r.m ≡ u)) ⊎ ((j ≢ id) × (get_elem? s.views j ≡ some u)) → IsTapView mission r.m r.writer j u
    read_each s r here j u (inl now) =
        subst (IsTapView mission r.m r.writer j) now.1 (record { planned = planned; writing = λ pens. (let bad = no_both me.0 pens only_reads in cc); reading = λ other. omega arith })
    read_each s r here j u (inr other) = r.each j u other.1

    apart : (s : State (Unit {0}) TapView) (r : IsTapState mission s) → get_elem? s.views id ≡ some me.0 → r.writer ≢ id
    apart s r here = λ same.
        let pen : get_elem? s.views id ≡ some r.pen = subst (λ k. get_elem? s.views k ≡ some r.pen) same r.there in
        let one : r.pen ≡ me.0 = cc in
        let bad = no_both me.0 (subst (λ (v : TapView). v.writes ≡ true) one r.writes) only_reads in
        cc

    pub read_allows : Allows (IsTapState mission) slots id me 0 (λ n. n) (reads_summary (step slots 0 0 0 none) me)
    read_allows = λ s r homes here narrow.
        let n = slice_index s.words 0 in (
          view_loaded me.0 r.m,
          keeps,
          tt,
          record {
            m = r.m;
            writer = r.writer;
            pen = r.pen;
            within = r.within;
            long = set_long s.words 0 n ∙ r.long;
            word = set_first s.words n r.long ∙ r.word;
            fits = r.fits;
            there = set_else s.views id r.writer (view_loaded me.0 r.m) (apart s r here) ∙ r.there;
            writes = r.writes;
            each = λ j u there. read_each s r here j u (at_set s.views id j (view_loaded me.0 r.m) u there);
          },
          (
            empty,
            subst (λ (o : Option MissionParts). IfSome o (λ mission. ShowsSummary mission me.0 n (view_loaded me.0 r.m))) (sym planned)
                (record { same = refl; low = (r.each id me.0 here).reading only_reads; within = r.within; word = r.word; fits = r.fits }),
          ),
        )

-- The split of the writer's seat keeps the rule.
module _ (mission : MissionParts) (id : ℕ) (v : TapView) (writes : v.writes ≡ true) where
  note_each : (s : State (Unit {0}) TapView) (r : IsTapState mission s) → get_elem? s.views id ≡ some v
      → (j : ℕ) (u : TapView) → (get_elem? s.views j ≡ some u) ⊎ (reader_view v ≡ u) → IsTapView mission r.m r.writer j u
  note_each s r here j u (inl old) = r.each j u old
  note_each s r here j u (inr new) =
      let is = r.each id v here in
      let seen = (is.writing writes).1 in
      subst (IsTapView mission r.m r.writer j) new (record { planned = is.planned; writing = λ pens. (let bad : false ≡ true = pens in cc); reading = λ other. omega (arith, seen) })

  pub note_splits : Splits (IsTapState mission) id v v (reader_view v)
  note_splits = λ s r here.
      let same = set_again s.views id v here in
      record {
        m = r.m;
        writer = r.writer;
        pen = r.pen;
        within = r.within;
        long = r.long;
        word = r.word;
        fits = r.fits;
        there = at_longer (slice_set s.views id v) (reader_view v ∷ []) r.writer r.pen (rw same r.there);
        writes = r.writes;
        each = λ j u there. note_each s r here j u (at_snoc s.views (reader_view v) u j (rw same at there));
      }

-- The words and the writer's view of an opened tap satisfy the rule.
first_each : (mission : MissionParts) (j : ℕ) (u : TapView) → get_elem? (writer_view mission ∷ []) j ≡ some u → IsTapView mission 0 0 j u
first_each mission zero u there =
    let one : writer_view mission ≡ u = cc in
    subst (IsTapView mission 0 0 0) one (record { planned = refl; writing = λ pens. (refl, refl); reading = λ other. omega arith })
first_each mission (suc j) u there = cc

pub opens : (mission : MissionParts) (word : ℕ) → word ≡ summary_encode (summary_after mission 0) → FitsWord (summary_after mission 0) → IsTapState mission (opening (word ∷ []) [] (writer_view mission))
opens mission word is fits = record {
  m = 0;
  writer = 0;
  pen = writer_view mission;
  within = omega arith;
  long = refl;
  word = is;
  fits = fits;
  there = refl;
  writes = refl;
  each = first_each mission;
}
