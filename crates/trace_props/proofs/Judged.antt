-- `first_break` is the first break of a trace, or `None` if SP1 to SP6 hold.
use Rattle.std.proofs.Common.{◌≡◌, ℕ, suc, ◌+◌, ◌<◌, ◌≤◌, refl, arith, ap, sym, ◌∙◌, List, [], ◌∷◌, ◌⊎◌, subst}
use mathlib.Core.Logic.{inl, inr}
use Rattle.std.specs.Prelude.{Option, Some, None, slice_get, ◌↔◌}
use Rattle.std.proofs.lemmas.Option.{slice_get_past}
use Rattle.scram_types.specs.declared.rows.Report.{Report}
use Rattle.scram_types.specs.declared.rows.Row.{Row}
use Rattle.scram_types.specs.Specification.{Parts}
use Rattle.scram_types.proofs.Booleans.{not_false, true_false}
use Rattle.scram_types.proofs.Naturals.{below_or_at}
use Rattle.scram_types.proofs.Options.{same_some}
use Rattle.frame_model.specs.Readings.{reports}
use Rattle.trace_props.specs.declared.breaks.Broken.{Broken}
use Rattle.trace_props.specs.declared.breaks.Property.{Property}
use Rattle.trace_props.specs.declared.breaks.Property.TheVariants.{Sp1, Sp2, Sp3, Sp4, Sp5, Sp6}
use Rattle.trace_props.specs.declared.judging.Judgement.{Judgement}
use Rattle.trace_props.specs.Breaks.{BreaksAt, BreaksIn, BreaksSomewhere, BreaksSp1, BreaksSp6, Fails, HoldsWhereUnbroken, IsFirstBreak, last_frame}
use Rattle.trace_props.specs.Judging.{broken_at, broken_in, causeless_at, difference, earlier, first_break, first_in_reports, judge, judge_all, late_at, opening_judgement, unchosen_at, unkept_at, unsatisfied_at}
use Rattle.trace_props.specs.Properties.{HoldsAll, HoldsSp6, KeepsSp2, KeepsSp3, KeepsSp4, KeepsSp5, is_satisfied}
use Rattle.trace_props.proofs.Differing.{agrees_all, told_least, low_or_past}
use Rattle.trace_props.proofs.Firsts.{IsFirstOf, IsLeastOf, first_earlier, first_moved, first_one, none_at, none_left, none_right}
use Rattle.trace_props.proofs.Ordering.{Ordered, ends_after, ordered_reports}
use Rattle.trace_props.proofs.TargetsJudged.{Judges, least_judged, sp2_judged, sp3_judged}
use Rattle.trace_props.proofs.AreasJudged.{sp4_kept, sp4_least}
use Rattle.trace_props.proofs.CalmJudged.{sp6_least}
use Rattle.trace_props.proofs.CausesJudged.{IsJustBefore, sp5_judged}

-- A reconfiguration keeps SP2 to SP5.
record Keeps (spec : Parts) (rows : List Row) (r : Report) : Type 0 where
  sp2 : KeepsSp2 spec rows r
  sp3 : KeepsSp3 spec r
  sp4 : KeepsSp4 spec rows r
  sp5 : KeepsSp5 spec rows r

kept_if : (A : Type 0) (frame : ℕ) (o : Option ℕ) → Judges A frame o → o ≡ None → A
kept_if A frame None h e = h
kept_if A frame (Some f) h e = absurd (let no : ◌≡◌ {A = Option ℕ} (Some f) None = e in cc)

abbrev Alone : Property → (ℕ → Type 0) → Property → ℕ → Type 0
Alone property Breaks p g = (p ≡ property) × Breaks g

module _ (spec : Parts) (rows : List Row) (before : Option Report) (r : Report) (just : IsJustBefore spec rows before r) where
  abbrev InSome : Property → ℕ → Type 0
  InSome p g = (Alone Sp2 (BreaksIn spec rows r Sp2) p g ⊎ Alone Sp3 (BreaksIn spec rows r Sp3) p g) ⊎ (Alone Sp4 (BreaksIn spec rows r Sp4) p g ⊎ Alone Sp5 (BreaksIn spec rows r Sp5) p g)

  in_one : (q p : Property) (g : ℕ) → Alone q (BreaksIn spec rows r q) p g → BreaksIn spec rows r p g
  in_one q p g b = subst (λ (x : Property). BreaksIn spec rows r x g) (sym b.0) b.1

  in_some : (p : Property) (g : ℕ) → InSome p g → BreaksIn spec rows r p g
  in_some p g e = elim e [
    | inl early ↦ elim early [ inl b ↦ in_one Sp2 p g b | inr b ↦ in_one Sp3 p g b ]
    | inr late ↦ elim late [ inl b ↦ in_one Sp4 p g b | inr b ↦ in_one Sp5 p g b ]
  ]

  some_in : (p : Property) (g : ℕ) → BreaksIn spec rows r p g → InSome p g
  some_in Sp1 g b = absurd b
  some_in Sp2 g b = inl (inl (refl, b))
  some_in Sp3 g b = inl (inr (refl, b))
  some_in Sp4 g b = inr (inl (refl, b))
  some_in Sp5 g b = inr (inr (refl, b))
  some_in Sp6 g b = absurd b

  first_in : IsFirstOf (BreaksIn spec rows r) (broken_in spec rows before r)
  first_in = first_moved InSome (BreaksIn spec rows r) in_some some_in (broken_in spec rows before r)
      (first_earlier (λ p g. Alone Sp2 (BreaksIn spec rows r Sp2) p g ⊎ Alone Sp3 (BreaksIn spec rows r Sp3) p g) (λ p g. Alone Sp4 (BreaksIn spec rows r Sp4) p g ⊎ Alone Sp5 (BreaksIn spec rows r Sp5) p g)
      (earlier (broken_at Sp2 (unchosen_at spec rows r)) (broken_at Sp3 (late_at spec r))) (earlier (broken_at Sp4 (unkept_at spec rows r)) (broken_at Sp5 (causeless_at spec rows before r)))
      (first_earlier (Alone Sp2 (BreaksIn spec rows r Sp2)) (Alone Sp3 (BreaksIn spec rows r Sp3)) (broken_at Sp2 (unchosen_at spec rows r)) (broken_at Sp3 (late_at spec r))
      (first_one Sp2 (BreaksIn spec rows r Sp2) (unchosen_at spec rows r) (least_judged (KeepsSp2 spec rows r) r.end (unchosen_at spec rows r) (sp2_judged spec rows r)))
      (first_one Sp3 (BreaksIn spec rows r Sp3) (late_at spec r) (least_judged (KeepsSp3 spec r) (last_frame r) (late_at spec r) (sp3_judged spec r))))
      (first_earlier (Alone Sp4 (BreaksIn spec rows r Sp4)) (Alone Sp5 (BreaksIn spec rows r Sp5)) (broken_at Sp4 (unkept_at spec rows r)) (broken_at Sp5 (causeless_at spec rows before r))
      (first_one Sp4 (BreaksIn spec rows r Sp4) (unkept_at spec rows r) (sp4_least spec rows r))
      (first_one Sp5 (BreaksIn spec rows r Sp5) (causeless_at spec rows before r) (least_judged (KeepsSp5 spec rows r) r.begin (causeless_at spec rows before r) (sp5_judged spec rows r before just)))))

  kept_in : broken_in spec rows before r ≡ None → Keeps spec rows r
  kept_in e =
      let early = none_left (earlier (broken_at Sp2 (unchosen_at spec rows r)) (broken_at Sp3 (late_at spec r))) (earlier (broken_at Sp4 (unkept_at spec rows r)) (broken_at Sp5 (causeless_at spec rows before r))) e in
      let late = none_right (earlier (broken_at Sp2 (unchosen_at spec rows r)) (broken_at Sp3 (late_at spec r))) (earlier (broken_at Sp4 (unkept_at spec rows r)) (broken_at Sp5 (causeless_at spec rows before r))) e in
      record {
        sp2 = kept_if (KeepsSp2 spec rows r) r.end (unchosen_at spec rows r) (sp2_judged spec rows r) (none_at Sp2 (unchosen_at spec rows r) (none_left (broken_at Sp2 (unchosen_at spec rows r)) (broken_at Sp3 (late_at spec r)) early));
        sp3 = kept_if (KeepsSp3 spec r) (last_frame r) (late_at spec r) (sp3_judged spec r) (none_at Sp3 (late_at spec r) (none_right (broken_at Sp2 (unchosen_at spec rows r)) (broken_at Sp3 (late_at spec r)) early));
        sp4 = sp4_kept spec rows r (none_at Sp4 (unkept_at spec rows r) (none_left (broken_at Sp4 (unkept_at spec rows r)) (broken_at Sp5 (causeless_at spec rows before r)) late));
        sp5 = kept_if (KeepsSp5 spec rows r) r.begin (causeless_at spec rows before r) (sp5_judged spec rows r before just)
            (none_at Sp5 (causeless_at spec rows before r) (none_right (broken_at Sp4 (unkept_at spec rows r)) (broken_at Sp5 (causeless_at spec rows before r)) late));
      }

-- One of the first `n` reconfigurations of a list breaks property `p` in frame `g`.
record BreaksBelow (spec : Parts) (rows : List Row) (all : List Report) (n : ℕ) (p : Property) (g : ℕ) : Type 0 where
  place : ℕ
  below : place < n
  r : Report
  there : slice_get all place ≡ Some r
  broken : BreaksIn spec rows r p g

-- `s` is the judgement after the first `n` reconfigurations of `all`. The last of these reconfigurations ended before
-- frame `low`.
record IsJudged (spec : Parts) (rows : List Row) (all : List Report) (n low : ℕ) (s : Judgement) : Type 0 where
  first : IsFirstOf (BreaksBelow spec rows all n) s.broken
  kept : s.broken ≡ None → (k : ℕ) (x : Report) → k < n → slice_get all k ≡ Some x → Keeps spec rows x
  before : (x : Report) → s.before ≡ Some x → (place : ℕ) × (slice_get all place ≡ Some x)
  past : (k : ℕ) (x : Report) → k < n → slice_get all k ≡ Some x → (suc x.end ≤ low) × ((s.before ≡ Some x) ⊎ (suc x.end < low))

module _ (spec : Parts) (rows : List Row) (told : List Report) where
  abbrev Read : List Report
  Read = reports spec rows

  module _ (n low : ℕ) (s : Judgement) (r : Report) (read : List Report) (rest : (k : ℕ) → slice_get Read (n + k) ≡ slice_get (r ∷ read) k) (order : Ordered low (r ∷ read)) (h : IsJudged spec rows Read n low s) where
    here : slice_get Read n ≡ Some r
    here = ap (slice_get Read) (omega arith) ∙ rest 0

    -- A reconfiguration that ended in the frame before the begin of `r` is the reconfiguration that was judged last.
    only : (place : ℕ) (x : Report) → slice_get Read place ≡ Some x → suc x.end ≡ r.begin → s.before ≡ Some x
    only place x there last = elim (low_or_past place n) [
      | inl less ↦ elim (h.past place x less there).1 [
        | inl before ↦ before
        | inr ended ↦ absurd (let start = order.0 in omega arith)
      ]
      | inr past ↦ absurd (let late = ends_after r.begin (r ∷ read) (omega arith, order.1, order.2) past.0 x (sym (rest past.0) ∙ ap (slice_get Read) (sym past.1) ∙ there) in omega arith)
    ]

    just : IsJustBefore spec rows s.before r
    just = record { there = h.before; only = only }

    wider : (p : Property) (g : ℕ) → BreaksBelow spec rows Read n p g ⊎ BreaksIn spec rows r p g → BreaksBelow spec rows Read (suc n) p g
    wider p g e = elim e [
      | inl b ↦ (let below = b.below in record { place = b.place; below = omega arith; r = b.r; there = b.there; broken = b.broken })
      | inr b ↦ record { place = n; below = omega arith; r = r; there = here; broken = b }
    ]

    narrower : (p : Property) (g : ℕ) → BreaksBelow spec rows Read (suc n) p g → BreaksBelow spec rows Read n p g ⊎ BreaksIn spec rows r p g
    narrower p g b = elim (below_or_at b.place n b.below) [
      | inl less ↦ inl (record { place = b.place; below = less; r = b.r; there = b.there; broken = b.broken })
      | inr last ↦ inr (let same : r ≡ b.r = same_some r b.r (sym here ∙ ap (slice_get Read) (sym last) ∙ b.there) in rw same b.broken)
    ]

    judged_next : IsJudged spec rows Read (suc n) (suc r.end) (judge spec rows told s (Some r))
    judged_next = record {
      first = first_moved (λ p g. BreaksBelow spec rows Read n p g ⊎ BreaksIn spec rows r p g) (BreaksBelow spec rows Read (suc n)) wider narrower (earlier s.broken (broken_in spec rows s.before r))
          (first_earlier (BreaksBelow spec rows Read n) (BreaksIn spec rows r) s.broken (broken_in spec rows s.before r) h.first (first_in spec rows s.before r just));
      kept = λ e k x below there. elim (below_or_at k n below) [
        | inl less ↦ h.kept (none_left s.broken (broken_in spec rows s.before r) e) k x less there
        | inr last ↦ (let same : r ≡ x = same_some r x (sym here ∙ ap (slice_get Read) (sym last) ∙ there) in rw (← same) (kept_in spec rows s.before r just (none_right s.broken (broken_in spec rows s.before r) e)))
      ];
      before = λ x e. (n, here ∙ e);
      past = λ k x below there. elim (below_or_at k n below) [
        | inl less ↦ (let ended = (h.past k x less there).0 in let start = order.0 in let end = order.1 in (omega arith, inr (omega arith)))
        | inr last ↦ (let same = same_some r x (sym here ∙ ap (slice_get Read) (sym last) ∙ there) in (rw same (omega arith), inl (ap (λ (y : Report). Some y) same)))
      ];
    }

  judged_all : (read : List Report) (n low : ℕ) (s : Judgement) → ((k : ℕ) → slice_get Read (n + k) ≡ slice_get read k) → Ordered low read → IsJudged spec rows Read n low s
      → (m : ℕ) × (end : ℕ) × ((k : ℕ) → slice_get Read (m + k) ≡ None) × IsJudged spec rows Read m end (judge_all spec rows told s read)
  judged_all [] n low s rest order h = (n, low, (λ k. rest k ∙ slice_get_past {X = Report} [] k (omega arith)), h)
  judged_all (r ∷ read) n low s rest order h =
      judged_all read (suc n) (suc r.end) (judge spec rows told s (Some r)) (λ k. ap (slice_get Read) (omega arith) ∙ rest (suc k)) order.2 (judged_next n low s r read rest order h)

  opened : IsJudged spec rows Read 0 0 opening_judgement
  opened = record {
    first = λ p g b. (let below = b.below in absurd (omega arith));
    kept = λ e k x below. absurd (omega arith);
    before = λ x e. absurd (let no : ◌≡◌ {A = Option Report} None (Some x) = e in cc);
    past = λ k x below. absurd (omega arith);
  }

  abbrev Final : Judgement
  Final = judge_all spec rows told opening_judgement Read

  from_zero : (k : ℕ) → slice_get Read (0 + k) ≡ slice_get Read k
  from_zero k = ap (slice_get Read) (omega arith)

  agreed : IsLeastOf (BreaksSp1 told Read) (difference told Final.agreement) × (difference told Final.agreement ≡ None → told ≡ Read)
  agreed = let all = agrees_all spec rows told Read Read 0 from_zero opening_judgement (refl, λ k below. absurd (omega arith)) in
      told_least told Read all.0 all.1 Final.agreement all.2

  judged : (m : ℕ) × (end : ℕ) × ((k : ℕ) → slice_get Read (m + k) ≡ None) × IsJudged spec rows Read m end Final
  judged = judged_all Read 0 0 opening_judgement from_zero (ordered_reports spec rows) opened

  -- If the list of reconfigurations ends at index `m`, then each index of a reconfiguration is below `m`.
  below_all : (m : ℕ) → ((k : ℕ) → slice_get Read (m + k) ≡ None) → (place : ℕ) (x : Report) → slice_get Read place ≡ Some x → place < m
  below_all m ended place x there = elim (low_or_past place m) [
    | inl less ↦ less
    | inr past ↦ absurd (let no : ◌≡◌ {A = Option Report} None (Some x) = sym (ended past.0) ∙ ap (slice_get Read) (sym past.1) ∙ there in cc)
  ]

  abbrev Either : Property → ℕ → Type 0
  Either p g = Alone Sp1 (BreaksSp1 told Read) p g ⊎ BreaksBelow spec rows Read judged.0 p g

  abbrev OneOf : Property → ℕ → Type 0
  OneOf p g = Either p g ⊎ Alone Sp6 (BreaksSp6 spec rows) p g

  at_of : (p : Property) (g : ℕ) → OneOf p g → BreaksAt spec rows told p g
  at_of p g e = elim e [
    | inl read ↦ elim read [
      | inl b ↦ subst (λ (q : Property). BreaksAt spec rows told q g) (sym b.0) b.1
      | inr b ↦ below_of p g b
    ]
    | inr b ↦ subst (λ (q : Property). BreaksAt spec rows told q g) (sym b.0) b.1
  ]
    where
      below_of : (q : Property) (f : ℕ) → BreaksBelow spec rows Read judged.0 q f → BreaksAt spec rows told q f
      below_of Sp1 f b = absurd b.broken
      below_of Sp2 f b = record { place = b.place; reconfiguration = b.r; there = b.there; broken = b.broken }
      below_of Sp3 f b = record { place = b.place; reconfiguration = b.r; there = b.there; broken = b.broken }
      below_of Sp4 f b = record { place = b.place; reconfiguration = b.r; there = b.there; broken = b.broken }
      below_of Sp5 f b = record { place = b.place; reconfiguration = b.r; there = b.there; broken = b.broken }
      below_of Sp6 f b = absurd b.broken

  below_at : (p : Property) (g : ℕ) → BreaksSomewhere spec rows p g → BreaksBelow spec rows Read judged.0 p g
  below_at p g b = record { place = b.place; below = below_all judged.0 judged.2 b.place b.reconfiguration b.there; r = b.reconfiguration; there = b.there; broken = b.broken }

  at_is : (p : Property) (g : ℕ) → BreaksAt spec rows told p g → OneOf p g
  at_is Sp1 g b = inl (inl (refl, b))
  at_is Sp2 g b = inl (inr (below_at Sp2 g b))
  at_is Sp3 g b = inl (inr (below_at Sp3 g b))
  at_is Sp4 g b = inl (inr (below_at Sp4 g b))
  at_is Sp5 g b = inl (inr (below_at Sp5 g b))
  at_is Sp6 g b = inr (refl, b)

  reports_first : IsFirstOf Either (first_in_reports spec rows told)
  reports_first =
      first_earlier (Alone Sp1 (BreaksSp1 told Read)) (BreaksBelow spec rows Read judged.0) (broken_at Sp1 (difference told Final.agreement)) Final.broken
      (first_one Sp1 (BreaksSp1 told Read) (difference told Final.agreement) agreed.0) judged.3.first

  pub first_is : IsFirstOf (BreaksAt spec rows told) (first_break spec rows told)
  first_is = first_moved OneOf (BreaksAt spec rows told) at_of at_is (first_break spec rows told)
      (first_earlier Either (Alone Sp6 (BreaksSp6 spec rows)) (first_in_reports spec rows told) (broken_at Sp6 (unsatisfied_at spec rows)) reports_first
      (first_one Sp6 (BreaksSp6 spec rows) (unsatisfied_at spec rows) (sp6_least spec rows)))

  satisfied_if : (o : Option ℕ) → IsLeastOf (BreaksSp6 spec rows) o → o ≡ None → HoldsSp6 spec rows
  satisfied_if None h e t row calm = not_false (is_satisfied spec row) (λ b. h t (record { row = row; calm = calm; broken = b }))
  satisfied_if (Some f) h e t row calm = absurd (let no : ◌≡◌ {A = Option ℕ} (Some f) None = e in cc)

  pub holds_if : first_break spec rows told ≡ None → HoldsAll spec rows told
  holds_if all =
      let e = none_left (first_in_reports spec rows told) (broken_at Sp6 (unsatisfied_at spec rows)) all in
      let told_none = none_at Sp1 (difference told Final.agreement) (none_left (broken_at Sp1 (difference told Final.agreement)) Final.broken e) in
      let none = none_right (broken_at Sp1 (difference told Final.agreement)) Final.broken e in
      let kept : (k : ℕ) (x : Report) → slice_get Read k ≡ Some x → Keeps spec rows x = λ k x there. judged.3.kept none k x (below_all judged.0 judged.2 k x there) there in
      record {
        sp1 = agreed.1 told_none;
        sp2 = λ k x there. (kept k x there).sp2;
        sp3 = λ k x there. (kept k x there).sp3;
        sp4 = λ k x there. (kept k x there).sp4;
        sp5 = λ k x there. (kept k x there).sp5;
        sp6 = satisfied_if (unsatisfied_at spec rows) (sp6_least spec rows)
            (none_at Sp6 (unsatisfied_at spec rows) (none_right (first_in_reports spec rows told) (broken_at Sp6 (unsatisfied_at spec rows)) all));
      }

  -- If all properties hold, then no property is broken in any frame.
  pub unbroken_of : HoldsAll spec rows told → (p : Property) (g : ℕ) → BreaksAt spec rows told p g → ⊥
  unbroken_of h Sp1 g b = b.differ (ap (λ xs. slice_get xs b.place) h.sp1)
  unbroken_of h Sp2 g b = b.broken.0 (h.sp2 b.place b.reconfiguration b.there)
  unbroken_of h Sp3 g b = b.broken.0 (h.sp3 b.place b.reconfiguration b.there)
  unbroken_of h Sp4 g b = elim b.broken [
    | inl i ↦ i.broken ((h.sp4 b.place b.reconfiguration b.there).throughout i.place i.inv i.there i.speaks g i.row i.from i.up_to i.stands)
    | inr p ↦ p.broken ((h.sp4 b.place b.reconfiguration b.there).ready p.place p.pre p.there p.aimed g p.row p.before_end p.stands)
  ]
  unbroken_of h Sp5 g b = b.broken.0 (h.sp5 b.place b.reconfiguration b.there)
  unbroken_of h Sp6 g b = true_false (is_satisfied spec b.row) (h.sp6 g b.row b.calm) b.broken

  pub first_broken : (x : Broken) → first_break spec rows told ≡ Some x → IsFirstBreak spec rows told x.property x.frame
  first_broken x e = first_of_some (first_break spec rows told) e first_is
    where
      first_of_some : (o : Option Broken) → o ≡ Some x → IsFirstOf (BreaksAt spec rows told) o → IsFirstBreak spec rows told x.property x.frame
      first_of_some None k h = absurd (let no : ◌≡◌ {A = Option Broken} None (Some x) = k in cc)
      first_of_some (Some y) k h = let same : y ≡ x = cc in rw (← same) (record { broken = h.0; first = h.1 })

  none_if : (o : Option Broken) → IsFirstOf (BreaksAt spec rows told) o → ((p : Property) (g : ℕ) → Fails (BreaksAt spec rows told p g)) → o ≡ None
  none_if None h unbroken = refl
  none_if (Some x) h unbroken = absurd (unbroken x.property x.frame h.0)

  pub holds_unbroken : HoldsAll spec rows told ↔ ((p : Property) (g : ℕ) → Fails (BreaksAt spec rows told p g))
  holds_unbroken = (unbroken_of, λ unbroken. holds_if (none_if (first_break spec rows told) first_is unbroken))

pub holds_where_unbroken : HoldsWhereUnbroken
holds_where_unbroken spec rows told = holds_unbroken spec rows told
