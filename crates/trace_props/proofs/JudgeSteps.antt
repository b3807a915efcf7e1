-- Lemmas on the loop that judges the reconfigurations row by row. The loop ends with the final judgement.
use Rattle.std.proofs.Common.{◌≡◌, ◌∙◌, ℕ, suc, ◌+◌, ◌<◌, ◌≤◌, ap, arith, drop, length, refl, sym, List, [], ◌∷◌, ◌++◌}
use Rattle.std.specs.Prelude.{Option, Some, None, get_or}
use Rattle.std.proofs.Math.Seq.{drop-cons}
use Rattle.std.proofs.lemmas.List.{drop_all}
use Rattle.scram_types.specs.declared.rows.Report.{Report}
use Rattle.scram_types.specs.declared.rows.Row.{Row}
use Rattle.scram_types.specs.Specification.{Parts}
use Rattle.scram_types.proofs.Naturals.{plus_one}
use Rattle.frame_model.specs.declared.readings.Reading.{Reading}
use Rattle.frame_model.specs.Readings.{as_list, close, ended_in, read_row, reading_after, report_of}
use Rattle.trace_props.specs.declared.judging.Judgement.{Judgement}
use Rattle.trace_props.specs.Judging.{judge, judge_all}
use Rattle.trace_props.proofs.Ordering.{still_read}

module _ (spec : Parts) (rows : List Row) (told : List Report) (s : Judgement) where
  judge_one : (o : Option Report) (rest more : List Report) → judge_all spec rows told s ((as_list o ++ rest) ++ more) ≡ judge_all spec rows told (judge spec rows told s o) (rest ++ more)
  judge_one None rest more = refl
  judge_one (Some r) rest more = refl

  pub judge_row : (rd : Reading) (f : ℕ) (row : Row) (rest : List Row) (n : ℕ) → judge_all spec rows told s (still_read spec rd f (row ∷ rest) n)
      ≡ judge_all spec rows told (judge spec rows told s (report_of spec rd f row.acts)) (still_read spec (read_row spec rd f row.acts) (suc f) rest n)
  judge_row rd f row rest n =
      judge_one (report_of spec rd f row.acts) (ended_in spec (read_row spec rd f row.acts) (suc f) rest) (as_list (close (reading_after spec (read_row spec rd f row.acts) (suc f) rest) n))

  pub judge_end : (o : Option Report) → judge_all spec rows told s (as_list o) ≡ judge spec rows told s o
  judge_end None = refl
  judge_end (Some r) = refl

module _ (spec : Parts) (rows : List Row) (told : List Report) where
  same_judged : (s t : Judgement) (rd next : Reading) (f g : ℕ) (xs ys : List Row) (m n : ℕ) → s ≡ t → rd ≡ next → f ≡ g → xs ≡ ys → m ≡ n
      → judge_all spec rows told s (still_read spec rd f xs m) ≡ judge_all spec rows told t (still_read spec next g ys n)
  same_judged s t rd next f g xs ys m n p q r e k = rw (p, q, r, e, k) refl

  -- An iteration of the loop, which judges the next row, does not change the final judgement.
  pub judge_more : (s t : Judgement) (rd next : Reading) (f i : ℕ) (d : Row) (read : Option Report) → i < length rows
      → next ≡ read_row spec rd f (get_or rows i d).acts → read ≡ report_of spec rd f (get_or rows i d).acts → t ≡ judge spec rows told s read
      → judge_all spec rows told t (still_read spec next (f + 1) (drop (i + 1) rows) (length rows)) ≡ judge_all spec rows told s (still_read spec rd f (drop i rows) (length rows))
  judge_more s t rd next f i d read inside next_is read_is t_is =
      same_judged t (judge spec rows told s (report_of spec rd f (get_or rows i d).acts)) next (read_row spec rd f (get_or rows i d).acts) (f + 1) (suc f) (drop (i + 1) rows) (drop (suc i) rows)
      (length rows) (length rows) (t_is ∙ ap (judge spec rows told s) read_is) next_is (sym (plus_one f)) (ap (λ (k : ℕ). drop k rows) (sym (plus_one i))) refl
      ∙ sym (judge_row spec rows told s rd f (get_or rows i d) (drop (suc i) rows) (length rows))
      ∙ same_judged s s rd rd f f (get_or rows i d ∷ drop (suc i) rows) (drop i rows) (length rows) (length rows) refl refl refl (sym (drop-cons rows i d inside)) refl

  -- After the last row, the judgement of the reconfiguration that is still under way, if any, is the final judgement.
  pub judge_last : (s : Judgement) (rd : Reading) (f i : ℕ) → f ≡ i → length rows ≤ i → i ≤ length rows
      → judge spec rows told s (close rd f) ≡ judge_all spec rows told s (still_read spec rd f (drop i rows) (length rows))
  judge_last s rd f i at past end =
      let whole : f ≡ length rows = omega arith in
      ap (λ (n : ℕ). judge spec rows told s (close rd n)) whole ∙ sym (judge_end spec rows told s (close rd (length rows)))
      ∙ same_judged s s rd rd f f [] (drop i rows) (length rows) (length rows) refl refl refl (sym (drop_all i rows past)) refl
