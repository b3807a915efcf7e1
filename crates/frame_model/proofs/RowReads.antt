-- Lemmas on the reading of one more row.
use Rattle.std.proofs.Common.{◌≡◌, ◌∙◌, ℕ, suc, ◌+◌, ◌<◌, ap, sym, append_assoc, arith, drop, length, List, ◌∷◌, ◌++◌}
use Rattle.std.specs.Prelude.{Option, slice_index_or}
use Rattle.std.proofs.lemmas.List.{drop_more}
use Rattle.scram_types.specs.declared.rows.Report.{Report}
use Rattle.scram_types.specs.declared.rows.Row.{Row}
use Rattle.scram_types.specs.Specification.{Parts}
use Rattle.frame_model.specs.declared.readings.Reading.{Reading}
use Rattle.frame_model.specs.Readings.{as_list, ended_in, read_row, reading_after, report_of}

module _ (spec : Parts) (rows : List Row) (n f : ℕ) (d : Row) (reading next : Reading) (low : n < length rows) (read : next ≡ read_row spec reading f (slice_index_or rows n d).acts) where
  split : drop n rows ≡ slice_index_or rows n d ∷ drop (n + 1) rows
  split = drop_more rows n d low

  one_on : f + 1 ≡ suc f
  one_on = omega arith

  pub read_on : (all : Reading) → reading_after spec reading f (drop n rows) ≡ all → reading_after spec next (f + 1) (drop (n + 1) rows) ≡ all
  read_on all before = rw (read, one_on) (ap (reading_after spec reading f) (sym split) ∙ before)

  pub reported_on : (told more all : List Report) (report : Option Report) → report ≡ report_of spec reading f (slice_index_or rows n d).acts → more ≡ told ++ as_list report
      → told ++ ended_in spec reading f (drop n rows) ≡ all → more ++ ended_in spec next (f + 1) (drop (n + 1) rows) ≡ all
  reported_on told more all report is added before =
      let ends = ended_in spec (read_row spec reading f (slice_index_or rows n d).acts) (suc f) (drop (n + 1) rows) in
      rw (read, one_on, added, is)
      (append_assoc told (as_list (report_of spec reading f (slice_index_or rows n d).acts)) ends ∙ ap (λ (list : List Row). told ++ ended_in spec reading f list) (sym split) ∙ before)
