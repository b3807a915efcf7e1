-- Lemmas that the lines of a file are flown in order, and that the lines for their outcomes are printed or cut off.
use Rattle.std.proofs.Common.{◌≡◌, ◌∙◌, ℕ, ◌+◌, List, [], ◌∷◌, ◌++◌, arith, length, append_assoc, append-nil, refl, sym, ap, map, subst, inl}
use Rattle.std.specs.Prelude.{Result, Err}
use Rattle.form_base.specs.declared.status.TheConstants.{ANSWERED}
use Rattle.form_base.specs.Endings.{PrintsAnswer}
use Rattle.form_base.specs.Printing.{status_after}
use Rattle.form_base.proofs.Endings.{put_taken}
use Rattle.scram_types.specs.Specification.{Parts}
use Rattle.scram_io.specs.Outside.{CutOff, Printed, SinkState}
use Rattle.scram_io.specs.declared.sink.SinkFault.{SinkFault}
use Rattle.scram_io.proofs.Puts.{cut_in, printed_more}
use Rattle.flights_form.specs.declared.outcomes.Outcome.{Outcome}
use Rattle.flights_form.specs.declared.totals.Totals.{Totals}
use Rattle.flights_form.specs.Answers.{GivesFlights, flights_text, outcome_line, outcome_lines}
use Rattle.flights_form.specs.Outcomes.{AreOutcomes, IsOutcome, outcome_of}
use Rattle.flights_form.specs.Printing.{IsFlownTo, PrintsFlights, PrintsLines}
use Rattle.flights_form.specs.Scripts.{lines_of}
use Rattle.flights_form.specs.Totals.{totals_of, with_outcome}
use Rattle.flights_form.proofs.Summed.{totals_more}

-- The outcomes of two lists of lines, concatenated, are the outcomes of the concatenated lines.
are_both : (spec : Parts) (front behind : List (List ℕ)) (outcomes others : List Outcome) → AreOutcomes spec front outcomes → AreOutcomes spec behind others
    → AreOutcomes spec (front ++ behind) (outcomes ++ others)
are_both spec [] behind [] others first second = second
are_both spec [] behind (outcome ∷ outcomes) others first second = absurd first
are_both spec (line ∷ front) behind [] others first second = absurd first
are_both spec (line ∷ front) behind (outcome ∷ outcomes) others first second = (first.0, are_both spec front behind outcomes others first.1 second)

-- The values of `outcome_of` for lines are outcomes of these lines.
all_come : (spec : Parts) (lines : List (List ℕ)) → AreOutcomes spec lines (map (outcome_of spec) lines)
all_come spec [] = tt
all_come spec (line ∷ lines) = (inl refl, all_come spec lines)

-- The text for `outcomes` and `others`, concatenated, is the text for `outcomes`, followed by the text for `others`.
lines_both : (spec : Parts) (k : ℕ) (outcomes others : List Outcome) → outcome_lines spec k (outcomes ++ others) ≡ outcome_lines spec k outcomes ++ outcome_lines spec (k + length outcomes) others
lines_both spec k [] others = let same : k ≡ k + 0 = omega arith in ap (λ (n : ℕ). outcome_lines spec n others) same
lines_both spec k (outcome ∷ outcomes) others =
    let same : k + 1 + length outcomes ≡ k + length (outcome ∷ outcomes) = omega arith in
    ap (λ (tail : List ℕ). outcome_line spec k outcome ++ tail)
    (lines_both spec (k + 1) outcomes others ∙ ap (λ (n : ℕ). outcome_lines spec (k + 1) outcomes ++ outcome_lines spec n others) same)
    ∙ sym (append_assoc (outcome_line spec k outcome) (outcome_lines spec (k + 1) outcomes) (outcome_lines spec (k + length (outcome ∷ outcomes)) others))

-- The text for all outcomes consists of the text for `outcomes`, the line for `outcome`, and the text for `others`.
lines_at : (spec : Parts) (outcomes others : List Outcome) (outcome : Outcome) (totals : Totals) → totals ≡ totals_of outcomes
    → outcome_lines spec 0 (outcomes ++ outcome ∷ others) ≡ (outcome_lines spec 0 outcomes ++ outcome_line spec totals.lines outcome) ++ outcome_lines spec (length outcomes + 1) others
lines_at spec outcomes others outcome totals are =
    let from_first : 0 + length outcomes ≡ length outcomes = omega arith in
    rw from_first at (lines_both spec 0 outcomes (outcome ∷ others))
    ∙ sym (append_assoc (outcome_lines spec 0 outcomes) (outcome_line spec (length outcomes) outcome) (outcome_lines spec (length outcomes + 1) others))
    ∙ ap (λ (n : ℕ). (outcome_lines spec 0 outcomes ++ outcome_line spec n outcome) ++ outcome_lines spec (length outcomes + 1) others) (sym (ap (λ (t : Totals). t.lines) are))

-- Before the first line, no line was flown and nothing was printed.
pub flown_none : (spec : Parts) (bytes : List ℕ) (old new : SinkState) → Printed old new [] → IsFlownTo spec bytes bytes (totals_of []) old new
flown_none spec bytes old new printed = record { front = []; outcomes = []; parts = refl; answers = tt; totals_are = refl; printed = printed }

-- If the next line was flown and the line for its outcome was printed, the lines up to this one were flown.
pub flown_next : (spec : Parts) (bytes rest line behind : List ℕ) (totals : Totals) (outcome : Outcome) (old mid new : SinkState) → IsFlownTo spec bytes rest totals old mid
    → lines_of rest ≡ line ∷ lines_of behind → IsOutcome spec line outcome → Printed mid new (outcome_line spec totals.lines outcome)
    → IsFlownTo spec bytes behind (with_outcome totals outcome) old new
flown_next spec bytes rest line behind totals outcome old mid new flown split comes printed = record {
  front = flown.front ++ line ∷ [];
  outcomes = flown.outcomes ++ outcome ∷ [];
  parts = flown.parts ∙ ap (λ (lines : List (List ℕ)). flown.front ++ lines) split ∙ sym (append_assoc flown.front (line ∷ []) (lines_of behind));
  answers = are_both spec flown.front (line ∷ []) flown.outcomes (outcome ∷ []) flown.answers (comes, tt);
  totals_are = ap (λ (t : Totals). with_outcome t outcome) flown.totals_are ∙ sym (totals_more flown.outcomes outcome);
  printed = subst (λ (text : List ℕ). Printed old new text)
      (sym (lines_at spec flown.outcomes [] outcome totals flown.totals_are ∙ append-nil (outcome_lines spec 0 flown.outcomes ++ outcome_line spec totals.lines outcome)))
      (printed_more old mid new (outcome_lines spec 0 flown.outcomes) (outcome_line spec totals.lines outcome) flown.printed printed);
}

-- If the next line was flown and the line for its outcome was cut off, the text for all lines was cut off.
pub flown_cut : (spec : Parts) (bytes rest line behind : List ℕ) (totals : Totals) (outcome : Outcome) (fault : SinkFault) (old mid new : SinkState) → IsFlownTo spec bytes rest totals old mid
    → lines_of rest ≡ line ∷ lines_of behind → IsOutcome spec line outcome → CutOff mid new (outcome_line spec totals.lines outcome)
    → PrintsLines spec bytes (Err fault) old new
flown_cut spec bytes rest line behind totals outcome fault old mid new flown split comes cut =
    let others : List Outcome = map (outcome_of spec) (lines_of behind) in
    record {
      outcomes = flown.outcomes ++ outcome ∷ others;
      answers = subst (λ (lines : List (List ℕ)). AreOutcomes spec lines (flown.outcomes ++ outcome ∷ others))
          (sym (flown.parts ∙ ap (λ (lines : List (List ℕ)). flown.front ++ lines) split))
          (are_both spec flown.front (line ∷ lines_of behind) flown.outcomes (outcome ∷ others) flown.answers (comes, all_come spec (lines_of behind)));
      prints = cut_in old mid new (outcome_lines spec 0 (flown.outcomes ++ outcome ∷ others)) (outcome_lines spec 0 flown.outcomes) (outcome_line spec totals.lines outcome)
          (outcome_lines spec (length flown.outcomes + 1) others) (lines_at spec flown.outcomes others outcome totals flown.totals_are) flown.printed cut;
    }

-- If all lines were flown and the text of their outcomes was printed or cut off, the answer was printed or cut off.
pub series_prints : {A E : Type 0} (spec : Parts) (scripts : List ℕ) (result : Result A E) (old new : SinkState) (code : ℕ) → code ≡ status_after result ANSWERED
    → PrintsFlights spec scripts result old new → PrintsAnswer (GivesFlights spec scripts) old new code
series_prints {A} {E} spec scripts result old new code same prints = rw same (record {
  status = ANSWERED;
  text = flights_text spec prints.outcomes;
  answer = inl (refl, record { outcomes = prints.outcomes; answers = prints.answers; whole = refl });
  read = λ is. absurd (omega (arith, is));
  written = λ is. absurd (omega (arith, is));
  taken = put_taken result ANSWERED (flights_text spec prints.outcomes) old new prints.prints;
})
