use Rattle.std.proofs.Common.{◌≡◌, List, ℕ, [], ◌∷◌, ◌++◌, Bor, Option, Some, None, arith}
use Rattle.std.specs.Prelude.{MatchOption}
use Rattle.std.proofs.lemmas.Str.Pattern.{split_parts}
use Rattle.trace_text.specs.Pieces.{pieces_of}
use Rattle.document_explanations.proofs.Levels.{first_level, last_level, Lacks}
use Rattle.document_explanations.proofs.paths.split_level.Goals as goal

cut : (text : List ℕ) (result : Option (Bor (List ℕ) × Bor (List ℕ)))
    → MatchOption result (Lacks text) (λ x. (text ≡ x.0.now ++ 46 ∷ x.1.now) × Lacks x.0.now)
    → MatchOption result (pieces_of 46 text ≡ text ∷ []) (λ parts. pieces_of 46 text ≡ parts.0.now ∷ pieces_of 46 parts.1.now)
cut text None lacks = last_level text lacks
cut text (Some x) parts = first_level text x.0.now x.1.now parts.0 parts.1

pub returns-clause-pieces : goal.returns-clause-pieces
returns-clause-pieces c = cut c.args.levels.now c.split_once.result (split_parts 46 c.args.levels.now c.split_once.result c.split_once.ensures.cases (omega arith))
