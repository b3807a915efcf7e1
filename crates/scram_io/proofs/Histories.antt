-- Lemmas on the growth of the history over several reads.
use Rattle.std.proofs.Common.{[], ◌∷◌, ◌++◌, Option, Some, None, IfSome, append_assoc, append-nil, sym, ◌∙◌, ap, refl, arith}
use Rattle.scram_io.specs.Outside.{Agrees, FileMap, FilesState, Grew, History}

none_agree : (told : Option FileMap) → IfSome told (λ map. Agrees map [])
none_agree None = tt
none_agree (Some map) = tt

-- If no file is read, the history grows by the empty list.
pub grew_none : (files : FilesState) → Grew files files []
grew_none files = record { history = sym (append-nil files.history); known_map = refl; agrees = none_agree files.known_map; count = omega arith }

agrees_more : (map : FileMap) (a b : History) → Agrees map a → Agrees map b → Agrees map (a ++ b)
agrees_more map [] b first second = second
agrees_more map (read ∷ a) b first second = (first.0, agrees_more map a b first.1 second)

told_agrees : (told : Option FileMap) (a b : History) → IfSome told (λ map. Agrees map a) → IfSome told (λ map. Agrees map b) → IfSome told (λ map. Agrees map (a ++ b))
told_agrees None a b first second = tt
told_agrees (Some map) a b first second = agrees_more map a b first second

-- If the history grows by the reads `a` and then by the reads `b`, it grows by `a ++ b`.
pub grew_more : (old mid new : FilesState) (a b : History) → Grew old mid a → Grew mid new b → Grew old new (a ++ b)
grew_more old mid new a b first second =
    let later : IfSome old.known_map (λ map. Agrees map b) = rw first.known_map at second.agrees in
    record {
      history = second.history ∙ ap (λ (front : History). front ++ b) first.history ∙ append_assoc old.history a b;
      known_map = second.known_map ∙ first.known_map;
      agrees = told_agrees old.known_map a b first.agrees later;
      count = omega (arith, first.count, second.count);
    }
