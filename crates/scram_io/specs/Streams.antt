-- The effects on the known bytes of a stream when a whole stream is read or a whole buffer is written.
use Rattle.std.specs.Prelude.{◌≡◌, ℕ, ◌<◌, ◌≤◌, List, [], ◌∷◌, ◌++◌, length, Option, IfSome}
use Rattle.std.specs.Io.KnownBytes.{Appends, Consumes}
use Rattle.scram_io.specs.Outside.{History}

-- The stream lost at most `most` of its known bytes.
pub record ConsumesAtMost (old new : Option (List ℕ)) (most : ℕ) : Type 0 where
  pub lost : List ℕ
  pub consumed : Consumes old new lost
  pub few : length lost ≤ most

-- The known bytes of the stream grew by a prefix of these bytes.
pub record AppendsPrefix (old new : Option (List ℕ)) (bytes : List ℕ) : Type 0 where
  pub front : List ℕ
  pub rest : List ℕ
  pub parts : bytes ≡ front ++ rest
  pub gained : Appends old new front

-- More than `limit` bytes were read and noted under the name `name`. If the bytes of the stream are known, the bytes
-- read are a prefix of them.
pub record NotedLonger (old new : History) (name : List ℕ) (limit : ℕ) (known : Option (List ℕ)) : Type 0 where
  pub bytes : List ℕ
  pub noted : new ≡ old ++ (name, bytes) ∷ []
  pub longer : limit < length bytes
  pub first : IfSome known (λ all. (rest : List ℕ) × (all ≡ bytes ++ rest))
