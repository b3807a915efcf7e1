-- What holds of each of the six kinds holds of every number of a kind.
use Rattle.std.proofs.Common.{ℕ, ◌<◌, below_more, below_none}

pub each_kind : (P : ℕ → Type 0) → P 0 → P 1 → P 2 → P 3 → P 4 → P 5 → (kind : ℕ) → kind < 6 → P kind
each_kind P a b c d e f =
    below_more P 5 (below_more P 4 (below_more P 3 (below_more P 2 (below_more P 1 (below_more P 0 (below_none P) a) b) c) d) e) f
