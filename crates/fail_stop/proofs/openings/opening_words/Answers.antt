use Rattle.std.proofs.Common.{◌≡◌, ◌∙◌, ℕ, ◌+◌, List, [], ◌∷◌, ◌++◌, refl, arith, add-one}
use Rattle.scram_types.specs.Searches.{listed_below}
use Rattle.fail_stop.specs.Openings.{opening_at}
use Rattle.fail_stop.proofs.OpeningLists.{list_whole}
use Rattle.fail_stop.proofs.openings.opening_words.Goals as goal

listed_more : (value : ℕ → ℕ) (n x : ℕ) (xs ys : List ℕ) → xs ≡ listed_below value n → x ≡ value n → ys ≡ xs ++ x ∷ [] → ys ≡ listed_below value (n + 1)
listed_more value n x xs ys before is made = rw (made, before, is, add-one) refl

pub loop-n-preserved : goal.loop-n-preserved
loop-n-preserved c =
    listed_more (opening_at c.args.frames c.args.first.now c.args.sys.now.areas c.args.sys.now.keepers) c.loop-n.n c.opening_at.result c.loop-n.words.items c.push.new.self.items
    c.loop-n.invariant c.opening_at.ensures c.in_ok-push.ensures.items

pub returns : goal.returns
returns c = c.loop-n.invariant ∙ list_whole c.args.frames c.args.first.now c.args.sys.now.areas c.args.sys.now.keepers c.loop-n.n (omega arith)
