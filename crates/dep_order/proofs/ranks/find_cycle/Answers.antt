use Rattle.std.proofs.Common.{◌≡◌, ◌≢◌, ◌<◌, ◌≤◌, ◌+◌, ◌-◌, arith, sym, refl, ℕ, List, [], ◌∷◌, ◌++◌, drop, length, take, false}
use Rattle.std.proofs.lemmas.List.Quantifiers.{all_pairs_push}
use Rattle.std.proofs.lemmas.List.{length_push}
use Rattle.scram_types.specs.declared.ids.AppId.{AppId}
use Rattle.dep_order.specs.Timetables.{is_named}
use Rattle.dep_order.proofs.Turns.{closes}
use Rattle.dep_order.proofs.Walks.{count_free, free_push, free_start, not_named, turn_push}
use Rattle.dep_order.proofs.ranks.find_cycle.Goals as goal

new_here : (now items : List AppId) (from at : ℕ) → now ≡ items → from ≡ at → false ≡ is_named now from → is_named items at ≡ false
new_here now items from at same_items same_at e = rw (← same_items, ← same_at) (sym e)

fewer : (path : List AppId) (at : AppId) (count : ℕ) → count ≤ 8 → at.0 < count → is_named path at.0 ≡ false → count_free (path ++ at ∷ []) 8 + 1 ≡ count_free path 8
fewer path at count few there new = free_push path at 8 (omega arith) new

pub loop-path-init : goal.loop-path-init
loop-path-init c = record {
  turn = rw (c.new-path.ensures) tt;
  waiting = c.requires.waiting;
  differ = λ i j d less within. absurd (let none = rw (c.new-path.ensures) at within in omega arith);
  free = rw (c.new-path.ensures, free_start) refl;
}

pub push-requires : goal.push-requires
push-requires c =
    let less = fewer c.loop-path.path.items c.loop-path.at (length c.args.apps.now) c.requires.few c.loop-path.invariant.waiting.there
    (new_here c.as_slice.result.now c.loop-path.path.items c.from.result c.loop-path.at.0 c.as_slice.ensures.value c.from.ensures c.loop-path-test.ensures) in
    let room = c.loop-path.invariant.free in
    omega arith

pub loop-path-smaller : goal.loop-path-smaller
loop-path-smaller c =
    let less = fewer c.loop-path.path.items c.loop-path.at (length c.args.apps.now) c.requires.few c.loop-path.invariant.waiting.there
    (new_here c.as_slice.result.now c.loop-path.path.items c.from.result c.loop-path.at.0 c.as_slice.ensures.value c.from.ensures c.loop-path-test.ensures) in
    let measure : count_free c.push.new.self.items 8 < count_free c.loop-path.path.items 8 = rw (c.push.ensures.items) (omega arith) in
    measure

pub loop-path-preserved : goal.loop-path-preserved
loop-path-preserved c = record {
  turn = rw (c.push.ensures.items) (turn_push c.args.apps.now c.loop-path.path.items c.loop-path.at c.wait_of-at.result c.loop-path.invariant.turn c.wait_of-at.ensures.needs);
  waiting = c.wait_of-at.ensures.waiting;
  differ = rw (c.push.ensures.items) (all_pairs_push (λ (a b : AppId). a.0 ≢ b.0) c.loop-path.path.items c.loop-path.at c.loop-path.invariant.differ
      (not_named c.loop-path.path.items c.loop-path.at.0 (new_here c.as_slice.result.now c.loop-path.path.items c.from.result c.loop-path.at.0 c.as_slice.ensures.value c.from.ensures c.loop-path-test.ensures)));
  free = rw (c.push.ensures.items) (
      let less = fewer c.loop-path.path.items c.loop-path.at (length c.args.apps.now) c.requires.few c.loop-path.invariant.waiting.there
      (new_here c.as_slice.result.now c.loop-path.path.items c.from.result c.loop-path.at.0 c.as_slice.ensures.value c.from.ensures c.loop-path-test.ensures) in
      let long = length_push c.loop-path.path.items c.loop-path.at in
      let room = c.loop-path.invariant.free in
      omega arith);
}

pub returns : goal.returns
returns c =
    closes c.args.apps.now c.loop-path.path.items c.as_slice-path.result.now c.loop-path.at c.place_of.result c.place_of_least.result
    (take (length c.as_slice-path.result.now - c.place_of.result) (drop c.place_of.result c.as_slice-path.result.now)) c.rotated_to.result.items
    c.as_slice-path.ensures.value c.place_of.ensures.inside c.place_of.ensures.found refl c.place_of_least.ensures.inside c.place_of_least.ensures.least c.rotated_to.ensures
    c.loop-path.invariant.turn c.loop-path.invariant.differ
