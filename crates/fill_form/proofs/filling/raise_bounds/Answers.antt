use Rattle.std.proofs.Common.{◌≡◌, ◌<◌, ◌≤◌, ◌+◌, ℕ, List, [], ◌∷◌, add-one, ap, append_assoc, arith, drop, get_or, length, map, subst, sym, ◌++◌, ◌∙◌}
use Rattle.std.proofs.Math.Seq.{drop-cons}
use Rattle.std.proofs.lemmas.List.{append-nil, at_drop_all}
use Rattle.std.proofs.lemmas.Option.{slice_get-get_or}
use Rattle.scram_types.specs.Specification.{IsBound, IsSpec, Parts}
use Rattle.scram_types.specs.declared.specification.Bound.{Bound}
use Rattle.fill_form.specs.Filling.{raised}
use Rattle.fill_form.proofs.filling.raise_bounds.Goals as goal

bound_within : (spec : Parts) → IsSpec spec → (items : List Bound) → items ≡ spec.bounds → (k : ℕ) (d : Bound) → k < length items → IsBound spec.confs (get_or items k d)
bound_within spec sound items same k d low = sound.bounds k _ (rw (← same) (slice_get-get_or items k d low))

few_targets : (spec : Parts) → IsSpec spec → (bound : Bound) → IsBound spec.confs bound → bound.to.0 < 12
few_targets spec sound bound within = omega (arith, within.to, sound.confs_count.few)

pub raised-requires-clause-to : goal.raised-requires-clause-to
raised-requires-clause-to c =
    let bounds = c.items-bound-items.ensures ∙ ap (λ (spec : Parts). spec.bounds) c.spec.view_is in
    (bound_within c.args.spec.now (subst IsSpec c.spec.view_is c.spec.invariant) c.items-bound-items.result.now bounds c.loop-bound.bound-index _ c.loop-bound-test.true).to

pub raised-requires-clause-few : goal.raised-requires-clause-few
raised-requires-clause-few c =
    let sound = subst IsSpec c.spec.view_is c.spec.invariant in
    let bounds = c.items-bound-items.ensures ∙ ap (λ (spec : Parts). spec.bounds) c.spec.view_is in
    few_targets c.args.spec.now sound _ (bound_within c.args.spec.now sound c.items-bound-items.result.now bounds c.loop-bound.bound-index _ c.loop-bound-test.true)

one_raised : (spec : Parts) (bounds done : List Bound) (i : ℕ) (d : Bound) → i < length bounds → done ++ map (raised spec) (drop i bounds) ≡ map (raised spec) bounds
    → (done ++ raised spec (get_or bounds i d) ∷ []) ++ map (raised spec) (drop (i + 1) bounds) ≡ map (raised spec) bounds
one_raised spec bounds done i d low so_far = rw (add-one, append_assoc) (rw (drop-cons bounds i d low) at so_far)

pub loop-bound-preserved : goal.loop-bound-preserved
loop-bound-preserved c =
    let bounds = c.items-bound-items.ensures ∙ ap (λ (spec : Parts). spec.bounds) c.spec.view_is in
    let low : c.loop-bound.bound-index < length c.args.spec.now.bounds = rw (← bounds) c.loop-bound-test.true in
    rw (c.in_ok-push.ensures.items, c.raised.ensures, bounds) (one_raised c.args.spec.now c.args.spec.now.bounds c.loop-bound.bounds.items c.loop-bound.bound-index _ low c.loop-bound.invariant)

pub returns : goal.returns
returns c =
    let done = c.loop-bound.bounds.items in
    let bounds = c.items-bound-items.ensures ∙ ap (λ (spec : Parts). spec.bounds) c.spec.view_is in
    let count = ap length bounds in
    let past : length c.args.spec.now.bounds ≤ c.loop-bound.bound-index = omega arith in
    let none_left = at_drop_all (λ (left : List Bound). done ++ map (raised c.args.spec.now) left) c.args.spec.now.bounds c.loop-bound.bound-index past in
    sym (append-nil done) ∙ sym none_left ∙ c.loop-bound.invariant
