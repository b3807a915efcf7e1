-- Lemmas on the changes and the values after two lists of turns in sequence, and on a walk that a further block
-- extends.
use Rattle.std.proofs.Common.{◌≡◌, refl, ap, sym, ◌∙◌, ℕ, suc, ◌+◌, add-one, subst, List, [], ◌∷◌, ◌++◌, replicate}
use Rattle.scram_types.specs.declared.scripts.Change.{Change}
use Rattle.mission_gen.specs.declared.walks.Walk.{Walk}
use Rattle.mission_gen.specs.Blocks.{next_random, random}
use Rattle.mission_gen.specs.Changes.{change_by, changes_by, values_after, values_by}
use Rattle.mission_gen.specs.Turns.{Turn, turns_in, turns_to}
use Rattle.mission_gen.specs.Walks.{WalkedBlock}

pub changes_more : (values : List ℕ) (xs ys : List Turn) →
    changes_by values (xs ++ ys) ≡ changes_by values xs ++ changes_by (values_after values xs) ys
changes_more values [] ys = refl
changes_more values (x ∷ xs) ys = ap (λ (changes : List Change). change_by values x ∷ changes) (changes_more (values_by values x) xs ys)

pub values_more : (values : List ℕ) (xs ys : List Turn) → values_after values (xs ++ ys) ≡ values_after (values_after values xs) ys
values_more values [] ys = refl
values_more values (x ∷ xs) ys = values_more (values_by values x) xs ys

-- The walk is the state of the generator after the blocks 1 to `k` of mission `n`.
pub record Walked (n k : ℕ) (walk : Walk) : Type 0 where
  pub random : walk.random ≡ random n k
  pub values : walk.values ≡ values_after (replicate 6 0) (turns_to n k)
  pub changes : walk.changes.items ≡ changes_by (replicate 6 0) (turns_to n k)

pub walked_more : (n k : ℕ) (before after : Walk) → Walked n k before → WalkedBlock (k + 1) before after → Walked n (k + 1) after
walked_more n k before after known walked =
    let block : WalkedBlock (suc k) before after = subst (λ (m : ℕ). WalkedBlock m before after) (add-one k) walked in
    let next : next_random before.random ≡ random n (suc k) = ap next_random known.random in
    rw (add-one k) (record {
      random = block.random ∙ next;
      values =
          block.values
          ∙ ap (λ (x : ℕ). values_after before.values (turns_in (suc k) x)) next
          ∙ ap (λ (values : List ℕ). values_after values (turns_in (suc k) (random n (suc k)))) known.values
          ∙ sym (values_more (replicate 6 0) (turns_to n k) (turns_in (suc k) (random n (suc k))));
      changes =
          block.changes
          ∙ ap (λ (x : ℕ). before.changes.items ++ changes_by before.values (turns_in (suc k) x)) next
          ∙ ap (λ (changes : List Change). changes ++ changes_by before.values (turns_in (suc k) (random n (suc k)))) known.changes
          ∙ ap (λ (values : List ℕ). changes_by (replicate 6 0) (turns_to n k) ++ changes_by values (turns_in (suc k) (random n (suc k)))) known.values
          ∙ sym (changes_more (replicate 6 0) (turns_to n k) (turns_in (suc k) (random n (suc k))));
    })
