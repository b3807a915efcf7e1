use Rattle.std.proofs.Common.{◌≡◌, ℕ, suc, ◌-◌, true, false, refl}
use Rattle.fail_stop.specs.Flights.{Flight, is_committed, image_before, last_commit, commit_count, side, end_before, end_word_after, stores_in, stores_by}

module _ (m : Flight) (p f : ℕ) where
  pub last_yes : is_committed m p f ≡ true → last_commit m p (suc f) ≡ suc f
  unfolding last_commit
  last_yes c = rw c refl

  pub last_no : is_committed m p f ≡ false → last_commit m p (suc f) ≡ last_commit m p f
  unfolding last_commit
  last_no c = rw c refl

  pub side_yes : is_committed m p f ≡ true → side m p (suc f) ≡ 1 - side m p f
  unfolding side
  side_yes c = rw c refl

  pub side_no : is_committed m p f ≡ false → side m p (suc f) ≡ side m p f
  unfolding side
  side_no c = rw c refl

  pub count_yes : is_committed m p f ≡ true → commit_count m p (suc f) ≡ suc (commit_count m p f)
  unfolding commit_count
  count_yes c = rw c refl

  pub count_no : is_committed m p f ≡ false → commit_count m p (suc f) ≡ commit_count m p f
  unfolding commit_count
  count_no c = rw c refl

  pub img_yes : is_committed m p f ≡ true → image_before m p (suc f) ≡ m.draft p f
  unfolding image_before
  img_yes c = rw c refl

  pub img_no : is_committed m p f ≡ false → image_before m p (suc f) ≡ image_before m p f
  unfolding image_before
  img_no c = rw c refl

  pub end_up : m.up p f ≡ true → end_before m p (suc f) ≡ end_word_after f (m.halt p f)
  unfolding end_before
  end_up c = rw c refl

  pub end_down : m.up p f ≡ false → end_before m p (suc f) ≡ end_before m p f
  unfolding end_before
  end_down c = rw c refl

  pub commits_down : m.up p f ≡ false → is_committed m p f ≡ false
  unfolding is_committed
  commits_down c = rw c refl

  pub stores_down : m.up p f ≡ false → stores_in m p f ≡ 0
  unfolding stores_in
  stores_down c = rw c refl

  pub stores_up : m.up p f ≡ true → stores_in m p f ≡ stores_by m.width (m.halt p f)
  unfolding stores_in
  stores_up c = rw c refl
