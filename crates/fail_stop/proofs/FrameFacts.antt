-- Lemmas on the commits, banks, marks, end words and images that are defined by recursion over frames.
use Rattle.std.proofs.Common.{◌≡◌, ℕ, zero, suc, ◌+◌, ◌-◌, ◌*◌, ◌%◌, ◌<◌, ◌≤◌, Bool, true, false, refl, ap, subst, ◌∙◌, arith}
use Rattle.std.specs.Prelude.{Option, Some, None}
use Rattle.std.proofs.lemmas.Bool.Decides.{nat_tests}
use native.Mathlib.Decide.{dec_le}
use Rattle.fail_stop.specs.Flights.{Flight, Flies, is_committed, image_before, last_commit, commit_count, side, end_before, end_word_after, stores_in, stores_by, reaches_mark, laid, bank_before, word_in, back_by}
use Rattle.fail_stop.proofs.FrameSteps.{last_yes, last_no, side_yes, side_no, count_yes, count_no, img_yes, img_no, end_up, end_down, commits_down, stores_down, stores_up}

side_le_next : (m : Flight) (p f : ℕ) (b : Bool) → is_committed m p f ≡ b → side m p f ≤ 1 → side m p (suc f) ≤ 1
side_le_next m p f true c h = rw (side_yes m p f c) (omega arith)
side_le_next m p f false c h = rw (side_no m p f c) h

pub side_le : (m : Flight) (p f : ℕ) → side m p f ≤ 1
unfolding side
side_le m p zero = omega arith
side_le m p (suc f) = side_le_next m p f (is_committed m p f) refl (side_le m p f)

last_le_next : (m : Flight) (p f : ℕ) (b : Bool) → is_committed m p f ≡ b → last_commit m p f ≤ f → last_commit m p (suc f) ≤ suc f
last_le_next m p f true c h = rw (last_yes m p f c) (omega arith)
last_le_next m p f false c h = rw (last_no m p f c) (omega arith)

pub last_le : (m : Flight) (p f : ℕ) → last_commit m p f ≤ f
unfolding last_commit
last_le m p zero = omega arith
last_le m p (suc f) = last_le_next m p f (is_committed m p f) refl (last_le m p f)

side_count_next : (m : Flight) (p f : ℕ) (b : Bool) → is_committed m p f ≡ b → side m p f ≡ commit_count m p f % 2 → side m p (suc f) ≡ commit_count m p (suc f) % 2
side_count_next m p f true c h = rw (side_yes m p f c, count_yes m p f c) (omega arith)
side_count_next m p f false c h = rw (side_no m p f c, count_no m p f c) h

-- The number of the marked bank is the parity of the number of commits.
pub side_count : (m : Flight) (p f : ℕ) → side m p f ≡ commit_count m p f % 2
unfolding side commit_count
side_count m p zero = refl
side_count m p (suc f) = side_count_next m p f (is_committed m p f) refl (side_count m p f)

img_last_next : (m : Flight) (p f : ℕ) (b : Bool) → is_committed m p f ≡ b → image_before m p f ≡ image_before m p (last_commit m p f) → image_before m p (suc f) ≡ image_before m p (last_commit m p (suc f))
img_last_next m p f true c h = rw (last_yes m p f c) refl
img_last_next m p f false c h = rw (img_no m p f c, last_no m p f c) h

-- The image of a processor does not change after its last committed frame.
pub img_last : (m : Flight) (p f : ℕ) → image_before m p f ≡ image_before m p (last_commit m p f)
unfolding last_commit
img_last m p zero = refl
img_last m p (suc f) = img_last_next m p f (is_committed m p f) refl (img_last m p f)

-- The stores of a frame write the draft to the bank that is not marked.
pub laid_new : (m : Flight) (p f s b i old : ℕ) → b ≡ 1 - side m p f → i < s → laid m p f s b i old ≡ word_in (m.draft p f) i
unfolding laid
laid_new m p f s b i old e h = grind (arith, nat_tests)

pub laid_side : (m : Flight) (p f s b i old : ℕ) → b ≡ side m p f → laid m p f s b i old ≡ old
unfolding laid
laid_side m p f s b i old e = grind (arith, nat_tests, side_le m p f)

pub laid_past : (m : Flight) (p f s b i old : ℕ) → s ≤ i → laid m p f s b i old ≡ old
unfolding laid
laid_past m p f s b i old h = grind (arith, nat_tests)

pub bank_down : (m : Flight) (p f b i : ℕ) → m.up p f ≡ false → bank_before m p (suc f) b i ≡ bank_before m p f b i
unfolding bank_before
bank_down m p f b i d = rw (stores_down m p f d) (laid_past m p f 0 b i (bank_before m p f b i) (omega arith))

pub bank_suc : (m : Flight) (p f b i : ℕ) → bank_before m p (suc f) b i ≡ laid m p f (stores_in m p f) b i (bank_before m p f b i)
unfolding bank_before
bank_suc m p f b i = refl

stores_of_commit : (width : ℕ) (h : Option ℕ) → reaches_mark width h ≡ true → stores_by width h ≡ width
stores_of_commit width None c = refl
stores_of_commit width (Some s) c = grind (arith, nat_tests)

stores_commits_at : (m : Flight) (p f : ℕ) (u : Bool) → m.up p f ≡ u → is_committed m p f ≡ true → stores_in m p f ≡ m.width
unfolding is_committed
stores_commits_at m p f true e c = stores_up m p f e ∙ stores_of_commit m.width (m.halt p f) (rw e at c)
stores_commits_at m p f false e c = cc (commits_down m p f e)

pub stores_commits : (m : Flight) (p f : ℕ) → is_committed m p f ≡ true → stores_in m p f ≡ m.width
stores_commits m p f c = stores_commits_at m p f (m.up p f) refl c

bank_side_next : (m : Flight) (p f i : ℕ) (b : Bool) → is_committed m p f ≡ b → i < m.width → bank_before m p f (side m p f) i ≡ word_in (image_before m p f) i
    → bank_before m p (suc f) (side m p (suc f)) i ≡ word_in (image_before m p (suc f)) i
bank_side_next m p f i true c h ih =
    rw (bank_suc m p f (side m p (suc f)) i, img_yes m p f c, stores_commits m p f c) (laid_new m p f m.width (side m p (suc f)) i _ (side_yes m p f c) h)
bank_side_next m p f i false c h ih =
    rw (bank_suc m p f (side m p (suc f)) i, img_no m p f c) (laid_side m p f (stores_in m p f) (side m p (suc f)) i _ (side_no m p f c) ∙ ap (λ (x : ℕ). bank_before m p f x i) (side_no m p f c) ∙ ih)

-- The marked bank holds the processor's image.
pub bank_side : (m : Flight) (p f i : ℕ) → i < m.width → bank_before m p f (side m p f) i ≡ word_in (image_before m p f) i
unfolding bank_before side image_before
bank_side m p zero i h = refl
bank_side m p (suc f) i h = bank_side_next m p f i (is_committed m p f) refl h (bank_side m p f i h)

-- Processor `p` has the same last commit, marked bank, end word, image and bank words at frames `a` and `b`.
pub record Same (m : Flight) (p a b : ℕ) : Type 0 where
  pub lasts : last_commit m p b ≡ last_commit m p a
  pub sides : side m p b ≡ side m p a
  pub ends : end_before m p b ≡ end_before m p a
  pub imgs : image_before m p b ≡ image_before m p a
  pub banks : (c i : ℕ) → bank_before m p b c i ≡ bank_before m p a c i

same_refl : (m : Flight) (p a : ℕ) → Same m p a a
same_refl m p a = record { lasts = refl; sides = refl; ends = refl; imgs = refl; banks = λ c i. refl }

one_more : (m : Flight) (p a b : ℕ) → m.up p b ≡ false → Same m p a b → Same m p a (suc b)
one_more m p a b d s = let n = commits_down m p b d in record {
  lasts = last_no m p b n ∙ s.lasts;
  sides = side_no m p b n ∙ s.sides;
  ends = end_down m p b d ∙ s.ends;
  imgs = img_no m p b n ∙ s.imgs;
  banks = λ c i. bank_down m p b c i d ∙ s.banks c i;
}

still_next : (m : Flight) (p a b : ℕ) → ((g : ℕ) → a ≤ g → g < suc b → m.up p g ≡ false) → (a ≤ b → Same m p a b) → a ≤ suc b → Dec (a ≤ b) → Same m p a (suc b)
still_next m p a b q ih h (yes d) = one_more m p a b (q b d (omega arith)) (ih d)
still_next m p a b q ih h (no d) = let e : a ≡ suc b = omega arith in subst (λ (x : ℕ). Same m p a x) e (same_refl m p a)

pub still : (m : Flight) (p a b : ℕ) → a ≤ b → ((g : ℕ) → a ≤ g → g < b → m.up p g ≡ false) → Same m p a b
still m p a zero h q = let e : a ≡ 0 = omega arith in subst (λ (x : ℕ). Same m p a x) e (same_refl m p a)
still m p a (suc b) h q = still_next m p a b q (λ d. still m p a b d (λ g l u. q g l (omega arith))) h (dec_le a b)

back_none : (o : Option ℕ) (h g : ℕ) → ((r : ℕ) → o ≡ Some r → h < r → g < r) → back_by o h g ≡ false
back_none None h g e = refl
back_none (Some s) h g e = let late : h < s → g < s = e s refl in grind (arith, nat_tests)

-- If a processor halts in frame `h` and does not restart before frame `b`, its commits, banks, end words and images
-- do not change after the halt until frame `b`.
pub halted_still : (m : Flight) (p h s b : ℕ) → Flies m → m.up p h ≡ true → m.halt p h ≡ Some s → h < b → ((r : ℕ) → m.restart p ≡ Some r → h < r → b ≤ r) → Same m p (suc h) b
halted_still m p h s b y u e l q = still m p (suc h) b (omega arith) (λ g lo hi. y.gone p h s g u e (omega arith) (back_none (m.restart p) h g (λ r i j. let k : b ≤ r = q r i j in omega arith)))

-- Lemmas on end words: bounds, and the halts that odd end words record.
end_word_le : (f : ℕ) (o : Option ℕ) → end_word_after f o ≤ 2 * suc f
end_word_le f None = omega arith
end_word_le f (Some s) = omega arith

end_le_next : (m : Flight) (p f : ℕ) (u : Bool) → m.up p f ≡ u → end_before m p f ≤ 2 * f → end_before m p (suc f) ≤ 2 * suc f
end_le_next m p f true e h = rw (end_up m p f e) (end_word_le f (m.halt p f))
end_le_next m p f false e h = rw (end_down m p f e) (omega arith)

pub end_le : (m : Flight) (p f : ℕ) → end_before m p f ≤ 2 * f
unfolding end_before
end_le m p zero = omega arith
end_le m p (suc f) = end_le_next m p f (m.up p f) refl (end_le m p f)

pub record From (m : Flight) (p f h : ℕ) : Type 0 where
  pub step : ℕ
  pub low : h < f
  pub up : m.up p h ≡ true
  pub halts : m.halt p h ≡ Some step

from_in : (m : Flight) (p f h : ℕ) (o : Option ℕ) → m.halt p f ≡ o → m.up p f ≡ true → end_word_after f o ≡ 2 * h + 1 → From m p (suc f) h
from_in m p f h None o u e = absurd (omega arith)
from_in m p f h (Some s) o u e = let same : f ≡ h = omega arith in record {
  step = s;
  low = omega arith;
  up = rw same at u;
  halts = rw same at o;
}

from_next : (m : Flight) (p f h : ℕ) (u : Bool) → m.up p f ≡ u → (end_before m p f ≡ 2 * h + 1 → From m p f h) → end_before m p (suc f) ≡ 2 * h + 1 → From m p (suc f) h
from_next m p f h true u ih e = from_in m p f h (m.halt p f) refl u (rw (end_up m p f u) at e)
from_next m p f h false u ih e = let r : From m p f h = ih (rw (end_down m p f u) at e) in record { step = r.step; low = omega arith; up = r.up; halts = r.halts }

pub end_from : (m : Flight) (p f h : ℕ) → end_before m p f ≡ 2 * h + 1 → From m p f h
unfolding end_before
end_from m p zero h e = absurd (omega arith)
end_from m p (suc f) h e = from_next m p f h (m.up p f) refl (end_from m p f h) e

-- If a processor is up in frame `f` after a halt in frame `h`, then its restart comes after that halt and no later
-- than frame `f`.
back_found : (m : Flight) (p f h : ℕ) (b : Bool) → back_by (m.restart p) h f ≡ b → Flies m → m.up p f ≡ true → From m p f h → b ≡ true
back_found m p f h true e y u r = refl
back_found m p f h false e y u r = let d : m.up p f ≡ false = y.gone p h r.step f r.up r.halts r.low e in cc

pub end_back : (m : Flight) (p f h : ℕ) → Flies m → m.up p f ≡ true → end_before m p f ≡ 2 * h + 1 → back_by (m.restart p) h f ≡ true
end_back m p f h y u e = back_found m p f h (back_by (m.restart p) h f) refl y u (end_from m p f h e)
