-- Each event of a processor preserves the invariant `Kept`.
use Rattle.std.proofs.Common.{◌≡◌, ℕ, suc, ◌+◌, ◌-◌, ◌*◌, ◌%◌, ◌<◌, ◌≤◌, true, false, ◌&&◌, refl, sym, ap, ◌∙◌, arith}
use Rattle.std.specs.Prelude.{Option, Some, None, min, nat_eq, if◌then◌else◌}
use Rattle.std.proofs.lemmas.Bool.Decides.{nat_tests}
use native.Mathlib.Decide.{dec_le}
use Rattle.fail_stop.specs.Flights.{Flight, Flies, word_in, is_committed, mark_before, last_commit, side, end_before, end_word_after, laid, bank_before, stores_in, stores_by}
use Rattle.bank_words.specs.declared.events.Event.TheVariants.{Start, Look, Store, Flip, Done, Halt}
use Rattle.scram_types.specs.Lookups.{proc_id}
use Rattle.fail_stop.specs.Events.{Place, At, Halted, Places, Word, MarkWord, EndWord, BankWord, Happens, halts_at}
use Rattle.fail_stop.specs.Kept.{Kept, Running, Stopped, last_step, mark_at, bank_at, stores_made}
use Rattle.fail_stop.proofs.FrameSteps.{last_yes, last_no, side_yes, side_no, end_up, stores_up}
use Rattle.fail_stop.proofs.FrameFacts.{side_le, laid_past, bank_suc, stores_commits, halted_still, Same}
use Rattle.fail_stop.proofs.Moves.{by_actor, foreign, nat_eq_self}

-- Lemmas on marks and banks during the steps of a frame.
pub unflipped : (m : Flight) (p f n : ℕ) → n ≤ m.procs + 1 + m.width → mark_at m p (At f n) ≡ mark_before m p f
unflipped m p f n h = grind (arith, nat_tests)

pub flipped : (m : Flight) (p f n : ℕ) → m.procs + 1 + m.width < n → mark_at m p (At f n) ≡ mark_before m p (suc f)
flipped m p f n h = grind (arith, nat_tests)

pub made_none : (m : Flight) (n : ℕ) → n ≤ m.procs + 1 → stores_made m n ≡ 0
made_none m n h = omega arith

pub made : (m : Flight) (n i : ℕ) → n ≡ m.procs + 1 + i → i ≤ m.width → stores_made m n ≡ i
made m n i e h = omega arith

pub made_all : (m : Flight) (n : ℕ) → m.procs + 1 + m.width ≤ n → stores_made m n ≡ m.width
made_all m n h = omega arith

pub bank_made : (m : Flight) (p f a b c i : ℕ) → stores_made m a ≡ stores_made m b → bank_at m p (At f a) c i ≡ bank_at m p (At f b) c i
bank_made m p f a b c i e = ap (λ (s : ℕ). laid m p f s c i (bank_before m p f c i)) e

odd_half : (a s : ℕ) → s ≤ 1 → (2 * a + s) % 2 ≡ s
odd_half a s h = omega arith

pub side_of : (m : Flight) (p f x : ℕ) → x ≡ mark_before m p f → x % 2 ≡ side m p f
side_of m p f x e = ap (λ (y : ℕ). y % 2) e ∙ odd_half (last_commit m p f) (side m p f) (side_le m p f)

laid_store : (m : Flight) (p f i c d old w : ℕ) → c < 2 → w ≡ laid m p f i c d old
    → (if (nat_eq (1 - side m p f) c && nat_eq i d) then word_in (m.draft p f) i else w) ≡ laid m p f (suc i) c d old
unfolding laid
laid_store m p f i c d old w h e = grind (arith, nat_tests)

-- If `n` steps are within a frame, the processor does not halt after them, and the frame does not end there, then
-- `n + 1` steps are within the frame.
within_more : (m : Flight) (n : ℕ) (o : Option ℕ) → n ≤ last_step m o → n < m.procs + 2 + m.width → halts_at m n o ≡ false → suc n ≤ last_step m o
within_more m n None l h b = omega arith
within_more m n (Some s) l h b = grind (arith, nat_tests)

pub on_step : (m : Flight) (k j p f n : ℕ) → 0 < n → n < m.procs + 2 + m.width → halts_at m n (m.halt p f) ≡ false → Running m k j p f n → Running m k j p f (suc n)
on_step m k j p f n z h b r = record {
  up = r.up;
  low = r.low;
  high = r.high;
  fresh = λ l. absurd (omega (arith, r.fresh l));
  within = within_more m n (m.halt p f) r.within h b;
  noted = r.noted;
  done = r.done;
}

later_not_in : (k f n : ℕ) → 0 < n → (k < f → n ≡ 0) → Dec (f ≤ k) → f ≤ k
later_not_in k f n z h (yes d) = d
later_not_in k f n z h (no d) = let e : n ≡ 0 = h (omega arith) in absurd (omega arith)

-- A processor that has made a step in frame `f` is not ahead of the kernel.
pub later_not : (k f n : ℕ) → 0 < n → (k < f → n ≡ 0) → f ≤ k
later_not k f n z h = later_not_in k f n z h (dec_le f k)

-- If a processor has made all its stores and does not halt at this step, then it commits the frame.
commits_at : (m : Flight) (p f n : ℕ) (o : Option ℕ) → m.halt p f ≡ o → m.up p f ≡ true → n ≡ m.procs + 1 + m.width → n ≤ last_step m o → halts_at m n o ≡ false → is_committed m p f ≡ true
unfolding is_committed
commits_at m p f n None e u c l b = rw (u, e) refl
commits_at m p f n (Some s) e u c l b = rw (u, e) (grind (arith, nat_tests))

no_halt : (m : Flight) (n : ℕ) (o : Option ℕ) → ((s : ℕ) → o ≡ Some s → s ≤ m.width + 1) → n ≡ m.procs + 2 + m.width → n ≤ last_step m o → halts_at m n o ≡ false → o ≡ None
no_halt m n None y c l b = refl
no_halt m n (Some s) y c l b = let small : s ≤ m.width + 1 = y s refl in absurd (grind (arith, nat_tests))

commits_done : (m : Flight) (p f : ℕ) → m.up p f ≡ true → m.halt p f ≡ None → is_committed m p f ≡ true
unfolding is_committed
commits_done m p f u e = rw (u, e) refl

cut : (m : Flight) (p f s : ℕ) → m.halt p f ≡ Some s → s ≤ m.width → is_committed m p f ≡ false
unfolding is_committed
cut m p f s e l = rw e (grind (arith, nat_tests))

kept_mark : (m : Flight) (p f : ℕ) → is_committed m p f ≡ false → mark_before m p (suc f) ≡ mark_before m p f
kept_mark m p f c = rw (last_no m p f c, side_no m p f c) refl

mark_halt : (m : Flight) (p f s n : ℕ) → m.halt p f ≡ Some s → n ≡ m.procs + 1 + s → Dec (s ≤ m.width) → mark_at m p (At f n) ≡ mark_before m p (suc f)
mark_halt m p f s n e c (yes d) = unflipped m p f n (omega arith) ∙ sym (kept_mark m p f (cut m p f s e d))
mark_halt m p f s n e c (no d) = flipped m p f n (omega arith)

end_now : (m : Flight) (p f s : ℕ) → m.up p f ≡ true → m.halt p f ≡ Some s → end_before m p (suc f) ≡ 2 * f + 1
end_now m p f s u e = end_up m p f u ∙ ap (λ (o : Option ℕ). end_word_after f o) e

end_done : (m : Flight) (p f : ℕ) → m.up p f ≡ true → m.halt p f ≡ None → end_before m p (suc f) ≡ 2 * suc f
end_done m p f u e = end_up m p f u ∙ ap (λ (o : Option ℕ). end_word_after f o) e

stores_now : (m : Flight) (p f s : ℕ) → m.up p f ≡ true → m.halt p f ≡ Some s → stores_in m p f ≡ min s m.width
stores_now m p f s u e = stores_up m p f u ∙ ap (λ (o : Option ℕ). stores_by m.width o) e

pub bank_end : (m : Flight) (p f n c i : ℕ) → stores_made m n ≡ stores_in m p f → bank_at m p (At f n) c i ≡ bank_before m p (suc f) c i
bank_end m p f n c i e = ap (λ (s : ℕ). laid m p f s c i (bank_before m p f c i)) e ∙ sym (bank_suc m p f c i)

pub bank_begin : (m : Flight) (p f n c i : ℕ) → stores_made m n ≡ 0 → bank_at m p (At f n) c i ≡ bank_before m p f c i
bank_begin m p f n c i e = ap (λ (s : ℕ). laid m p f s c i (bank_before m p f c i)) e ∙ laid_past m p f 0 c i (bank_before m p f c i) (omega arith)

done_place : (m : Flight) (k j p f n : ℕ) → Flies m → m.halt p f ≡ None → 0 < n → Running m k j p f n → Running m k j p (suc f) 0
done_place m k j p f n y e z r =
    let same : f ≤ k = later_not k f n z r.fresh in record {
      up = y.stays p f r.up e;
      low = omega (arith, r.low);
      high = omega arith;
      fresh = λ l. refl;
      within = omega arith;
      noted = λ l. omega (arith, r.low);
      done = λ l. end_done m p f r.up e;
    }

halt_place : (m : Flight) (k j p f n s : ℕ) → m.halt p f ≡ Some s → 0 < n → Running m k j p f n → Stopped m k j p f
halt_place m k j p f n s e z r =
    let same : f ≤ k = later_not k f n z r.fresh in record {
      step = s;
      up = r.up;
      halts = e;
      high = same;
      later = λ q i g. omega (arith, r.low);
      noted = λ l. absurd (omega (arith, r.noted l));
    }

made_cut : (m : Flight) (n s : ℕ) → n ≡ m.procs + 1 + s → stores_made m n ≡ min s m.width
made_cut m n s e = omega arith

limit_one : (m : Flight) (o : Option ℕ) → 1 ≤ last_step m o
limit_one m None = omega arith
limit_one m (Some s) = omega arith

pub some_same : (a b : ℕ) (o : Option ℕ) → o ≡ Some a → o ≡ Some b → a ≡ b
some_same a b o x y = cc

module _ (m : Flight) (at : Places) (words : Word → ℕ) (at2 : Places) (words2 : Word → ℕ) (p : ℕ) (k : Kept m at words) (l : p < m.procs) (f n : ℕ) (here : at.proc p ≡ At f n) (z : 0 < n) where
  pub look_keeps : (q : ℕ) → Happens m at words (Look (proc_id p) (proc_id q)) at2 words2 → halts_at m n (m.halt p f) ≡ false → n ≤ m.procs → Kept m at2 words2
  look_keeps q h b c = by_actor m at words (Look (proc_id p) (proc_id q)) at2 words2 p (At f n) (At f (suc n)) h k l here (λ r. refl) refl refl refl
      (λ w o. refl)
      (λ e. e ∙ unflipped m p f n (omega arith) ∙ sym (unflipped m p f (suc n) (omega arith)))
      (λ e. e)
      (λ c' i lc li e. e ∙ bank_made m p f n (suc n) c' i (made_none m n (omega arith) ∙ sym (made_none m (suc n) (omega arith))))
      (on_step m at.frame at.step p f n z (omega arith) b)

  pub store_keeps : (i : ℕ) → Happens m at words (Store (proc_id p) i) at2 words2 → halts_at m n (m.halt p f) ≡ false → n ≡ m.procs + 1 + i → i < m.width → Kept m at2 words2
  store_keeps i h b c d =
      let mark : words (MarkWord p) ≡ mark_before m p f = k.words_are (MarkWord p) l ∙ ap (λ (y : Place). mark_at m p y) here ∙ unflipped m p f n (omega arith) in
      let bank : words (MarkWord p) % 2 ≡ side m p f = side_of m p f (words (MarkWord p)) mark in
      by_actor m at words (Store (proc_id p) i) at2 words2 p (At f n) (At f (suc n)) h k l here (λ r. refl) refl refl refl
      (λ w o. foreign (BankWord p (1 - words (MarkWord p) % 2) i) w _ p words refl o)
      (λ e. e ∙ unflipped m p f n (omega arith) ∙ sym (unflipped m p f (suc n) (omega arith)))
      (λ e. e)
      (λ c' i' lc li e. rw (nat_eq_self p, here, bank, made m (suc n) (suc i) (omega arith) (omega arith)) (laid_store m p f i c' i' (bank_before m p f c' i') (words (BankWord p c' i')) lc (rw (made m n i c (omega arith)) at e)))
      (on_step m at.frame at.step p f n z (omega arith) b)

  pub flip_keeps : Happens m at words (Flip (proc_id p)) at2 words2 → halts_at m n (m.halt p f) ≡ false → n ≡ m.procs + 1 + m.width → Kept m at2 words2
  flip_keeps h b c =
      let r : Running m at.frame at.step p f n = rw here at (k.placed p l) in
      let done = commits_at m p f n (m.halt p f) refl r.up c r.within b in
      let mark : words (MarkWord p) ≡ mark_before m p f = k.words_are (MarkWord p) l ∙ ap (λ (y : Place). mark_at m p y) here ∙ unflipped m p f n (omega arith) in
      let bank : words (MarkWord p) % 2 ≡ side m p f = side_of m p f (words (MarkWord p)) mark in
      by_actor m at words (Flip (proc_id p)) at2 words2 p (At f n) (At f (suc n)) h k l here (λ r. refl) refl refl refl
      (λ w o. foreign (MarkWord p) w _ p words refl o)
      (λ e. rw (nat_eq_self p, here, bank) (sym (flipped m p f (suc n) (omega arith) ∙ rw (last_yes m p f done, side_yes m p f done) refl)))
      (λ e. e)
      (λ c' i lc li e. e ∙ bank_made m p f n (suc n) c' i (made_all m n (omega arith) ∙ sym (made_all m (suc n) (omega arith))))
      (on_step m at.frame at.step p f n z (omega arith) b)

  pub done_keeps : Flies m → Happens m at words (Done (proc_id p)) at2 words2 → halts_at m n (m.halt p f) ≡ false → n ≡ m.procs + 2 + m.width → Kept m at2 words2
  done_keeps y h b c =
      let r : Running m at.frame at.step p f n = rw here at (k.placed p l) in
      let none = no_halt m n (m.halt p f) (y.step p f) c r.within b in
      by_actor m at words (Done (proc_id p)) at2 words2 p (At f n) (At (suc f) 0) h k l here (λ r. refl) refl refl refl
      (λ w o. foreign (EndWord p) w _ p words refl o)
      (λ e. e ∙ flipped m p f n (omega arith) ∙ sym (unflipped m p (suc f) 0 (omega arith)))
      (λ e. rw (nat_eq_self p, here) (sym (end_done m p f r.up none)))
      (λ c' i lc li e. e ∙ bank_end m p f n c' i (made_all m n (omega arith) ∙ sym (stores_commits m p f (commits_done m p f r.up none))) ∙ sym (bank_begin m p (suc f) 0 c' i (made_none m 0 (omega arith))))
      (done_place m at.frame at.step p f n y none z)

  pub halt_keeps : (s : ℕ) → Happens m at words (Halt (proc_id p)) at2 words2 → m.halt p f ≡ Some s → n ≡ m.procs + 1 + s → Kept m at2 words2
  halt_keeps s h b c =
      let r : Running m at.frame at.step p f n = rw here at (k.placed p l) in
      by_actor m at words (Halt (proc_id p)) at2 words2 p (At f n) (Halted f) h k l here (λ r. refl) refl refl refl
      (λ w o. foreign (EndWord p) w _ p words refl o)
      (λ e. e ∙ mark_halt m p f s n b c (dec_le s m.width))
      (λ e. rw (nat_eq_self p, here) (sym (end_now m p f s r.up b)))
      (λ c' i lc li e. e ∙ bank_end m p f n c' i (made_cut m n s c ∙ sym (stores_now m p f s r.up b)))
      (halt_place m at.frame at.step p f n s b z)

module _ (m : Flight) (at : Places) (words : Word → ℕ) (at2 : Places) (words2 : Word → ℕ) (p : ℕ) (k : Kept m at words) (l : p < m.procs) (f : ℕ) (low : f ≤ at.frame) where
  first_place : Running m at.frame at.step p f 0 → Running m at.frame at.step p f 1
  first_place r = record { up = r.up; low = r.low; high = r.high; fresh = λ g. absurd (omega arith); within = limit_one m (m.halt p f); noted = r.noted; done = r.done }

  pub start_keeps : Happens m at words (Start (proc_id p)) at2 words2 → at.proc p ≡ At f 0 → Kept m at2 words2
  start_keeps h here = by_actor m at words (Start (proc_id p)) at2 words2 p (At f 0) (At f 1) h k l here (λ r. refl) refl refl refl
      (λ w o. refl)
      (λ e. e ∙ unflipped m p f 0 (omega arith) ∙ sym (unflipped m p f 1 (omega arith)))
      (λ e. e)
      (λ c' i lc li e. e ∙ bank_made m p f 0 1 c' i (made_none m 0 (omega arith) ∙ sym (made_none m 1 (omega arith))))
      first_place

  back_place : (h : ℕ) → Flies m → m.restart p ≡ Some f → h < f → Stopped m at.frame at.step p h → Running m at.frame at.step p f 1
  back_place h y r g s =
      let near : at.frame ≤ f = s.later f r g in record {
        up = y.back p h s.step f s.up s.halts r g;
        low = near;
        high = omega arith;
        fresh = λ b. absurd (omega arith);
        within = limit_one m (m.halt p f);
        noted = λ b. absurd (omega (arith, s.noted b f r g));
        done = λ b. absurd (omega arith);
      }

  pub back_keeps : (h : ℕ) → Flies m → Happens m at words (Start (proc_id p)) at2 words2 → at.proc p ≡ Halted h → m.restart p ≡ Some f → h < f → Kept m at2 words2
  back_keeps h y ha here r g =
      let s : Stopped m at.frame at.step p h = rw here at (k.placed p l) in
      let same : Same m p (suc h) f = halted_still m p h s.step f y s.up s.halts g (λ q i j. let e : q ≡ f = some_same q f (m.restart p) i r in omega arith) in
      by_actor m at words (Start (proc_id p)) at2 words2 p (Halted h) (At f 1) ha k l here (λ q. refl) (rw r refl) refl refl
      (λ w o. refl)
      (λ e. e ∙ sym (unflipped m p f 1 (omega arith) ∙ rw (same.lasts, same.sides) refl))
      (λ e. e ∙ sym same.ends)
      (λ c' i lc li e. e ∙ sym (bank_begin m p f 1 c' i (made_none m 1 (omega arith)) ∙ same.banks c' i))
      (back_place h y r g)
