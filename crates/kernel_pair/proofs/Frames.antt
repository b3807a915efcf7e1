-- After a processor has made a frame, its mark, end word and banks agree with its new place.
use Rattle.std.proofs.Common.{◌≡◌, ℕ, suc, ◌+◌, ◌-◌, ◌*◌, ◌%◌, ◌<◌, Bool, true, false, ◌&&◌, refl, sym, ap, subst, ◌∙◌, arith}
use Rattle.std.specs.Prelude.{Option, Some, None, nat_lt, nat_eq, if◌then◌else◌}
use Rattle.std.proofs.lemmas.Bool.Decides.{nat_tests}
use Rattle.fail_stop.specs.Flights.{Flight, Flies, word_in, is_committed, mark_before, end_before, end_word_after, laid, bank_before, reaches_mark, stores_in, stores_by}
use Rattle.fail_stop.specs.Events.{Place, At, Halted, after_frame}
use Rattle.fail_stop.specs.Kept.{mark_at, end_at, bank_at}
use Rattle.fail_stop.proofs.FrameSteps.{last_yes, last_no, side_yes, side_no, end_up, stores_up}
use Rattle.fail_stop.proofs.FrameFacts.{bank_suc, halted_still, Same}
use Rattle.fail_stop.proofs.Plans.{gate, is_less}
use Rattle.fail_stop.proofs.ProcessorEvents.{unflipped, made_none, bank_begin, side_of, some_same}
use Rattle.kernel_pair.specs.Pairs.{Processor, frame_made, frame_to_make, restart_past}
use Rattle.kernel_pair.specs.Kept.{IsProcessor, IsStanding, frames_past}

pub restart_past_is : (o : Option ℕ) (h f : ℕ) → restart_past h o ≡ Some f → (o ≡ Some f) × (h < f)
restart_past_is None h f e = cc
restart_past_is (Some r) h f e =
    let g = gate (nat_lt h r) (Some r) f e in
    let same : r ≡ f = cc (g.1) in
    (g.1, subst (λ (x : ℕ). h < x) same (is_less h r g.0))

pub restart_past_some : (o : Option ℕ) (h f : ℕ) → o ≡ Some f → h < f → restart_past h o ≡ Some f
restart_past_some None h f e l = cc
restart_past_some (Some r) h f e l = let same : r ≡ f = cc in let low : nat_lt h r ≡ true = grind (arith, nat_tests, same, l) in rw low e

-- Processor `p` is up in frame `f`, and its mark and banks are those at the beginning of the frame.
pub record Begun (m : Flight) (p f : ℕ) (x : Processor) : Type 0 where
  pub up : m.up p f ≡ true
  pub mark : x.mark ≡ mark_before m p f
  pub bank : (b i : ℕ) → b < 2 → i < m.width → x.bank b i ≡ bank_before m p f b i

begun_at : (m : Flight) (p f : ℕ) (place : Place) (x : Processor) → Flies m → IsStanding m p place → x.mark ≡ mark_at m p place
    → ((b i : ℕ) → b < 2 → i < m.width → x.bank b i ≡ bank_at m p place b i) → frame_to_make (m.restart p) place ≡ Some f → Begun m p f x
begun_at m p f (At g n) x y w mark bank e =
    let same : g ≡ f = cc in
    let z = w.fresh in record {
      up = subst (λ (a : ℕ). m.up p a ≡ true) same w.up;
      mark = mark ∙ unflipped m p g n (omega (arith, z)) ∙ ap (λ (a : ℕ). mark_before m p a) same;
      bank = λ b i l h. bank b i l h ∙ bank_begin m p g n b i (made_none m n (omega (arith, z))) ∙ ap (λ (a : ℕ). bank_before m p a b i) same;
    }
begun_at m p f (Halted h) x y d mark bank e =
    let r = restart_past_is (m.restart p) h f e in
    let same : Same m p (suc h) f = halted_still m p h d.step f y d.up d.halts r.1 (λ q i j. let e : q ≡ f = some_same q f (m.restart p) i r.0 in omega arith) in record {
      up = y.back p h d.step f d.up d.halts r.0 r.1;
      mark = mark ∙ sym (rw (same.lasts, same.sides) refl);
      bank = λ b i l g. bank b i l g ∙ sym (same.banks b i);
    }

pub begun : (m : Flight) (p f : ℕ) (x : Processor) → Flies m → IsProcessor m p x → frame_to_make (m.restart p) x.place ≡ Some f → Begun m p f x
begun m p f x y o e = begun_at m p f x.place x y o.place o.mark o.bank e

-- Lemmas on the place of a processor after frame `f`. The mark, the end word and the banks at this place are those
-- before the next frame.
expected_past : (m : Flight) (p f : ℕ) (o : Option ℕ) → Flies m → m.up p f ≡ true → f < m.frames → m.halt p f ≡ o → IsStanding m p (after_frame f o)
expected_past m p f None y u l e = record { fresh = refl; within = l; up = y.stays p f u e; done = end_up m p f u ∙ ap (λ (o : Option ℕ). end_word_after f o) e }
expected_past m p f (Some s) y u l e = record { step = s; up = u; halts = e }

pub past_after : (f : ℕ) (o : Option ℕ) → frames_past (after_frame f o) ≡ suc f
past_after f None = refl
past_after f (Some s) = refl

mark_past : (m : Flight) (p f : ℕ) (o : Option ℕ) → mark_at m p (after_frame f o) ≡ mark_before m p (suc f)
mark_past m p f None = unflipped m p (suc f) 0 (omega arith)
mark_past m p f (Some s) = refl

end_past : (m : Flight) (p f : ℕ) (o : Option ℕ) → end_at m p (after_frame f o) ≡ end_before m p (suc f)
end_past m p f None = refl
end_past m p f (Some s) = refl

bank_past : (m : Flight) (p f b i : ℕ) (o : Option ℕ) → bank_at m p (after_frame f o) b i ≡ bank_before m p (suc f) b i
bank_past m p f b i None = bank_begin m p (suc f) 0 b i (made_none m 0 (omega arith))
bank_past m p f b i (Some s) = refl

commits_so : (m : Flight) (p f : ℕ) (b : Bool) → m.up p f ≡ true → reaches_mark m.width (m.halt p f) ≡ b → is_committed m p f ≡ b
unfolding is_committed
commits_so m p f b u e = rw (u, e) refl

mark_made : (m : Flight) (p f mark : ℕ) (b : Bool) → is_committed m p f ≡ b → mark ≡ mark_before m p f
    → (if b then 2 * suc f + (1 - mark % 2) else mark) ≡ mark_before m p (suc f)
mark_made m p f mark true c e = rw (last_yes m p f c, side_yes m p f c, side_of m p f mark e) refl
mark_made m p f mark false c e = e ∙ sym (rw (last_no m p f c, side_no m p f c) refl)

bank_made : (m : Flight) (p f mark b i old : ℕ) → m.up p f ≡ true → mark ≡ mark_before m p f → old ≡ bank_before m p f b i
    → (if nat_eq b (1 - mark % 2) && nat_lt i (stores_by m.width (m.halt p f)) then word_in (m.draft p f) i else old) ≡ laid m p f (stores_in m p f) b i (bank_before m p f b i)
unfolding laid
bank_made m p f mark b i old u e o = rw (side_of m p f mark e, stores_up m p f u, o) refl

pub made_is : (m : Flight) (p f : ℕ) (x : Processor) → Flies m → f < m.frames → Begun m p f x → IsProcessor m p (frame_made m p f x)
made_is m p f x y l b = record {
  place = expected_past m p f (m.halt p f) y b.up l refl;
  mark = mark_made m p f x.mark (reaches_mark m.width (m.halt p f)) (commits_so m p f (reaches_mark m.width (m.halt p f)) b.up refl) b.mark ∙ sym (mark_past m p f (m.halt p f));
  end = sym (end_up m p f b.up) ∙ sym (end_past m p f (m.halt p f));
  bank = λ c i lc li. bank_made m p f x.mark c i (x.bank c i) b.up b.mark (b.bank c i lc li) ∙ sym (bank_suc m p f c i) ∙ sym (bank_past m p f c i (m.halt p f));
}
