use Rattle.std.proofs.Common.{◌≡◌, ◌∙◌, suc, ◌+◌, ◌-◌, ◌<◌, refl, sym, ap, subst, arith, List, length}
use Rattle.word_table.specs.declared.actors.Actor.TheVariants.{Runs}
use Rattle.word_table.specs.declared.seats.Seat.{Seat}
use Rattle.word_table.specs.Plays.{Sat}
use Rattle.word_table.specs.Rule.{opening_actors}
use Rattle.word_table.specs.Tables.{flight_in, mission_in}
use Rattle.word_table.proofs.Dealing.{split_allows}
use Rattle.word_table.proofs.Dealt.{AreDealt, dealt_is, first_given, given, long_one, one_dealt, one_left}
use Rattle.word_table.proofs.tables.WordTable.deal.Goals as goal

pub split_seat-inner-requires : goal.split_seat-inner-requires
split_seat-inner-requires c =
    let words = c.args.self.now in
    let n = length (mission_in words).spec.procs in
    let low : c.loop-p.p < length (mission_in words).spec.procs = omega (arith, c.loop-p-test.true, words.keeps.procs_are) in (
      c.loop-p.invariant.table ∙ c.requires.table,
      omega (arith, words.keeps.places),
      split_allows (flight_in words) (mission_in words) c.loop-p.rest.id c.loop-p.rest.me.0 (Runs c.loop-p.p 0 0) (opening_actors (suc c.loop-p.p) (n - suc c.loop-p.p)) (first_given (mission_in words) c.loop-p.rest.me c.loop-p.p n low c.loop-p.invariant.seat),
    )

pub invariant_of-push : goal.invariant_of-push
invariant_of-push c =
    let words = c.args.self.now in
    let n = length (mission_in words).spec.procs in
    let low : c.loop-p.p < length (mission_in words).spec.procs = omega (arith, c.loop-p-test.true, words.keeps.procs_are) in
    record {
      alone = given c.loop-p.rest.me.0 (Runs c.loop-p.p 0 0) (opening_actors (suc c.loop-p.p) (n - suc c.loop-p.p)) c.split_seat-inner.result.me (first_given (mission_in words) c.loop-p.rest.me c.loop-p.p n low c.loop-p.invariant.seat) c.split_seat-inner.ensures.4;
      empty = ap (λ (me : Sat). me.1) c.split_seat-inner.ensures.4;
      still = λ no. refl;
    }

pub loop-p-preserved : goal.loop-p-preserved
loop-p-preserved c =
    let words = c.args.self.now in
    let n = length (mission_in words).spec.procs in
    let low : c.loop-p.p < length (mission_in words).spec.procs = omega (arith, c.loop-p-test.true, words.keeps.procs_are) in
    let next : c.loop-p.p + 1 ≡ suc c.loop-p.p = omega arith in
    let mission = ap (λ (me : Sat). me.0.mission) c.split_seat-inner.ensures.4 ∙ ap (λ (me : Sat). me.0.mission) c.loop-p.invariant.seat in
    record {
      table = c.split_seat-inner.ensures.0 ∙ c.loop-p.invariant.table;
      seat = one_left (mission_in words) c.loop-p.rest.me c.split_seat-inner.new.seat.me c.loop-p.p (c.loop-p.p + 1) n low next c.loop-p.invariant.seat c.split_seat-inner.ensures.2;
      count = ap (λ (l : List Seat). length l) c.in_ok-push.ensures.items ∙ long_one c.loop-p.seats.items _ ∙ ap (λ k. k + 1) c.loop-p.invariant.count;
      dealt =
          subst (λ (l : List Seat). AreDealt words l) (sym c.in_ok-push.ensures.items)
          (one_dealt words c.loop-p.seats.items _ c.loop-p.invariant.dealt (dealt_is words _ c.requires.holds (c.split_seat-inner.ensures.3 ∙ c.loop-p.invariant.table ∙ c.requires.table) mission low refl) (sym c.loop-p.invariant.count) refl);
    }
