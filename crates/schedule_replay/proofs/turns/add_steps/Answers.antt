use Rattle.std.proofs.Common.{ℕ, ◌∷◌, ◌++◌, [], Some, None, subst, sym}
use Rattle.bank_words.specs.declared.events.Event.TheVariants.{Look, Start, Store}
use Rattle.fail_stop.specs.Flights.{stores_by}
use Rattle.fail_stop.specs.ScriptFlights.{flight_of}
use Rattle.scram_types.specs.Lookups.{proc_id}
use Rattle.scram_types.specs.Searches.{listed_below}
use Rattle.schedule_replay.specs.Turns.{Adds, ending}
use Rattle.schedule_replay.proofs.Adding.{adds_then}
use Rattle.schedule_replay.proofs.turns.add_steps.Goals as goal

pub returns-in-None : goal.returns-in-None
returns-in-None c = λ script.
    let m = flight_of c.args.spec.now script in
    let rest = listed_below (λ (i : ℕ). Store (proc_id c.args.p.0) i) (stores_by m.width None) ++ ending m c.args.p.0 None in
    let looks = listed_below (λ (q : ℕ). Look (proc_id c.args.p.0) (proc_id q)) m.procs in
    let ended = c.add_all_stores.ensures m (sym c.image_words-width.ensures) in
    let looked : Adds c.add.new.list.items c.add_looks.new.list.items looks =
    subst (λ n. Adds c.add.new.list.items c.add_looks.new.list.items (listed_below (λ (q : ℕ). Look (proc_id c.args.p.0) (proc_id q)) n)) c.count_procs.ensures.value c.in_ok-add_looks.ensures in
    let after = adds_then c.add_all_stores.result c.add.new.list.items c.add_looks.new.list.items c.add_all_stores.new.list.items looks rest looked ended in
    rw c.in-None.is (adds_then c.add_all_stores.result c.args.list.now.items c.add.new.list.items c.add_all_stores.new.list.items (Start c.args.p ∷ []) (looks ++ rest) c.in_ok-add.ensures after)

pub returns-in-Some : goal.returns-in-Some
returns-in-Some c = λ script.
    let m = flight_of c.args.spec.now script in
    let rest = listed_below (λ (i : ℕ). Store (proc_id c.args.p.0) i) (stores_by m.width (Some c.in-Some.halt.step)) ++ ending m c.args.p.0 (Some c.in-Some.halt.step) in
    let looks = listed_below (λ (q : ℕ). Look (proc_id c.args.p.0) (proc_id q)) m.procs in
    let ended = c.add_until_halt.ensures m (sym c.image_words-width.ensures) in
    let looked : Adds c.add.new.list.items c.add_looks.new.list.items looks =
    subst (λ n. Adds c.add.new.list.items c.add_looks.new.list.items (listed_below (λ (q : ℕ). Look (proc_id c.args.p.0) (proc_id q)) n)) c.count_procs.ensures.value c.in_ok-add_looks.ensures in
    let after = adds_then c.add_until_halt.result c.add.new.list.items c.add_looks.new.list.items c.add_until_halt.new.list.items looks rest looked ended in
    rw c.in-Some.is (adds_then c.add_until_halt.result c.args.list.now.items c.add.new.list.items c.add_until_halt.new.list.items (Start c.args.p ∷ []) (looks ++ rest) c.in_ok-add.ensures after)
