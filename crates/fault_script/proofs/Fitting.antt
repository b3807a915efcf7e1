-- The script that is read from a document fits the specification.
use Rattle.std.proofs.Common.{◌≡◌, ◌≤◌, ◌<◌, ◌+◌, ◌==◌, ℕ, suc, true, ◌&&◌, List, [], ◌∷◌, ◌++◌, length, arith, refl, ap, sym, ◌∙◌, subst, inl, inr, nat_lt, length-append}
use Rattle.std.specs.Prelude.{Option, Some, None, Ok, Err, Result, slice_get, nat_le, not, option_map, codes, IfOk}
use Rattle.std.specs.List.{list_any}
use Rattle.std.proofs.lemmas.Bool.{and_parts, not-true, or_cases}
use Rattle.std.proofs.lemmas.Bool.Decides.{nat_tests}
use Rattle.std.proofs.lemmas.Option.{option_and_then_some, same_Some}
use Rattle.serde_json.specs.Data.{Data, Items, item, no_items}
use Rattle.serde_json.specs.Events.{items_len}
use Rattle.scram_types.specs.declared.limits.TheConstants.{MAX_CHANGES, MAX_FRAMES, MAX_SCRIPT_BYTES}
use Rattle.scram_doc.specs.declared.fault.DocError.{DocError}
use Rattle.scram_doc.specs.declared.fault.DocFault.{DocFault}
use Rattle.scram_doc.specs.Lists.{elements_at, elements_from}
use Rattle.scram_doc.specs.Documents.{parsed}
use Rattle.scram_doc.specs.Faults.{Answers}
use Rattle.scram_doc.specs.Members.{exactly_three_at, exactly_two_at}
use Rattle.scram_doc.specs.Values.{list_at, text_at, whole_at}
use Rattle.scram_doc.specs.Paths.{item_path, member_path}
use Rattle.scram_types.specs.declared.ids.FactorId.{FactorId}
use Rattle.scram_types.specs.declared.ids.ProcId.{ProcId}
use Rattle.scram_types.specs.declared.scripts.Change.{Change}
use Rattle.scram_types.specs.declared.scripts.HaltAt.{HaltAt}
use Rattle.scram_types.specs.declared.scripts.RestartAt.{RestartAt}
use Rattle.scram_types.specs.declared.specification.Factor.{Factor}
use Rattle.scram_types.specs.declared.specification.Proc.{Proc}
use Rattle.scram_types.specs.Scripts.{ScriptParts}
use Rattle.scram_types.specs.Specification.{Each, Parts}
use Rattle.fault_script.specs.declared.rule.TheConstants.{OUT_OF_ORDER, WRONG_RESTART}
use Rattle.fault_script.specs.declared.version.Version.{Version}
use Rattle.fault_script.specs.declared.version.Version.TheVariants.{First, Second}
use Rattle.fault_script.specs.Fits.{Before, ChangeBefore, EachLater, EachNext, Fits, HaltBefore, HaltsWellBefore, IsChange, IsHalt, IsRestart, RestartBefore}
use Rattle.scram_types.specs.Lookups.{number_named, proc_id, value_named}
use Rattle.fault_script.specs.Orders.{change_after, change_follows, comes_after, halt_after, halt_follows, is_halt_before, last_of, restart_after, restart_follows}
use Rattle.fault_script.specs.Reading.{ScriptMembers, change_values, find_members, find_value, halt_values, check, check_halts, make_change, make_halt, make_restart, make_script, read_change, read_changes, read_frames, read_halt, read_halts, read_named_factor, read_named_proc, read_named_value, read_next_change, read_next_halt, read_next_restart, read_restart, read_restarts, read_scram, read_values, restart_values, script_in, script_of}
use Rattle.fault_script.specs.Times.{is_halt_of, is_restart_of, words}
use Rattle.fault_script.specs.Versions.{halts_limit, version_of}
use Rattle.fault_script.proofs.Alternation.{Alternate, alternate_none, halts_alternate}
use Rattle.fault_script.proofs.Ends.{each_later_end, each_later_none, each_next_end, each_next_none, each_none}
use Rattle.fault_script.proofs.Taken.{chain_ok, if_ok, kept_ok, list_at_ok, none_passes, or_broken_ok, number_from_within, some_passes, whole_at_ok}
use Rattle.scram_types.proofs.Items.{each_end}

id_within : (n : ℕ) (o : Option ℕ) (p : ProcId) → ((k : ℕ) → o ≡ Some k → k < 0 + n) → option_map proc_id o ≡ Some p → p.0 < n
id_within n (Some k) p within e = let same : k ≡ p.0 = ap (λ (q : ProcId). q.0) (same_Some (proc_id k) p e) in let less = within k refl in omega (arith, less, same)
id_within n None p within e = absurd cc

proc_at_ok : (spec : Parts) (at : List ℕ) (d : Data) (p : ProcId) → read_named_proc spec at d ≡ Ok p → p.0 < length spec.procs
proc_at_ok spec at d p e = chain_ok (text_at at d) _ p e (λ text _ found.
    id_within (length spec.procs) (number_named (λ (proc : Proc). proc.name) spec.procs text) p
    (λ k there. number_from_within (λ (proc : Proc). proc.name) text 0 k spec.procs there) (or_broken_ok _ at _ p found))

make_is_change : (spec : Parts) (frames frame : ℕ) (x : FactorId) (value : ℕ) (text : List ℕ) → 1 ≤ frame → frame < frames → find_value spec x text ≡ Some value
    → IsChange spec frames (make_change frame x value)
make_is_change spec frames frame x value text low high e =
    option_and_then_some (λ (factor : Factor). value_named factor text) (slice_get spec.factors x.0) value e
    (λ factor there found.
    let within = number_from_within (λ (name : List ℕ). name) text 0 value factor.values found in
    record { least = low; most = high; factor = factor; there = there; value = omega (arith, within) })

change_values_ok : (spec : Parts) (frames : ℕ) (at : List ℕ) (df dx dv : Data) (c : Change) → change_values spec frames at df dx dv ≡ Ok c → IsChange spec frames c
change_values_ok spec frames at df dx dv c e =
    chain_ok (whole_at 1 frames (member_path at (codes "frame")) df) _ c e (λ frame is_frame e1.
    chain_ok (read_named_factor spec (member_path at (codes "factor")) dx) _ c e1 (λ x is_factor e2.
    chain_ok (read_named_value spec x (member_path at (codes "value")) dv) _ c e2 (λ value is_value same.
    chain_ok (text_at (member_path at (codes "value")) dv) _ value is_value (λ text _ found.
    let range = whole_at_ok 1 frames _ df frame is_frame in
    let known = or_broken_ok _ _ _ value found in
    let is : make_change frame x value ≡ c = cc in
    subst (IsChange spec frames) is (make_is_change spec frames frame x value text range.low range.high known)))))

change_at_ok : (spec : Parts) (frames : ℕ) (at : List ℕ) (d : Data) (c : Change) → read_change spec frames at d ≡ Ok c → IsChange spec frames c
change_at_ok spec frames at d c e =
    chain_ok (exactly_three_at (codes "frame") (codes "factor") (codes "value") at d) _ c e (λ m _ rest. change_values_ok spec frames at m.0 m.1 m.2 c rest)

comes_after_ok : (a b c d : ℕ) → comes_after a b c d ≡ true → Before a b c d
comes_after_ok a b c d e = elim (or_cases (nat_lt a c) (a == c && nat_lt b d) e) [
  | inl less ↦ inl (grind (arith, nat_tests, less))
  | inr both ↦ let parts = and_parts (a == c) (nat_lt b d) both in inr (grind (arith, nat_tests, parts.0), grind (arith, nat_tests, parts.1))
]

pub record GoodChanges (spec : Parts) (frames : ℕ) (changes : List Change) : Type 0 where
  pub each : Each (IsChange spec frames) changes
  pub ordered : EachNext ChangeBefore changes

good_changes_end : (spec : Parts) (frames : ℕ) (before : List Change) (c : Change) → GoodChanges spec frames before → IsChange spec frames c → change_follows before c ≡ true
    → GoodChanges spec frames (before ++ c ∷ [])
good_changes_end spec frames before c good is follows = record {
  each = each_end (IsChange spec frames) before c good.each is;
  ordered = each_next_end ChangeBefore before c good.ordered
      (λ l last. comes_after_ok l.frame l.factor.0 c.frame c.factor.0 (ap (λ o. change_after o c) (sym last) ∙ follows));
}

pub record Read {A : Type 0} (Good : List A → Type 0) (count : ℕ) (xs : List A) : Type 0 where
  pub good : Good xs
  pub count_is : length xs ≡ count

-- A list that was read has the property `Good` and at most `most` items.
pub record Listed {A : Type 0} (Good : List A → Type 0) (most : ℕ) (xs : List A) : Type 0 where
  pub good : Good xs
  pub few : length xs ≤ most

-- If each element that is read keeps a property of the elements before it, the whole list has the property.
module _ {A : Type 0} (Good : List A → Type 0) (read : List ℕ → List A → Data → Result A DocFault)
    (more : (at : List ℕ) (before : List A) (x : A) (d : Data) → Good before → read at before d ≡ Ok x → Good (before ++ x ∷ [])) where
  elements_ok : (at : List ℕ) (i : ℕ) (before xs : List A) (ds : Items) → Good before → elements_from read at i before ds ≡ Ok xs → Read Good (length before + items_len ds) xs
  elements_ok at i before xs no_items good e =
      let same : before ≡ xs = cc in let long = ap length same in
      record { good = subst Good same good; count_is = omega (arith, long) }
  elements_ok at i before xs (item d ds) good e =
      chain_ok (read (item_path at i) before d) _ xs e (λ x is rest.
      let next = elements_ok at (suc i) (before ++ x ∷ []) xs ds (more (item_path at i) before x d good is) rest in
      let long = length-append before (x ∷ []) in let count = next.count_is in
      record { good = next.good; count_is = omega (arith, long, count) })

  list_ok : (most : ℕ) (at : List ℕ) (d : Data) (xs : List A) → Good [] → elements_at read 0 most at d ≡ Ok xs → Listed Good most xs
  list_ok most at d xs none e = chain_ok (list_at 0 most at d) _ xs e (λ ds is rest.
      let short = list_at_ok 0 most at d ds is in
      let all = elements_ok at 0 [] xs ds none rest in
      let count = all.count_is in
      record { good = all.good; few = omega (arith, short, count) })

next_change_ok : (spec : Parts) (frames : ℕ) (at : List ℕ) (before : List Change) (c : Change) (d : Data) → GoodChanges spec frames before
    → read_next_change spec frames at before d ≡ Ok c → GoodChanges spec frames (before ++ c ∷ [])
next_change_ok spec frames at before c d good e =
    chain_ok (read_change spec frames at d) _ c e (λ one is e1.
    chain_ok (check (change_follows before one) OUT_OF_ORDER at) _ c e1 (λ u kept same.
    let one_is : one ≡ c = cc in
    subst (λ (x : Change). GoodChanges spec frames (before ++ x ∷ [])) one_is
    (good_changes_end spec frames before one good (change_at_ok spec frames at d one is) (kept_ok _ _ _ u kept))))

make_is_halt : (spec : Parts) (frames : ℕ) (at : List ℕ) (dp df ds : Data) (h : HaltAt) → halt_values spec frames at dp df ds ≡ Ok h → IsHalt spec frames h
make_is_halt spec frames at dp df ds h e =
    chain_ok (read_named_proc spec (member_path at (codes "processor")) dp) _ h e (λ p is_proc e1.
    chain_ok (whole_at 0 frames (member_path at (codes "frame")) df) _ h e1 (λ frame is_frame e2.
    chain_ok (whole_at 0 (words spec + 2) (member_path at (codes "step")) ds) _ h e2 (λ step is_step same.
    let within = proc_at_ok spec _ dp p is_proc in
    let frames_range = whole_at_ok 0 frames _ df frame is_frame in
    let steps_range = whole_at_ok 0 (words spec + 2) _ ds step is_step in
    let last = steps_range.high in
    let is : make_halt p frame step ≡ h = cc in
    subst (IsHalt spec frames) is (record { proc = within; frame = frames_range.high; step = omega (arith, last) }))))

halt_at_ok : (spec : Parts) (frames : ℕ) (at : List ℕ) (d : Data) (h : HaltAt) → read_halt spec frames at d ≡ Ok h → IsHalt spec frames h
halt_at_ok spec frames at d h e =
    chain_ok (exactly_three_at (codes "processor") (codes "frame") (codes "step") at d) _ h e (λ m _ rest. make_is_halt spec frames at m.0 m.1 m.2 h rest)

pub record GoodHalts (spec : Parts) (frames : ℕ) (halts : List HaltAt) : Type 0 where
  pub each : Each (IsHalt spec frames) halts
  pub ordered : EachNext HaltBefore halts

follows_after : (version : Version) (before : List HaltAt) (h : HaltAt) → halt_follows version before h ≡ true → halt_after (last_of before) h ≡ true
follows_after First before h follows = (and_parts (halt_after (last_of before) h) (not (list_any (is_halt_of h.proc.0) before)) follows).0
follows_after Second before h follows = follows

good_halts_end : (spec : Parts) (frames : ℕ) (before : List HaltAt) (h : HaltAt) → GoodHalts spec frames before → IsHalt spec frames h → halt_after (last_of before) h ≡ true
    → GoodHalts spec frames (before ++ h ∷ [])
good_halts_end spec frames before h good is follows = record {
  each = each_end (IsHalt spec frames) before h good.each is;
  ordered = each_next_end HaltBefore before h good.ordered
      (λ l last. comes_after_ok l.frame l.proc.0 h.frame h.proc.0 (ap (λ o. halt_after o h) (sym last) ∙ follows));
}

next_halt_ok : (spec : Parts) (version : Version) (frames : ℕ) (at : List ℕ) (before : List HaltAt) (h : HaltAt) (d : Data) → GoodHalts spec frames before
    → read_next_halt spec version frames at before d ≡ Ok h → GoodHalts spec frames (before ++ h ∷ [])
next_halt_ok spec version frames at before h d good e =
    chain_ok (read_halt spec frames at d) _ h e (λ one is e1.
    chain_ok (check (halt_follows version before one) OUT_OF_ORDER at) _ h e1 (λ u kept same.
    let one_is : one ≡ h = cc in
    subst (λ (x : HaltAt). GoodHalts spec frames (before ++ x ∷ [])) one_is
    (good_halts_end spec frames before one good (halt_at_ok spec frames at d one is) (follows_after version before one (kept_ok _ _ _ u kept)))))

make_is_restart : (spec : Parts) (frames : ℕ) (at : List ℕ) (dp df : Data) (r : RestartAt) → restart_values spec frames at dp df ≡ Ok r → IsRestart spec frames r
make_is_restart spec frames at dp df r e =
    chain_ok (read_named_proc spec (member_path at (codes "processor")) dp) _ r e (λ p is_proc e1.
    chain_ok (whole_at 2 frames (member_path at (codes "frame")) df) _ r e1 (λ frame is_frame same.
    let within = proc_at_ok spec _ dp p is_proc in
    let range = whole_at_ok 2 frames _ df frame is_frame in
    let is : make_restart p frame ≡ r = cc in
    subst (IsRestart spec frames) is (record { proc = within; least = range.low; most = range.high })))

restart_at_ok : (spec : Parts) (frames : ℕ) (at : List ℕ) (d : Data) (r : RestartAt) → read_restart spec frames at d ≡ Ok r → IsRestart spec frames r
restart_at_ok spec frames at d r e =
    chain_ok (exactly_two_at (codes "processor") (codes "frame") at d) _ r e (λ m _ rest. make_is_restart spec frames at m.0 m.1 r rest)

abbrev pub Differ : RestartAt → RestartAt → Type 0
Differ a b = a.proc.0 ≡ b.proc.0 → ⊥

abbrev pub IsLate : List HaltAt → RestartAt → Type 0
IsLate halts restart = HaltsWellBefore halts restart.proc.0 restart.frame

pub record GoodRestarts (spec : Parts) (frames : ℕ) (halts : List HaltAt) (restarts : List RestartAt) : Type 0 where
  pub each : Each (IsRestart spec frames) restarts
  pub ordered : EachNext RestartBefore restarts
  pub once : EachLater Differ restarts
  pub late : Each (IsLate halts) restarts

pub halted_well_before : (halts : List HaltAt) (p f : ℕ) → list_any (is_halt_before p f) halts ≡ true → HaltsWellBefore halts p f
halted_well_before halts p f some = some_passes (is_halt_before p f) halts some
    (λ i h there passes. let parts = and_parts (h.proc.0 == p) (nat_le (h.frame + 2) f) passes in
    record { place = i; halt = h; there = there; proc = grind (arith, nat_tests, parts.0); frame = grind (arith, nat_tests, parts.1) })

good_restarts_end : (spec : Parts) (frames : ℕ) (halts : List HaltAt) (before : List RestartAt) (r : RestartAt) → GoodRestarts spec frames halts before → IsRestart spec frames r
    → restart_follows halts before r ≡ true → GoodRestarts spec frames halts (before ++ r ∷ [])
good_restarts_end spec frames halts before r good is follows =
    let parts = and_parts (restart_after (last_of before) r && not (list_any (is_restart_of r.proc.0) before)) (list_any (is_halt_before r.proc.0 r.frame) halts) follows in
    let first = and_parts (restart_after (last_of before) r) (not (list_any (is_restart_of r.proc.0) before)) parts.0 in
    let none = not-true (list_any (is_restart_of r.proc.0) before) first.1 in
    record {
      each = each_end (IsRestart spec frames) before r good.each is;
      ordered = each_next_end RestartBefore before r good.ordered
          (λ l last. comes_after_ok l.frame l.proc.0 r.frame r.proc.0 (ap (λ o. restart_after o r) (sym last) ∙ first.0));
      once = each_later_end Differ before r good.once
          (λ i y there same. let other = none_passes (is_restart_of r.proc.0) before i y none there in absurd (grind (arith, nat_tests, other, same)));
      late = each_end (IsLate halts) before r good.late (halted_well_before halts r.proc.0 r.frame parts.1);
    }

good_restarts_none : (spec : Parts) (frames : ℕ) (halts : List HaltAt) → GoodRestarts spec frames halts []
good_restarts_none spec frames halts = record {
  each = each_none (IsRestart spec frames);
  ordered = each_next_none RestartBefore;
  once = each_later_none Differ;
  late = each_none (IsLate halts);
}

next_restart_ok : (spec : Parts) (frames : ℕ) (halts : List HaltAt) (at : List ℕ) (before : List RestartAt) (r : RestartAt) (d : Data) → GoodRestarts spec frames halts before
    → read_next_restart spec frames halts at before d ≡ Ok r → GoodRestarts spec frames halts (before ++ r ∷ [])
next_restart_ok spec frames halts at before r d good e =
    chain_ok (read_restart spec frames at d) _ r e (λ one is e1.
    chain_ok (check (restart_follows halts before one) WRONG_RESTART at) _ r e1 (λ u kept same.
    let one_is : one ≡ r = cc in
    subst (λ (x : RestartAt). GoodRestarts spec frames halts (before ++ x ∷ [])) one_is
    (good_restarts_end spec frames halts before one good (restart_at_ok spec frames at d one is) (kept_ok _ _ _ u kept))))

changes_at_ok : (spec : Parts) (frames : ℕ) (at : List ℕ) (d : Data) (cs : List Change) → read_changes spec frames at d ≡ Ok cs → Listed (GoodChanges spec frames) MAX_CHANGES cs
changes_at_ok spec frames at d cs e =
    list_ok (GoodChanges spec frames) (read_next_change spec frames) (next_change_ok spec frames) MAX_CHANGES at d cs
    (record { each = each_none (IsChange spec frames); ordered = each_next_none ChangeBefore }) e

limit_few : (version : Version) → halts_limit version ≤ 16
limit_few First = omega arith
limit_few Second = omega arith

halts_at_ok : (spec : Parts) (version : Version) (frames : ℕ) (at : List ℕ) (d : Data) (hs : List HaltAt) → read_halts spec version frames at d ≡ Ok hs → Listed (GoodHalts spec frames) 16 hs
halts_at_ok spec version frames at d hs e =
    let all = list_ok (GoodHalts spec frames) (read_next_halt spec version frames) (next_halt_ok spec version frames) (halts_limit version) at d hs
    (record { each = each_none (IsHalt spec frames); ordered = each_next_none HaltBefore }) e in
    let few = all.few in
    let limit = limit_few version in
    record { good = all.good; few = omega (arith, few, limit) }

restarts_at_ok : (spec : Parts) (frames : ℕ) (halts : List HaltAt) (at : List ℕ) (o : Option Data) (rs : List RestartAt) → read_restarts spec frames halts at o ≡ Ok rs
    → Listed (GoodRestarts spec frames halts) 8 rs
restarts_at_ok spec frames halts at None rs e =
    let same : [] ≡ rs = cc in let long : length {A = RestartAt} [] ≡ length rs = ap length same in
    record { good = subst (GoodRestarts spec frames halts) same (good_restarts_none spec frames halts); few = omega (arith, long) }
restarts_at_ok spec frames halts at (Some d) rs e =
    list_ok (GoodRestarts spec frames halts) (read_next_restart spec frames halts) (next_restart_ok spec frames halts) 8 at d rs (good_restarts_none spec frames halts) e

frames_in_ok : (scram frames : Data) (n : ℕ) → read_frames scram frames ≡ Ok n → n ≤ MAX_FRAMES
frames_in_ok scram frames n e = chain_ok (read_scram (member_path [] (codes "scram")) scram) _ n e (λ _ _ rest. let range = whole_at_ok 0 20001 _ frames n rest in let high = range.high in omega (arith, high))

fits_of : (spec : Parts) (frames : ℕ) (changes : List Change) (halts : List HaltAt) (restarts : List RestartAt) → frames ≤ MAX_FRAMES → Listed (GoodChanges spec frames) MAX_CHANGES changes
    → Listed (GoodHalts spec frames) 16 halts → Listed (GoodRestarts spec frames halts) 8 restarts → Alternate restarts halts → Fits spec (make_script frames changes halts restarts)
fits_of spec frames changes halts restarts few cs hs rs alternate = record {
  frames = few;
  changes_count = cs.few;
  changes = cs.good.each;
  changes_ordered = cs.good.ordered;
  halts_count = hs.few;
  halts = hs.good.each;
  halts_ordered = hs.good.ordered;
  restarts_count = rs.few;
  restarts = rs.good.each;
  restarts_ordered = rs.good.ordered;
  restarts_once = rs.good.once;
  restarts_late = rs.good.late;
  halts_twice = alternate.twice;
  halts_again = alternate.again;
}

script_values_ok : (spec : Parts) (version : Version) (m : ScriptMembers) (script : ScriptParts) → read_values spec version m ≡ Ok script → Fits spec script
script_values_ok spec version m script e =
    chain_ok (read_frames m.scram m.frames) _ script e (λ frames is_frames e1.
    chain_ok (read_changes spec frames (member_path [] (codes "changes")) m.changes) _ script e1 (λ changes are_changes e2.
    chain_ok (read_halts spec version frames (member_path [] (codes "halts")) m.halts) _ script e2 (λ halts are_halts e3.
    chain_ok (read_restarts spec frames halts (member_path [] (codes "restarts")) m.restarts) _ script e3 (λ restarts are_restarts e4.
    chain_ok (check_halts restarts (member_path [] (codes "halts")) 0 [] halts) _ script e4 (λ u kept same.
    let is : make_script frames changes halts restarts ≡ script = cc in
    subst (Fits spec) is (fits_of spec frames changes halts restarts
    (frames_in_ok m.scram m.frames frames is_frames)
    (changes_at_ok spec frames _ m.changes changes are_changes)
    (halts_at_ok spec version frames _ m.halts halts are_halts)
    (restarts_at_ok spec frames halts _ m.restarts restarts are_restarts)
    (halts_alternate restarts (member_path [] (codes "halts")) 0 [] halts u (alternate_none restarts) kept)))))))

pub script_in_fits : (spec : Parts) (d : Data) (script : ScriptParts) → script_in spec d ≡ Ok script → Fits spec script
script_in_fits spec d script e = chain_ok (find_members (version_of d) d) _ script e (λ m _ rest. script_values_ok spec _ m script rest)

-- A script that is read from any bytes fits the specification.
pub script_of_fits : (spec : Parts) (bytes : List ℕ) (script : ScriptParts) → script_of spec bytes ≡ Ok script → Fits spec script
script_of_fits spec bytes script e =
    chain_ok (parsed bytes) _ script (if_ok (nat_le (length bytes) MAX_SCRIPT_BYTES) _ _ _ script e) (λ d _ rest. script_in_fits spec d script rest)

pub answer_fits : (spec : Parts) (version : Version) (m : ScriptMembers) (answer : Result ScriptParts DocError) → Answers (read_values spec version m) (λ (script : ScriptParts). script) answer
    → IfOk answer (λ (script : ScriptParts). Fits spec script)
answer_fits spec version m (Ok script) e = script_values_ok spec version m script e
answer_fits spec version m (Err _) e = tt
