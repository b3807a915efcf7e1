-- A script that fits is read back from its value.
use Rattle.std.proofs.Common.{◌≡◌, ◌≤◌, ◌+◌, ℕ, zero, suc, true, take, drop, List, [], ◌∷◌, ◌++◌, length, arith, refl, ap, ◌∙◌, sym, subst, append_assoc}
use Rattle.std.specs.Prelude.{Ok, Some, IsUtf8, slice_get, codes}
use Rattle.std.proofs.lemmas.Bool.{le-leb}
use Rattle.std.proofs.lemmas.Option.{same_Some}
use Rattle.serde_json.specs.Read.{read}
use Rattle.scram_types.specs.declared.limits.TheConstants.{MAX_CHANGES, MAX_SCRIPT_BYTES}
use Rattle.scram_doc.specs.Paths.{member_path}
use Rattle.scram_doc.specs.Canonical.{list_data}
use Rattle.scram_doc.proofs.ReadBack.{list_back, whole_back}
use Rattle.scram_doc.proofs.Parsed.{parsed-some}
use Rattle.scram_types.specs.declared.scripts.Change.{Change}
use Rattle.scram_types.specs.declared.scripts.HaltAt.{HaltAt}
use Rattle.scram_types.specs.declared.scripts.RestartAt.{RestartAt}
use Rattle.scram_types.specs.Scripts.{ScriptParts}
use Rattle.scram_types.specs.Specification.{Each, IsSpec, Parts}
use Rattle.scram_types.proofs.FoundByName.{proc_found_back}
use Rattle.fault_script.specs.declared.version.Version.{Version}
use Rattle.fault_script.specs.declared.version.Version.TheVariants.{First, Second}
use Rattle.fault_script.specs.Fits.{AtMostTwice, ChangeBefore, EachLater, EachNext, Fits, HaltBefore, RestartBefore, IsChange, IsHalt, IsRestart}
use Rattle.fault_script.specs.Orders.{change_follows, halt_follows, may_halt, restart_follows}
use Rattle.fault_script.specs.Reading.{check_halts, make_script, read_change, read_changes, read_halt, read_halts, read_next_change, read_next_halt, read_next_restart, read_restart, read_restarts, script_in, script_of}
use Rattle.fault_script.specs.Texts.{change_data, data_without_restarts, halt_data, restart_data, script_data, data_with_restarts}
use Rattle.fault_script.specs.Times.{words}
use Rattle.fault_script.specs.Versions.{halts_limit}
use Rattle.fault_script.proofs.Alternation.{Again}
use Rattle.fault_script.proofs.Fitting.{Differ, IsLate}
use Rattle.fault_script.proofs.Found.{factor_found, value_found}
use Rattle.fault_script.proofs.SecondHalts.{Apart, apart_without_restarts, halts_few, may_halt_by}
use Rattle.fault_script.proofs.Splits.{change_follows_by, halt_after_all, never_halted, restart_follows_by, seam}

change_back : (spec : Parts) (frames : ℕ) (at : List ℕ) (c : Change) → IsSpec spec → IsChange spec frames c → read_change spec frames at (change_data spec c) ≡ Ok c
change_back spec frames at c is fits =
    rw (whole_back 1 frames c.frame fits.least fits.most, factor_found spec c.factor fits.factor is fits.there, value_found spec c fits.factor is fits.there fits.value) refl

halt_back : (spec : Parts) (frames : ℕ) (at : List ℕ) (h : HaltAt) → IsSpec spec → IsHalt spec frames h → read_halt spec frames at (halt_data spec h) ≡ Ok h
halt_back spec frames at h is fits =
    let most = fits.step in
    rw (proc_found_back spec h.proc is fits.proc, whole_back 0 frames h.frame (omega arith) fits.frame, whole_back 0 (words spec + 2) h.step (omega arith) (omega (arith, most))) refl

restart_back : (spec : Parts) (frames : ℕ) (at : List ℕ) (r : RestartAt) → IsSpec spec → IsRestart spec frames r → read_restart spec frames at (restart_data spec r) ≡ Ok r
restart_back spec frames at r is fits =
    rw (proc_found_back spec r.proc is fits.proc, whole_back 2 frames r.frame fits.least fits.most) refl

-- Each item of a list satisfies a fact together with the items before it and after it.
abbrev pub EachSplit : {A : Type 0} → (List A → A → List A → Type 0) → List A → Type 0
EachSplit {A} Fact whole = (xs : List A) (x : A) (ys : List A) → xs ++ x ∷ ys ≡ whole → Fact xs x ys

split_each : {A : Type 0} (Fact : A → Type 0) (whole xs ys : List A) (x : A) → Each Fact whole → xs ++ x ∷ ys ≡ whole → Fact x
split_each Fact whole xs ys x each e = each (length xs) x (ap (λ l. slice_get l (length xs)) (sym e) ∙ seam xs ys x)

split_law : {A : Type 0} (Law : List A → Type 0) (Fact : List A → A → List A → Type 0) (whole : List A)
    → ((xs : List A) (x : A) (ys : List A) → Law (xs ++ x ∷ ys) → Fact xs x ys) → Law whole → EachSplit Fact whole
split_law Law Fact whole law holds xs x ys e = law xs x ys (subst Law (sym e) holds)

parted : {A : Type 0} (xs : List A) (i : ℕ) (x : A) → slice_get xs i ≡ Some x → take i xs ++ x ∷ drop (suc i) xs ≡ xs
parted [] i x e = absurd cc
parted (y ∷ ys) zero x e = ap (λ z. z ∷ ys) (sym (same_Some y x e))
parted (y ∷ ys) (suc i) x e = ap (λ zs. y ∷ zs) (parted ys i x e)

record NextChange (spec : Parts) (frames : ℕ) (before : List Change) (c : Change) : Type 0 where
  is : IsChange spec frames c
  follows : change_follows before c ≡ true

changes_back : (spec : Parts) (frames : ℕ) (at : List ℕ) (cs : List Change) → IsSpec spec → length cs ≤ MAX_CHANGES → Each (IsChange spec frames) cs
    → EachSplit (λ xs c _. change_follows xs c ≡ true) cs → read_changes spec frames at (list_data (change_data spec) cs) ≡ Ok cs
changes_back spec frames at cs is few each follow =
    list_back (NextChange spec frames) (read_next_change spec frames) (change_data spec) (λ path before c fits. rw (change_back spec frames path c is fits.is, fits.follows) refl)
    0 MAX_CHANGES at cs (omega arith) few (λ i c e. record { is = each i c e; follows = follow (take i cs) c (drop (suc i) cs) (parted cs i c e) })

record NextHalt (spec : Parts) (version : Version) (frames : ℕ) (before : List HaltAt) (h : HaltAt) : Type 0 where
  is : IsHalt spec frames h
  follows : halt_follows version before h ≡ true

halts_back : (spec : Parts) (version : Version) (frames : ℕ) (at : List ℕ) (hs : List HaltAt) → IsSpec spec → length hs ≤ halts_limit version → Each (IsHalt spec frames) hs
    → EachSplit (λ xs h _. halt_follows version xs h ≡ true) hs → read_halts spec version frames at (list_data (halt_data spec) hs) ≡ Ok hs
halts_back spec version frames at hs is few each follow =
    list_back (NextHalt spec version frames) (read_next_halt spec version frames) (halt_data spec) (λ path before h fits. rw (halt_back spec frames path h is fits.is, fits.follows) refl)
    0 (halts_limit version) at hs (omega arith) few (λ i h e. record { is = each i h e; follows = follow (take i hs) h (drop (suc i) hs) (parted hs i h e) })

record NextRestart (spec : Parts) (frames : ℕ) (halts : List HaltAt) (before : List RestartAt) (r : RestartAt) : Type 0 where
  is : IsRestart spec frames r
  follows : restart_follows halts before r ≡ true

restarts_back : (spec : Parts) (frames : ℕ) (halts : List HaltAt) (at : List ℕ) (rs : List RestartAt) → IsSpec spec → length rs ≤ 8 → Each (IsRestart spec frames) rs
    → EachSplit (λ xs r _. restart_follows halts xs r ≡ true) rs → read_restarts spec frames halts at (Some (list_data (restart_data spec) rs)) ≡ Ok rs
restarts_back spec frames halts at rs is few each follow =
    list_back (NextRestart spec frames halts) (read_next_restart spec frames halts) (restart_data spec) (λ path before r fits. rw (restart_back spec frames path r is fits.is, fits.follows) refl)
    0 8 at rs (omega arith) few (λ i r e. record { is = each i r e; follows = follow (take i rs) r (drop (suc i) rs) (parted rs i r e) })

kept_back : (restarts : List RestartAt) (at : List ℕ) (i : ℕ) (whole before hs : List HaltAt)
    → EachSplit (λ xs h _. may_halt restarts xs h ≡ true) whole → before ++ hs ≡ whole → check_halts restarts at i before hs ≡ Ok tt
kept_back restarts at i whole before [] may e = refl
kept_back restarts at i whole before (h ∷ hs) may e =
    rw (may before h hs e) (kept_back restarts at (suc i) whole (before ++ h ∷ []) hs may (append_assoc before (h ∷ []) hs ∙ e))

changes_follow : (spec : Parts) (script : ScriptParts) → Fits spec script → EachSplit (λ xs c _. change_follows xs c ≡ true) script.changes
changes_follow spec script fits = split_law (EachNext ChangeBefore) (λ xs c _. change_follows xs c ≡ true) script.changes (λ xs c ys. change_follows_by xs ys c) fits.changes_ordered

halts_follow : (spec : Parts) (script : ScriptParts) → Fits spec script → EachSplit (λ xs h _. halt_follows Second xs h ≡ true) script.halts
halts_follow spec script fits = split_law (EachNext HaltBefore) (λ xs h _. halt_follows Second xs h ≡ true) script.halts (λ xs h ys. halt_after_all xs ys h) fits.halts_ordered

halts_follow_once : (spec : Parts) (script : ScriptParts) → Fits spec script → EachLater Apart script.halts → EachSplit (λ xs h _. halt_follows First xs h ≡ true) script.halts
halts_follow_once spec script fits apart xs h ys e =
    let ordered = subst (EachNext HaltBefore) (sym e) fits.halts_ordered in
    let once = subst (EachLater Apart) (sym e) apart in
    rw (halt_after_all xs ys h ordered, never_halted xs ys h once) refl

restarts_follow : (spec : Parts) (script : ScriptParts) → Fits spec script → EachSplit (λ xs r _. restart_follows script.halts xs r ≡ true) script.restarts
restarts_follow spec script fits xs r ys e =
    restart_follows_by script.halts xs ys r (subst (EachNext RestartBefore) (sym e) fits.restarts_ordered) (subst (EachLater Differ) (sym e) fits.restarts_once)
    (split_each (IsLate script.halts) script.restarts xs ys r fits.restarts_late e)

halts_may : (spec : Parts) (script : ScriptParts) → Fits spec script → EachSplit (λ xs h _. may_halt script.restarts xs h ≡ true) script.halts
halts_may spec script fits xs h ys e =
    may_halt_by script.restarts xs ys h (subst AtMostTwice (sym e) fits.halts_twice) (subst (EachLater (Again script.restarts)) (sym e) fits.halts_again)

first_back : (spec : Parts) (frames : ℕ) (changes : List Change) (halts : List HaltAt) → IsSpec spec → Fits spec (make_script frames changes halts [])
    → script_in spec (data_without_restarts spec (make_script frames changes halts [])) ≡ Ok (make_script frames changes halts [])
first_back spec frames changes halts is fits =
    let apart = apart_without_restarts halts fits.halts_again in
    let few = halts_few (length spec.procs) halts apart (λ i h there. (fits.halts i h there).proc) in
    let procs = is.procs_count.few in
    let last = fits.frames in
    rw (
      whole_back 0 20001 frames (omega arith) (omega (arith, last)),
      changes_back spec frames (member_path [] (codes "changes")) changes is fits.changes_count fits.changes (changes_follow spec (make_script frames changes halts []) fits),
      halts_back spec First frames (member_path [] (codes "halts")) halts is (omega (arith, few, procs)) fits.halts (halts_follow_once spec (make_script frames changes halts []) fits apart),
      kept_back [] (member_path [] (codes "halts")) 0 halts [] halts (halts_may spec (make_script frames changes halts []) fits) refl,
    ) refl

second_back : (spec : Parts) (script : ScriptParts) → IsSpec spec → Fits spec script → script_in spec (data_with_restarts spec script) ≡ Ok script
second_back spec script is fits =
    let last = fits.frames in
    rw (
      whole_back 0 20001 script.frames (omega arith) (omega (arith, last)),
      changes_back spec script.frames (member_path [] (codes "changes")) script.changes is fits.changes_count fits.changes (changes_follow spec script fits),
      halts_back spec Second script.frames (member_path [] (codes "halts")) script.halts is fits.halts_count fits.halts (halts_follow spec script fits),
      restarts_back spec script.frames script.halts (member_path [] (codes "restarts")) script.restarts is fits.restarts_count fits.restarts (restarts_follow spec script fits),
      kept_back script.restarts (member_path [] (codes "halts")) 0 script.halts [] script.halts (halts_may spec script fits) refl,
    ) refl

script_back_by : (spec : Parts) (frames : ℕ) (changes : List Change) (halts : List HaltAt) (restarts : List RestartAt) → IsSpec spec → Fits spec (make_script frames changes halts restarts)
    → script_in spec (script_data spec (make_script frames changes halts restarts)) ≡ Ok (make_script frames changes halts restarts)
script_back_by spec frames changes halts [] is fits = first_back spec frames changes halts is fits
script_back_by spec frames changes halts (r ∷ rs) is fits = second_back spec (make_script frames changes halts (r ∷ rs)) is fits

pub script_back : (spec : Parts) (script : ScriptParts) → IsSpec spec → Fits spec script → script_in spec (script_data spec script) ≡ Ok script
script_back spec script is fits = script_back_by spec script.frames script.changes script.halts script.restarts is fits

pub text_back : (spec : Parts) (script : ScriptParts) (bytes : List ℕ) → IsSpec spec → IsUtf8 bytes → read bytes ≡ Some (script_data spec script) → Fits spec script → length bytes ≤ MAX_SCRIPT_BYTES
    → script_of spec bytes ≡ Ok script
text_back spec script bytes is utf8 value fits short =
    rw (le-leb (length bytes) MAX_SCRIPT_BYTES short, parsed-some bytes (script_data spec script) utf8 value) (script_back spec script is fits)
