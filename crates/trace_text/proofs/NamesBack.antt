-- Each printed name is found by the lookup of names.
use Rattle.std.proofs.Common.{ℕ, suc, zero, ◌≡◌, ◌<◌, ◌+◌, ◌∙◌, Bool, true, false, cond, List, [], ◌∷◌, Option, Some, None, IsSome, length, arith, refl, sym, ap, subst}
use Rattle.std.specs.Prelude.{◌==◌, bytes_eq, codes, slice_get}
use Rattle.std.specs.Option.{option_map_or}
use Rattle.std.proofs.lemmas.Bool.{eq-eqb, eqb-true}
use Rattle.std.proofs.lemmas.Slice.Eq.{bytes_eq-Decides}
use Rattle.scram_types.specs.Specification.{Each, IsIn, IsInIfNamed, IsModeSpec, IsSpec, NamesDiffer, Parts, mode_in, modes_of_kind}
use Rattle.scram_types.specs.Lookups.{conf_name, conf_named, number_from}
use Rattle.scram_types.specs.Names.{is_name}
use Rattle.scram_types.specs.declared.ids.ConfId.{ConfId}
use Rattle.scram_types.specs.declared.ids.Mode.{Mode}
use Rattle.scram_types.specs.declared.ids.ProcId.{ProcId}
use Rattle.scram_types.specs.declared.specification.AppSpec.{AppSpec}
use Rattle.scram_types.specs.declared.specification.Conf.{Conf}
use Rattle.scram_types.specs.declared.specification.ModeSpec.{ModeSpec}
use Rattle.scram_types.specs.declared.specification.Proc.{Proc}
use Rattle.scram_types.proofs.Booleans.{not_true}
use Rattle.scram_types.proofs.Equality.{same_text}
use Rattle.scram_types.proofs.FoundByName.{found_named}
use Rattle.scram_types.proofs.Items.{some_item}
use Rattle.scram_types.proofs.Options.{same_some}
use Rattle.kind_table.specs.Names.{IsModeNumber, mode_names, mode_text, name_in, number_in}
use Rattle.kind_table.proofs.Spelling.{all_names_agree}
use Rattle.kind_table.proofs.EachKind.{each_kind}
use Rattle.trace_text.specs.Lookups.{app_number, conf_or_none, listed_mode, mode_from}
use Rattle.trace_text.specs.Names.{conf_or_dash}
use Rattle.trace_text.proofs.WordBytes.{all_over, name_over}

pub found_at : {A : Type 0} (name : A → List ℕ) (xs : List A) (i : ℕ) (x : A) → NamesDiffer name xs → slice_get xs i ≡ Some x → number_from name 0 xs (name x) ≡ Some i
found_at name xs i x differ there = let sum : 0 + i ≡ i = omega arith in found_named name 0 i xs x differ there ∙ ap (λ (k : ℕ). Some k) sum

-- The name of the item at index `i` of a list is a valid name, and it is found at index `i`.
pub record NameBack {A : Type 0} (name : A → List ℕ) (xs : List A) (i : ℕ) : Type 0 where
  pub spelled : is_name (option_map_or name (slice_get xs i) []) ≡ true
  pub found : number_from name 0 xs (option_map_or name (slice_get xs i) []) ≡ Some i

pub name_back : {A : Type 0} (name : A → List ℕ) (xs : List A) (i : ℕ) → Each (λ (x : A). is_name (name x) ≡ true) xs → NamesDiffer name xs → i < length xs → NameBack name xs i
name_back name xs i spelled differ below = some_item xs i below (λ x there. record {
  spelled = rw there (spelled i x there);
  found = rw there (found_at name xs i x differ there);
})

pub conf_back : (spec : Parts) (c : ConfId) → IsSpec spec → IsIn spec.confs c → NameBack (λ (conf : Conf). conf.name) spec.confs c.0
conf_back spec c sound below = name_back (λ (conf : Conf). conf.name) spec.confs c.0 sound.names.confs sound.confs_differ below

pub conf_found_back : (spec : Parts) (c : ConfId) → IsSpec spec → IsIn spec.confs c → conf_named spec (conf_name spec c.0) ≡ Some c
conf_found_back spec c sound below = rw (conf_back spec c sound below).found refl

pub proc_back : (spec : Parts) (p : ProcId) → IsSpec spec → p.0 < length spec.procs → NameBack (λ (proc : Proc). proc.name) spec.procs p.0
proc_back spec p sound below = name_back (λ (proc : Proc). proc.name) spec.procs p.0 sound.names.procs sound.procs_differ below

pub app_found_back : (spec : Parts) (a : ℕ) (app : AppSpec) → IsSpec spec → slice_get spec.apps a ≡ Some app → app_number spec app.name ≡ Some a
app_found_back spec a app sound there = found_at (λ (x : AppSpec). x.name) spec.apps a app sound.apps_differ there

-- A text whose bytes are all at least 48 is not `-`.
pub not_dash : (text : List ℕ) → all_over 48 text ≡ true → bytes_eq text (codes "-") ≡ false
not_dash text over = not_true (bytes_eq text (codes "-")) (λ e. let same : text ≡ codes "-" = same_text text (codes "-") e in
    let t : all_over 48 (codes "-") ≡ true = subst (λ (word : List ℕ). all_over 48 word ≡ true) same over in absurd (let u : false ≡ true = t in cc))

pub name_not_dash : (text : List ℕ) → is_name text ≡ true → bytes_eq text (codes "-") ≡ false
name_not_dash text e = not_dash text (name_over text e)

pub conf_or_dash_back : (spec : Parts) (c : Option ConfId) → IsSpec spec → IsInIfNamed spec.confs c → conf_or_none spec (conf_or_dash spec c) ≡ Some c
conf_or_dash_back spec None sound known = refl
conf_or_dash_back spec (Some c) sound known =
    rw (name_not_dash (conf_name spec c.0) (conf_back spec c sound known).spelled, conf_found_back spec c sound known) refl

-- Lemmas on the names of modes.

mode_named_is : (names : List (Option (List ℕ))) (m : ℕ) (o : Option (List ℕ)) → name_in names m ≡ o → IsSome o → name_in names m ≡ Some (option_map_or (λ (name : List ℕ). name) o [])
mode_named_is names m None e h = absurd (let x = h in cc)
mode_named_is names m (Some text) e h = e

numbered : (kind m : ℕ) → kind < 6 → IsModeNumber m (modes_of_kind kind) → number_in (mode_names kind) (mode_text kind m) ≡ Some m
numbered kind m small valid =
    let k = all_names_agree.each kind small in
    (k.modes).named m (mode_text kind m) (mode_named_is (mode_names kind) m (name_in (mode_names kind) m) refl (k.mode_named m valid))

modes_differ : (kind m n : ℕ) → kind < 6 → IsModeNumber m (modes_of_kind kind) → IsModeNumber n (modes_of_kind kind) → mode_text kind m ≡ mode_text kind n → m ≡ n
modes_differ kind m n small first second same =
    same_some m n (sym (numbered kind m small first) ∙ ap (number_in (mode_names kind)) same ∙ numbered kind n small second)

listed_by : (t : Bool) (kind : ℕ) (listed : ModeSpec) (modes : List ModeSpec) (m : ℕ) → (t ≡ true → listed.mode.0 ≡ m) → IsModeSpec kind listed →
    (IsSome (mode_in modes m) → IsModeNumber m (modes_of_kind kind)) → IsSome (cond t (Some listed) (mode_in modes m)) → IsModeNumber m (modes_of_kind kind)
listed_by true kind listed modes m same valid more h =
    let e = same refl in
    let a = valid.on in
    let b = valid.of_kind in
    record { first = omega (arith, e, a); last = omega (arith, e, b) }
listed_by false kind listed modes m same valid more h = more h

pub mode_valid : (kind : ℕ) (modes : List ModeSpec) (m : ℕ) → Each (IsModeSpec kind) modes → IsSome (mode_in modes m) → IsModeNumber m (modes_of_kind kind)
mode_valid kind [] m valid h = absurd (let x = h in cc)
mode_valid kind (listed ∷ modes) m valid h =
    listed_by (listed.mode.0 == m) kind listed modes m (eqb-true listed.mode.0 m) (valid 0 listed refl) (mode_valid kind modes m (λ i x there. valid (suc i) x there)) h

same_mode : (m n : Mode) → m.0 ≡ n.0 → m ≡ n
same_mode m n e = ap (λ (k : ℕ). record { 0 = k }) e

mode_by : (t : Bool) (kind : ℕ) (listed : ModeSpec) (modes : List ModeSpec) (m : Mode) → (listed.mode.0 == m.0) ≡ t → kind < 6 → IsModeSpec kind listed → IsModeNumber m.0 (modes_of_kind kind) →
    (IsSome (mode_in modes m.0) → mode_from kind (mode_text kind m.0) modes ≡ Some m) → IsSome (cond t (Some listed) (mode_in modes m.0)) →
    mode_from kind (mode_text kind m.0) (listed ∷ modes) ≡ Some m
mode_by true kind listed modes m e small valid known more h =
    let same : listed.mode ≡ m = same_mode listed.mode m (eqb-true listed.mode.0 m.0 e) in
    rw (same, (bytes_eq-Decides (mode_text kind m.0) (mode_text kind m.0)).1 refl) refl
mode_by false kind listed modes m e small valid known more h =
    let other : bytes_eq (mode_text kind listed.mode.0) (mode_text kind m.0) ≡ false
    = not_true _ (λ t. let same : listed.mode.0 ≡ m.0 = modes_differ kind listed.mode.0 m.0 small (record { first = valid.on; last = valid.of_kind }) known
    (same_text (mode_text kind listed.mode.0) (mode_text kind m.0) t) in
    let no : (m.0 == m.0) ≡ false = rw same at e in absurd (let y : (m.0 == m.0) ≡ true = eq-eqb m.0 m.0 refl in cc)) in
    rw other (more h)

pub mode_back : (kind : ℕ) (modes : List ModeSpec) (m : Mode) → kind < 6 → Each (IsModeSpec kind) modes → IsModeNumber m.0 (modes_of_kind kind) → IsSome (mode_in modes m.0) →
    mode_from kind (mode_text kind m.0) modes ≡ Some m
mode_back kind [] m small valid known h = absurd (let x = h in cc)
mode_back kind (listed ∷ modes) m small valid known h =
    mode_by (listed.mode.0 == m.0) kind listed modes m refl small (valid 0 listed refl) known (mode_back kind modes m small (λ i x there. valid (suc i) x there) known) h

pub listed_back : (spec : Parts) (a : ℕ) (app : AppSpec) (m : Mode) → IsSpec spec → slice_get spec.apps a ≡ Some app → IsSome (mode_in app.modes m.0) →
    listed_mode spec a (mode_text app.kind.0 m.0) ≡ Some m
listed_back spec a app m sound there listed =
    let facts = sound.apps a app there in
    rw there (mode_back app.kind.0 app.modes m facts.kind facts.modes (mode_valid app.kind.0 app.modes m.0 facts.modes listed) listed)

two_spelled : (a b : List ℕ) (mode : ℕ) → is_name a ≡ true → is_name b ≡ true → IsModeNumber mode 2 → is_name (option_map_or (λ (name : List ℕ). name) (name_in (None ∷ Some a ∷ Some b ∷ []) mode) []) ≡ true
two_spelled a b zero e f p = absurd (let x = p.first in omega (arith, x))
two_spelled a b (suc zero) e f p = e
two_spelled a b (suc (suc zero)) e f p = f
two_spelled a b (suc (suc (suc n))) e f p = absurd (let x = p.last in omega (arith, x))

three_spelled : (a b c : List ℕ) (mode : ℕ) → is_name a ≡ true → is_name b ≡ true → is_name c ≡ true → IsModeNumber mode 3
    → is_name (option_map_or (λ (name : List ℕ). name) (name_in (None ∷ Some a ∷ Some b ∷ Some c ∷ []) mode) []) ≡ true
three_spelled a b c zero e f g p = absurd (let x = p.first in omega (arith, x))
three_spelled a b c (suc zero) e f g p = e
three_spelled a b c (suc (suc zero)) e f g p = f
three_spelled a b c (suc (suc (suc zero))) e f g p = g
three_spelled a b c (suc (suc (suc (suc n)))) e f g p = absurd (let x = p.last in omega (arith, x))

pub mode_spelled : (kind : ℕ) → kind < 6 → (mode : ℕ) → IsModeNumber mode (modes_of_kind kind) → is_name (mode_text kind mode) ≡ true
unfolding modes_of_kind
mode_spelled = each_kind (λ kind. (mode : ℕ) → IsModeNumber mode (modes_of_kind kind) → is_name (mode_text kind mode) ≡ true)
    (λ mode p. two_spelled (codes "navigate") (codes "hold") mode refl refl p) (λ mode p. two_spelled (codes "augmented") (codes "direct") mode refl refl p)
    (λ mode p. three_spelled (codes "normal") (codes "saver") (codes "essential") mode refl refl refl p)
    (λ mode p. two_spelled (codes "route") (codes "coarse") mode refl refl p) (λ mode p. two_spelled (codes "fast") (codes "slow") mode refl refl p)
    (λ mode p. three_spelled (codes "full") (codes "reduced") (codes "minimal") mode refl refl refl p)
