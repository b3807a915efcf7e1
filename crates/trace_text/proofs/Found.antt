-- An item that is found by a name has that name.
use Rattle.std.proofs.Common.{ℕ, suc, ◌≡◌, ◌+◌, Bool, true, false, cond, List, [], ◌∷◌, Option, Some, None, arith, refl, sym, ap}
use Rattle.std.specs.Prelude.{bytes_eq, codes, option_map, slice_get}
use Rattle.std.specs.Option.{option_map_or}
use Rattle.scram_types.specs.Specification.{Parts}
use Rattle.scram_types.specs.declared.ids.ConfId.{ConfId}
use Rattle.scram_types.specs.declared.ids.Mode.{Mode}
use Rattle.scram_types.specs.declared.ids.ProcId.{ProcId}
use Rattle.scram_types.specs.declared.specification.AppSpec.{AppSpec}
use Rattle.scram_types.specs.declared.specification.Conf.{Conf}
use Rattle.scram_types.specs.declared.specification.Factor.{Factor}
use Rattle.scram_types.specs.declared.specification.ModeSpec.{ModeSpec}
use Rattle.scram_types.specs.declared.specification.Proc.{Proc}
use Rattle.trace_text.specs.Lookups.{conf_or_none, app_number, mode_from, listed_mode}
use Rattle.scram_types.specs.Lookups.{number_from, value_named, proc_named, conf_named, proc_id, conf_id, value_name, proc_name, conf_name}
use Rattle.kind_table.specs.Names.{mode_text}
use Rattle.trace_text.specs.Names.{conf_or_dash}
use Rattle.scram_types.proofs.Equality.{same_text}
use Rattle.trace_text.proofs.Inversion.{map_some}

-- The item at index `n` of a list exists and has this name.
abbrev pub Named : {A : Type 0} → (A → List ℕ) → List A → ℕ → List ℕ → Type 0
Named {A} name xs n text = (x : A) × (slice_get xs n ≡ Some x) × (name x ≡ text)

found_by : {A : Type 0} (name : A → List ℕ) (t : Bool) (i k : ℕ) (x : A) (text : List ℕ) (xs : List A) → (t ≡ true → name x ≡ text) →
    (number_from name (suc i) xs text ≡ Some k → (n : ℕ) × (k ≡ suc i + n) × Named name xs n text) →
    cond t (Some i) (number_from name (suc i) xs text) ≡ Some k → (n : ℕ) × (k ≡ i + n) × Named name (x ∷ xs) n text
found_by name true i k x text xs same more h = let e : i ≡ k = cc in (0, omega (arith, e), (x, refl, same refl))
found_by name false i k x text xs same more h = let m = more h in (suc m.0, omega (arith, m.1), m.2)

found : {A : Type 0} (name : A → List ℕ) (i k : ℕ) (text : List ℕ) (xs : List A) → number_from name i xs text ≡ Some k →
    (n : ℕ) × (k ≡ i + n) × Named name xs n text
found name i k text [] h = absurd (let e = h in cc)
found name i k text (x ∷ xs) h = found_by name (bytes_eq (name x) text) i k x text xs (same_text (name x) text) (found name (suc i) k text xs) h

pub place_named : {A : Type 0} (name : A → List ℕ) (k : ℕ) (text : List ℕ) (xs : List A) → number_from name 0 xs text ≡ Some k → Named name xs k text
place_named name k text xs h = let p = found name 0 k text xs h in let e : k ≡ p.0 = omega (arith, p.1) in rw e p.2

shown_as : {A : Type 0} (name : A → List ℕ) (k : ℕ) (text : List ℕ) (xs : List A) → Named name xs k text → option_map_or name (slice_get xs k) [] ≡ text
shown_as name k text xs p = rw p.1 p.2

pub conf_found : (spec : Parts) (text : List ℕ) (c : ConfId) → conf_named spec text ≡ Some c → text ≡ conf_name spec c.0
conf_found spec text c h =
    let p = map_some conf_id (number_from (λ (conf : Conf). conf.name) 0 spec.confs text) c h in
    let e : p.0 ≡ c.0 = ap (λ (d : ConfId). d.0) p.2 in
    sym (rw (← e) (shown_as (λ (conf : Conf). conf.name) p.0 text spec.confs (place_named (λ (conf : Conf). conf.name) p.0 text spec.confs p.1)))

pub proc_found : (spec : Parts) (text : List ℕ) (c : ProcId) → proc_named spec text ≡ Some c → text ≡ proc_name spec c.0
proc_found spec text c h =
    let p = map_some proc_id (number_from (λ (proc : Proc). proc.name) 0 spec.procs text) c h in
    let e : p.0 ≡ c.0 = ap (λ (d : ProcId). d.0) p.2 in
    sym (rw (← e) (shown_as (λ (proc : Proc). proc.name) p.0 text spec.procs (place_named (λ (proc : Proc). proc.name) p.0 text spec.procs p.1)))

pub value_found : (factor : Factor) (text : List ℕ) (v : ℕ) → value_named factor text ≡ Some v → text ≡ value_name factor v
value_found factor text v h = sym (shown_as (λ (name : List ℕ). name) v text factor.values (place_named (λ (name : List ℕ). name) v text factor.values h))

pub app_found : (spec : Parts) (text : List ℕ) (a : ℕ) → app_number spec text ≡ Some a → Named (λ (app : AppSpec). app.name) spec.apps a text
app_found spec text a h = place_named (λ (app : AppSpec). app.name) a text spec.apps h

dash_by : (t : Bool) (spec : Parts) (text : List ℕ) (c : Option ConfId) → (t ≡ true → text ≡ codes "-") →
    cond t (Some None) (option_map (λ (d : ConfId). Some d) (conf_named spec text)) ≡ Some c → text ≡ conf_or_dash spec c
dash_by true spec text c same h = let e : None ≡ c = cc in rw (← e) (same refl)
dash_by false spec text c same h =
    let p = map_some (λ (d : ConfId). Some d) (conf_named spec text) c h in
    rw (← p.2) (conf_found spec text p.0 p.1)

pub conf_or_dash_found : (spec : Parts) (text : List ℕ) (c : Option ConfId) → conf_or_none spec text ≡ Some c → text ≡ conf_or_dash spec c
conf_or_dash_found spec text c h = dash_by (bytes_eq text (codes "-")) spec text c (same_text text (codes "-")) h

mode_by : (t : Bool) (kind : ℕ) (text : List ℕ) (listed : ModeSpec) (modes : List ModeSpec) (m : Mode) → (t ≡ true → mode_text kind listed.mode.0 ≡ text) →
    (mode_from kind text modes ≡ Some m → text ≡ mode_text kind m.0) → cond t (Some listed.mode) (mode_from kind text modes) ≡ Some m → text ≡ mode_text kind m.0
mode_by true kind text listed modes m same more h = let e : listed.mode ≡ m = cc in rw (← e) (sym (same refl))
mode_by false kind text listed modes m same more h = more h

mode_spelled : (kind : ℕ) (text : List ℕ) (modes : List ModeSpec) (m : Mode) → mode_from kind text modes ≡ Some m → text ≡ mode_text kind m.0
mode_spelled kind text [] m h = absurd (let e = h in cc)
mode_spelled kind text (listed ∷ modes) m h =
    mode_by (bytes_eq (mode_text kind listed.mode.0) text) kind text listed modes m (same_text (mode_text kind listed.mode.0) text) (mode_spelled kind text modes m) h

pub mode_found : (spec : Parts) (a : ℕ) (app : AppSpec) (text : List ℕ) (m : Mode) → slice_get spec.apps a ≡ Some app → listed_mode spec a text ≡ Some m →
    text ≡ mode_text app.kind.0 m.0
mode_found spec a app text m there h =
    let e : mode_from app.kind.0 text app.modes ≡ Some m = rw there at h in
    mode_spelled app.kind.0 text app.modes m e
