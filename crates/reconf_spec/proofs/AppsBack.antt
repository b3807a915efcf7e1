-- Processors and applications are read back as they were written.
use Rattle.std.proofs.Common.{◌≡◌, ◌≤◌, ◌<◌, ℕ, zero, suc, true, false, List, [], ◌∷◌, length, map, arith, refl, ap, ◌∙◌}
use Rattle.std.specs.Prelude.{All, Option, Some, None, IsSome, Ok, IsTrue, codes, is_some}
use Rattle.std.proofs.lemmas.List.Elements.{All-nil, All-cons}
use Rattle.std.proofs.lemmas.Option.{slice_get_within}
use Rattle.serde_json.specs.View.{items_of}
use Rattle.scram_doc.specs.Paths.{member_path}
use Rattle.scram_types.specs.declared.ids.AppId.{AppId}
use Rattle.scram_types.specs.declared.specification.AppSpec.{AppSpec}
use Rattle.scram_types.specs.declared.specification.ModeSpec.{ModeSpec}
use Rattle.scram_types.specs.declared.specification.Proc.{Proc}
use Rattle.scram_types.specs.Names.{is_name}
use Rattle.scram_types.specs.Specification.{AreSpelled, Each, HasLength, IsAppSpec, IsModeSpec, IsProc, NamesDiffer, mode_in, modes_of_kind}
use Rattle.kind_table.specs.Names.{kind_names, mode_names, number_in, name_in}
use Rattle.kind_table.proofs.Spelling.{all_names_agree}
use Rattle.dep_order.specs.Ranks.{IsRanking, rank_after}
use Rattle.spec_reading.specs.Applications.{read_app, read_mode, read_modes, check_text}
use Rattle.spec_reading.specs.Names.{name_of_app, name_of_proc}
use Rattle.scram_doc.specs.Lists.{AllAfter, folded_from}
use Rattle.scram_types.specs.Lookups.{number_from}
use Rattle.dep_order.specs.Timetables.{is_named}
use Rattle.spec_reading.specs.Needs.{longest_chains, read_need, read_needs, ranked_at, read_unranked, with_needs, with_ranks}
use Rattle.spec_reading.specs.Processors.{read_proc, read_procs}
use Rattle.reconf_spec.specs.Texts.{app_data, name_of_kind, mode_data, name_of_mode, name_of_item, need_data, proc_data, name_or_nothing}
use Rattle.scram_doc.specs.Canonical.{list_data}
use Rattle.spec_reading.specs.Kept.{IsWritableApp, lists_mode, rank_of}
use Rattle.reconf_spec.proofs.Lookups.{all_new, number_back}
use Rattle.spec_reading.proofs.LongestChains.{all_small, ranks_are}
use Rattle.scram_doc.proofs.ReadBack.{elements_given, items_back, list_back, whole_back}

-- A processor is valid, and has a valid name that no processor before it has.
record NewProc (done : List Proc) (proc : Proc) : Type 0 where
  new : number_from name_of_proc 0 done proc.name ≡ None
  spelled : is_name proc.name ≡ true
  is : IsProc proc

proc_back : (at : List ℕ) (done : List Proc) (proc : Proc) → NewProc done proc → read_proc at done (proc_data proc) ≡ Ok proc
proc_back at done proc fits =
    let most = fits.is.capacity in
    rw (fits.spelled, fits.new, whole_back 0 1000001 proc.capacity (omega arith) (omega (arith, most))) refl

pub procs_back : (at : List ℕ) (procs : List Proc) → HasLength 1 8 procs → NamesDiffer name_of_proc procs → Each IsProc procs → Each (λ (proc : Proc). IsTrue (is_name proc.name)) procs
    → read_procs at (list_data proc_data procs) ≡ Ok procs
procs_back at procs count differ each named =
    list_back NewProc read_proc proc_data proc_back 1 8 at procs count.enough count.few
    (λ i x e. record { new = all_new name_of_proc procs differ i x e; spelled = named i x e; is = each i x e })

spelled_there : (name : Option (List ℕ)) → IsSome name → name ≡ Some (name_or_nothing name)
spelled_there None is = absurd (let wrong : false ≡ true = is in cc)
spelled_there (Some name) is = refl

pub mode_spelled : (kind mode : ℕ) → kind < 6 → 1 ≤ mode → mode ≤ modes_of_kind kind → number_in (mode_names kind) (name_of_mode kind mode) ≡ Some mode
mode_spelled kind mode below first last =
    let agree = all_names_agree.each kind below in
    agree.modes.named mode (name_of_mode kind mode) (spelled_there (name_in (mode_names kind) mode) (agree.mode_named mode (record { first = first; last = last })))

kind_spelled : (kind : ℕ) → kind < 6 → number_in kind_names (name_of_kind kind) ≡ Some kind
kind_spelled kind below = all_names_agree.kinds.named kind (name_of_kind kind) (spelled_there (name_in kind_names kind) (all_names_agree.each kind below).name)

record NewMode (kind : ℕ) (done : List ModeSpec) (listed : ModeSpec) : Type 0 where
  new : is_some (mode_in done listed.mode.0) ≡ false
  is : IsModeSpec kind listed

mode_back : (kind : ℕ) → kind < 6 → (at : List ℕ) (done : List ModeSpec) (listed : ModeSpec) → NewMode kind done listed → read_mode kind at done (mode_data kind listed) ≡ Ok listed
mode_back kind below at done listed fits =
    let is = fits.is in
    let load = is.load in
    let halt = is.halt.most in
    let prepare = is.prepare.most in
    let init = is.init.most in
    rw (
      mode_spelled kind listed.mode.0 below is.on is.of_kind,
      fits.new,
      whole_back 0 1000001 listed.load (omega arith) (omega (arith, load)),
      whole_back 1 17 listed.halt is.halt.least (omega (arith, halt)),
      whole_back 1 17 listed.prepare is.prepare.least (omega (arith, prepare)),
      whole_back 1 17 listed.init is.init.least (omega (arith, init)),
    ) refl

modes_back : (kind : ℕ) → kind < 6 → (at : List ℕ) (modes : List ModeSpec) → HasLength 1 3 modes → Each (IsModeSpec kind) modes → AllAfter (λ (done : List ModeSpec) (listed : ModeSpec). lists_mode done listed ≡ false) modes
    → read_modes kind at (list_data (mode_data kind) modes) ≡ Ok modes
modes_back kind below at modes count each new =
    list_back (NewMode kind) (read_mode kind) (mode_data kind) (mode_back kind below) 1 3 at modes count.enough count.few (λ i x e. record { new = new i x e; is = each i x e })

-- An application without its needs and its rank, and an application without its rank.
abbrev pub bare : AppSpec → AppSpec
bare app = record { name = app.name; kind = app.kind; needs = []; modes = app.modes; rank = 0 }

abbrev pub unranked : AppSpec → AppSpec
unranked app = record { name = app.name; kind = app.kind; needs = app.needs; modes = app.modes; rank = 0 }

abbrev needs_of : AppSpec → List AppId
needs_of app = app.needs

found_bare : (k : ℕ) (apps : List AppSpec) (text : List ℕ) → number_from name_of_app k (map bare apps) text ≡ number_from name_of_app k apps text
found_bare k [] text = refl
found_bare k (app ∷ apps) text = rw (found_bare (suc k) apps text) refl

texts_back : (apps : List AppSpec) (at : List ℕ) (i : ℕ) (needs : List AppId) → folded_from check_text at i tt (items_of (map (need_data apps) needs)) ≡ Ok tt
texts_back apps at i [] = refl
texts_back apps at i (need ∷ needs) = texts_back apps at (suc i) needs

record NewApp (apps : List AppSpec) (done : List AppSpec) (app : AppSpec) : Type 0 where
  new : number_from name_of_app 0 done app.name ≡ None
  spelled : is_name app.name ≡ true
  is : IsAppSpec apps app
  writable : IsWritableApp app

app_back : (apps : List AppSpec) (at : List ℕ) (done : List AppSpec) (app : AppSpec) → NewApp apps done app → read_app at (map bare done) (app_data apps app) ≡ Ok (bare app)
app_back apps at done app fits =
    let is = fits.is in
    rw (
      fits.spelled,
      found_bare 0 done app.name,
      fits.new,
      kind_spelled app.kind.0 is.kind,
      items_back (need_data apps) 0 8 (member_path at (codes "needs")) app.needs (omega arith) is.few_needs,
      texts_back apps (member_path at (codes "needs")) 0 app.needs,
      modes_back app.kind.0 is.kind (member_path at (codes "modes")) app.modes is.count is.modes fits.writable.modes,
    ) refl

record NewNeed (apps : List AppSpec) (done : List AppId) (need : AppId) : Type 0 where
  new : is_named done need.0 ≡ false
  there : need.0 < length apps

need_back : (apps : List AppSpec) → NamesDiffer name_of_app apps → (at : List ℕ) (done : List AppId) (need : AppId) → NewNeed apps done need → read_need (map bare apps) at done (need_data apps need) ≡ Ok need
need_back apps differ at done need fits =
    rw (found_bare 0 apps (name_of_item name_of_app apps need.0), number_back name_of_app apps need.0 differ fits.there, fits.new) refl

needs_back : (apps : List AppSpec) → NamesDiffer name_of_app apps → (at : List ℕ) (done : List AppSpec) (app : AppSpec) → NewApp apps done app
    → read_needs (map bare apps) at (map needs_of done) (app_data apps app) ≡ Ok (needs_of app)
needs_back apps differ at done app fits =
    list_back (NewNeed apps) (read_need (map bare apps)) (need_data apps) (need_back apps differ) 0 8 (member_path at (codes "needs")) app.needs (omega arith) fits.is.few_needs
    (λ i need e. record { new = fits.writable.needs i need e; there = slice_get_within apps need.0 (fits.is.needs i need e).lower (fits.is.needs i need e).there })

joined_back : (apps : List AppSpec) → with_needs (map bare apps) (map needs_of apps) ≡ map unranked apps
joined_back [] = refl
joined_back (app ∷ apps) = ap (λ (xs : List AppSpec). unranked app ∷ xs) (joined_back apps)

ranked_back : (apps : List AppSpec) → with_ranks (map unranked apps) (map rank_of apps) ≡ apps
ranked_back [] = refl
ranked_back (app ∷ apps) = ap (λ (xs : List AppSpec). app ∷ xs) (ranked_back apps)

-- If a value of an application does not depend on the rank, the list of these values is the same for the applications
-- without ranks.
over_unranked : (of : AppSpec → ℕ) (apps : List AppSpec) → ((app : AppSpec) → of (unranked app) ≡ of app) → map of (map unranked apps) ≡ map of apps
over_unranked of [] same = refl
over_unranked of (app ∷ apps) same = rw (same app, over_unranked of apps same) refl

chains_unranked : (links : ℕ) (apps : List AppSpec) → longest_chains links (map unranked apps) ≡ longest_chains links apps
chains_unranked zero apps = over_unranked (λ (app : AppSpec). 0) apps (λ app. refl)
chains_unranked (suc links) apps =
    rw (chains_unranked links apps) (over_unranked (λ (app : AppSpec). rank_after (longest_chains links apps) app.needs) apps (λ app. refl))

small_ranks : (apps whole : List AppSpec) → Each (IsAppSpec whole) apps → All (λ (rank : ℕ). rank < 8) (map rank_of apps)
small_ranks [] whole each = All-nil (λ (rank : ℕ). rank < 8)
small_ranks (app ∷ apps) whole each =
    All-cons (λ (rank : ℕ). rank < 8) app.rank (map rank_of apps) (each zero app refl).rank (small_ranks apps whole (λ i x e. each (suc i) x e))

pub ranks_back : (at : List ℕ) (apps : List AppSpec) → Each (IsAppSpec apps) apps → IsRanking apps (map rank_of apps) → ranked_at at (map unranked apps) ≡ Ok apps
ranks_back at apps each ranks =
    let small = small_ranks apps apps each in
    let chains : longest_chains 8 (map unranked apps) ≡ map rank_of apps = chains_unranked 8 apps ∙ ranks_are apps (map rank_of apps) ranks small in
    rw (chains, all_small (map rank_of apps) small, ranked_back apps) refl

pub unranked_back : (at : List ℕ) (apps : List AppSpec) → HasLength 1 8 apps → NamesDiffer name_of_app apps → AreSpelled name_of_app apps → Each (IsAppSpec apps) apps → Each IsWritableApp apps
    → read_unranked at (list_data (app_data apps) apps) ≡ Ok (map unranked apps)
unranked_back at apps count differ spelled each writable =
    let new : AllAfter (NewApp apps) apps = λ i app e. record { new = all_new name_of_app apps differ i app e; spelled = spelled i app e; is = each i app e; writable = writable i app e } in
    rw (
      items_back (app_data apps) 1 8 at apps count.enough count.few,
      elements_given (NewApp apps) read_app (app_data apps) bare (app_back apps) at 0 [] apps apps refl new,
      elements_given (NewApp apps) (read_needs (map bare apps)) (app_data apps) needs_of (needs_back apps differ) at 0 [] apps apps refl new,
      joined_back apps,
    ) refl
