-- The modes and the acts in the rows of a flight name only items of the specification.
use Rattle.std.proofs.Common.{◌≡◌, ◌∙◌, ℕ, suc, ◌<◌, ◌≤◌, ◌-◌, Bool, true, false, cond, List, [], ◌∷◌, length, arith, refl, sym, subst}
use Rattle.std.specs.Prelude.{◌==◌, ⊤, nat_lt, Option, Some, None, IsSome, option_and_then, slice_get}
use Rattle.std.specs.Option.{option_map_or}
use Rattle.std.proofs.lemmas.Bool.{ltb-true}
use Rattle.std.proofs.lemmas.Option.{slice_get_within}
use Rattle.scram_types.specs.declared.rows.Env.{Env}
use Rattle.scram_types.specs.declared.ids.ConfId.{ConfId}
use Rattle.scram_types.specs.declared.limits.TheConstants.{MAX_FRAMES}
use Rattle.scram_types.specs.declared.orders.KMode.{KMode}
use Rattle.scram_types.specs.declared.orders.KMode.TheVariants.{Stable, Moving}
use Rattle.scram_types.specs.declared.orders.Order.{Order}
use Rattle.scram_types.specs.declared.orders.Order.TheVariants as order
use Rattle.scram_types.specs.declared.specification.AppSpec.{AppSpec}
use Rattle.scram_types.specs.declared.specification.Choice.{Choice}
use Rattle.scram_types.specs.declared.specification.Conf.{Conf}
use Rattle.scram_types.specs.declared.specification.ModeSpec.{ModeSpec}
use Rattle.scram_types.specs.declared.specification.Place.{Place}
use Rattle.scram_types.specs.declared.specification.Policy.{Policy}
use Rattle.scram_types.specs.declared.specification.Policy.TheVariants.{Retarget, Settle}
use Rattle.scram_types.specs.Specification.{Each, IsChoice, IsIn, IsModeSpec, IsPlace, IsSpec, Parts, mode_in, place_in}
use Rattle.scram_types.specs.Lookups.{mode_of, mode_of_app, place_of}
use Rattle.scram_types.proofs.Options.{same_some}
use Rattle.choice_table.specs.Choices.{choose, is_runnable, rule_fits, target_among}
use Rattle.frame_model.specs.declared.phases.Phase.{Phase}
use Rattle.frame_model.specs.declared.phases.Phase.TheVariants as phase
use Rattle.frame_model.specs.declared.tasks.Task as order_tasks
use Rattle.scram_types.specs.declared.orders.Act as act_kinds
use Rattle.scram_types.specs.declared.orders.Act.TheVariants as act_names
use Rattle.frame_model.specs.Decisions.{decision, leave_for, moving_decision, stable_decision, turn_to, wanted}
use Rattle.frame_model.specs.Phases.{halting_frames}
use Rattle.frame_model.specs.States.{act_of_order, act_on}
use Rattle.frame_model.specs.Tasks.{halting_order, initialising_order, off_task, preparing_order, task_at, task_for, task_in}
use Rattle.trace_text.specs.Flights.{IsActShown, IsModeShown, IsMove}

-- The configuration that the rules choose belongs to the specification.

target_by : (t : Bool) (spec : Parts) (one other : ConfId) → IsIn spec.confs one → IsIn spec.confs other → IsIn spec.confs (cond t one other)
target_by true spec one other h k = h
target_by false spec one other h k = k

target_known : (spec : Parts) (rules : List Choice) (c : ConfId) (v : Env) → Each (IsChoice spec.procs spec.confs spec.factors) rules → IsIn spec.confs c → IsIn spec.confs (target_among rules c v)
target_known spec [] c v sound known = known
target_known spec (rule ∷ rules) c v sound known =
    target_by (rule_fits c v rule) spec rule.to (target_among rules c v) (sound 0 rule refl).to (target_known spec rules c v (λ i x there. sound (suc i) x there) known)

chosen_known : (spec : Parts) (c : ConfId) (v : Env) → IsSpec spec → IsIn spec.confs c → IsIn spec.confs (choose spec c v)
chosen_known spec c v sound known = target_known spec spec.rules c v sound.rules known

mode_by : (t : Bool) (spec : Parts) (m n : KMode) → IsModeShown spec m → IsModeShown spec n → IsModeShown spec (cond t m n)
mode_by true spec m n h k = h
mode_by false spec m n h k = k

leave_shown : (spec : Parts) (c t : ConfId) (frame : ℕ) → IsIn spec.confs c → IsIn spec.confs t → frame < MAX_FRAMES → IsModeShown spec (leave_for c t frame)
leave_shown spec c t frame known chosen low =
    mode_by (t.0 == c.0) spec (Stable c) (Moving c (Some c) t frame) known (record { source = known; halts = known; target = chosen; begun = low })

stable_shown : (spec : Parts) (c : ConfId) (frame : ℕ) (v : Env) → IsSpec spec → IsIn spec.confs c → frame < MAX_FRAMES → IsModeShown spec (stable_decision spec c frame v)
stable_shown spec c frame v sound known low = leave_shown spec c (choose spec c v) frame known (chosen_known spec c v sound known) low

wanted_known : (policy : Policy) (spec : Parts) (from to : ConfId) (v : Env) → IsSpec spec → IsIn spec.confs from → IsIn spec.confs to → IsIn spec.confs (wanted policy spec from to v)
wanted_known Retarget spec from to v sound source target = chosen_known spec from v sound source
wanted_known Settle spec from to v sound source target = target_by (is_runnable spec to v) spec to (choose spec from v) target (chosen_known spec from v sound source)

turn_shown : (spec : Parts) (frame : ℕ) (from : ConfId) (halting : Option ConfId) (to : ConfId) (since : ℕ) (settled : Bool) (t : ConfId) → IsMove spec from halting to since → IsIn spec.confs t → frame < MAX_FRAMES →
    IsModeShown spec (turn_to spec frame from halting to since settled t)
turn_shown spec frame from halting to since settled t move chosen low =
    mode_by (nat_lt (frame - since) (halting_frames spec halting)) spec (Moving from halting t since) (cond settled (Moving from (Some to) t frame) (Moving from None t frame))
    (record { source = move.source; halts = move.halts; target = chosen; begun = move.begun })
    (mode_by settled spec (Moving from (Some to) t frame) (Moving from None t frame)
    (record { source = move.source; halts = move.target; target = chosen; begun = low }) (record { source = move.source; halts = tt; target = chosen; begun = low }))

pub decision_shown : (spec : Parts) (frame : ℕ) (mode : KMode) (settled arrived : Bool) (v : Env) → IsSpec spec → IsModeShown spec mode → frame < MAX_FRAMES →
    IsModeShown spec (decision spec frame mode settled arrived v)
decision_shown spec frame (Stable c) settled arrived v sound known low = stable_shown spec c frame v sound known low
decision_shown spec frame (Moving from halting to since) settled arrived v sound move low =
    let t = wanted spec.policy spec from to v in
    let chosen = wanted_known spec.policy spec from to v sound move.source move.target in
    mode_by arrived spec (stable_decision spec to frame v) (moving_decision spec frame from halting to since settled t) (stable_shown spec to frame v sound move.target low)
    (mode_by (t.0 == to.0) spec (Moving from halting to since) (turn_to spec frame from halting to since settled t) move (turn_shown spec frame from halting to since settled t move chosen low))

-- Lemmas that the place of an application in a configuration names items of the specification.

placed_in : (spec : Parts) → IsSpec spec → (c a : ℕ) (found : Option Conf) → slice_get spec.confs c ≡ found → (place : Place) → option_and_then (λ (conf : Conf). place_in conf a) found ≡ Some place →
    IsPlace spec.procs spec.apps a place
placed_in spec sound c a None there place is = absurd (let e = is in cc)
placed_in spec sound c a (Some conf) there place is = (sound.confs c conf there).places a place is

pub placed : (spec : Parts) → IsSpec spec → (c : ConfId) (a : ℕ) (place : Place) → place_of spec c a ≡ Some place → IsPlace spec.procs spec.apps a place
placed spec sound c a place is = placed_in spec sound c.0 a (slice_get spec.confs c.0) refl place is

-- Lemmas on the listed modes and the numbers of frames of their phases.

listed_by : (t : Bool) (kind : ℕ) (listed : ModeSpec) (more : Option ModeSpec) (found : ModeSpec) → IsModeSpec kind listed → (more ≡ Some found → IsModeSpec kind found) →
    cond t (Some listed) more ≡ Some found → IsModeSpec kind found
listed_by true kind listed more found one rest is = let same : listed ≡ found = same_some listed found is in rw (← same) one
listed_by false kind listed more found one rest is = rest is

mode_listed : (kind : ℕ) (modes : List ModeSpec) (m : ℕ) (found : ModeSpec) → Each (IsModeSpec kind) modes → mode_in modes m ≡ Some found → IsModeSpec kind found
mode_listed kind [] m found sound is = absurd (let e = is in cc)
mode_listed kind (listed ∷ modes) m found sound is =
    listed_by (listed.mode.0 == m) kind listed (mode_in modes m) found (sound 0 listed refl) (mode_listed kind modes m found (λ i x there. sound (suc i) x there)) is

-- Each phase of a mode takes at most 16 frames.
pub record AreShort (listed : ModeSpec) : Type 0 where
  pub halt : listed.halt ≤ 16
  pub prepare : listed.prepare ≤ 16
  pub init : listed.init ≤ 16

short_of : (kind : ℕ) (listed : ModeSpec) → IsModeSpec kind listed → AreShort listed
short_of kind listed sound = record { halt = sound.halt.most; prepare = sound.prepare.most; init = sound.init.most }

app_short : (spec : Parts) → IsSpec spec → (a m : ℕ) (app : Option AppSpec) → slice_get spec.apps a ≡ app → (listed : ModeSpec) → option_and_then (λ (x : AppSpec). mode_in x.modes m) app ≡ Some listed → AreShort listed
app_short spec sound a m None there listed is = absurd (let e = is in cc)
app_short spec sound a m (Some app) there listed is = short_of app.kind.0 listed (mode_listed app.kind.0 app.modes m listed (sound.apps a app there).modes is)

place_short : (spec : Parts) → IsSpec spec → (a : ℕ) (place : Option Place) (listed : ModeSpec) → option_and_then (λ (p : Place). mode_of_app spec a p.mode.0) place ≡ Some listed → AreShort listed
place_short spec sound a None listed is = absurd (let e = is in cc)
place_short spec sound a (Some place) listed is = app_short spec sound a place.mode.0 (slice_get spec.apps a) refl listed is

time_by : (o : Option ModeSpec) (time : ModeSpec → ℕ) → ((listed : ModeSpec) → o ≡ Some listed → time listed ≤ 16) → option_map_or time o 0 ≤ 16
time_by None time h = omega arith
time_by (Some listed) time h = h listed refl

pub time_short : (spec : Parts) → IsSpec spec → (c : ConfId) (a : ℕ) (time : ModeSpec → ℕ) → ((listed : ModeSpec) → AreShort listed → time listed ≤ 16) → option_map_or time (mode_of spec c a) 0 ≤ 16
time_short spec sound c a time h = time_by (mode_of spec c a) time (λ listed is. h listed (place_short spec sound a (place_of spec c a) listed is))

-- Lemmas that a frame of a phase in an order is less than the length of the phase.

-- If an order has a frame of a phase, the frame is less than the length of the phase, which is at most 16 frames.
abbrev pub IsOrderShown : Order → Type 0
IsOrderShown order.Run = ⊤
IsOrderShown (order.Halt k n) = (k < n) × (n ≤ 16)
IsOrderShown order.Hold = ⊤
IsOrderShown (order.Prepare k n) = (k < n) × (n ≤ 16)
IsOrderShown (order.Init k n) = (k < n) × (n ≤ 16)
IsOrderShown order.Off = ⊤

order_by : (t : Bool) (one other : Order) → (t ≡ true → IsOrderShown one) → IsOrderShown other → IsOrderShown (cond t one other)
order_by true one other h k = h refl
order_by false one other h k = k

halting_shown : (offset time age : ℕ) → time ≤ 16 → IsOrderShown (halting_order offset time age)
halting_shown offset time age short =
    order_by (nat_lt age offset) order.Run (cond (nat_lt (age - offset) time) (order.Halt (age - offset) time) order.Hold) (λ e. tt)
    (order_by (nat_lt (age - offset) time) (order.Halt (age - offset) time) order.Hold (λ e. (ltb-true (age - offset) time e, short)) tt)

preparing_shown : (time age : ℕ) → time ≤ 16 → IsOrderShown (preparing_order time age)
preparing_shown time age short = order_by (nat_lt age time) (order.Prepare age time) order.Hold (λ e. (ltb-true age time e, short)) tt

initialising_shown : (offset time age : ℕ) → time ≤ 16 → IsOrderShown (initialising_order offset time age)
initialising_shown offset time age short =
    order_by (nat_lt age offset) order.Hold (cond (nat_lt (age - offset) time) (order.Init (age - offset) time) order.Hold) (λ e. tt)
    (order_by (nat_lt (age - offset) time) (order.Init (age - offset) time) order.Hold (λ e. (ltb-true (age - offset) time e, short)) tt)

-- The task of application `a` is either to be off or an order at the application's place.
pub data IsTold (spec : Parts) (a : ℕ) (told : order_tasks.Task) : Type 0 where
  Nothing : told ≡ off_task → IsTold spec a told
  Told : (o : Order) (place : Place) → told ≡ task_at o place → IsOrderShown o → IsPlace spec.procs spec.apps a place → IsTold spec a told

told_for : (spec : Parts) → IsSpec spec → (c : ConfId) (a : ℕ) (o : Order) (place : Option Place) → place_of spec c a ≡ place → IsOrderShown o → IsTold spec a (task_for o place)
told_for spec sound c a o None is shown = Nothing refl
told_for spec sound c a o (Some place) is shown = Told o place refl shown (placed spec sound c a place is)

pub task_told : (spec : Parts) → IsSpec spec → (p : Phase) (a : ℕ) → IsTold spec a (task_in spec p a)
task_told spec sound (phase.Running c) a = told_for spec sound c a order.Run (place_of spec c a) refl tt
task_told spec sound (phase.Halting c age) a = told_for spec sound c a _ (place_of spec c a) refl (halting_shown _ _ age (time_short spec sound c a (λ (listed : ModeSpec). listed.halt) (λ listed short. short.halt)))
task_told spec sound (phase.Preparing c age) a = told_for spec sound c a _ (place_of spec c a) refl (preparing_shown _ age (time_short spec sound c a (λ (listed : ModeSpec). listed.prepare) (λ listed short. short.prepare)))
task_told spec sound (phase.Initialising c age) a = told_for spec sound c a _ (place_of spec c a) refl (initialising_shown _ _ age (time_short spec sound c a (λ (listed : ModeSpec). listed.init) (λ listed short. short.init)))

-- Lemmas that the act of an application in a row satisfies `IsActShown`.

order_act : (spec : Parts) (a : ℕ) (app : AppSpec) (o : Order) (place : Place) → slice_get spec.apps a ≡ Some app → IsOrderShown o → IsPlace spec.procs spec.apps a place →
    IsActShown spec app (act_of_order o place.mode place.proc)
order_act spec a app order.Run place there shown at =
    let same : at.app ≡ app = same_some at.app app (sym at.there ∙ there) in
    record { listed = subst (λ (x : AppSpec). IsSome (mode_in x.modes place.mode.0)) same at.listed; on = at.on }
order_act spec a app (order.Halt k n) place there shown at = record { inside = shown.0; most = shown.1; on = at.on }
order_act spec a app order.Hold place there shown at = tt
order_act spec a app (order.Prepare k n) place there shown at = record { inside = shown.0; most = shown.1; on = at.on }
order_act spec a app (order.Init k n) place there shown at = record { inside = shown.0; most = shown.1; on = at.on }
order_act spec a app order.Off place there shown at = tt

lost_by : (t : Bool) (spec : Parts) (app : AppSpec) (did : act_kinds.Act) → IsActShown spec app did → IsActShown spec app (cond t did act_names.Lost)
lost_by true spec app did h = h
lost_by false spec app did h = tt

pub act_shown : (spec : Parts) (a : ℕ) (app : AppSpec) (commits : ℕ → Bool) (told : order_tasks.Task) → slice_get spec.apps a ≡ Some app → IsTold spec a told → IsActShown spec app (act_on commits told told.proc)
act_shown spec a app commits told there (Nothing is) = rw is tt
act_shown spec a app commits told there (Told o place is shown at) =
    rw is (lost_by (commits place.proc.0) spec app (act_of_order o place.mode place.proc) (order_act spec a app o place there shown at))

pub act_idle : (spec : Parts) (a : ℕ) (commits : ℕ → Bool) (told : order_tasks.Task) → length spec.apps ≤ a → IsTold spec a told → act_on commits told told.proc ≡ act_names.Off
act_idle spec a commits told past (Nothing is) = rw is refl
act_idle spec a commits told past (Told o place is shown at) = absurd (let low = slice_get_within spec.apps a at.app at.there in omega (arith, low, past))
