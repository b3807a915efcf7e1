-- The kernel's decision at the start of a frame.
use Rattle.std.specs.Prelude.{ℕ, ◌-◌, ◌==◌, Bool, nat_lt, Option, Some, None, if◌then◌else◌}
use Rattle.scram_types.specs.declared.ids.ConfId.{ConfId}
use Rattle.scram_types.specs.declared.rows.Env.{Env}
use Rattle.scram_types.specs.declared.orders.KMode.{KMode}
use Rattle.scram_types.specs.declared.orders.KMode.TheVariants.{Stable, Moving}
use Rattle.scram_types.specs.declared.specification.Policy.{Policy}
use Rattle.scram_types.specs.declared.specification.Policy.TheVariants.{Retarget, Settle}
use Rattle.scram_types.specs.Specification.{Parts}
use Rattle.choice_table.specs.Choices.{choose, is_runnable}
use Rattle.frame_model.specs.Phases.{halting_frames}

-- The mode in frame `frame` if configuration `c` runs and `t` is chosen: stable in `c` if `t` is `c`, or else moving
-- from `c` to `t`.
abbrev pub leave_for : ConfId → ConfId → ℕ → KMode
leave_for c t frame = if t.0 == c.0 then Stable c else Moving c (Some c) t frame

-- The decision in the stable mode of configuration `c`: `c` stays stable if the choice table chooses it, or else is
-- left for the chosen configuration.
abbrev pub stable_decision : Parts → ConfId → ℕ → Env → KMode
stable_decision spec c frame v = leave_for c (choose spec c v) frame

-- The target that the policy chooses for a reconfiguration: the table's choice from the source, except that `Settle`
-- keeps the old target while it can run.
abbrev pub wanted : Policy → Parts → ConfId → ConfId → Env → ConfId
wanted Retarget spec from to v = choose spec from v
wanted Settle spec from to v = if is_runnable spec to v then to else choose spec from v

-- The mode if a reconfiguration under way changes its target to `t`. While a configuration halts, only the target
-- changes. After that, the phases begin anew in frame `frame`. The old target `to` halts first if `settled` is
-- `true`, and nothing halts otherwise.
abbrev pub turn_to : Parts → ℕ → ConfId → Option ConfId → ConfId → ℕ → Bool → ConfId → KMode
turn_to spec frame from halting to since settled t =
    if nat_lt (frame - since) (halting_frames spec halting) then Moving from halting t since
    else (if settled then Moving from (Some to) t frame else Moving from None t frame)

-- The decision in a moving mode, given the target `t` that the policy chooses. The mode does not change if `t` is the
-- present target `to`. Otherwise the target changes to `t`.
abbrev pub moving_decision : Parts → ℕ → ConfId → Option ConfId → ConfId → ℕ → Bool → ConfId → KMode
moving_decision spec frame from halting to since settled t =
    if t.0 == to.0 then Moving from halting to since else turn_to spec frame from halting to since settled t

-- The decision at the start of a frame, given the mode of the preceding frame. `settled` is `true` if the preceding
-- frame was settled. `arrived` is `true` if the preceding frame was settled and its row ran the target.
abbrev pub decision : Parts → ℕ → KMode → Bool → Bool → Env → KMode
decision spec frame (Stable c) settled arrived v = stable_decision spec c frame v
decision spec frame (Moving from halting to since) settled arrived v =
    if arrived then stable_decision spec to frame v
    else moving_decision spec frame from halting to since settled (wanted spec.policy spec from to v)
