-- The factors' values in a frame, the processors that are up in the frame, and the processors that commit it.
use Rattle.std.specs.Prelude.{ℕ, zero, suc, ◌*◌, Bool, true, not, ◌&&◌, ◌==◌, nat_lt, nat_le, List, [], ◌∷◌, length, find, Option, Some, None, option_map, if◌then◌else◌}
use Rattle.std.specs.List.{list_any}
use Rattle.scram_types.specs.declared.scripts.Change.{Change}
use Rattle.scram_types.specs.declared.scripts.HaltAt.{HaltAt}
use Rattle.scram_types.specs.declared.scripts.RestartAt.{RestartAt}
use Rattle.scram_types.specs.Scripts.{ScriptParts}
use Rattle.scram_types.specs.Specification.{Parts}

-- The value of factor `x` in frame `f` after these changes, given the value before them.
abbrev pub value_after : List Change → ℕ → ℕ → ℕ → ℕ
value_after [] x f value = value
value_after (change ∷ changes) x f value =
    value_after changes x f (if change.factor.0 == x && nat_le change.frame f then change.value else value)

-- The value of factor `x` in frame `f`: the value of its last change up to `f`, or 0, its first value, if there is
-- none.
abbrev pub factor_at : ScriptParts → ℕ → ℕ → ℕ
factor_at script x f = value_after script.changes x f 0

-- The values of the six factors in frame `f`.
abbrev pub factors_at : ScriptParts → ℕ → List ℕ
factors_at script f = factor_at script 0 f ∷ factor_at script 1 f ∷ factor_at script 2 f ∷ factor_at script 3 f ∷ factor_at script 4 f
    ∷ factor_at script 5 f ∷ []

-- Whether a halt is of processor `p`.
abbrev pub is_halt_of : ℕ → HaltAt → Bool
is_halt_of p halt = halt.proc.0 == p

-- Whether a halt is of processor `p` and in frame `f`.
abbrev pub is_halt_in : ℕ → ℕ → HaltAt → Bool
is_halt_in p f halt = halt.proc.0 == p && halt.frame == f

-- Whether a restart is of processor `p`.
abbrev pub is_restart_of : ℕ → RestartAt → Bool
is_restart_of p restart = restart.proc.0 == p

-- Whether a restart is of processor `p`, after frame `h`, and in frame `f` or an earlier one.
abbrev pub is_restart_between : ℕ → ℕ → ℕ → RestartAt → Bool
is_restart_between p h f restart = restart.proc.0 == p && nat_lt h restart.frame && nat_le restart.frame f

-- The first halt of processor `p`, or `None` if it never halts.
abbrev pub halt_of : ScriptParts → ℕ → Option HaltAt
halt_of script p = find (is_halt_of p) script.halts

-- The halt of processor `p` in frame `f`, or `None` if it does not halt in `f`.
abbrev pub halt_in : ScriptParts → ℕ → ℕ → Option HaltAt
halt_in script p f = find (is_halt_in p f) script.halts

-- The frame in which processor `p` restarts, or `None` if it never does.
abbrev pub restart_of : ScriptParts → ℕ → Option ℕ
restart_of script p = option_map (λ (restart : RestartAt). restart.frame) (find (is_restart_of p) script.restarts)

-- Whether processor `p` halts in frame `f`.
abbrev pub halts_in : ScriptParts → ℕ → ℕ → Bool
halts_in script p f = list_any (is_halt_in p f) script.halts

-- The latest frame below `f` in which processor `p` halts, or `None` if there is no such frame.
abbrev pub latest_halt : ScriptParts → ℕ → ℕ → Option ℕ
latest_halt script p zero = None
latest_halt script p (suc f) = if halts_in script p f then Some f else latest_halt script p f

-- Whether processor `p` restarts after frame `h`, and in frame `f` or an earlier one.
abbrev pub restarted : ScriptParts → ℕ → ℕ → ℕ → Bool
restarted script p h f = list_any (is_restart_between p h f) script.restarts

-- Whether processor `p` restarts in frame `f`.
abbrev pub restarts_in : ScriptParts → ℕ → ℕ → Bool
restarts_in script p f = list_any (λ (restart : RestartAt). restart.proc.0 == p && restart.frame == f) script.restarts

-- Whether processor `p` is up in frame `f`, given its latest halt in a frame below `f`.
abbrev pub is_up_since : ScriptParts → ℕ → ℕ → Option ℕ → Bool
is_up_since script p f None = true
is_up_since script p f (Some h) = restarted script p h f

-- Whether processor `p` is up in frame `f`: it has no halt in a frame below `f`, or has restarted since the latest
-- such halt, up to frame `f`.
abbrev pub is_up : ScriptParts → ℕ → ℕ → Bool
is_up script p f = is_up_since script p f (latest_halt script p f)

-- Whether a halt does not keep processor `p` down in frame `f`: the halt is not of `p`, or not in a frame below `f`,
-- or `p` has restarted since, up to frame `f`.
abbrev pub is_over : ScriptParts → ℕ → ℕ → HaltAt → Bool
is_over script p f halt = not (halt.proc.0 == p && nat_lt halt.frame f && not (restarted script p halt.frame f))

-- The number of words of an image, which is eight for each application.
abbrev pub words : Parts → ℕ
words spec = 8 * length spec.apps

-- Whether processor `p` halts in frame `f` before its mark.
abbrev pub halts_before_mark : Parts → ScriptParts → ℕ → ℕ → Bool
halts_before_mark spec script p f = list_any (λ (halt : HaltAt). is_halt_in p f halt && nat_le halt.step (words spec)) script.halts

-- Whether processor `p` halts in frame `f` after its mark.
abbrev pub halts_after_mark : Parts → ScriptParts → ℕ → ℕ → Bool
halts_after_mark spec script p f = halts_in script p f && not (halts_before_mark spec script p f)

-- Whether processor `p` commits frame `f`: it is up in `f`, and does not halt in `f` before its mark.
abbrev pub commits : Parts → ScriptParts → ℕ → ℕ → Bool
commits spec script p f = is_up script p f && not (halts_before_mark spec script p f)
