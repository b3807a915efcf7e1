-- The rules of a script's lists: their order, and how halts and restarts of a processor alternate.
use Rattle.std.specs.Prelude.{ℕ, ◌+◌, ◌-◌, Bool, true, not, ◌&&◌, ◌||◌, ◌==◌, nat_lt, nat_le, List, [], ◌∷◌, length, Option, Some, None, slice_get, if◌then◌else◌}
use Rattle.std.specs.List.{list_any}
use Rattle.scram_types.specs.declared.scripts.Change.{Change}
use Rattle.scram_types.specs.declared.scripts.HaltAt.{HaltAt}
use Rattle.scram_types.specs.declared.scripts.RestartAt.{RestartAt}
use Rattle.fault_script.specs.declared.version.Version.{Version}
use Rattle.fault_script.specs.declared.version.Version.TheVariants.{First, Second}
use Rattle.fault_script.specs.Times.{is_halt_of, is_restart_of}

-- Whether a frame and a number come after the last frame and number, in the order by frame and then by number.
abbrev pub comes_after : ℕ → ℕ → ℕ → ℕ → Bool
comes_after last_frame last_number frame number = nat_lt last_frame frame || (last_frame == frame && nat_lt last_number number)

-- The last item of a list, or `None` if the list is empty.
abbrev pub last_of : {A : Type 0} → List A → Option A
last_of xs = slice_get xs (length xs - 1)

-- Whether a change comes after an optional last change. The value is `true` for `None`.
abbrev pub change_after : Option Change → Change → Bool
change_after None change = true
change_after (Some last) change = comes_after last.frame last.factor.0 change.frame change.factor.0

-- Whether a change comes after the preceding ones.
abbrev pub change_follows : List Change → Change → Bool
change_follows before change = change_after (last_of before) change

-- Whether a halt comes after an optional last halt. The value is `true` for `None`.
abbrev pub halt_after : Option HaltAt → HaltAt → Bool
halt_after None halt = true
halt_after (Some last) halt = comes_after last.frame last.proc.0 halt.frame halt.proc.0

-- Whether a halt comes after the preceding ones. In the first version, its processor must also not have halted
-- before.
abbrev pub halt_follows : Version → List HaltAt → HaltAt → Bool
halt_follows First before halt = halt_after (last_of before) halt && not (list_any (is_halt_of halt.proc.0) before)
halt_follows Second before halt = halt_after (last_of before) halt

-- Whether a restart comes after an optional last restart. The value is `true` for `None`.
abbrev pub restart_after : Option RestartAt → RestartAt → Bool
restart_after None restart = true
restart_after (Some last) restart = comes_after last.frame last.proc.0 restart.frame restart.proc.0

-- Whether a halt is of processor `p` and two frames or more before frame `f`.
abbrev pub is_halt_before : ℕ → ℕ → HaltAt → Bool
is_halt_before p f halt = halt.proc.0 == p && nat_le (halt.frame + 2) f

-- Whether a restart comes after the preceding ones, is the first of its processor, and is two frames or more after a
-- halt of its processor.
abbrev pub restart_follows : List HaltAt → List RestartAt → RestartAt → Bool
restart_follows halts before restart =
    restart_after (last_of before) restart
    && not (list_any (is_restart_of restart.proc.0) before)
    && list_any (is_halt_before restart.proc.0 restart.frame) halts

-- The number of halts of processor `p`.
abbrev pub halts_of : ℕ → List HaltAt → ℕ
halts_of p [] = 0
halts_of p (halt ∷ halts) = (if halt.proc.0 == p then 1 else 0) + halts_of p halts

-- Whether a restart is of processor `p` and in frame `f` or an earlier one.
abbrev pub is_restart_by : ℕ → ℕ → RestartAt → Bool
is_restart_by p f restart = restart.proc.0 == p && nat_le restart.frame f

-- Whether the processor of `halt` may have this halt after the halts `before`. Either the processor has no halt in
-- `before`, or it has one halt in `before` and restarts in the frame of `halt` or an earlier frame.
abbrev pub may_halt : List RestartAt → List HaltAt → HaltAt → Bool
may_halt restarts before halt =
    halts_of halt.proc.0 before == 0
    || (halts_of halt.proc.0 before == 1 && list_any (is_restart_by halt.proc.0 halt.frame) restarts)
