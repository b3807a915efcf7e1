-- The modes, applications and processors that are idle, since no configuration uses them.
use Rattle.std.specs.Prelude.{ℕ, Bool, false, not, ◌==◌, is_some, Option}
use Rattle.std.specs.List.{list_any}
use Rattle.std.specs.Option.{option_map_or}
use Rattle.scram_types.specs.Specification.{Parts, place_in}
use Rattle.scram_types.specs.declared.specification.Conf.{Conf}
use Rattle.scram_types.specs.declared.specification.Place.{Place}
use Rattle.spec_forms.specs.choice_forms.Choosing.{is_placed_on}

-- Whether there is a place, and its mode is `m`.
abbrev pub is_in_mode : ℕ → Option Place → Bool
is_in_mode m place = option_map_or (λ (p : Place). p.mode.0 == m) place false

-- Whether some configuration places application `a` in mode `m`.
abbrev pub is_mode_placed : Parts → ℕ → ℕ → Bool
is_mode_placed spec a m = list_any (λ (conf : Conf). is_in_mode m (place_in conf a)) spec.confs

-- Whether some configuration places application `a`.
abbrev pub is_app_placed : Parts → ℕ → Bool
is_app_placed spec a = list_any (λ (conf : Conf). is_some (place_in conf a)) spec.confs

-- Whether some configuration places an application on processor `p`.
abbrev pub is_proc_used : Parts → ℕ → Bool
is_proc_used spec p = list_any (λ (conf : Conf). list_any (is_placed_on p) conf.places) spec.confs

-- Whether no configuration places application `a` in mode `m`.
abbrev pub is_mode_idle : Parts → ℕ → ℕ → Bool
is_mode_idle spec a m = not (is_mode_placed spec a m)

-- Whether no configuration places application `a`.
abbrev pub is_app_idle : Parts → ℕ → Bool
is_app_idle spec a = not (is_app_placed spec a)

-- Whether no configuration places an application on processor `p`.
abbrev pub is_proc_idle : Parts → ℕ → Bool
is_proc_idle spec p = not (is_proc_used spec p)
