-- The number of faults in each script of a family.
use Rattle.std.specs.Prelude.{ℕ, List, Option, Some, None, bytes_eq, codes, if◌then◌else◌}
use Rattle.faults_form.specs.declared.counts.FaultCount.{FaultCount}
use Rattle.faults_form.specs.declared.counts.FaultCount.TheVariants.{One, Two, Three}

-- The number of faults, from 1 to 3.
abbrev pub number : FaultCount → ℕ
number One = 1
number Two = 2
number Three = 3

-- The number of faults that a word spells, or `None` if the word is not `1`, `2` or `3`.
abbrev pub fault_count : List ℕ → Option FaultCount
fault_count word =
    if bytes_eq word (codes "1") then Some One
    else (if bytes_eq word (codes "2") then Some Two else (if bytes_eq word (codes "3") then Some Three else None))
