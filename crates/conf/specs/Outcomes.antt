-- What a call may answer whose outcome is known but for memory: a form of this project.
use Rattle.std.specs.Prelude.{◌≡◌, Result, Err}
use Rattle.conf.specs.declared.faults.ConfFault.{ConfFault}
use Rattle.conf.specs.declared.faults.ConfFault.TheVariants.{Memory}

-- the outcome is this fault, unless out of memory
abbrev pub Refuses : {T : Type 0} → Result T ConfFault → ConfFault → Type 0
Refuses outcome Memory = Unit {0}
Refuses outcome fault = outcome ≡ Err fault
