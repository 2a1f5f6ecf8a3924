-- Runs of data, which are read at once.
use Rattle.std.specs.Prelude.{ℕ, ◌+◌, ◌-◌, nat_lt, if◌then◌else◌}
use Rattle.http_bodies.specs.declared.states.DataOf.{DataOf}
use Rattle.http_bodies.specs.declared.states.BodyState.{BodyState}
use Rattle.http_bodies.specs.declared.states.BodyState.TheVariants.{Data}
use Rattle.http_bodies.specs.States.{data_end}

-- how many of so many bytes are data, where one and `more` are still to come
abbrev pub run_length : ℕ → ℕ → ℕ
run_length more count = if nat_lt more count then more + 1 else count

-- how far the body is after them
abbrev pub after_run : ℕ → DataOf → ℕ → BodyState
after_run more of count = if nat_lt more count then data_end of else Data (more - count) of
