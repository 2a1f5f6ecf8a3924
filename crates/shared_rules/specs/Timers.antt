-- The plain timers (lua-nginx-module, ngx.timer.at).
use Rattle.std.specs.Prelude.{ℕ, ◌+◌, nat_le, Bool, if◌then◌else◌}
use Rattle.resty_world.specs.declared.answers.TimerAnswer.{TimerAnswer}
use Rattle.resty_world.specs.declared.answers.TimerAnswer.TheVariants.{Job, Full, Exiting}

-- what a timer call is answered after Stop or before it, where so many jobs are pending and so many were accepted so far
abbrev pub timer_answer : Bool → ℕ → ℕ → TimerAnswer
timer_answer stopped pending accepted =
    if stopped then Exiting else if nat_le 256 pending then Full else Job (accepted + 1)
