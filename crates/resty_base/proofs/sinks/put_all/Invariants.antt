use Rattle.std.proofs.Common.{◌-◌, ◌≤◌, length, take}
use Rattle.resty_base.specs.Taking.{TakesAll}
use Rattle.resty_base.proofs.sinks.put_all.Given as goal

abbrev pub invariant-loop-done : goal.invariant-loop-done
invariant-loop-done g l =
    (l.done ≤ length l.bytes)
    × TakesAll (take l.done l.bytes) (g.S.Sink.account l.fn.sink) (g.S.Sink.account l.sink)

abbrev pub decreases-loop-done : goal.decreases-loop-done
decreases-loop-done g l = length l.bytes - l.done
