use Rattle.connection_strand.specs.Views.{view_of}
use Rattle.connection_strand.proofs.Loops.{IsSettling, Spent, rounds}
use Rattle.connection_strand.proofs.state.Connection.settle_all.Given as goal

abbrev pub invariant-loop-goes_on : goal.invariant-loop-goes_on
invariant-loop-goes_on g l =
    IsSettling (view_of (g.R.RunContract.meaning l.site) (g.R.ServiceContract.serving l.site)) l.turn.moment.0 l.goes_on l.fn.self l.fn.progress l.self l.progress
    × Spent g.R.RunContract.left g.R.ServiceContract.bound l.goes_on l.fn.self l.fn.progress l.self l.progress

abbrev pub decreases-loop-goes_on : goal.decreases-loop-goes_on
decreases-loop-goes_on g l = rounds g.R.RunContract.left g.R.ServiceContract.bound l.goes_on l.self l.progress
