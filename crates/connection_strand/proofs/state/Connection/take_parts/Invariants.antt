use Rattle.std.proofs.Common.{length}
use Rattle.connection_strand.specs.Views.{view_of}
use Rattle.connection_strand.proofs.Parts.{Taken}
use Rattle.connection_strand.proofs.Paying.{Taking}
use Rattle.connection_strand.proofs.state.Connection.take_parts.Given as goal

-- what is left of the turn leads to where all of it leads, and what was taken is paid for
abbrev pub invariant-loop-part : goal.invariant-loop-part
invariant-loop-part g l =
    let site = l.site in
    let v = view_of (g.R.RunContract.meaning site) (g.R.ServiceContract.serving site) in
    Taken v l.turn.moment.0 l.fn.next l.fn.self l.fn.progress l.goes_on l.next.does.items l.self l.progress
    × Taking g.R.RunContract.left g.R.ServiceContract.bound l.fn.next.does.items l.fn.self l.fn.progress l.next.does.items l.self l.progress

abbrev pub decreases-loop-part : goal.decreases-loop-part
decreases-loop-part g l = length l.next.does.items
