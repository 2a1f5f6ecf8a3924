use Rattle.std.proofs.Common.{◌≡◌, ◌++◌, take}
use Rattle.connection_strand.specs.Acts.{hang_ups}
use Rattle.connection_strand.proofs.state.Connection.hang_up_sockets.Given as goal

abbrev pub invariant-loop-socket : goal.invariant-loop-socket
invariant-loop-socket g l = record {
  acts : l.progress.acts.items ≡ l.fn.progress.acts.items ++ hang_ups (take l.socket-index l.self.sockets.items);
  offered : l.progress.is_offered ≡ l.fn.progress.is_offered;
}
