use Rattle.std.proofs.Common.{rules}
use Rattle.schedule.proofs.peer.Peer.takes.Goals as goal

pub returns-in-Some-clause-least : goal.returns-in-Some-clause-least
returns-in-Some-clause-least c = search rules
