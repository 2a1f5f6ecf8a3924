use Rattle.std.proofs.Common.{arith}
use Rattle.std.proofs.lemmas.Grind.{common_steps}
use Rattle.schedule.proofs.peers.Peers.set.Goals as goal

pub returns-in-Conn-clause-connections : goal.returns-in-Conn-clause-connections
returns-in-Conn-clause-connections c = grind (arith, common_steps)

pub returns-in-Conn-clause-sockets : goal.returns-in-Conn-clause-sockets
returns-in-Conn-clause-sockets c = grind (arith, common_steps)

pub returns-in-Conn-clause-free : goal.returns-in-Conn-clause-free
returns-in-Conn-clause-free c = grind (arith, common_steps)

pub returns-in-Sock-clause-connections : goal.returns-in-Sock-clause-connections
returns-in-Sock-clause-connections c = grind (arith, common_steps)

pub returns-in-Sock-clause-sockets : goal.returns-in-Sock-clause-sockets
returns-in-Sock-clause-sockets c = grind (arith, common_steps)

pub returns-in-Sock-clause-free : goal.returns-in-Sock-clause-free
returns-in-Sock-clause-free c = grind (arith, common_steps)
