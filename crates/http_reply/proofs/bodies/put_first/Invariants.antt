use Rattle.std.proofs.Common.{◌≡◌, ◌++◌, take, drop}
use Rattle.std.specs.List.{concat}
use Rattle.http_reply.proofs.bodies.put_first.Given as goal

abbrev pub invariant-loop-piece : goal.invariant-loop-piece
invariant-loop-piece l = l.out.items ++ take l.left (concat (drop l.piece-index l.pieces)) ≡ l.initial.out.items ++ take l.count (concat l.pieces)
