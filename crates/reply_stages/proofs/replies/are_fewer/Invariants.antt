use Rattle.std.proofs.Common.{◌≡◌, ◌-◌, length, take}
use Rattle.std.specs.List.{concat}
use Rattle.reply_stages.proofs.replies.are_fewer.Given as goal

abbrev pub invariant-loop-piece : goal.invariant-loop-piece
invariant-loop-piece l = l.missing ≡ l.count - length (concat (take l.piece-index l.pieces))
