use Rattle.std.proofs.Common.{◌≡◌, drop}
use Rattle.site_load.specs.Handlers.{first_unbuilt}
use Rattle.site_load.proofs.handlers.first_unbuilt.Given as goal

-- it is that of the blocks that are left
abbrev pub invariant-loop-number : goal.invariant-loop-number
invariant-loop-number l = first_unbuilt l.init l.contents 0 l.blocks ≡ first_unbuilt l.init l.contents l.number (drop l.number l.blocks)
