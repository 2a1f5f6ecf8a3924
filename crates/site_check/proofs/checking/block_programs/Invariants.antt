use Rattle.site_check.proofs.Pushed.{Kept}
use Rattle.site_check.proofs.checking.block_programs.Given as goal

abbrev pub invariant-loop-block : goal.invariant-loop-block
invariant-loop-block l = Kept l.blocks l.programs.items l.block-index
