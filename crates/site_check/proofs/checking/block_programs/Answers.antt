-- The programs of one block more, and the first block that has none.
use Rattle.std.proofs.Common.{arith}
use Rattle.std.proofs.lemmas.Result.{err_from_is_err_and}
use Rattle.site_check.specs.declared.faults.CheckFault.TheVariants.{Memory}
use Rattle.site_check.proofs.Pushed.{kept_more, first_fault}
use Rattle.site_check.proofs.checking.block_programs.Goals as goal

pub returns-in_err-push-in-Ok-clause-err : goal.returns-in_err-push-in-Ok-clause-err
returns-in_err-push-in-Ok-clause-err c =
    let p = err_from_is_err_and c.from_residual.result c.from_residual.ensures.1 in
    let none = first_fault c.args.blocks.now c.loop-block.programs.items c.loop-block.block-index c.block-item.result c.loop-block.invariant (omega arith) c.block-item.is Memory tt in
    rw (p.1, p.2) none

pub returns-in-Err-clause-err : goal.returns-in-Err-clause-err
returns-in-Err-clause-err c =
    first_fault c.args.blocks.now c.loop-block.programs.items c.loop-block.block-index c.block-item.result c.loop-block.invariant (omega arith) c.block-item.is c.in-Err.fault
    c.in-Err.ensures.err

pub loop-block-preserved : goal.loop-block-preserved
loop-block-preserved c =
    kept_more c.args.blocks.now c.loop-block.programs.items c.loop-block.block-index c.block-item.result c.loop-block.invariant (omega arith) c.block-item.is
    c.push.new.self.items c.in-Ok.program c.in_ok-push-in-Ok.ensures.items c.in-Ok.ensures.ok
