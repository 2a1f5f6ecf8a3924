use Rattle.lua_frames.proofs.BlockLemmas.{block_works}
use Rattle.lua_frames.proofs.waiting.begin_block.Goals as goal

pub returns : goal.returns
returns c = λ S store. block_works S c.args.stmts.now _ c.args.frames.now _ _ store _ c.in_ok-wait.ensures c.in_ok-share.ensures c.give_nothing.ensures
