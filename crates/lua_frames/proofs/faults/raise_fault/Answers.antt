use Rattle.lua_frames.proofs.FaultLemmas.{raise_as}
use Rattle.lua_frames.proofs.faults.raise_fault.Goals as goal

pub returns : goal.returns
returns c = λ S store e. raise_as S _ _ _ c.args.frames.now _ store _ (c.raise.ensures S store e) c.text.ensures
