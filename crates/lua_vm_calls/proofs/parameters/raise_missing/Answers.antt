use Rattle.std.proofs.Common.{◌∙◌}
use Rattle.lua_frames.proofs.FaultLemmas.{raise_as}
use Rattle.lua_vm_calls.proofs.parameters.raise_missing.Goals as goal

pub returns : goal.returns
returns c = λ S store e. raise_as S _ _ _ c.args.frames.now _ store _ (c.raise.ensures S store e) (c.as_slice.ensures ∙ c.in_ok-text.ensures)
