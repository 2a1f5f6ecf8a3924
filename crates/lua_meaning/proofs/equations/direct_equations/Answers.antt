use Rattle.lua_meaning.proofs.DirectLemmas.{block-is, binary-is, turn-is, call-is, return_call-is, closure_call-is, tail_call-is, index-is, pcall-is}
use Rattle.lua_meaning.proofs.equations.direct_equations.Goals as goal

pub returns : goal.returns
returns c = record {
  block = block-is;
  binary = binary-is;
  turn = turn-is;
  call = call-is;
  return_call = return_call-is;
  closure_call = closure_call-is;
  tail_call = tail_call-is;
  index = index-is;
  pcall = pcall-is;
}
