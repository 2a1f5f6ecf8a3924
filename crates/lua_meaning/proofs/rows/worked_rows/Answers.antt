use Rattle.lua_meaning.proofs.RowLemmas.{sum-row, locals-row, loop-row, branches-row, tail_calls-row, remainder-row}
use Rattle.lua_meaning.proofs.RowLemmas.{counting-row, varargs-row, assignments-row, captures-row}
use Rattle.lua_meaning.proofs.rows.worked_rows.Goals as goal

pub returns : goal.returns
returns c = record {
  sum = sum-row;
  locals = locals-row;
  loop = loop-row;
  branches = branches-row;
  tail_calls = tail_calls-row;
  remainder = remainder-row;
  counting = counting-row;
  varargs = varargs-row;
  assignments = assignments-row;
  captures = captures-row;
}
