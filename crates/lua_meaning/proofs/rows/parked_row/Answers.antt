use Rattle.lua_meaning.proofs.ParkedRowLemmas.{parked-row}
use Rattle.lua_meaning.proofs.rows.parked_row.Goals as goal

pub returns : goal.returns
returns c = parked-row
