use Rattle.lua_numbers.proofs.ReadBack.{read_back}
use Rattle.lua_numbers.proofs.laws.text_is_read_back.Goals as goal

pub returns : goal.returns
returns c = read_back
