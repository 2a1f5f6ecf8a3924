use Rattle.lua_numbers.proofs.ReadBack.{digits_read}
use Rattle.lua_numbers.proofs.laws.digits_are_read.Goals as goal

pub returns : goal.returns
returns c = digits_read
