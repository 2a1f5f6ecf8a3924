use Rattle.lua_linking.proofs.WholePrograms.{joined_whole}
use Rattle.lua_linking.proofs.laws.joined_programs_are_whole.Goals as goal

pub returns : goal.returns
returns c = joined_whole
