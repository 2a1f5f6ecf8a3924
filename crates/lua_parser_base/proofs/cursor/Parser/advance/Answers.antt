use Rattle.std.proofs.Common.{refl}
use Rattle.lua_parser_base.proofs.Steps.{taken}
use Rattle.lua_parser_base.proofs.cursor.Parser.advance.Goals as goal

pub returns-clause-takes : goal.returns-clause-takes
returns-clause-takes c = taken _ _ _ _ c.requires refl
