use Rattle.std.proofs.Common.{vec_len}
use Rattle.lua_parser_base.proofs.scopes.+look.Given as goal

abbrev pub decreases-look : goal.decreases-look
decreases-look l = vec_len l.enclosing.now
