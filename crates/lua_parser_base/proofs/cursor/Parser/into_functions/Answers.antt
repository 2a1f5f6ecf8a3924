use Rattle.std.proofs.Common.{[], refl}
use Rattle.lua_parser_base.proofs.Scoping.{on_node}
use Rattle.lua_parser_base.proofs.cursor.Parser.into_functions.Goals as goal

pub returns-clause-functions : goal.returns-clause-functions
returns-clause-functions c = on_node c.with_chunk.result c.with_chunk.ensures (λ functions same. (c.in_ok-chunk.chunk, c.in_ok-chunk.ensures [] refl, same))
