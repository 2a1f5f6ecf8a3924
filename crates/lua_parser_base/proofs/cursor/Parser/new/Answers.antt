use Rattle.lua_parser_base.proofs.Bodies.{chunk_begins}
use Rattle.lua_parser_base.proofs.cursor.Parser.new.Goals as goal

pub returns-clause-scope : goal.returns-clause-scope
returns-clause-scope c = (
  c.in_ok-empty_function.field-0,
  chunk_begins _ _ c.with_parameters.result _ _ c.in_ok-vec.ensures.items c.with_parameters.ensures c.new.ensures.items c.new-2.ensures.items,
)
