use Rattle.std.proofs.Common.{◌-◌, length}
use Rattle.lua_parser_base.specs.States.{state, Advances}
use Rattle.lua_parser_base.specs.ReadsStatements.{ReadsFuncName}
use Rattle.lua_parser_base.proofs.cursor.Parser.function_name.Given as goal

abbrev pub invariant-loop-alloc : goal.invariant-loop-alloc
invariant-loop-alloc l = record {
  forward : Advances l.tokens l.fn.self l.self;
  reads : ReadsFuncName (state l.tokens l.fn.self) l.name (state l.tokens l.self);
}

abbrev pub decreases-loop-alloc : goal.decreases-loop-alloc
decreases-loop-alloc l = length l.tokens - l.self.index
