use Rattle.std.proofs.Common.{◌-◌, ◌≤◌, length, vec_len}
use Rattle.lua_parser_base.specs.States.{state, Advances}
use Rattle.lua_parser_base.specs.ReadsNames.{ReadsNames}
use Rattle.lua_parser_base.proofs.cursor.Parser.push_parameters.Given as goal

abbrev pub invariant-loop-self : goal.invariant-loop-self
invariant-loop-self l = record {
  forward : Advances l.tokens l.fn.self l.self;
  few : vec_len l.names ≤ 200;
  reads : ReadsNames l.fn.names.items (state l.tokens l.fn.self) l.names.items (state l.tokens l.self);
}

abbrev pub decreases-loop-self : goal.decreases-loop-self
decreases-loop-self l = length l.tokens - l.self.index
