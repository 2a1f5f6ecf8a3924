use Rattle.std.proofs.Common.{◌≡◌, take, map}
use Rattle.lua_parser_base.proofs.scopes.variables.Given as goal

abbrev pub invariant-loop-captured : goal.invariant-loop-captured
invariant-loop-captured l = l.variables.items ≡ map (λ c. c.variable) (take l.captured-index l.captures)
