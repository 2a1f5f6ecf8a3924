use Rattle.std.proofs.Common.{◌≡◌, take, map}
use Rattle.lua_grammar.specs.Scopes.{last_index}
use Rattle.lua_parser_base.proofs.frames.Frame.capture.Given as goal

abbrev pub invariant-loop-index : goal.invariant-loop-index
invariant-loop-index l = l.found ≡ last_index l.name (map (λ c. c.name) (take l.index l.self.captures.items))
