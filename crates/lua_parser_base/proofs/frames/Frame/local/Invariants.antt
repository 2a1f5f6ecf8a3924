use Rattle.std.proofs.Common.{◌≡◌, take}
use Rattle.lua_grammar.specs.Scopes.{last_index}
use Rattle.lua_parser_base.proofs.frames.Frame.local.Given as goal

abbrev pub invariant-loop-slot : goal.invariant-loop-slot
invariant-loop-slot l = l.found ≡ last_index l.name (take l.slot l.self.locals.items)
