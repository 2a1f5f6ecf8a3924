-- Runs of the body of a generic `for` (Lua 5.1 Reference Manual, 2.4.5).
use Rattle.std.specs.Prelude.{List}
use Rattle.lua_values.specs.declared.values.Value.{Value}
use Rattle.lua_meaning.specs.Works.{Node, AnIter}
use Rattle.lua_frames.specs.declared.loops.Iteration.{Iteration}

-- a run with these values in the loop's variables
abbrev pub pass_of : Iteration → List Value → Node
pass_of it vs = AnIter it.line it.slots.value.items it.function it.state vs it.body.value.items
