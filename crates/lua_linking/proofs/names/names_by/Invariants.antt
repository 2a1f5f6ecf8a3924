use Rattle.std.proofs.Common.{◌≡◌, take}
use Rattle.std.specs.Prelude.{flat_map}
use Rattle.lua_linking.specs.Names.{named_by}
use Rattle.lua_linking.proofs.names.names_by.Given as goal

abbrev pub invariant-loop-mention : goal.invariant-loop-mention
invariant-loop-mention l = l.names.items ≡ flat_map (named_by l.first l.known.items) (take l.mention-index l.mentions)
