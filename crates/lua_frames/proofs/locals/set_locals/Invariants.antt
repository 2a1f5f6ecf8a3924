use Rattle.std.proofs.Common.{◌≡◌, drop}
use Rattle.lua_meaning.specs.Variables.{with_locals}
use Rattle.lua_frames.proofs.locals.set_locals.Given as goal

abbrev pub invariant-loop-k : goal.invariant-loop-k
invariant-loop-k l = with_locals l.fn.places l.fn.values.items l.fn.slots.items ≡ with_locals (drop l.k l.fn.places) (drop l.k l.values.items) l.slots.items
