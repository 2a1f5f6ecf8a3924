use Rattle.std.proofs.Common.{Bool, sym, subst}
use Rattle.lua_meaning.specs.Positions.{callers_at}
use Rattle.lua_frames.specs.Frames.{here, slots_of}
use Rattle.lua_frames.specs.Follows.{Works}
use Rattle.lua_vm_functions.specs.CallEnds.{body_called}
use Rattle.lua_vm_functions.proofs.functions.begin_function.Goals as goal

pub returns-then-not-tail : goal.returns-then-not-tail
returns-then-not-tail c = λ S store.
    subst (λ (t : Bool). Works S (body_called c.args.number c.args.f.now c.args.cells.now c.args.args.items (callers_at (here c.args.frames.now) c.args.line) t (slots_of c.args.frames.now)) c.args.frames.now store c.push_function.new.frames store c.push_function.result) (sym c.if-not-tail.true) (c.push_function.ensures S store)

pub returns-in-Lua : goal.returns-in-Lua
returns-in-Lua c = λ S store.
    subst (λ (t : Bool). Works S (body_called c.args.number c.args.f.now c.args.cells.now c.args.args.items (callers_at (here c.args.frames.now) c.args.line) t (slots_of c.args.frames.now)) c.args.frames.now store c.tail_function.new.frames store c.tail_function.result) (sym c.if-not-tail.false) (c.tail_function.ensures S store)
