use Rattle.std.proofs.Common.{◌-◌, ℕ, ◌∙◌, ap}
use Rattle.lua_vm_functions.proofs.RoomLemmas.{room_plain, room_tail, room_other, room_other_tail}
use Rattle.lua_vm_functions.proofs.functions.has_room.Goals as goal

pub returns-then-tail : goal.returns-then-tail
returns-then-tail c = λ line. room_tail c.args.frames.now line _ c.args.tail c.in-Lua.is c.if-tail.true c.functions-below.ensures

pub returns-else-tail : goal.returns-else-tail
returns-else-tail c = λ line. room_plain c.args.frames.now line _ c.args.tail c.in-Lua.is c.if-tail.false c.functions-below.ensures

pub returns-then-tail-2 : goal.returns-then-tail-2
returns-then-tail-2 c = λ line.
    room_other_tail c.args.frames.now line _ c.args.tail c.in_default.not-Lua c.if-tail-2.true (c.saturating_sub.ensures ∙ ap (λ (n : ℕ). n - 1) c.functions-below.ensures)

pub returns-else-tail-2 : goal.returns-else-tail-2
returns-else-tail-2 c = λ line. room_other c.args.frames.now line _ c.args.tail c.in_default.not-Lua c.if-tail-2.false c.functions-below.ensures
