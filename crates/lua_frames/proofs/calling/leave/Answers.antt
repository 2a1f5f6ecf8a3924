use Rattle.std.proofs.Common.{refl}
use Rattle.lua_frames.proofs.CallLemmas.{back_turns, back_leaves}
use Rattle.lua_frames.proofs.calling.leave.Goals as goal

pub returns-in-Gives-clause-turns : goal.returns-in-Gives-clause-turns
returns-in-Gives-clause-turns c = λ S store.
    back_turns S c.args.frames.now (record c.args.frames.now { given = c.in-Gives.signal; lists = c.closing_of.new.lists }) c.go_back.new.frames c.in-Gives.signal store c.go_back.result c.requires (rw (c.in-Gives.is, c.replace-given.ensures.value) at c.in_ok-signal.ensures) refl refl c.go_back.ensures

pub returns-in-Gives-clause-leaves : goal.returns-in-Gives-clause-leaves
returns-in-Gives-clause-leaves c =
    back_leaves c.args.frames.now (record c.args.frames.now { given = c.in-Gives.signal; lists = c.closing_of.new.lists }) c.go_back.new.frames c.go_back.result refl c.go_back.ensures
