use Rattle.std.proofs.Common.{sym, refl}
use Rattle.lua_vm_tables.proofs.CallLemmas.{index_gives, index_calls, index_fails, index_spent}
use Rattle.lua_vm_tables.proofs.indexing.index.Goals as goal

pub returns-in-Gives : goal.returns-in-Gives
returns-in-Gives g c =
    index_gives (g.H.Host.setting c.args.host.now) c.args.line c.args.value c.args.key c.in-Gives.found c.args.frames.now c.give_one.new.frames c.args.store.now c.find_value.new.store c.give_one.result
    (rw c.in-Gives.is at c.in_ok-found.ensures) c.give_one.ensures

pub returns-in_ok-args-in-Calls : goal.returns-in_ok-args-in-Calls
returns-in_ok-args-in-Calls g c =
    index_calls (g.H.Host.setting c.args.host.now) c.args.line c.args.value c.args.key c.in-Calls.by c.in-Calls.object c.in_ok-args-in-Calls.args.items c.args.frames.now _ c.call_for_one.new.frames c.args.store.now c.find_value.new.store c.call_for_one.new.store c.call_for_one.result
    (rw c.in-Calls.is at c.in_ok-found.ensures) c.in_ok-args-in-Calls.ensures refl refl c.call_for_one.ensures

pub returns-in-Unindexable : goal.returns-in-Unindexable
returns-in-Unindexable g c =
    index_fails (g.H.Host.setting c.args.host.now) c.args.line c.args.value c.args.key c.in-Unindexable.found c.args.frames.now c.raise_operand.new.frames c.args.store.now c.find_value.new.store c.raise_operand.result
    (rw c.in-Unindexable.is at c.in_ok-found.ensures) (c.raise_operand.ensures (g.H.Host.setting c.args.host.now) c.find_value.new.store (sym c.program.ensures))

pub returns-in-Spent : goal.returns-in-Spent
returns-in-Spent g c =
    index_spent (g.H.Host.setting c.args.host.now) c.args.line c.args.value c.args.key c.args.frames.now _ c.args.store.now c.find_value.new.store (rw c.in-Spent.is at c.in_ok-found.ensures)
