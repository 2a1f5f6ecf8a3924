use Rattle.std.proofs.Common.{sym, refl}
use Rattle.lua_vm_tables.proofs.CallLemmas.{store_sets, store_calls, store_spent}
use Rattle.lua_vm_tables.proofs.indexing.store_at.Goals as goal

pub returns-in-Itself : goal.returns-in-Itself
returns-in-Itself g c =
    store_sets (g.H.Host.setting c.args.host.now) c.args.line c.args.object c.args.key c.args.value c.in-Itself.owner c.args.frames.now c.set_raw.new.frames c.args.store.now c.find_destination.new.store c.set_raw.new.store c.set_raw.result
    (rw c.in-Itself.is at c.in_ok-owner.ensures) (c.set_raw.ensures (g.H.Host.setting c.args.host.now) (sym c.program.ensures))

pub returns-in_ok-args-in-Calls : goal.returns-in_ok-args-in-Calls
returns-in_ok-args-in-Calls g c =
    store_calls (g.H.Host.setting c.args.host.now) c.args.line c.args.object c.args.key c.args.value c.in-Calls.by c.in-Calls.object c.in_ok-args-in-Calls.args.items c.args.frames.now _ c.call_for_none.new.frames c.args.store.now c.find_destination.new.store c.call_for_none.new.store c.call_for_none.result
    (rw c.in-Calls.is at c.in_ok-owner.ensures) c.in_ok-args-in-Calls.ensures refl refl c.call_for_none.ensures

pub returns-in-Spent : goal.returns-in-Spent
returns-in-Spent g c =
    store_spent (g.H.Host.setting c.args.host.now) c.args.line c.args.object c.args.key c.args.value c.args.frames.now _ c.args.store.now c.find_destination.new.store (rw c.in-Spent.is at c.in_ok-owner.ensures)
