use Rattle.std.proofs.Common.{◌+◌, sym}
use Rattle.lua_values.specs.Values.{number}
use Rattle.lua_meaning.specs.Positions.{callers_at}
use Rattle.lua_meaning.specs.Indexing.{set_work}
use Rattle.lua_frames.specs.Frames.{here, slots_of}
use Rattle.lua_frames.specs.Items.{items_left}
use Rattle.lua_frames.proofs.TakeForms.{takes_one}
use Rattle.lua_vm_tables.proofs.SetLemmas.{set_goes, set_fails}
use Rattle.lua_vm_tables.proofs.constructors.item_at_number.Goals as goal

pub returns-in-None-2 : goal.returns-in-None-2
returns-in-None-2 g c =
    takes_one (g.H.Host.setting c.args.host.now) (λ p v s. set_work (g.H.Host.setting c.args.host.now) (callers_at p c.args.c.line) c.args.c.table (number c.args.c.number) v s (items_left (g.H.Host.setting c.args.host.now) (c.args.c.number + 1) c.args.c p s)) c.in-Some.value
    c.args.frames.now c.take_first.new.frames c.next_item.new.frames c.args.store.now c.next_item.new.store c.next_item.result
    (rw c.in-Some.is at c.take_first.ensures.value) c.take_first.ensures.below c.take_first.ensures.top
    (set_goes (g.H.Host.setting c.args.host.now) (callers_at (here c.take_first.new.frames) c.args.c.line) c.args.c.table c.in_ok-key-in-Some.key (number c.args.c.number) c.in-Some.value (slots_of c.take_first.new.frames)
    (items_left (g.H.Host.setting c.args.host.now) (c.args.c.number + 1) c.args.c (here c.take_first.new.frames) (slots_of c.take_first.new.frames)) c.take_first.new.frames c.next_item.new.frames c.args.store.now c.set_pair.new.store c.next_item.new.store c.next_item.result
    c.in_ok-key-in-Some.ensures.key (rw c.in-None-2.is at c.in_ok-set_pair-in-Some.ensures) c.next_item.ensures)

pub returns-in-Some-2 : goal.returns-in-Some-2
returns-in-Some-2 g c =
    takes_one (g.H.Host.setting c.args.host.now) (λ p v s. set_work (g.H.Host.setting c.args.host.now) (callers_at p c.args.c.line) c.args.c.table (number c.args.c.number) v s (items_left (g.H.Host.setting c.args.host.now) (c.args.c.number + 1) c.args.c p s)) c.in-Some.value
    c.args.frames.now c.take_first.new.frames c.raise_fault.new.frames c.args.store.now c.set_pair.new.store c.raise_fault.result
    (rw c.in-Some.is at c.take_first.ensures.value) c.take_first.ensures.below c.take_first.ensures.top
    (set_fails (g.H.Host.setting c.args.host.now) (callers_at (here c.take_first.new.frames) c.args.c.line) c.args.c.table c.in_ok-key-in-Some.key (number c.args.c.number) c.in-Some.value c.in-Some-2.fault (slots_of c.take_first.new.frames)
    (items_left (g.H.Host.setting c.args.host.now) (c.args.c.number + 1) c.args.c (here c.take_first.new.frames) (slots_of c.take_first.new.frames)) c.take_first.new.frames c.raise_fault.new.frames c.args.store.now c.set_pair.new.store c.set_pair.new.store c.raise_fault.result
    c.in_ok-key-in-Some.ensures.key (rw c.in-Some-2.is at c.in_ok-set_pair-in-Some.ensures) (c.raise_fault.ensures (g.H.Host.setting c.args.host.now) c.set_pair.new.store (sym c.program.ensures)))
