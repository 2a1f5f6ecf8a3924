use Rattle.std.proofs.Common.{[], ◌∷◌}
use Rattle.lua_values.specs.declared.values.Value.TheVariants.{Table}
use Rattle.lua_meaning.specs.Works.{Values}
use Rattle.lua_meaning.specs.Positions.{callers_at}
use Rattle.lua_meaning.specs.Signs.{give_one}
use Rattle.lua_frames.specs.Frames.{here, slots_of}
use Rattle.lua_frames.proofs.FollowLemmas.{ends_works}
use Rattle.lua_vm_tables.proofs.SetLemmas.{fill_goes, fill_fails}
use Rattle.lua_vm_tables.proofs.constructors.fill.Goals as goal

pub returns-in-None : goal.returns-in-None
returns-in-None c = λ S is.
    fill_goes S (callers_at (here c.args.frames.now) c.args.line) c.args.table c.args.number c.as_slice.result.now c.args.values.items (slots_of c.args.frames.now) (give_one (Table c.args.table) (slots_of c.args.frames.now)) c.args.frames.now c.give_one.new.frames c.args.store.now c.fill_numbers.new.store c.fill_numbers.new.store c.give_one.result
    c.as_slice.ensures.value (rw c.in-None.is at c.in_ok-fill_numbers.ensures)
    (ends_works S (Values (Table c.args.table ∷ [])) c.args.frames.now c.give_one.new.frames c.fill_numbers.new.store c.give_one.result
    (record { below = c.give_one.ensures.below; top = c.give_one.ensures.top; given = c.give_one.ensures.given; went = c.give_one.ensures.went }))

pub returns-in-Some : goal.returns-in-Some
returns-in-Some c = λ S is.
    fill_fails S (callers_at (here c.args.frames.now) c.args.line) c.args.table c.args.number c.as_slice.result.now c.args.values.items c.in-Some.fault (slots_of c.args.frames.now) (give_one (Table c.args.table) (slots_of c.args.frames.now)) c.args.frames.now c.raise_fault.new.frames c.args.store.now c.fill_numbers.new.store c.fill_numbers.new.store c.raise_fault.result
    c.as_slice.ensures.value (rw c.in-Some.is at c.in_ok-fill_numbers.ensures) (c.raise_fault.ensures S c.fill_numbers.new.store is)
