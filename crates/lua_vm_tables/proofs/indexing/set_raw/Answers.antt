use Rattle.std.proofs.Common.{◌≡◌, [], ◌∙◌, ap, refl, sym}
use Rattle.lua_operators.specs.declared.faults.OperandFault.TheVariants as operand
use Rattle.lua_operators.specs.declared.types.LuaType.{LuaType}
use Rattle.lua_operators.specs.Types.{type_of}
use Rattle.lua_values.specs.declared.values.Value.{Value}
use Rattle.lua_meaning.specs.Works.{Values}
use Rattle.lua_meaning.specs.Positions.{callers_at, raise_operand}
use Rattle.lua_meaning.specs.Signs.{give}
use Rattle.lua_meaning.specs.Indexing.{set_raw, set_work}
use Rattle.lua_frames.specs.Frames.{here, slots_of}
use Rattle.lua_frames.proofs.FollowLemmas.{works_as, ends_works}
use Rattle.lua_vm_tables.proofs.SetLemmas.{set_goes, set_fails, raw_refused}
use Rattle.lua_vm_tables.proofs.indexing.set_raw.Goals as goal

pub returns-in-None : goal.returns-in-None
returns-in-None c = λ S is.
    works_as S _ (set_work S (callers_at (here c.args.frames.now) c.args.line) c.in-Table.t c.args.key c.args.value (slots_of c.args.frames.now) (give [] (slots_of c.args.frames.now))) c.args.frames.now c.give_nothing.new.frames c.args.store.now c.set_pair.new.store c.give_nothing.result
    (set_goes S (callers_at (here c.args.frames.now) c.args.line) c.in-Table.t c.args.key c.args.key c.args.value (slots_of c.args.frames.now) (give [] (slots_of c.args.frames.now)) c.args.frames.now c.give_nothing.new.frames c.args.store.now c.set_pair.new.store c.set_pair.new.store c.give_nothing.result
    refl (rw c.in-None.is at c.in_ok-set_pair-in-Table.ensures) (ends_works S (Values []) c.args.frames.now c.give_nothing.new.frames c.set_pair.new.store c.give_nothing.result c.give_nothing.ensures))
    (ap (λ (v : Value). set_raw S c.args.line v c.args.key c.args.value (here c.args.frames.now) (slots_of c.args.frames.now)) c.in-Table.is)

pub returns-in-Some : goal.returns-in-Some
returns-in-Some c = λ S is.
    works_as S _ (set_work S (callers_at (here c.args.frames.now) c.args.line) c.in-Table.t c.args.key c.args.value (slots_of c.args.frames.now) (give [] (slots_of c.args.frames.now))) c.args.frames.now c.raise_fault.new.frames c.args.store.now c.set_pair.new.store c.raise_fault.result
    (set_fails S (callers_at (here c.args.frames.now) c.args.line) c.in-Table.t c.args.key c.args.key c.args.value c.in-Some.fault (slots_of c.args.frames.now) (give [] (slots_of c.args.frames.now)) c.args.frames.now c.raise_fault.new.frames c.args.store.now c.set_pair.new.store c.set_pair.new.store c.raise_fault.result
    refl (rw c.in-Some.is at c.in_ok-set_pair-in-Table.ensures) (c.raise_fault.ensures S c.set_pair.new.store is))
    (ap (λ (v : Value). set_raw S c.args.line v c.args.key c.args.value (here c.args.frames.now) (slots_of c.args.frames.now)) c.in-Table.is)

pub returns-in_default : goal.returns-in_default
returns-in_default c = λ S is.
    let typed : c.type_of.result ≡ type_of c.args.owner = cc in
    works_as S _ (raise_operand S (callers_at (here c.args.frames.now) c.args.line) (operand.Index c.type_of.result) (slots_of c.args.frames.now)) c.args.frames.now c.raise_operand.new.frames c.args.store.now c.args.store.now c.raise_operand.result
    (c.raise_operand.ensures S c.args.store.now is)
    (raw_refused S c.args.line c.args.owner c.args.key c.args.value (here c.args.frames.now) (slots_of c.args.frames.now) c.in_default.not-Table
    ∙ ap (λ (t : LuaType). raise_operand S (callers_at (here c.args.frames.now) c.args.line) (operand.Index t) (slots_of c.args.frames.now)) (sym typed))
