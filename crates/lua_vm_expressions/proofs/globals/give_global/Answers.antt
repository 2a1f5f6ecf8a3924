use Rattle.std.proofs.Common.{◌≡◌, rules}
use Rattle.lua_vm_expressions.proofs.TableForms.{global_waits}
use Rattle.lua_vm_expressions.proofs.globals.give_global.Goals as goal

pub returns : goal.returns
returns c = λ S.
    let same : c.in_ok-clone.field-0 ≡ c.args.name.now = search rules in
    global_waits S c.args.line c.globals-globals.result c.args.name.now c.in_ok-clone.field-0 c.args.frames.now c.wait.new.frames c.give_one-2.new.frames c.args.store.now c.give_one-2.result
    c.globals-globals.ensures same c.in_ok-wait.ensures c.give_one-2.ensures
