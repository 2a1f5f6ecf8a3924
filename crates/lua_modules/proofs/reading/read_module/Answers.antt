use Rattle.lua_modules.proofs.GoingOn.{module_read, module_none}
use Rattle.lua_modules.proofs.reading.read_module.Goals as goal

pub returns-in-Ok-clause-read : goal.returns-in-Ok-clause-read
returns-in-Ok-clause-read g c =
    let f = c.in_ok-file.ensures in let p = c.as_slice.ensures in let n = c.as_slice-2.ensures in let a = c.in_ok-clone.ensures.cases in
    let b = c.in_ok-clone-2.ensures.cases in let d = c.in_ok-clone-3.ensures.cases in let t = c.as_slice-3.ensures in
    module_read (g.F.Files.account c.args.files.now).told c.args.pattern.now c.args.name.now c.in_ok-clone-2.field-0 c.in_ok-clone.field-0 c.in_ok-clone-3.field-0
    c.in_ok-text.text c.as_slice-3.result.now c.args.set.now c.add-2.new.self (cc) (cc) (cc) (cc) c.in_ok-text.ensures.text c.in-Ok.ensures.added

pub returns-in-Err-clause-none : goal.returns-in-Err-clause-none
returns-in-Err-clause-none g c =
    let f = c.in_ok-file.ensures in let p = c.as_slice.ensures in let n = c.as_slice-2.ensures in let a = c.in_ok-clone.ensures.cases in let t = c.as_slice-3.ensures in
    rw c.refusal.ensures (module_none (g.F.Files.account c.args.files.now).told c.args.pattern.now c.args.name.now c.in_ok-clone.field-0 c.in_ok-file.file
    c.in_ok-text.text c.as_slice-3.result.now c.in-Err.fault (cc) (cc) (cc) c.in_ok-text.ensures.text c.in-Err.ensures.fault)
