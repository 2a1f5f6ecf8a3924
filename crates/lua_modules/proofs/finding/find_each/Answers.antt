use Rattle.std.proofs.Common.{arith}
use Rattle.std.proofs.lemmas.Result.{err_from_is_err_and}
use Rattle.lua_modules.proofs.Growing.{name_over}
use Rattle.lua_modules.proofs.finding.find_each.Goals as goal

pub returns-in_err-find-clause-fault : goal.returns-in_err-find-clause-fault
returns-in_err-find-clause-fault c =
    let p = err_from_is_err_and c.from_residual.result c.from_residual.ensures.1 in
    rw (p.1, p.2) (name_over c.args.set.now c.args.names.now.items c.loop-name.names.items c.args.required.now c.loop-name.name-index _ _
    c.loop-name.invariant.found (omega arith) c.name-item.is c.in_err-find.field-0.0 c.in_err-find.ensures.fault)
