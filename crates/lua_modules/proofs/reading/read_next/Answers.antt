use Rattle.std.proofs.Common.{refl}
use Rattle.std.proofs.lemmas.Option.{slice_get_read}
use Rattle.std.proofs.lemmas.Result.{err_from_is_err_and}
use Rattle.lua_modules.specs.Reading.{progress}
use Rattle.lua_modules.proofs.GoingOn.{stops_memory, stops_module, reads_next, stops_next, found_longer}
use Rattle.lua_modules.proofs.reading.read_next.Goals as goal

pub returns-in_err-name-clause-stops : goal.returns-in_err-name-clause-stops
returns-in_err-name-clause-stops g c =
    let p = err_from_is_err_and c.from_residual.result c.from_residual.ensures.1 in
    rw (p.1, p.2) (stops_memory (g.F.Files.account c.args.files.now).told c.args.pattern.now (progress c.args.set.now c.args.names.now.items c.args.read))

pub returns-in_err-function-clause-stops : goal.returns-in_err-function-clause-stops
returns-in_err-function-clause-stops g c =
    let p = err_from_is_err_and c.from_residual-in_err-function.result c.from_residual-in_err-function.ensures.1 in
    let e = c.in_ok-name.ensures.cases in let i = c.index.ensures in
    rw (p.1, p.2) (stops_module (g.F.Files.account c.args.files.now).told c.args.pattern.now (progress c.args.set.now c.args.names.now.items c.args.read) c.read_module.new.set
    c.in_ok-name.name c.in_err-function.field-0.0
    (record { few = c.requires.few; next = slice_get_read c.args.names.now.items _ c.args.read c.in_ok-name.name refl c.requires.waits cc })
    c.in_err-function.ensures.none c.in_err-function.ensures.kept)

pub returns-clause-read : goal.returns-clause-read
returns-clause-read g c =
    let e = c.in_ok-name.ensures.cases in let i = c.index.ensures in
    reads_next (g.F.Files.account c.args.files.now).told c.args.pattern.now c.args.set.now c.read_module.new.set c.args.names.now.items c.find_in.new.names.items c.args.read
    c.in_ok-name.name c.in_ok-function.function
    (record { few = c.requires.few; next = slice_get_read c.args.names.now.items _ c.args.read c.in_ok-name.name refl c.requires.waits cc })
    c.in_ok-function.ensures.read c.in_ok-function.ensures.number c.find_in.result c.find_in.ensures.found

pub returns-clause-stops : goal.returns-clause-stops
returns-clause-stops g c =
    let e = c.in_ok-name.ensures.cases in let i = c.index.ensures in
    stops_next (g.F.Files.account c.args.files.now).told c.args.pattern.now c.args.set.now c.read_module.new.set c.args.names.now.items c.args.read
    c.in_ok-name.name c.in_ok-function.function
    (record { few = c.requires.few; next = slice_get_read c.args.names.now.items _ c.args.read c.in_ok-name.name refl c.requires.waits cc })
    c.in_ok-function.ensures.read c.in_ok-function.ensures.number c.find_in.result c.find_in.ensures.fault

pub returns-clause-grows : goal.returns-clause-grows
returns-clause-grows g c = found_longer c.read_module.new.set c.args.names.now.items c.find_in.new.names.items c.in_ok-function.function c.find_in.result c.find_in.ensures.found
