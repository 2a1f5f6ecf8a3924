-- Modules that can't be read, and a site that starts or doesn't.
use Rattle.site_load.specs.Views.{site_of}
use Rattle.site_load.proofs.Loads.{well_on, has_texts, no_modules, loaded, not_loaded, on_ok}
use Rattle.site_load.proofs.loading.load_site.Goals as goal

pub returns-in-Ok-clause-ok : goal.returns-in-Ok-clause-ok
returns-in-Ok-clause-ok g c =
    let old = g.F.Files.account c.args.files.now in
    let texts = has_texts c.args.name.now c.in_ok-conf.field-0.conf c.in_ok-conf.field-0.set old (g.F.Files.account c.read_conf.new.files) c.in_ok-conf.ensures.well c.in_ok-conf.ensures.ok
    c.read_modules.new.set c.in-Ok.ensures.read in
    loaded c.args.name.now c.in_ok-conf.field-0.conf c.read_modules.new.set old (g.F.Files.account c.read_modules.new.files) texts c.start_site.result site_of c.start_site.ensures.ok

pub returns-in-Ok-clause-err : goal.returns-in-Ok-clause-err
returns-in-Ok-clause-err g c =
    let old = g.F.Files.account c.args.files.now in
    let texts = has_texts c.args.name.now c.in_ok-conf.field-0.conf c.in_ok-conf.field-0.set old (g.F.Files.account c.read_conf.new.files) c.in_ok-conf.ensures.well c.in_ok-conf.ensures.ok
    c.read_modules.new.set c.in-Ok.ensures.read in
    not_loaded c.args.name.now c.in_ok-conf.field-0.conf c.read_modules.new.set old (g.F.Files.account c.read_modules.new.files) texts c.start_site.result c.start_site.ensures.err

pub returns-in-Ok-clause-well : goal.returns-in-Ok-clause-well
returns-in-Ok-clause-well g c =
    on_ok c.start_site.result _ (well_on (g.F.Files.account c.args.files.now) (g.F.Files.account c.read_conf.new.files) (g.F.Files.account c.read_modules.new.files)
    c.in_ok-conf.ensures.well c.in-Ok.ensures.fares)

pub returns-in-Err-clause-err : goal.returns-in-Err-clause-err
returns-in-Err-clause-err g c =
    rw c.of_modules.ensures (no_modules c.args.name.now c.in_ok-conf.field-0.conf c.in_ok-conf.field-0.set (g.F.Files.account c.args.files.now) (g.F.Files.account c.read_conf.new.files)
    c.in_ok-conf.ensures.well c.in_ok-conf.ensures.ok c.read_modules.new.set (g.F.Files.account c.read_modules.new.files) c.in-Err.fault c.in-Err.ensures.stops c.in-Err.ensures.fares)
