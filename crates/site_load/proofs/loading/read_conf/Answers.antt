-- The text that the file holds, and what it says.
use Rattle.site_load.proofs.Loads.{texts_held, no_texts, on_ok}
use Rattle.site_load.proofs.loading.read_conf.Goals as goal

pub returns-clause-ok : goal.returns-clause-ok
returns-clause-ok g c =
    texts_held c.args.name.now c.in_ok-text.text c.in_ok-file.file c.as_slice.result.now c.in_ok-file.ensures.ok c.as_slice.ensures (g.F.Files.account c.args.files.now)
    (g.F.Files.account c.read_file.new.files) c.in_ok-text.ensures.ok c.read_texts-texts.result c.read_texts-texts.ensures.ok

pub returns-clause-err : goal.returns-clause-err
returns-clause-err g c =
    no_texts c.args.name.now c.in_ok-text.text c.in_ok-file.file c.as_slice.result.now c.in_ok-file.ensures.ok c.as_slice.ensures (g.F.Files.account c.args.files.now)
    (g.F.Files.account c.read_file.new.files) c.in_ok-text.ensures.ok c.read_texts-texts.result c.read_texts-texts.ensures.err

pub returns-clause-well : goal.returns-clause-well
returns-clause-well g c = on_ok c.read_texts-texts.result _ c.in_ok-text.ensures.well
