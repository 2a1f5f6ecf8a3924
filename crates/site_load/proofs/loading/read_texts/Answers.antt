-- What was read is what the text says.
use Rattle.site_load.proofs.loading.read_texts.Goals as goal

pub returns-in-Ok-clause-ok : goal.returns-in-Ok-clause-ok
returns-in-Ok-clause-ok c = c.texts_of.ensures.ok c.args.text.now c.in-Ok.ensures.ok

pub returns-in-Ok-clause-err : goal.returns-in-Ok-clause-err
returns-in-Ok-clause-err c = c.texts_of.ensures.err c.args.text.now c.in-Ok.ensures.ok
