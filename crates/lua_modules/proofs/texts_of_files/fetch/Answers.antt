use Rattle.lua_modules.proofs.Held.{fetched_named, fetched_unnamed}
use Rattle.lua_modules.proofs.texts_of_files.fetch.Goals as goal

pub returns-in-Ok-clause-right : goal.returns-in-Ok-clause-right
returns-in-Ok-clause-right g c =
    fetched_named (g.F.Files.account c.args.files.now).told c.in-Ok.name.now c.args.file.now c.fetch.result c.in-Ok.ensures.cases.0 c.in-Ok.ensures.cases.1 c.fetch.ensures.answers.right

pub returns-in-Err-clause-right : goal.returns-in-Err-clause-right
returns-in-Err-clause-right g c = fetched_unnamed (g.F.Files.account c.args.files.now).told c.args.file.now c.in-Err.ensures.cases.0
