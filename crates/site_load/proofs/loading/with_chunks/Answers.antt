-- The chunks are those of what was read.
use Rattle.site_load.proofs.Loads.{built_in_refused}
use Rattle.site_load.proofs.loading.with_chunks.Goals as goal

pub returns-in-Ok-clause-ok : goal.returns-in-Ok-clause-ok
returns-in-Ok-clause-ok c = λ text read. record {
  programs = c.args.read.programs.items;
  read = read;
  built = c.requires.built;
  chunks = c.in-Ok.ensures.ok c.args.read.conf.blocks read.each;
}

pub returns-clause-err : goal.returns-clause-err
returns-clause-err c = λ text read. built_in_refused c.args.file text c.args.read.conf c.args.read.programs.items read c.requires.built c.in-Err.fault c.in-Err.ensures.err
