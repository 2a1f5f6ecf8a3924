use Rattle.site_load.proofs.Joins.{blocks_added}
use Rattle.site_load.proofs.chunks.set_of.Goals as goal

pub returns-clause-ok : goal.returns-clause-ok
returns-clause-ok c = λ blocks have. record {
  own = c.in_ok-set.set;
  built_in = c.in_ok-set.ensures.ok;
  added = blocks_added c.args.file.now blocks c.args.programs.items c.in_ok-set.set c.add_programs.new.set have c.in_ok-add_programs.ensures;
}
