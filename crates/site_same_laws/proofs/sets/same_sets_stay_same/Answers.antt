use Rattle.site_same_laws.proofs.Adding.{modules_keep, blocks_keep}
use Rattle.site_same_laws.proofs.sets.same_sets_stay_same.Goals as goal

pub returns-clause-modules : goal.returns-clause-modules
returns-clause-modules c = modules_keep c.one_reading.ensures c.tokens_have_one_program.ensures c.joined_programs_are_same.ensures

pub returns-clause-blocks : goal.returns-clause-blocks
returns-clause-blocks c = blocks_keep c.one_reading.ensures c.tokens_have_one_program.ensures c.joined_programs_are_same.ensures
