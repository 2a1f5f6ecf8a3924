use Rattle.site_examples.proofs.Lives.{its-life, says-one-line}
use Rattle.site_examples.proofs.laws.a_handler.Goals as goal

pub returns-clause-life : goal.returns-clause-life
returns-clause-life c = its-life

pub returns-clause-line : goal.returns-clause-line
returns-clause-line c = says-one-line
