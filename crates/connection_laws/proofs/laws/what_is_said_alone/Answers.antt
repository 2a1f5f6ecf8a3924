use Rattle.std.proofs.Common.{ap, append-nil, ◌++◌}
use Rattle.run_contract.specs.Stored.{given_text}
use Rattle.strand_contract.specs.declared.turns.Answer.TheVariants as answer
use Rattle.connection_laws.specs.Alone.{let_first}
use Rattle.connection_laws.proofs.laws.what_is_said_alone.Goals as goal

pub returns-clause-path : goal.returns-clause-path
returns-clause-path g c beginning = append-nil beginning.target.path

pub returns-clause-body : goal.returns-clause-body
returns-clause-body g c beginning continues waited now content = ap (λ bs. let_first continues ++ bs) (append-nil content)

pub returns-clause-stored : goal.returns-clause-stored
returns-clause-stored g c beginning name key otherwise now later given = append-nil (given_text otherwise (answer.Dict given))
