use Rattle.client_line.proofs.FeedAnswers.{is-fed, fed-only}
use Rattle.client_line.proofs.answers.pieces_have_an_answer.Goals as goal

pub returns-clause-fed : goal.returns-clause-fed
returns-clause-fed c = is-fed

pub returns-clause-only : goal.returns-clause-only
returns-clause-only c = fed-only
