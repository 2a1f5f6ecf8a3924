use Rattle.client_line.proofs.FeedAnswers.{reads, no-other}
use Rattle.client_line.proofs.answers.heads_have_an_answer.Goals as goal

pub returns-clause-read : goal.returns-clause-read
returns-clause-read c = reads

pub returns-clause-only : goal.returns-clause-only
returns-clause-only c = no-other
