use Rattle.http_in.proofs.Answers.{one-answer}
use Rattle.http_in.proofs.laws.heads_have_one_answer.Goals as goal

pub returns : goal.returns
returns c = one-answer
