use Rattle.http_in.proofs.Answers.{answer-stays}
use Rattle.http_in.proofs.laws.answers_to_heads_stay.Goals as goal

pub returns : goal.returns
returns c = answer-stays
