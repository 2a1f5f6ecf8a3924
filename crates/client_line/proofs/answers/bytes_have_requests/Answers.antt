use Rattle.client_line.specs.MessageAnswers.{requests, last_answer}
use Rattle.client_line.specs.MessageLaws.{list-of}
use Rattle.client_line.proofs.answers.bytes_have_requests.Goals as goal

pub returns : goal.returns
unfolding requests last_answer
returns c bytes = (list-of bytes).are
