use Rattle.std.proofs.Common.{false, arith}
use Rattle.std.proofs.lemmas.Fmt.{digits_is_IsNumeral}
use Rattle.http_reply.proofs.laws.sizes_read_back.Goals as goal

pub returns : goal.returns
returns c = λ size below. digits_is_IsNumeral 16 false (omega arith) (omega arith) size (omega arith)
