use Rattle.schedule_text.proofs.Spelled.{line-alone}
use Rattle.schedule_text.proofs.laws.a_line_is_known_by_its_text.Goals as goal

pub returns : goal.returns
returns c = line-alone
