use Rattle.schedule_text.proofs.Histories.{history-alone}
use Rattle.schedule_text.proofs.laws.a_history_is_known_by_its_text.Goals as goal

pub returns : goal.returns
returns c = history-alone
