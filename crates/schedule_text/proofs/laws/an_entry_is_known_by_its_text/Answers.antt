use Rattle.schedule_text.proofs.Spelled.{entry-alone}
use Rattle.schedule_text.proofs.laws.an_entry_is_known_by_its_text.Goals as goal

pub returns : goal.returns
returns c = entry-alone
