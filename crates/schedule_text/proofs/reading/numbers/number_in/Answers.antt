use Rattle.std.proofs.Common.{◌∙◌}
use Rattle.schedule_text.proofs.Finding.{number_read}
use Rattle.schedule_text.proofs.reading.numbers.number_in.Goals as goal

pub returns : goal.returns
returns c = c.unwrap_or.ensures ∙ number_read c.args.text.now c.read_number.result c.read_number.ensures
