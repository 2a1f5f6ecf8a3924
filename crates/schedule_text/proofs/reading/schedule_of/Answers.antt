use Rattle.std.proofs.Common.{◌≡◌, ◌∙◌, Ok, Err, subst, sym}
use Rattle.schedule_text.specs.Accepted.{IsRead}
use Rattle.schedule_text.proofs.OneWay.{accepted}
use Rattle.schedule_text.proofs.reading.schedule_of.Goals as goal

pub returns-clause-accepted : goal.returns-clause-accepted
returns-clause-accepted c = accepted c.args.text.now (Err c.in-Err.fault) c.in-Err.ensures

pub returns-in-Ok-clause-accepted : goal.returns-in-Ok-clause-accepted
returns-in-Ok-clause-accepted c =
    let same : c.new.result ≡ c.read_lines.new.reader.lines.items = c.new.ensures ∙ c.into_lines.ensures in
    accepted c.args.text.now (Ok c.new.result) (subst (IsRead c.args.text.now) (sym same) c.in-Ok.ensures)
