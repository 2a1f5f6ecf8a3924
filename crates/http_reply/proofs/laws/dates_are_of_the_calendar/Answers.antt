use Rattle.http_reply.proofs.Calendar.{date-is}
use Rattle.http_reply.proofs.laws.dates_are_of_the_calendar.Goals as goal

pub returns : goal.returns
returns c = date-is
