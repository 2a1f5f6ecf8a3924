use Rattle.phases.specs.Laws.{LogsLast}
use Rattle.phases.proofs.Logging as logging
use Rattle.phases.proofs.laws.logs_last.Goals as goal

pub returns : goal.returns
returns c = record { last = logging.last; logs = logging.logs; none = logging.none }
