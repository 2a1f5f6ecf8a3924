use Rattle.site_examples.proofs.Spoiled.{no-byte_lost, no-put_after_stop, no-date_late, no-no_close}
use Rattle.site_examples.proofs.laws.no_runs.Goals as goal

pub returns-clause-byte_lost : goal.returns-clause-byte_lost
returns-clause-byte_lost c = no-byte_lost

pub returns-clause-put_after_stop : goal.returns-clause-put_after_stop
returns-clause-put_after_stop c = no-put_after_stop

pub returns-clause-date_late : goal.returns-clause-date_late
returns-clause-date_late c = no-date_late

pub returns-clause-no_close : goal.returns-clause-no_close
returns-clause-no_close c = no-no_close
