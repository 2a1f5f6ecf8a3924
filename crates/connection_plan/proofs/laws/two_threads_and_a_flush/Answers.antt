use Rattle.connection_plan.proofs.Scripted as row
use Rattle.connection_plan.proofs.laws.two_threads_and_a_flush.Goals as goal

pub returns-clause-at_once : goal.returns-clause-at_once
returns-clause-at_once c = row.flush-at-once

pub returns-clause-not_yet : goal.returns-clause-not_yet
returns-clause-not_yet c = row.flush-not-yet

pub returns-clause-in_order : goal.returns-clause-in_order
returns-clause-in_order c = row.flush-in-order

pub returns-clause-partly : goal.returns-clause-partly
returns-clause-partly c = row.flush-partly

pub returns-clause-later : goal.returns-clause-later
returns-clause-later c = row.flush-later
