use Rattle.connection_plan.proofs.Scripted as row
use Rattle.connection_plan.proofs.laws.two_threads_and_a_body.Goals as goal

pub returns-clause-at_once : goal.returns-clause-at_once
returns-clause-at_once c = row.at-once

pub returns-clause-not_yet : goal.returns-clause-not_yet
returns-clause-not_yet c = row.not-yet

pub returns-clause-later : goal.returns-clause-later
returns-clause-later c = row.later-on

pub returns-clause-in_order : goal.returns-clause-in_order
returns-clause-in_order c = row.in-order

pub returns-clause-armed : goal.returns-clause-armed
returns-clause-armed c = row.body-first
