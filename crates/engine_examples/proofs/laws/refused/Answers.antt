use Rattle.engine_examples.proofs.laws.refused.Goals as goal
use Rattle.engine_examples.proofs.Refused.{not-exchanged, not-at-once, not-again, not-taken, not-early, not-between, not-socket-first, not-job-first, not-by-number, not-early-run, not-held-back, not-nothing, not-another, not-dialled, not-premature, not-before-sockets, not-left-out, not-of-another, not-by-others}

pub returns-clause-exchanged : goal.returns-clause-exchanged
returns-clause-exchanged c = not-exchanged

pub returns-clause-at_once : goal.returns-clause-at_once
returns-clause-at_once c = not-at-once

pub returns-clause-counts_again : goal.returns-clause-counts_again
returns-clause-counts_again c = not-again

pub returns-clause-took_none : goal.returns-clause-took_none
returns-clause-took_none c = not-taken

pub returns-clause-early : goal.returns-clause-early
returns-clause-early c = not-early

pub returns-clause-others_between : goal.returns-clause-others_between
returns-clause-others_between c = not-between

pub returns-clause-socket_first : goal.returns-clause-socket_first
returns-clause-socket_first c = not-socket-first

pub returns-clause-job_first : goal.returns-clause-job_first
returns-clause-job_first c = not-job-first

pub returns-clause-by_number : goal.returns-clause-by_number
returns-clause-by_number c = not-by-number

pub returns-clause-early_run : goal.returns-clause-early_run
returns-clause-early_run c = not-early-run

pub returns-clause-held_back : goal.returns-clause-held_back
returns-clause-held_back c = not-held-back

pub returns-clause-nothing : goal.returns-clause-nothing
returns-clause-nothing c = not-nothing

pub returns-clause-another_socket : goal.returns-clause-another_socket
returns-clause-another_socket c = not-another

pub returns-clause-dialled : goal.returns-clause-dialled
returns-clause-dialled c = not-dialled

pub returns-clause-not_premature : goal.returns-clause-not_premature
returns-clause-not_premature c = not-premature

pub returns-clause-before_sockets : goal.returns-clause-before_sockets
returns-clause-before_sockets c = not-before-sockets

pub returns-clause-left_out : goal.returns-clause-left_out
returns-clause-left_out c = not-left-out

pub returns-clause-of_another : goal.returns-clause-of_another
returns-clause-of_another c = not-of-another

pub returns-clause-by_others : goal.returns-clause-by_others
returns-clause-by_others c = not-by-others
