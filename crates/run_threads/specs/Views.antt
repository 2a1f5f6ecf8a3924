-- The code's values as the definitions have them.
use Rattle.run_threads.specs.declared.answering.Answered.{Answered as AnsweredCode}
use Rattle.run_threads.specs.declared.answering.Running.{Running as RunningCode}
use Rattle.run_threads.specs.Handlers.{Running, Answered}

abbrev pub running_seen : RunningCode → Running
running_seen r = record { req = r.req; pieces = r.pieces.items; store = r.store }

abbrev pub answered_seen : AnsweredCode → Answered
answered_seen a = record { answer = a.answer; running = running_seen a.running }
