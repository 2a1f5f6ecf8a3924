use Rattle.connection_plan.proofs.Scripted as row
use Rattle.connection_plan.proofs.laws.words_and_sockets.Goals as goal

pub returns-clause-word_first : goal.returns-clause-word_first
returns-clause-word_first c = row.word-first

pub returns-clause-socket_first : goal.returns-clause-socket_first
returns-clause-socket_first c = row.socket-first
