use Rattle.connection_laws.proofs.Blind.{never-looks-minds, stored-never-looks, echo-never-looks, recalling-does-not, telling-in-a-line-does-not, telling-in-a-question-does-not}
use Rattle.connection_laws.proofs.laws.runs_that_never_look_mind_their_own.Goals as goal

pub returns-clause-minds : goal.returns-clause-minds
returns-clause-minds g c = never-looks-minds

pub returns-clause-stored : goal.returns-clause-stored
returns-clause-stored g c name key otherwise = never-looks-minds _ (stored-never-looks name key otherwise)

pub returns-clause-echo : goal.returns-clause-echo
returns-clause-echo g c reads = never-looks-minds _ (echo-never-looks reads)

pub returns-clause-recalling : goal.returns-clause-recalling
returns-clause-recalling g c = recalling-does-not

pub returns-clause-telling_in_a_line : goal.returns-clause-telling_in_a_line
returns-clause-telling_in_a_line g c = telling-in-a-line-does-not

pub returns-clause-telling_in_a_question : goal.returns-clause-telling_in_a_question
returns-clause-telling_in_a_question g c = telling-in-a-question-does-not
