use Rattle.connection_plan.proofs.Bodies.{asking-leaves, asked-in-step, fed-in-step, done-in-step}
use Rattle.connection_plan.proofs.laws.asking_for_a_body_leaves_what_follows.Goals as goal

pub returns-clause-follows : goal.returns-clause-follows
returns-clause-follows c came max x = asking-leaves came.at came.held max x

pub returns-clause-asked : goal.returns-clause-asked
returns-clause-asked c came max x = asked-in-step came.at came.held max x

pub returns-clause-fed : goal.returns-clause-fed
returns-clause-fed c = fed-in-step

pub returns-clause-done : goal.returns-clause-done
returns-clause-done c came x = done-in-step came.at came.held x
