use Rattle.strand_scripts.proofs.Turning.{follows}
use Rattle.strand_scripts.proofs.Left.{follows-less}
use Rattle.strand_scripts.proofs.strand.ScriptStrandStrandContract.given.Goals as goal

pub returns-clause-turn : goal.returns-clause-turn
returns-clause-turn c = λ es stands now execution.
    follows c.args.site.now es c.args.seen c.args.now.0 c.args.self.now _ _ stands now execution (rw c.new-acts.ensures.items at c.in_ok-see.ensures)

pub returns-clause-left : goal.returns-clause-left
returns-clause-left c own =
    follows-less c.args.site.now c.requires.0 c.args.seen c.args.now.0 c.args.self.now _ _ c.requires.1 c.requires.2 c.requires.3 own (rw c.new-acts.ensures.items at c.in_ok-see.ensures)
