use Rattle.run_scripts.proofs.Taking.{begins, begins-short}
use Rattle.run_scripts.proofs.run.ScriptedRunRunContract.begin.Goals as goal

pub returns-clause-turn : goal.returns-clause-turn
returns-clause-turn c =
    begins c.args.site.now c.args._now.0 c.args._sockets c.args.head c.args.target c.come.result c.come.ensures.turn c.come.ensures.asks

pub returns-clause-left : goal.returns-clause-left
returns-clause-left c = begins-short c.args.site.now c.come.result c.come.ensures.turn c.come.ensures.asks
