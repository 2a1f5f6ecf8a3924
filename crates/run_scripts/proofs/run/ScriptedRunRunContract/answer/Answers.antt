use Rattle.run_scripts.proofs.Taking.{takes-answer, answer-less}
use Rattle.run_scripts.proofs.run.ScriptedRunRunContract.answer.Goals as goal

pub returns-clause-turn : goal.returns-clause-turn
returns-clause-turn c =
    takes-answer c.args.site.now c.args._now.0 c.args._answer c.args.self.now c.open.result c.open.ensures.does c.open.ensures.asks

pub returns-clause-left : goal.returns-clause-left
returns-clause-left c =
    answer-less c.args.site.now c.args._answer c.args.self.now c.open.result c.requires c.open.ensures.does c.open.ensures.asks
