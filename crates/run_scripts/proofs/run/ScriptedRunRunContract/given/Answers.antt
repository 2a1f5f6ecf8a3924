use Rattle.run_scripts.proofs.Taking.{takes-turn, takes-less}
use Rattle.run_scripts.proofs.run.ScriptedRunRunContract.given.Goals as goal

pub returns-clause-turn : goal.returns-clause-turn
returns-clause-turn c = takes-turn c.args.site.now c.args.now.0 c.args.seen c.args.self.now _ c.see.result c.see.ensures.turn c.see.ensures.asks

pub returns-clause-left : goal.returns-clause-left
returns-clause-left c own =
    takes-less c.args.site.now c.args.now.0 c.args.seen c.args.self.now _ c.see.result c.requires own c.see.ensures.turn c.see.ensures.asks
