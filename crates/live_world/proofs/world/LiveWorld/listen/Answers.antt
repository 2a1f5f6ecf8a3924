use Rattle.live_world.proofs.world.LiveWorld.listen.Goals as goal

pub returns-in-Err-Failed-clause-listens : goal.returns-in-Err-Failed-clause-listens
returns-in-Err-Failed-clause-listens g c = c.listens_in_vain.ensures c.args.port
