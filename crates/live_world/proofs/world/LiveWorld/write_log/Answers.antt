use Rattle.live_world.proofs.world.LiveWorld.write_log.Goals as goal

pub returns-then-not-write_whole-clause-logs : goal.returns-then-not-write_whole-clause-logs
returns-then-not-write_whole-clause-logs g c = c.logs_in_vain.ensures c.args._who c.args.line.now
