use Rattle.lua_threads.proofs.loaded.LoadedMachine.start.Goals as goal

pub returns : goal.returns
returns g c = c.start.ensures (record { program = c.args.self.now.program; count = g.N.Natives.size c.args.self.now.natives; lib = g.N.Natives.meaning c.args.self.now.natives })
