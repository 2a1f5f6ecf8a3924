use Rattle.std.proofs.Common.{sym}
use Rattle.lua_values.proofs.PairLemmas.{nil-absent}
use Rattle.lua_values.proofs.tables.Table.taken.Goals as goal

pub returns-in-None : goal.returns-in-None
returns-in-None c = nil-absent c.args.self.now.pairs c.args.key.now (sym c.in-None.ensures.entry)
