use Rattle.std.proofs.Common.{arith}
use Rattle.lua_values.proofs.NumberedLemmas.{counted, length-all}
use Rattle.lua_values.proofs.pairs.Pairs.len.Goals as goal

pub returns-clause-len : goal.returns-clause-len
returns-clause-len c =
    rw (← c.self.view_is) (omega (arith, length-all c.self.inside.numbered.items c.self.inside.others.entries, counted c.len.result c.self.inside.numbered c.len.ensures, c.len-2.ensures.len))
