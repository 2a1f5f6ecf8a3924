use Rattle.std.proofs.Common.{sym}
use Rattle.lua_values.proofs.TableLemmas.{live-some, live-nowhere}
use Rattle.lua_values.proofs.OutlineLemmas.{full-next}
use Rattle.lua_values.proofs.tables.Table.live_from.Goals as goal

pub returns-in-Full : goal.returns-in-Full
returns-in-Full c =
    let known = rw c.in-Full.is at c.self.invariant in
    rw (← c.self.view_is, ← full-next c.self.inside.pairs c.args.from known.0) c.pair.ensures

pub returns-in-Some : goal.returns-in-Some
returns-in-Some c =
    let known = rw c.in-Flagged.is at c.self.invariant in
    rw (← c.self.view_is, live-some c.self.inside.pairs c.self.inside.live known.marks_live c.args.from c.in-Some.index c.in-Some.ensures) c.pair-in-Some.ensures

pub returns-in-None : goal.returns-in-None
returns-in-None c =
    let known = rw c.in-Flagged.is at c.self.invariant in
    rw (← c.self.view_is) (sym (live-nowhere c.self.inside.pairs c.self.inside.live known.marks_live c.args.from c.in-None.ensures))
