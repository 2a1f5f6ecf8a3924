use Rattle.std.proofs.Common.{append_assoc, arith}
use Rattle.std.proofs.lemmas.Grind.{common_steps}
use Rattle.std.specs.Prelude.{codes, decimal}
use Rattle.schedule_text.proofs.text.dictionary.put_call.Goals as goal

pub returns-in-FlushExpired : goal.returns-in-FlushExpired
returns-in-FlushExpired c = rw (c.in-FlushExpired.is, ← append_assoc c.args.out.now.items (codes "flush_expired ") (decimal c.in-FlushExpired.most)) c.put_small.ensures

pub returns-in-Get : goal.returns-in-Get
returns-in-Get c = grind (arith, common_steps)

pub returns-in-Store : goal.returns-in-Store
returns-in-Store c = grind (arith, common_steps)

pub returns-in-Delete : goal.returns-in-Delete
returns-in-Delete c = grind (arith, common_steps)

pub returns-in-Incr : goal.returns-in-Incr
returns-in-Incr c = grind (arith, common_steps)

pub returns-in-FlushAll : goal.returns-in-FlushAll
returns-in-FlushAll c = grind (arith, common_steps)

pub returns-in-Keys : goal.returns-in-Keys
returns-in-Keys c = grind (arith, common_steps)
