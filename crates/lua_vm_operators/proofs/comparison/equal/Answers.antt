use Rattle.lua_vm_operators.proofs.CompareLemmas.{counted_goes, counted_spent}
use Rattle.lua_vm_operators.proofs.comparison.equal.Goals as goal

pub returns-then-count_texts : goal.returns-then-count_texts
returns-then-count_texts g c = counted_goes (g.H.Host.setting c.args.host.now) c.args.a c.args.b _ c.args.frames.now _ c.args.store.now _ _ _ _ c.count_texts.ensures c.if-count_texts.true c.tell_equal.ensures

pub returns-else-count_texts : goal.returns-else-count_texts
returns-else-count_texts g c = counted_spent (g.H.Host.setting c.args.host.now) c.args.a c.args.b _ c.args.frames.now _ c.args.store.now _ _ c.count_texts.ensures c.if-count_texts.false
