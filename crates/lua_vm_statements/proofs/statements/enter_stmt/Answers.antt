use Rattle.lua_meaning.specs.Works.{AStmt}
use Rattle.lua_frames.proofs.FollowLemmas.{enters_by, enters_spent}
use Rattle.lua_vm_statements.proofs.statements.enter_stmt.Goals as goal

pub returns-then-not-count : goal.returns-then-not-count
returns-then-not-count g c = enters_spent (g.H.Host.setting c.args.host.now) (AStmt c.args.stmt.now) c.args.frames.now _ c.args.store.now _ c.count.result c.count.ensures.below c.if-not-count.true

pub returns : goal.returns
returns g c =
    enters_by (g.H.Host.setting c.args.host.now) (AStmt c.args.stmt.now) c.args.frames.now c.begin_stmt.new.frames c.args.store.now c.count.new.self c.begin_stmt.new.store c.count.result c.begin_stmt.result c.count.ensures.counted c.count.ensures.below c.if-not-count.false c.begin_stmt.ensures
