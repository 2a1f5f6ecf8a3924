use Rattle.lua_meaning.specs.Works.{AnExpr, AValue, Eval}
use Rattle.lua_frames.specs.Items.{resume_item}
use Rattle.lua_frames.specs.Frames.{here, slots_of}
use Rattle.lua_frames.proofs.FollowLemmas.{works_as, step_under, enters_by, enters_spent}
use Rattle.lua_vm_expressions.specs.Children.{BeginsWith}
use Rattle.lua_vm_expressions.proofs.expressions.enter_expr.Goals as goal

pub returns-then-not-count : goal.returns-then-not-count
returns-then-not-count g c = enters_spent (g.H.Host.setting c.args.host.now) (AnExpr c.args.x.now) c.args.frames.now _ c.args.store.now _ c.count.result c.count.ensures.below c.if-not-count.true

pub returns-in-None : goal.returns-in-None
returns-in-None g c =
    enters_by (g.H.Host.setting c.args.host.now) (AnExpr c.args.x.now) c.args.frames.now c.leaf_all.new.frames c.args.store.now c.count.new.self c.leaf_all.new.store c.count.result c.leaf_all.result c.count.ensures.counted c.count.ensures.below c.if-not-count.false c.leaf_all.ensures

pub returns-in_ok-wait-in-Some : goal.returns-in_ok-wait-in-Some
returns-in_ok-wait-in-Some g c =
    let begins : BeginsWith c.args.x.now c.in-Some.child.item c.in-Some.child.expr.now = rw c.in-Some.is at c.in_ok-child_of.ensures in
    enters_by (g.H.Host.setting c.args.host.now) (AnExpr c.args.x.now) c.args.frames.now c.enter_value.new.frames c.args.store.now c.count.new.self c.enter_value.new.store c.count.result c.enter_value.result c.count.ensures.counted c.count.ensures.below c.if-not-count.false
    (works_as (g.H.Host.setting c.args.host.now) _ (Eval (AValue c.in-Some.child.expr.now) (here c.args.frames.now) (slots_of c.args.frames.now) (resume_item (g.H.Host.setting c.args.host.now) c.in-Some.child.item (here c.args.frames.now))) c.args.frames.now c.enter_value.new.frames c.count.new.self c.enter_value.new.store c.enter_value.result
    (step_under (g.H.Host.setting c.args.host.now) c.args.frames.now c.wait.new.frames c.enter_value.new.frames c.in-Some.child.item (AValue c.in-Some.child.expr.now) c.count.new.self c.enter_value.new.store c.enter_value.result c.in_ok-wait-in-Some.ensures c.enter_value.ensures)
    (begins.all (g.H.Host.setting c.args.host.now) (here c.args.frames.now) (slots_of c.args.frames.now)))
