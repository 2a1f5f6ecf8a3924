use Rattle.std.proofs.Common.{◌∙◌, ap, refl}
use Rattle.lua_meaning.specs.Works.{Work, AValue}
use Rattle.lua_frames.specs.Frames.{here, slots_of, working}
use Rattle.lua_vm_expressions.specs.Children.{BeginsWith}
use Rattle.lua_vm_expressions.proofs.EnterLemmas.{entered, entered_under, enters_done, enters_no_step, fewer_left}
use Rattle.lua_vm_expressions.proofs.expressions.enter_value.Goals as goal

pub loop-next-init : goal.loop-next-init
loop-next-init g c = λ rs. refl

pub returns-then-not-count : goal.returns-then-not-count
returns-then-not-count g c =
    enters_no_step (g.H.Host.setting c.args.host.now) (AValue c.args.x.now) (AValue c.loop-next.next.now) c.args.frames.now c.loop-next.frames _ c.args.store.now c.loop-next.store _ c.count.result c.loop-next.invariant c.count.ensures.below c.if-not-count.true

pub returns-in-None : goal.returns-in-None
returns-in-None g c =
    enters_done (g.H.Host.setting c.args.host.now) (AValue c.args.x.now) (AValue c.loop-next.next.now) c.args.frames.now c.loop-next.frames c.leaf_one.new.frames c.args.store.now c.loop-next.store c.count.new.self c.leaf_one.new.store c.count.result c.leaf_one.result
    c.loop-next.invariant c.count.ensures.counted c.count.ensures.below c.if-not-count.false c.leaf_one.ensures

pub loop-next-smaller : goal.loop-next-smaller
loop-next-smaller g c = fewer_left c.loop-next.store c.count.new.self c.count.result c.count.ensures.counted c.count.ensures.below c.if-not-count.false

pub loop-next-preserved : goal.loop-next-preserved
loop-next-preserved g c =
    let begins : BeginsWith c.loop-next.next.now c.in-Some.child.item c.in-Some.child.expr.now = rw c.in-Some.is at c.in_ok-child_of.ensures in
    λ rs.
    c.loop-next.invariant rs ∙ entered (g.H.Host.setting c.args.host.now) (AValue c.loop-next.next.now) c.loop-next.frames c.loop-next.store c.count.new.self c.count.result c.count.ensures.counted c.count.ensures.below c.if-not-count.false rs
    ∙ ap (λ (q : Work). working (g.H.Host.setting c.args.host.now) q c.loop-next.frames c.count.new.self rs) (begins.one (g.H.Host.setting c.args.host.now) (here c.loop-next.frames) (slots_of c.loop-next.frames))
    ∙ entered_under (g.H.Host.setting c.args.host.now) c.loop-next.frames c.wait.new.frames c.in-Some.child.item (AValue c.in-Some.child.expr.now) c.count.new.self c.in_ok-wait-in-Some.ensures rs
