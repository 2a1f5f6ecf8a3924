use Rattle.std.proofs.Common.{refl, rules, arith, length, take_all, ◌≡◌, ◌<◌}
use Rattle.lua_grammar.specs.Scopes.{last_index}
use Rattle.lua_parser_base.proofs.Lookups.{searched, within, below}
use Rattle.lua_parser_base.proofs.frames.Frame.local.Goals.{then-eq, else-eq}
use Rattle.lua_parser_base.proofs.frames.Frame.local.Goals as goal

pub loop-slot-init : goal.loop-slot-init
unfolding last_index
loop-slot-init c = refl

pub loop-slot-preserved : goal.loop-slot-preserved
loop-slot-preserved c =
    let xs = c.args.self.now.locals.items in
    let same = c.deref-local-items.ensures.value in
    let inside : c.loop-slot.slot < length xs = rw same at c.loop-slot-test.true in
    let at = rw same at c.local-item.is in
    let test = rw c.as_slice.ensures at c.eq.ensures in
    elim c.if-eq.branch [
      | then-eq w ↦ searched _ xs _ c.local-item.result _ _ _ c.eq.result inside at c.loop-slot.invariant test (rw (w.found-is, w.if-eq.true) refl)
      | else-eq w ↦ searched _ xs _ c.local-item.result _ _ _ c.eq.result inside at c.loop-slot.invariant test (rw (w.found-is, w.if-eq.false) refl)
    ]

pub returns-clause-within : goal.returns-clause-within
returns-clause-within c =
    let all : c.loop-slot.found ≡ last_index c.args.name.now c.args.self.now.locals.items = search (rules, take_all) in
    rw all (below _ _ _ (grind arith) (within c.args.name.now c.args.self.now.locals.items))
