use Rattle.std.proofs.Common.{refl, arith, length, drop, length-drop}
use Rattle.lua_patterns.proofs.Balancing.{wait_none, reach_empty}
use Rattle.lua_patterns.proofs.balance.Pair.of.Goals as goal

pub loop-left-init : goal.loop-left-init
loop-left-init c =
    let empty = length-drop (length c.args.subject.now) c.args.subject.now in (
      (refl, refl, reach_empty c.args.opening c.args.closing (drop (length c.args.subject.now) c.args.subject.now) _ _ (omega (arith, empty)) c.new.ensures.items c.new-2.ensures.items),
      wait_none c.args.opening c.args.closing (drop (length c.args.subject.now) c.args.subject.now) _ (omega (arith, empty)) c.new-ends.ensures.items,
      omega arith,
    )
