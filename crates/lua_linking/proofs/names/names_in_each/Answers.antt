use Rattle.std.proofs.Common.{◌-◌, arith}
use Rattle.lua_linking.proofs.Steps.{names_more}
use Rattle.lua_linking.proofs.names.names_in_each.Goals as goal

pub loop-n-preserved : goal.loop-n-preserved
loop-n-preserved c = (
  omega arith,
  names_more c.args.functions.now c.loop-n.n (c.loop-n.n - 1) c.index-functions-n.result c.loop-n.known.items c.push_front.new.self.items c.in_ok-names.names
      (omega arith) (omega arith) c.index-functions-n.is c.loop-n.invariant.1 c.in_ok-names.ensures c.in_ok-push_front.ensures.items,
)
