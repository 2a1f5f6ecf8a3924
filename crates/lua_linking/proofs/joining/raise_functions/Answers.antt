use Rattle.std.proofs.Common.{arith, sym}
use Rattle.lua_linking.specs.Raising.{RaisedFunction}
use Rattle.lua_linking.proofs.Lists.{zipped}
use Rattle.lua_linking.proofs.joining.raise_functions.Goals as goal

pub returns : goal.returns
returns c = zipped (RaisedFunction c.args.by c.args.files) c.args.functions.now c.loop-i.functions (sym c.loop-i.auto.functions)
    (λ k d p. c.loop-i.invariant.2 k d (omega (arith, p, c.loop-i-test.false)))
