use Rattle.std.proofs.Common.{get_or, refl}
use Rattle.lua_linking.proofs.Steps.{names_after}
use Rattle.lua_linking.proofs.names.names_of_each.Goals as goal

pub loop-number-preserved : goal.loop-number-preserved
loop-number-preserved c =
    let same = c.as_slice.ensures.value in let each = c.in_ok-known.ensures in
    names_after c.args.program.now.functions.items c.in_ok-known.known.items c.args.numbers.now c.loop-number.number-index (get_or c.args.numbers.now c.loop-number.number-index 0) 0
    c.loop-number.names.items c.names_at.result.now c.append_names.new.names.items (cc) c.loop-number-test.true refl c.loop-number.invariant c.names_at.ensures c.in_ok-append_names.ensures
