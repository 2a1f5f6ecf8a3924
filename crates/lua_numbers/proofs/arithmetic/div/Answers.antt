use Rattle.std.proofs.Common.{◌≢◌, pos, arith}
use Rattle.std.proofs.lemmas.Int.{ints}
use Rattle.lua_numbers.proofs.DivisionLemmas.{multiple_divides}
use Rattle.lua_numbers.proofs.arithmetic.div.Goals as goal

-- nothing would be left of a multiple
pub returns-else-division-eq0-clause-inexact :
    goal.returns-else-division-eq0-clause-inexact
returns-else-division-eq0-clause-inexact c _ n is_multiple =
    let not_zero : c.args.b ≢ pos 0 = λ zero. c.if-get-eq0.false (omega (arith, ints)) in
    let whole = multiple_divides c.args.a c.args.b n not_zero is_multiple in
    omega (arith, ints)
