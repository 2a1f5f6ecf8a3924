use Rattle.std.proofs.Common.{arith}
use Rattle.http_in.proofs.Numbers.{one-more, digit-is, fits}
use Rattle.request_api.proofs.lengths.number.Goals as goal

pub overflow_mul-number : goal.overflow_mul-number
overflow_mul-number c = let small = fits c.args.digits.now c.loop-digit.digit-index c.requires in omega (arith, small, c.loop-digit.invariant)

pub overflow_add-number : goal.overflow_add-number
overflow_add-number c =
    let small = fits c.args.digits.now c.loop-digit.digit-index c.requires in
    let range = digit-is c.args.digits.now c.loop-digit.digit-index c.requires c.loop-digit-test.true in
    omega (arith, small, range, c.loop-digit.invariant, c.from.ensures)

pub loop-digit-preserved : goal.loop-digit-preserved
loop-digit-preserved c =
    let range = digit-is c.args.digits.now c.loop-digit.digit-index c.requires c.loop-digit-test.true in
    let more = one-more c.args.digits.now c.loop-digit.digit-index c.from.result c.requires c.loop-digit-test.true (omega (arith, range, c.from.ensures)) in
    omega (arith, more, c.loop-digit.invariant)

pub overflow_sub-digit : goal.overflow_sub-digit
overflow_sub-digit c = let range = digit-is c.args.digits.now c.loop-digit.digit-index c.requires c.loop-digit-test.true in omega (arith, range)
