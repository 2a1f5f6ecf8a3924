use Rattle.std.proofs.Common.{◌∙◌, ◌/◌, arith}
use Rattle.std.proofs.lemmas.Result.{err_from_is_err_and}
use Rattle.lua_numbers.proofs.PowerLemmas.{power_passes, square_passes, square_given, square_times}
use Rattle.lua_numbers.proofs.powers.+natural_power.Goals as goal

-- half the power is out of range, and so is the whole
pub returns-in_err-half : goal.returns-in_err-half
returns-in_err-half t c =
    let p = err_from_is_err_and c.from_residual.result c.from_residual.ensures.1 in
    rw (p.1, p.2) (power_passes c.args.base (c.args.exponent / 2) c.args.exponent _ (omega arith) c.in_err-half.ensures)

pub returns-in_err-square : goal.returns-in_err-square
returns-in_err-square t c =
    let p = err_from_is_err_and c.from_residual-in_err-square.result c.from_residual-in_err-square.ensures.1 in
    rw (p.1, p.2) (square_passes c.args.base c.args.exponent c.in_ok-half.half _ c.in_ok-half.ensures c.in_err-square.ensures)

pub returns-then-exponent-eq0-2 : goal.returns-then-exponent-eq0-2
returns-then-exponent-eq0-2 t c =
    square_given c.args.base c.args.exponent c.in_ok-half.half _ c.if-exponent-eq0-2.true c.in_ok-half.ensures c.in_ok-square.ensures

pub returns-else-exponent-eq0-2 : goal.returns-else-exponent-eq0-2
returns-else-exponent-eq0-2 t c =
    c.mul-else-exponent-eq0-2.ensures
    ∙ square_times c.args.base c.args.exponent c.in_ok-half.half _ c.if-exponent-eq0-2.false c.in_ok-half.ensures c.in_ok-square.ensures
