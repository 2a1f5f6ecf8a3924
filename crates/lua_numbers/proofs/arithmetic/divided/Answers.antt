use Rattle.std.proofs.Common.{rules, ◌≡◌, neg_ℤ, arith, w64, SFits}
use Rattle.std.proofs.lemmas.Int.{ints, to_z-of_z}
use Rattle.std.specs.Int.{int_rem_euclid}
use Rattle.lua_numbers.proofs.DivisionLemmas.{rest_below}
use Rattle.lua_numbers.proofs.arithmetic.divided.Goals as goal

pub returns-then-divisor-lt0-clause-rest : goal.returns-then-divisor-lt0-clause-rest
returns-then-divisor-lt0-clause-rest c =
    let v = c.rem_euclid.ensures.value in
    let f = rest_below c.args.a c.args.b (omega (arith, ints)) in
    let fit : SFits w64 (neg_ℤ c.args.a) = search rules in
    let fit2 : SFits w64 (neg_ℤ c.args.b) = search rules in
    let e : c.rem_euclid.result ≡ int_rem_euclid (neg_ℤ c.args.a) (neg_ℤ c.args.b) = grind (arith, to_z-of_z, v) in
    omega (arith, ints)
