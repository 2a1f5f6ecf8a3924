use Rattle.std.proofs.Common.{refl, arith}
use Rattle.lua_parser_base.proofs.nodes.unary.Goals as goal

pub returns : goal.returns
returns c = record {
  operand = c.in_ok-new.field-0;
  same = c.in_ok-new.ensures.ok;
  built = refl;
  higher = λ few. omega (arith, c.saturating_add.ensures);
  own = refl;
}
