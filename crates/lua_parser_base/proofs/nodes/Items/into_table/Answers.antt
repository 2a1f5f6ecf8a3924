use Rattle.std.proofs.Common.{refl, arith}
use Rattle.lua_parser_base.proofs.nodes.Items.into_table.Goals as goal

pub returns : goal.returns
returns c = record {
  list = c.in_ok-new.field-0;
  same = rw c.in_ok-new.ensures.ok refl;
  built = refl;
  higher = λ few. omega (arith, c.saturating_add.ensures);
  own = refl;
}
