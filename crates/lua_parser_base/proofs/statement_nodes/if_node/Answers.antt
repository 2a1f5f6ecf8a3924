use Rattle.std.proofs.Common.{refl}
use Rattle.lua_parser_base.proofs.statement_nodes.if_node.Goals as goal

pub returns : goal.returns
returns c = record {
  list = c.in_ok-arms.arms;
  block = c.in_ok-new.field-0;
  same_list = rw c.in_ok-arms.ensures.ok refl;
  same_block = rw c.in_ok-new.ensures.ok refl;
  built = refl;
}
