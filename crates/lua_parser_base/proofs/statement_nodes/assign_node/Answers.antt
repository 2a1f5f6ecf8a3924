use Rattle.std.proofs.Common.{refl}
use Rattle.lua_parser_base.proofs.statement_nodes.assign_node.Goals as goal

pub returns : goal.returns
returns c = record {
  list = c.in_ok-targets.targets;
  given = c.in_ok-new.field-0;
  same_list = rw c.in_ok-targets.ensures.ok refl;
  same_given = rw c.in_ok-new.ensures.ok refl;
  built = refl;
}
