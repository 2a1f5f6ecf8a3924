use Rattle.std.proofs.Common.{refl}
use Rattle.lua_parser_base.proofs.statement_nodes.local_node.Goals as goal

pub returns : goal.returns
returns c = record {
  list = c.in_ok-slots.slots;
  given = c.in_ok-new.field-0;
  same_slots = rw c.in_ok-slots.ensures.ok refl;
  same_given = rw c.in_ok-new.ensures.ok c.given-values.ensures;
  built = refl;
}
