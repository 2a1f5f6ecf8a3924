use Rattle.std.proofs.Common.{refl}
use Rattle.lua_parser_base.proofs.statement_nodes.generic_for.Goals as goal

pub returns : goal.returns
returns c = record {
  slots = c.in_ok-slots.slots;
  given = c.in_ok-values.values;
  run = c.in_ok-body.body;
  same_slots = rw c.in_ok-slots.ensures.ok refl;
  same_given = rw c.in_ok-values.ensures.ok refl;
  same_run = rw c.in_ok-body.ensures.ok refl;
  built = refl;
}
