use Rattle.std.proofs.Common.{refl}
use Rattle.lua_parser_base.proofs.statement_nodes.returned.Goals as goal

pub returns : goal.returns
returns c = record {
  given = c.in_ok-new.field-0;
  same_given = rw c.in_ok-new.ensures.ok refl;
  built = refl;
}
