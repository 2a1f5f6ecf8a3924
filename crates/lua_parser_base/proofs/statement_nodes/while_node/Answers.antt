use Rattle.std.proofs.Common.{refl}
use Rattle.lua_parser_base.proofs.statement_nodes.while_node.Goals as goal

pub returns : goal.returns
returns c = record {
  test_node = c.in_ok-test.test;
  run = c.in_ok-new.field-0;
  same_test = c.in_ok-test.ensures.ok;
  same_run = rw c.in_ok-new.ensures.ok refl;
  built = refl;
}
