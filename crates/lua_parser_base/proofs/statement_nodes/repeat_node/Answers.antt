use Rattle.std.proofs.Common.{refl}
use Rattle.lua_parser_base.proofs.statement_nodes.repeat_node.Goals as goal

pub returns : goal.returns
returns c = record {
  run = c.in_ok-new.field-0;
  test_node = c.in_ok-test.test;
  same_run = rw c.in_ok-new.ensures.ok refl;
  same_test = c.in_ok-test.ensures.ok;
  built = refl;
}
