use Rattle.std.proofs.Common.{rules}
use Rattle.lua_parser_base.proofs.cursor.Parser.push_name.Goals as goal

pub returns-clause-reads : goal.returns-clause-reads
returns-clause-reads c = record {
  line = c.in_ok-name.field-0.line;
  name = c.in_ok-name.field-0.name;
  taken = c.in_ok-name.ensures.takes;
  listed = search rules;
}
