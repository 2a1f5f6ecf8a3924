use Rattle.std.proofs.Common.{refl, rules}
use Rattle.lua_parser_base.proofs.nodes.member.Goals as goal

pub returns : goal.returns
returns c = record {
  object = c.args.object;
  same = refl;
  built = (c.in_ok-new.field-0, search rules, refl);
}
