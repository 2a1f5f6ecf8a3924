use Rattle.std.proofs.Common.{refl, rules}
use Rattle.lua_parser_base.proofs.Bodies.{entered}
use Rattle.lua_parser_base.proofs.cursor.Parser.enter.Goals as goal

pub returns-clause-enters : goal.returns-clause-enters
returns-clause-enters c = record {
  kept = c.in_ok-number.ensures.functions.0;
  scope =
      let frame = rw (← c.replace-outer.ensures.after) at c.with_parameters.ensures in
      let more = rw (c.replace-outer.ensures.value, c.number_function.ensures.frame, c.number_function.ensures.enclosing) at c.in_ok-push.ensures.items in
      entered _ _ _ c.args.self.now.frame c.replace-outer.new.dest c.args.self.now.enclosing.items c.push.new.self.items c.args.parameters.names.items c.in_ok-number.ensures.functions.1 frame more;
  number = c.in_ok-number.ensures.number;
  params = search rules;
  vararg = refl;
  line = refl;
}
