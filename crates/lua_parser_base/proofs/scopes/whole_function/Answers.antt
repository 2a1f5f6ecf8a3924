use Rattle.std.proofs.Common.{◌≡◌, ◌≤◌, refl, sym, rules, arith, ◌∙◌, map, length}
use Rattle.lua_parser_base.proofs.Lookups.{variables_same, captured_length}
use Rattle.lua_parser_base.proofs.scopes.whole_function.Goals as goal

pub returns : goal.returns
returns c = λ names same. record {
  file = refl;
  params = sym same;
  vararg = refl;
  slots = refl;
  captures =
      let kept : c.in_ok-variables.field-0.items ≡ map (λ c. c.variable) c.args.frame.now.captures.items = search rules in
      kept ∙ sym (variables_same c.args.frame.now.captures.items);
  body = search rules;
  begins = refl;
  few_locals = c.args.frame.now.few_slots;
  few_captures =
      let few : length c.args.frame.now.captures.items ≤ 60 = grind (arith, c.args.frame.now.few_captures) in
      rw (captured_length c.args.frame.now.captures.items) few;
}
