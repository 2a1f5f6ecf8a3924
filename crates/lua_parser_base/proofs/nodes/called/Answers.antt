use Rattle.std.proofs.Common.{◌≡◌, max, refl, rules, arith}
use Rattle.lua_parser_base.proofs.nodes.called.Goals as goal

pub returns : goal.returns
returns c = let most : c.max.result ≡ max c.args.callee.height c.args.values.height = search rules in
    record {
      callee = c.in_ok-callee.callee;
      values = c.in_ok-values.values;
      same_callee = c.in_ok-callee.ensures.ok;
      same_values = rw c.in_ok-values.ensures.ok refl;
      built = refl;
      higher = λ few. omega (arith, c.saturating_add-height.ensures, most, few);
      form = refl;
    }
