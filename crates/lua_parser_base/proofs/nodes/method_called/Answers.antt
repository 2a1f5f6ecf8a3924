use Rattle.std.proofs.Common.{◌≡◌, max, refl, rules, arith}
use Rattle.lua_parser_base.proofs.nodes.method_called.Goals as goal

pub returns : goal.returns
returns c = let most : c.max.result ≡ max c.args.object.height c.args.values.height = search rules in
    record {
      object = c.in_ok-object.object;
      values = c.in_ok-values.values;
      same_object = c.in_ok-object.ensures.ok;
      same_values = rw c.in_ok-values.ensures.ok refl;
      built = refl;
      higher = λ few. omega (arith, c.saturating_add-height.ensures, most, few);
      form = refl;
    }
