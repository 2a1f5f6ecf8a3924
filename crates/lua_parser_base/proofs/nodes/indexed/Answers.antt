use Rattle.std.proofs.Common.{◌≡◌, max, refl, rules, arith}
use Rattle.lua_parser_base.proofs.nodes.indexed.Goals as goal

pub returns : goal.returns
returns c = let most : c.max.result ≡ max c.args.object.height c.args.key.height = search rules in
    record {
      object = c.in_ok-shared.shared.0;
      key = c.in_ok-shared.shared.1;
      same_object = c.in_ok-shared.ensures.0;
      same_key = c.in_ok-shared.ensures.1;
      built = refl;
      higher = λ few. omega (arith, c.saturating_add-height.ensures, most, few);
      form = refl;
    }
