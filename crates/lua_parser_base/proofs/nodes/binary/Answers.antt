use Rattle.std.proofs.Common.{◌≡◌, max, refl, rules, arith}
use Rattle.lua_parser_base.proofs.nodes.binary.Goals as goal

pub returns : goal.returns
returns c = let most : c.max.result ≡ max c.args.left.height c.args.right.height = search rules in
    record {
      left = c.in_ok-shared.shared.0;
      right = c.in_ok-shared.shared.1;
      same_left = c.in_ok-shared.ensures.0;
      same_right = c.in_ok-shared.ensures.1;
      built = rw c.binary_kind.ensures refl;
      higher = λ few. omega (arith, c.saturating_add-height.ensures, most, few);
      own = c.level.ensures;
    }
