use Rattle.std.proofs.Common.{◌≡◌, ◌+◌, ◌≤◌, drop, option_map}
use Rattle.lua_patterns.specs.Items.{inside_len, inside_after}
use Rattle.lua_patterns.proofs.items.inside_len.Given as goal

abbrev pub invariant-loop-index : goal.invariant-loop-index
invariant-loop-index l =
    (option_map (λ n. n + l.index) (inside_after l.kept (drop l.index l.text)) ≡ inside_len l.text) × (l.kept ≤ 2)
