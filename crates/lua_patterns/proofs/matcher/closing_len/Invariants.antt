use Rattle.std.proofs.Common.{◌≡◌, ◌+◌, ◌≤◌, drop, option_map}
use Rattle.lua_patterns.specs.Trails.{closing_len}
use Rattle.lua_patterns.proofs.matcher.closing_len.Given as goal

abbrev pub invariant-loop-index : goal.invariant-loop-index
invariant-loop-index l =
    (option_map (λ n. n + l.index) (closing_len l.opening l.closing l.others (drop l.index l.text)) ≡ closing_len l.opening l.closing 0 l.text)
    × (l.others ≤ l.index)
