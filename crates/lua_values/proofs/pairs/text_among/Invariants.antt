use Rattle.std.proofs.Common.{◌≡◌, ◌<◌, ℕ, false}
use Rattle.lua_values.specs.declared.values.Value.TheVariants.{Text}
use Rattle.lua_values.specs.Values.{same}
use Rattle.lua_values.specs.Numbered.{passes_at}
use Rattle.lua_values.proofs.pairs.text_among.Given as goal

abbrev pub invariant-loop-index : goal.invariant-loop-index
invariant-loop-index l = (k : ℕ) → k < l.index → passes_at (same (Text l.name)) l.pairs.entries k ≡ false
