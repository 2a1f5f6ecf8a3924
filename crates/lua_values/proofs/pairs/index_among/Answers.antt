use Rattle.std.proofs.Common.{sym, ◌∙◌, arith}
use Rattle.lua_values.specs.Values.{same}
use Rattle.lua_values.proofs.NumberedLemmas.{scan-some, scan-none}
use Rattle.lua_values.proofs.pairs.index_among.Goals as goal

pub returns-then-is_key_at-clause-index : goal.returns-then-is_key_at-clause-index
returns-then-is_key_at-clause-index c =
    sym (scan-some (same c.args.key.now) c.args.pairs.now.entries c.loop-index.index c.loop-index.invariant (sym c.is_key_at.ensures ∙ c.if-is_key_at.true))

pub returns-clause-index : goal.returns-clause-index
returns-clause-index c =
    sym (scan-none (same c.args.key.now) c.args.pairs.now.entries (λ k lt. c.loop-index.invariant k (omega (arith, lt, c.loop-index-test.false, c.len-index-end.ensures.len))))
