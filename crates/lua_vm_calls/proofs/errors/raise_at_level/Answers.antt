use Rattle.std.proofs.Common.{arith}
use Rattle.std.proofs.lemmas.Int.{ints}
use Rattle.lua_vm_calls.proofs.ErrorLemmas.{below_one, from_one}
use Rattle.lua_vm_calls.proofs.errors.raise_at_level.Goals as goal

pub returns-then-level-lt1 : goal.returns-then-level-lt1
returns-then-level-lt1 c = λ S store given e. below_one S _ c.args.level given c.args.value c.args.frames.now _ store _ (λ k is. absurd (omega (arith, ints, is, c.if-level-lt1.true))) c.raise_value.ensures

pub returns-else-level-lt1 : goal.returns-else-level-lt1
returns-else-level-lt1 c = λ S store given e. from_one S _ c.args.level _ given c.args.value c.args.frames.now _ store _ (omega (arith, ints, c.if-level-lt1.false)) (c.raise_given.ensures S store e)
