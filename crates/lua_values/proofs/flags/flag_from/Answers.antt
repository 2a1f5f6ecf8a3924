use Rattle.std.proofs.Common.{arith}
use Rattle.std.proofs.lemmas.Grind.{common_steps}
use Rattle.lua_values.proofs.FlagLemmas.{next-any, next-none}
use Rattle.lua_values.proofs.flags.flag_from.Goals as goal

pub returns-then-from-flags : goal.returns-then-from-flags
returns-then-from-flags c = grind (arith, common_steps)

pub overflow_add-next : goal.overflow_add-next
overflow_add-next c = grind (arith, common_steps)

pub overflow_mul-next : goal.overflow_mul-next
overflow_mul-next c = grind (arith, common_steps)

pub overflow_mul-next-in-Some-block_from : goal.overflow_mul-next-in-Some-block_from
overflow_mul-next-in-Some-block_from c = grind (arith, common_steps)

pub returns-in-Some : goal.returns-in-Some
returns-in-Some c = record { from = c.in-Some.ensures.first.1 }

pub returns-in-None-block_from : goal.returns-in-None-block_from
returns-in-None-block_from c = record {
  from = next-none c.args.flags.now c.args.blocks.now c.args.from c.requires.flags c.in-None.ensures.first c.in-None-block_from.ensures.from;
}

pub returns-in-Some-block_from : goal.returns-in-Some-block_from
returns-in-Some-block_from c = record {
  from = next-any c.args.flags.now c.args.blocks.now c.args.from c.in-Some-block_from.next c.requires.flags c.in-None.ensures.first c.in-Some-block_from.ensures.from _ c.first_within-in-Some-block_from.ensures.first;
}
