use Rattle.lua_frames.proofs.StackLemmas.{count_pop, one_there}
use Rattle.lua_frames.proofs.stack.Stack.pop.Goals as goal

pub overflow_sub-self : goal.overflow_sub-self
overflow_sub-self c = one_there c.args.self.now.frames.items c.pop.new.self.items c.in-Some.frame _ _ c.args.self.now.counted (rw c.in-Some.is at c.pop.ensures.items) c.count_of.ensures

pub invariant_of-self-in-Some : goal.invariant_of-self-in-Some
invariant_of-self-in-Some c =
    record { counted = count_pop c.args.self.now.frames.items c.pop.new.self.items c.in-Some.frame _ _ c.args.self.now.counted (rw c.in-Some.is at c.pop.ensures.items) c.count_of.ensures }
