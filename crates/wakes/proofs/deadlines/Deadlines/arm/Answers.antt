-- One more is armed in both maps, or in none.
use Rattle.std.proofs.Common.{◌+◌, arith}
use Rattle.wakes.proofs.Indexed.{arms, undoes, goes-last}
use Rattle.wakes.proofs.deadlines.Deadlines.arm.Goals as goal

pub invariant_of-self-in_default : goal.invariant_of-self-in_default
invariant_of-self-in_default c =
    undoes c.self.inside.by_number c.self.inside.by_moment c.self.inside.last c.insert-2.new.self c.insert.new.self c.remove-was_there.new.self c.args.at.0 c.self.invariant
    c.in_default.ensures.err c.in_ok-insert.ensures.updates c.remove-was_there.ensures.updates c.insert-2.ensures.ordered

pub invariant_of-self-2 : goal.invariant_of-self-2
invariant_of-self-2 c =
    arms c.self.inside.by_number c.self.inside.by_moment c.self.inside.last c.insert-2.new.self c.insert.new.self (record { at = c.args.at; whose = c.args.whose }) c.self.invariant
    c.in-Ok.ensures.updates c.in_ok-insert.ensures.updates c.insert-2.ensures.ordered

pub returns-clause-done : goal.returns-clause-done
returns-clause-done c =
    let last = goes-last c.self.inside.by_number.entries (c.self.inside.last + 1) (record { at = c.args.at; whose = c.args.whose }) (λ k l. c.self.invariant.fresh k (omega arith)) in
    rw (c.in-Ok.ensures.entries, last, ← c.self.view_is)
