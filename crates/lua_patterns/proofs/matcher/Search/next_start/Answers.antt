use Rattle.std.proofs.Common.{inl, inr, arith}
use Rattle.lua_patterns.proofs.Walking.{no_later, next_later}
use Rattle.lua_patterns.proofs.matcher.Search.next_start.Goals as goal
use Rattle.lua_patterns.proofs.matcher.Search.next_start.Goals.{then-self-via-then-self, then-self-via-else-self+then-state-self}

pub returns-then-self : goal.returns-then-self
returns-then-self c = λ expected before.
    elim c.then-self.branch [
      | then-self-via-then-self w ↦ (no_later c.args.self.now c.args.state.now expected c.requires (inl w.if-self.true) before, omega arith)
      | then-self-via-else-self+then-state-self w ↦ (no_later c.args.self.now c.args.state.now expected c.requires (inr w.if-state-self.true) before, omega arith)
    ]

pub returns : goal.returns
returns c = λ expected before.
    (next_later c.args.self.now c.args.state.now _ expected c.requires c.if-self.false c.if-state-self.false c.clear.ensures.items before, omega arith)
