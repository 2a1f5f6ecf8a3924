use Rattle.std.proofs.Common.{sym, ◌∙◌, ◌+◌, ap, ℕ}
use Rattle.lua_vm_fast.proofs.tests.equated.Goals as goal

pub returns-clause-compares : goal.returns-clause-compares
returns-clause-compares c = record {
  same = c.in_ok-same.same;
  told = sym c.equality.ensures ∙ c.in_ok-same.ensures;
  holds = c.as_wanted.ensures;
  steps = ap (λ (n : ℕ). c.args.a.now.steps + c.args.b.now.steps + 1 + n) c.text_steps-texts.ensures;
}
