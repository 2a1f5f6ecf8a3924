use Rattle.std.proofs.Common.{refl, rules}
use Rattle.lua_parser_base.proofs.statement_nodes.numeric_for.Goals as goal

pub returns-in-Ok-Ok-Ok : goal.returns-in-Ok-Ok-Ok
returns-in-Ok-Ok-Ok c = let ends = rw c.in-Ok-Ok-Ok.is-0 at c.both-ends.ensures in
    record {
      slot = c.first_slot-slot.result;
      from = c.in-Ok-Ok-Ok.from;
      to = c.in-Ok-Ok-Ok.to;
      step = c.in-Ok-Ok-Ok.step;
      run = c.in-Ok-Ok-Ok.body;
      first = search rules;
      same_from = ends.0;
      same_to = ends.1;
      same_step = rw c.in-Ok-Ok-Ok.is-1 at c.shared-step.ensures;
      same_run = rw c.in-Ok-Ok-Ok.ensures.ok refl;
      built = refl;
    }
