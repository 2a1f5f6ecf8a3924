use Rattle.std.proofs.Common.{◌≡◌, subst, OnOk}
use Rattle.lua_values.specs.declared.values.Value.{Value}
use Rattle.lua_values.specs.Pairs.{with_value}
use Rattle.lua_values.specs.Shifts.{moved}
use Rattle.lua_values.proofs.tables.Table.put_first.Goals as goal

pub returns-clause-done : goal.returns-clause-done
returns-clause-done c =
    let ps = c.args.self.now.pairs in
    subst (λ (k : Value). OnOk c.put.result (c.put.new.self ≡ record { pairs = with_value ps k (moved ps c.args.shift 0); meta = c.args.self.now.meta })) c.key.ensures
    (subst (λ (v : Value). OnOk c.put.result (c.put.new.self ≡ record { pairs = with_value ps c.key.result v; meta = c.args.self.now.meta })) c.in_ok-first.ensures c.put.ensures.done)
