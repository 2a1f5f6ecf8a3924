use Rattle.std.proofs.Common.{◌≡◌, subst, OnOk}
use Rattle.lua_values.specs.declared.values.Value.{Value}
use Rattle.lua_values.specs.Pairs.{with_value}
use Rattle.lua_values.specs.Shifts.{moved}
use Rattle.lua_values.proofs.tables.Table.put_moved.Goals as goal

pub returns : goal.returns
returns c =
    let ps = c.args.self.now.pairs in
    subst (λ (k : Value). OnOk c.put.result (c.put.new.self ≡ record { pairs = with_value ps k (moved c.args.from.now.pairs c.args.shift c.args.i); meta = c.args.self.now.meta })) c.key.ensures
    (subst (λ (v : Value). OnOk c.put.result (c.put.new.self ≡ record { pairs = with_value ps c.key.result v; meta = c.args.self.now.meta })) c.in_ok-value.ensures c.put.ensures.done)
