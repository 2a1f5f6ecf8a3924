use Rattle.std.proofs.Common.{refl}
use Rattle.lua_values.specs.declared.values.Value.TheVariants.{Number}
use Rattle.lua_values.proofs.OutlineLemmas.{outline-whole}
use Rattle.lua_values.proofs.tables.Table.renew_whole.Goals as goal

pub invariant_of-self : goal.invariant_of-self
invariant_of-self c =
    outline-whole c.self.inside.outline c.self.inside.pairs c.renew_whole.new.self (Number c.args.number) c.self.inside.live c.self.inside.holes c.renew_whole.result c.self.invariant refl
    c.renew_whole.ensures.at c.renew_whole.ensures.kept
