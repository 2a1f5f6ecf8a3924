use Rattle.std.proofs.Common.{ap, sym, ◌∙◌}
use Rattle.lua_values.specs.Flags.{flag_at}
use Rattle.lua_values.proofs.FlagLemmas.{standing-none}
use Rattle.lua_values.proofs.flags.Flags.first_from.Goals as goal

pub returns-then-self-eq0 : goal.returns-then-self-eq0
returns-then-self-eq0 c = λ k le. ap (λ xs. flag_at xs k) (sym c.self.view_is) ∙ standing-none c.self.inside.flags.items (sym c.self.invariant.3 ∙ c.if-self-eq0.true) k
