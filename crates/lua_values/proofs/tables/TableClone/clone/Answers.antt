use Rattle.std.proofs.Common.{◌∙◌, ap}
use Rattle.lua_values.proofs.tables.TableClone.clone.Goals as goal

pub invariant_of-result : goal.invariant_of-result
invariant_of-result c = rw (c.in_ok-clone.ensures.cases, c.in_ok-clone-2.ensures.cases, c.in_ok-clone-3.ensures.cases) c.self.invariant

pub returns : goal.returns
returns c = record { cases = ap (λ ps. record { pairs = ps; meta = c.self.inside.meta }) c.in_ok-clone-3.ensures.cases ∙ c.self.view_is }
