use Rattle.std.proofs.Common.{refl}
use Rattle.std.proofs.lemmas.Result.{on_ok_weaker}
use Rattle.lua_linking.proofs.statements.raise_step.Goals as goal

pub returns-in-Some : goal.returns-in-Some
returns-in-Some c = on_ok_weaker c.raise_shared.result (λ h. rw c.in-Some.is (c.raise_shared.new.expr, refl, h)) c.raise_shared.ensures
