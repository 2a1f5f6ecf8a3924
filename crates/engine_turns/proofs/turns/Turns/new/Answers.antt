use Rattle.std.proofs.Common.{[], refl}
use Rattle.engine_base.proofs.Events.{fresh-stands}
use Rattle.engine_turns.proofs.turns.Turns.new.Goals as goal

pub returns : goal.returns
returns g c = λ site book fresh. ([], fresh-stands _ _ _ book fresh c.new.ensures.empty c.new-2.ensures c.new-3.ensures.items refl refl refl c.new-4.ensures, (c.new-2.ensures, c.new-3.ensures.items, refl, refl))
