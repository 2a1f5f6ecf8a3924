use Rattle.std.proofs.Common.{◌≡◌, ◌-◌, ◌^◌, ℕ, false, Option, Some, None}
use Rattle.engine_base.specs.declared.seats.ToCome.TheVariants as coming
use Rattle.engine_turns.specs.Turns.{Stands}
use Rattle.engine_turns.specs.Worked.{Works}
use Rattle.engine.proofs.events.end_all.Given as goal

-- how many numbers of connections come after this one
abbrev pub after : Option ℕ → ℕ
after None = 2 ^ 64
after (Some c) = 2 ^ 64 - 1 - c

abbrev pub invariant-loop-connection : goal.invariant-loop-connection
invariant-loop-connection g l = record {
  standing : Stands (g.S.StrandContract.meaning l.site) l.turns (g.W.World.book l.world);
  works : Works g.W.World.same g.W.World.book l.fn.turns l.turns l.fn.world l.world;
  in_offers : l.turns.in_offers ≡ false;
  to_come : l.turns.to_come ≡ coming.Endings l.last;
}

abbrev pub decreases-loop-connection : goal.decreases-loop-connection
decreases-loop-connection g l = after l.last
