use Rattle.std.proofs.Common.{refl, sym, ◌∙◌}
use Rattle.engine_turns.specs.Worked.{Logs}
use Rattle.engine_turns.proofs.Going.{goes-joins}
use Rattle.engine.proofs.engine.Engine.step.Goals as goal

pub returns-then-self-clause-stepped : goal.returns-then-self-clause-stepped
returns-then-self-clause-stepped g c =
    let w = goes-joins g.W.World.same g.W.World.book _ _ _ _ _ _ (g.met.W.World.joins _ _ _) c.take-is_stop.ensures.works c.settle.ensures.works in
    let l : Logs (g.W.World.book c.args.world.now) c.settle.new.self.log_failed (g.W.World.book c.settle.new.world) = w.logs (g.W.World.book c.args.world.now) (refl, refl) in
    rw c.if-self.true at l

pub returns-then-is_stop-clause-stepped : goal.returns-then-is_stop-clause-stepped
returns-then-is_stop-clause-stepped g c =
    let w = goes-joins g.W.World.same g.W.World.book _ _ _ _ _ _ (g.met.W.World.joins _ _ _) c.take-is_stop.ensures.works c.settle.ensures.works in
    let l : Logs (g.W.World.book c.args.world.now) c.settle.new.self.log_failed (g.W.World.book c.settle.new.world) = w.logs (g.W.World.book c.args.world.now) (refl, refl) in
    (sym c.take-is_stop.ensures.stops ∙ c.if-is_stop.true, rw c.if-self.false at l)

pub returns-else-is_stop-clause-stepped : goal.returns-else-is_stop-clause-stepped
returns-else-is_stop-clause-stepped g c =
    let w = goes-joins g.W.World.same g.W.World.book _ _ _ _ _ _ (g.met.W.World.joins _ _ _) c.take-is_stop.ensures.works c.settle.ensures.works in
    let l : Logs (g.W.World.book c.args.world.now) c.settle.new.self.log_failed (g.W.World.book c.settle.new.world) = w.logs (g.W.World.book c.args.world.now) (refl, refl) in
    (sym c.take-is_stop.ensures.stops ∙ c.if-is_stop.false, rw c.if-self.false at l)
