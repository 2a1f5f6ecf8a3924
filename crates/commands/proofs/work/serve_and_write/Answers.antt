use Rattle.std.proofs.Common.{inl, subst}
use Rattle.commands.specs.Writing.{WritesHistory}
use Rattle.commands.proofs.work.serve_and_write.Goals as goal

pub returns-in-Ok : goal.returns-in-Ok
returns-in-Ok g c = inl (
  c.in-Ok.run'.ended,
  c.in-Ok.run'.world.history.entries,
  c.in-Ok.ensures,
  subst (λ h. WritesHistory c.in-Ok.run'.ended h.entries c.write_history-ending.result (g.O.Sink.account c.args.out.now) (g.O.Sink.account c.write_history-ending.new.out)) c.history.ensures c.write_history-ending.ensures,
)
