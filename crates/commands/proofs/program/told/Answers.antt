use Rattle.commands.proofs.ByWords.{takes}
use Rattle.commands.proofs.program.told.Goals as goal

pub returns-clause-line : goal.returns-clause-line
returns-clause-line g c =
    takes c.put_line.result _ (g.E.Sink.account c.args.err.now) (g.E.Sink.account c.put_line.new.err) c.put_line.ensures.ok c.put_line.ensures.err
