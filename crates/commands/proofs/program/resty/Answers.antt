use Rattle.std.proofs.Common.{subst}
use Rattle.commands.specs.Ends.{no_command, worked}
use Rattle.commands.specs.Live.{Leaves}
use Rattle.commands.specs.Outside.{outside}
use Rattle.commands.specs.Saying.{said}
use Rattle.commands.specs.Words.{Command, texts}
use Rattle.commands.specs.Writing.{Writes}
use Rattle.commands.proofs.ByWords.{judged, judged_usage, complete}
use Rattle.commands.proofs.Commands.{same_command}
use Rattle.commands.proofs.program.resty.Goals as goal

pub returns-in-None-clause-ending : goal.returns-in-None-clause-ending
returns-in-None-clause-ending g c =
    no_command c.in-None.ensures.none c.told-in-None.ensures.status c.told-in-None.ensures.line

pub returns-in-None-clause-judged : goal.returns-in-None-clause-judged
returns-in-None-clause-judged g c =
    let now = outside (g.F.Files.account c.args.files.now) (g.W.World.book c.args.live.now) (g.O.Sink.account c.args.out.now) in
    rw c.told-in-None.ensures.status (judged_usage c.one_status.ensures (texts c.args.words.now) now now c.in-None.ensures.none)

pub returns-in-None-clause-complete : goal.returns-in-None-clause-complete
returns-in-None-clause-complete g c =
    let now = outside (g.F.Files.account c.args.files.now) (g.W.World.book c.args.live.now) (g.O.Sink.account c.args.out.now) in
    complete (texts c.args.words.now) now now c.told-in-None.result (returns-in-None-clause-judged g c)

pub work-ending-requires : goal.work-ending-requires
work-ending-requires g c = λ serves. c.requires (said c.in-Some.command, c.in-Some.ensures.some, serves)

pub returns-in-Some-clause-ending : goal.returns-in-Some-clause-ending
returns-in-Some-clause-ending g c =
    worked (said c.in-Some.command) c.work-ending.result c.in-Some.ensures.some c.told.ensures.status c.work-ending.ensures.works.due c.told.ensures.line

pub returns-in-Some-clause-judged : goal.returns-in-Some-clause-judged
returns-in-Some-clause-judged g c =
    judged c.one_status.ensures (texts c.args.words.now) (said c.in-Some.command) c.in-Some.ensures.some
    (outside (g.F.Files.account c.args.files.now) (g.W.World.book c.args.live.now) (g.O.Sink.account c.args.out.now))
    (outside (g.F.Files.account c.work-ending.new.files) (g.W.World.book c.work-ending.new.live) (g.O.Sink.account c.work-ending.new.out))
    c.work-ending.result c.told.result c.told.ensures.status c.work-ending.ensures.works.due

pub returns-in-Some-clause-complete : goal.returns-in-Some-clause-complete
returns-in-Some-clause-complete g c =
    complete (texts c.args.words.now)
    (outside (g.F.Files.account c.args.files.now) (g.W.World.book c.args.live.now) (g.O.Sink.account c.args.out.now))
    (outside (g.F.Files.account c.work-ending.new.files) (g.W.World.book c.work-ending.new.live) (g.O.Sink.account c.work-ending.new.out))
    c.told.result (returns-in-Some-clause-judged g c)

pub returns-in-Some-clause-writes : goal.returns-in-Some-clause-writes
returns-in-Some-clause-writes g c = λ command says.
    subst (λ (d : Command). Writes d (g.F.Files.account c.args.files.now).told c.told.result (g.O.Sink.account c.args.out.now) (g.O.Sink.account c.work-ending.new.out))
    (same_command (texts c.args.words.now) (said c.in-Some.command) command c.in-Some.ensures.some says)
    (rw c.told.ensures.status c.work-ending.ensures.works.writes)

pub returns-in-Some-clause-live : goal.returns-in-Some-clause-live
returns-in-Some-clause-live g c = λ command says.
    subst (λ (d : Command). Leaves g.W.World.same g.W.World.book d (g.F.Files.account c.args.files.now).told c.told.result c.args.live.now c.work-ending.new.live)
    (same_command (texts c.args.words.now) (said c.in-Some.command) command c.in-Some.ensures.some says)
    (rw c.told.ensures.status c.work-ending.ensures.live)
