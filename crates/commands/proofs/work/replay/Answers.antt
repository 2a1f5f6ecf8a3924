use Rattle.std.proofs.Common.{refl}
use Rattle.commands.specs.Outside.{outside}
use Rattle.commands.specs.Saying.{said}
use Rattle.site_load.specs.Views.{site_of}
use Rattle.commands.proofs.Working.{schedule_works, run_works, runs_held}
use Rattle.commands.proofs.work.replay.Goals as goal

pub returns-in-Err : goal.returns-in-Err
returns-in-Err g c = λ live.
    schedule_works (said c.args.command.now) c.requires.mode (site_of c.args.site)
    (outside (g.F.Files.account c.args.files.now) live (g.O.Sink.account c.args.out.now))
    (outside (g.F.Files.account c.read_schedule.new.files) live (g.O.Sink.account c.args.out.now))
    c.in-Err.ending refl c.requires.site c.in-Err.ensures.ends

pub returns-in-Ok : goal.returns-in-Ok
returns-in-Ok g c = λ live.
    run_works (said c.args.command.now) c.requires.mode (site_of c.args.site) c.in-Ok.schedule
    (outside (g.F.Files.account c.args.files.now) live (g.O.Sink.account c.args.out.now))
    (outside (g.F.Files.account c.read_schedule.new.files) live (g.O.Sink.account c.serve_and_write.new.out))
    (runs_held (said c.args.command.now) c.requires.mode (site_of c.args.site) c.in-Ok.schedule (g.F.Files.account c.args.files.now).told c.requires.site c.in-Ok.ensures.schedule)
    c.serve_and_write.result c.serve_and_write.ensures
