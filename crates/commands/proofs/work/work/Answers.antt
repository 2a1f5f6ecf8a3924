-- Files that hold no site, and a site that is checked, replayed or served.
use Rattle.std.proofs.Common.{refl, subst, sym}
use Rattle.commands.specs.Ending.{status_of}
use Rattle.commands.specs.Live.{LeavesBy}
use Rattle.commands.specs.Outside.{outside}
use Rattle.commands.specs.Saying.{said}
use Rattle.site_load.specs.Views.{site_of}
use Rattle.commands.proofs.Working.{site_works, site_leaves, check_works, checks_held, serve_works, serve_leaves, serves_held, works_before}
use Rattle.commands.proofs.work.work.Goals as goal

pub returns-in-Err-clause-works : goal.returns-in-Err-clause-works
returns-in-Err-clause-works g c =
    site_works (said c.args.command.now)
    (outside (g.F.Files.account c.args.files.now) (g.W.World.book c.args.live.now) (g.O.Sink.account c.args.out.now))
    (outside (g.F.Files.account c.load_site.new.files) (g.W.World.book c.args.live.now) (g.O.Sink.account c.args.out.now))
    c.in-Err.fault refl c.in-Err.ensures.err

pub returns-in-Err-clause-live : goal.returns-in-Err-clause-live
returns-in-Err-clause-live g c =
    site_leaves (said c.args.command.now) (g.F.Files.account c.args.files.now).told g.W.World.same g.W.World.book c.args.live.now (g.met.W.World.stays _)
    c.args.command.now.mode c.in-Err.fault

pub returns-in-Check-clause-works : goal.returns-in-Check-clause-works
returns-in-Check-clause-works g c =
    let command = said c.args.command.now in
    let told = (g.F.Files.account c.args.files.now).told in
    check_works command c.in-Check.is
    (outside (g.F.Files.account c.args.files.now) (g.W.World.book c.args.live.now) (g.O.Sink.account c.args.out.now))
    (outside (g.F.Files.account c.load_site.new.files) (g.W.World.book c.args.live.now) (g.O.Sink.account c.write_ok.new.out))
    (checks_held command c.in-Check.is (site_of c.in-Ok.site) told c.in-Ok.ensures.ok) c.write_ok.result c.write_ok.ensures

pub returns-in-Check-clause-live : goal.returns-in-Check-clause-live
returns-in-Check-clause-live g c =
    subst (λ m. LeavesBy m g.W.World.same g.W.World.book (said c.args.command.now) (g.F.Files.account c.args.files.now).told (status_of c.write_ok.result) c.args.live.now c.args.live.now)
    (sym c.in-Check.is) refl

pub returns-in-Replay-clause-works : goal.returns-in-Replay-clause-works
returns-in-Replay-clause-works g c =
    works_before (said c.args.command.now)
    (outside (g.F.Files.account c.args.files.now) (g.W.World.book c.args.live.now) (g.O.Sink.account c.args.out.now)) (g.F.Files.account c.load_site.new.files)
    (outside (g.F.Files.account c.replay.new.files) (g.W.World.book c.args.live.now) (g.O.Sink.account c.replay.new.out))
    c.replay.result c.in-Ok.ensures.well (c.replay.ensures (g.W.World.book c.args.live.now))

pub returns-in-Replay-clause-live : goal.returns-in-Replay-clause-live
returns-in-Replay-clause-live g c =
    subst (λ m. LeavesBy m g.W.World.same g.W.World.book (said c.args.command.now) (g.F.Files.account c.args.files.now).told (status_of c.replay.result) c.args.live.now c.args.live.now)
    (sym c.in-Replay.is) refl

pub serve_live-requires : goal.serve_live-requires
serve_live-requires g c = c.requires c.in-Serve.is

pub returns-in-Serve-clause-works : goal.returns-in-Serve-clause-works
returns-in-Serve-clause-works g c =
    let command = said c.args.command.now in
    let told = (g.F.Files.account c.args.files.now).told in
    serve_works command c.in-Serve.is (site_of c.in-Ok.site)
    (outside (g.F.Files.account c.args.files.now) (g.W.World.book c.args.live.now) (g.O.Sink.account c.args.out.now))
    (outside (g.F.Files.account c.load_site.new.files) (g.W.World.book c.serve_live.new.live) (g.O.Sink.account c.args.out.now))
    (serves_held command c.in-Serve.is (site_of c.in-Ok.site) told c.in-Ok.ensures.ok) refl c.serve_live.result c.serve_live.ensures.serves

pub returns-in-Serve-clause-live : goal.returns-in-Serve-clause-live
returns-in-Serve-clause-live g c =
    let command = said c.args.command.now in
    let told = (g.F.Files.account c.args.files.now).told in
    subst (λ m. LeavesBy m g.W.World.same g.W.World.book command told (status_of c.serve_live.result) c.args.live.now c.serve_live.new.live) (sym c.in-Serve.is) (
      c.serve_live.ensures.same,
      serve_leaves command c.in-Serve.is (site_of c.in-Ok.site)
          (outside (g.F.Files.account c.args.files.now) (g.W.World.book c.args.live.now) (g.O.Sink.account c.args.out.now))
          (outside (g.F.Files.account c.load_site.new.files) (g.W.World.book c.serve_live.new.live) (g.O.Sink.account c.args.out.now))
          (serves_held command c.in-Serve.is (site_of c.in-Ok.site) told c.in-Ok.ensures.ok) refl c.serve_live.result c.serve_live.ensures.serves,
    )
