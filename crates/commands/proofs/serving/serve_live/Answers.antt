use Rattle.commands.specs.Live.{served}
use Rattle.site_load.specs.Views.{site_of}
use Rattle.commands.proofs.Listening.{served_since}
use Rattle.commands.proofs.serving.serve_live.Goals as goal

pub returns-clause-serves : goal.returns-clause-serves
returns-clause-serves g c =
    let book = g.W.World.book in
    served c.serve.result c.by.ensures (served_since (site_of c.args.site) c.args.events (book c.args.live.now) (book c.listen.new.self) (book c.serve.new.world) c.serve.result
    c.in-Up.ensures.listens c.serve.ensures.right c.serve.ensures.port c.serve.ensures.few c.serve.ensures.ended)
