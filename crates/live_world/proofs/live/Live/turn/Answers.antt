use Rattle.std.proofs.Common.{◌∙◌, ap}
use Rattle.live_world.specs.Accounts.{book_of}
use Rattle.live_world.proofs.live.Live.turn.Goals as goal

pub returns : goal.returns
returns g c = c.attend.ensures ∙ ap book_of c.now-now.ensures
