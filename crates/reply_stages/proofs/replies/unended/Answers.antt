use Rattle.std.proofs.Common.{ap}
use Rattle.reply_stages.specs.Replies.{unended_under}
use Rattle.reply_stages.proofs.Sending.{if_same}
use Rattle.reply_stages.proofs.replies.unended.Goals as goal

pub returns : goal.returns
returns c =
    if_same c.unended_under.result _ _ (ap (λ head. unended_under c.args.req.now head c.args.pieces.now c.args.now.0) c.in_ok-head.ensures) c.unended_under.ensures
