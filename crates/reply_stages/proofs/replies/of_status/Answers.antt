use Rattle.std.proofs.Common.{[], ◌∷◌, Some}
use Rattle.reply_stages.specs.Replies.{whole, with_status}
use Rattle.reply_stages.proofs.Sending.{own_is}
use Rattle.reply_stages.proofs.replies.of_status.Goals as goal

pub returns : goal.returns
returns c =
    own_is c.whole.result (λ n body. whole (with_status c.args.req c.args.status) c.args.default_type.now (Some n) (body ∷ []) c.args.now.0) _ _ _
    c.in_ok-body.ensures c.len-length.ensures.value c.whole.ensures
