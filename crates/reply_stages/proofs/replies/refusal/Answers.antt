use Rattle.std.proofs.Common.{[], ◌∷◌}
use Rattle.http_reply.specs.Replies as http
use Rattle.http_reply.specs.declared.ends.Framing.TheVariants.{Counted}
use Rattle.reply_stages.proofs.Sending.{refused_is}
use Rattle.reply_stages.proofs.replies.refusal.Goals as goal

pub returns : goal.returns
returns c =
    refused_is c.reply.result (λ h n b. http.reply h (Counted n) (b ∷ []) c.args.now.0) _ _ _ _ _ c.built_in-head.ensures c.in_ok-body.ensures c.len.ensures.value c.reply.ensures
