-- What is said alone is a function of what was asked and learned.
use Rattle.std.proofs.Common.{◌≡◌, ℕ, List, sym, ap, ◌∙◌}
use Rattle.uri_args.specs.declared.targets.Target.{Target}
use Rattle.http_in.specs.declared.heads.Head.{Head}
use Rattle.strand_contract.specs.Actions.{LocalAction}
use Rattle.connection_plan.specs.Clients.{Exchange}
use Rattle.connection_plan.specs.Services.{Service}
use Rattle.connection_laws.specs.Alone.{Beginning, reply_alone}
use Rattle.connection_laws.specs.Replies.{IsSaidAlone, LearnTheSame}

same-beginning : (x y : Beginning) → x.head ≡ y.head → x.target ≡ y.target → x.now ≡ y.now → x.sockets ≡ y.sockets → x ≡ y
same-beginning x y head target now sockets =
    ap (λ h. record { head = h; target = x.target; now = x.now; sockets = x.sockets }) head
    ∙ ap (λ t. record { head = y.head; target = t; now = x.now; sockets = x.sockets }) target
    ∙ ap (λ n. record { head = y.head; target = y.target; now = n; sockets = x.sockets }) now
    ∙ ap (λ n. record { head = y.head; target = y.target; now = y.now; sockets = n }) sockets

pub same-reply : {J R : Type 0} (site : Service J R) (es fs : List (LocalAction J)) (older others : List Exchange) (head : Head) (target : Target) (reply other : List ℕ)
    → (x : IsSaidAlone es site older head target reply) (y : IsSaidAlone fs site others head target other) → LearnTheSame {site = site} x y → reply ≡ other
same-reply site es fs older others head target reply other x y same =
    x.said
    ∙ ap (λ t. reply_alone site.runs t x.continues x.of.news) (same-beginning x.of.beginning y.of.beginning (x.of.asked.0 ∙ sym y.of.asked.0) (x.of.asked.1 ∙ sym y.of.asked.1) same.0 same.1)
    ∙ ap (λ c. reply_alone site.runs y.of.beginning c x.of.news) same.3
    ∙ ap (λ ns. reply_alone site.runs y.of.beginning y.continues ns) same.2
    ∙ sym y.said
