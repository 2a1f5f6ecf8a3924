use Rattle.conf.specs.Routes.{route_of}
use Rattle.reply_stages.proofs.Sending.{route_is}
use Rattle.reply_stages.proofs.scopes.route_to.Goals as goal

pub returns-clause-value : goal.returns-clause-value
returns-clause-value c =
    route_is (route_of c.args.conf.now) c.route_for.result _ _ _ _ (c.a_request_has_one_route.ensures c.args.conf.now _ _ c.route_for.result c.route_for.ensures)
    c.host_of.ensures (cc)
