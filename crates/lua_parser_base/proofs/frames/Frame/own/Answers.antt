use Rattle.std.proofs.Common.{◌≡◌, Some, None, rules}
use Rattle.lua_parser_base.proofs.Lookups.{own_is, none_of}
use Rattle.lua_parser_base.proofs.frames.Frame.own.Goals as goal

pub returns-in_err-index : goal.returns-in_err-index
returns-in_err-index c =
    let m = none_of c.local.result c.in_default.not-Some in
    let k : c.capture.result ≡ None = search rules in
    rw c.from_residual.ensures (own_is c.args.name.now c.args.self.now None None (cc) (cc))

pub returns : goal.returns
returns c =
    let m = none_of c.local.result c.in_default.not-Some in
    let k : c.capture.result ≡ Some c.in_ok-index.index = search rules in
    own_is c.args.name.now c.args.self.now None (Some c.in_ok-index.index) (cc) (cc)
