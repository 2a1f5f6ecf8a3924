use Rattle.std.proofs.Common.{sym}
use Rattle.request_api.proofs.Dashes.{dashes_plain}
use Rattle.request_api.proofs.names.dashed.Goals as goal

pub returns-in_ok-clone-in-None : goal.returns-in_ok-clone-in-None
returns-in_ok-clone-in-None c =
    rw (dashes_plain c.args.name.now (sym (rw (c.in-None.is, c.deref.ensures) at c.split_once.ensures.after))) c.in_ok-clone-in-None.ensures.cases
