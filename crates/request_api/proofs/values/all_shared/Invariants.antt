use Rattle.std.proofs.Common.{◌≡◌, take}
use Rattle.http_base.specs.Lent.{texts}
use Rattle.request_api.proofs.values.all_shared.Given as goal

abbrev pub invariant-loop-text : goal.invariant-loop-text
invariant-loop-text l = l.shared.items ≡ texts (take l.text-index l.lent)
