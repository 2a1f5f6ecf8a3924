use Rattle.std.proofs.Common.{◌≡◌, take}
use Rattle.request_api.specs.Heads as heads
use Rattle.request_api.proofs.heads.others.Given as goal

abbrev pub invariant-loop-field : goal.invariant-loop-field
invariant-loop-field l = l.others.items ≡ heads.others (take l.field-index l.fields)
