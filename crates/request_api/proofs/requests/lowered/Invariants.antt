use Rattle.std.proofs.Common.{◌≡◌, map, take}
use Rattle.request_api.specs.Requests as requests
use Rattle.request_api.proofs.requests.lowered.Given as goal

abbrev pub invariant-loop-field : goal.invariant-loop-field
invariant-loop-field l = l.lowered.items ≡ map requests.lowered (take l.field-index l.fields)
