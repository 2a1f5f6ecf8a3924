-- The request of a head: its target, with the host (RFC 9112, sections 3.2 and 3.3).
use Rattle.std.specs.Prelude.{◌≡◌, ℕ, List, codes, slice_get, Option, Some, None, option_map}
use Rattle.std.specs.Option.{option_or}
use Rattle.resty_base.specs.declared.names.Pair2.{Pair2}
use Rattle.http_base.specs.FieldLists.{values_of}
use Rattle.http_base.specs.Hosts.{plain_host}
use Rattle.uri_args.specs.Targets.{target_of}
use Rattle.uri_args.specs.declared.targets.Target.{Target}
use Rattle.http_in.specs.declared.heads.Head.{Head}
use Rattle.http_in.specs.declared.heads.HeadRead.{HeadRead}
use Rattle.http_in.specs.declared.heads.HeadRead.TheVariants as read
use Rattle.http_in.specs.Heads.{Reads}
use Rattle.client_line.specs.declared.requests.LineOut.{LineOut}
use Rattle.client_line.specs.declared.requests.LineOut.TheVariants.{Waiting, Request, Refused, Memory}

-- the host of the first Host field
abbrev pub host_of : List Pair2 → Option (List ℕ)
host_of fields = option_map plain_host (slice_get (values_of fields (codes "host")) 0)

-- the target with this host where it names none
abbrev pub with_host : Option (List ℕ) → Target → Target
with_host host target = record { path = target.path; args = target.args; host = option_or target.host host }

-- the target of a head, None where it is refused
abbrev pub target_for : Head → Option Target
target_for head = option_map (with_host (host_of head.headers)) (target_of head.target)

-- a head with its target, 400 where that is refused
abbrev pub request_to : Head → Option Target → LineOut
request_to head None = Refused 400
request_to head (Some target) = Request head target

abbrev pub request_of : Head → LineOut
request_of head = request_to head (target_for head)

-- what a client is answered whose bytes are read as this
abbrev pub answer_to : HeadRead → LineOut
answer_to (read.Whole head n) = request_of head
answer_to read.More = Waiting
answer_to (read.Refused code) = Refused code
answer_to read.Memory = Memory

-- the bytes are read as a head, or none, that has this answer
abbrev pub IsOf : List ℕ → LineOut → Type 0
IsOf bytes out = (read : HeadRead) × Reads bytes read × (out ≡ answer_to read)
