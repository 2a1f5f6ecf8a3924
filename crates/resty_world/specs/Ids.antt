-- Names of connections, sockets and strands, as tests that compute.
use Rattle.std.specs.Prelude.{Bool, true, false, ◌==◌}
use Rattle.resty_base.specs.declared.names.Id.{Id}
use Rattle.resty_base.specs.declared.names.Id.TheVariants as id
use Rattle.resty_base.specs.declared.names.StrandId.{StrandId}
use Rattle.resty_base.specs.declared.names.StrandId.TheVariants as strand

-- the two name the same connection or socket
abbrev pub same_id : Id → Id → Bool
same_id (id.Conn c) (id.Conn d) = c == d
same_id (id.Sock n) (id.Sock m) = n == m
same_id (id.Conn c) (id.Sock m) = false
same_id (id.Sock n) (id.Conn d) = false

-- the two name the same strand
abbrev pub same_strand : StrandId → StrandId → Bool
same_strand (strand.Conn c) (strand.Conn d) = c == d
same_strand (strand.Job n) (strand.Job m) = n == m
same_strand (strand.Conn c) (strand.Job m) = false
same_strand (strand.Job n) (strand.Conn d) = false

-- the id is a socket's
abbrev pub is_socket : Id → Bool
is_socket (id.Conn c) = false
is_socket (id.Sock n) = true

-- the id is the strand's own connection; a job has none
abbrev pub is_own : StrandId → Id → Bool
is_own (strand.Conn c) x = same_id x (id.Conn c)
is_own (strand.Job n) x = false
