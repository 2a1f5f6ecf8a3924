-- The variables of a request (nginx, "Embedded Variables" of the module ngx_http_core_module).
use Rattle.std.specs.Prelude.{ℕ, ◌==◌, ◌&&◌, List, [], ◌∷◌, drop, length, codes, decimal, find, bytes_eq, nat_eq, nat_lt}
use Rattle.std.specs.Prelude.{Option, None, Some, unwrap_or, if◌then◌else◌}
use Rattle.std.specs.List.{starts_with}
use Rattle.std.specs.Option.{option_or}
use Rattle.resty_base.specs.Ascii.{equals}
use Rattle.http_base.specs.Names.{same_name}
use Rattle.http_base.specs.Splitting.{before, after, split}
use Rattle.uri_args.specs.Arguments.{ampersand}
use Rattle.request_api.specs.declared.requests.Req.{Req}
use Rattle.request_api.specs.declared.variables.Variable.{Variable}
use Rattle.request_api.specs.declared.variables.Variable.TheVariants as named
use Rattle.request_api.specs.Names.{dashed}
use Rattle.request_api.specs.Values.{first_value, unless_empty}

-- the name of a variable
unfoldable pub spelling : Variable → List ℕ
spelling named.Uri = codes "uri"
spelling named.RequestUri = codes "request_uri"
spelling named.Args = codes "args"
spelling named.QueryString = codes "query_string"
spelling named.IsArgs = codes "is_args"
spelling named.RequestMethod = codes "request_method"
spelling named.Host = codes "host"
spelling named.Scheme = codes "scheme"
spelling named.ServerPort = codes "server_port"
spelling named.ServerProtocol = codes "server_protocol"
spelling named.RemoteAddr = codes "remote_addr"
spelling named.ContentType = codes "content_type"
spelling named.ContentLength = codes "content_length"
spelling named.Status = codes "status"

-- the variables that have one name
unfoldable pub variables : List Variable
variables =
    named.Uri ∷ named.RequestUri ∷ named.Args ∷ named.QueryString ∷ named.IsArgs ∷ named.RequestMethod ∷ named.Host ∷
    named.Scheme ∷ named.ServerPort ∷ named.ServerProtocol ∷ named.RemoteAddr ∷ named.ContentType ∷ named.ContentLength ∷
    named.Status ∷ []

-- the variable of this name
unfoldable pub variable_of : List ℕ → Option Variable
variable_of name = find (λ known. bytes_eq (spelling known) name) variables

-- a `?` where there are arguments
abbrev pub is_args : List ℕ → List ℕ
is_args args = if length args == 0 then [] else codes "?"

-- the host, empty where there is none
abbrev pub host : Req → List ℕ
host req = unwrap_or req.target.host []

-- the protocol of this minor version (RFC 9112, 2.3)
abbrev pub protocol : ℕ → List ℕ
protocol minor = if minor == 0 then codes "HTTP/1.0" else codes "HTTP/1.1"

-- the value of a variable, on a server of this port
abbrev pub value_of : Req → ℕ → Variable → Option (List ℕ)
value_of req port named.Uri = Some req.target.path
value_of req port named.RequestUri = Some req.head.target
value_of req port named.Args = unless_empty req.target.args
value_of req port named.QueryString = unless_empty req.target.args
value_of req port named.IsArgs = Some (is_args req.target.args)
value_of req port named.RequestMethod = Some req.head.method
value_of req port named.Host = Some (host req)
value_of req port named.Scheme = Some (codes "http")
value_of req port named.ServerPort = Some (decimal port)
value_of req port named.ServerProtocol = Some (protocol req.head.minor)
value_of req port named.RemoteAddr = Some (codes "127.0.0.1")
value_of req port named.ContentType = first_value req.head.headers (codes "content-type")
value_of req port named.ContentLength = first_value req.head.headers (codes "content-length")
value_of req port named.Status = Some (decimal req.reply.status)

-- the value of what stands between two `&`, where it has this name and a `=`
abbrev pub value_in : List ℕ → List ℕ → Option (List ℕ)
value_in piece name = if same_name (before equals piece) name then after equals piece else None

-- the value of the first argument of this name that has a `=`
abbrev pub value_among : List (List ℕ) → List ℕ → Option (List ℕ)
value_among [] name = None
value_among (piece ∷ pieces) name = option_or (value_in piece name) (value_among pieces name)

-- the same of arguments as they are written
abbrev pub argument : List ℕ → List ℕ → Option (List ℕ)
argument args name = value_among (split ampersand args) name

-- the value of the first header field of this name, with `-` for each `_`
abbrev pub header : Req → List ℕ → Option (List ℕ)
header req name = first_value req.head.headers (dashed name)

-- a variable whose name says of which argument or header field it is; `arg_` alone is of none
abbrev pub prefixed : Req → List ℕ → Option (List ℕ)
prefixed req name =
    if starts_with nat_eq name (codes "arg_") && nat_lt 4 (length name) then argument req.target.args (drop 4 name)
    else if starts_with nat_eq name (codes "http_") then header req (drop 5 name) else None

-- the value of the variable, or of one by its beginning where there is none of this whole name
abbrev pub value_or_prefixed : Req → ℕ → List ℕ → Option Variable → Option (List ℕ)
value_or_prefixed req port name None = prefixed req name
value_or_prefixed req port name (Some known) = value_of req port known

-- the value of the variable of this name
abbrev pub variable : Req → List ℕ → ℕ → Option (List ℕ)
variable req name port = value_or_prefixed req port name (variable_of name)
