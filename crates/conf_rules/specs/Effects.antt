-- What the words of a directive mean.
use Rattle.std.specs.Prelude.{ℕ, min, Bool, true, false, not, ◌&&◌, ◌||◌, ◌==◌, nat_le, nat_lt}
use Rattle.std.specs.Prelude.{List, length, map, codes, bytes_eq, Option, Some, None, option_map}
use Rattle.std.specs.Prelude.{if◌then◌else◌}
use Rattle.std.specs.Option.{option_and_then}
use Rattle.resty_base.specs.Ascii.{slash}
use Rattle.http_base.specs.Names.{lower}
use Rattle.conf_rules.specs.Values.{number_of, size_of, time_of}
use Rattle.conf_rules.specs.Words.{word, level_in, port_of, are_plain, without_default, is_pattern, is_name, begins_with}
use Rattle.conf_rules.specs.declared.directives.Directive.{Directive}
use Rattle.conf_rules.specs.declared.directives.Directive.TheVariants as directive
use Rattle.conf_rules.specs.declared.directives.Place.{Place}
use Rattle.conf_rules.specs.declared.directives.Place.TheVariants as place
use Rattle.conf_rules.specs.declared.effects.LocationKind.{LocationKind}
use Rattle.conf_rules.specs.declared.effects.LocationKind.TheVariants.{Exact, Prefix, Named}
use Rattle.conf_rules.specs.declared.effects.Effect.{Effect}
use Rattle.conf_rules.specs.declared.effects.Effect.TheVariants as effect

-- the only word
abbrev pub only : List (List ℕ) → Option (List ℕ)
only words = if length words == 1 then Some (word words 0) else None

-- a directive without words
abbrev pub bare : List (List ℕ) → Option Effect
bare words = if length words == 0 then Some effect.Nothing else None

-- a directive without effect, if it has as many words as nginx has it take
abbrev pub idle : Bool → Option Effect
idle fits = if fits then Some effect.Nothing else None

-- a directive without words that has a block of directives
abbrev pub opens : Place → List (List ℕ) → Option Effect
opens place words = if length words == 0 then Some (effect.Opens place) else None

-- `error_log`: a level
abbrev pub level : List (List ℕ) → Option Effect
level words = option_map effect.Level (level_in words)

-- so many connections, at most 512 of them
abbrev pub connections_of : ℕ → Option Effect
connections_of number = if number == 0 then None else Some (effect.Count (min number 512))

-- `worker_connections`: a number above 0
abbrev pub connections : List (List ℕ) → Option Effect
connections words = option_and_then connections_of (option_and_then number_of (only words))

-- so many sockets, a number of 32 bits
abbrev pub pool_of : ℕ → Option Effect
pool_of number = if nat_le number 4_294_967_295 then Some (effect.Count number) else None

-- `lua_socket_pool_size`: a number
abbrev pub pool : List (List ℕ) → Option Effect
pool words = option_and_then pool_of (option_and_then number_of (only words))

-- the longest body for which a size stands: 0 and more than 16m are 16m
abbrev pub body_of : ℕ → ℕ
body_of size = if size == 0 then 16_777_216 else min size 16_777_216

-- `client_max_body_size`: a size
abbrev pub body : List (List ℕ) → Option Effect
body words = option_map (λ size. effect.Size (body_of size)) (option_and_then size_of (only words))

-- the directives of times
abbrev pub time : List (List ℕ) → Option Effect
time words = option_map effect.Time (option_and_then time_of (only words))

-- the words after a port make its server the default one: `default_server`, or nothing
abbrev pub is_default : List (List ℕ) → Option Bool
is_default words =
    if length words == 1 then Some false
    else if length words == 2 && bytes_eq (word words 1) (codes "default_server") then Some true
    else None

-- `listen`: a port, and whether its server is the default one
abbrev pub listen : List (List ℕ) → Option Effect
listen words =
    option_and_then (λ default. option_map (λ port. effect.Listen port default) (port_of (word words 0))) (is_default words)

-- `server_name`: one name or more, which match in any case
abbrev pub names : List (List ℕ) → Option Effect
names words = if length words == 0 then None else Some (effect.Names (map lower words))

-- from 1 to 64m
abbrev pub is_dictionary_size : ℕ → Bool
is_dictionary_size size = nat_lt 0 size && nat_le size 67_108_864

-- the size of a dictionary
abbrev pub dictionary_size : List ℕ → Option ℕ
dictionary_size text = option_and_then (λ size. if is_dictionary_size size then Some size else None) (size_of text)

-- `lua_shared_dict`: a name and a size
abbrev pub dictionary : List (List ℕ) → Option Effect
dictionary words =
    if not (length words == 2) || not (is_name (word words 0)) then None
    else option_map (λ size. effect.Dictionary (word words 0) size) (dictionary_size (word words 1))

-- `lua_package_path`: one pattern
abbrev pub package_path : List (List ℕ) → Option Effect
package_path words =
    let pattern = without_default (word words 0) in
    if length words == 1 && is_pattern pattern then Some (effect.Text pattern) else None

-- `default_type`: plain text
abbrev pub default_type : List (List ℕ) → Option Effect
default_type words = if length words == 1 && are_plain (word words 0) then Some (effect.Text (word words 0)) else None

-- '@'
abbrev pub at_sign : ℕ
at_sign = 64

-- `location P` and `location @N`
abbrev pub plain_location : List ℕ → Option Effect
plain_location text =
    if begins_with text slash then Some (effect.Location (Prefix text))
    else if begins_with text at_sign && nat_lt 1 (length text) then Some (effect.Location (Named text))
    else None

-- `location = P` and `location ^~ P`
abbrev pub signed_location : List ℕ → List ℕ → Option Effect
signed_location sign path =
    if not (begins_with path slash) then None
    else if bytes_eq sign (codes "=") then Some (effect.Location (Exact path))
    else if bytes_eq sign (codes "^~") then Some (effect.Location (Prefix path))
    else None

-- `location`: a path, a sign and a path, or a name
abbrev pub location : List (List ℕ) → Option Effect
location words =
    if length words == 1 then plain_location (word words 0)
    else if length words == 2 then signed_location (word words 0) (word words 1)
    else None

-- what a directive says by the words after its name
unfoldable pub effect_of : Directive → List (List ℕ) → Option Effect
effect_of directive.WorkerProcesses words = idle (length words == 1)
effect_of directive.Daemon words = idle (length words == 1)
effect_of directive.Pid words = idle (length words == 1)
effect_of directive.User words = idle (length words == 1 || length words == 2)
effect_of directive.AccessLog words = idle (nat_lt 0 (length words))
effect_of directive.Sendfile words = idle (length words == 1)
effect_of directive.TcpNopush words = idle (length words == 1)
effect_of directive.TcpNodelay words = idle (length words == 1)
effect_of directive.Events words = opens place.Events words
effect_of directive.Http words = opens place.Http words
effect_of directive.Server words = opens place.Server words
effect_of directive.ErrorLog words = level words
effect_of directive.WorkerConnections words = connections words
effect_of directive.SocketPoolSize words = pool words
effect_of directive.ClientMaxBodySize words = body words
effect_of directive.KeepaliveTimeout words = time words
effect_of directive.ClientBodyTimeout words = time words
effect_of directive.SendTimeout words = time words
effect_of directive.ClientHeaderTimeout words = time words
effect_of directive.SocketConnectTimeout words = time words
effect_of directive.SocketSendTimeout words = time words
effect_of directive.SocketReadTimeout words = time words
effect_of directive.SocketKeepaliveTimeout words = time words
effect_of directive.Listen words = listen words
effect_of directive.ServerName words = names words
effect_of directive.LuaSharedDict words = dictionary words
effect_of directive.LuaPackagePath words = package_path words
effect_of directive.DefaultType words = default_type words
effect_of directive.Location words = location words
effect_of other words = bare words
