-- Directives of nginx and of the lua-nginx-module: their names, where they may stand, how often, and in which form.
use Rattle.std.specs.Prelude.{ℕ, Bool, true, false, List, [], ◌∷◌, Option, codes, find, bytes_eq}
use Rattle.conf_rules.specs.declared.directives.Directive.{Directive}
use Rattle.conf_rules.specs.declared.directives.Directive.TheVariants as directive
use Rattle.conf_rules.specs.declared.directives.Place.{Place}
use Rattle.conf_rules.specs.declared.directives.Place.TheVariants as place
use Rattle.conf_rules.specs.declared.directives.Scope.{Scope}
use Rattle.conf_rules.specs.declared.directives.Scope.TheVariants as scope
use Rattle.conf_rules.specs.declared.directives.Form.{Form}
use Rattle.conf_rules.specs.declared.directives.Form.TheVariants as form

-- how a directive is written
unfoldable pub spelling : Directive → List ℕ
spelling directive.WorkerProcesses = codes "worker_processes"
spelling directive.Daemon = codes "daemon"
spelling directive.Pid = codes "pid"
spelling directive.User = codes "user"
spelling directive.AccessLog = codes "access_log"
spelling directive.Sendfile = codes "sendfile"
spelling directive.TcpNopush = codes "tcp_nopush"
spelling directive.TcpNodelay = codes "tcp_nodelay"
spelling directive.ErrorLog = codes "error_log"
spelling directive.Events = codes "events"
spelling directive.WorkerConnections = codes "worker_connections"
spelling directive.Http = codes "http"
spelling directive.Server = codes "server"
spelling directive.Listen = codes "listen"
spelling directive.ServerName = codes "server_name"
spelling directive.LuaSharedDict = codes "lua_shared_dict"
spelling directive.LuaPackagePath = codes "lua_package_path"
spelling directive.InitByLua = codes "init_by_lua_block"
spelling directive.RewriteByLua = codes "rewrite_by_lua_block"
spelling directive.AccessByLua = codes "access_by_lua_block"
spelling directive.ContentByLua = codes "content_by_lua_block"
spelling directive.HeaderFilterByLua = codes "header_filter_by_lua_block"
spelling directive.BodyFilterByLua = codes "body_filter_by_lua_block"
spelling directive.LogByLua = codes "log_by_lua_block"
spelling directive.Location = codes "location"
spelling directive.Internal = codes "internal"
spelling directive.DefaultType = codes "default_type"
spelling directive.ClientMaxBodySize = codes "client_max_body_size"
spelling directive.KeepaliveTimeout = codes "keepalive_timeout"
spelling directive.ClientBodyTimeout = codes "client_body_timeout"
spelling directive.SendTimeout = codes "send_timeout"
spelling directive.ClientHeaderTimeout = codes "client_header_timeout"
spelling directive.SocketConnectTimeout = codes "lua_socket_connect_timeout"
spelling directive.SocketSendTimeout = codes "lua_socket_send_timeout"
spelling directive.SocketReadTimeout = codes "lua_socket_read_timeout"
spelling directive.SocketKeepaliveTimeout = codes "lua_socket_keepalive_timeout"
spelling directive.SocketPoolSize = codes "lua_socket_pool_size"

-- the directives
unfoldable pub directives : List Directive
directives =
    directive.WorkerProcesses ∷ directive.Daemon ∷ directive.Pid ∷ directive.User ∷ directive.AccessLog ∷ directive.Sendfile ∷
    directive.TcpNopush ∷ directive.TcpNodelay ∷ directive.ErrorLog ∷ directive.Events ∷ directive.WorkerConnections ∷ directive.Http ∷
    directive.Server ∷ directive.Listen ∷ directive.ServerName ∷ directive.LuaSharedDict ∷ directive.LuaPackagePath ∷ directive.InitByLua ∷
    directive.RewriteByLua ∷ directive.AccessByLua ∷ directive.ContentByLua ∷ directive.HeaderFilterByLua ∷ directive.BodyFilterByLua ∷
    directive.LogByLua ∷ directive.Location ∷ directive.Internal ∷ directive.DefaultType ∷ directive.ClientMaxBodySize ∷
    directive.KeepaliveTimeout ∷ directive.ClientBodyTimeout ∷ directive.SendTimeout ∷ directive.ClientHeaderTimeout ∷
    directive.SocketConnectTimeout ∷ directive.SocketSendTimeout ∷ directive.SocketReadTimeout ∷ directive.SocketKeepaliveTimeout ∷
    directive.SocketPoolSize ∷ []

-- the directive of this name
unfoldable pub directive_of : List ℕ → Option Directive
directive_of name = find (λ directive. bytes_eq (spelling directive) name) directives

-- where a directive may stand
unfoldable pub scope_of : Directive → Scope
scope_of directive.WorkerProcesses = scope.Main
scope_of directive.Daemon = scope.Main
scope_of directive.Pid = scope.Main
scope_of directive.User = scope.Main
scope_of directive.ErrorLog = scope.MainOrHttp
scope_of directive.Events = scope.Main
scope_of directive.WorkerConnections = scope.Events
scope_of directive.Http = scope.Main
scope_of directive.Server = scope.Http
scope_of directive.Listen = scope.Server
scope_of directive.ServerName = scope.Server
scope_of directive.LuaSharedDict = scope.Http
scope_of directive.LuaPackagePath = scope.Http
scope_of directive.InitByLua = scope.Http
scope_of directive.ContentByLua = scope.Location
scope_of directive.Location = scope.Server
scope_of directive.Internal = scope.Location
scope_of directive.ClientHeaderTimeout = scope.HttpOrServer
scope_of other = scope.Inherited

-- a place is one of a scope
abbrev pub holds : Scope → Place → Bool
holds scope.Main place.Main = true
holds scope.MainOrHttp place.Main = true
holds scope.MainOrHttp place.Http = true
holds scope.Events place.Events = true
holds scope.Http place.Http = true
holds scope.HttpOrServer place.Http = true
holds scope.HttpOrServer place.Server = true
holds scope.Server place.Server = true
holds scope.Location place.Location = true
holds scope.Inherited place.Http = true
holds scope.Inherited place.Server = true
holds scope.Inherited place.Location = true
holds scope place = false

-- a directive may stand in a place
abbrev pub may_stand : Directive → Place → Bool
may_stand directive place = holds (scope_of directive) place

-- the form of a directive
unfoldable pub form_of : Directive → Form
form_of directive.Events = form.Block
form_of directive.Http = form.Block
form_of directive.Server = form.Block
form_of directive.InitByLua = form.Lua
form_of directive.RewriteByLua = form.Lua
form_of directive.AccessByLua = form.Lua
form_of directive.ContentByLua = form.Lua
form_of directive.HeaderFilterByLua = form.Lua
form_of directive.BodyFilterByLua = form.Lua
form_of directive.LogByLua = form.Lua
form_of directive.Location = form.Block
form_of other = form.Simple

-- a directive may stand more than once in a block
unfoldable pub may_repeat : Directive → Bool
may_repeat directive.Server = true
may_repeat directive.Listen = true
may_repeat directive.ServerName = true
may_repeat directive.LuaSharedDict = true
may_repeat directive.Location = true
may_repeat other = false

-- the directives are the same: they have one name
abbrev pub same : Directive → Directive → Bool
same directive other = bytes_eq (spelling directive) (spelling other)
