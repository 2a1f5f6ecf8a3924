-- What a configuration says, by its blocks (nginx's ngx_http_core_module; lua-nginx-module manual, "Directives").
use Rattle.std.specs.Prelude.{ℕ, codes, List, [], map, position, unwrap_or}
use Rattle.std.specs.Option.{option_or}
use Rattle.conf_rules.specs.declared.directives.Directive.TheVariants as directive
use Rattle.conf.specs.Blocks.{effect_in, is_said}
use Rattle.conf.specs.Steps.{default_port}
use Rattle.conf.specs.Inheritance.{level_or, count_or, time_or, text_or, block_of, innermost, settings_of}
use Rattle.conf.specs.declared.blocks.Said.{Said}
use Rattle.conf.specs.declared.blocks.LocationBlock.{LocationBlock}
use Rattle.conf.specs.declared.blocks.ServerBlock.{ServerBlock}
use Rattle.conf.specs.declared.blocks.Nest.{Nest}
use Rattle.conf.specs.declared.sites.Conf.{Conf}
use Rattle.conf.specs.declared.sites.ServerConf.{ServerConf}
use Rattle.conf.specs.declared.sites.LocationConf.{LocationConf}

-- a location of a server
abbrev pub location_conf : List Said → List Said → LocationBlock → LocationConf
location_conf server http location = record {
  kind = location.kind;
  internal = is_said directive.Internal location.said;
  settings = settings_of location.said server http;
}

-- a server
abbrev pub server_conf : List Said → ServerBlock → ServerConf
server_conf http server = record {
  names = server.names;
  header_timeout = record { 0 = time_or 60_000 (innermost [] server.said http directive.ClientHeaderTimeout) };
  settings = settings_of [] server.said http;
  locations = map (location_conf server.said http) server.locations;
}

-- the server with `default_server`, else the first one
abbrev pub default_server : List ServerBlock → ℕ
default_server servers = unwrap_or (position (λ server. server.is_default) servers) 0

-- what `error_log` says in `http`, else in the main part
abbrev pub log_level : List Said → List Said → ℕ
log_level http main = level_or 4 (option_or (effect_in directive.ErrorLog http) (effect_in directive.ErrorLog main))

-- the whole configuration
abbrev pub conf_of : Nest → Conf
conf_of nest = record {
  port = unwrap_or nest.port default_port;
  connections = count_or 512 (effect_in directive.WorkerConnections nest.events);
  log_level = log_level nest.http nest.main;
  zones = nest.zones;
  «package» = text_or (codes "lua/?.lua") (effect_in directive.LuaPackagePath nest.http);
  blocks = nest.blocks;
  init = block_of (effect_in directive.InitByLua nest.http);
  default_server = default_server nest.servers;
  servers = map (server_conf nest.http) nest.servers;
}
