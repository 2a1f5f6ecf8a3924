-- What holds for a request to a site: its server, its location there, and their settings.
use Rattle.std.specs.Prelude.{ℕ, [], slice_get, Option, Some, None, unwrap_or, option_map, option_and_then}
use Rattle.uri_args.specs.declared.targets.Target.{Target}
use Rattle.conf.specs.Routes.{route_of}
use Rattle.conf.specs.declared.routes.Route.{Route}
use Rattle.conf.specs.declared.sites.Conf.{Conf}
use Rattle.conf.specs.declared.sites.LocationConf.{LocationConf}
use Rattle.conf.specs.declared.sites.ServerConf.{ServerConf}
use Rattle.conf.specs.declared.sites.Settings.{Settings}

-- the server that a request is for, and its location there, where one fits the path
pub record Scope : Type 0 where
  pub server : ServerConf
  pub location : Option LocationConf

-- the settings are those of the location, else of the server
abbrev pub settings_by : ServerConf → Option LocationConf → Settings
settings_by server None = server.settings
settings_by server (Some location) = location.settings

abbrev pub settings_of : Scope → Settings
settings_of scope = settings_by scope.server scope.location

-- the location of this number
abbrev pub location_at : ServerConf → Option ℕ → Option LocationConf
location_at server number = option_and_then (slice_get server.locations) number

-- by a route; a site has the server of each route
abbrev pub scope_at : Conf → Route → Option Scope
scope_at conf route = option_map (λ server. record { server = server; location = location_at server route.location }) (slice_get conf.servers route.server)

-- by the host and the path of a target
abbrev pub route_to : Conf → Target → Route
route_to conf target = route_of conf (unwrap_or target.host []) target.path

abbrev pub scope_of : Conf → Target → Option Scope
scope_of conf target = scope_at conf (route_to conf target)
