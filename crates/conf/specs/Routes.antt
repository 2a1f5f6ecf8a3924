-- Which server and which location a request is for (nginx's ngx_http_core_module, `server_name` and `location`; of the kinds of location those
-- without regular expressions).
use Rattle.std.specs.Prelude.{◌≡◌, ◌≤◌, ◌<◌, ℕ, ◌+◌, max, Bool, false, ◌==◌, List, [], length, bytes_eq, position, slice_get}
use Rattle.std.specs.Prelude.{Option, Some, None, unwrap_or, if◌then◌else◌}
use Rattle.std.specs.List.{fold, list_any, starts_with}
use Rattle.std.specs.Option.{option_map_or}
use Rattle.http_base.specs.Names.{same_name}
use Rattle.conf_rules.specs.declared.effects.LocationKind.{LocationKind}
use Rattle.conf_rules.specs.declared.effects.LocationKind.TheVariants as kind
use Rattle.conf.specs.declared.routes.Route.{Route}
use Rattle.conf.specs.declared.sites.Conf.{Conf}
use Rattle.conf.specs.declared.sites.ServerConf.{ServerConf}
use Rattle.conf.specs.declared.sites.LocationConf.{LocationConf}

-- the server has the name, in any case
abbrev pub has_name : List ℕ → ServerConf → Bool
has_name host server = list_any (λ name. same_name name host) server.names

-- the first server that has the name, else the default one
abbrev pub server_for : Conf → List ℕ → ℕ
server_for conf host = unwrap_or (position (has_name host) conf.servers) conf.default_server

-- how well the path itself fits
abbrev pub exact_rank : List ℕ → List ℕ → ℕ
exact_rank path exact = if bytes_eq exact path then length path + 2 else 0

-- how well a prefix fits
abbrev pub prefix_rank : List ℕ → List ℕ → ℕ
prefix_rank path prefix = if starts_with (λ a b. a == b) path prefix then length prefix + 1 else 0

-- how well a location fits a path, 0 where it doesn't: a longer prefix fits better, the path itself best
abbrev pub rank : List ℕ → LocationKind → ℕ
rank path (kind.Exact exact) = exact_rank path exact
rank path (kind.Prefix prefix) = prefix_rank path prefix
rank path (kind.Named name) = 0

-- the location at an index fits a path with this rank, and none before it fits as well
pub record IsFirst (locations : List LocationConf) (path : List ℕ) (index best : ℕ) : Type 0 where
  pub location : LocationConf
  pub there : slice_get locations index ≡ Some location
  pub ranked : rank path location.kind ≡ best
  pub fits : 0 < best
  pub first : (k : ℕ) (other : LocationConf) → k < index → slice_get locations k ≡ Some other → rank path other.kind < best

-- no location fits a path better
abbrev pub AtMost : List LocationConf → List ℕ → ℕ → Type 0
AtMost locations path best = (k : ℕ) (other : LocationConf) → slice_get locations k ≡ Some other → rank path other.kind ≤ best

-- the location that fits a path best, the first of those that fit as well; None where none fits
abbrev pub IsLocationFor : List LocationConf → List ℕ → Option ℕ → Type 0
IsLocationFor locations path None = AtMost locations path 0
IsLocationFor locations path (Some index) = (best : ℕ) × (IsFirst locations path index best × AtMost locations path best)

-- the route of a request: its server by its host, and the location there by its path
pub record IsRoute (conf : Conf) (host path : List ℕ) (route : Route) : Type 0 where
  pub server : ServerConf
  pub named : route.server ≡ server_for conf host
  pub there : slice_get conf.servers route.server ≡ Some server
  pub located : IsLocationFor server.locations path route.location

-- the same as a function: the best rank of a location, the first location of this rank, and the route of a request
abbrev pub best_rank : List LocationConf → List ℕ → ℕ
best_rank locations path = fold (λ best location. max best (rank path location.kind)) 0 locations

abbrev pub location_for : List LocationConf → List ℕ → Option ℕ
location_for locations path =
    let best = best_rank locations path in
    if best == 0 then None else position (λ location. rank path location.kind == best) locations

abbrev pub route_of : Conf → List ℕ → List ℕ → Route
route_of conf host path = record {
  server = server_for conf host;
  location = location_for (option_map_or (λ server. server.locations) (slice_get conf.servers (server_for conf host)) []) path;
}

-- the location is one of this kind by the name, which begins with `@`
abbrev pub is_named_by : List ℕ → LocationKind → Bool
is_named_by name (kind.Named other) = bytes_eq other name
is_named_by name other = false

-- the location has the name
abbrev pub is_named : List ℕ → LocationConf → Bool
is_named name location = is_named_by name location.kind

-- the first location of a server that has the name
pub record IsNamed (conf : Conf) (number : ℕ) (name : List ℕ) (location : Option ℕ) : Type 0 where
  pub server : ServerConf
  pub there : slice_get conf.servers number ≡ Some server
  pub located : location ≡ position (is_named name) server.locations
