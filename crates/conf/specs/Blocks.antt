-- The blocks of a configuration as they are read: what their directives said so far. This form is the project's own; the blocks are those of nginx
-- (beginner's guide, "Configuration File's Structure").
use Rattle.std.specs.Prelude.{ℕ, Bool, false, List, [], ◌∷◌, ◌++◌, find, Option, None, option_map}
use Rattle.std.specs.List.{list_any}
use Rattle.conf_rules.specs.Directives.{same}
use Rattle.conf_rules.specs.declared.directives.Directive.{Directive}
use Rattle.conf_rules.specs.declared.directives.Place.{Place}
use Rattle.conf_rules.specs.declared.directives.Place.TheVariants as place
use Rattle.conf_rules.specs.declared.effects.Effect.{Effect}
use Rattle.conf_rules.specs.declared.effects.LocationKind.{LocationKind}
use Rattle.conf_rules.specs.declared.effects.LocationKind.TheVariants as kind
use Rattle.conf.specs.declared.blocks.Said.{Said}
use Rattle.conf.specs.declared.blocks.LocationBlock.{LocationBlock}
use Rattle.conf.specs.declared.blocks.ServerBlock.{ServerBlock}
use Rattle.conf.specs.declared.blocks.Nest.{Nest}

-- a location of which nothing is said
abbrev pub location_of : LocationKind → LocationBlock
location_of kind = record { kind = kind; said = [] }

-- no location
abbrev pub no_location : LocationBlock
no_location = location_of (kind.Prefix [])

-- a server whose name stands on a line, and of which nothing is said
abbrev pub server_at : ℕ → ServerBlock
server_at line = record { line = line; names = []; listens = false; is_default = false; said = []; locations = [] }

-- no server
abbrev pub no_server : ServerBlock
no_server = server_at 0

-- no blocks: the main part is open, and nothing is said there
abbrev pub start : Nest
start = record {
  place = place.Main;
  main = [];
  events = [];
  http = [];
  zones = [];
  blocks = [];
  port = None;
  servers = [];
  server = no_server;
  location = no_location;
}

-- this is said of the directive
abbrev pub is_of : Directive → Said → Bool
is_of directive said = same said.directive directive

-- what is said of a directive
abbrev pub effect_in : Directive → List Said → Option Effect
effect_in directive said = option_map (λ s. s.effect) (find (is_of directive) said)

-- something is said of a directive
abbrev pub is_said : Directive → List Said → Bool
is_said directive said = list_any (is_of directive) said

-- what is said in a block, where the innermost open one is of this place
abbrev pub said_in : Nest → Place → List Said
said_in nest place.Main = nest.main
said_in nest place.Events = nest.events
said_in nest place.Http = nest.http
said_in nest place.Server = nest.server.said
said_in nest place.Location = nest.location.said

-- what is said in the innermost open block
abbrev pub said_here : Nest → List Said
said_here nest = said_in nest nest.place

-- the list with what a directive says at its end
abbrev pub and_said : List Said → Directive → Effect → List Said
and_said said directive effect = said ++ (record { directive = directive; effect = effect }) ∷ []

-- the nest in which a directive said this in a block
abbrev pub with_said_in : Nest → Place → Directive → Effect → Nest
with_said_in nest place.Main directive effect = record nest { main = and_said nest.main directive effect }
with_said_in nest place.Events directive effect = record nest { events = and_said nest.events directive effect }
with_said_in nest place.Http directive effect = record nest { http = and_said nest.http directive effect }
with_said_in nest place.Server directive effect =
    record nest { server = record nest.server { said = and_said nest.server.said directive effect } }
with_said_in nest place.Location directive effect =
    record nest { location = record nest.location { said = and_said nest.location.said directive effect } }

-- the nest in which a directive said this in the innermost open block
abbrev pub with_said : Nest → Directive → Effect → Nest
with_said nest directive effect = with_said_in nest nest.place directive effect
