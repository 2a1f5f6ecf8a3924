-- What holds for a request: what its location says, else its server, else `http`, else the default (nginx's ngx_http_core_module and the
-- lua-nginx-module manual, the contexts and defaults of each directive).
use Rattle.std.specs.Prelude.{ℕ, codes, List, Option, Some, None}
use Rattle.std.specs.Option.{option_or}
use Rattle.conf_rules.specs.declared.directives.Directive.{Directive}
use Rattle.conf_rules.specs.declared.directives.Directive.TheVariants as directive
use Rattle.conf_rules.specs.declared.effects.Effect.{Effect}
use Rattle.conf_rules.specs.declared.effects.Effect.TheVariants as effect
use Rattle.conf.specs.Blocks.{effect_in}
use Rattle.conf.specs.declared.blocks.Said.{Said}
use Rattle.conf.specs.declared.sites.Settings.{Settings}

-- a level, else the default
abbrev pub level_or : ℕ → Option Effect → ℕ
level_or default (Some (effect.Level level)) = level
level_or default other = default

-- a count, else the default
abbrev pub count_or : ℕ → Option Effect → ℕ
count_or default (Some (effect.Count count)) = count
count_or default other = default

-- a size in bytes, else the default
abbrev pub size_or : ℕ → Option Effect → ℕ
size_or default (Some (effect.Size size)) = size
size_or default other = default

-- a time in milliseconds, else the default
abbrev pub time_or : ℕ → Option Effect → ℕ
time_or default (Some (effect.Time time)) = time
time_or default other = default

-- a text, else the default
abbrev pub text_or : List ℕ → Option Effect → List ℕ
text_or default (Some (effect.Text text)) = text
text_or default other = default

-- the number of a block, where there is one
abbrev pub block_of : Option Effect → Option ℕ
block_of (Some (effect.Block number)) = Some number
block_of other = None

-- what the innermost block says of a directive that says something of it: a location, its server and `http`
abbrev pub innermost : List Said → List Said → List Said → Directive → Option Effect
innermost location server http directive =
    option_or (effect_in directive location) (option_or (effect_in directive server) (effect_in directive http))

-- the settings of a location in a server, or of a server where no location says anything
abbrev pub settings_of : List Said → List Said → List Said → Settings
settings_of location server http =
    let said : Directive → Option Effect = innermost location server http in
    record {
      default_type = text_or (codes "text/plain") (said directive.DefaultType);
      max_body = size_or 1_048_576 (said directive.ClientMaxBodySize);
      keepalive_timeout = record { 0 = time_or 75_000 (said directive.KeepaliveTimeout) };
      body_timeout = record { 0 = time_or 60_000 (said directive.ClientBodyTimeout) };
      send_timeout = record { 0 = time_or 60_000 (said directive.SendTimeout) };
      sock_connect = record { 0 = time_or 60_000 (said directive.SocketConnectTimeout) };
      sock_send = record { 0 = time_or 60_000 (said directive.SocketSendTimeout) };
      sock_read = record { 0 = time_or 60_000 (said directive.SocketReadTimeout) };
      sock_keepalive = record { 0 = time_or 60_000 (said directive.SocketKeepaliveTimeout) };
      pool_size = count_or 30 (said directive.SocketPoolSize);
      rewrite = block_of (said directive.RewriteByLua);
      access = block_of (said directive.AccessByLua);
      content = block_of (said directive.ContentByLua);
      header_filter = block_of (said directive.HeaderFilterByLua);
      body_filter = block_of (said directive.BodyFilterByLua);
      log = block_of (said directive.LogByLua);
    }
