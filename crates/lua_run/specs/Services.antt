-- A site of Lua, as its connections see it.
use Rattle.std.specs.Prelude.{ℕ, slice_get}
use Rattle.std.specs.Option.{option_map_or}
use Rattle.uri_args.specs.declared.targets.Target.{Target}
use Rattle.connection_plan.specs.Clients.{Times}
use Rattle.connection_plan.specs.Services.{Service}
use Rattle.connection_plan.specs.Serving.{Serving, service_of}
use Rattle.conf.specs.declared.sites.Conf.{Conf}
use Rattle.conf.specs.declared.sites.Settings.{Settings}
use Rattle.reply_stages.specs.Replies.{refusal}
use Rattle.reply_stages.specs.Scopes.{settings_of, scope_of}
use Rattle.lua_run.specs.Answers.{Site}
use Rattle.lua_run.specs.Runs.{Run, lua_plan}

-- the header timer has the default server's setting, the others those of a request
abbrev pub times_by : ℕ → Settings → Times
times_by header settings = record {
  header = header;
  keepalive = settings.keepalive_timeout.0;
  body = settings.body_timeout.0;
  send = settings.send_timeout.0;
}

abbrev pub no_times : Times
no_times = record { header = 0; keepalive = 0; body = 0; send = 0 }

-- of the default server, which a site has
abbrev pub default_times : Conf → Times
default_times conf = option_map_or (λ server. times_by server.header_timeout.0 server.settings) (slice_get conf.servers conf.default_server) no_times

-- of a request
abbrev pub times_of : Conf → Target → Times
times_of conf target = option_map_or (λ scope. times_by (default_times conf).header (settings_of scope)) (scope_of conf target) no_times

-- beside its runs
abbrev pub lua_serving : Site → Serving
lua_serving site = record {
  default_times = default_times site.conf;
  times_of = λ head target. times_of site.conf target;
  refusal = refusal;
  connections = site.conf.connections;
}

-- and with them
abbrev pub lua_service : {J : Type 0} → Site → Service J Run
lua_service site = service_of (lua_plan site) (lua_serving site)
