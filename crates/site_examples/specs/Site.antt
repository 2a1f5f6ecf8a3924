-- The site of the exchange: one server, one location, whose block of Lua says one line.
use Rattle.std.specs.Prelude.{ℕ, ◌+◌, ◌/◌, nat_lt, false, List, [], ◌∷◌, length, codes, None, Some, if◌then◌else◌}
use Rattle.conf_rules.specs.declared.effects.LocationKind.TheVariants as kind
use Rattle.conf.specs.declared.sites.Conf.{Conf}
use Rattle.conf.specs.declared.sites.LocationConf.{LocationConf}
use Rattle.conf.specs.declared.sites.ServerConf.{ServerConf}
use Rattle.conf.specs.declared.sites.Settings.{Settings}
use Rattle.run_contract.specs.declared.stored.NoJob.{NoJob}
use Rattle.strand_contract.specs.Behaviors.{Behavior}
use Rattle.connection_plan.specs.Connections.{connection_behavior}
use Rattle.lua_values.specs.declared.values.Value.TheVariants.{Text, Table, Native}
use Rattle.lua_values.specs.Heap.{Heap, StoreView, step_limit}
use Rattle.lua_values.specs.StoreCalls.{new_store, with_table, with_pair, with_closure}
use Rattle.lua_meaning.specs.declared.resumes.Resumed.{Resumed}
use Rattle.lua_meaning.specs.declared.resumes.Resumed.TheVariants.{Values, Raise}
use Rattle.lua_meaning.specs.Life.{Outcome, Done, Failure, Asks, OutOfSteps, Unbegun}
use Rattle.lua_machine.specs.Finishes.{Finish}
use Rattle.lua_run.specs.Answers.{Site}
use Rattle.lua_run.specs.Services.{lua_service}

-- what holds where nothing is said
abbrev pub plain_settings : Settings
plain_settings = record {
  default_type = codes "text/plain";
  max_body = 1_048_576;
  keepalive_timeout = record { 0 = 75_000 };
  body_timeout = record { 0 = 60_000 };
  send_timeout = record { 0 = 60_000 };
  sock_connect = record { 0 = 60_000 };
  sock_send = record { 0 = 60_000 };
  sock_read = record { 0 = 60_000 };
  sock_keepalive = record { 0 = 60_000 };
  pool_size = 30;
  rewrite = None;
  access = None;
  content = None;
  header_filter = None;
  body_filter = None;
  log = None;
}

-- `location /`, with the first block as its content handler
abbrev pub hi_location : LocationConf
hi_location = record { kind = kind.Prefix (codes "/"); internal = false; settings = record plain_settings { content = Some 0 } }

abbrev pub hi_server : ServerConf
hi_server = record { names = []; header_timeout = record { 0 = 60_000 }; settings = plain_settings; locations = hi_location ∷ [] }

abbrev pub hi_conf : Conf
hi_conf = record {
  port = 8080;
  connections = 512;
  log_level = 4;
  zones = [];
  «package» = codes "lua/?.lua";
  blocks = (record { text = codes " ngx.say(\"hi\") "; line = 2 }) ∷ [];
  init = None;
  default_server = 0;
  servers = hi_server ∷ [];
}

-- the text that the block says
abbrev pub hi : List ℕ
hi = codes "hi"

-- n steps more
abbrev pub with_steps : ℕ → StoreView → StoreView
with_steps n store = record { heap = store.heap; steps = store.steps + n }

-- what comes of a thread once its call of `ngx.say`, the last thing that it does, is given this
abbrev pub done_with : Resumed → StoreView → Outcome
done_with (Values vs) store = Done [] store
done_with (Raise message) store = Failure (Text message) store

-- What comes of a thread that calls `ngx.say`, the call of number 1, with a text, and then ends: it asks that of the outside, after 8 steps and one for each
-- 64 bytes of the text, and is done with what it is given.
abbrev pub says : List ℕ → Finish
says text [] = Unbegun
says text (r ∷ []) = Asks 1 (Text text ∷ []) None (with_steps (8 + length text / 64) r.store)
says text (r ∷ given ∷ more) = if nat_lt given.store.steps step_limit then done_with given.answer given.store else OutOfSteps

-- The store in which it runs: the block is closure 0, and the global `ngx` is a table that has the host's function `say` at its name. The functions of the
-- host from 5 on are those of `ngx`.
abbrev pub hi_heap : Heap
hi_heap = with_closure (with_pair (with_pair (with_table new_store.heap) 1 (Text (codes "say")) (Native 6)) 0 (Text (codes "ngx")) (Table 1)) 0 []

abbrev pub hi_store : StoreView
hi_store = record { heap = hi_heap; steps = 0 }

abbrev pub hi_site : Site
hi_site = record { conf = hi_conf; handler = λ number. says hi; store = hi_store }

-- what its connections do
abbrev pub hi_behavior : Behavior NoJob
hi_behavior = connection_behavior (lua_service hi_site)
