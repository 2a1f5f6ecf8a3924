-- A dictionary by its name and its size (lua-nginx-module manual, `lua_shared_dict`).
use Rattle.std.specs.Prelude.{ℕ, List}
use Rattle.conf.specs.declared.sites.ZoneConf.{ZoneConf}

-- the dictionary that an entry of a map stands for
abbrev pub zone_of : List ℕ × ℕ → ZoneConf
zone_of entry = record { name = entry.0; size = entry.1 }
