-- Dictionaries in the order of the text (lua-nginx-module manual, `lua_shared_dict`).
use Rattle.std.specs.Prelude.{ℕ, Bool, List, [], ◌∷◌, ◌++◌, bytes_eq}
use Rattle.std.specs.List.{list_any}
use Rattle.conf.specs.declared.sites.ZoneConf.{ZoneConf}

-- a dictionary of the name is there
abbrev pub has_zone : List ZoneConf → List ℕ → Bool
has_zone zones name = list_any (λ zone. bytes_eq name zone.name) zones

-- the dictionaries with one more at the end
abbrev pub with_zone : List ZoneConf → List ℕ → ℕ → List ZoneConf
with_zone zones name size = zones ++ (record { name = name; size = size }) ∷ []
