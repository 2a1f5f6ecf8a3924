-- The blocks of Lua that a site runs: its init block, and the content handlers of its locations.
use Rattle.std.specs.Prelude.{ℕ, ◌+◌, Bool, false, ◌==◌, ◌||◌, List, [], ◌∷◌, flat_map, Option, Some, None, if◌then◌else◌}
use Rattle.std.specs.List.{list_any}
use Rattle.conf.specs.declared.sites.Block.{Block}
use Rattle.conf.specs.declared.sites.Conf.{Conf}
use Rattle.conf.specs.declared.sites.LocationConf.{LocationConf}

-- the number, if there is one
abbrev pub listed : Option ℕ → List ℕ
listed None = []
listed (Some number) = number ∷ []

-- the numbers of the content handlers of these locations
abbrev pub contents_in : List LocationConf → List ℕ
contents_in locations = flat_map (λ location. listed location.settings.content) locations

-- those of all locations
abbrev pub contents_of : Conf → List ℕ
contents_of conf = flat_map (λ server. contents_in server.locations) conf.servers

abbrev pub is_init : Option ℕ → ℕ → Bool
is_init None number = false
is_init (Some init) number = init == number

-- the number is one of these
abbrev pub is_content : List ℕ → ℕ → Bool
is_content contents number = list_any (λ content. content == number) contents

-- the block of this number is run
abbrev pub is_run : Option ℕ → List ℕ → ℕ → Bool
is_run init contents number = is_init init number || is_content contents number

-- the line of the first of these blocks that isn't, where they are numbered from this number on
abbrev pub first_unbuilt : Option ℕ → List ℕ → ℕ → List Block → Option ℕ
first_unbuilt init contents number [] = None
first_unbuilt init contents number (block ∷ blocks) =
    if is_run init contents number then first_unbuilt init contents (number + 1) blocks else Some block.line

-- The line of the first block of a configuration that is a handler of another phase, which is never run yet. Such a site is refused: an
-- access handler that is read and never run would let everybody in.
abbrev pub unbuilt_line : Conf → Option ℕ
unbuilt_line conf = first_unbuilt conf.init (contents_of conf) 0 conf.blocks
