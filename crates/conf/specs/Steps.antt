-- What an item does to the nest of blocks, and why it is refused. The contexts are those of nginx's manuals; the order of its faults is this
-- project's choice.
use Rattle.std.specs.Prelude.{ℕ, Bool, true, false, not, ◌&&◌, ◌||◌, ◌==◌, List, [], ◌∷◌, ◌++◌, length, if◌then◌else◌}
use Rattle.std.specs.Prelude.{Option, Some, None, Result, Ok, Err}
use Rattle.std.specs.List.{list_any}
use Rattle.conf_rules.specs.Directives.{directive_of, may_stand, may_repeat, form_of}
use Rattle.conf_rules.specs.Effects.{effect_of}
use Rattle.conf_rules.specs.declared.directives.Directive.{Directive}
use Rattle.conf_rules.specs.declared.directives.Place.{Place}
use Rattle.conf_rules.specs.declared.directives.Place.TheVariants as place
use Rattle.conf_rules.specs.declared.directives.Form.{Form}
use Rattle.conf_rules.specs.declared.directives.Form.TheVariants as form
use Rattle.conf_rules.specs.declared.effects.Effect.{Effect}
use Rattle.conf_rules.specs.declared.effects.Effect.TheVariants as effect
use Rattle.conf_rules.specs.declared.effects.LocationKind.{LocationKind}
use Rattle.conf_text.specs.declared.endings.Ending.{Ending}
use Rattle.conf_text.specs.declared.endings.Ending.TheVariants as ending
use Rattle.conf_text.specs.declared.items.Item.{Item}
use Rattle.conf.specs.Blocks.{location_of, no_location, server_at, no_server, is_said, said_here, with_said}
use Rattle.conf.specs.Zones.{has_zone, with_zone}
use Rattle.conf.specs.declared.blocks.Nest.{Nest}
use Rattle.conf.specs.declared.blocks.Said.{Said}
use Rattle.conf.specs.declared.sites.Block.{Block}
use Rattle.conf.specs.declared.faults.ConfFault.{ConfFault}
use Rattle.conf.specs.declared.faults.ConfFault.TheVariants.{At, Unknown, Twice, Value, Place as Misplaced, Block as Unclosed}

-- the port of a server without `listen`
abbrev pub default_port : ℕ
default_port = 8080

-- it is this number, or not known yet
abbrev pub agrees : ℕ → Option ℕ → Bool
agrees number None = true
agrees number (Some known) = known == number

-- a directive whose name is known: it may stand here, and where it stands once in a block it isn't there yet
abbrev pub standing : Nest → ℕ → Directive → Result Directive ConfFault
standing nest line directive =
    if not (may_stand directive nest.place) then Err (Misplaced line)
    else if not (may_repeat directive) && is_said directive (said_here nest) then Err (Twice line)
    else Ok directive

abbrev pub known : Nest → ℕ → Option Directive → Result Directive ConfFault
known nest line None = Err (Unknown line)
known nest line (Some directive) = standing nest line directive

-- the directive of a name on a line
abbrev pub directive_at : Nest → List ℕ → ℕ → Result Directive ConfFault
directive_at nest name line = known nest line (directive_of name)

-- the ending is that of a directive of a form, be its block of Lua closed or not
abbrev pub ends : Form → Ending → Bool
ends form.Simple ending.Semicolon = true
ends form.Block ending.Open = true
ends form.Lua (ending.Lua text) = true
ends form.Lua ending.Unclosed = true
ends form ending = false

-- a block is opened: `events` and `http` stand once, a server is a new one
abbrev pub opened : Nest → Directive → Place → ℕ → Nest
opened nest directive place.Server line = record nest { place = place.Server; server = server_at line }
opened nest directive place line = record (with_said nest directive effect.Nothing) { place = place }

-- a location is opened
abbrev pub located : Nest → LocationKind → Nest
located nest kind = record nest { place = place.Location; location = location_of kind }

-- another server is the default one
abbrev pub has_default : Nest → Bool
has_default nest = list_any (λ server. server.is_default) nest.servers

-- the open server can't be the default one, as it isn't yet and another is
abbrev pub is_second_default : Nest → Bool → Bool
is_second_default nest default = default && not nest.server.is_default && has_default nest

-- a server listens: all do so at one port, and one of them may be the default one
abbrev pub listening : Nest → ℕ → Bool → ℕ → Result Nest ConfFault
listening nest port default line =
    if not (agrees port nest.port) || is_second_default nest default then Err (Value line)
    else Ok (record nest {
      port = Some port;
      server = record nest.server { listens = true; is_default = nest.server.is_default || default };
    })

-- a server has more names
abbrev pub named : Nest → List (List ℕ) → Nest
named nest names = record nest { server = record nest.server { names = nest.server.names ++ names } }

-- a dictionary more
abbrev pub zoned : Nest → List ℕ → ℕ → ℕ → Result Nest ConfFault
zoned nest name size line =
    if has_zone nest.zones name then Err (Twice line)
    else Ok (record nest { zones = with_zone nest.zones name size })

-- a directive on a line says this
abbrev pub saying : Nest → Directive → Effect → ℕ → Result Nest ConfFault
saying nest directive (effect.Opens place) line = Ok (opened nest directive place line)
saying nest directive (effect.Location kind) line = Ok (located nest kind)
saying nest directive (effect.Listen port default) line = listening nest port default line
saying nest directive (effect.Names names) line = Ok (named nest names)
saying nest directive (effect.Dictionary name size) line = zoned nest name size line
saying nest directive other line = Ok (with_said nest directive other)

-- a directive has a block of Lua, which has the next number
abbrev pub handled : Nest → Directive → List ℕ → ℕ → Nest
handled nest directive text line =
    let block : Block = record { text = text; line = line } in
    record (with_said nest directive (effect.Block (length nest.blocks))) { blocks = nest.blocks ++ block ∷ [] }

-- a directive says this and ends so
abbrev pub ended : Nest → Directive → Effect → Item → Ending → Result Nest ConfFault
ended nest directive effect item (ending.Lua text) = Ok (handled nest directive text item.ending_line)
ended nest directive effect item ending.Unclosed = Err (Unclosed item.line)
ended nest directive effect item other = saying nest directive effect item.line

-- a directive with what its words say, if they say something
abbrev pub valued : Item → Directive → Option Effect → Result Said ConfFault
valued item directive None = Err (Value item.line)
valued item directive (Some effect) = Ok (record { directive = directive; effect = effect })

-- what a directive says that ends as its form wants
abbrev pub reads : Item → List (List ℕ) → Result Directive ConfFault → Result Said ConfFault
reads item words (Err fault) = Err fault
reads item words (Ok directive) =
    if ends (form_of directive) item.ending then valued item directive (effect_of directive words) else Err (At item.ending_line)

-- what an item says by its words
abbrev pub said_by : Nest → List ℕ → List (List ℕ) → Item → Result Said ConfFault
said_by nest name words item = reads item words (directive_at nest name item.line)

-- the nest after what an item says
abbrev pub directed : Nest → Item → Result Said ConfFault → Result Nest ConfFault
directed nest item (Err fault) = Err fault
directed nest item (Ok said) = ended nest said.directive said.effect item item.ending

-- the open server is closed; one that doesn't listen has the default port
abbrev pub served : Nest → Result Nest ConfFault
served nest =
    if nest.server.listens || agrees default_port nest.port then
    Ok (record nest {
      place = place.Http;
      port = if nest.server.listens then nest.port else Some default_port;
      servers = nest.servers ++ nest.server ∷ [];
      server = no_server;
    })
    else Err (Value nest.server.line)

-- the open location is closed
abbrev pub left : Nest → Nest
left nest = record nest {
  place = place.Server;
  server = record nest.server { locations = nest.server.locations ++ nest.location ∷ [] };
  location = no_location;
}

-- a `}` closes the innermost open block
abbrev pub closed : Nest → Place → ℕ → Result Nest ConfFault
closed nest place.Main line = Err (At line)
closed nest place.Server line = served nest
closed nest place.Location line = Ok (left nest)
closed nest other line = Ok (record nest { place = place.Main })

-- only the main part is open
abbrev pub is_main : Place → Bool
is_main place.Main = true
is_main other = false

-- the text may end where all blocks are closed and a server is there
abbrev pub finished : Nest → ℕ → Result Nest ConfFault
finished nest line = if is_main nest.place && not (length nest.servers == 0) then Ok nest else Err (At line)

-- what stands without words before it
abbrev pub bare : Nest → Ending → ℕ → Result Nest ConfFault
bare nest ending.Close line = closed nest nest.place line
bare nest ending.End line = finished nest line
bare nest other line = Err (At line)

-- an item with its words
abbrev pub worded : Nest → Item → List (List ℕ) → Result Nest ConfFault
worded nest item [] = bare nest item.ending item.ending_line
worded nest item (name ∷ words) = directed nest item (said_by nest name words item)

-- the nest after an item, or why it doesn't fit
abbrev pub step : Nest → Item → Result Nest ConfFault
step nest item = worded nest item item.words
