-- Which texts are configurations, what they say, and where a text is refused: the first item that is refused, in the order of the text, which is
-- this project's choice; what an item says is nginx's.
use Rattle.std.specs.Prelude.{◌≡◌, ℕ, ◌<◌, List, [], ◌∷◌, ◌++◌, length, Ok, Err}
use Rattle.conf_text.specs.Items.{IsItems}
use Rattle.conf_text.specs.declared.items.Item.{Item}
use Rattle.conf.specs.Blocks.{start}
use Rattle.conf.specs.Steps.{step}
use Rattle.conf.specs.Meaning.{conf_of}
use Rattle.conf.specs.declared.blocks.Nest.{Nest}
use Rattle.conf.specs.declared.sites.Conf.{Conf}
use Rattle.conf.specs.declared.faults.ConfFault.{ConfFault}
use Rattle.conf.specs.declared.faults.ConfFault.TheVariants.{Memory}

-- the items fit one after another: each makes a nest of the one before it
abbrev pub Fit : Nest → List Item → Nest → Type 0
Fit from [] to = from ≡ to
Fit from (item ∷ items) to = (next : Nest) × ((step from item ≡ Ok next) × Fit next items to)

-- a text is a configuration that says this: all its items fit
pub record IsConf (text : List ℕ) (conf : Conf) : Type 0 where
  pub items : List Item
  pub nest : Nest
  pub has : IsItems text items
  pub fit : Fit start items nest
  pub says : conf ≡ conf_of nest

-- the items don't all fit: those before one do, and that one is the first that doesn't, for this reason
pub record AreRefused (items : List Item) (fault : ConfFault) : Type 0 where
  pub before : List Item
  pub item : Item
  pub after : List Item
  pub nest : Nest
  pub all : items ≡ before ++ item ∷ after
  pub fit : Fit start before nest
  pub refused : step nest item ≡ Err fault

-- why items don't all fit; out of memory says nothing of them
abbrev pub IsFaultIn : List Item → ConfFault → Type 0
IsFaultIn items Memory = Unit {0}
IsFaultIn items fault = AreRefused items fault

-- a text is refused for this reason: its items are
pub record IsRefusedAt (text : List ℕ) (fault : ConfFault) : Type 0 where
  pub items : List Item
  pub has : IsItems text items
  pub refused : AreRefused items fault

-- why a text isn't read; out of memory says nothing of it
abbrev pub IsFault : List ℕ → ConfFault → Type 0
IsFault text Memory = Unit {0}
IsFault text fault = IsRefusedAt text fault

-- the configuration has a server, the one that it names as its default
abbrev pub IsWhole : Conf → Type 0
IsWhole conf = conf.default_server < length conf.servers
