-- What files hold is one site, or is refused for one kind of reason.
use Rattle.std.specs.Prelude.{◌≡◌, ℕ, Bool, true, false, List}
use Rattle.resty_base.specs.FileMap.{FileMap}
use Rattle.lua_run.specs.Answers.{Site}
use Rattle.site_load.specs.Loading.{HasSite, IsFault}
use Rattle.site_load.specs.declared.faults.SiteFault.{SiteFault}
use Rattle.site_load.specs.declared.faults.SiteFault.TheVariants.{Missing, TooLong}

-- Files hold one site under a name: one configuration, one store, and what comes of the threads that run a handler. Where the trees of its
-- program stand in memory makes no difference.
abbrev pub SitesAreKnown : Type 0
SitesAreKnown = (files : FileMap) (name : List ℕ) (site other : Site) → HasSite files name site → HasSite files name other → site ≡ other

-- and have no fault where they hold one
abbrev pub NoSiteIsRefused : Type 0
NoSiteIsRefused = (files : FileMap) (name : List ℕ) (site : Site) (fault : SiteFault) → HasSite files name site → ¬ (IsFault files name fault)

-- a file isn't there, or is too long
abbrev pub is_unread : SiteFault → Bool
is_unread (Missing file) = true
is_unread (TooLong file) = true
is_unread fault = false

-- where they hold none they have one kind of fault: a file is missing or too long, or what the files hold is refused
abbrev pub FaultsAreAlike : Type 0
FaultsAreAlike =
    (files : FileMap) (name : List ℕ) (fault other : SiteFault)
    → IsFault files name fault → IsFault files name other → is_unread fault ≡ is_unread other
