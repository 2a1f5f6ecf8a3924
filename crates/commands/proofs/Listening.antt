-- A world that was listened on, and then served.
use Rattle.std.proofs.Common.{◌≡◌, ℕ, IfSome, ◌∙◌}
use Rattle.resty_world.specs.Book.{Book}
use Rattle.resty_world.specs.Contract.{Listens}
use Rattle.resty_world.specs.declared.answers.Listened.TheVariants as listened
use Rattle.engine_base.specs.Right.{IsFresh, IsRight}
use Rattle.engine.specs.Endings.{EndsBy, HasAtMost, NothingFailed}
use Rattle.engine.specs.declared.server.Ended.{Ended}
use Rattle.engine.specs.declared.server.Ended.TheVariants as ended
use Rattle.engine_base.proofs.Lists.{tells-same}
use Rattle.commands.specs.Live.{IsServed}
use Rattle.lua_run.specs.Answers.{Site}
use Rattle.commands.specs.Sites.{site_behavior}

-- a world at which nothing has happened is one after listening
pub fresh_still : (port : ℕ) (old mid : Book) → Listens port listened.Up old mid → IsFresh old → IsFresh mid
fresh_still port old mid l f = record {
  history = tells-same old.history mid.history _ f.history l.entered.history;
  offered = tells-same old.offered mid.offered _ f.offered l.entered.offered;
  arrivals = l.ids.arrivals ∙ f.arrivals;
  dials = l.ids.dials ∙ f.dials;
  none_open = λ x. l.ids.is_open x ∙ f.none_open x;
  none_ended = λ x. l.ids.has_ended x ∙ f.none_ended x;
  none_aside = λ s. l.ids.strand_aside s ∙ f.none_aside s;
}

-- how serving ended, by the faults before listening
well_still : (old mid new : Book) → mid.faults ≡ old.faults → NothingFailed mid new → NothingFailed old new
well_still old mid new same none = record { faults = none.faults ∙ same; logs = none.logs }

ends_still : (events : ℕ) (old mid new : Book) (e : Ended) → mid.faults ≡ old.faults → EndsBy events mid new e → EndsBy events old new e
ends_still events old mid new ended.Stopped same ends = (ends.0, well_still old mid new same ends.1)
ends_still events old mid new (ended.Spent n) same ends = (ends.0, ends.1, well_still old mid new same ends.2)
ends_still events old mid new ended.WorldFault same ends = (record { kept = rw (← same) ends.0.kept; risen = rw (← same) ends.0.risen }, ends.1)
ends_still events old mid new (ended.BadLine n) same ends = (ends.0, well_still old mid new same ends.1)
ends_still events old mid new ended.Memory same ends = well_still old mid new same ends

pub served_since : (site : Site) (events : ℕ) (old mid new : Book) (e : Ended) → Listens site.conf.port listened.Up old mid → IsRight (site_behavior site) new
    → new.port ≡ mid.port → IfSome new.history (HasAtMost events) → EndsBy events mid new e → IsServed site events e old new
served_since site events old mid new e l right port few ends = record {
  port = port ∙ l.listens;
  right = right;
  few = few;
  ends = ends_still events old mid new e l.faults ends;
}
