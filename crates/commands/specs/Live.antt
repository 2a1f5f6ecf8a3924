-- What becomes of the live world.
use Rattle.std.specs.Prelude.{◌≡◌, ◌⊎◌, ℕ, Option, Some, IfSome}
use Rattle.resty_base.specs.FileMap.{FileMap}
use Rattle.resty_world.specs.Book.{Book}
use Rattle.resty_world.specs.Contract.{Listens}
use Rattle.resty_world.specs.declared.answers.Listened.TheVariants as listened
use Rattle.engine_base.specs.Right.{IsRight}
use Rattle.engine.specs.Endings.{EndsBy, HasAtMost}
use Rattle.engine.specs.declared.server.Ended.{Ended}
use Rattle.commands.specs.declared.command_line.Mode.{Mode}
use Rattle.commands.specs.declared.command_line.Mode.TheVariants as mode
use Rattle.commands.specs.declared.endings.Ending.{Ending}
use Rattle.commands.specs.declared.endings.Ending.TheVariants as ending
use Rattle.commands.specs.declared.endings.Status.{Status}
use Rattle.commands.specs.declared.endings.Status.TheVariants as status
use Rattle.commands.specs.Ending.{ending_by}
use Rattle.lua_run.specs.Answers.{Site}
use Rattle.commands.specs.Sites.{site_behavior}
use Rattle.commands.specs.Verdict.{Serves, IsOf}
use Rattle.commands.specs.Words.{Command}

-- The world listens on the site's port, and was served. Its history, where it is reported, is that of one execution of the site's
-- strands, which is lawful, kept, plain and ordered, and has no more events than may be; and serving ended so, for a cause that the
-- world shows.
pub record IsServed (site : Site) (events : ℕ) (e : Ended) (old new : Book) : Type 0 where
  pub port : new.port ≡ Some site.conf.port
  pub right : IsRight (site_behavior site) new
  pub few : IfSome new.history (HasAtMost events)
  pub ends : EndsBy events old new e

-- how the serving of a site ends, and what becomes of the world: it doesn't listen, or it was served
pub data ServesTo (site : Site) (events : ℕ) (to : Ending) (old new : Book) : Type 0 where
  deaf : to ≡ ending.WorldFault → Listens site.conf.port listened.Failed old new → ServesTo site events to old new
  unheard : to ≡ ending.Memory → Listens site.conf.port listened.Memory old new → ServesTo site events to old new
  served : (e : Ended) → to ≡ ending_by e → IsServed site events e old new → ServesTo site events to old new

-- a site is served for a command; where the files report what they hold, it is what they hold
abbrev pub IsServedFor : Command → Option FileMap → Ending → Book → Book → Type 0
IsServedFor c told e old new = (site : Site) × IfSome told (λ held. IsOf c held (Serves site)) × ServesTo site c.events e old new

-- what a command that serves leaves of the world, by its status: the world is served, or it is as it was
abbrev pub LeavesServed : Command → Option FileMap → Status → Book → Book → Type 0
LeavesServed c told status.Done old new = IsServedFor c told ending.Done old new
LeavesServed c told status.EventsSpent old new = IsServedFor c told ending.EventsSpent old new
LeavesServed c told status.Schedule old new = (n : ℕ) × IsServedFor c told (ending.NoSuchId n) old new
LeavesServed c told status.WorldFault old new = IsServedFor c told ending.WorldFault old new
LeavesServed c told status.Memory old new = (new ≡ old) ⊎ IsServedFor c told ending.Memory old new
LeavesServed c told s old new = new ≡ old

-- only `serve` touches the world
abbrev pub LeavesBy : {V : Type 0} → Mode → (V → V → Type 0) → (V → Book) → Command → Option FileMap → Status → V → V → Type 0
LeavesBy mode.Serve same book c told s old new = same old new × LeavesServed c told s (book old) (book new)
LeavesBy m same book c told s old new = new ≡ old

abbrev pub Leaves : {V : Type 0} → (V → V → Type 0) → (V → Book) → Command → Option FileMap → Status → V → V → Type 0
Leaves same book c told s old new = LeavesBy c.mode same book c told s old new
