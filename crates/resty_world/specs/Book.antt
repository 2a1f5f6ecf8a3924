-- What contracts see of a world, and what its calls leave as it was.
use Rattle.std.specs.Prelude.{◌≡◌, ℕ, Bool, List, ◌++◌, Option, Some, None}
use Rattle.resty_base.specs.declared.names.Id.{Id}
use Rattle.resty_base.specs.declared.names.StrandId.{StrandId}
use Rattle.resty_world.specs.declared.entry.Entry.{Entry}
use Rattle.resty_world.specs.declared.schedule_line.SchedLine.{SchedLine}

-- the record of a world
pub record Book : Type 0 where
  -- the entries, the newest first, where the world reports them
  pub history : Option (List Entry)
  -- how long the piece was that each `Put` and each `Later` answered, the newest first; reported together with the history
  pub offered : Option (List ℕ)
  -- the lines that the world goes by, where it has a schedule, and how many of them were passed
  pub schedule : Option (List SchedLine)
  pub passed : ℕ
  -- how many entries `note` can still take
  pub spare : ℕ
  -- which connections and sockets are open, and of which no bytes come any more
  pub is_open : Id → Bool
  pub has_ended : Id → Bool
  -- for which ids and which strands room is set aside for one later entry
  pub id_aside : Id → Bool
  pub strand_aside : StrandId → Bool
  -- how many connections arrived, and how many sockets were dialled
  pub arrivals : ℕ
  pub dials : ℕ
  -- how many faults of the world there were, and how many losses of connections and sockets
  pub faults : ℕ
  pub losses : ℕ
  -- the port that it listens on
  pub port : Option ℕ

-- where something is reported, it has these elements more, the newest first
abbrev pub told : {A : Type 0} → List A → Option (List A) → Option (List A)
told news None = None
told news (Some before) = Some (news ++ before)

-- nothing is entered
pub record KeepsTold (old new : Book) : Type 0 where
  pub history : new.history ≡ old.history
  pub offered : new.offered ≡ old.offered

-- no connection arrives, and no socket is dialled
pub record KeepsNumbers (old new : Book) : Type 0 where
  pub arrivals : new.arrivals ≡ old.arrivals
  pub dials : new.dials ≡ old.dials

-- no id is opened, ended or closed, no room is set aside, used or given up
pub record KeepsIds (old new : Book) : Type 0 where
  pub is_open : (x : Id) → new.is_open x ≡ old.is_open x
  pub has_ended : (x : Id) → new.has_ended x ≡ old.has_ended x
  pub id_aside : (x : Id) → new.id_aside x ≡ old.id_aside x
  pub strand_aside : (s : StrandId) → new.strand_aside s ≡ old.strand_aside s
  pub arrivals : new.arrivals ≡ old.arrivals
  pub dials : new.dials ≡ old.dials

-- nothing fails, and nothing is lost
pub record KeepsCounts (old new : Book) : Type 0 where
  pub faults : new.faults ≡ old.faults
  pub losses : new.losses ≡ old.losses

-- the world goes by the same schedule, at the same line of it, and listens where it listened
pub record KeepsCourse (old new : Book) : Type 0 where
  pub schedule : new.schedule ≡ old.schedule
  pub passed : new.passed ≡ old.passed
  pub port : new.port ≡ old.port
