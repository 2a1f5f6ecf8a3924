-- A world that passed lines and gave no event by them.
use Rattle.std.proofs.Common.{◌≡◌, ℕ, ◌≤◌, true, List, [], length, reverse, Option, Some, None, slice_get, refl, sym, ap, subst, ◌∙◌, arith}
use Rattle.std.proofs.Math.Nat.{le_refl, le_trans}
use Rattle.resty_base.specs.declared.names.Id.{Id}
use Rattle.resty_base.specs.declared.names.Id.TheVariants as id
use Rattle.resty_world.specs.declared.entry.Entry.{Entry}
use Rattle.resty_world.specs.declared.event.Event.{Event}
use Rattle.resty_world.specs.declared.event.Event.TheVariants as event
use Rattle.resty_world.specs.Book.{Book, told}
use Rattle.resty_world.specs.declared.schedule_line.SchedLine.{SchedLine}
use Rattle.resty_world.specs.Given.{IsFit, IsBadLine, Gave, named_id, names_absent}
use Rattle.schedule.specs.declared.replay.Replay.{Replay}
use Rattle.schedule.specs.Counts.{arrived_in, dials_in}
use Rattle.schedule.specs.Knowing.{Knows}
use Rattle.schedule.specs.Peers.{Roll, numbered, peer_at, opened, closed, ended, room_in, put_fails_in}
use Rattle.schedule.specs.ReplayBook.{book_of, Stands, StandsAnywhere, IsQuietTo, IsPast, HasAnswered, IsLater}
use Rattle.schedule.proofs.Standing.{asks_at_bad_line}

-- a world is itself
pub past-same : (world : Replay) → IsPast world world
past-same world = record { book = refl; passed = le_refl world.passed; schedule = refl; entries = refl; reached = λ s. s; ready = λ r. r }

-- some lines more
pub past-on : (first second third : Replay) → IsPast first second → IsPast second third → IsPast first third
past-on first second third early late = record {
  book = late.book ∙ ap (λ (b : Book). record b { passed = third.passed }) early.book;
  passed = le_trans early.passed late.passed;
  schedule = late.schedule ∙ early.schedule;
  entries = late.entries ∙ early.entries;
  reached = λ s. late.reached (early.reached s);
  ready = λ r. late.ready (early.ready r);
}

-- the lines that are still to be passed are quiet as before
pub quiet-on : (old mid : Replay) (at : ℕ) → IsPast old mid → IsQuietTo old at → IsQuietTo mid at
quiet-on old mid at past quiet = λ k from to. rw (past.entries, past.schedule) (quiet k (le_trans past.passed from) to)

-- where a world stands, it stands anywhere
anywhere : (w : Replay) → Stands w → StandsAnywhere w
anywhere w s = record {
  steps = s.steps;
  right = s.right;
  passed = s.passed;
  history = s.history;
  offered = s.offered;
  faults = s.faults;
  losses = s.losses;
  rooms = s.rooms;
  put_fails = s.put_fails;
  dial_fails = s.dial_fails;
  log_fails = s.log_fails;
  listen_fails = s.listen_fails;
  port = s.port;
  kept = tt;
}

-- where the rolls have the same lists, they have the same peers
pub same-peers : (old new : Roll) → new.connections ≡ old.connections → new.sockets ≡ old.sockets → (x : Id) → peer_at new x ≡ peer_at old x
same-peers old new connections sockets (id.Conn c) = ap (λ peers. numbered peers c) connections
same-peers old new connections sockets (id.Sock n) = ap (λ peers. numbered peers n) sockets

pub knows-still : (old new : Roll) (history : List Entry) → new.connections ≡ old.connections → new.sockets ≡ old.sockets → Knows old history → Knows new history
knows-still old new history connections sockets known =
    let at = same-peers old new connections sockets in
    record {
      arrived = ap length connections ∙ known.arrived;
      dialled = ap length sockets ∙ known.dialled;
      are_open = λ x. ap opened (at x) ∙ known.are_open x;
      are_closed = λ x. ap closed (at x) ∙ known.are_closed x;
      are_ended = λ x off. ap ended (at x) ∙ known.are_ended x (sym (ap closed (at x)) ∙ off);
      distinct = known.distinct;
    }

-- a world that changed nothing of which steps speak
pub later-still : (old new : Replay) → new.course ≡ old.course → new.passed ≡ old.passed → new.history.entries ≡ old.history.entries → new.offered.items ≡ old.offered.items
    → new.faults ≡ old.faults → new.losses ≡ old.losses → ((x : Id) → room_in (peer_at new.peers x) ≡ room_in (peer_at old.peers x)) → ((x : Id) → put_fails_in (peer_at new.peers x) ≡ put_fails_in (peer_at old.peers x))
    → new.dial_fails ≡ old.dial_fails → new.log_fails ≡ old.log_fails → new.listen_fails ≡ old.listen_fails → new.port ≡ old.port → IsLater old new
later-still old new course passed entries offered faults losses rooms put_fails dial_fails log_fails listen_fails port = record {
  schedule = course;
  passed = omega (arith, passed);
  stands = λ s. record {
    steps = s.steps;
    right = rw course s.right;
    passed = rw (passed, course) s.passed;
    history = s.history ∙ sym entries;
    offered = s.offered ∙ ap reverse (sym offered);
    faults = faults ∙ s.faults;
    losses = rw entries (losses ∙ s.losses);
    rooms = λ x. rooms x ∙ s.rooms x;
    put_fails = λ x. put_fails x ∙ s.put_fails x;
    dial_fails = dial_fails ∙ s.dial_fails;
    log_fails = log_fails ∙ s.log_fails;
    listen_fails = listen_fails ∙ rw course s.listen_fails;
    port = port ∙ s.port;
    kept = s.kept;
  };
}

-- an asking is answered after these lines
pub answered-on : (old mid new : Replay) → IsPast old mid → HasAnswered mid new → IsLater old new
answered-on old mid new past answered = record {
  schedule = answered.schedule ∙ past.schedule;
  passed = le_trans past.passed answered.passed;
  stands = λ s. answered.stands (past.reached (anywhere old s));
}

-- it isn't, since the next line is bad
pub bad-on : (old mid : Replay) (l : SchedLine) → IsPast old mid → slice_get mid.course mid.passed ≡ Some l
    → names_absent (arrived_in mid.history.entries) (dials_in mid.history.entries) (named_id l) ≡ true → IsLater old mid
bad-on old mid l past here absent = record {
  schedule = past.schedule;
  passed = past.passed;
  stands = λ s. asks_at_bad_line mid (past.reached (anywhere old s)) l here absent;
}

fit-on : (old : Book) (passed : ℕ) (e : Event) → IsFit (record old { passed = passed }) e → IsFit old e
fit-on old passed (event.Arrive k) fit = fit
fit-on old passed (event.Bytes i bytes) fit = fit
fit-on old passed (event.Ended i) fit = fit
fit-on old passed (event.Broken i) fit = fit
fit-on old passed (event.Ready i) fit = fit
fit-on old passed (event.Dialled n) fit = fit
fit-on old passed (event.Refused n) fit = fit
fit-on old passed (event.Moment t) fit = fit
fit-on old passed event.Stop fit = fit
fit-on old passed event.Fault fit = fit
fit-on old passed (event.BadLine n) fit = fit
fit-on old passed event.Memory fit = fit

-- what is given after these lines is given by the world
pub gave-on : (old : Book) (passed : ℕ) (mid new : Book) (e : Event) → old.passed ≤ passed → mid ≡ record old { passed = passed } → Gave mid new e → Gave old new e
gave-on old passed mid new e below is gave =
    let g = subst (λ b. Gave b new e) is gave in
    record {
      history = g.history;
      offered = g.offered;
      schedule = g.schedule;
      passed = le_trans below g.passed;
      fit = fit-on old passed e g.fit;
      caused = g.caused;
      is_open = g.is_open;
      has_ended = g.has_ended;
      id_aside = g.id_aside;
      strand_aside = g.strand_aside;
      arrivals = g.arrivals;
      dials = g.dials;
      faults = g.faults;
      losses = g.losses;
      port = g.port;
    }

pub gave-past : (old mid new : Replay) (e : Event) → IsPast old mid → Gave (book_of mid) (book_of new) e → Gave (book_of old) (book_of new) e
gave-past old mid new e past gave = gave-on (book_of old) mid.passed (book_of mid) (book_of new) e past.passed past.book gave

told-same : (h : Option (List Entry)) → h ≡ told [] h
told-same None = refl
told-same (Some h) = refl

-- nothing is given out of memory
pub gave-memory : (old new : Book) → new ≡ old → Gave old new event.Memory
gave-memory old new is = record {
  history = ap (λ (b : Book). b.history) is ∙ told-same old.history;
  offered = ap (λ (b : Book). b.offered) is;
  schedule = ap (λ (b : Book). b.schedule) is;
  passed = omega (arith, ap (λ (b : Book). b.passed) is);
  fit = tt;
  caused = tt;
  is_open = λ x. ap (λ (b : Book). b.is_open x) is;
  has_ended = λ x. ap (λ (b : Book). b.has_ended x) is;
  id_aside = λ x. ap (λ (b : Book). b.id_aside x) is;
  strand_aside = λ s. ap (λ (b : Book). b.strand_aside s) is;
  arrivals = ap (λ (b : Book). b.arrivals) is ∙ omega arith;
  dials = ap (λ (b : Book). b.dials) is;
  faults = ap (λ (b : Book). b.faults) is;
  losses = ap (λ (b : Book). b.losses) is;
  port = ap (λ (b : Book). b.port) is;
}

-- nothing is given where the next line is bad
pub gave-bad : (old : Book) (passed : ℕ) (mid : Book) (n : ℕ) → old.passed ≤ passed → mid ≡ record old { passed = passed } → IsBadLine mid n → Gave old mid (event.BadLine n)
gave-bad old passed mid n below is bad = record {
  history = ap (λ (b : Book). b.history) is ∙ told-same old.history;
  offered = ap (λ (b : Book). b.offered) is;
  schedule = ap (λ (b : Book). b.schedule) is;
  passed = omega (arith, below, ap (λ (b : Book). b.passed) is);
  fit = tt;
  caused = bad;
  is_open = λ x. ap (λ (b : Book). b.is_open x) is;
  has_ended = λ x. ap (λ (b : Book). b.has_ended x) is;
  id_aside = λ x. ap (λ (b : Book). b.id_aside x) is;
  strand_aside = λ s. ap (λ (b : Book). b.strand_aside s) is;
  arrivals = ap (λ (b : Book). b.arrivals) is ∙ omega arith;
  dials = ap (λ (b : Book). b.dials) is;
  faults = ap (λ (b : Book). b.faults) is;
  losses = ap (λ (b : Book). b.losses) is;
  port = ap (λ (b : Book). b.port) is;
}
