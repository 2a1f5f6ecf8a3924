-- What the strands that live and their queues stand for, between turns and within one.
use Rattle.std.specs.Prelude.{◌≡◌, ℕ, ◌+◌, Bool, false, List, [], length, Option, Some, None}
use Rattle.resty_base.specs.declared.names.StrandId.TheVariants as strand
use Rattle.resty_world.specs.Book.{Book}
use Rattle.strand_contract.specs.declared.turns.Act.{Act}
use Rattle.strand_contract.specs.declared.turns.Seen.{Seen}
use Rattle.strand_contract.specs.Alone.{offering}
use Rattle.strand_contract.specs.Behaviors.{Meaning}
use Rattle.executions.specs.Executions.{GlobalAction, projection}
use Rattle.engine_turns.specs.declared.turns.Carried.{Carried}
use Rattle.engine_turns.specs.declared.turns.Carried.TheVariants as carried
use Rattle.engine_base.specs.declared.seats.ToCome.TheVariants as coming
use Rattle.engine_turns.specs.declared.turns.Turns.{Turns}
use Rattle.engine_base.specs.declared.seats.Seat.{Seat}
use Rattle.engine_tables.specs.Seats.{seat_at, total}
use Rattle.engine_base.specs.Standing.{Held, Standing, Busy, Falls, Turn}

-- what the engine holds, in plain values
abbrev pub view_of : {S : Type 0} → Turns S → Held S
view_of turns = record {
  seats = seat_at turns.seats;
  run_queue = turns.run_queue.threads;
  offer_queue = turns.offer_queue.items;
  in_offers = turns.in_offers;
  now = turns.now.0;
  connections = turns.connections;
  to_come = turns.to_come;
  agenda = turns.agenda;
}

-- no turn is under way, and none is to come
abbrev pub IsIdle : {S : Type 0} → Turns S → Type 0
IsIdle turns = (turns.run_queue.threads ≡ []) × (turns.offer_queue.items ≡ []) × (turns.in_offers ≡ false) × (turns.to_come ≡ coming.Nothing)

module _ {J S : Type 0} (m : Meaning S J) where
  -- they stand for some execution
  abbrev pub Stands : Turns S → Book → Type 0
  Stands turns book = (ms : List (GlobalAction J)) × Standing m.behavior m.stands (view_of turns) book ms

  -- the same, where nothing is left to be done
  abbrev pub Rests : Turns S → Book → Type 0
  Rests turns book = (ms : List (GlobalAction J)) × Standing m.behavior m.stands (view_of turns) book ms × IsIdle turns

  -- connection c's strand, out of its seat, is to be shown something
  abbrev pub IsTurn : ℕ → Seat S → Seen → Bool → Turns S → Book → Type 0
  IsTurn c seat shown go turns book = (ms : List (GlobalAction J)) × Turn m.behavior m.stands c seat.strand shown go seat.is_open (view_of turns) book ms

  -- within its turn: these acts are still to be carried out; `go` says whether an offer goes on after them
  abbrev pub IsBusy : ℕ → Seat S → List (Act J) → Bool → Turns S → Book → Type 0
  IsBusy c seat acts go turns book = (ms : List (GlobalAction J)) × Busy m.behavior m.stands c seat.strand acts go seat.is_open (view_of turns) book ms

  -- its turn is over
  abbrev pub IsDone : ℕ → Seat S → Turns S → Book → Type 0
  IsDone c seat turns book = (go : Bool) × (ms : List (GlobalAction J)) × Busy m.behavior m.stands c seat.strand [] go seat.is_open (view_of turns) book ms
      × (offering m.behavior (projection (strand.Conn c) ms) ≡ None)

  -- it is to be given up
  abbrev pub IsFalling : ℕ → Bool → Turns S → Book → Type 0
  IsFalling c opened turns book = (ms : List (GlobalAction J)) × Falls m.behavior m.stands c opened (view_of turns) book ms

  -- an act was carried out, and the rest is still to be
  abbrev pub IsCarried : ℕ → Seat S → List (Act J) → Bool → Turns S → Book → Carried → Type 0
  IsCarried c seat rest go turns book carried.Done = IsBusy c seat rest go turns book
  IsCarried c seat rest go turns book carried.Over = Stands turns book
  IsCarried c seat rest go turns book carried.Refused = IsFalling c seat.is_open turns book

-- the same turns go on: threads run, or places are offered, and the same is still to come
abbrev pub KeepsPhase : {S : Type 0} → Turns S → Turns S → Type 0
KeepsPhase old new = (new.in_offers ≡ old.in_offers) × (new.to_come ≡ old.to_come)

-- what is left to be done: by the strands, in the queues, and at deadlines
abbrev pub seat_left : {S : Type 0} → (S → ℕ) → Seat S → ℕ
seat_left left seat = left seat.strand

abbrev pub work : {S : Type 0} → (S → ℕ) → Turns S → ℕ
work left turns = total (seat_left left) turns.seats + length turns.run_queue.threads + length turns.offer_queue.items + length turns.agenda

abbrev pub left_of : {S : Type 0} → (S → ℕ) → Option (Seat S) → ℕ
left_of left None = 0
left_of left (Some seat) = left seat.strand
