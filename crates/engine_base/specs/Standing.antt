-- What the engine holds, against an execution.
use Rattle.std.specs.Prelude.{◌≡◌, ℕ, ◌<◌, Bool, true, false, ◌==◌, List, [], ◌∷◌, ◌++◌, Option, Some, None, if◌then◌else◌}
use Rattle.resty_base.specs.declared.names.Id.{Id}
use Rattle.resty_base.specs.declared.names.Id.TheVariants as id
use Rattle.resty_base.specs.declared.names.StrandId.{StrandId}
use Rattle.resty_base.specs.declared.names.StrandId.TheVariants as strand
use Rattle.resty_world.specs.Book.{Book}
use Rattle.resty_world.specs.Ids.{same_strand}
use Rattle.strand_contract.specs.declared.turns.Place.{Place}
use Rattle.strand_contract.specs.declared.turns.Place.TheVariants as place
use Rattle.strand_contract.specs.declared.turns.Act.{Act}
use Rattle.strand_contract.specs.declared.turns.Seen.{Seen}
use Rattle.strand_contract.specs.Actions.{LocalAction, Did}
use Rattle.strand_contract.specs.Behaviors.{Behavior}
use Rattle.strand_contract.specs.Alone.{lives, moment, is_open, has_ended, todo, carried, waiting, lined_up, to_offer, offers, offering}
use Rattle.strand_contract.specs.Alone.{begun_offer, in_offers, is_stopping, is_waking, NoneIsDue, IsExecution}
use Rattle.strand_contract.specs.Calls.{action_of}
use Rattle.strand_contract.specs.Laws.{IsLastAct}
use Rattle.executions.specs.Executions.{GlobalAction, Of, projection, present, Throughout}
use Rattle.executions.specs.Phases.{Phase, Waking, Stopping, Running, phase}
use Rattle.executions.specs.Counts.{arrived, open_connections}
use Rattle.executions.specs.Queues.{only, lined, placed, without_all, run_queue, offer_queue}
use Rattle.executions.specs.Agenda.{Whose, armed_with, without_those, is_of, agenda, next_due}
use Rattle.executions.specs.OwnDeadlines.{deadlines}
use Rattle.executions.specs.Histories.{external, offered_lengths}
use Rattle.executions.specs.Plain.{IsPlain}
use Rattle.executions.specs.Ordered.{offers_last, was_touched, IsOrdered}
use Rattle.executions.specs.Lawful.{IsGivenAtRest, BeginsRight, HeldNothingBack}
use Rattle.engine_base.specs.declared.seats.ToCome.{ToCome}
use Rattle.engine_base.specs.declared.seats.ToCome.TheVariants as coming
use Rattle.engine_base.specs.declared.seats.Seat.{Seat}
use Rattle.engine_base.specs.Right.{Tells, IsServed}
use Rattle.engine_tables.specs.Seats.{is_after}

-- what the engine holds, in plain values
pub record Held (S : Type 0) : Type 0 where
  pub seats : StrandId → Option (Seat S)
  -- the threads that are to run, and the places that are to be offered
  pub run_queue : List (StrandId × ℕ)
  pub offer_queue : List (StrandId × Place)
  -- whether places are offered now, and no threads run
  pub in_offers : Bool
  pub now : ℕ
  pub connections : ℕ
  -- what the newest event still brings about by itself
  pub to_come : ToCome
  -- the deadlines that are armed, in the order of arming
  pub agenda : List (Whose × ℕ)

-- a connection's strand is still to be ended by Stop
abbrev pub is_to_end : ToCome → ℕ → Bool
is_to_end (coming.Endings last) c = is_after last c
is_to_end o c = false

-- a moment still wakes what is due
abbrev pub is_to_wake : ToCome → Bool
is_to_wake coming.Wakings = true
is_to_wake o = false

-- the phase of a turn, by what is still to come
abbrev pub phase_at : ToCome → Phase
phase_at coming.Nothing = Running
phase_at coming.Wakings = Waking
phase_at (coming.Endings last) = Stopping

-- what is still to come fits the phase between turns; where nothing is, nothing is due at the moment
abbrev pub HasCome : {J : Type 0} → ToCome → Behavior J → List (GlobalAction J) → Type 0
HasCome coming.Nothing b ms = phase ms ≡ Waking → next_due b ms ≡ None
HasCome o b ms = phase ms ≡ phase_at o

-- while a moment still wakes what is due, the strand may be woken; else nothing of it is due
abbrev pub MayWake : {J : Type 0} → Bool → Behavior J → List (LocalAction J) → Type 0
MayWake true b es = is_waking es ≡ true
MayWake false b es = NoneIsDue b es

-- what is held of one connection's strand: its seat, its part of the queues, and what the engine does now
pub record Share (S : Type 0) : Type 0 where
  pub seat : Option (Seat S)
  pub threads : List ℕ
  pub places : List Place
  pub in_offers : Bool
  pub now : ℕ
  pub to_end : Bool
  pub to_wake : Bool

abbrev pub share_of : {S : Type 0} → ℕ → Held S → Share S
share_of c h = record {
  seat = h.seats (strand.Conn c);
  threads = only (strand.Conn c) h.run_queue;
  places = only (strand.Conn c) h.offer_queue;
  in_offers = h.in_offers;
  now = h.now;
  to_end = is_to_end h.to_come c;
  to_wake = is_to_wake h.to_come;
}

-- what the world's book says of one connection
pub record Said : Type 0 where
  pub is_open : Bool
  pub has_ended : Bool

abbrev pub said_of : ℕ → Book → Said
said_of c book = record { is_open = book.is_open (id.Conn c); has_ended = book.has_ended (id.Conn c) }

-- room is set aside for the closing of each id that is open
abbrev pub HasAsides : Book → Type 0
HasAsides book = (x : Id) → book.is_open x ≡ true → book.id_aside x ≡ true

-- of a queue, what is of strands that live: those that died stay in the engine's until their turn comes
abbrev pub without_dead : {J A : Type 0} → List (GlobalAction J) → List (StrandId × A) → List (StrandId × A)
without_dead ms [] = []
without_dead ms (e ∷ l) = if lives (projection e.0 ms) then e ∷ without_dead ms l else without_dead ms l

-- what doesn't speak of one strand. `next_runs` and `next_offers` are the turns that are to come
pub record Common {J : Type 0} (b : Behavior J) (next_runs : List (StrandId × ℕ)) (next_offers : List (StrandId × Place)) (now connections : ℕ)
    (book : Book) (ms : List (GlobalAction J)) : Type 0 where
  pub alone : (s : StrandId) → IsExecution b (projection s ms)
  pub begins : Throughout (BeginsRight b) ms
  pub given : Throughout (IsGivenAtRest b) ms
  pub kept : Throughout (HeldNothingBack b) ms
  pub plain : IsPlain b ms
  pub ordered : IsOrdered b ms
  pub served : Throughout IsServed ms
  pub runs : without_dead ms next_runs ≡ run_queue b ms
  pub offered : without_dead ms next_offers ≡ offer_queue b ms
  pub told : Tells book.history (external b ms)
  pub offers_told : Tells book.offered (offered_lengths b ms)
  pub unborn : (c : ℕ) → book.arrivals < c → projection (strand.Conn c) ms ≡ []
  pub jobless : (n : ℕ) → projection (strand.Job n) ms ≡ []
  pub no_socket : (n : ℕ) → book.is_open (id.Sock n) ≡ false
  pub asides : HasAsides book
  pub count : open_connections ms ≡ connections
  pub arrived : arrived ms ≡ book.arrivals
  pub present : present ms ≡ now

-- whether an offer of the client's connection goes on: `go` says that it may, `opened` that the connection is open
abbrev pub IsOffer : Bool → Bool → Option Place → Type 0
IsOffer go opened None = go ≡ true → opened ≡ false
IsOffer go opened (Some place.Client) = go ≡ true
IsOffer go opened (Some (place.Sock k)) = ⊥

-- the queues, with the threads and places of acts of c's strand that are still to be carried out
abbrev pub runs_with : {J S : Type 0} → ℕ → List (Act J) → Held S → List (StrandId × ℕ)
runs_with c acts h = lined (strand.Conn c) acts h.run_queue

abbrev pub offers_with : {J S : Type 0} → ℕ → List (Act J) → Held S → List (StrandId × Place)
offers_with c acts h = placed (strand.Conn c) acts h.offer_queue

-- what happened to c's strand, and to all, once it is shown something
abbrev pub local_turn : {J : Type 0} → Behavior J → ℕ → Seen → List (GlobalAction J) → List (LocalAction J)
local_turn b c seen ms = Did (action_of b (projection (strand.Conn c) ms) seen) ∷ projection (strand.Conn c) ms

abbrev pub global_turn : {J : Type 0} → Behavior J → ℕ → Seen → List (GlobalAction J) → List (GlobalAction J)
global_turn b c seen ms = Of (strand.Conn c) (action_of b (projection (strand.Conn c) ms) seen) None ∷ ms

-- what follows is of strands that do as `b` says; `st` says of which execution of its own a strand may be
module _ {J S : Type 0} (b : Behavior J) (st : S → List (LocalAction J) → Type 0) where
  -- a strand that lives, what is held of it, and what is said of its connection
  pub record Fit (own : Share S) (said : Said) (es : List (LocalAction J)) : Type 0 where
    pub held : (x : Seat S) × (own.seat ≡ Some x) × st x.strand es × (x.is_open ≡ said.is_open)
    pub no_act : todo b es ≡ []
    pub threads : waiting b es ≡ own.threads
    pub offered : to_offer b es ≡ own.places
    pub no_offer : offering b es ≡ None
    -- while threads run, a strand whose newest turn was an offer has no place in the queue, and the other way round
    pub runs_first : own.in_offers ≡ false → in_offers es ≡ true → own.places ≡ []
    pub offers_first : own.in_offers ≡ true → in_offers es ≡ false → own.threads ≡ []
    pub moment : moment es ≡ own.now
    pub wakes : MayWake own.to_wake b es
    pub no_socket : (k : ℕ) → is_open (place.Sock k) es ≡ false
    pub stopping : is_stopping es ≡ own.to_end
    pub client : is_open place.Client es ≡ said.is_open
    pub no_more : has_ended place.Client es ≡ said.has_ended

  -- the connection's strand fits, if it lives
  abbrev pub Fits : Held S → Book → List (GlobalAction J) → ℕ → Type 0
  Fits h book ms c = lives (projection (strand.Conn c) ms) ≡ true → Fit (share_of c h) (said_of c book) (projection (strand.Conn c) ms)

  -- between two turns
  pub record Standing (h : Held S) (book : Book) (ms : List (GlobalAction J)) : Type 0 where
    pub each : (t : ℕ) → Fits h book ms t
    pub dead : (t : ℕ) → lives (projection (strand.Conn t) ms) ≡ false → h.seats (strand.Conn t) ≡ None
    pub closed : (t : ℕ) → lives (projection (strand.Conn t) ms) ≡ false → book.is_open (id.Conn t) ≡ false
    pub shut : (t : ℕ) → lives (projection (strand.Conn t) ms) ≡ false → (q : Place) → is_open q (projection (strand.Conn t) ms) ≡ false
    -- room is set aside for the strands that live, and for no other; of others no end is kept
    pub aside : (s : StrandId) → book.strand_aside s ≡ lives (projection s ms)
    pub forgotten : (t : ℕ) → lives (projection (strand.Conn t) ms) ≡ false → book.has_ended (id.Conn t) ≡ false
    pub flip_to_runs : h.in_offers ≡ false → offers_last ms ≡ true → h.offer_queue ≡ []
    pub flip_to_offers : h.in_offers ≡ true → offers_last ms ≡ false → h.run_queue ≡ []
    pub comes : HasCome h.to_come b ms
    pub agenda : agenda b ms ≡ h.agenda
    -- a strand that doesn't live has no deadline
    pub disarmed : (s : StrandId) → lives (projection s ms) ≡ false → deadlines s h.agenda ≡ []
    pub common : Common b h.run_queue h.offer_queue h.now h.connections book ms

  -- within a turn of the connection c's strand, which is out of its seat: what is known of the others. `al` says whether it lives,
  -- `opened` whether its connection is open
  pub record Around (c : ℕ) (al opened : Bool) (h : Held S) (next_runs : List (StrandId × ℕ)) (next_offers : List (StrandId × Place))
      (book : Book) (ms : List (GlobalAction J)) : Type 0 where
    pub each : (t : ℕ) → (t == c) ≡ false → Fits h book ms t
    pub dead : (t : ℕ) → (t == c) ≡ false → lives (projection (strand.Conn t) ms) ≡ false → h.seats (strand.Conn t) ≡ None
    pub closed : (t : ℕ) → (t == c) ≡ false → lives (projection (strand.Conn t) ms) ≡ false → book.is_open (id.Conn t) ≡ false
    pub shut : (t : ℕ) → (t == c) ≡ false → lives (projection (strand.Conn t) ms) ≡ false → (q : Place) → is_open q (projection (strand.Conn t) ms) ≡ false
    pub aside : (s : StrandId) → same_strand s (strand.Conn c) ≡ false → book.strand_aside s ≡ lives (projection s ms)
    pub forgotten : (t : ℕ) → (t == c) ≡ false → lives (projection (strand.Conn t) ms) ≡ false → book.has_ended (id.Conn t) ≡ false
    pub out : h.seats (strand.Conn c) ≡ None
    pub alive : lives (projection (strand.Conn c) ms) ≡ al
    pub connection : book.is_open (id.Conn c) ≡ opened
    pub client : is_open place.Client (projection (strand.Conn c) ms) ≡ opened
    pub no_socket : (k : ℕ) → is_open (place.Sock k) (projection (strand.Conn c) ms) ≡ false
    pub own_aside : book.strand_aside (strand.Conn c) ≡ al
    pub disarmed : (s : StrandId) → same_strand s (strand.Conn c) ≡ false → lives (projection s ms) ≡ false → deadlines s h.agenda ≡ []
    pub common : Common b next_runs next_offers h.now h.connections book ms

  -- within a turn of c's strand: these acts are still to be carried out
  pub record Near (c : ℕ) (acts : List (Act J)) (go opened : Bool) (h : Held S) (book : Book) (ms : List (GlobalAction J)) : Type 0 where
    pub around : Around c true opened h (runs_with c acts h) (offers_with c acts h) book ms
    pub to_do : todo b (projection (strand.Conn c) ms) ≡ carried acts
    pub last_act : IsLastAct acts
    pub threads : lined_up acts (only (strand.Conn c) h.run_queue) ≡ waiting b (projection (strand.Conn c) ms)
    pub offered : only (strand.Conn c) h.offer_queue ++ offers acts ≡ to_offer b (projection (strand.Conn c) ms)
    pub agenda : armed_with (strand.Conn c) acts h.agenda ≡ agenda b ms
    pub kind : in_offers (projection (strand.Conn c) ms) ≡ h.in_offers
    pub offer : IsOffer go opened (begun_offer (projection (strand.Conn c) ms))
    pub moment : moment (projection (strand.Conn c) ms) ≡ h.now
    pub stopping : is_stopping (projection (strand.Conn c) ms) ≡ false
    pub no_more : has_ended place.Client (projection (strand.Conn c) ms) ≡ book.has_ended (id.Conn c)
    pub not_to_end : is_to_end h.to_come c ≡ false
    pub wakes : is_waking (projection (strand.Conn c) ms) ≡ is_to_wake h.to_come
    pub phase : phase ms ≡ phase_at h.to_come
    pub last : offers_last ms ≡ h.in_offers
    pub touched : was_touched (strand.Conn c) ms ≡ true

  -- the same, and the strand stands for what happened to it
  pub record Busy (c : ℕ) (x : S) (acts : List (Act J)) (go opened : Bool) (h : Held S) (book : Book) (ms : List (GlobalAction J)) : Type 0 where
    pub near : Near c acts go opened h book ms
    pub stands : st x (projection (strand.Conn c) ms)

  -- c's strand is out of its seat, and is to be given up
  pub record Falls (c : ℕ) (opened : Bool) (h : Held S) (book : Book) (ms : List (GlobalAction J)) : Type 0 where
    pub next_runs : List (StrandId × ℕ)
    pub next_offers : List (StrandId × Place)
    pub around : Around c true opened h next_runs next_offers book ms
    -- but for its own turns, what is in line is in the queues
    pub same_runs : without_all (strand.Conn c) next_runs ≡ without_all (strand.Conn c) h.run_queue
    pub same_offers : without_all (strand.Conn c) next_offers ≡ without_all (strand.Conn c) h.offer_queue
    -- but for its own deadlines, what is armed is held
    pub agenda : without_those (is_of (strand.Conn c)) (agenda b ms) ≡ without_those (is_of (strand.Conn c)) h.agenda
    pub phase : phase ms ≡ phase_at h.to_come
    pub last : offers_last ms ≡ h.in_offers
    pub touched : was_touched (strand.Conn c) ms ≡ true

  -- c's strand, out of its seat, is to be shown something: it stands for what happened before, and the turn may come
  pub record Turn (c : ℕ) (x : S) (seen : Seen) (go opened : Bool) (h : Held S) (book : Book) (ms : List (GlobalAction J)) : Type 0 where
    pub stands : st x (projection (strand.Conn c) ms)
    pub moment : moment (projection (strand.Conn c) ms) ≡ h.now
    pub execution : IsExecution b (local_turn b c seen ms)
    pub near : Near c (b.acts (local_turn b c seen ms)) go opened h book (global_turn b c seen ms)
