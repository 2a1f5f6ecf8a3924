-- One strand alone: what its actions leave to be done, and which action may come next.
-- Here es is an execution of the strand, b its behavior, q a place, and k the number of a thread or a socket.
use Rattle.std.specs.Prelude.{◌≡◌, ◌⊎◌, ℕ, ◌+◌, ◌-◌, ◌%◌, ◌<◌, nat_le, max, Bool, true, false, not, ◌&&◌}
use Rattle.std.specs.Prelude.{◌||◌, ◌==◌, List, [], ◌∷◌, ◌++◌, take, drop, length, Option, Some, None, if◌then◌else◌}
use Rattle.strand_contract.specs.declared.turns.Place.{Place}
use Rattle.strand_contract.specs.declared.turns.Place.TheVariants as place
use Rattle.strand_contract.specs.declared.turns.Start.TheVariants as start
use Rattle.strand_contract.specs.declared.turns.Act.{Act}
use Rattle.strand_contract.specs.declared.turns.Act.TheVariants as act
use Rattle.shared_rules.specs.Ranges.{MayAnswer}
use Rattle.strand_contract.specs.Actions.{Moment, Stop, LocalAction, Told, Did, same_place, is_event, Began, Bytes, Ended, Broken, Ready, Dialled, Refused}
use Rattle.strand_contract.specs.Actions.{Put, Later, Lost, Close, Log, Dict, Take, Dial, Keep, Timer, Dropped, Run, Offer, Due, Halted, Gone}
use Rattle.strand_contract.specs.Behaviors.{Behavior}

-- the strand has begun, and its life isn't over
abbrev pub lives : {J : Type 0} → List (LocalAction J) → Bool
lives [] = false
lives (Did (Began now start) ∷ es) = true
lives (Did Gone ∷ es) = false
lives (Did Dropped ∷ es) = false
lives (a ∷ es) = lives es

-- the strand was given up
abbrev pub was_dropped : {J : Type 0} → List (LocalAction J) → Bool
was_dropped [] = false
was_dropped (Did Dropped ∷ es) = true
was_dropped (a ∷ es) = was_dropped es

-- the present moment: that of the beginning, or a later one that it was told; moments don't fall
abbrev pub moment : {J : Type 0} → List (LocalAction J) → ℕ
moment [] = 0
moment (Did (Began now start) ∷ es) = now
moment (Told (Moment t) ∷ es) = max t (moment es)
moment (a ∷ es) = moment es

-- Stop was given, and the strand wasn't ended by it yet
abbrev pub is_stopping : {J : Type 0} → List (LocalAction J) → Bool
is_stopping [] = false
is_stopping (Told Stop ∷ es) = true
is_stopping (Did Halted ∷ es) = false
is_stopping (a ∷ es) = is_stopping es

-- a moment was told, and since then nothing but a deadline that was due began a turn
abbrev pub wakes_by : {J : Type 0} → LocalAction J → Bool → Bool
wakes_by (Told (Moment t)) waking = true
wakes_by (Told Stop) waking = false
wakes_by (Did (Due n)) waking = waking
wakes_by (Did (Run k)) waking = false
wakes_by (Did (Offer q)) waking = false
wakes_by (Did x) waking = not (is_event x) && waking

abbrev pub is_waking : {J : Type 0} → List (LocalAction J) → Bool
is_waking [] = false
is_waking (a ∷ es) = wakes_by a (is_waking es)

-- the strand is a job that began after Stop, and wasn't ended yet
abbrev pub winds_up_by : {J : Type 0} → LocalAction J → Bool → Bool
winds_up_by (Did (Began now (start.Job j premature job))) winding = premature
winds_up_by (Did Halted) winding = false
winds_up_by a winding = winding

abbrev pub is_winding_up : {J : Type 0} → List (LocalAction J) → Bool
is_winding_up [] = false
is_winding_up (a ∷ es) = winds_up_by a (is_winding_up es)

-- how many sockets the strand got so far
abbrev pub socket_count : {J : Type 0} → List (LocalAction J) → ℕ
socket_count [] = 0
socket_count (Did (Dial host port true) ∷ es) = socket_count es + 1
socket_count (Did (Take key (Some uses)) ∷ es) = socket_count es + 1
socket_count (a ∷ es) = socket_count es

-- the place is open: the client's connection from the beginning, a socket from its dial or take, until it is closed or kept in the pool
abbrev pub is_open : {J : Type 0} → Place → List (LocalAction J) → Bool
is_open q [] = false
is_open q (Did (Began now (start.Client c)) ∷ es) = same_place q place.Client
is_open q (Did (Dial host port true) ∷ es) = same_place q (place.Sock (socket_count es)) || is_open q es
is_open q (Did (Take key (Some uses)) ∷ es) = same_place q (place.Sock (socket_count es)) || is_open q es
is_open q (Did (Close p) ∷ es) = if same_place q p then false else is_open q es
is_open q (Did (Keep k key idle size) ∷ es) = if same_place q (place.Sock k) then false else is_open q es
is_open q (a ∷ es) = is_open q es

-- places without one of them
abbrev pub without_place : Place → List Place → List Place
without_place q [] = []
without_place q (p ∷ ps) = if same_place q p then without_place q ps else p ∷ without_place q ps

-- the open places after an action; k counts the sockets that the strand got before it
abbrev pub opens_by : {J : Type 0} → LocalAction J → ℕ → List Place → List Place
opens_by (Did (Began now (start.Client c))) k ps = place.Client ∷ []
opens_by (Did (Dial host port true)) k ps = ps ++ place.Sock k ∷ []
opens_by (Did (Take key (Some uses))) k ps = ps ++ place.Sock k ∷ []
opens_by (Did (Close q)) k ps = without_place q ps
opens_by (Did (Keep j key idle size)) k ps = without_place (place.Sock j) ps
opens_by a k ps = ps

-- the open places in order: the client's connection, then the sockets as the strand got them
abbrev pub open_places : {J : Type 0} → List (LocalAction J) → List Place
open_places [] = []
open_places (a ∷ es) = opens_by a (socket_count es) (open_places es)

-- no bytes of the place come any more
abbrev pub has_ended : {J : Type 0} → Place → List (LocalAction J) → Bool
has_ended q [] = false
has_ended q (Did (Ended p) ∷ es) = same_place q p || has_ended q es
has_ended q (Did (Broken p) ∷ es) = same_place q p || has_ended q es
has_ended q (a ∷ es) = has_ended q es

-- how many bytes the place took
abbrev pub taken : {J : Type 0} → Place → List (LocalAction J) → ℕ
taken q [] = 0
taken q (Did (Put p bytes) ∷ es) = if same_place q p then taken q es + length bytes else taken q es
taken q (a ∷ es) = taken q es

-- at the last write the place took none for now, and it didn't get ready since
abbrev pub was_put_off : {J : Type 0} → Place → List (LocalAction J) → Bool
was_put_off q [] = false
was_put_off q (Did (Put p bytes) ∷ es) = if same_place q p then false else was_put_off q es
was_put_off q (Did (Later p) ∷ es) = if same_place q p then true else was_put_off q es
was_put_off q (Did (Lost p) ∷ es) = if same_place q p then false else was_put_off q es
was_put_off q (Did (Ready p) ∷ es) = if same_place q p then false else was_put_off q es
was_put_off q (a ∷ es) = was_put_off q es

-- what was sent to an open place and isn't taken yet
abbrev pub queued : {J : Type 0} → Behavior J → Place → List (LocalAction J) → List ℕ
queued b q es = if is_open q es then drop (taken q es) (b.sent q es) else []

-- its first piece, which never crosses a multiple of 16,384 of the bytes sent to the place
abbrev pub piece : {J : Type 0} → Behavior J → Place → List (LocalAction J) → List ℕ
piece b q es = take (16_384 - taken q es % 16_384) (queued b q es)

-- the list isn't empty
abbrev pub is_some_left : List ℕ → Bool
is_some_left [] = false
is_some_left (x ∷ xs) = true

-- the acts that an action of their own carries out
abbrev pub carried : {J : Type 0} → List (Act J) → List (Act J)
carried [] = []
carried (act.Ready k ∷ acts) = carried acts
carried (act.Unready k ∷ acts) = carried acts
carried (act.Offer q ∷ acts) = carried acts
carried (act.Arm n at ∷ acts) = carried acts
carried (act.Cancel n ∷ acts) = carried acts
carried (a ∷ acts) = a ∷ carried acts

-- what an action leaves of the acts that were to be carried out
abbrev pub left_by : {J : Type 0} → LocalAction J → List (Act J) → List (Act J)
left_by (Did (Close q)) acts = drop 1 acts
left_by (Did (Log line done)) acts = drop 1 acts
left_by (Did (Dict zone call answer)) acts = drop 1 acts
left_by (Did (Take key uses)) acts = drop 1 acts
left_by (Did (Dial host port done)) acts = drop 1 acts
left_by (Did (Keep k key idle size)) acts = drop 1 acts
left_by (Did (Timer due answer)) acts = drop 1 acts
left_by (Did Gone) acts = drop 1 acts
left_by (Did Dropped) acts = []
left_by a acts = acts

-- the acts that are still to be carried out
abbrev pub todo : {J : Type 0} → Behavior J → List (LocalAction J) → List (Act J)
todo b [] = []
todo b (a ∷ es) = left_by a (todo b es) ++ carried (b.acts (a ∷ es))

-- a list without the first element that is k
abbrev pub without : ℕ → List ℕ → List ℕ
without k [] = []
without k (j ∷ js) = if k == j then js else j ∷ without k js

-- the run queue after these acts: threads are put at its end, and those that ended are taken out
abbrev pub lined_up : {J : Type 0} → List (Act J) → List ℕ → List ℕ
lined_up [] threads = threads
lined_up (act.Ready k ∷ acts) threads = lined_up acts (threads ++ k ∷ [])
lined_up (act.Unready k ∷ acts) threads = lined_up acts (without k threads)
lined_up (a ∷ acts) threads = lined_up acts threads

-- and after an action: a run takes the first
abbrev pub run_by : {J : Type 0} → LocalAction J → List ℕ → List ℕ
run_by (Did (Run k)) threads = drop 1 threads
run_by a threads = threads

-- the run queue: the threads that wait for their run
abbrev pub waiting : {J : Type 0} → Behavior J → List (LocalAction J) → List ℕ
waiting b [] = []
waiting b (a ∷ es) = lined_up (b.acts (a ∷ es)) (run_by a (waiting b es))

-- the places that acts put at the end of the offer queue
abbrev pub offers : {J : Type 0} → List (Act J) → List Place
offers [] = []
offers (act.Offer q ∷ acts) = q ∷ offers acts
offers (a ∷ acts) = offers acts

-- an offer takes the first
abbrev pub offered_by : {J : Type 0} → LocalAction J → List Place → List Place
offered_by (Did (Offer q)) places = drop 1 places
offered_by a places = places

-- the offer queue: the places that wait for their offer
abbrev pub to_offer : {J : Type 0} → Behavior J → List (LocalAction J) → List Place
to_offer b [] = []
to_offer b (a ∷ es) = offered_by a (to_offer b es) ++ offers (b.acts (a ∷ es))

-- deadlines without the first of this number
abbrev pub disarmed : ℕ → List (ℕ × ℕ) → List (ℕ × ℕ)
disarmed n [] = []
disarmed n (d ∷ ds) = if n == d.0 then ds else d ∷ disarmed n ds

-- the armed deadlines after these acts, where a number that is armed again counts as armed now;
-- and after an action: one that is due is taken out
abbrev pub armed_by : {J : Type 0} → List (Act J) → List (ℕ × ℕ) → List (ℕ × ℕ)
armed_by [] ds = ds
armed_by (act.Arm n at ∷ acts) ds = armed_by acts (disarmed n ds ++ (n, at.0) ∷ [])
armed_by (act.Cancel n ∷ acts) ds = armed_by acts (disarmed n ds)
armed_by (a ∷ acts) ds = armed_by acts ds

abbrev pub taken_by : {J : Type 0} → LocalAction J → List (ℕ × ℕ) → List (ℕ × ℕ)
taken_by (Did (Due n)) ds = disarmed n ds
taken_by a ds = ds

-- the deadlines that are armed, in the order of arming: each with its number and its moment
abbrev pub armed : {J : Type 0} → Behavior J → List (LocalAction J) → List (ℕ × ℕ)
armed b [] = []
armed b (a ∷ es) = armed_by (b.acts (a ∷ es)) (taken_by a (armed b es))

-- of a deadline and those that were armed later, the one that is due first
abbrev pub sooner : ℕ → ℕ × ℕ → Option (ℕ × ℕ) → Option (ℕ × ℕ)
sooner now d None = if nat_le d.1 now then Some d else None
sooner now d (Some e) = if nat_le d.1 now && nat_le d.1 e.1 then Some d else Some e

-- the deadline that is due: the least that isn't later than now, among equals the one that was armed first
abbrev pub due : ℕ → List (ℕ × ℕ) → Option (ℕ × ℕ)
due now [] = None
due now (d ∷ ds) = sooner now d (due now ds)

-- the place, unless it is this one
abbrev pub but : Place → Option Place → Option Place
but q None = None
but q (Some p) = if same_place q p then None else Some p

-- the place whose offer was begun and neither put off nor broken off
abbrev pub begun_offer : {J : Type 0} → List (LocalAction J) → Option Place
begun_offer [] = None
begun_offer (Did (Offer q) ∷ es) = Some q
begun_offer (Did (Put q bytes) ∷ es) = Some q
begun_offer (Did (Close q) ∷ es) = but q (begun_offer es)
begun_offer (Did (Log line done) ∷ es) = begun_offer es
begun_offer (Did (Dict zone call answer) ∷ es) = begun_offer es
begun_offer (Did (Take key uses) ∷ es) = begun_offer es
begun_offer (Did (Dial host port done) ∷ es) = begun_offer es
begun_offer (Did (Keep k key idle size) ∷ es) = begun_offer es
begun_offer (Did (Timer at answer) ∷ es) = begun_offer es
begun_offer (a ∷ es) = None

-- the place, where something that was sent to it is left
abbrev pub going_on : {J : Type 0} → Behavior J → List (LocalAction J) → Option Place → Option Place
going_on b es None = None
going_on b es (Some q) = if is_some_left (queued b q es) then Some q else None

-- the place whose offer goes on
abbrev pub offering : {J : Type 0} → Behavior J → List (LocalAction J) → Option Place
offering b es = going_on b es (begun_offer es)

-- the newest turn is an offer
abbrev pub in_offers : {J : Type 0} → List (LocalAction J) → Bool
in_offers [] = false
in_offers (Told w ∷ es) = false
in_offers (Did (Offer q) ∷ es) = true
in_offers (Did (Run k) ∷ es) = false
in_offers (Did (Began now start) ∷ es) = false
in_offers (Did (Bytes q bytes) ∷ es) = false
in_offers (Did (Ended q) ∷ es) = false
in_offers (Did (Broken q) ∷ es) = false
in_offers (Did (Ready q) ∷ es) = false
in_offers (Did (Dialled k) ∷ es) = false
in_offers (Did (Refused k) ∷ es) = false
in_offers (Did (Due n) ∷ es) = false
in_offers (Did Halted ∷ es) = false
in_offers (a ∷ es) = in_offers es

-- no deadline is due; deadlines come due at a moment alone
abbrev pub NoneIsDue : {J : Type 0} → Behavior J → List (LocalAction J) → Type 0
NoneIsDue b es = is_waking es ≡ true → due (moment es) (armed b es) ≡ None

-- a living strand has nothing left to do
pub record HasNoWork {J : Type 0} (b : Behavior J) (es : List (LocalAction J)) : Type 0 where
  pub no_act : todo b es ≡ []
  pub no_thread : waiting b es ≡ []
  pub no_place : to_offer b es ≡ []
  pub no_offer : offering b es ≡ None
  pub no_deadline : NoneIsDue b es
  pub no_stop : is_stopping es ≡ false
  pub no_end : is_winding_up es ≡ false

-- a strand at rest has no work while it lives, and nothing open once its life is over
pub record IsQuiescent {J : Type 0} (b : Behavior J) (es : List (LocalAction J)) : Type 0 where
  pub idle : lives es ≡ true → HasNoWork b es
  pub closed : lives es ≡ false → open_places es ≡ []

-- ys begins with xs
abbrev pub IsPrefixOf : {A : Type 0} → List A → List A → Type 0
IsPrefixOf {A} xs ys = (rest : List A) × (xs ++ rest ≡ ys)

-- no turn is under way
pub record IsBetween {J : Type 0} (b : Behavior J) (es : List (LocalAction J)) : Type 0 where
  pub living : lives es ≡ true
  pub no_act : todo b es ≡ []
  pub no_offer : offering b es ≡ None

-- an event may be given at the place
pub record IsGivenAt {J : Type 0} (b : Behavior J) (es : List (LocalAction J)) (q : Place) : Type 0 where
  pub living : lives es ≡ true
  pub idle : HasNoWork b es
  pub opened : is_open q es ≡ true

-- an offer of the place goes on
pub record IsOfferedAt {J : Type 0} (b : Behavior J) (es : List (LocalAction J)) (q : Place) : Type 0 where
  pub living : lives es ≡ true
  pub no_act : todo b es ≡ []
  pub offered : offering b es ≡ Some q

-- a dropped strand's open places are closed in their order
abbrev pub IsFirstOpen : {J : Type 0} → List (LocalAction J) → Place → Type 0
IsFirstOpen es q = (was_dropped es ≡ true) × IsPrefixOf (q ∷ []) (open_places es)

-- no thread and no place of the strand is in a queue
pub record IsOutOfLine {J : Type 0} (b : Behavior J) (es : List (LocalAction J)) : Type 0 where
  pub no_thread : waiting b es ≡ []
  pub no_place : to_offer b es ≡ []

-- the strand is to be ended: by Stop, or as a job that began after Stop and has nothing in a queue
abbrev pub IsToBeEnded : {J : Type 0} → Behavior J → List (LocalAction J) → Type 0
IsToBeEnded b es = (is_stopping es ≡ true) ⊎ ((is_winding_up es ≡ true) × IsOutOfLine b es)

-- the act is the next to be carried out
abbrev pub IsNextAct : {J : Type 0} → Behavior J → List (LocalAction J) → Act J → Type 0
IsNextAct {J} b es a = (rest : List (Act J)) × (todo b es ≡ a ∷ rest)

-- which action may come next
abbrev pub Enabled : {J : Type 0} → Behavior J → List (LocalAction J) → LocalAction J → Type 0
Enabled b es (Told w) = (lives es ≡ true) × HasNoWork b es
Enabled b es (Did (Began now start)) = es ≡ []
Enabled b es (Did (Bytes q bytes)) = IsGivenAt b es q × (has_ended q es ≡ false) × (0 < length bytes)
Enabled b es (Did (Ended q)) = IsGivenAt b es q
Enabled b es (Did (Broken q)) = IsGivenAt b es q
Enabled b es (Did (Ready q)) = IsGivenAt b es q
Enabled b es (Did (Dialled k)) = IsGivenAt b es (place.Sock k)
Enabled b es (Did (Refused k)) = IsGivenAt b es (place.Sock k)
Enabled b es (Did (Put q bytes)) = IsOfferedAt b es q × (0 < length bytes) × IsPrefixOf bytes (piece b q es)
Enabled b es (Did (Later q)) = IsOfferedAt b es q
Enabled b es (Did (Lost q)) = IsOfferedAt b es q
Enabled b es (Did (Close q)) = (IsNextAct b es (act.HangUp q) × (is_open q es ≡ true)) ⊎ IsFirstOpen es q
Enabled b es (Did (Log line done)) = IsNextAct b es (act.Log line)
Enabled b es (Did (Dict zone call answer)) = (todo b es ≡ act.Dict zone call ∷ []) × MayAnswer call answer
Enabled b es (Did (Take key uses)) = todo b es ≡ act.Take key ∷ []
Enabled b es (Did (Dial host port done)) = todo b es ≡ act.Dial host port ∷ []
Enabled b es (Did (Keep k key idle size)) = (todo b es ≡ act.Keep k key idle size ∷ []) × (is_open (place.Sock k) es ≡ true)
Enabled {J} b es (Did (Timer at answer)) = (job : J) × (todo b es ≡ act.Timer at job ∷ [])
Enabled b es (Did Dropped) = (lives es ≡ true) ⊎ (es ≡ [])
Enabled b es (Did (Run k)) =
    IsBetween b es × IsPrefixOf (k ∷ []) (waiting b es) × (in_offers es ≡ true → to_offer b es ≡ [])
    × NoneIsDue b es × (is_stopping es ≡ false)
Enabled b es (Did (Offer q)) =
    IsBetween b es × IsPrefixOf (q ∷ []) (to_offer b es) × (in_offers es ≡ false → waiting b es ≡ [])
    × NoneIsDue b es × (is_stopping es ≡ false)
Enabled b es (Did (Due n)) = IsBetween b es × (is_waking es ≡ true) × ((at : ℕ) × (due (moment es) (armed b es) ≡ Some (n, at)))
Enabled b es (Did Halted) = IsBetween b es × IsToBeEnded b es
Enabled b es (Did Gone) = todo b es ≡ act.Gone ∷ []

-- each action may come where it stands
abbrev pub IsExecution : {J : Type 0} → Behavior J → List (LocalAction J) → Type 0
IsExecution b [] = Unit {0}
IsExecution b (a ∷ es) = IsExecution b es × Enabled b es a

-- nothing that was sent to an open place is held back, unless the place takes none for now
abbrev pub KeepsNothingBack : {J : Type 0} → Behavior J → List (LocalAction J) → Type 0
KeepsNothingBack b es = (q : Place) → is_open q es ≡ true → (queued b q es ≡ []) ⊎ (was_put_off q es ≡ true)
