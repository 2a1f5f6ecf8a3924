-- The ledger of a strand: what the outside can know of it, as of when the acts of its turn are carried out; and what an action enters in it by itself.
use Rattle.std.specs.Prelude.{ℕ, ◌+◌, Bool, true, false, not, ◌&&◌, ◌||◌, ◌==◌, List, [], ◌∷◌, ◌++◌, drop, length, Option, Some, None, if◌then◌else◌}
use Rattle.strand_contract.specs.declared.turns.Place.{Place}
use Rattle.strand_contract.specs.declared.turns.Place.TheVariants as place
use Rattle.strand_contract.specs.declared.turns.Start.TheVariants as start
use Rattle.strand_contract.specs.Actions.{LocalAction, Did, same_place, Began, Ready, Put, Later, Lost, Close, Log, Dict, Take, Dial, Keep, Timer, Offer}
use Rattle.strand_contract.specs.Alone.{run_by, offered_by, taken_by, but, is_some_left, without_place}
use Rattle.strand_contract.specs.Laws.{is_still}
use Rattle.strand_plans.specs.Questions.{Question}

pub record Ledger (J : Type 0) : Type 0 where
  -- the run queue, the armed deadlines with their moments, the offer queue
  pub threads : List ℕ
  pub armed : List (ℕ × ℕ)
  pub places : List Place
  -- the place whose offer was begun
  pub begun : Option Place
  -- of a place: whether it takes none for now, how many bytes it took, and all that were sent to it
  pub put_off : Place → Bool
  pub taken : Place → ℕ
  pub sent : Place → List ℕ
  -- the open places in order, and how many sockets there were
  pub opened : List Place
  pub count : ℕ
  -- the question that waits for its answer, and whether the life was ended
  pub asked : Option (Question J)
  pub ended : Bool

-- of a strand that hasn't begun
abbrev pub empty_ledger : {J : Type 0} → Ledger J
empty_ledger = record {
  threads = [];
  armed = [];
  places = [];
  begun = None;
  put_off = λ q. false;
  taken = λ q. 0;
  sent = λ q. [];
  opened = [];
  count = 0;
  asked = None;
  ended = false;
}

-- the number, the place is among these
abbrev pub has_number : ℕ → List ℕ → Bool
has_number k [] = false
has_number k (j ∷ js) = (k == j) || has_number k js

abbrev pub has : Place → List Place → Bool
has q [] = false
has q (p ∷ ps) = same_place q p || has q ps

-- the numbers of deadlines
abbrev pub numbers : List (ℕ × ℕ) → List ℕ
numbers [] = []
numbers (d ∷ ds) = d.0 ∷ numbers ds

-- it is this place
abbrev pub is_place : Place → Option Place → Bool
is_place q None = false
is_place q (Some p) = same_place q p

-- what of a place is left to be taken
abbrev pub left_at : {J : Type 0} → Place → Ledger J → List ℕ
left_at q b = drop (b.taken q) (b.sent q)

-- an offer of the place is queued or begun
abbrev pub has_offer : {J : Type 0} → Place → Ledger J → Bool
has_offer q b = has q b.places || is_place q b.begun

-- something is left of the open place, which takes bytes, and no offer of it is queued or begun
abbrev pub wants_offer : {J : Type 0} → Place → Ledger J → Bool
wants_offer q b = has q b.opened && is_some_left (left_at q b) && not (b.put_off q || has_offer q b)

-- what an action does to the offer that was begun: another turn ends it, and so does the closing of its place
abbrev pub begun_by : {J : Type 0} → LocalAction J → Option Place → Option Place
begun_by (Did (Offer q)) o = Some q
begun_by (Did (Put q bytes)) o = Some q
begun_by (Did (Close q)) o = but q o
begun_by (Did (Log line done)) o = o
begun_by (Did (Dict zone call answer)) o = o
begun_by (Did (Take key uses)) o = o
begun_by (Did (Dial host port done)) o = o
begun_by (Did (Keep k key idle size)) o = o
begun_by (Did (Timer at answer)) o = o
begun_by a o = None

-- a place is put off until it takes bytes, is lost or is ready again
abbrev pub put_off_by : {J : Type 0} → LocalAction J → (Place → Bool) → Place → Bool
put_off_by (Did (Put p bytes)) off q = if same_place q p then false else off q
put_off_by (Did (Later p)) off q = if same_place q p then true else off q
put_off_by (Did (Lost p)) off q = if same_place q p then false else off q
put_off_by (Did (Ready p)) off q = if same_place q p then false else off q
put_off_by a off q = off q

abbrev pub took_by : {J : Type 0} → LocalAction J → (Place → ℕ) → Place → ℕ
took_by (Did (Put p bytes)) taken q = if same_place q p then taken q + length bytes else taken q
took_by a taken q = taken q

-- a client's connection opens as it begins, the socket of the number n as it is dialled or taken; a kept one isn't the strand's any more
abbrev pub opened_by : {J : Type 0} → LocalAction J → ℕ → List Place → List Place
opened_by (Did (Began now (start.Client c))) n ps = place.Client ∷ []
opened_by (Did (Dial host port true)) n ps = ps ++ place.Sock n ∷ []
opened_by (Did (Take key (Some uses))) n ps = ps ++ place.Sock n ∷ []
opened_by (Did (Keep k key idle size)) n ps = without_place (place.Sock k) ps
opened_by a n ps = ps

abbrev pub count_by : {J : Type 0} → LocalAction J → ℕ → ℕ
count_by (Did (Dial host port true)) n = n + 1
count_by (Did (Take key (Some uses))) n = n + 1
count_by a n = n

-- the ledger as the turn of the action begins
abbrev pub entered : {J : Type 0} → LocalAction J → Ledger J → Ledger J
entered a b = record {
  threads = run_by a b.threads;
  armed = taken_by a b.armed;
  places = offered_by a b.places;
  begun = begun_by a b.begun;
  put_off = put_off_by a b.put_off;
  taken = took_by a b.taken;
  sent = b.sent;
  opened = opened_by a b.count b.opened;
  count = count_by a b.count;
  asked = if is_still a then b.asked else None;
  ended = b.ended;
}
