-- What a turn of a strand does, one move after the other, and how moves are performed: their acts, and the ledger after them.
use Rattle.std.specs.Prelude.{ℕ, Bool, true, not, ◌&&◌, List, [], ◌∷◌, ◌++◌, Option, Some, None, if◌then◌else◌}
use Rattle.resty_base.specs.declared.names.Ms.{Ms}
use Rattle.strand_contract.specs.declared.turns.Place.{Place}
use Rattle.strand_contract.specs.declared.turns.Place.TheVariants as place
use Rattle.strand_contract.specs.declared.turns.Act.{Act}
use Rattle.strand_contract.specs.declared.turns.Act.TheVariants as act
use Rattle.strand_contract.specs.Actions.{same_place}
use Rattle.strand_contract.specs.Alone.{without, without_place, disarmed}
use Rattle.strand_plans.specs.Questions.{Question, asking_if}
use Rattle.strand_plans.specs.Questions as question
use Rattle.strand_plans.specs.Ledgers.{Ledger, has, has_number, wants_offer}

-- the moves of a turn; S is what the strand keeps beside its ledger
pub data Move (J S : Type 0) : Type 0 where
  Done : Move J S
  -- a thread is put into the run queue, where it isn't there yet, or taken out
  Ready : (k : ℕ) (then_ : Move J S) → Move J S
  Unready : (k : ℕ) (then_ : Move J S) → Move J S
  -- bytes are sent to a place, none where it isn't open; an offer is asked for where one is wanted
  Send : (q : Place) (bytes : List ℕ) (then_ : Move J S) → Move J S
  -- a deadline is armed for a moment, or cancelled
  Arm : (n : ℕ) (at : Ms) (then_ : Move J S) → Move J S
  Cancel : (n : ℕ) (then_ : Move J S) → Move J S
  -- a place is hung up, where it is open
  HangUp : (q : Place) (then_ : Move J S) → Move J S
  Log : (line : List ℕ) (then_ : Move J S) → Move J S
  -- what is beside the ledger changes
  Set : (f : S → S) (then_ : Move J S) → Move J S
  -- what comes depends on the ledger and on what is beside it
  Look : (go : Ledger J → S → Move J S) → Move J S
  -- the turn waits for the answer; a socket that isn't open isn't kept
  Ask : (x : Question J) → Move J S
  -- what is open is hung up, in order, and the life is over
  End : Move J S

-- what a strand comes to, and the acts of the turn by which it comes there
pub record State (J S : Type 0) : Type 0 where
  pub ledger : Ledger J
  pub inner : S

pub record Performed (J S : Type 0) : Type 0 where
  pub state : State J S
  pub acts : List (Act J)

-- the list with this at its end, where the test is true
abbrev pub added_if : {A : Type 0} → Bool → A → List A → List A
added_if c x xs = xs ++ (if c then x ∷ [] else [])

-- to an open place bytes are sent
abbrev pub sends : Bool → Place → List ℕ → (Place → List ℕ) → Place → List ℕ
sends c q bytes sent p = if c && same_place p q then sent p ++ bytes else sent p

abbrev pub with_sent : {J : Type 0} → Place → List ℕ → Ledger J → Ledger J
with_sent q bytes b = record b { sent = sends (has q b.opened) q bytes b.sent }

-- and the place is put into the offer queue, where it wants that
abbrev pub with_offer : {J : Type 0} → Place → Ledger J → Ledger J
with_offer q b = record b { places = added_if (wants_offer q b) q b.places }

abbrev pub with_thread : {J : Type 0} → ℕ → Ledger J → Ledger J
with_thread k b = record b { threads = added_if (not (has_number k b.threads)) k b.threads }

abbrev pub without_thread : {J : Type 0} → ℕ → Ledger J → Ledger J
without_thread k b = record b { threads = without k b.threads }

-- armed again, a deadline counts as armed now
abbrev pub with_deadline : {J : Type 0} → ℕ → Ms → Ledger J → Ledger J
with_deadline n at b = record b { armed = disarmed n b.armed ++ (n, at.0) ∷ [] }

abbrev pub without_deadline : {J : Type 0} → ℕ → Ledger J → Ledger J
without_deadline n b = record b { armed = disarmed n b.armed }

abbrev pub hung_up : {J : Type 0} → Place → Ledger J → Ledger J
hung_up q b = record b { opened = without_place q b.opened }

-- only an open socket is kept
abbrev pub asked_of : {J : Type 0} → Question J → Ledger J → Option (Question J)
asked_of (question.Keep k key idle size) b = if has (place.Sock k) b.opened then Some (question.Keep k key idle size) else None
asked_of x b = Some x

abbrev pub ended : {J : Type 0} → Ledger J → Ledger J
ended b = record b { opened = []; ended = true }

-- the acts of an end: what is open is hung up, and then the strand is gone
abbrev pub ending : {J : Type 0} → List Place → List (Act J)
ending [] = act.Gone ∷ []
ending (q ∷ qs) = act.HangUp q ∷ ending qs

-- an act before the others, where the test is true
abbrev pub act_if : {J : Type 0} → Bool → Act J → List (Act J) → List (Act J)
act_if c a acts = if c then a ∷ acts else acts

abbrev pub after_act_if : {J S : Type 0} → Bool → Act J → Performed J S → Performed J S
after_act_if c a r = record { state = r.state; acts = act_if c a r.acts }

abbrev pub after_act : {J S : Type 0} → Act J → Performed J S → Performed J S
after_act a r = record { state = r.state; acts = a ∷ r.acts }

-- moves are performed on a ledger and what is beside it
abbrev pub perform : {J S : Type 0} → Move J S → Ledger J → S → Performed J S
perform Done b s = record { state = record { ledger = b; inner = s }; acts = [] }
perform (Ready k m) b s = after_act_if (not (has_number k b.threads)) (act.Ready k) (perform m (with_thread k b) s)
perform (Unready k m) b s = after_act (act.Unready k) (perform m (without_thread k b) s)
perform (Send q bytes m) b s = let c = with_sent q bytes b in after_act_if (wants_offer q c) (act.Offer q) (perform m (with_offer q c) s)
perform (Arm n at m) b s = after_act (act.Arm n at) (perform m (with_deadline n at b) s)
perform (Cancel n m) b s = after_act (act.Cancel n) (perform m (without_deadline n b) s)
perform (HangUp q m) b s = after_act_if (has q b.opened) (act.HangUp q) (perform m (hung_up q b) s)
perform (Log line m) b s = after_act (act.Log line) (perform m b s)
perform (Set f m) b s = perform m b (f s)
perform (Look go) b s = perform (go b s) b s
perform (Ask x) b s = let asked = asked_of x b in record { state = record { ledger = record b { asked = asked }; inner = s }; acts = asking_if asked }
perform End b s = record { state = record { ledger = ended b; inner = s }; acts = ending b.opened }
