-- What is kept of connections and sockets, as one comes, or changes.
use Rattle.std.proofs.Common.{◌≡◌, ℕ, zero, suc, ◌+◌, ◌-◌, ◌<◌, Bool, true, false, not, eqb, List, [], ◌∷◌, length, slice_get, Option, Some, None, refl, sym, ap, ◌∙◌, true≢false, arith}
use Rattle.std.specs.Bool.{if◌then◌else◌}
use Rattle.std.specs.Prelude.{◌&&◌, ◌||◌, nat_lt, nat_le}
use Rattle.std.proofs.lemmas.Bool.{eqb-true, ltb-true, leb-true, not-false}
use Rattle.resty_base.specs.declared.names.Id.{Id}
use Rattle.resty_base.specs.declared.names.Id.TheVariants as id
use Rattle.resty_base.specs.BoolLaws.{by_test}
use Rattle.resty_world.specs.declared.entry.Entry.{Entry}
use Rattle.resty_world.specs.Given.{names_absent}
use Rattle.resty_world.specs.Ids.{same_id}
use Rattle.resty_world.specs.IdLaws.{same_id-eq}
use Rattle.schedule.specs.declared.peer.Peer.{Peer}
use Rattle.schedule.specs.Counts.{arrived_in, dials_in}
use Rattle.schedule.specs.Knowing.{Knows}
use Rattle.schedule.specs.Peers.{Roll, IsChanged, numbered, peer_at, fresh, opened, closed, ended, unended}
use Rattle.schedule.specs.OpenIds.{has, are_distinct, open_ids, hung_up, has_ended}

-- the number after the last is nobody's
none-after : (peers : List Peer) → slice_get peers (length peers) ≡ None
none-after [] = refl
none-after (p ∷ peers) = none-after peers

nobody-numbered : (peers : List Peer) → numbered peers (length peers + 1) ≡ None
nobody-numbered peers = by_test (eqb (length peers + 1) 0)
    (λ on. rw on refl)
    (λ off. rw off (ap (slice_get peers) (omega arith) ∙ none-after peers))

pub next-connection : (roll : Roll) → peer_at roll (id.Conn (length roll.connections + 1)) ≡ None
next-connection roll = nobody-numbered roll.connections

pub next-socket : (roll : Roll) → peer_at roll (id.Sock (length roll.sockets + 1)) ≡ None
next-socket roll = nobody-numbered roll.sockets

-- what a choice between two has
in-choice : {A B : Type 0} (f : A → B) (b : Bool) (x y : A) → f (if b then x else y) ≡ (if b then f x else f y)
in-choice f true x y = refl
in-choice f false x y = refl

-- a function has its own value at an id
pub own-value : {B : Type 0} (f : Id → B) (i : Id) (v : B) → f i ≡ v → (x : Id) → (if same_id x i then v else f x) ≡ f x
own-value f i v is x = by_test (same_id x i)
    (λ on. rw on (sym is ∙ ap f (sym (same_id-eq x i on))))
    (λ off. rw off refl)

-- a change at one id, seen by a function
pub changed : {B : Type 0} (f : Option Peer → B) (old new : Roll) (i : Id) (q : Option Peer)
    → IsChanged i q old new → (x : Id) → f (peer_at new x) ≡ (if same_id x i then f q else f (peer_at old x))
changed f old new i q at x = ap f (at x) ∙ in-choice f (same_id x i) q (peer_at old x)

-- a change that a function doesn't see
pub unseen : {B : Type 0} (f : Option Peer → B) (old new : Roll) (i : Id) (q : Option Peer)
    → IsChanged i q old new → f (peer_at old i) ≡ f q → (x : Id) → f (peer_at new x) ≡ f (peer_at old x)
unseen f old new i q at same x = changed f old new i q at x ∙ own-value (λ y. f (peer_at old y)) i (f q) same x

-- one more, after an entry that opens it and changes nothing else
pub knows-new : (old new : Roll) (history : List Entry) (e : Entry) (i : Id) → Knows old history → peer_at old i ≡ None
    → IsChanged i (Some fresh) old new
    → length new.connections ≡ arrived_in (e ∷ history) → length new.sockets ≡ dials_in (e ∷ history)
    → open_ids (e ∷ history) ≡ i ∷ open_ids history → ((x : Id) → hung_up (e ∷ history) x ≡ hung_up history x)
    → ((x : Id) → has_ended (e ∷ history) x ≡ has_ended history x) → Knows new (e ∷ history)
knows-new old new history e i known nobody at arrived dialled opens hangs ends = record {
  arrived = arrived;
  dialled = dialled;
  are_open = λ x. changed opened old new i (Some fresh) at x ∙ ap (λ b. if same_id x i then true else b) (known.are_open x) ∙ sym (ap (has same_id x) opens);
  are_closed = λ x. unseen closed old new i (Some fresh) at (ap closed nobody) x ∙ known.are_closed x ∙ sym (hangs x);
  are_ended = λ x off. unseen ended old new i (Some fresh) at (ap ended nobody) x
      ∙ known.are_ended x (sym (unseen closed old new i (Some fresh) at (ap closed nobody) x) ∙ off) ∙ sym (ends x);
  distinct = ap (are_distinct same_id) opens
      ∙ ap (λ b. not b && are_distinct same_id (open_ids history)) (sym (known.are_open i) ∙ ap opened nobody) ∙ known.distinct;
}

-- where an id is closed, of each other that isn't it is known whether it ended
pub ended-elsewhere : (old new : Roll) (history : List Entry) (i : Id) (q : Option Peer) → Knows old history → IsChanged i q old new → closed q ≡ true
    → (x : Id) → closed (peer_at new x) ≡ false → ended (peer_at new x) ≡ has_ended history x
ended-elsewhere old new history i q known at shut x off = by_test (same_id x i)
    (λ on. absurd (true≢false (sym shut ∙ sym (ap closed (at x) ∙ ap (λ b. closed (if b then q else peer_at old x)) on) ∙ off)))
    (λ other. let still : peer_at new x ≡ peer_at old x = at x ∙ ap (λ b. if b then q else peer_at old x) other in ap ended still ∙ known.are_ended x (sym (ap closed still) ∙ off))

-- another one of an id, after an entry
pub knows-changed : (old new : Roll) (history : List Entry) (e : Entry) (i : Id) (q : Peer) → Knows old history
    → IsChanged i (Some q) old new
    → length new.connections ≡ length old.connections → length new.sockets ≡ length old.sockets
    → arrived_in (e ∷ history) ≡ arrived_in history → dials_in (e ∷ history) ≡ dials_in history
    → ((x : Id) → has same_id x (open_ids (e ∷ history)) ≡ (if same_id x i then q.is_open else has same_id x (open_ids history)))
    → ((x : Id) → hung_up (e ∷ history) x ≡ (if same_id x i then not q.is_open else hung_up history x))
    → ((x : Id) → closed (peer_at new x) ≡ false → ended (peer_at new x) ≡ has_ended (e ∷ history) x)
    → are_distinct same_id (open_ids (e ∷ history)) ≡ true
    → Knows new (e ∷ history)
knows-changed old new history e i q known at connections sockets arrives dials opens hangs ends distinct = record {
  arrived = connections ∙ known.arrived ∙ sym arrives;
  dialled = sockets ∙ known.dialled ∙ sym dials;
  are_open = λ x. changed opened old new i (Some q) at x ∙ ap (λ b. if same_id x i then q.is_open else b) (known.are_open x) ∙ sym (opens x);
  are_closed = λ x. changed closed old new i (Some q) at x ∙ ap (λ b. if same_id x i then not q.is_open else b) (known.are_closed x) ∙ sym (hangs x);
  are_ended = ends;
  distinct = distinct;
}

-- another one of an id, whose lines alone changed
pub knows-same : (old new : Roll) (history : List Entry) (i : Id) (p q : Peer) → Knows old history → peer_at old i ≡ Some p
    → IsChanged i (Some q) old new → q.is_open ≡ p.is_open → q.has_ended ≡ p.has_ended
    → length new.connections ≡ length old.connections → length new.sockets ≡ length old.sockets → Knows new history
knows-same old new history i p q known here at open_same ended_same connections sockets = record {
  arrived = connections ∙ known.arrived;
  dialled = sockets ∙ known.dialled;
  are_open = λ x. unseen opened old new i (Some q) at (ap opened here ∙ sym open_same) x ∙ known.are_open x;
  are_closed = λ x. unseen closed old new i (Some q) at (ap closed here ∙ ap not (sym open_same)) x ∙ known.are_closed x;
  are_ended = λ x off. unseen ended old new i (Some q) at (ap ended here ∙ sym ended_same) x
      ∙ known.are_ended x (sym (unseen closed old new i (Some q) at (ap closed here ∙ ap not (sym open_same)) x) ∙ off);
  distinct = known.distinct;
}

-- one that is there and wasn't hung up is open
pub first-off : (b c : Bool) → (b || c) ≡ false → b ≡ false
first-off true c is = absurd (let wrong : true ≡ false = is in cc)
first-off false c is = refl

open-by : (p : Option Peer) → (p ≡ None → ⊥) → closed p ≡ false → opened p ≡ true
open-by None here off = absurd (here refl)
open-by (Some p) here off = not-false p.is_open off

within-some : (peers : List Peer) (i : ℕ) → i < length peers → slice_get peers i ≡ None → ⊥
within-some [] i within none = absurd (omega arith)
within-some (p ∷ peers) zero within none = let wrong : Some p ≡ None = none in cc
within-some (p ∷ peers) (suc i) within none = within-some peers i (omega arith) none

both-on : (b c : Bool) → not (b && c) ≡ false → (b ≡ true) × (c ≡ true)
both-on true true is = (refl, refl)
both-on true false is = absurd (let wrong : true ≡ false = is in cc)
both-on false c is = absurd (let wrong : true ≡ false = is in cc)

there-numbered : (peers : List Peer) (n count : ℕ) → count ≡ length peers → not (nat_lt 0 n && nat_le n count) ≡ false → numbered peers n ≡ None → ⊥
there-numbered peers n count same known none =
    let both = both-on (nat_lt 0 n) (nat_le n count) known in
    let some = ltb-true 0 n both.0 in
    let most = leb-true n count both.1 in
    by_test (eqb n 0) (λ on. let zero_is = eqb-true n 0 on in absurd (omega arith)) (λ off. within-some peers (n - 1) (omega (arith, same)) (rw off at none))

there_at : (roll : Roll) (history : List Entry) (i : Id) → Knows roll history → names_absent (arrived_in history) (dials_in history) (Some i) ≡ false → peer_at roll i ≡ None → ⊥
there_at roll history (id.Conn c) known there none = there-numbered roll.connections c (arrived_in history) (sym known.arrived) there none
there_at roll history (id.Sock n) known there none = there-numbered roll.sockets n (dials_in history) (sym known.dialled) there none

pub open_where_due : (roll : Roll) (history : List Entry) (i : Id) (over : Bool) → Knows roll history
    → names_absent (arrived_in history) (dials_in history) (Some i) ≡ false → (hung_up history i || over) ≡ false → has same_id i (open_ids history) ≡ true
open_where_due roll history i over known there due =
    sym (known.are_open i) ∙ open-by (peer_at roll i) (there_at roll history i known there) (known.are_closed i ∙ first-off (hung_up history i) over due)

-- an id of which no end is known any more, where it is closed
unended-closed : (p : Option Peer) → closed (unended p) ≡ closed p
unended-closed None = refl
unended-closed (Some p) = refl

unended-opened : (p : Option Peer) → opened (unended p) ≡ opened p
unended-opened None = refl
unended-opened (Some p) = refl

shut-or-nobody : {C : Type 0} (p : Option Peer) → opened p ≡ false → (closed p ≡ true → C) → (p ≡ None → C) → C
shut-or-nobody None off shut nobody = nobody refl
shut-or-nobody (Some p) off shut nobody = shut (ap not off)

unended-elsewhere : (old new : Roll) (history : List Entry) (i : Id) → Knows old history → IsChanged i (unended (peer_at old i)) old new → opened (peer_at old i) ≡ false
    → (x : Id) → closed (peer_at new x) ≡ false → ended (peer_at new x) ≡ has_ended history x
unended-elsewhere old new history i known at off = shut-or-nobody (peer_at old i) off
    (λ shut. ended-elsewhere old new history i (unended (peer_at old i)) known at (unended-closed (peer_at old i) ∙ shut))
    (λ nobody x stays. unseen ended old new i (unended (peer_at old i)) at (rw nobody refl) x
    ∙ known.are_ended x (sym (unseen closed old new i (unended (peer_at old i)) at (rw nobody refl) x) ∙ stays))

pub knows-unended : (old new : Roll) (history : List Entry) (i : Id) → Knows old history → IsChanged i (unended (peer_at old i)) old new
    → opened (peer_at old i) ≡ false → length new.connections ≡ length old.connections → length new.sockets ≡ length old.sockets → Knows new history
knows-unended old new history i known at off connections sockets = record {
  arrived = connections ∙ known.arrived;
  dialled = sockets ∙ known.dialled;
  are_open = λ x. unseen opened old new i (unended (peer_at old i)) at (sym (unended-opened (peer_at old i))) x ∙ known.are_open x;
  are_closed = λ x. unseen closed old new i (unended (peer_at old i)) at (sym (unended-closed (peer_at old i))) x ∙ known.are_closed x;
  are_ended = unended-elsewhere old new history i known at off;
  distinct = known.distinct;
}

-- an id that is due ended after an event of its end
pub ended-after : (old new : Roll) (history : List Entry) (e : Entry) (i : Id) (p q : Peer) → Knows old history → peer_at old i ≡ Some p → IsChanged i (Some q) old new
    → q.is_open ≡ p.is_open → ((x : Id) → has_ended (e ∷ history) x ≡ (if same_id x i then q.has_ended else has_ended history x))
    → (x : Id) → closed (peer_at new x) ≡ false → ended (peer_at new x) ≡ has_ended (e ∷ history) x
ended-after old new history e i p q known here at open_same ends x off =
    changed ended old new i (Some q) at x
    ∙ ap (λ b. if same_id x i then q.has_ended else b)
    (known.are_ended x (sym (unseen closed old new i (Some q) at (ap closed here ∙ ap not (sym open_same)) x) ∙ off)) ∙ sym (ends x)
