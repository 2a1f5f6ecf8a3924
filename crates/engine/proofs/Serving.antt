-- What a world reports between two events, and at the end.
use Rattle.std.proofs.Common.{◌≡◌, ◌⊎◌, ℕ, ◌+◌, ◌<◌, ◌≤◌, Bool, true, false, List, [], ◌∷◌, length, Option, Some, None, IfSome, if◌then◌else◌, refl, sym, ap, subst, ◌∙◌, inl, inr, arith}
use Rattle.std.specs.Option.{option_map}
use Rattle.resty_base.specs.Counting.{RoseWhere}
use Rattle.resty_base.specs.declared.names.Id.{Id}
use Rattle.resty_base.specs.declared.names.Id.TheVariants as id
use Rattle.resty_base.specs.declared.names.StrandId.{StrandId}
use Rattle.resty_world.specs.declared.entry.Entry.{Entry}
use Rattle.resty_world.specs.declared.entry.Entry.TheVariants as entry
use Rattle.resty_world.specs.declared.event.Event.{Event}
use Rattle.resty_world.specs.declared.event.Event.TheVariants as event
use Rattle.resty_world.specs.Book.{Book, told}
use Rattle.resty_world.specs.Given.{is_event, is_fault, arrives, arrives_strand, ends, IsCaused, Gave}
use Rattle.strand_contract.specs.Behaviors.{Behavior, Meaning}
use Rattle.strand_contract.specs.Laws.{Keeps}
use Rattle.executions.specs.Histories.{external, offered_lengths}
use Rattle.engine.specs.declared.engine.Engine.{Engine}
use Rattle.engine.specs.Stepping.{is_stop}
use Rattle.engine.specs.Engine.{Rests}
use Rattle.engine_base.specs.Right.{IsRight, Tells}
use Rattle.engine.specs.Endings.{events_of, to_event, has_failed_log, HasAtMost, IsStopped, HasNoStop, IsSpent, HasFailedLog, HasNoFailedLog, WorldFailed, LogFailed}
use Rattle.engine_base.proofs.Lists.{tells-same, told-nothing}
use Rattle.engine_base.proofs.Events.{rests-right}

pub right-same : {J : Type 0} (b : Behavior J) (old new : Book) → IsRight b old → new.history ≡ old.history → new.offered ≡ old.offered → ((s : StrandId) → new.strand_aside s ≡ old.strand_aside s) → ((x : Id) → new.has_ended x ≡ old.has_ended x) → IsRight b new
right-same b old new r history offers asides ended = record {
  execution = r.execution;
  history = tells-same old.history new.history (external b r.execution) r.history history;
  offered = tells-same old.offered new.offered (offered_lengths b r.execution) r.offered offers;
  lawful = r.lawful;
  kept = r.kept;
  plain = r.plain;
  ordered = r.ordered;
  served = r.served;
  aside = λ s. asides s ∙ r.aside s;
  forgotten = λ c off. ended (id.Conn c) ∙ r.forgotten c off;
}

pub engine-right : {J S : Type 0} (m : Meaning S J) (e : Engine S) (book : Book) → Keeps m.behavior → Rests m e book → IsRight m.behavior book
engine-right m e book keeps r = rests-right m.behavior m.stands r.0 _ book r.1 r.2.0 r.2.1 r.2.3 keeps

-- what is no event isn't an arrival
not-arrived : (e : Event) (s : StrandId) → is_event e ≡ false → arrives_strand e s ≡ false
not-arrived (event.Arrive c) s h = absurd (let w : true ≡ false = h in cc)
not-arrived e s h = refl

not-ended : (e : Event) (x : Id) → is_event e ≡ false → (ended : Bool) → (if arrives e x then false else if ends e x then true else ended) ≡ ended
not-ended event.Fault x h ended = refl
not-ended (event.BadLine n) x h ended = refl
not-ended event.Memory x h ended = refl
not-ended e x h ended = absurd (let w : true ≡ false = h in cc)

-- what wasn't given isn't told
pub right-still : {J S : Type 0} (m : Meaning S J) (e : Engine S) (old new : Book) (given : Event) → Keeps m.behavior → Rests m e old → Gave old new given → is_event given ≡ false → IsRight m.behavior new
right-still m e old new given keeps r gave none =
    right-same m.behavior old new (engine-right m e old keeps r)
    (gave.history ∙ ap (λ v. told (if v then entry.Given given ∷ [] else []) old.history) none ∙ told-nothing old.history) gave.offered (λ s. gave.strand_aside s ∙ ap (λ v. if v then true else old.strand_aside s) (not-arrived given s none)) (λ x. gave.has_ended x ∙ not-ended given x none (old.has_ended x))

pub stop-only : (e : Event) → is_stop e ≡ true → e ≡ event.Stop
stop-only event.Stop h = refl
stop-only e h = absurd (let w : false ≡ true = h in cc)

pub no-stop-more : (e : Event) (es : List Event) → is_stop e ≡ false → HasNoStop es → HasNoStop (e ∷ es)
no-stop-more event.Stop es h none = absurd (let w : true ≡ false = h in cc)
no-stop-more e es h none = none

pub event-or : (e : Event) → (e ≡ event.Fault → ⊥) → ((n : ℕ) → e ≡ event.BadLine n → ⊥) → (e ≡ event.Memory → ⊥) → (is_event e ≡ true) × (is_fault e ≡ false)
event-or event.Fault f l m = absurd (f refl)
event-or (event.BadLine n) f l m = absurd (l n refl)
event-or event.Memory f l m = absurd (m refl)
event-or e f l m = (refl, refl)

-- what follows where something is reported
wider-some : {X : Type 0} (o : Option X) (P Q : X → Type 0) → ((x : X) → P x → Q x) → IfSome o P → IfSome o Q
wider-some None P Q wider p = tt
wider-some (Some x) P Q wider p = wider x p

both-some : {X : Type 0} (o : Option X) (P Q R : X → Type 0) → ((x : X) → P x → Q x → R x) → IfSome o P → IfSome o Q → IfSome o R
both-some None P Q R wider p q = tt
both-some (Some x) P Q R wider p q = wider x p q

some-list : {A : Type 0} (x y : A) → Some x ≡ Some y → x ≡ y
some-list x y e = cc

none-some : {A : Type 0} (x : A) → Some x ≡ None → ⊥
none-some x e = cc

-- the events up to the newest are all of them
events-to : (h : List Entry) → events_of (to_event h) ≡ events_of h
events-to [] = refl
events-to (entry.Given e ∷ h) = refl
events-to (entry.Put i bytes ∷ h) = events-to h
events-to (entry.Later i ∷ h) = events-to h
events-to (entry.Lost i ∷ h) = events-to h
events-to (entry.Close i ∷ h) = events-to h
events-to (entry.Dial who host port n ∷ h) = events-to h
events-to (entry.Log who line written ∷ h) = events-to h
events-to (entry.Dict who zone call answer ∷ h) = events-to h
events-to (entry.Take who key got ∷ h) = events-to h
events-to (entry.Keep who k key idle size closed ∷ h) = events-to h
events-to (entry.Timer who due answer ∷ h) = events-to h
events-to (entry.Start n ∷ h) = events-to h
events-to (entry.Turned c ∷ h) = events-to h
events-to (entry.Dropped who ∷ h) = events-to h

-- an event was given, and the work of it was done
module _ (e : Event) (old given later : Option (List Entry)) (gave : given ≡ told (entry.Given e ∷ []) old) (kept : option_map to_event later ≡ option_map to_event given) where
  -- what holds after it, where a history is reported
  after : (P Q : List Entry → Type 0) → ((was now : List Entry) → to_event now ≡ entry.Given e ∷ was → P was → Q now) → IfSome old P → IfSome later Q
  after P Q each = by old later (kept ∙ ap (option_map to_event) gave)
    where
      by : (o l : Option (List Entry)) → option_map to_event l ≡ option_map to_event (told (entry.Given e ∷ []) o) → IfSome o P → IfSome l Q
      by o None same was = tt
      by None (Some now) same was = absurd (none-some (to_event now) same)
      by (Some before) (Some now) same was = each before now (some-list (to_event now) (entry.Given e ∷ before) same) was

  more : (was now : List Entry) → to_event now ≡ entry.Given e ∷ was → events_of now ≡ e ∷ events_of was
  more was now same = sym (events-to now) ∙ ap events_of same

  pub stopped : e ≡ event.Stop → (n : ℕ) → IfSome old (IsSpent n) → IfSome later IsStopped
  stopped stop n = after (IsSpent n) IsStopped (λ was now same spent. (events_of was, more was now same ∙ ap (λ (x : Event). x ∷ events_of was) stop))

  pub spent : is_stop e ≡ false → (n : ℕ) → IfSome old (IsSpent n) → IfSome later (IsSpent (n + 1))
  spent other n = after (IsSpent n) (IsSpent (n + 1)) (λ was now same spent.
      let count = spent.count in
      record {
        count = ap length (more was now same) ∙ omega (arith, count);
        no_stop = subst HasNoStop (sym (more was now same)) (no-stop-more e (events_of was) other spent.no_stop);
      })

  pub few : (n events : ℕ) → n < events → IfSome old (IsSpent n) → IfSome later (HasAtMost events)
  few n events less = after (IsSpent n) (HasAtMost events) (λ was now same spent.
      let count = spent.count in
      let longer : length (events_of now) ≡ length (events_of was) + 1 = ap length (more was now same) ∙ omega arith in
      let all : length (events_of now) ≤ events = omega (arith, count, longer, less) in
      all)

  -- each log line was written before it
  before : IfSome old HasNoFailedLog → IfSome later (λ h. HasNoFailedLog (to_event h))
  before = after HasNoFailedLog (λ h. HasNoFailedLog (to_event h)) (λ was now same none. ap has_failed_log same ∙ none)

  pub written : option_map has_failed_log later ≡ option_map has_failed_log given → IfSome old HasNoFailedLog → IfSome later HasNoFailedLog
  written same = by old later (same ∙ ap (option_map has_failed_log) gave)
    where
      by : (o l : Option (List Entry)) → option_map has_failed_log l ≡ option_map has_failed_log (told (entry.Given e ∷ []) o) → IfSome o HasNoFailedLog → IfSome l HasNoFailedLog
      by o None kept none = tt
      by None (Some now) kept none = absurd (none-some (has_failed_log now) kept)
      by (Some was) (Some now) kept none = some-list (has_failed_log now) (has_failed_log was) kept ∙ none

  pub unlogged : (book : Book) → IfSome old HasNoFailedLog → IfSome later HasFailedLog → IfSome later (λ h. WorldFailed book h ⊎ LogFailed h)
  unlogged book none failed = both-some later HasFailedLog _ _ (λ h f b. inr (record { failed = f; before = b })) failed (before none)

-- nothing was given
module _ (old new : Book) (e : Event) (gave : Gave old new e) (none : is_event e ≡ false) where
  still : (P Q : List Entry → Type 0) → ((h : List Entry) → P h → Q h) → IfSome old.history P → IfSome new.history Q
  still P Q wider was =
      rw (gave.history ∙ ap (λ v. told (if v then entry.Given e ∷ [] else []) old.history) none ∙ told-nothing old.history) (wider-some old.history P Q wider was)

  pub still-written : IfSome old.history HasNoFailedLog → IfSome new.history HasNoFailedLog
  still-written = still HasNoFailedLog HasNoFailedLog (λ h l. l)

  pub still-few : (n events : ℕ) → n ≤ events → IfSome old.history (IsSpent n) → IfSome new.history (HasAtMost events)
  still-few n events less = still (IsSpent n) (HasAtMost events) (λ h spent. let count = spent.count in let all : length (events_of h) ≤ events = omega (arith, count, less) in all)

  pub world-failed : IsCaused new event.Fault → (n : ℕ) → IfSome old.history (IsSpent n) → IfSome old.history HasNoFailedLog → IfSome new.history (λ h. WorldFailed new h ⊎ LogFailed h)
  world-failed caused n spent logs =
      both-some new.history (λ h. HasNoStop (events_of h)) HasNoFailedLog _ (λ h s l. inl (record { fault = caused; no_stop = s; logs = l })) (still (IsSpent n) _ (λ h s. s.no_stop) spent) (still-written logs)

-- nothing is told of a fresh world
pub fresh-spent : (history : Option (List Entry)) → Tells history [] → IfSome history (IsSpent 0)
fresh-spent None told_nothing = tt
fresh-spent (Some h) is = rw is (record { count = refl; no_stop = tt })

pub fresh-written : (history : Option (List Entry)) → Tells history [] → IfSome history HasNoFailedLog
fresh-written None told_nothing = tt
fresh-written (Some h) is = rw is refl

pub spent-few : (n events : ℕ) → n ≤ events → (history : Option (List Entry)) → IfSome history (IsSpent n) → IfSome history (HasAtMost events)
spent-few n events less history = wider-some history (IsSpent n) (HasAtMost events) (λ h spent. let count = spent.count in let all : length (events_of h) ≤ events = omega (arith, count, less) in all)

pub fault-free : (e : Event) (before now : ℕ) → is_fault e ≡ false → RoseWhere (is_fault e) before now → now ≡ before
fault-free e before now none r = let s : RoseWhere false before now = rw none at r in s
