-- A run of connections has a history of entries that are within their ranges.
use Rattle.std.proofs.Common.{◌≡◌, ◌⊎◌, ℕ, Bool, true, false, not, ◌&&◌, inl, inr, List, [], ◌∷◌, ◌++◌, All, Option, Some, None, if◌then◌else◌, refl, sym, ap, subst, ◌∙◌}
use Rattle.std.proofs.lemmas.List.Elements.{All-append, All-cons, All-nil}
use Rattle.resty_base.specs.declared.names.Id.TheVariants as id
use Rattle.resty_base.specs.declared.names.StrandId.{StrandId}
use Rattle.resty_base.specs.declared.names.StrandId.TheVariants as strand
use Rattle.resty_base.specs.BoolLaws.{by_test}
use Rattle.resty_world.specs.Ids.{same_strand}
use Rattle.resty_world.specs.declared.event.Event.TheVariants as event
use Rattle.resty_world.specs.declared.entry.Entry.{Entry}
use Rattle.resty_world.specs.declared.entry.Entry.TheVariants as entry
use Rattle.resty_world.specs.declared.schedule_line.SchedLine.{SchedLine}
use Rattle.resty_world.specs.IdLaws.{same_strand-eq, same_strand-self as strand-true}
use Rattle.commands.proofs.Story.{AreRanged, AreToldEntries, entries-told}
use Rattle.schedule_text.specs.Accepted.{IsHistory}
use Rattle.schedule_text.specs.Ranges.{IsEntry, IsId, IsOrdinal, IsStrand}
use Rattle.schedule.specs.Told.{IsTold}
use Rattle.strand_contract.specs.declared.turns.Place.{Place}
use Rattle.strand_contract.specs.declared.turns.Place.TheVariants as place
use Rattle.strand_contract.specs.declared.turns.Start.TheVariants as start
use Rattle.strand_contract.specs.declared.turns.Act.{Act}
use Rattle.strand_contract.specs.Actions.{Moment, Stop, Action, same_place, Began, Bytes, Ended, Broken, Ready, Dialled, Refused, Put, Later, Lost, Close, Log, Dict, Take, Dial, Keep, Timer, Dropped, Run, Offer, Due, Halted, Gone, LocalAction, Told, Did}
use Rattle.strand_contract.specs.Behaviors.{Behavior}
use Rattle.strand_contract.specs.Alone.{lives, is_open, is_some_left, queued, going_on, begun_offer, offering, todo, Enabled, IsExecution, IsOfferedAt}
use Rattle.executions.specs.Executions.{GlobalAction, Of, Everyone, TurnedAway, IdleGave, IdleClosed, projection, Throughout}
use Rattle.executions.specs.Sockets.{id_at}
use Rattle.executions.specs.Histories.{entries_at, entries_of, external}
use Rattle.executions.specs.Ordered.{MayDropLiving, IsOrdered}
use Rattle.executions.specs.Lawful.{BeginsRight, IsStartOf}
use Rattle.engine_base.specs.Right.{IsServed, is_served}
use Rattle.strand_contract.specs.OpenPlaceLaws.{first-open}
use Rattle.strand_contract.specs.ClientOnlyLaws.{clash}

older : (xs ys : List Entry) → AreToldEntries (xs ++ ys) → AreToldEntries ys
older [] ys all = all
older (x ∷ xs) ys all = older xs ys all.1

-- the strand is a connection whose number a line can name
abbrev IsNumbered : StrandId → Type 0
IsNumbered (strand.Conn c) = IsOrdinal c
IsNumbered (strand.Job n) = ⊥

-- what is used of an execution, which holds of each earlier part of it too
record Fine {J : Type 0} (b : Behavior J) (ms : List (GlobalAction J)) : Type 0 where
  alone : (s : StrandId) → IsExecution b (projection s ms)
  begins : Throughout (BeginsRight b) ms
  ordered : IsOrdered b ms
  served : Throughout IsServed ms
  told : AreToldEntries (external b ms)

unlike : {C : Type 0} → false ≡ true → C
unlike e = absurd (let no : false ≡ true = e in cc)

no-act : {J : Type 0} {C : Type 0} (a : Act J) (rest : List (Act J)) → [] ≡ a ∷ rest → C
no-act a rest e = absurd (let no : [] ≡ a ∷ rest = e in cc)

one : (e : Entry) → IsEntry e → All IsEntry (e ∷ [])
one e fit = All-cons IsEntry e [] fit (All-nil IsEntry)

begun-numbered : {J : Type 0} (b : Behavior J) (s : StrandId) (c : ℕ) (ms : List (GlobalAction J)) → IsStartOf b s (start.Client c) ms → IsOrdinal c → IsNumbered s
begun-numbered b (strand.Conn k) c ms same small = subst IsOrdinal (sym same) small
begun-numbered b (strand.Job k) c ms same small = absurd same

opened-queue : (c : Bool) (bytes : List ℕ) → is_some_left (if c then bytes else []) ≡ true → c ≡ true
opened-queue true bytes some = refl
opened-queue false bytes some = unlike some

strand-known : (s : StrandId) → IsNumbered s → IsStrand s
strand-known (strand.Conn c) known = known
strand-known (strand.Job n) known = absurd known

closed-stays : (b c : Bool) → c ≡ false → (if b then false else c) ≡ false
closed-stays true c off = refl
closed-stays false c off = off

and-not : (c rest : Bool) → rest ≡ false → not c && rest ≡ false
and-not true rest off = refl
and-not false rest off = off

module _ {J : Type 0} where
  tail-execution : (b : Behavior J) (c : Bool) (a : LocalAction J) (es : List (LocalAction J)) → IsExecution b (if c then a ∷ es else es) → IsExecution b es
  tail-execution b true a es f = f.0
  tail-execution b false a es f = f

  head-enabled : (b : Behavior J) (c : Bool) (a : LocalAction J) (es : List (LocalAction J)) → c ≡ true → IsExecution b (if c then a ∷ es else es) → Enabled b es a
  head-enabled b true a es on f = f.1
  head-enabled b false a es on f = unlike on

  pub alone-tail : (b : Behavior J) (m : GlobalAction J) (ms : List (GlobalAction J)) (s : StrandId) → IsExecution b (projection s (m ∷ ms)) → IsExecution b (projection s ms)
  alone-tail b (Of t x n) ms s f = tail-execution b (same_strand s t) (Did x) (projection s ms) f
  alone-tail b (Everyone w) ms s f = tail-execution b (lives (projection s ms)) (Told w) (projection s ms) f
  alone-tail b m ms s f = f

  -- a strand to which nothing happened isn't dropped
  never-dropped : {C : Type 0} (b : Behavior J) (s : StrandId) (n : Option ℕ) (ms : List (GlobalAction J)) → Fine b (Of s Dropped n ∷ ms) → projection s ms ≡ [] → C
  never-dropped b (strand.Conn c) n ms f none = absurd (subst (λ (es : List (LocalAction J)). MayDropLiving (lives es) b (strand.Conn c) ms) none f.ordered.1)
  never-dropped b (strand.Job j) n ms f none = absurd f.served.1

  fine-tail : (b : Behavior J) (m : GlobalAction J) (ms : List (GlobalAction J)) → Fine b (m ∷ ms) → Fine b ms
  fine-tail b m ms f = record {
    alone = λ s. alone-tail b m ms s (f.alone s);
    begins = f.begins.0;
    ordered = f.ordered.0;
    served = f.served.0;
    told = older (entries_of b m ms) (external b ms) f.told;
  }

  -- the engine's strands are connections, which do no more than it serves
  no-job : {C : Type 0} (s : StrandId) (now k : ℕ) (premature : Bool) (job : J) (n : Option ℕ) (ms : List (GlobalAction J)) → IsServed (Of s (Began now (start.Job k premature job)) n) ms → C
  no-job (strand.Conn c) now k premature job n ms served = unlike served
  no-job (strand.Job j) now k premature job n ms served = absurd served

  not-served : {C : Type 0} (s : StrandId) (x : Action J) (n : Option ℕ) (ms : List (GlobalAction J)) → IsServed (Of s x n) ms → is_served x ≡ false → C
  not-served (strand.Conn c) x n ms served off = unlike (sym off ∙ served)
  not-served (strand.Job j) x n ms served off = absurd served

  -- the first action of a strand is its beginning, which is an arrival
  first-numbered : (b : Behavior J) (s : StrandId) (x : Action J) (n : Option ℕ) (ms : List (GlobalAction J)) → Fine b (Of s x n ∷ ms) → projection s ms ≡ [] → Enabled b [] (Did x) → IsNumbered s
  first-numbered b s Dropped n ms f none e = never-dropped b s n ms f none
  first-numbered b s (Began now (start.Client c)) n ms f none e = begun-numbered b s c ms f.begins.1.0 f.told.0
  first-numbered b s (Began now (start.Job k premature job)) n ms f none e = no-job s now k premature job n ms f.served.1
  first-numbered b s (Bytes q bytes) n ms f none e = unlike e.0.living
  first-numbered b s (Ended q) n ms f none e = unlike e.living
  first-numbered b s (Broken q) n ms f none e = unlike e.living
  first-numbered b s (Ready q) n ms f none e = unlike e.living
  first-numbered b s (Dialled k) n ms f none e = unlike e.living
  first-numbered b s (Refused k) n ms f none e = unlike e.living
  first-numbered b s (Put q bytes) n ms f none e = unlike e.0.living
  first-numbered b s (Later q) n ms f none e = unlike e.living
  first-numbered b s (Lost q) n ms f none e = unlike e.living
  first-numbered b s (Close q) n ms f none e = elim e [
    | inl next ↦ unlike next.1
    | inr first ↦ unlike first.0
  ]
  first-numbered b s (Log text done) n ms f none e = no-act _ e.0 e.1
  first-numbered b s (Dict zone call answer) n ms f none e = not-served s (Dict zone call answer) n ms f.served.1 refl
  first-numbered b s (Take key uses) n ms f none e = not-served s (Take key uses) n ms f.served.1 refl
  first-numbered b s (Dial host port done) n ms f none e = not-served s (Dial host port done) n ms f.served.1 refl
  first-numbered b s (Keep k key idle size) n ms f none e = not-served s (Keep k key idle size) n ms f.served.1 refl
  first-numbered b s (Timer at answer) n ms f none e = not-served s (Timer at answer) n ms f.served.1 refl
  first-numbered b s (Run k) n ms f none e = unlike e.0.living
  first-numbered b s (Offer q) n ms f none e = unlike e.0.living
  first-numbered b s (Due k) n ms f none e = unlike e.0.living
  first-numbered b s Halted n ms f none e = unlike e.0.living
  first-numbered b s Gone n ms f none e = no-act _ [] e

  -- a strand to which something happened is numbered
  numbered : (b : Behavior J) (s : StrandId) (ms : List (GlobalAction J)) → Fine b ms → (projection s ms ≡ []) ⊎ IsNumbered s
  numbered b s [] f = inl refl
  numbered b s (Of t x n ∷ ms) f = elim (numbered b s ms (fine-tail b (Of t x n) ms f)) [
    | inr known ↦ inr known
    | inl none ↦ by_test (same_strand s t)
        (λ same. inr (subst IsNumbered (sym (same_strand-eq s t same))
        (first-numbered b t x n ms f (subst (λ (u : StrandId). projection u ms ≡ []) (same_strand-eq s t same) none) (subst (λ es. Enabled b es (Did x)) none
        (head-enabled b (same_strand s t) (Did x) (projection s ms) same (f.alone s))))))
        (λ other. inl (ap (λ c. if c then Did x ∷ projection s ms else projection s ms) other ∙ none))
  ]
  numbered b s (Everyone w ∷ ms) f = elim (numbered b s ms (fine-tail b (Everyone w) ms f)) [
    | inr known ↦ inr known
    | inl none ↦ inl (ap (λ es. if lives es then Told w ∷ es else es) none)
  ]
  numbered b s (TurnedAway c ∷ ms) f = numbered b s ms (fine-tail b (TurnedAway c) ms f)
  numbered b s (IdleGave e ∷ ms) f = numbered b s ms (fine-tail b (IdleGave e) ms f)
  numbered b s (IdleClosed n ∷ ms) f = numbered b s ms (fine-tail b (IdleClosed n) ms f)

  living-numbered : (b : Behavior J) (s : StrandId) (ms : List (GlobalAction J)) → Fine b ms → lives (projection s ms) ≡ true → IsNumbered s
  living-numbered b s ms f alive = elim (numbered b s ms f) [
    | inl none ↦ clash (lives (projection s ms)) alive (ap lives none)
    | inr known ↦ known
  ]

  open-numbered : (b : Behavior J) (s : StrandId) (q : Place) (ms : List (GlobalAction J)) → Fine b ms → is_open q (projection s ms) ≡ true → IsNumbered s
  open-numbered b s q ms f opened = elim (numbered b s ms f) [
    | inl none ↦ clash (is_open q (projection s ms)) opened (ap (is_open q) none)
    | inr known ↦ known
  ]

  -- such a strand has no sockets: the places that are open are its client's
  no-socket-by : (t : StrandId) (x : Action J) (n : Option ℕ) (ms : List (GlobalAction J)) (k : ℕ) (es : List (LocalAction J)) → IsServed (Of t x n) ms
      → is_open (place.Sock k) es ≡ false → is_open (place.Sock k) (Did x ∷ es) ≡ false
  no-socket-by t (Began now (start.Client c)) n ms k es served off = refl
  no-socket-by t (Began now (start.Job j premature job)) n ms k es served off = no-job t now j premature job n ms served
  no-socket-by t (Dict zone call answer) n ms k es served off = off
  no-socket-by t (Take key uses) n ms k es served off = not-served t (Take key uses) n ms served refl
  no-socket-by t (Dial host port done) n ms k es served off = not-served t (Dial host port done) n ms served refl
  no-socket-by t (Keep j key idle size) n ms k es served off = not-served t (Keep j key idle size) n ms served refl
  no-socket-by t (Close q) n ms k es served off = closed-stays (same_place (place.Sock k) q) _ off
  no-socket-by t x n ms k es served off = off

  no-socket : (s : StrandId) (ms : List (GlobalAction J)) (k : ℕ) → Throughout IsServed ms → is_open (place.Sock k) (projection s ms) ≡ false
  no-socket s [] k served = refl
  no-socket s (Of t x n ∷ ms) k served = by_test (same_strand s t)
      (λ same. ap (λ c. is_open (place.Sock k) (if c then Did x ∷ projection s ms else projection s ms)) same
      ∙ no-socket-by t x n ms k (projection s ms) served.1 (no-socket s ms k served.0))
      (λ other. ap (λ c. is_open (place.Sock k) (if c then Did x ∷ projection s ms else projection s ms)) other ∙ no-socket s ms k served.0)
  no-socket s (Everyone w ∷ ms) k served = by_test (lives (projection s ms))
      (λ alive. ap (λ c. is_open (place.Sock k) (if c then Told w ∷ projection s ms else projection s ms)) alive ∙ no-socket s ms k served.0)
      (λ dead. ap (λ c. is_open (place.Sock k) (if c then Told w ∷ projection s ms else projection s ms)) dead ∙ no-socket s ms k served.0)
  no-socket s (TurnedAway c ∷ ms) k served = no-socket s ms k served.0
  no-socket s (IdleGave e ∷ ms) k served = absurd served.1
  no-socket s (IdleClosed n ∷ ms) k served = absurd served.1

  open-client : (s : StrandId) (ms : List (GlobalAction J)) (q : Place) → Throughout IsServed ms → is_open q (projection s ms) ≡ true → q ≡ place.Client
  open-client s ms place.Client served opened = refl
  open-client s ms (place.Sock k) served opened = clash (is_open (place.Sock k) (projection s ms)) opened (no-socket s ms k served)

  some-queued : (b : Behavior J) (es : List (LocalAction J)) (o : Option Place) (q : Place) → going_on b es o ≡ Some q → is_some_left (queued b q es) ≡ true
  some-queued b es None q e = absurd (let no : None ≡ Some q = e in cc)
  some-queued b es (Some p) q e = by_test (is_some_left (queued b p es))
      (λ on.
      let same : Some p ≡ Some q = sym (ap (λ c. if c then Some p else None) on) ∙ e in
      let is : p ≡ q = cc in
      subst (λ r. is_some_left (queued b r es) ≡ true) is on)
      (λ off. absurd (let no : None ≡ Some q = sym (ap (λ c. if c then Some p else None) off) ∙ e in cc))

  offered-client : (b : Behavior J) (s : StrandId) (ms : List (GlobalAction J)) (q : Place) → Throughout IsServed ms → offering b (projection s ms) ≡ Some q → q ≡ place.Client
  offered-client b s ms q served e = open-client s ms q served (opened-queue (is_open q (projection s ms)) _ (some-queued b (projection s ms) (begun_offer (projection s ms)) q e))

  id-known : (s : StrandId) (q : Place) (ms : List (GlobalAction J)) → IsNumbered s → q ≡ place.Client → IsId (id_at s q ms)
  id-known (strand.Conn c) place.Client ms known same = known
  id-known (strand.Conn c) (place.Sock k) ms known same = absurd (let no : place.Sock k ≡ place.Client = same in cc)
  id-known (strand.Job n) q ms known same = absurd known

  -- the client to which an offer goes on
  offer-known : (b : Behavior J) (s : StrandId) (q : Place) (ms : List (GlobalAction J)) → Fine b ms → IsOfferedAt b (projection s ms) q → IsId (id_at s q ms)
  offer-known b s q ms f e = id-known s q ms (living-numbered b s ms f e.living) (offered-client b s ms q f.served e.offered)

  logs-numbered : (b : Behavior J) (s : StrandId) (a : Act J) (rest : List (Act J)) (ms : List (GlobalAction J)) → Fine b ms → todo b (projection s ms) ≡ a ∷ rest → IsNumbered s
  logs-numbered b s a rest ms f next = elim (numbered b s ms f) [
    | inl none ↦ no-act a rest (sym (ap (todo b) none) ∙ next)
    | inr known ↦ known
  ]

  -- the entry of an action that could come
  entry-fit : (b : Behavior J) (s : StrandId) (x : Action J) (n : Option ℕ) (ms : List (GlobalAction J)) → Fine b (Of s x n ∷ ms) → Fine b ms → Enabled b (projection s ms) (Did x)
      → All IsEntry (entries_at b s x n ms)
  entry-fit b s (Began now (start.Client c)) n ms f g e = one (entry.Given (event.Arrive c)) f.told.0
  entry-fit b s (Began now (start.Job k premature job)) n ms f g e = no-job s now k premature job n ms f.served.1
  entry-fit b s (Bytes q bytes) n ms f g e = one (entry.Given (event.Bytes (id_at s q ms) bytes)) f.told.0
  entry-fit b s (Ended q) n ms f g e = one (entry.Given (event.Ended (id_at s q ms))) f.told.0
  entry-fit b s (Broken q) n ms f g e = one (entry.Given (event.Broken (id_at s q ms))) f.told.0
  entry-fit b s (Ready q) n ms f g e = one (entry.Given (event.Ready (id_at s q ms))) f.told.0
  entry-fit b s (Dialled k) n ms f g e = not-served s (Dialled k) n ms f.served.1 refl
  entry-fit b s (Refused k) n ms f g e = not-served s (Refused k) n ms f.served.1 refl
  entry-fit b s (Put q bytes) n ms f g e = one (entry.Put (id_at s q ms) bytes) (offer-known b s q ms g e.0, f.told.0)
  entry-fit b s (Later q) n ms f g e = one (entry.Later (id_at s q ms)) (offer-known b s q ms g e)
  entry-fit b s (Lost q) n ms f g e = one (entry.Lost (id_at s q ms)) (offer-known b s q ms g e)
  entry-fit b s (Close q) n ms f g e =
      let opened : is_open q (projection s ms) ≡ true = elim e [ inl next ↦ next.1 | inr first ↦ first-open q first.1.0 (projection s ms) first.1.1 ] in
      one (entry.Close (id_at s q ms)) (id-known s q ms (open-numbered b s q ms g opened) (open-client s ms q g.served opened))
  entry-fit b s (Log text done) n ms f g e = one (entry.Log s text done) (strand-known s (logs-numbered b s _ e.0 ms g e.1), f.told.0)
  entry-fit b s (Dict zone call answer) n ms f g e = not-served s (Dict zone call answer) n ms f.served.1 refl
  entry-fit b s (Take key uses) n ms f g e = not-served s (Take key uses) n ms f.served.1 refl
  entry-fit b s (Dial host port done) n ms f g e = not-served s (Dial host port done) n ms f.served.1 refl
  entry-fit b s (Keep k key idle size) n ms f g e = not-served s (Keep k key idle size) n ms f.served.1 refl
  entry-fit b s (Timer at answer) n ms f g e = not-served s (Timer at answer) n ms f.served.1 refl
  entry-fit b s Dropped n ms f g e = one (entry.Dropped s) (strand-known s (elim e [
    | inl alive ↦ living-numbered b s ms g alive
    | inr none ↦ never-dropped b s n ms f none
  ]))
  entry-fit b s (Run k) n ms f g e = All-nil IsEntry
  entry-fit b s (Offer q) n ms f g e = All-nil IsEntry
  entry-fit b s (Due k) n ms f g e = All-nil IsEntry
  entry-fit b s Halted n ms f g e = All-nil IsEntry
  entry-fit b s Gone n ms f g e = All-nil IsEntry

  entries-fit : (b : Behavior J) (m : GlobalAction J) (ms : List (GlobalAction J)) → Fine b (m ∷ ms) → Fine b ms → All IsEntry (entries_of b m ms)
  entries-fit b (Of s x n) ms f g = entry-fit b s x n ms f g (head-enabled b (same_strand s s) (Did x) (projection s ms) (strand-true s) (f.alone s))
  entries-fit b (Everyone (Moment t)) ms f g = one (entry.Given (event.Moment (record { 0 = t }))) f.told.0
  entries-fit b (Everyone Stop) ms f g = one (entry.Given event.Stop) tt
  entries-fit b (TurnedAway c) ms f g =
      let number : IsOrdinal c = f.told.1.1.0 in
      All-cons IsEntry (entry.Close (id.Conn c)) (entry.Turned c ∷ entry.Given (event.Arrive c) ∷ []) number
      (All-cons IsEntry (entry.Turned c) (entry.Given (event.Arrive c) ∷ []) number (one (entry.Given (event.Arrive c)) number))
  entries-fit b (IdleGave e) ms f g = absurd f.served.1
  entries-fit b (IdleClosed n) ms f g = absurd f.served.1

  all-fit : (b : Behavior J) (ms : List (GlobalAction J)) → Fine b ms → All IsEntry (external b ms)
  all-fit b [] f = All-nil IsEntry
  all-fit b (m ∷ ms) f =
      let before = fine-tail b m ms f in
      All-append IsEntry (entries_of b m ms) (external b ms) (entries-fit b m ms f before) (all-fit b ms before)

  -- the history of an execution of connections that tells the lines of a schedule
  pub history-ranged : (b : Behavior J) (lines : List SchedLine) (h : List Entry) (offered : List ℕ) (ms : List (GlobalAction J)) → AreRanged lines → IsTold lines h offered
      → h ≡ external b ms → ((s : StrandId) → IsExecution b (projection s ms)) → Throughout (BeginsRight b) ms → IsOrdered b ms → Throughout IsServed ms → IsHistory h
  history-ranged b lines h offered ms whole told is alone begins ordered served = subst IsHistory (sym is) (all-fit b ms (record {
    alone = alone;
    begins = begins;
    ordered = ordered;
    served = served;
    told = subst AreToldEntries (told.steps_history ∙ is) (entries-told (lines ++ told.after) told.steps (subst AreRanged (sym told.steps_lines) whole) told.steps_right);
  }))
