-- Where all is taken and nothing fails, the given events decide alone.
use Rattle.std.specs.Prelude.{◌≡◌, ℕ, Bool, true, false, ◌==◌, List, [], ◌∷◌, length, None, if◌then◌else◌, refl}
use Rattle.std.proofs.Common.{inl, inr, sym, ◌∙◌, ap}
use Rattle.strand_contract.specs.Actions.{Put, Later, Lost, Log, Dial, Dropped}
use Rattle.strand_contract.specs.Behaviors.{Behavior}
use Rattle.strand_contract.specs.Alone.{piece}
use Rattle.strand_contract.specs.Laws.{IsQuiet}
use Rattle.executions.specs.Executions.{GlobalAction, Of, IdleClosed, projection}
use Rattle.executions.specs.Plain.{dialled_as}
use Rattle.executions.specs.Histories.{entries_of}
use Rattle.executions.specs.NextActions.{Next, Does, Writes, Logs, Dials, Asks, next, IsAnswer, is_drop}
use Rattle.executions.specs.Beginnings.{IsBeginning}
use Rattle.executions.proofs.Strands.{clash}
use Rattle.executions.proofs.OneNext.{older}
use Rattle.execution_laws.specs.Inputs.{events}
use Rattle.execution_laws.specs.Drops.{dropped_by, dropped_at}
use Rattle.execution_laws.specs.GoesWell.{IsWell, GoesWell}
use Rattle.execution_laws.specs.Givens.{given}
use Rattle.execution_laws.proofs.OneEvent.{one-event}
use Rattle.execution_laws.proofs.OneAction.{Meet, comes, drops-none, not-dropped, given-at-rest}
use Rattle.execution_laws.proofs.OneHistory.{Decides}

module _ {J : Type 0} (b : Behavior J) (quiet : IsQuiet b) where
  -- the world is asked for an event
  abbrev is_asking : Next J → Bool
  is_asking Asks = true
  is_asking x = false

  -- what comes where all goes well
  abbrev well : Next J → List (GlobalAction J) → GlobalAction J
  well (Does m) ms = m
  well (Writes s q) ms = Of s (Put q (piece b q (projection s ms))) None
  well (Logs s line) ms = Of s (Log line true) None
  well (Dials s host port) ms = Of s (Dial host port true) (dialled_as true ms)
  well Asks ms = IdleClosed 0

  goes : (m : GlobalAction J) (x : Next J) (ms : List (GlobalAction J)) → IsBeginning b (m ∷ ms) → IsWell b m ms → IsAnswer m x → is_asking x ≡ false → m ≡ well x ms
  goes m (Does y) ms run w h a = h
  goes (Of t (Put p bytes) n) (Writes s q) ms run w h a =
      ap (λ n. Of t (Put p bytes) n) run.plain.1 ∙ ap (λ z. Of t (Put p z) None) w ∙ ap (λ z. Of t (Put z (piece b z (projection t ms))) None) h.1
      ∙ ap (λ z. Of z (Put q (piece b q (projection z ms))) None) h.0
  goes (Of t (Later p) n) (Writes s q) ms run w h a = absurd w
  goes (Of t (Lost p) n) (Writes s q) ms run w h a = absurd w
  goes (Of t (Log text done) n) (Logs s line) ms run w h a =
      ap (λ n. Of t (Log text done) n) run.plain.1 ∙ ap (λ c. Of t (Log text c) None) w ∙ ap (λ z. Of z (Log text true) None) h.0 ∙ ap (λ z. Of s (Log z true) None) h.1
  goes (Of t (Dial a p done) n) (Dials s host port) ms run w h e =
      ap (λ n. Of t (Dial a p done) n) run.plain.1 ∙ ap (λ c. Of t (Dial a p c) (dialled_as c ms)) w ∙ ap (λ z. Of z (Dial a p true) (dialled_as true ms)) h.0
      ∙ ap (λ z. Of s (Dial z p true) (dialled_as true ms)) h.1 ∙ ap (λ z. Of s (Dial host z true) (dialled_as true ms)) h.2
  goes m Asks ms run w h a = clash true refl a
  goes m (Writes s q) ms run w h a = absurd h
  goes m (Logs s line) ms run w h a = absurd h
  goes m (Dials s host port) ms run w h a = absurd h

  both-go : (m k : GlobalAction J) (x : Next J) (ms : List (GlobalAction J)) → IsBeginning b (m ∷ ms) → IsBeginning b (k ∷ ms) → IsWell b m ms → IsWell b k ms
      → IsAnswer m x → IsAnswer k x → Meet m k (events (entries_of b m ms)) (events (entries_of b k ms))
  both-go m k Asks ms f g wm wk hm hk = let d = one-event b quiet m ms f hm in let e = one-event b quiet k ms g hk in
      inr (d.0, e.0, d.2, e.2, λ same. d.3 ∙ ap (λ e. given b e ms) same ∙ sym e.3)
  both-go m k (Does y) ms f g wm wk hm hk = inl (goes m (Does y) ms f wm hm refl ∙ sym (goes k (Does y) ms g wk hk refl))
  both-go m k (Writes s q) ms f g wm wk hm hk = inl (goes m (Writes s q) ms f wm hm refl ∙ sym (goes k (Writes s q) ms g wk hk refl))
  both-go m k (Logs s line) ms f g wm wk hm hk = inl (goes m (Logs s line) ms f wm hm refl ∙ sym (goes k (Logs s line) ms g wk hk refl))
  both-go m k (Dials s host port) ms f g wm wk hm hk = inl (goes m (Dials s host port) ms f wm hm refl ∙ sym (goes k (Dials s host port) ms g wk hk refl))

  well-undropped : (m : GlobalAction J) (ms : List (GlobalAction J)) → IsWell b m ms → is_drop m ≡ false
  well-undropped (Of s Dropped n) ms w = absurd w
  well-undropped (Of s x n) ms w = refl
  well-undropped m ms w = refl

  pub none-dropped : (index : ℕ) (ms : List (GlobalAction J)) → GoesWell b ms → dropped_at index ms ≡ None
  none-dropped index [] w = refl
  none-dropped index (m ∷ ms) w = put (index == length ms) (drops-none b quiet m (well-undropped m ms w.1)) (none-dropped index ms w.0)
    where
      put : (c : Bool) → dropped_by m ≡ None → dropped_at index ms ≡ None → (if c then dropped_by m else dropped_at index ms) ≡ None
      put true e ih = e
      put false e ih = ih

  -- an execution so far in which all goes well
  abbrev pub ComesWell : List (GlobalAction J) → Type 0
  ComesWell ms = IsBeginning b ms × GoesWell b ms

  pub events-decide : Decides b (λ m ms. events (entries_of b m ms)) ComesWell
  events-decide = record {
    older = λ m ms r. (older b quiet m ms r.0, r.1.0);
    meet = λ m k ms f g d. both-go m k (next b ms) ms f.0 g.0 f.1.1 g.1.1 (comes b quiet m ms f.0 (well-undropped m ms f.1.1)) (comes b quiet k ms g.0 (well-undropped k ms g.1.1));
    rests = λ m ms r rest d. (let e = one-event b quiet m ms r.0 (given-at-rest b quiet m ms r.0 rest (not-dropped b quiet m d)) in (e.0, e.2));
  }
