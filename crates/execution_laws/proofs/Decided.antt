-- The laws of one history, from what is decided with each action.
use Rattle.std.specs.Prelude.{◌≡◌, ℕ, Bool, true, false, ◌==◌, List, [], ◌∷◌, ◌++◌, length, None, if◌then◌else◌, refl}
use Rattle.std.proofs.Common.{sym, ◌∙◌, ap}
use Rattle.std.proofs.lemmas.List.{append_assoc}
use Rattle.resty_world.specs.declared.event.Event.{Event}
use Rattle.resty_world.specs.declared.entry.Entry.{Entry}
use Rattle.strand_contract.specs.Actions.{Dropped}
use Rattle.strand_contract.specs.Behaviors.{Behavior}
use Rattle.strand_contract.specs.Laws.{IsQuiet}
use Rattle.executions.specs.Executions.{GlobalAction, Of}
use Rattle.executions.specs.Histories.{entries_of, external}
use Rattle.executions.specs.Beginnings.{IsBeginning}
use Rattle.executions.proofs.OneNext.{older}
use Rattle.execution_laws.specs.Allowed.{IsAllowed}
use Rattle.execution_laws.specs.Inputs.{Input, Gives, input_of, inputs, event_of, events, drop_of, drops}
use Rattle.execution_laws.specs.Drops.{dropped_by, dropped_at, DropAlike, DropAlikeSoFar}
use Rattle.execution_laws.specs.GoesWell.{GoesWell}
use Rattle.execution_laws.proofs.OneEvent.{one-event}
use Rattle.execution_laws.proofs.OneAction.{meet, not-dropped, given-at-rest}
use Rattle.execution_laws.proofs.OneHistory.{all_decided, Decides, begins-it, one-history}
use Rattle.execution_laws.proofs.Replays.{ComesWell, events-decide, none-dropped}

pub inputs-append : (g h : List Entry) → inputs (g ++ h) ≡ inputs g ++ inputs h
inputs-append [] h = refl
inputs-append (e ∷ g) h = ap (λ l. input_of e ++ l) (inputs-append g h) ∙ sym (append_assoc (input_of e) (inputs g) (inputs h))

pub events-append : (g h : List Entry) → events (g ++ h) ≡ events g ++ events h
events-append [] h = refl
events-append (e ∷ g) h = ap (λ l. event_of e ++ l) (events-append g h) ∙ sym (append_assoc (event_of e) (events g) (events h))

pub drops-append : (g h : List Entry) → drops (g ++ h) ≡ drops g ++ drops h
drops-append [] h = refl
drops-append (e ∷ g) h = ap (λ l. drop_of e ++ l) (drops-append g h) ∙ sym (append_assoc (drop_of e) (drops g) (drops h))

both-none : {A : Type 0} (xs ys : List A) → xs ++ ys ≡ [] → (xs ≡ []) × (ys ≡ [])
both-none [] ys h = (refl, h)
both-none (x ∷ xs) ys h = absurd (let f : x ∷ (xs ++ ys) ≡ [] = h in cc)

module _ {J : Type 0} (b : Behavior J) where
  pub beginning-of : (ms : List (GlobalAction J)) → IsAllowed b ms → IsBeginning b ms
  beginning-of ms a = record { alone = a.lawful.alone; begins = a.lawful.begins; given = a.lawful.given; plain = a.plain; ordered = a.ordered }

  -- what is read off a history is decided with the actions
  pub inputs-are : (ms : List (GlobalAction J)) → inputs (external b ms) ≡ all_decided b (λ m ms. inputs (entries_of b m ms)) ms
  inputs-are [] = refl
  inputs-are (m ∷ ms) = inputs-append (entries_of b m ms) (external b ms) ∙ ap (λ l. inputs (entries_of b m ms) ++ l) (inputs-are ms)

  pub events-are : (ms : List (GlobalAction J)) → events (external b ms) ≡ all_decided b (λ m ms. events (entries_of b m ms)) ms
  events-are [] = refl
  events-are (m ∷ ms) = events-append (entries_of b m ms) (external b ms) ∙ ap (λ l. events (entries_of b m ms) ++ l) (events-are ms)

  pub external-after : (xs ms : List (GlobalAction J)) → (g : List Entry) × (g ++ external b ms ≡ external b (xs ++ ms))
  external-after [] ms = ([], refl)
  external-after (x ∷ xs) ms = let r = external-after xs ms in
      (entries_of b x (xs ++ ms) ++ r.0, append_assoc (entries_of b x (xs ++ ms)) r.0 (external b ms) ∙ ap (λ l. entries_of b x (xs ++ ms) ++ l) r.1)

  -- a history without drops
  undropped-by : (m : GlobalAction J) (ms : List (GlobalAction J)) → drops (entries_of b m ms) ≡ [] → dropped_by m ≡ None
  undropped-by (Of s Dropped n) ms h = absurd (let f : s ∷ [] ≡ [] = h in cc)
  undropped-by (Of s x n) ms h = refl
  undropped-by m ms h = refl

  pub undropped : (index : ℕ) (ms : List (GlobalAction J)) → drops (external b ms) ≡ [] → dropped_at index ms ≡ None
  undropped index [] h = refl
  undropped index (m ∷ ms) h = let g = both-none (drops (entries_of b m ms)) (drops (external b ms)) (sym (drops-append (entries_of b m ms) (external b ms)) ∙ h) in
      put (index == length ms) (undropped-by m ms g.0) (undropped index ms g.1)
    where
      put : (c : Bool) → dropped_by m ≡ None → dropped_at index ms ≡ None → (if c then dropped_by m else dropped_at index ms) ≡ None
      put true e ih = e
      put false e ih = ih

  module _ (quiet : IsQuiet b) where
    inputs-decide : Decides b (λ m ms. inputs (entries_of b m ms)) (IsBeginning b)
    inputs-decide = record {
      older = older b quiet;
      meet = meet b quiet;
      rests = λ m ms r rest d. (let e = one-event b quiet m ms r (given-at-rest b quiet m ms r rest (not-dropped b quiet m d)) in (Gives e.0, e.1));
    }

    pub one-of-inputs : (ms ns : List (GlobalAction J)) → IsAllowed b ms → IsAllowed b ns → inputs (external b ms) ≡ inputs (external b ns) → DropAlike ms ns → ms ≡ ns
    one-of-inputs ms ns f g e drop = one-history b (λ m ms. inputs (entries_of b m ms)) (IsBeginning b) inputs-decide ms ns (beginning-of ms f) (beginning-of ns g) f.lawful.rests g.lawful.rests drop
        (sym (inputs-are ms) ∙ e ∙ inputs-are ns)

    pub beginning-by-inputs : (ms ns : List (GlobalAction J)) (more : List Input) → IsBeginning b ms → IsAllowed b ns → more ++ inputs (external b ms) ≡ inputs (external b ns) → DropAlikeSoFar ms ns
        → (later : List (GlobalAction J)) × (later ++ ms ≡ ns)
    beginning-by-inputs ms ns more f g e drop = begins-it b (λ m ms. inputs (entries_of b m ms)) (IsBeginning b) inputs-decide ms ns more f (beginning-of ns g) g.lawful.rests drop
        (ap (λ l. more ++ l) (sym (inputs-are ms)) ∙ e ∙ inputs-are ns)

    pub one-of-events : (ms ns : List (GlobalAction J)) → IsAllowed b ms → IsAllowed b ns → GoesWell b ms → GoesWell b ns → events (external b ms) ≡ events (external b ns) → ms ≡ ns
    one-of-events ms ns f g v w e = one-history b (λ m ms. events (entries_of b m ms)) (ComesWell b quiet) (events-decide b quiet) ms ns (beginning-of ms f, v) (beginning-of ns g, w) f.lawful.rests g.lawful.rests
        (λ index. none-dropped b quiet index ms v ∙ sym (none-dropped b quiet index ns w)) (sym (events-are ms) ∙ e ∙ events-are ns)

    pub beginning-by-events : (ms ns : List (GlobalAction J)) (more : List Event) → IsBeginning b ms → IsAllowed b ns → GoesWell b ms → GoesWell b ns → more ++ events (external b ms) ≡ events (external b ns)
        → (later : List (GlobalAction J)) × (later ++ ms ≡ ns)
    beginning-by-events ms ns more f g v w e = begins-it b (λ m ms. events (entries_of b m ms)) (ComesWell b quiet) (events-decide b quiet) ms ns more (f, v) (beginning-of ns g, w) g.lawful.rests
        (λ index below. none-dropped b quiet index ms v ∙ sym (none-dropped b quiet index ns w)) (ap (λ l. more ++ l) (sym (events-are ms)) ∙ e ∙ events-are ns)

    pub history-goes-on : (ms ns : List (GlobalAction J)) → (later : List (GlobalAction J)) × (later ++ ms ≡ ns) → (later : List Entry) × (later ++ external b ms ≡ external b ns)
    history-goes-on ms ns w = let r = external-after w.0 ms in (r.0, r.1 ∙ ap (external b) w.1)
