-- The offer queue of all, cut to a strand that lives, is what the strand alone has in line to be offered.
use Rattle.std.specs.Prelude.{◌≡◌, true, false, List, [], ◌∷◌, ◌++◌, drop, if◌then◌else◌, refl}
use Rattle.std.proofs.Common.{sym, ◌∙◌, ap}
use Rattle.std.proofs.lemmas.List.{append_assoc, append-nil}
use Rattle.resty_base.specs.declared.names.StrandId.{StrandId}
use Rattle.resty_world.specs.Ids.{same_strand}
use Rattle.resty_world.specs.IdLaws.{same_strand-self}
use Rattle.strand_contract.specs.declared.turns.Place.{Place}
use Rattle.strand_contract.specs.declared.turns.Act.{Act}
use Rattle.strand_contract.specs.declared.turns.Act.TheVariants as act
use Rattle.strand_contract.specs.Actions.{Action, Offer, Dropped, Gone, LocalAction, Told, Did}
use Rattle.strand_contract.specs.Behaviors.{Behavior}
use Rattle.strand_contract.specs.Alone.{lives, to_offer, offers, offered_by, IsExecution}
use Rattle.strand_contract.specs.Laws.{IsQuiet}
use Rattle.executions.specs.Executions.{GlobalAction, Of, Everyone, TurnedAway, IdleGave, IdleClosed, projection}
use Rattle.executions.specs.Queues.{only, placed, after_offer, offer_queue}
use Rattle.executions.proofs.Strands.{clash}
use Rattle.executions.proofs.OwnLines.{only-append, own-first, other-first, other-all, is_by, GoesAlong, own-line}

own-placed : (J : Type 0) (s : StrandId) (acts : List (Act J)) (l : List (StrandId × Place)) → only s (placed s acts l) ≡ only s l ++ offers acts
own-placed J s [] l = sym (append-nil (only s l))
own-placed J s (act.Offer q ∷ acts) l = own-placed J s acts (l ++ (s, q) ∷ []) ∙ ap (λ r. r ++ offers acts) (only-append s l ((s, q) ∷ []) ∙ ap (λ b. only s l ++ (if b then q ∷ [] else [])) (same_strand-self s)) ∙ append_assoc (only s l) (q ∷ []) (offers acts)
own-placed J s (a ∷ acts) l = own-placed J s acts l

other-placed : (J : Type 0) (t s : StrandId) (acts : List (Act J)) (l : List (StrandId × Place)) → same_strand t s ≡ false → only t (placed s acts l) ≡ only t l
other-placed J t s [] l ne = refl
other-placed J t s (act.Offer q ∷ acts) l ne = other-placed J t s acts (l ++ (s, q) ∷ []) ne ∙ only-append t l ((s, q) ∷ []) ∙ ap (λ b. only t l ++ (if b then q ∷ [] else [])) ne ∙ append-nil (only t l)
other-placed J t s (a ∷ acts) l ne = other-placed J t s acts l ne

other-after : (J : Type 0) (t s : StrandId) (x : Action J) (l : List (StrandId × Place)) → same_strand t s ≡ false → only t (after_offer s x l) ≡ only t l
other-after J t s (Offer q) l ne = other-first t s l ne
other-after J t s Gone l ne = other-all t s l ne
other-after J t s Dropped l ne = other-all t s l ne
other-after J t s x l ne = refl

own-after : (J : Type 0) (s : StrandId) (x : Action J) (es : List (LocalAction J)) (l : List (StrandId × Place)) (ps : List Place) → lives (Did x ∷ es) ≡ true → only s l ≡ ps → only s (after_offer s x l) ≡ offered_by (Did x) ps
own-after J s (Offer q) es l ps live h = own-first s l ∙ ap (drop 1) h
own-after J s Gone es l ps live h = clash false live refl
own-after J s Dropped es l ps live h = clash false live refl
own-after J s x es l ps live h = h

module _ {J : Type 0} (b : Behavior J) (quiet : IsQuiet b) (s : StrandId) where
  others : (m : GlobalAction J) (ms : List (GlobalAction J)) → is_by s m ≡ false → only s (offer_queue b (m ∷ ms)) ≡ only s (offer_queue b ms)
  others (Of t x n) ms ne = other-placed J s t (b.acts (Did x ∷ projection t ms)) (after_offer t x (offer_queue b ms)) ne ∙ other-after J s t x (offer_queue b ms) ne
  others (Everyone w) ms ne = refl
  others (TurnedAway c) ms ne = refl
  others (IdleGave e) ms ne = refl
  others (IdleClosed n) ms ne = refl

  goes-along : GoesAlong b s (offer_queue b) (λ l. only s l) (to_offer b)
  goes-along = record {
    none = refl;
    told = λ w es. ap (λ acts. to_offer b es ++ offers acts) (quiet (Told w) es refl) ∙ append-nil (to_offer b es);
    others = others;
    owns = λ x n ms live h. own-placed J s (b.acts (Did x ∷ projection s ms)) (after_offer s x (offer_queue b ms))
        ∙ ap (λ l. l ++ offers (b.acts (Did x ∷ projection s ms))) (own-after J s x (projection s ms) (offer_queue b ms) (to_offer b (projection s ms)) live h);
  }

  pub own-offers : (ms : List (GlobalAction J)) → IsExecution b (projection s ms) → lives (projection s ms) ≡ true → only s (offer_queue b ms) ≡ to_offer b (projection s ms)
  own-offers ms f live = own-line b s (offer_queue b) (λ l. only s l) (to_offer b) goes-along ms f live
