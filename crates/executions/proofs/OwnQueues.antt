-- The run queue of all, cut to a strand that lives, is what the strand alone has in line.
use Rattle.std.specs.Prelude.{◌≡◌, ℕ, ◌==◌, ◌&&◌, Bool, true, false, List, [], ◌∷◌, ◌++◌, drop, if◌then◌else◌, refl}
use Rattle.std.proofs.Common.{sym, ◌∙◌, ap}
use Rattle.std.proofs.lemmas.List.{append-nil}
use Rattle.resty_base.specs.declared.names.StrandId.{StrandId}
use Rattle.resty_world.specs.Ids.{same_strand}
use Rattle.resty_world.specs.IdLaws.{same_strand-self}
use Rattle.strand_contract.specs.declared.turns.Act.{Act}
use Rattle.strand_contract.specs.declared.turns.Act.TheVariants as act
use Rattle.strand_contract.specs.Actions.{Action, Run, Dropped, Gone, LocalAction, Told, Did}
use Rattle.executions.specs.Executions.{GlobalAction, Of, Everyone, TurnedAway, IdleGave, IdleClosed, projection}
use Rattle.strand_contract.specs.Alone.{lives, waiting, lined_up, run_by, without, IsExecution}
use Rattle.strand_contract.specs.Behaviors.{Behavior}
use Rattle.strand_contract.specs.Laws.{IsQuiet}
use Rattle.executions.proofs.Strands.{clash}
use Rattle.executions.proofs.OwnLines.{off-other, only-append, own-first, other-first, other-all, is_by, GoesAlong, own-line}
use Rattle.executions.specs.Queues.{only, without_thread, lined, after_run, run_queue}

own-without : (s : StrandId) (k : ℕ) (l : List (StrandId × ℕ)) → only s (without_thread s k l) ≡ without k (only s l)
own-without s k [] = refl
own-without s k (e ∷ l) = put (own-without s k l) (same_strand s e.0) refl (k == e.1) refl
  where
    put : only s (without_thread s k l) ≡ without k (only s l) → (b : Bool) → same_strand s e.0 ≡ b → (c : Bool) → (k == e.1) ≡ c → only s (if b && c then l else e ∷ without_thread s k l) ≡ without k (if b then e.1 ∷ only s l else only s l)
    put ih true h true g = sym (ap (λ c. if c then only s l else e.1 ∷ without k (only s l)) g)
    put ih true h false g = ap (λ b. if b then e.1 ∷ only s (without_thread s k l) else only s (without_thread s k l)) h ∙ ap (λ r. e.1 ∷ r) ih ∙ sym (ap (λ c. if c then only s l else e.1 ∷ without k (only s l)) g)
    put ih false h c g = ap (λ b. if b then e.1 ∷ only s (without_thread s k l) else only s (without_thread s k l)) h ∙ ih

other-without : (t s : StrandId) (k : ℕ) (l : List (StrandId × ℕ)) → same_strand t s ≡ false → only t (without_thread s k l) ≡ only t l
other-without t s k [] ne = refl
other-without t s k (e ∷ l) ne = put (other-without t s k l ne) (same_strand s e.0) refl (k == e.1)
  where
    put : only t (without_thread s k l) ≡ only t l → (b : Bool) → same_strand s e.0 ≡ b → (c : Bool) → only t (if b && c then l else e ∷ without_thread s k l) ≡ (if same_strand t e.0 then e.1 ∷ only t l else only t l)
    put ih true h true = sym (ap (λ b. if b then e.1 ∷ only t l else only t l) (off-other t s e.0 ne h))
    put ih true h false = ap (λ r. if same_strand t e.0 then e.1 ∷ r else r) ih
    put ih false h c = ap (λ r. if same_strand t e.0 then e.1 ∷ r else r) ih

own-lined : (J : Type 0) (s : StrandId) (acts : List (Act J)) (l : List (StrandId × ℕ)) → only s (lined s acts l) ≡ lined_up acts (only s l)
own-lined J s [] l = refl
own-lined J s (act.Ready k ∷ acts) l = own-lined J s acts (l ++ (s, k) ∷ []) ∙ ap (lined_up acts) (only-append s l ((s, k) ∷ []) ∙ ap (λ b. only s l ++ (if b then k ∷ [] else [])) (same_strand-self s))
own-lined J s (act.Unready k ∷ acts) l = own-lined J s acts (without_thread s k l) ∙ ap (lined_up acts) (own-without s k l)
own-lined J s (a ∷ acts) l = own-lined J s acts l

other-lined : (J : Type 0) (t s : StrandId) (acts : List (Act J)) (l : List (StrandId × ℕ)) → same_strand t s ≡ false → only t (lined s acts l) ≡ only t l
other-lined J t s [] l ne = refl
other-lined J t s (act.Ready k ∷ acts) l ne = other-lined J t s acts (l ++ (s, k) ∷ []) ne ∙ only-append t l ((s, k) ∷ []) ∙ ap (λ b. only t l ++ (if b then k ∷ [] else [])) ne ∙ append-nil (only t l)
other-lined J t s (act.Unready k ∷ acts) l ne = other-lined J t s acts (without_thread s k l) ne ∙ other-without t s k l ne
other-lined J t s (a ∷ acts) l ne = other-lined J t s acts l ne

other-left : (J : Type 0) (t s : StrandId) (x : Action J) (l : List (StrandId × ℕ)) → same_strand t s ≡ false → only t (after_run s x l) ≡ only t l
other-left J t s (Run k) l ne = other-first t s l ne
other-left J t s Gone l ne = other-all t s l ne
other-left J t s Dropped l ne = other-all t s l ne
other-left J t s x l ne = refl

-- an action behind which the strand lives, and before which its line is its own
own-left : (J : Type 0) (s : StrandId) (x : Action J) (es : List (LocalAction J)) (l : List (StrandId × ℕ)) (threads : List ℕ) → lives (Did x ∷ es) ≡ true → only s l ≡ threads → only s (after_run s x l) ≡ run_by (Did x) threads
own-left J s (Run k) es l threads live h = own-first s l ∙ ap (drop 1) h
own-left J s Gone es l threads live h = clash false live refl
own-left J s Dropped es l threads live h = clash false live refl
own-left J s x es l threads live h = h

module _ {J : Type 0} (b : Behavior J) (quiet : IsQuiet b) (s : StrandId) where
  others : (m : GlobalAction J) (ms : List (GlobalAction J)) → is_by s m ≡ false → only s (run_queue b (m ∷ ms)) ≡ only s (run_queue b ms)
  others (Of t x n) ms ne = other-lined J s t (b.acts (Did x ∷ projection t ms)) (after_run t x (run_queue b ms)) ne ∙ other-left J s t x (run_queue b ms) ne
  others (Everyone w) ms ne = refl
  others (TurnedAway c) ms ne = refl
  others (IdleGave e) ms ne = refl
  others (IdleClosed n) ms ne = refl

  goes-along : GoesAlong b s (run_queue b) (λ l. only s l) (waiting b)
  goes-along = record {
    none = refl;
    told = λ w es. ap (λ acts. lined_up acts (waiting b es)) (quiet (Told w) es refl);
    others = others;
    owns = λ x n ms live h. own-lined J s (b.acts (Did x ∷ projection s ms)) (after_run s x (run_queue b ms))
        ∙ ap (lined_up (b.acts (Did x ∷ projection s ms))) (own-left J s x (projection s ms) (run_queue b ms) (waiting b (projection s ms)) live h);
  }

  pub own-queue : (ms : List (GlobalAction J)) → IsExecution b (projection s ms) → lives (projection s ms) ≡ true → only s (run_queue b ms) ≡ waiting b (projection s ms)
  own-queue ms f live = own-line b s (run_queue b) (λ l. only s l) (waiting b) goes-along ms f live
