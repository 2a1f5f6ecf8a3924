-- What of a line of all is a living strand's is what the strand has alone: how that follows, action by action.
use Rattle.std.specs.Prelude.{◌≡◌, ℕ, Bool, true, false, List, [], ◌∷◌, ◌++◌, Option, drop, if◌then◌else◌, refl}
use Rattle.std.proofs.Common.{sym, ◌∙◌, ap, subst}
use Rattle.resty_base.specs.declared.names.StrandId.{StrandId}
use Rattle.resty_base.specs.BoolLaws.{by_test}
use Rattle.resty_world.specs.Ids.{same_strand}
use Rattle.resty_world.specs.IdLaws.{same_strand-eq}
use Rattle.strand_contract.specs.Actions.{Word, Action, Began, Dropped, Gone, LocalAction, Told, Did}
use Rattle.strand_contract.specs.Behaviors.{Behavior}
use Rattle.strand_contract.specs.Alone.{lives, IsExecution}
use Rattle.executions.specs.Executions.{GlobalAction, Of, Everyone, TurnedAway, IdleGave, IdleClosed, projection}
use Rattle.executions.specs.Queues.{only, without_first, without_all}
use Rattle.executions.proofs.Strands.{clash}

-- what is the strand s isn't another
pub off-other : (t s r : StrandId) → same_strand t s ≡ false → same_strand s r ≡ true → same_strand t r ≡ false
off-other t s r ne h = subst (λ (x : StrandId). same_strand t x ≡ false) (same_strand-eq s r h) ne

pub only-append : {A : Type 0} (s : StrandId) (xs ys : List (StrandId × A)) → only s (xs ++ ys) ≡ only s xs ++ only s ys
only-append s [] ys = refl
only-append {A = A} s (x ∷ xs) ys = put (same_strand s x.0) (only-append s xs ys)
  where
    put : (b : Bool) → only s (xs ++ ys) ≡ only s xs ++ only s ys → (if b then x.1 ∷ only s (xs ++ ys) else only s (xs ++ ys)) ≡ (if b then x.1 ∷ only s xs else only s xs) ++ only s ys
    put true h = ap (λ l. x.1 ∷ l) h
    put false h = h

pub own-first : {A : Type 0} (s : StrandId) (l : List (StrandId × A)) → only s (without_first s l) ≡ drop 1 (only s l)
own-first s [] = refl
own-first {A = A} s (e ∷ l) = put (own-first s l) (same_strand s e.0) refl
  where
    put : only s (without_first s l) ≡ drop 1 (only s l) → (b : Bool) → same_strand s e.0 ≡ b → only s (if b then l else e ∷ without_first s l) ≡ drop 1 (if b then e.1 ∷ only s l else only s l)
    put ih true h = refl
    put ih false h = ap (λ b. if b then e.1 ∷ only s (without_first s l) else only s (without_first s l)) h ∙ ih

pub other-first : {A : Type 0} (t s : StrandId) (l : List (StrandId × A)) → same_strand t s ≡ false → only t (without_first s l) ≡ only t l
other-first t s [] ne = refl
other-first t s (e ∷ l) ne = put (other-first t s l ne) (same_strand s e.0) refl
  where
    put : only t (without_first s l) ≡ only t l → (b : Bool) → same_strand s e.0 ≡ b → only t (if b then l else e ∷ without_first s l) ≡ (if same_strand t e.0 then e.1 ∷ only t l else only t l)
    put ih true h = sym (ap (λ b. if b then e.1 ∷ only t l else only t l) (off-other t s e.0 ne h))
    put ih false h = ap (λ r. if same_strand t e.0 then e.1 ∷ r else r) ih

pub other-all : {A : Type 0} (t s : StrandId) (l : List (StrandId × A)) → same_strand t s ≡ false → only t (without_all s l) ≡ only t l
other-all t s [] ne = refl
other-all t s (e ∷ l) ne = put (other-all t s l ne) (same_strand s e.0) refl
  where
    put : only t (without_all s l) ≡ only t l → (b : Bool) → same_strand s e.0 ≡ b → only t (if b then without_all s l else e ∷ without_all s l) ≡ (if same_strand t e.0 then e.1 ∷ only t l else only t l)
    put ih true h = ih ∙ sym (ap (λ b. if b then e.1 ∷ only t l else only t l) (off-other t s e.0 ne h))
    put ih false h = ap (λ r. if same_strand t e.0 then e.1 ∷ r else r) ih

-- the action is the strand's own
abbrev pub is_by : {J : Type 0} → StrandId → GlobalAction J → Bool
is_by s (Of t x n) = same_strand s t
is_by s m = false

-- a line of all, what of it is the strand's, and what the strand has alone
module _ {J L M : Type 0} (b : Behavior J) (s : StrandId) (line : List (GlobalAction J) → L) (cut : L → M) (own : List (LocalAction J) → M) where
  -- an action of the strand's own changes both alike, and any other neither
  pub record GoesAlong : Type 0 where
    pub none : cut (line []) ≡ own []
    pub told : (w : Word) (es : List (LocalAction J)) → own (Told w ∷ es) ≡ own es
    pub others : (m : GlobalAction J) (ms : List (GlobalAction J)) → is_by s m ≡ false → cut (line (m ∷ ms)) ≡ cut (line ms)
    pub owns : (x : Action J) (n : Option ℕ) (ms : List (GlobalAction J)) → lives (Did x ∷ projection s ms) ≡ true → cut (line ms) ≡ own (projection s ms)
        → cut (line (Of s x n ∷ ms)) ≡ own (Did x ∷ projection s ms)

  module _ (g : GoesAlong) where
    -- one that hasn't begun has nothing in line
    unborn : (ms : List (GlobalAction J)) → projection s ms ≡ [] → cut (line ms) ≡ own []
    unborn [] h = g.none
    unborn (Of t x n ∷ ms) h = put (unborn ms) (same_strand s t) refl h
      where
        put : (projection s ms ≡ [] → cut (line ms) ≡ own []) → (c : Bool) → same_strand s t ≡ c → (if c then Did x ∷ projection s ms else projection s ms) ≡ [] → cut (line (Of t x n ∷ ms)) ≡ own []
        put ih true e h = absurd (let f : Did x ∷ projection s ms ≡ [] = h in cc)
        put ih false e h = g.others (Of t x n) ms e ∙ ih h
    unborn (Everyone w ∷ ms) h = put (unborn ms) (lives (projection s ms)) h
      where
        put : (projection s ms ≡ [] → cut (line ms) ≡ own []) → (c : Bool) → (if c then Told w ∷ projection s ms else projection s ms) ≡ [] → cut (line (Everyone w ∷ ms)) ≡ own []
        put ih true h = absurd (let f : Told w ∷ projection s ms ≡ [] = h in cc)
        put ih false h = g.others (Everyone w) ms refl ∙ ih h
    unborn (TurnedAway c ∷ ms) h = g.others (TurnedAway c) ms refl ∙ unborn ms h
    unborn (IdleGave e ∷ ms) h = g.others (IdleGave e) ms refl ∙ unborn ms h
    unborn (IdleClosed n ∷ ms) h = g.others (IdleClosed n) ms refl ∙ unborn ms h

    -- what a strand that lives has in line
    abbrev HasOwn : List (GlobalAction J) → Type 0
    HasOwn ms = lives (projection s ms) ≡ true → cut (line ms) ≡ own (projection s ms)

    was-own : (ms : List (GlobalAction J)) (x : Action J) → IsExecution b (Did x ∷ projection s ms) → lives (Did x ∷ projection s ms) ≡ true → HasOwn ms → cut (line ms) ≡ own (projection s ms)
    was-own ms x f live ih = by_test (lives (projection s ms)) ih (λ off. begun x (projection s ms) refl f live off)
      where
        begun : (x : Action J) (es : List (LocalAction J)) → projection s ms ≡ es → IsExecution b (Did x ∷ es) → lives (Did x ∷ es) ≡ true → lives es ≡ false → cut (line ms) ≡ own es
        begun (Began now start) es e f live off = unborn ms (e ∙ f.1) ∙ sym (ap own f.1)
        begun Gone es e f live off = clash false live refl
        begun Dropped es e f live off = clash false live refl
        begun x es e f live off = clash (lives es) live off

    pub own-line : (ms : List (GlobalAction J)) → IsExecution b (projection s ms) → lives (projection s ms) ≡ true → cut (line ms) ≡ own (projection s ms)
    own-line [] f live = g.none
    own-line (TurnedAway c ∷ ms) f live = g.others (TurnedAway c) ms refl ∙ own-line ms f live
    own-line (IdleGave e ∷ ms) f live = g.others (IdleGave e) ms refl ∙ own-line ms f live
    own-line (IdleClosed n ∷ ms) f live = g.others (IdleClosed n) ms refl ∙ own-line ms f live
    own-line (Everyone w ∷ ms) f live = put (own-line ms) (lives (projection s ms)) refl f live
      where
        put : (IsExecution b (projection s ms) → HasOwn ms) → (c : Bool) → lives (projection s ms) ≡ c → IsExecution b (if c then Told w ∷ projection s ms else projection s ms)
            → lives (if c then Told w ∷ projection s ms else projection s ms) ≡ true → cut (line (Everyone w ∷ ms)) ≡ own (if c then Told w ∷ projection s ms else projection s ms)
        put ih true e f live = g.others (Everyone w) ms refl ∙ ih f.0 e ∙ sym (g.told w (projection s ms))
        put ih false e f live = g.others (Everyone w) ms refl ∙ ih f live
    own-line (Of t x n ∷ ms) f live = put (own-line ms) (same_strand s t) refl f live
      where
        put : (IsExecution b (projection s ms) → HasOwn ms) → (c : Bool) → same_strand s t ≡ c → IsExecution b (if c then Did x ∷ projection s ms else projection s ms)
            → lives (if c then Did x ∷ projection s ms else projection s ms) ≡ true → cut (line (Of t x n ∷ ms)) ≡ own (if c then Did x ∷ projection s ms else projection s ms)
        put ih true e f live = subst (λ (r : StrandId). cut (line (Of r x n ∷ ms)) ≡ own (Did x ∷ projection s ms)) (same_strand-eq s t e) (g.owns x n ms live (was-own ms x f live (ih f.0)))
        put ih false e f live = g.others (Of t x n) ms e ∙ ih f live
