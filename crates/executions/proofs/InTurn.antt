-- What had its turn, and behind it what is in line, is a subsequence of what was put in line.
use Rattle.std.proofs.Common.{◌≡◌, ℕ, Bool, true, false, ◌&&◌, ◌==◌, List, [], ◌∷◌, ◌++◌, if◌then◌else◌, refl, sym, ap, subst, ◌∙◌, append_assoc, append-nil}
use Rattle.resty_base.specs.declared.names.StrandId.{StrandId}
use Rattle.resty_world.specs.Ids.{same_strand}
use Rattle.resty_world.specs.IdLaws.{same_strand-self}
use Rattle.strand_contract.specs.declared.turns.Place.{Place}
use Rattle.strand_contract.specs.declared.turns.Act.{Act}
use Rattle.strand_contract.specs.declared.turns.Act.TheVariants as act
use Rattle.strand_contract.specs.Actions.{Action, Dropped, Run, Offer, Gone, Did}
use Rattle.strand_contract.specs.Behaviors.{Behavior}
use Rattle.strand_contract.specs.Alone.{offers}
use Rattle.executions.specs.Executions.{GlobalAction, Of, Everyone, TurnedAway, IdleGave, IdleClosed, projection}
use Rattle.executions.specs.Queues.{lined, placed, without_all, without_first, without_thread, after_run, after_offer, run_queue, offer_queue}
use Rattle.executions.specs.Ordered.{MayTurnAt, IsOrdered}
use Rattle.executions.specs.Subsequences.{IsSubsequence, none, keep, skip, with_strand, readied, run_of, offer_of, all_readied, all_run, all_placed, all_offered}

sub-same : {A : Type 0} (xs : List A) → IsSubsequence xs xs
sub-same [] = none
sub-same (x ∷ xs) = keep (sub-same xs)

sub-more : {A : Type 0} {xs ys : List A} → IsSubsequence xs ys → (us : List A) → IsSubsequence (xs ++ us) (ys ++ us)
sub-more none us = sub-same us
sub-more (keep r) us = keep (sub-more r us)
sub-more (skip r) us = skip (sub-more r us)

sub-through : {A : Type 0} {xs ys zs : List A} → IsSubsequence xs ys → IsSubsequence ys zs → IsSubsequence xs zs
sub-through r none = r
sub-through (keep r) (keep q) = keep (sub-through r q)
sub-through (skip r) (keep q) = skip (sub-through r q)
sub-through r (skip q) = skip (sub-through r q)

sub-nothing : {A : Type 0} (ys : List A) → IsSubsequence [] ys
sub-nothing [] = none
sub-nothing (y ∷ ys) = skip (sub-nothing ys)

sub-front : {A : Type 0} (xs ys : List A) → IsSubsequence xs (xs ++ ys)
sub-front [] ys = sub-nothing ys
sub-front (x ∷ xs) ys = keep (sub-front xs ys)

sub-after : {A : Type 0} (xs : List A) {ys zs : List A} → IsSubsequence ys zs → IsSubsequence (xs ++ ys) (xs ++ zs)
sub-after [] r = r
sub-after (x ∷ xs) r = keep (sub-after xs r)

module _ {A : Type 0} where
  -- what a strand has in line is left out
  sub-without : (s : StrandId) (l : List (StrandId × A)) → IsSubsequence (without_all s l) l
  sub-without s [] = none
  sub-without s (e ∷ l) = put (same_strand s e.0) (sub-without s l)
    where
      put : (c : Bool) → IsSubsequence (without_all s l) l → IsSubsequence (if c then without_all s l else e ∷ without_all s l) (e ∷ l)
      put true r = skip r
      put false r = keep r

  -- a turn takes the first, which is its own
  sub-taken : (s : StrandId) (k : A) (xs l rest ys : List (StrandId × A)) → l ≡ (s, k) ∷ rest → IsSubsequence (xs ++ l) ys → IsSubsequence ((xs ++ (s, k) ∷ []) ++ without_first s l) ys
  sub-taken s k xs l rest ys e r =
      subst (λ zs. IsSubsequence zs ys) (sym (ap (λ zs. (xs ++ (s, k) ∷ []) ++ without_first s zs) e ∙ ap (λ c. (xs ++ (s, k) ∷ []) ++ (if c then rest else (s, k) ∷ without_first s rest)) (same_strand-self s)
      ∙ append_assoc xs ((s, k) ∷ []) rest))
      (subst (λ zs. IsSubsequence (xs ++ zs) ys) e r)

  -- none has its turn, and what is in line stays, or some of it
  sub-still : (xs l m ys : List (StrandId × A)) → IsSubsequence m l → IsSubsequence (xs ++ l) ys → IsSubsequence ((xs ++ []) ++ m) ys
  sub-still xs l m ys less r = subst (λ zs. IsSubsequence (zs ++ m) ys) (sym (append-nil xs)) (sub-through (sub-after xs less) r)

  sub-end : (xs l ys : List (StrandId × A)) → IsSubsequence (xs ++ l) ys → IsSubsequence xs ys
  sub-end xs l ys r = sub-through (sub-front xs l) r

  -- nothing is put in line
  sub-nil : (xs ys : List (StrandId × A)) → IsSubsequence xs ys → IsSubsequence xs (ys ++ [])
  sub-nil xs ys r = subst (λ zs. IsSubsequence xs zs) (sym (append-nil ys)) r

sub-thread : (s : StrandId) (k : ℕ) (l : List (StrandId × ℕ)) → IsSubsequence (without_thread s k l) l
sub-thread s k [] = none
sub-thread s k (e ∷ l) = put (same_strand s e.0 && (k == e.1)) (sub-thread s k l)
  where
    put : (c : Bool) → IsSubsequence (without_thread s k l) l → IsSubsequence (if c then l else e ∷ without_thread s k l) (e ∷ l)
    put true r = skip (sub-same l)
    put false r = keep r

module _ {J : Type 0} where
  -- acts put threads at the end
  lined-sub : (s : StrandId) (acts : List (Act J)) (xs l ys : List (StrandId × ℕ)) → IsSubsequence (xs ++ l) ys → IsSubsequence (xs ++ lined s acts l) (ys ++ with_strand s (readied acts))
  lined-sub s [] xs l ys r = sub-nil (xs ++ l) ys r
  lined-sub s (act.Ready k ∷ acts) xs l ys r =
      subst (λ zs. IsSubsequence (xs ++ lined s acts (l ++ (s, k) ∷ [])) zs) (append_assoc ys ((s, k) ∷ []) (with_strand s (readied acts)))
      (lined-sub s acts xs (l ++ (s, k) ∷ []) (ys ++ (s, k) ∷ []) (subst (λ zs. IsSubsequence zs (ys ++ (s, k) ∷ [])) (append_assoc xs l ((s, k) ∷ [])) (sub-more r ((s, k) ∷ []))))
  lined-sub s (act.Unready k ∷ acts) xs l ys r = lined-sub s acts xs (without_thread s k l) ys (sub-through (sub-after xs (sub-thread s k l)) r)
  lined-sub s (a ∷ acts) xs l ys r = lined-sub s acts xs l ys r

  placed-sub : (s : StrandId) (acts : List (Act J)) (xs l ys : List (StrandId × Place)) → IsSubsequence (xs ++ l) ys → IsSubsequence (xs ++ placed s acts l) (ys ++ with_strand s (offers acts))
  placed-sub s [] xs l ys r = sub-nil (xs ++ l) ys r
  placed-sub s (act.Offer q ∷ acts) xs l ys r =
      subst (λ zs. IsSubsequence (xs ++ placed s acts (l ++ (s, q) ∷ [])) zs) (append_assoc ys ((s, q) ∷ []) (with_strand s (offers acts)))
      (placed-sub s acts xs (l ++ (s, q) ∷ []) (ys ++ (s, q) ∷ []) (subst (λ zs. IsSubsequence zs (ys ++ (s, q) ∷ [])) (append_assoc xs l ((s, q) ∷ [])) (sub-more r ((s, q) ∷ []))))
  placed-sub s (a ∷ acts) xs l ys r = placed-sub s acts xs l ys r

  module _ (b : Behavior J) where
    runs-at : (s : StrandId) (x : Action J) (ms : List (GlobalAction J)) (xs l ys : List (StrandId × ℕ)) → l ≡ run_queue b ms → MayTurnAt b s x ms → IsSubsequence (xs ++ l) ys → IsSubsequence ((xs ++ with_strand s (run_of x)) ++ after_run s x l) ys
    runs-at s (Run k) ms xs l ys e t r = sub-taken s k xs l t.3.0 ys (e ∙ t.3.1) r
    runs-at s Gone ms xs l ys e t r = sub-still xs l (without_all s l) ys (sub-without s l) r
    runs-at s Dropped ms xs l ys e t r = sub-still xs l (without_all s l) ys (sub-without s l) r
    runs-at s x ms xs l ys e t r = sub-still xs l l ys (sub-same l) r

    offers-at : (s : StrandId) (x : Action J) (ms : List (GlobalAction J)) (xs l ys : List (StrandId × Place)) → l ≡ offer_queue b ms → MayTurnAt b s x ms → IsSubsequence (xs ++ l) ys → IsSubsequence ((xs ++ with_strand s (offer_of x)) ++ after_offer s x l) ys
    offers-at s (Offer q) ms xs l ys e t r = sub-taken s q xs l t.3.0 ys (e ∙ t.3.1) r
    offers-at s Gone ms xs l ys e t r = sub-still xs l (without_all s l) ys (sub-without s l) r
    offers-at s Dropped ms xs l ys e t r = sub-still xs l (without_all s l) ys (sub-without s l) r
    offers-at s x ms xs l ys e t r = sub-still xs l l ys (sub-same l) r

    runs-in-line : (ms : List (GlobalAction J)) → IsOrdered b ms → IsSubsequence (all_run ms ++ run_queue b ms) (all_readied b ms)
    runs-in-line [] t = none
    runs-in-line (Of s x n ∷ ms) t = lined-sub s (b.acts (Did x ∷ projection s ms)) (all_run ms ++ with_strand s (run_of x)) (after_run s x (run_queue b ms)) (all_readied b ms)
        (runs-at s x ms (all_run ms) (run_queue b ms) (all_readied b ms) refl t.1 (runs-in-line ms t.0))
    runs-in-line (Everyone w ∷ ms) t = sub-nil _ _ (sub-still (all_run ms) (run_queue b ms) (run_queue b ms) (all_readied b ms) (sub-same (run_queue b ms)) (runs-in-line ms t.0))
    runs-in-line (TurnedAway c ∷ ms) t = sub-nil _ _ (sub-still (all_run ms) (run_queue b ms) (run_queue b ms) (all_readied b ms) (sub-same (run_queue b ms)) (runs-in-line ms t.0))
    runs-in-line (IdleGave e ∷ ms) t = sub-nil _ _ (sub-still (all_run ms) (run_queue b ms) (run_queue b ms) (all_readied b ms) (sub-same (run_queue b ms)) (runs-in-line ms t.0))
    runs-in-line (IdleClosed n ∷ ms) t = sub-nil _ _ (sub-still (all_run ms) (run_queue b ms) (run_queue b ms) (all_readied b ms) (sub-same (run_queue b ms)) (runs-in-line ms t.0))

    offers-in-line : (ms : List (GlobalAction J)) → IsOrdered b ms → IsSubsequence (all_offered ms ++ offer_queue b ms) (all_placed b ms)
    offers-in-line [] t = none
    offers-in-line (Of s x n ∷ ms) t = placed-sub s (b.acts (Did x ∷ projection s ms)) (all_offered ms ++ with_strand s (offer_of x)) (after_offer s x (offer_queue b ms)) (all_placed b ms)
        (offers-at s x ms (all_offered ms) (offer_queue b ms) (all_placed b ms) refl t.1 (offers-in-line ms t.0))
    offers-in-line (Everyone w ∷ ms) t = sub-nil _ _ (sub-still (all_offered ms) (offer_queue b ms) (offer_queue b ms) (all_placed b ms) (sub-same (offer_queue b ms)) (offers-in-line ms t.0))
    offers-in-line (TurnedAway c ∷ ms) t = sub-nil _ _ (sub-still (all_offered ms) (offer_queue b ms) (offer_queue b ms) (all_placed b ms) (sub-same (offer_queue b ms)) (offers-in-line ms t.0))
    offers-in-line (IdleGave e ∷ ms) t = sub-nil _ _ (sub-still (all_offered ms) (offer_queue b ms) (offer_queue b ms) (all_placed b ms) (sub-same (offer_queue b ms)) (offers-in-line ms t.0))
    offers-in-line (IdleClosed n ∷ ms) t = sub-nil _ _ (sub-still (all_offered ms) (offer_queue b ms) (offer_queue b ms) (all_placed b ms) (sub-same (offer_queue b ms)) (offers-in-line ms t.0))

    pub ran-in-turn : (ms : List (GlobalAction J)) → IsOrdered b ms → IsSubsequence (all_run ms) (all_readied b ms)
    ran-in-turn ms t = sub-end (all_run ms) (run_queue b ms) (all_readied b ms) (runs-in-line ms t)

    pub offered-in-turn : (ms : List (GlobalAction J)) → IsOrdered b ms → IsSubsequence (all_offered ms) (all_placed b ms)
    offered-in-turn ms t = sub-end (all_offered ms) (offer_queue b ms) (all_placed b ms) (offers-in-line ms t)
