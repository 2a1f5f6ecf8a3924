-- What waits in the engine's queues, against those of an execution.
use Rattle.std.proofs.Common.{◌≡◌, ◌⊎◌, ℕ, Bool, true, false, ◌&&◌, ◌==◌, List, [], ◌∷◌, ◌++◌, Some, None, if◌then◌else◌, refl, sym, ap, subst, ◌∙◌, inl, inr}
use Rattle.resty_base.specs.declared.names.StrandId.{StrandId}
use Rattle.resty_base.specs.declared.names.StrandId.TheVariants as strand
use Rattle.resty_base.specs.BoolLaws.{by_test, clash}
use Rattle.resty_world.specs.Ids.{same_strand}
use Rattle.resty_world.specs.IdLaws.{same_strand-self, same_strand-eq}
use Rattle.strand_contract.specs.declared.turns.Place.{Place}
use Rattle.strand_contract.specs.declared.turns.Act.{Act}
use Rattle.strand_contract.specs.declared.turns.Act.TheVariants as act
use Rattle.strand_contract.specs.Actions.{Action, LocalAction, Did}
use Rattle.strand_contract.specs.Behaviors.{Behavior}
use Rattle.strand_contract.specs.Alone.{lives}
use Rattle.executions.specs.Executions.{GlobalAction, Of, projection}
use Rattle.executions.specs.Strands.{first_in}
use Rattle.executions.specs.Queues.{lined, placed, without_all, without_thread, after_run, run_queue, after_offer, offer_queue}
use Rattle.executions.specs.Agenda.{Whose, OfStrand, armed_with, without_one, without_those, is_number, is_of}
use Rattle.engine_base.specs.Standing.{without_dead}
use Rattle.engine_base.proofs.Lists.{same-true}

-- what is put at the end by a strand is its own
without-end : {A : Type 0} (s : StrandId) (l : List (StrandId × A)) (k : A) → without_all s (l ++ (s, k) ∷ []) ≡ without_all s l
without-end s [] k = ap (λ v. if v then [] else (s, k) ∷ []) (same_strand-self s)
without-end s (e ∷ l) k = ap (λ r. if same_strand s e.0 then r else e ∷ r) (without-end s l k)

without-thread-own : (s : StrandId) (k : ℕ) (l : List (StrandId × ℕ)) → without_all s (without_thread s k l) ≡ without_all s l
without-thread-own s k [] = refl
without-thread-own s k (e ∷ l) = put (same_strand s e.0) refl (k == e.1) (without-thread-own s k l)
  where
    put : (c : Bool) → same_strand s e.0 ≡ c → (d : Bool) → without_all s (without_thread s k l) ≡ without_all s l → without_all s (if c && d then l else e ∷ without_thread s k l) ≡ (if c then without_all s l else e ∷ without_all s l)
    put true q true ih = refl
    put true q false ih = ap (λ v. if v then without_all s (without_thread s k l) else e ∷ without_all s (without_thread s k l)) q ∙ ih
    put false q d ih = ap (λ v. if v then without_all s (without_thread s k l) else e ∷ without_all s (without_thread s k l)) q ∙ ap (λ r. e ∷ r) ih

those-end : (s : StrandId) (k at : ℕ) (l : List (Whose × ℕ)) → without_those (is_of s) (l ++ (OfStrand s k, at) ∷ []) ≡ without_those (is_of s) l
those-end (strand.Conn c) k at [] = ap (λ v. if v then [] else (OfStrand (strand.Conn c) k, at) ∷ []) (same-true c)
those-end (strand.Job n) k at [] = ap (λ v. if v then [] else (OfStrand (strand.Job n) k, at) ∷ []) (same-true n)
those-end s k at (d ∷ l) = ap (λ r. if is_of s d.0 then r else d ∷ r) (those-end s k at l)

number-of : (s : StrandId) (k : ℕ) (w : Whose) → is_number s k w ≡ true → is_of s w ≡ true
number-of (strand.Conn c) k (OfStrand t j) h = put (same_strand (strand.Conn c) t) h
  where
    put : (v : Bool) → (v && (k == j)) ≡ true → v ≡ true
    put true h = refl
    put false h = h
number-of (strand.Job n) k (OfStrand t j) h = put (same_strand (strand.Job n) t) h
  where
    put : (v : Bool) → (v && (k == j)) ≡ true → v ≡ true
    put true h = refl
    put false h = h
number-of s k w h = clash h refl

pub those-one : (s : StrandId) (k : ℕ) (l : List (Whose × ℕ)) → without_those (is_of s) (without_one (is_number s k) l) ≡ without_those (is_of s) l
those-one s k [] = refl
those-one s k (d ∷ l) = put (is_number s k d.0) refl (those-one s k l)
  where
    put : (c : Bool) → is_number s k d.0 ≡ c → without_those (is_of s) (without_one (is_number s k) l) ≡ without_those (is_of s) l
        → without_those (is_of s) (if c then l else d ∷ without_one (is_number s k) l) ≡ (if is_of s d.0 then without_those (is_of s) l else d ∷ without_those (is_of s) l)
    put true q ih = sym (ap (λ v. if v then without_those (is_of s) l else d ∷ without_those (is_of s) l) (number-of s k d.0 q))
    put false q ih = ap (λ r. if is_of s d.0 then r else d ∷ r) ih

module _ {J A : Type 0} where
  -- where the same strands live, the same wait
  pub live-same : (ms ns : List (GlobalAction J)) (l : List (StrandId × A)) → ((s : StrandId) → lives (projection s ns) ≡ lives (projection s ms)) → without_dead ns l ≡ without_dead ms l
  live-same ms ns [] h = refl
  live-same ms ns (e ∷ l) h = ap (λ c. if c then e ∷ without_dead ns l else without_dead ns l) (h e.0) ∙ ap (λ r. if lives (projection e.0 ms) then e ∷ r else r) (live-same ms ns l h)

  live-end : (ms : List (GlobalAction J)) (l : List (StrandId × A)) (e : StrandId × A) → lives (projection e.0 ms) ≡ true → without_dead ms (l ++ e ∷ []) ≡ without_dead ms l ++ e ∷ []
  live-end ms [] e on = ap (λ c. if c then e ∷ [] else []) on
  live-end ms (f ∷ l) e on = put (lives (projection f.0 ms)) (live-end ms l e on)
    where
      put : (c : Bool) → without_dead ms (l ++ e ∷ []) ≡ without_dead ms l ++ e ∷ [] → (if c then f ∷ without_dead ms (l ++ e ∷ []) else without_dead ms (l ++ e ∷ [])) ≡ (if c then f ∷ without_dead ms l else without_dead ms l) ++ e ∷ []
      put true h = ap (λ r. f ∷ r) h
      put false h = h

  -- what one strand has in line is left out before or after
  pub live-without : (ms : List (GlobalAction J)) (s : StrandId) (l : List (StrandId × A)) → without_all s (without_dead ms l) ≡ without_dead ms (without_all s l)
  live-without ms s [] = refl
  live-without ms s (e ∷ l) = put (lives (projection e.0 ms)) refl (same_strand s e.0) refl (live-without ms s l)
    where
      put : (a : Bool) → lives (projection e.0 ms) ≡ a → (c : Bool) → same_strand s e.0 ≡ c → without_all s (without_dead ms l) ≡ without_dead ms (without_all s l)
          → without_all s (if a then e ∷ without_dead ms l else without_dead ms l) ≡ without_dead ms (if c then without_all s l else e ∷ without_all s l)
      put true p true q ih = ap (λ v. if v then without_all s (without_dead ms l) else e ∷ without_all s (without_dead ms l)) q ∙ ih
      put true p false q ih = ap (λ v. if v then without_all s (without_dead ms l) else e ∷ without_all s (without_dead ms l)) q ∙ ap (λ r. e ∷ r) ih ∙ sym (ap (λ v. if v then e ∷ without_dead ms (without_all s l) else without_dead ms (without_all s l)) p)
      put false p true q ih = ih
      put false p false q ih = ih ∙ sym (ap (λ v. if v then e ∷ without_dead ms (without_all s l) else without_dead ms (without_all s l)) p)

  -- one that dies has nothing in line any more
  pub live-dies : (ms ns : List (GlobalAction J)) (s : StrandId) (l : List (StrandId × A)) → lives (projection s ns) ≡ false → ((t : StrandId) → same_strand s t ≡ false → lives (projection t ns) ≡ lives (projection t ms))
      → without_dead ns l ≡ without_all s (without_dead ms l)
  live-dies ms ns s [] off others = refl
  live-dies ms ns s (e ∷ l) off others = put (same_strand s e.0) refl (lives (projection e.0 ms)) refl (live-dies ms ns s l off others)
    where
      put : (c : Bool) → same_strand s e.0 ≡ c → (a : Bool) → lives (projection e.0 ms) ≡ a → without_dead ns l ≡ without_all s (without_dead ms l)
          → (if lives (projection e.0 ns) then e ∷ without_dead ns l else without_dead ns l) ≡ without_all s (if a then e ∷ without_dead ms l else without_dead ms l)
      put true q true p ih = ap (λ v. if v then e ∷ without_dead ns l else without_dead ns l) (subst (λ (t : StrandId). lives (projection t ns) ≡ false) (same_strand-eq s e.0 q) off) ∙ ih
          ∙ sym (ap (λ v. if v then without_all s (without_dead ms l) else e ∷ without_all s (without_dead ms l)) q)
      put true q false p ih = ap (λ v. if v then e ∷ without_dead ns l else without_dead ns l) (subst (λ (t : StrandId). lives (projection t ns) ≡ false) (same_strand-eq s e.0 q) off) ∙ ih
      put false q true p ih = ap (λ v. if v then e ∷ without_dead ns l else without_dead ns l) (others e.0 q ∙ p) ∙ ap (λ r. e ∷ r) ih
          ∙ sym (ap (λ v. if v then without_all s (without_dead ms l) else e ∷ without_all s (without_dead ms l)) q)
      put false q false p ih = ap (λ v. if v then e ∷ without_dead ns l else without_dead ns l) (others e.0 q ∙ p) ∙ ih

module _ {J : Type 0} where
  live-thread : (ms : List (GlobalAction J)) (s : StrandId) (k : ℕ) (l : List (StrandId × ℕ)) → lives (projection s ms) ≡ true → without_dead ms (without_thread s k l) ≡ without_thread s k (without_dead ms l)
  live-thread ms s k [] on = refl
  live-thread ms s k (e ∷ l) on = put (lives (projection e.0 ms)) refl (same_strand s e.0) refl (k == e.1) refl (live-thread ms s k l on)
    where
      put : (a : Bool) → lives (projection e.0 ms) ≡ a → (c : Bool) → same_strand s e.0 ≡ c → (d : Bool) → (k == e.1) ≡ d → without_dead ms (without_thread s k l) ≡ without_thread s k (without_dead ms l)
          → without_dead ms (if c && d then l else e ∷ without_thread s k l) ≡ without_thread s k (if a then e ∷ without_dead ms l else without_dead ms l)
      put true p true q true r ih = sym (ap (λ v. if v && (k == e.1) then without_dead ms l else e ∷ without_thread s k (without_dead ms l)) q ∙ ap (λ v. if v then without_dead ms l else e ∷ without_thread s k (without_dead ms l)) r)
      put true p true q false r ih = ap (λ v. if v then e ∷ without_dead ms (without_thread s k l) else without_dead ms (without_thread s k l)) p ∙ ap (λ r. e ∷ r) ih
          ∙ sym (ap (λ v. if v && (k == e.1) then without_dead ms l else e ∷ without_thread s k (without_dead ms l)) q ∙ ap (λ v. if v then without_dead ms l else e ∷ without_thread s k (without_dead ms l)) r)
      put true p false q d r ih = ap (λ v. if v then e ∷ without_dead ms (without_thread s k l) else without_dead ms (without_thread s k l)) p ∙ ap (λ r. e ∷ r) ih
          ∙ sym (ap (λ v. if v && (k == e.1) then without_dead ms l else e ∷ without_thread s k (without_dead ms l)) q)
      put false p true q d r ih = clash (subst (λ (t : StrandId). lives (projection t ms) ≡ true) (same_strand-eq s e.0 q) on) p
      put false p false q d r ih = ap (λ v. if v then e ∷ without_dead ms (without_thread s k l) else without_dead ms (without_thread s k l)) p ∙ ih

  -- the acts of a living strand put their threads, and places, in line
  pub live-lined : (ms : List (GlobalAction J)) (s : StrandId) (acts : List (Act J)) (l : List (StrandId × ℕ)) → lives (projection s ms) ≡ true → without_dead ms (lined s acts l) ≡ lined s acts (without_dead ms l)
  live-lined ms s [] l on = refl
  live-lined ms s (act.Ready k ∷ acts) l on = live-lined ms s acts (l ++ (s, k) ∷ []) on ∙ ap (lined s acts) (live-end ms l (s, k) on)
  live-lined ms s (act.Unready k ∷ acts) l on = live-lined ms s acts (without_thread s k l) on ∙ ap (lined s acts) (live-thread ms s k l on)
  live-lined ms s (a ∷ acts) l on = live-lined ms s acts l on

  pub live-placed : (ms : List (GlobalAction J)) (s : StrandId) (acts : List (Act J)) (l : List (StrandId × Place)) → lives (projection s ms) ≡ true → without_dead ms (placed s acts l) ≡ placed s acts (without_dead ms l)
  live-placed ms s [] l on = refl
  live-placed ms s (act.Offer q ∷ acts) l on = live-placed ms s acts (l ++ (s, q) ∷ []) on ∙ ap (placed s acts) (live-end ms l (s, q) on)
  live-placed ms s (a ∷ acts) l on = live-placed ms s acts l on

  -- and change nothing of the others
  pub lined-own : (s : StrandId) (acts : List (Act J)) (l : List (StrandId × ℕ)) → without_all s (lined s acts l) ≡ without_all s l
  lined-own s [] l = refl
  lined-own s (act.Ready k ∷ acts) l = lined-own s acts (l ++ (s, k) ∷ []) ∙ without-end s l k
  lined-own s (act.Unready k ∷ acts) l = lined-own s acts (without_thread s k l) ∙ without-thread-own s k l
  lined-own s (a ∷ acts) l = lined-own s acts l

  pub placed-own : (s : StrandId) (acts : List (Act J)) (l : List (StrandId × Place)) → without_all s (placed s acts l) ≡ without_all s l
  placed-own s [] l = refl
  placed-own s (act.Offer q ∷ acts) l = placed-own s acts (l ++ (s, q) ∷ []) ∙ without-end s l q
  placed-own s (a ∷ acts) l = placed-own s acts l

  -- what a strand arms is its own
  pub armed-own : (s : StrandId) (acts : List (Act J)) (l : List (Whose × ℕ)) → without_those (is_of s) (armed_with s acts l) ≡ without_those (is_of s) l
  armed-own s [] l = refl
  armed-own s (act.Arm k at ∷ acts) l = armed-own s acts (without_one (is_number s k) l ++ (OfStrand s k, at.0) ∷ []) ∙ those-end s k at.0 (without_one (is_number s k) l) ∙ those-one s k l
  armed-own s (act.Cancel k ∷ acts) l = armed-own s acts (without_one (is_number s k) l) ∙ those-one s k l
  armed-own s (a ∷ acts) l = armed-own s acts l

  -- none is so but one
  pub only-first : (is_so : List (LocalAction J) → Bool) (ss : List StrandId) (ms : List (GlobalAction J)) (s : StrandId) → ((t : StrandId) → same_strand t s ≡ false → is_so (projection t ms) ≡ false)
      → (first_in is_so ss ms ≡ None) ⊎ (first_in is_so ss ms ≡ Some s)
  only-first is_so [] ms s others = inl refl
  only-first is_so (t ∷ ss) ms s others = put (is_so (projection t ms)) refl (only-first is_so ss ms s others)
    where
      put : (c : Bool) → is_so (projection t ms) ≡ c → (first_in is_so ss ms ≡ None) ⊎ (first_in is_so ss ms ≡ Some s) → ((if c then Some t else first_in is_so ss ms) ≡ None) ⊎ ((if c then Some t else first_in is_so ss ms) ≡ Some s)
      put true e ih = by_test (same_strand t s) (λ on. inr (ap Some (same_strand-eq t s on))) (λ off. clash e (others t off))
      put false e ih = ih

module _ {J : Type 0} (b : Behavior J) (c : ℕ) (x : Action J) (ms : List (GlobalAction J)) where
  lives-next : lives (Did x ∷ projection (strand.Conn c) ms) ≡ lives (projection (strand.Conn c) ms) → (s : StrandId) → lives (projection s (Of (strand.Conn c) x None ∷ ms)) ≡ lives (projection s ms)
  lives-next same s = by_test (same_strand s (strand.Conn c))
      (λ on. ap (λ v. lives (if v then Did x ∷ projection s ms else projection s ms)) on ∙ subst (λ (t : StrandId). lives (Did x ∷ projection t ms) ≡ lives (projection t ms)) (sym (same_strand-eq s (strand.Conn c) on)) same)
      (λ off. ap (λ v. lives (if v then Did x ∷ projection s ms else projection s ms)) off)

  -- an action after which its strand lives as before
  pub still-dead : {A : Type 0} (l : List (StrandId × A)) → lives (Did x ∷ projection (strand.Conn c) ms) ≡ lives (projection (strand.Conn c) ms) → without_dead (Of (strand.Conn c) x None ∷ ms) l ≡ without_dead ms l
  still-dead l same = live-same ms (Of (strand.Conn c) x None ∷ ms) l (lives-next same)

  alive-next : lives (Did x ∷ projection (strand.Conn c) ms) ≡ true → lives (projection (strand.Conn c) (Of (strand.Conn c) x None ∷ ms)) ≡ true
  alive-next on = ap (λ v. lives (if v then Did x ∷ projection (strand.Conn c) ms else projection (strand.Conn c) ms)) (same-true c) ∙ on

  -- a turn begins with these acts
  pub runs-next : (acts : List (Act J)) (l : List (StrandId × ℕ)) → lives (Did x ∷ projection (strand.Conn c) ms) ≡ true → b.acts (Did x ∷ projection (strand.Conn c) ms) ≡ acts
      → without_dead (Of (strand.Conn c) x None ∷ ms) l ≡ after_run (strand.Conn c) x (run_queue b ms)
      → without_dead (Of (strand.Conn c) x None ∷ ms) (lined (strand.Conn c) acts l) ≡ run_queue b (Of (strand.Conn c) x None ∷ ms)
  runs-next acts l on gives h = live-lined (Of (strand.Conn c) x None ∷ ms) (strand.Conn c) acts l (alive-next on) ∙ ap (lined (strand.Conn c) acts) h ∙ ap (λ taken. lined (strand.Conn c) taken (after_run (strand.Conn c) x (run_queue b ms))) (sym gives)

  pub offers-next : (acts : List (Act J)) (l : List (StrandId × Place)) → lives (Did x ∷ projection (strand.Conn c) ms) ≡ true → b.acts (Did x ∷ projection (strand.Conn c) ms) ≡ acts
      → without_dead (Of (strand.Conn c) x None ∷ ms) l ≡ after_offer (strand.Conn c) x (offer_queue b ms)
      → without_dead (Of (strand.Conn c) x None ∷ ms) (placed (strand.Conn c) acts l) ≡ offer_queue b (Of (strand.Conn c) x None ∷ ms)
  offers-next acts l on gives h = live-placed (Of (strand.Conn c) x None ∷ ms) (strand.Conn c) acts l (alive-next on) ∙ ap (placed (strand.Conn c) acts) h ∙ ap (λ taken. placed (strand.Conn c) taken (after_offer (strand.Conn c) x (offer_queue b ms))) (sym gives)

  -- an action without acts that leaves the queues as they are
  pub runs-still : (l : List (StrandId × ℕ)) → lives (Did x ∷ projection (strand.Conn c) ms) ≡ lives (projection (strand.Conn c) ms) → b.acts (Did x ∷ projection (strand.Conn c) ms) ≡ []
      → after_run (strand.Conn c) x (run_queue b ms) ≡ run_queue b ms → without_dead ms l ≡ run_queue b ms → without_dead (Of (strand.Conn c) x None ∷ ms) l ≡ run_queue b (Of (strand.Conn c) x None ∷ ms)
  runs-still l same none keep h = still-dead l same ∙ h ∙ sym (ap (λ taken. lined (strand.Conn c) taken (after_run (strand.Conn c) x (run_queue b ms))) none ∙ keep)

  pub offers-still : (l : List (StrandId × Place)) → lives (Did x ∷ projection (strand.Conn c) ms) ≡ lives (projection (strand.Conn c) ms) → b.acts (Did x ∷ projection (strand.Conn c) ms) ≡ []
      → after_offer (strand.Conn c) x (offer_queue b ms) ≡ offer_queue b ms → without_dead ms l ≡ offer_queue b ms → without_dead (Of (strand.Conn c) x None ∷ ms) l ≡ offer_queue b (Of (strand.Conn c) x None ∷ ms)
  offers-still l same none keep h = still-dead l same ∙ h ∙ sym (ap (λ taken. placed (strand.Conn c) taken (after_offer (strand.Conn c) x (offer_queue b ms))) none ∙ keep)

  -- an action that ends the strand's life
  dies-next : lives (Did x ∷ projection (strand.Conn c) ms) ≡ false → (t : StrandId) → same_strand (strand.Conn c) t ≡ false → lives (projection t (Of (strand.Conn c) x None ∷ ms)) ≡ lives (projection t ms)
  dies-next off t ne = ap (λ v. lives (if v then Did x ∷ projection t ms else projection t ms)) (by_test (same_strand t (strand.Conn c)) (λ on. clash (subst (λ (r : StrandId). same_strand (strand.Conn c) r ≡ true) (sym (same_strand-eq t (strand.Conn c) on)) (same-true c)) ne) (λ no. no))

  pub without-next : {A : Type 0} (l next : List (StrandId × A)) → lives (Did x ∷ projection (strand.Conn c) ms) ≡ false → without_all (strand.Conn c) next ≡ without_all (strand.Conn c) l
      → without_dead (Of (strand.Conn c) x None ∷ ms) l ≡ without_all (strand.Conn c) (without_dead ms next)
  without-next l next off same = live-dies ms (Of (strand.Conn c) x None ∷ ms) (strand.Conn c) l (ap (λ v. lives (if v then Did x ∷ projection (strand.Conn c) ms else projection (strand.Conn c) ms)) (same-true c) ∙ off) (dies-next off)
      ∙ live-without ms (strand.Conn c) l ∙ ap (without_dead ms) (sym same) ∙ sym (live-without ms (strand.Conn c) next)
