-- The turns of the plan, where they come, are those of the strand.
use Rattle.std.proofs.Common.{◌≡◌, ℕ, ◌-◌, ◌%◌, zero, suc, Bool, true, false, ◌&&◌, List, [], ◌∷◌, ◌++◌, drop, take, length, if◌then◌else◌, refl, sym, ap, ◌∙◌, subst, append-nil}
use Rattle.strand_contract.specs.declared.turns.Place.{Place}
use Rattle.strand_contract.specs.declared.turns.Place.TheVariants as place
use Rattle.strand_contract.specs.declared.turns.Act.{Act}
use Rattle.strand_contract.specs.declared.turns.Seen.{Seen}
use Rattle.strand_contract.specs.declared.turns.Seen.TheVariants as seen
use Rattle.strand_contract.specs.Calls.{action_of}
use Rattle.strand_contract.specs.Actions.{LocalAction, Did, Bytes, Ended, Broken, Ready, Put, Later, Lost, Run, Due, Halted}
use Rattle.strand_contract.specs.Alone.{moment, piece, todo, lives, was_dropped, IsExecution}
use Rattle.strand_plans.specs.Ledgers.{has, left_at, entered}
use Rattle.strand_plans.specs.Plans.{state_of}
use Rattle.strand_plans.proofs.Calls.{IsCalled}
use Rattle.strand_plans.proofs.Calls as calls
use Rattle.strand_plans.proofs.PlanLaws.{piece-is, undropped}
use Rattle.strand_plans.proofs.Executions.{quiet}
use Rattle.strand_plans.proofs.ClientAlone.{alone, is-client}
use Rattle.strand_plans.proofs.Tidy.{none-tidy}
use Rattle.strand_scripts.specs.declared.program.Site.{Site}
use Rattle.strand_scripts.specs.declared.strand.ScriptStrand.{ScriptStrand}
use Rattle.strand_scripts.specs.declared.strand.Wait.{Wait}
use Rattle.strand_scripts.specs.declared.strand.Wait.TheVariants.{Going, Sleeping}
use Rattle.strand_scripts.specs.Lines.{next_piece}
use Rattle.strand_scripts.specs.Scripted.{script_plan, script_behavior}
use Rattle.strand_scripts.specs.Turns.{Turn, turn, strand_after, lost, took, took_some, offered_again, shown}
use Rattle.strand_scripts.specs.ConditionLaws.{queue_of, IsScripted, nothing, meets, runs-going, due-sleeping}
use Rattle.strand_scripts.proofs.Steps.{IsOne, ends, hearing, hearing-end, taking, running}

module _ {J : Type 0} (site : Site) (es : List (LocalAction J)) where
  -- the action's turn comes to this
  abbrev TurnsTo : LocalAction J → Turn J → Type 0
  TurnsTo a t = t ≡ turn (strand_after site (a ∷ es)) ((script_behavior site).acts (a ∷ es))

  abbrev Called : LocalAction J → Type 0
  Called a = IsCalled (script_plan site) IsScripted a es

  pub call : (s : Seen) → IsExecution (script_behavior site) (Did (action_of (script_behavior site) es s) ∷ es) → Called (Did (action_of (script_behavior site) es s))
  call s f = calls.shown (script_plan site) IsScripted nothing (meets J site) s es f

  one-line : IsExecution (script_behavior site) es → was_dropped es ≡ false → IsOne (state_of (script_plan site) es).ledger
  one-line f d = alone (script_plan site) IsScripted nothing (meets J site) (λ q h. h) es f d

  pub at-client : (q : Place) → IsExecution (script_behavior site) es → was_dropped es ≡ false → has q (state_of (script_plan site) es).ledger.opened ≡ true → q ≡ place.Client
  at-client q f d h = is-client (state_of (script_plan site) es).ledger.opened q (one-line f d) h

  -- the piece is the next of what is held
  pub piece-here : IsExecution (script_behavior site) es → lives es ≡ true → todo (script_behavior site) es ≡ [] → has place.Client (state_of (script_plan site) es).ledger.opened ≡ true
      → next_piece (strand_after site es).line ≡ piece (script_behavior site) place.Client es
  piece-here f l t o = sym (piece-is (script_plan site) IsScripted nothing (meets J site) es place.Client f l t ∙ rw o refl)

  none-more : (c : Bool) (xs : List ℕ) → (if c && true then xs ++ [] else xs) ≡ xs
  none-more true xs = append-nil xs
  none-more false xs = refl

  and-true : (c : Bool) → (c && true) ≡ c
  and-true true = refl
  and-true false = refl

  ready-here : (state_of (script_plan site) es).ledger.places ≡ [] → TurnsTo (Did (Ready place.Client)) (offered_again (strand_after site es) [])
  ready-here none =
      let b = (state_of (script_plan site) es).ledger in
      rw (none-more (has place.Client b.opened) (b.sent place.Client), none, and-true) refl

  took-here : (bytes : List ℕ) → IsOne (state_of (script_plan site) es).ledger → TurnsTo (Did (Put place.Client bytes)) (took_some (length bytes) (strand_after site es) [])
  took-here bytes one = let st = state_of (script_plan site) es in taking (entered (Did (Put place.Client bytes)) st.ledger) st.inner.wait st.inner.rest one

  due-here : (n : ℕ) → (state_of (script_plan site) es).ledger.threads ≡ [] → TurnsTo (Did (Due n)) (shown site (moment es) (seen.Due n) (strand_after site es) [])
  due-here n none = rw none refl

  slept : (w : Wait) (ks : List ℕ) → w ≡ Sleeping → ks ≡ queue_of w → ks ≡ []
  slept w ks e h = h ∙ ap queue_of e

  went : (w : Wait) (ks : List ℕ) → w ≡ Going → ks ≡ queue_of w → drop 1 ks ≡ []
  went w ks e h = ap (drop 1) (h ∙ ap queue_of e)

  run-here : (k : ℕ) (f : IsExecution (script_behavior site) (Did (Run k) ∷ es)) → TurnsTo (Did (Run k)) (shown site (moment es) (seen.Run k) (strand_after site es) [])
  run-here k f =
      let st = state_of (script_plan site) es in
      let b = entered (Did (Run k)) st.ledger in
      let c = call (seen.Run k) f in
      running (moment es) st.inner.rest b st.inner [] (record {
        queue = went st.inner.wait st.ledger.threads (runs-going st.inner.wait k st.ledger.threads c.inner.queue c.comes.0) c.inner.queue;
        unbegun = refl;
        tidy = none-tidy st.ledger c.tidy;
        served = c.settled f.1.0.no_offer place.Client;
        one = one-line f.0 c.undropped;
      })

  pub turns : (s : Seen) → IsExecution (script_behavior site) (Did (action_of (script_behavior site) es s) ∷ es)
      → TurnsTo (Did (action_of (script_behavior site) es s)) (shown site (moment es) s (strand_after site es) [])
  turns (seen.Bytes q bytes) f =
      let st = state_of (script_plan site) es in
      hearing site bytes (entered (Did (Bytes q bytes)) st.ledger) st.inner.wait st.inner.rest (call (seen.Bytes q bytes) f).inner.queue
  turns (seen.Ended q) f =
      let st = state_of (script_plan site) es in
      hearing-end (entered (Did (Ended q)) st.ledger) st.inner.wait st.inner.rest (one-line f.0 (call (seen.Ended q) f).undropped)
  turns (seen.Broken q) f =
      let st = state_of (script_plan site) es in
      ends (entered (Did (Broken q)) st.ledger) st.inner [] (one-line f.0 (call (seen.Broken q) f).undropped)
  turns (seen.Ready q) f =
      let k = call (seen.Ready q) f in
      subst (λ r. TurnsTo (Did (Ready r)) (offered_again (strand_after site es) [])) (sym (at-client q f.0 k.undropped k.comes.opened)) (ready-here k.comes.free.no_place)
  turns (seen.Took q n) f =
      let b = script_behavior site in
      let k = call (seen.Took q n) f in
      let e = at-client q f.0 k.undropped k.comes.taking.opened in
      let o = subst (λ r. has r (state_of (script_plan site) es).ledger.opened ≡ true) e k.comes.taking.opened in
      let p = piece-here f.0 f.1.0.living f.1.0.no_act o in
      subst (λ r. TurnsTo (Did (Put r (take n (piece b r es)))) (took n (strand_after site es) [])) (sym e)
      (ap (λ xs. took_some (length (take n xs)) (strand_after site es) []) p ∙ took-here (take n (piece b place.Client es)) (one-line f.0 k.undropped))
  turns (seen.Later q) f =
      let k = call (seen.Later q) f in
      subst (λ r. TurnsTo (Did (Later r)) (shown site (moment es) (seen.Later r) (strand_after site es) [])) (sym (at-client q f.0 k.undropped k.comes.opened)) refl
  turns (seen.Lost q) f =
      let st = state_of (script_plan site) es in
      let k = call (seen.Lost q) f in
      subst (λ r. TurnsTo (Did (Lost r)) (lost (strand_after site es) [])) (sym (at-client q f.0 k.undropped k.comes.opened))
      (ends (entered (Did (Lost place.Client)) st.ledger) st.inner [] (one-line f.0 k.undropped))
  turns (seen.Dialled n) f = refl
  turns (seen.Refused n) f = refl
  turns (seen.Due n) f =
      let st = state_of (script_plan site) es in
      let k = call (seen.Due n) f in
      due-here n (slept st.inner.wait st.ledger.threads (due-sleeping st.inner.wait (moment es) st.ledger.armed _ k.inner.armed k.comes.first) k.inner.queue)
  turns (seen.Run k) f = run-here k f
  turns seen.Stop f =
      let st = state_of (script_plan site) es in
      ends (entered (Did Halted) st.ledger) st.inner [] (one-line f.0 (call seen.Stop f).undropped)

  -- what is offered next
  take-none : (n : ℕ) → take {A = ℕ} n [] ≡ []
  take-none zero = refl
  take-none (suc n) = refl

  take-if : (n : ℕ) (c : Bool) (xs : List ℕ) → take n (if c then xs else []) ≡ (if c then take n xs else [])
  take-if n true xs = refl
  take-if n false xs = take-none n

  pub piece-there : IsExecution (script_behavior site) es → lives es ≡ true → todo (script_behavior site) es ≡ []
      → (let h = (strand_after site es).line in if h.opened then next_piece h else []) ≡ piece (script_behavior site) place.Client es
  piece-there f l t =
      let b = (state_of (script_plan site) es).ledger in
      sym (piece-is (script_plan site) IsScripted nothing (meets J site) es place.Client f l t ∙ take-if (16_384 - b.taken place.Client % 16_384) (has place.Client b.opened) (left_at place.Client b))

  no-socket : (c : Bool) (k : ℕ) → has (place.Sock k) (if c then place.Client ∷ [] else []) ≡ false
  no-socket true k = refl
  no-socket false k = refl

  pub no-piece : (k : ℕ) → IsExecution (script_behavior site) es → lives es ≡ true → todo (script_behavior site) es ≡ [] → [] ≡ piece (script_behavior site) (place.Sock k) es
  no-piece k f l t =
      let b = (state_of (script_plan site) es).ledger in
      let one = one-line f (undropped (script_behavior site) (quiet (script_plan site)) es f l) in
      sym (piece-is (script_plan site) IsScripted nothing (meets J site) es (place.Sock k) f l t
      ∙ rw (ap (has (place.Sock k)) one ∙ no-socket (has place.Client b.opened) k) (take-none (16_384 - b.taken (place.Sock k) % 16_384)))

pub follows : {J : Type 0} (site : Site) (es : List (LocalAction J)) (s : Seen) (now : ℕ) (old new : ScriptStrand) (acts : List (Act J)) → old ≡ strand_after site es → now ≡ moment es
    → (let b = script_behavior site in IsExecution b (Did (action_of b es s) ∷ es) → turn new acts ≡ shown site now s old []
    → (new ≡ strand_after site (Did (action_of b es s) ∷ es)) × (acts ≡ b.acts (Did (action_of b es s) ∷ es)))
follows {J} site es s now old new acts stands at f went =
    let b = script_behavior site in
    let e : turn new acts ≡ turn (strand_after site (Did (action_of b es s) ∷ es)) (b.acts (Did (action_of b es s) ∷ es)) =
    went ∙ ap (λ h. shown site now s h []) stands ∙ ap (λ n. shown site n s (strand_after site es) []) at ∙ turns site es s f in
    (ap (λ (t : Turn J). t.strand) e, ap (λ (t : Turn J). t.acts) e)
