-- Two actions that may come at the same point are the same, or the world decides between them.
use Rattle.std.specs.Prelude.{◌≡◌, ◌⊎◌, ℕ, Bool, true, false, List, [], ◌∷◌, ◌++◌, length, take, is_some, Option, Some, None, refl}
use Rattle.std.proofs.Common.{inl, inr, sym, ◌∙◌, ap, subst}
use Rattle.resty_base.specs.declared.names.StrandId.{StrandId}
use Rattle.strand_contract.specs.Actions.{Stop, Action, Put, Later, Lost, Log, Dial, Dropped, Did}
use Rattle.strand_contract.specs.Behaviors.{Behavior}
use Rattle.strand_contract.specs.Alone.{piece, Enabled}
use Rattle.strand_contract.specs.Laws.{IsQuiet}
use Rattle.executions.specs.Executions.{GlobalAction, Of, Everyone, IdleClosed, projection, has_given}
use Rattle.executions.specs.Lawful.{AllAtRest}
use Rattle.executions.specs.Plain.{dialled_as}
use Rattle.executions.specs.Histories.{entries_of}
use Rattle.executions.specs.NextActions.{Next, Does, Writes, Logs, Dials, Asks, next, IsAnswer, is_drop}
use Rattle.executions.specs.Beginnings.{IsBeginning}
use Rattle.executions.proofs.Strands.{clash, enabled}
use Rattle.executions.proofs.OneNext.{one-next, asks}
use Rattle.execution_laws.specs.Inputs.{Input, Gives, Takes, Delays, Loses, Records, Connects, inputs}
use Rattle.execution_laws.specs.Drops.{dropped_by}
use Rattle.execution_laws.specs.Givens.{given}
use Rattle.execution_laws.proofs.OneEvent.{one-event}

take-front : (xs r : List ℕ) → take (length xs) (xs ++ r) ≡ xs
take-front [] r = refl
take-front (x ∷ xs) r = ap (λ zs. x ∷ zs) (take-front xs r)

some-dialled : {J : Type 0} (done : Bool) (ms : List (GlobalAction J)) → is_some (dialled_as done ms) ≡ done
some-dialled true ms = refl
some-dialled false ms = refl

-- what two actions have in common that may come at one point: they are the same, or each has one thing in it that the world decides, and differs only where that does
abbrev pub Meet : {J I : Type 0} → GlobalAction J → GlobalAction J → List I → List I → Type 0
Meet {J} {I} m k is js = (m ≡ k) ⊎ ((i : I) × (j : I) × (is ≡ i ∷ []) × (js ≡ j ∷ []) × (i ≡ j → m ≡ k))

module _ {J : Type 0} (b : Behavior J) (quiet : IsQuiet b) where
  -- the action that answers what the world is asked
  abbrev pub reply : Next J → Input → List (GlobalAction J) → GlobalAction J
  reply (Does m) i ms = m
  reply (Writes s q) (Takes count) ms = Of s (Put q (take count (piece b q (projection s ms)))) None
  reply (Writes s q) Delays ms = Of s (Later q) None
  reply (Writes s q) i ms = Of s (Lost q) None
  reply (Logs s line) (Records done) ms = Of s (Log line done) None
  reply (Dials s host port) (Connects done) ms = Of s (Dial host port done) (dialled_as done ms)
  reply x (Gives e) ms = given b e ms
  reply x i ms = IdleClosed 0

  -- an action is the only one that may come, or the reply to an input
  abbrev Replies : GlobalAction J → Next J → List (GlobalAction J) → Type 0
  Replies m x ms = (x ≡ Does m) ⊎ ((i : Input) × (inputs (entries_of b m ms) ≡ i ∷ []) × (m ≡ reply x i ms))

  may : (s : StrandId) (x : Action J) (n : Option ℕ) (ms : List (GlobalAction J)) → IsBeginning b (Of s x n ∷ ms) → Enabled b (projection s ms) (Did x)
  may s x n ms run = enabled b quiet s x n ms (record { alone = run.alone; given = run.given; turns = run.ordered })

  pub comes : (m : GlobalAction J) (ms : List (GlobalAction J)) → IsBeginning b (m ∷ ms) → is_drop m ≡ false → IsAnswer m (next b ms)
  comes m ms run d = one-next b quiet m ms (record { alone = run.alone; given = run.given; turns = run.ordered }) run.begins.1 run.plain.1 d

  replies : (m : GlobalAction J) (x : Next J) (ms : List (GlobalAction J)) → IsBeginning b (m ∷ ms) → IsAnswer m x → Replies m x ms
  replies m (Does y) ms run h = inl (ap Does (sym h))
  replies (Of t (Put p bytes) n) (Writes s q) ms run h = let u = (may t (Put p bytes) n ms run).2 in inr (
    Takes (length bytes),
    refl,
    ap (λ n. Of t (Put p bytes) n) run.plain.1 ∙ ap (λ z. Of t (Put p z) None) (sym (take-front bytes u.0) ∙ ap (take (length bytes)) u.1)
        ∙ ap (λ z. Of t (Put z (take (length bytes) (piece b z (projection t ms)))) None) h.1 ∙ ap (λ z. Of z (Put q (take (length bytes) (piece b q (projection z ms)))) None) h.0,
  )
  replies (Of t (Later p) n) (Writes s q) ms run h = inr (Delays, refl, ap (λ n. Of t (Later p) n) run.plain.1 ∙ ap (λ z. Of z (Later p) None) h.0 ∙ ap (λ z. Of s (Later z) None) h.1)
  replies (Of t (Lost p) n) (Writes s q) ms run h = inr (Loses, refl, ap (λ n. Of t (Lost p) n) run.plain.1 ∙ ap (λ z. Of z (Lost p) None) h.0 ∙ ap (λ z. Of s (Lost z) None) h.1)
  replies (Of t (Log text done) n) (Logs s line) ms run h = inr (Records done, refl, ap (λ n. Of t (Log text done) n) run.plain.1 ∙ ap (λ z. Of z (Log text done) None) h.0 ∙ ap (λ z. Of s (Log z done) None) h.1)
  replies (Of t (Dial a p done) n) (Dials s host port) ms run h = inr (
    Connects done,
    ap (λ o. Connects (is_some o) ∷ []) run.plain.1 ∙ ap (λ c. Connects c ∷ []) (some-dialled done ms),
    ap (λ n. Of t (Dial a p done) n) run.plain.1 ∙ ap (λ z. Of z (Dial a p done) (dialled_as done ms)) h.0
        ∙ ap (λ z. Of s (Dial z p done) (dialled_as done ms)) h.1 ∙ ap (λ z. Of s (Dial host z done) (dialled_as done ms)) h.2,
  )
  replies m Asks ms run h = let e = one-event b quiet m ms run h in inr (Gives e.0, e.1, e.3)
  replies m (Writes s q) ms run h = absurd h
  replies m (Logs s line) ms run h = absurd h
  replies m (Dials s host port) ms run h = absurd h

  pub does-same : (x : Next J) (m k : GlobalAction J) → x ≡ Does m → x ≡ Does k → m ≡ k
  does-same x m k e f = let g : Does m ≡ Does k = sym e ∙ f in cc

  undropped-meet : (m k : GlobalAction J) (ms : List (GlobalAction J)) → IsBeginning b (m ∷ ms) → IsBeginning b (k ∷ ms) → is_drop m ≡ false → is_drop k ≡ false
      → Meet m k (inputs (entries_of b m ms)) (inputs (entries_of b k ms))
  undropped-meet m k ms f g dm dk = elim (replies m (next b ms) ms f (comes m ms f dm)) [
    | inl u ↦ elim (replies k (next b ms) ms g (comes k ms g dk)) [
      | inl v ↦ inl (does-same (next b ms) m k u v)
      | inr v ↦ inl (sym (v.2 ∙ ap (λ x. reply x v.0 ms) u))
    ]
    | inr u ↦ elim (replies k (next b ms) ms g (comes k ms g dk)) [
      | inl v ↦ inl (u.2 ∙ ap (λ x. reply x u.0 ms) v)
      | inr v ↦ inr (u.0, v.0, u.1, v.1, λ e. u.2 ∙ ap (λ i. reply (next b ms) i ms) e ∙ sym v.2)
    ]
  ]

  -- an action drops a strand or doesn't
  abbrev pub Drops : GlobalAction J → Type 0
  Drops m = (is_drop m ≡ false) ⊎ ((s : StrandId) × (n : Option ℕ) × (m ≡ Of s Dropped n))

  pub drops-or-not : (m : GlobalAction J) → Drops m
  drops-or-not (Of s Dropped n) = inr (s, n, refl)
  drops-or-not (Of s x n) = inl refl
  drops-or-not m = inl refl

  pub drops-none : (m : GlobalAction J) → is_drop m ≡ false → dropped_by m ≡ None
  drops-none (Of s Dropped n) h = clash true refl h
  drops-none (Of s x n) h = refl
  drops-none m h = refl

  pub not-dropped : (m : GlobalAction J) → dropped_by m ≡ None → is_drop m ≡ false
  not-dropped (Of s Dropped n) h = absurd (let f : Some s ≡ None = h in cc)
  not-dropped (Of s x n) h = refl
  not-dropped m h = refl

  abbrev drop : StrandId → Option ℕ → GlobalAction J
  drop s n = Of s Dropped n

  -- two drops are the same where they are of one strand
  both-drop : (s t : StrandId) (n o : Option ℕ) (ms : List (GlobalAction J)) → IsBeginning b (drop s n ∷ ms) → IsBeginning b (drop t o ∷ ms) → Some s ≡ Some t → drop s n ≡ drop t o
  both-drop s t n o ms f g e = let u : s ≡ t = (let v : Some s ≡ Some t = e in cc) in
      ap (drop s) f.plain.1 ∙ ap (λ z. drop z None) u ∙ sym (ap (drop t) g.plain.1)

  one-drops : (m : GlobalAction J) (s : StrandId) → Some s ≡ dropped_by m → is_drop m ≡ false → ⊥
  one-drops m s e d = let f : Some s ≡ None = e ∙ drops-none m d in cc

  pub meet : (m k : GlobalAction J) (ms : List (GlobalAction J)) → IsBeginning b (m ∷ ms) → IsBeginning b (k ∷ ms) → dropped_by m ≡ dropped_by k
      → Meet m k (inputs (entries_of b m ms)) (inputs (entries_of b k ms))
  meet m k ms f g e = elim (drops-or-not m) [
    | inl dm ↦ elim (drops-or-not k) [
      | inl dk ↦ undropped-meet m k ms f g dm dk
      | inr w ↦ absurd (one-drops m w.0 (sym (e ∙ ap dropped_by w.2)) dm)
    ]
    | inr v ↦ elim (drops-or-not k) [
      | inl dk ↦ absurd (one-drops k v.0 (sym (ap dropped_by v.2) ∙ e) dk)
      | inr w ↦ inl (v.2 ∙ both-drop v.0 w.0 v.1 w.1 ms (subst-head v.2 f) (subst-head w.2 g) (sym (ap dropped_by v.2) ∙ e ∙ ap dropped_by w.2) ∙ sym w.2)
    ]
  ]
    where
      subst-head : {x y : GlobalAction J} → x ≡ y → IsBeginning b (x ∷ ms) → IsBeginning b (y ∷ ms)
      subst-head e f = subst (λ (z : GlobalAction J). IsBeginning b (z ∷ ms)) e f

  -- where all are at rest only a given event comes, or a drop
  rest-given : (k : GlobalAction J) (x : Next J) → IsAnswer (Everyone Stop) x → IsAnswer k x → has_given k ≡ true
  rest-given k (Does y) h g = ap has_given (g ∙ sym h)
  rest-given k Asks h g = g
  rest-given k (Writes s q) h g = absurd h
  rest-given k (Logs s line) h g = absurd h
  rest-given k (Dials s host port) h g = absurd h

  pub given-at-rest : (k : GlobalAction J) (ms : List (GlobalAction J)) → IsBeginning b (k ∷ ms) → AllAtRest b ms → is_drop k ≡ false → has_given k ≡ true
  given-at-rest k ms run rest d = rest-given k (next b ms) (asks b quiet (Everyone Stop) ms rest refl) (comes k ms run d)
