-- What is decided, and where strands are dropped, determines an execution.
use Rattle.std.specs.Prelude.{◌≡◌, ◌<◌, List, [], ◌∷◌, ◌++◌, length, None, refl}
use Rattle.std.proofs.Common.{arith, inl, inr, sym, ◌∙◌, ap, subst}
use Rattle.std.proofs.lemmas.List.{append_cancel_right, append_assoc, length-append}
use Rattle.strand_contract.specs.Behaviors.{Behavior}
use Rattle.executions.specs.Executions.{GlobalAction}
use Rattle.executions.specs.Lawful.{AllAtRest}
use Rattle.execution_laws.specs.Drops.{dropped_by, dropped_at, DropAlike, DropAlikeSoFar}
use Rattle.execution_laws.proofs.Walks.{ending, last-same, NeverPart, fits}
use Rattle.execution_laws.proofs.DropPoints.{longer, at-length, beyond}
use Rattle.execution_laws.proofs.OneAction.{Meet}

-- of each action, what is decided with it; two actions differ only where that does, and at rest something is decided
module _ {J I : Type 0} (b : Behavior J) (decided : GlobalAction J → List (GlobalAction J) → List I) where
  -- what is decided with all actions, the newest first
  abbrev pub all_decided : List (GlobalAction J) → List I
  all_decided [] = []
  all_decided (m ∷ ms) = decided m ms ++ all_decided ms

  pub record Decides (Comes : List (GlobalAction J) → Type 0) : Type 0 where
    pub older : (m : GlobalAction J) (ms : List (GlobalAction J)) → Comes (m ∷ ms) → Comes ms
    pub meet : (m k : GlobalAction J) (ms : List (GlobalAction J)) → Comes (m ∷ ms) → Comes (k ∷ ms) → dropped_by m ≡ dropped_by k → Meet m k (decided m ms) (decided k ms)
    pub rests : (m : GlobalAction J) (ms : List (GlobalAction J)) → Comes (m ∷ ms) → AllAtRest b ms → dropped_by m ≡ None → (i : I) × (decided m ms ≡ i ∷ [])

  module _ (Comes : List (GlobalAction J) → Type 0) (d : Decides Comes) where
    older-all : (xs ms : List (GlobalAction J)) → Comes (xs ++ ms) → Comes ms
    older-all [] ms r = r
    older-all (x ∷ xs) ms r = older-all xs ms (d.older x (xs ++ ms) r)

    decided-after : (xs ms : List (GlobalAction J)) → (is : List I) × (all_decided (xs ++ ms) ≡ is ++ all_decided ms)
    decided-after [] ms = ([], refl)
    decided-after (x ∷ xs) ms = let r = decided-after xs ms in
        (decided x (xs ++ ms) ++ r.0, ap (λ l. decided x (xs ++ ms) ++ l) r.1 ∙ sym (append_assoc (decided x (xs ++ ms)) r.0 (all_decided ms)))

    -- after the same both go on with the same
    same-after : (us vs zs : List (GlobalAction J)) (m k : GlobalAction J) (more : List I) → Comes (us ++ m ∷ zs) → Comes (vs ++ k ∷ zs)
        → more ++ all_decided (us ++ m ∷ zs) ≡ all_decided (vs ++ k ∷ zs) → dropped_by m ≡ dropped_by k → m ≡ k
    same-after us vs zs m k more f g e drop = elim (d.meet m k zs (older-all us (m ∷ zs) f) (older-all vs (k ∷ zs) g) drop) [
      | inl same ↦ same
      | inr w ↦ (let p = decided-after us (m ∷ zs) in
          let q = decided-after vs (k ∷ zs) in
          let left : more ++ all_decided (us ++ m ∷ zs) ≡ ((more ++ p.0) ++ w.0 ∷ []) ++ all_decided zs =
          ap (λ l. more ++ l) (p.1 ∙ ap (λ l. p.0 ++ (l ++ all_decided zs)) w.2) ∙ sym (append_assoc more p.0 (w.0 ∷ all_decided zs)) ∙ sym (append_assoc (more ++ p.0) (w.0 ∷ []) (all_decided zs)) in
          let right : all_decided (vs ++ k ∷ zs) ≡ (q.0 ++ w.1 ∷ []) ++ all_decided zs = q.1 ∙ ap (λ l. q.0 ++ (l ++ all_decided zs)) w.3 ∙ sym (append_assoc q.0 (w.1 ∷ []) (all_decided zs)) in
          w.4 (last-same w.0 w.1 (more ++ p.0) q.0 (append_cancel_right ((more ++ p.0) ++ w.0 ∷ []) (q.0 ++ w.1 ∷ []) (all_decided zs) (sym left ∙ e ∙ right))))
    ]

    never-part : (ms ns : List (GlobalAction J)) (more : List I) → Comes ms → Comes ns → DropAlikeSoFar ms ns → more ++ all_decided ms ≡ all_decided ns → NeverPart ms ns
    never-part ms ns more f g drop e us vs zs m k u v = same-after us vs zs m k more (subst Comes (sym u) f) (subst Comes (sym v) g)
        (ap (λ l. more ++ all_decided l) u ∙ e ∙ ap all_decided (sym v))
        (sym (at-length us m zs) ∙ ap (dropped_at (length zs)) u ∙ drop (length zs) (subst (λ l. length zs < length l) u (longer us m zs)) ∙ ap (dropped_at (length zs)) (sym v) ∙ at-length vs k zs)

    -- where all are at rest nothing comes with no more decided
    no-more : (ms xs : List (GlobalAction J)) (more : List I) → Comes (xs ++ ms) → AllAtRest b ms → DropAlikeSoFar (xs ++ ms) ms → more ++ all_decided (xs ++ ms) ≡ all_decided ms → xs ≡ []
    no-more ms xs more f rest drop e = elim (ending xs) [
      | inl z ↦ z
      | inr z ↦ (let k = z.1 in
          let at : z.0 ++ (k ∷ ms) ≡ xs ++ ms = sym (append_assoc z.0 (k ∷ []) ms) ∙ ap (λ l. l ++ ms) (sym z.2) in
          let none = sym (at-length z.0 k ms) ∙ ap (dropped_at (length ms)) at ∙ drop (length ms) (subst (λ l. length ms < length l) at (longer z.0 k ms)) ∙ beyond (length ms) ms (omega arith) in
          let w = d.rests k ms (older-all z.0 (k ∷ ms) (subst Comes (sym at) f)) rest none in
          let r = decided-after z.0 (k ∷ ms) in
          let whole : more ++ (r.0 ++ (w.0 ∷ all_decided ms)) ≡ all_decided ms =
          ap (λ l. more ++ (r.0 ++ (l ++ all_decided ms))) (sym w.1) ∙ ap (λ l. more ++ l) (sym r.1) ∙ ap (λ l. more ++ all_decided l) at ∙ e in
          let p = ap length whole in
          let q = length-append more (r.0 ++ (w.0 ∷ all_decided ms)) in
          let s = length-append r.0 (w.0 ∷ all_decided ms) in
          absurd (omega (arith, p, q, s)))
    ]

    pub begins-it : (ms ns : List (GlobalAction J)) (more : List I) → Comes ms → Comes ns → AllAtRest b ns → DropAlikeSoFar ms ns → more ++ all_decided ms ≡ all_decided ns
        → (later : List (GlobalAction J)) × (later ++ ms ≡ ns)
    begins-it ms ns more f g rest drop e = elim (fits ms ns (never-part ms ns more f g drop e)) [
      | inl w ↦ w
      | inr w ↦ (let z = no-more ns w.0 more (subst Comes (sym w.1) f) rest (subst (λ l. DropAlikeSoFar l ns) (sym w.1) drop) (ap (λ l. more ++ all_decided l) w.1 ∙ e) in
          ([], sym w.1 ∙ ap (λ l. l ++ ns) z))
    ]

    pub one-history : (ms ns : List (GlobalAction J)) → Comes ms → Comes ns → AllAtRest b ms → AllAtRest b ns → DropAlike ms ns → all_decided ms ≡ all_decided ns → ms ≡ ns
    one-history ms ns f g rf rg drop e =
        let w = begins-it ms ns [] f g rg (λ index below. drop index) e in
        let z = no-more ms w.0 [] (subst Comes (sym w.1) g) rf (subst (λ l. DropAlikeSoFar l ms) (sym w.1) (λ index below. sym (drop index))) (ap all_decided w.1 ∙ sym e) in
        ap (λ l. l ++ ms) (sym z) ∙ w.1
