-- Connections and jobs don't know their numbers.
use Rattle.std.proofs.Common.{◌≡◌, ℕ, Bool, false, List, [], ◌∷◌, ◌++◌, refl, sym, ap, ◌∙◌}
use Rattle.resty_base.specs.declared.names.StrandId.{StrandId}
use Rattle.strand_contract.specs.declared.turns.Start.TheVariants as start
use Rattle.strand_contract.specs.Actions.{LocalAction, Did, Began}
use Rattle.strand_contract.specs.Behaviors.{Behavior}
use Rattle.strand_contract.specs.Alone.{moment, was_dropped}
use Rattle.strand_plans.specs.Moves.{State, Performed}
use Rattle.strand_plans.specs.Plans.{stepped, state_of, acts_of}
use Rattle.strand_plans.proofs.Executions.{quiet}
use Rattle.executions.specs.Executions.{GlobalAction, projection}
use Rattle.executions.specs.Histories.{part, without_internal}
use Rattle.executions.specs.Lawful.{IsLawful}
use Rattle.execution_laws.specs.StrandInputs.{gave}
use Rattle.execution_laws.proofs.Worlds.{gave-shown, dropped-shown}
use Rattle.connection_plan.specs.Services.{Service, Both}
use Rattle.connection_plan.specs.Connections.{connection_plan, connection_behavior}
use Rattle.connection_laws.specs.Numbers.{DoTheSame, with_number, renumbered}
use Rattle.connection_laws.proofs.Alike.{same-of, moment-on}
use Rattle.connection_laws.proofs.Renumbering.{one-renumbered, renumbered-shown}

-- what does the same as the same does the same
through : {J : Type 0} (b : Behavior J) (es fs xs ys : List (LocalAction J)) → DoTheSame b xs es → xs ≡ ys → DoTheSame b ys fs → DoTheSame b es fs
through b es fs xs ys h e i = record { acts = sym h.acts ∙ ap b.acts e ∙ i.acts; sent = λ q. sym (h.sent q) ∙ ap (b.sent q) e ∙ i.sent q }

-- lists that differ in the number of the oldest action are the same once renumbered
renumbered-end : {J : Type 0} (n : ℕ) (x y : LocalAction J) (es : List (LocalAction J)) → with_number n x ≡ with_number n y → renumbered n (es ++ x ∷ []) ≡ renumbered n (es ++ y ∷ [])
renumbered-end n x y [] e = ap (λ a. a ∷ []) e
renumbered-end n x y (a ∷ es) e = ap (λ l. with_number n a ∷ l) (renumbered-end n x y es e)

module _ {J R : Type 0} (site : Service J R) where
  -- the moment, and what the connection came to
  record CameToTheSame (es fs : List (LocalAction J)) : Type 0 where
    moment_is : moment es ≡ moment fs
    state_is : state_of (connection_plan site) es ≡ state_of (connection_plan site) fs
    acts_are : acts_of (connection_plan site) es ≡ acts_of (connection_plan site) fs

  came : (n : ℕ) (es : List (LocalAction J)) → CameToTheSame (renumbered n es) es
  came n [] = record { moment_is = refl; state_is = refl; acts_are = refl }
  came n (a ∷ es) =
      let fs = renumbered n es in
      let x = with_number n a in
      let h = came n es in
      let same : moment (x ∷ fs) ≡ moment (a ∷ es) = moment-on n a fs es h.moment_is in
      let step : stepped (connection_plan site) (moment (x ∷ fs)) x (state_of (connection_plan site) fs) ≡ stepped (connection_plan site) (moment (a ∷ es)) a (state_of (connection_plan site) es) =
      ap (λ (now : ℕ). stepped (connection_plan site) now x (state_of (connection_plan site) fs)) same
      ∙ ap (λ (st : State J (Both R)). stepped (connection_plan site) (moment (a ∷ es)) x st) h.state_is
      ∙ same-of n (λ (c : LocalAction J). stepped (connection_plan site) (moment (a ∷ es)) c (state_of (connection_plan site) es)) a (λ now c. refl) (λ now j premature job. refl) in
      record {
        moment_is = same;
        state_is = ap (λ (p : Performed J (Both R)). p.state) step;
        acts_are = ap (λ (p : Performed J (Both R)). p.acts) step;
      }

  -- under another number it does the same
  does-the-same : (n : ℕ) (es : List (LocalAction J)) → DoTheSame (connection_behavior site) (renumbered n es) es
  does-the-same n es = let h = came n es in record { acts = h.acts_are; sent = λ q. ap (λ (st : State J (Both R)). st.ledger.sent q) h.state_is }

  pub clients-alike : (es : List (LocalAction J)) (now c d : ℕ) → DoTheSame (connection_behavior site) (es ++ Did (Began now (start.Client c)) ∷ []) (es ++ Did (Began now (start.Client d)) ∷ [])
  clients-alike es now c d = through (connection_behavior site) _ _ _ _ (does-the-same 0 (es ++ Did (Began now (start.Client c)) ∷ [])) (renumbered-end 0 (Did (Began now (start.Client c))) (Did (Began now (start.Client d))) es refl)
      (does-the-same 0 (es ++ Did (Began now (start.Client d)) ∷ []))

  pub jobs-alike : (es : List (LocalAction J)) (now m n : ℕ) (premature : Bool) (job : J)
      → DoTheSame (connection_behavior site) (es ++ Did (Began now (start.Job m premature job)) ∷ []) (es ++ Did (Began now (start.Job n premature job)) ∷ [])
  jobs-alike es now m n premature job = through (connection_behavior site) _ _ _ _ (does-the-same 0 (es ++ Did (Began now (start.Job m premature job)) ∷ []))
      (renumbered-end 0 (Did (Began now (start.Job m premature job))) (Did (Began now (start.Job n premature job))) es refl) (does-the-same 0 (es ++ Did (Began now (start.Job n premature job)) ∷ []))

  pub same-part-renumbered : (ms ns : List (GlobalAction J)) (s t : StrandId) (n : ℕ) → IsLawful (connection_behavior site) ms → IsLawful (connection_behavior site) ns
      → was_dropped (part s ms) ≡ false → was_dropped (part t ns) ≡ false → gave (renumbered n (part s ms)) ≡ gave (part t ns) → renumbered n (part s ms) ≡ part t ns
  same-part-renumbered ms ns s t n f g v w e =
      let es = projection s ms in
      let fs = projection t ns in
      let shown : renumbered n (part s ms) ≡ without_internal (renumbered n es) = renumbered-shown n es in
      let given : gave (renumbered n es) ≡ gave fs = sym (gave-shown (renumbered n es)) ∙ ap (λ (l : List (LocalAction J)). gave l) (sym shown) ∙ e ∙ gave-shown fs in
      shown ∙ ap without_internal (one-renumbered (connection_behavior site) n (does-the-same n) es fs (quiet (connection_plan site)) (f.alone s) (g.alone t)
      (sym (dropped-shown es) ∙ v) (sym (dropped-shown fs) ∙ w) (f.rests.each s) (g.rests.each t) given)
