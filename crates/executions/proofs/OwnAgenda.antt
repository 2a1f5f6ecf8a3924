-- The agenda of all, cut to a strand that lives, is what the strand alone has armed.
use Rattle.std.specs.Prelude.{◌≡◌, ℕ, ◌==◌, ◌&&◌, Bool, true, false, List, [], ◌∷◌, ◌++◌, Option, Some, None, if◌then◌else◌, refl}
use Rattle.std.proofs.Common.{sym, ◌∙◌, ap, subst}
use Rattle.std.proofs.lemmas.List.{append-nil}
use Rattle.resty_base.specs.declared.names.Ms.{Ms}
use Rattle.resty_base.specs.declared.names.StrandId.{StrandId}
use Rattle.resty_base.specs.declared.names.StrandId.TheVariants as strand
use Rattle.resty_base.specs.BoolLaws.{by_test}
use Rattle.resty_world.specs.Ids.{same_strand}
use Rattle.resty_world.specs.declared.answers.TimerAnswer.TheVariants as timer
use Rattle.resty_world.specs.IdLaws.{same_strand-eq, same_strand-self}
use Rattle.strand_contract.specs.declared.turns.Act.{Act}
use Rattle.strand_contract.specs.declared.turns.Act.TheVariants as act
use Rattle.shared_rules.specs.Pool.{idle_until}
use Rattle.strand_contract.specs.Actions.{Action, Began, Take, Keep, Timer, Due, Dropped, Gone, LocalAction, Told, Did}
use Rattle.strand_contract.specs.Behaviors.{Behavior}
use Rattle.strand_contract.specs.Alone.{lives, armed, armed_by, taken_by, disarmed, IsExecution}
use Rattle.strand_contract.specs.Laws.{IsQuiet}
use Rattle.executions.specs.Executions.{GlobalAction, Of, Everyone, TurnedAway, IdleGave, IdleClosed, projection, present}
use Rattle.executions.specs.Sockets.{socket_at, closed_by}
use Rattle.executions.specs.Agenda.{Whose, OfStrand, OfJob, OfIdle, without_one, without_those, is_number, is_of, is_start, is_socket, armed_with, idle_armed}
use Rattle.executions.specs.Agenda.{agenda_at, agenda}
use Rattle.executions.specs.OwnDeadlines.{own_of, deadlines}
use Rattle.executions.proofs.Strands.{clash}
use Rattle.executions.proofs.OwnLines.{is_by, GoesAlong, own-line}

-- a test that is true of nothing of the strand
abbrev pub Spares : (Whose → Bool) → StrandId → Type 0
Spares is_so s = (t : StrandId) (k : ℕ) → same_strand s t ≡ true → is_so (OfStrand t k) ≡ false

spared-those : (is_so : Whose → Bool) (s : StrandId) (ds : List (Whose × ℕ)) → Spares is_so s → deadlines s (without_those is_so ds) ≡ deadlines s ds
spared-those is_so s [] p = refl
spared-those is_so s (d ∷ ds) p = put d.0 (is_so d.0) refl (spared-those is_so s ds p)
  where
    put : (w : Whose) (c : Bool) → is_so w ≡ c → deadlines s (without_those is_so ds) ≡ deadlines s ds → deadlines s (if c then without_those is_so ds else (w, d.1) ∷ without_those is_so ds) ≡ own_of s w d.1 (deadlines s ds)
    put (OfStrand t k) true e ih = by_test (same_strand s t) (λ on. clash (is_so (OfStrand t k)) e (p t k on)) (λ off. ih ∙ sym (ap (λ c. if c then (k, d.1) ∷ deadlines s ds else deadlines s ds) off))
    put (OfJob j) true e ih = ih
    put (OfIdle n) true e ih = ih
    put w false e ih = ap (λ r. own_of s w d.1 r) ih

spared-one : (is_so : Whose → Bool) (s : StrandId) (ds : List (Whose × ℕ)) → Spares is_so s → deadlines s (without_one is_so ds) ≡ deadlines s ds
spared-one is_so s [] p = refl
spared-one is_so s (d ∷ ds) p = put d.0 (is_so d.0) refl (spared-one is_so s ds p)
  where
    put : (w : Whose) (c : Bool) → is_so w ≡ c → deadlines s (without_one is_so ds) ≡ deadlines s ds → deadlines s (if c then ds else (w, d.1) ∷ without_one is_so ds) ≡ own_of s w d.1 (deadlines s ds)
    put (OfStrand t k) true e ih = by_test (same_strand s t) (λ on. clash (is_so (OfStrand t k)) e (p t k on)) (λ off. sym (ap (λ c. if c then (k, d.1) ∷ deadlines s ds else deadlines s ds) off))
    put (OfJob j) true e ih = refl
    put (OfIdle n) true e ih = refl
    put w false e ih = ap (λ r. own_of s w d.1 r) ih

spares-other : (t s : StrandId) (k : ℕ) → same_strand t s ≡ false → Spares (is_number s k) t
spares-other t s k ne r j on = by_test (same_strand s r) (λ h. clash (same_strand t s) (subst (λ (x : StrandId). same_strand t x ≡ true) (sym (same_strand-eq s r h)) on) ne) (λ off. ap (λ c. c && (k == j)) off)

spares-of : (t s : StrandId) → same_strand t s ≡ false → Spares (is_of s) t
spares-of t s ne r j on = by_test (same_strand s r) (λ h. clash (same_strand t s) (subst (λ (x : StrandId). same_strand t x ≡ true) (sym (same_strand-eq s r h)) on) ne) (λ off. off-of s off)
  where
    off-of : (s : StrandId) → same_strand s r ≡ false → is_of s (OfStrand r j) ≡ false
    off-of (strand.Conn c) off = off
    off-of (strand.Job i) off = off

spares-socket : (o : Option ℕ) (s : StrandId) → Spares (is_socket o) s
spares-socket None s t k on = refl
spares-socket (Some n) s t k on = refl

own-one : (s : StrandId) (k : ℕ) (ds : List (Whose × ℕ)) → deadlines s (without_one (is_number s k) ds) ≡ disarmed k (deadlines s ds)
own-one s k [] = refl
own-one s k (d ∷ ds) = put d.0 (own-one s k ds)
  where
    strands : (t : StrandId) (j : ℕ) → deadlines s (without_one (is_number s k) ds) ≡ disarmed k (deadlines s ds) → (c : Bool) → same_strand s t ≡ c → (e : Bool) → (k == j) ≡ e
        → deadlines s (if c && e then ds else (OfStrand t j, d.1) ∷ without_one (is_number s k) ds) ≡ disarmed k (if c then (j, d.1) ∷ deadlines s ds else deadlines s ds)
    strands t j ih true p true q = sym (ap (λ e. if e then deadlines s ds else (j, d.1) ∷ disarmed k (deadlines s ds)) q)
    strands t j ih true p false q = ap (λ c. if c then (j, d.1) ∷ deadlines s (without_one (is_number s k) ds) else deadlines s (without_one (is_number s k) ds)) p ∙ ap (λ r. (j, d.1) ∷ r) ih
        ∙ sym (ap (λ e. if e then deadlines s ds else (j, d.1) ∷ disarmed k (deadlines s ds)) q)
    strands t j ih false p e q = ap (λ c. if c then (j, d.1) ∷ deadlines s (without_one (is_number s k) ds) else deadlines s (without_one (is_number s k) ds)) p ∙ ih

    put : (w : Whose) → deadlines s (without_one (is_number s k) ds) ≡ disarmed k (deadlines s ds) → deadlines s (if is_number s k w then ds else (w, d.1) ∷ without_one (is_number s k) ds) ≡ disarmed k (own_of s w d.1 (deadlines s ds))
    put (OfStrand t j) ih = strands t j ih (same_strand s t) refl (k == j) refl
    put (OfJob j) ih = ih
    put (OfIdle n) ih = ih

deadlines-append : (s : StrandId) (xs ys : List (Whose × ℕ)) → deadlines s (xs ++ ys) ≡ deadlines s xs ++ deadlines s ys
deadlines-append s [] ys = refl
deadlines-append s (d ∷ xs) ys = put d.0 (deadlines-append s xs ys)
  where
    put : (w : Whose) → deadlines s (xs ++ ys) ≡ deadlines s xs ++ deadlines s ys → own_of s w d.1 (deadlines s (xs ++ ys)) ≡ own_of s w d.1 (deadlines s xs) ++ deadlines s ys
    put (OfStrand t k) ih = strands (same_strand s t)
      where
        strands : (c : Bool) → (if c then (k, d.1) ∷ deadlines s (xs ++ ys) else deadlines s (xs ++ ys)) ≡ (if c then (k, d.1) ∷ deadlines s xs else deadlines s xs) ++ deadlines s ys
        strands true = ap (λ r. (k, d.1) ∷ r) ih
        strands false = ih
    put (OfJob j) ih = ih
    put (OfIdle n) ih = ih

own-armed : (J : Type 0) (s : StrandId) (acts : List (Act J)) (ds : List (Whose × ℕ)) → deadlines s (armed_with s acts ds) ≡ armed_by acts (deadlines s ds)
own-armed J s [] ds = refl
own-armed J s (act.Arm k at ∷ acts) ds = own-armed J s acts (without_one (is_number s k) ds ++ (OfStrand s k, at.0) ∷ [])
    ∙ ap (armed_by acts) (deadlines-append s (without_one (is_number s k) ds) ((OfStrand s k, at.0) ∷ []) ∙ ap (λ r. r ++ deadlines s ((OfStrand s k, at.0) ∷ [])) (own-one s k ds) ∙ ap (λ c. disarmed k (deadlines s ds) ++ (if c then (k, at.0) ∷ [] else [])) (same_strand-self s))
own-armed J s (act.Cancel k ∷ acts) ds = own-armed J s acts (without_one (is_number s k) ds) ∙ ap (armed_by acts) (own-one s k ds)
own-armed J s (a ∷ acts) ds = own-armed J s acts ds

other-armed : (J : Type 0) (t s : StrandId) (acts : List (Act J)) (ds : List (Whose × ℕ)) → same_strand t s ≡ false → deadlines t (armed_with s acts ds) ≡ deadlines t ds
other-armed J t s [] ds ne = refl
other-armed J t s (act.Arm k at ∷ acts) ds ne = other-armed J t s acts (without_one (is_number s k) ds ++ (OfStrand s k, at.0) ∷ []) ne
    ∙ deadlines-append t (without_one (is_number s k) ds) ((OfStrand s k, at.0) ∷ []) ∙ ap (λ c. deadlines t (without_one (is_number s k) ds) ++ (if c then (k, at.0) ∷ [] else [])) ne ∙ append-nil (deadlines t (without_one (is_number s k) ds)) ∙ spared-one (is_number s k) t ds (spares-other t s k ne)
other-armed J t s (act.Cancel k ∷ acts) ds ne = other-armed J t s acts (without_one (is_number s k) ds) ne ∙ spared-one (is_number s k) t ds (spares-other t s k ne)
other-armed J t s (a ∷ acts) ds ne = other-armed J t s acts ds ne

none-idle : (s : StrandId) (n : ℕ) (o : Option Ms) → deadlines s (idle_armed n o) ≡ []
none-idle s n None = refl
none-idle s n (Some at) = refl

other-after : (J : Type 0) (t s : StrandId) (x : Action J) (n : Option ℕ) (ms : List (GlobalAction J)) (ds : List (Whose × ℕ)) → same_strand t s ≡ false → deadlines t (agenda_at s x n ms ds) ≡ deadlines t ds
other-after J t s (Due k) n ms ds ne = spared-one (is_number s k) t ds (spares-other t s k ne)
other-after J t s (Timer at (timer.Job j)) n ms ds ne = deadlines-append t ds ((OfJob j, at.0) ∷ []) ∙ append-nil (deadlines t ds)
other-after J t s (Timer at timer.Full) n ms ds ne = refl
other-after J t s (Timer at timer.Exiting) n ms ds ne = refl
other-after J t (strand.Job j) (Began now how) n ms ds ne = spared-those (is_start j) t ds (λ r k on. refl)
other-after J t (strand.Conn c) (Began now how) n ms ds ne = refl
other-after J t s (Take key uses) n ms ds ne = spared-those (is_socket n) t ds (spares-socket n t)
other-after J t s (Keep k key idle size) n ms ds ne = deadlines-append t (without_those (is_socket n) ds) (idle_armed (socket_at s k ms).sock (idle_until (present ms) idle.0))
    ∙ ap (λ r. deadlines t (without_those (is_socket n) ds) ++ r) (none-idle t (socket_at s k ms).sock (idle_until (present ms) idle.0)) ∙ append-nil (deadlines t (without_those (is_socket n) ds)) ∙ spared-those (is_socket n) t ds (spares-socket n t)
other-after J t s Gone n ms ds ne = spared-those (is_of s) t ds (spares-of t s ne)
other-after J t s Dropped n ms ds ne = spared-those (is_of s) t ds (spares-of t s ne)
other-after J t s x n ms ds ne = refl

own-after : (J : Type 0) (s : StrandId) (x : Action J) (n : Option ℕ) (ms : List (GlobalAction J)) (es : List (LocalAction J)) (l : List (Whose × ℕ)) (ps : List (ℕ × ℕ)) → lives (Did x ∷ es) ≡ true → deadlines s l ≡ ps → deadlines s (agenda_at s x n ms l) ≡ taken_by (Did x) ps
own-after J s (Due k) n ms es l ps live h = own-one s k l ∙ ap (disarmed k) h
own-after J s (Timer at (timer.Job j)) n ms es l ps live h = deadlines-append s l ((OfJob j, at.0) ∷ []) ∙ append-nil (deadlines s l) ∙ h
own-after J s (Timer at timer.Full) n ms es l ps live h = h
own-after J s (Timer at timer.Exiting) n ms es l ps live h = h
own-after J (strand.Job j) (Began now how) n ms es l ps live h = spared-those (is_start j) (strand.Job j) l (λ r k on. refl) ∙ h
own-after J (strand.Conn c) (Began now how) n ms es l ps live h = h
own-after J s (Take key uses) n ms es l ps live h = spared-those (is_socket n) s l (spares-socket n s) ∙ h
own-after J s (Keep k key idle size) n ms es l ps live h = deadlines-append s (without_those (is_socket n) l) (idle_armed (socket_at s k ms).sock (idle_until (present ms) idle.0))
    ∙ ap (λ r. deadlines s (without_those (is_socket n) l) ++ r) (none-idle s (socket_at s k ms).sock (idle_until (present ms) idle.0)) ∙ append-nil (deadlines s (without_those (is_socket n) l)) ∙ spared-those (is_socket n) s l (spares-socket n s) ∙ h
own-after J s Gone n ms es l ps live h = clash false live refl
own-after J s Dropped n ms es l ps live h = clash false live refl
own-after J s x n ms es l ps live h = h

module _ {J : Type 0} (b : Behavior J) (quiet : IsQuiet b) (s : StrandId) where
  others : (m : GlobalAction J) (ms : List (GlobalAction J)) → is_by s m ≡ false → deadlines s (agenda b (m ∷ ms)) ≡ deadlines s (agenda b ms)
  others (Of t x n) ms ne = other-armed J s t (b.acts (Did x ∷ projection t ms)) (agenda_at t x n ms (agenda b ms)) ne ∙ other-after J s t x n ms (agenda b ms) ne
  others (Everyone w) ms ne = refl
  others (TurnedAway c) ms ne = refl
  others (IdleGave e) ms ne = spared-those (is_socket (closed_by e)) s (agenda b ms) (spares-socket (closed_by e) s)
  others (IdleClosed n) ms ne = spared-those (is_socket (Some n)) s (agenda b ms) (spares-socket (Some n) s)

  goes-along : GoesAlong b s (agenda b) (deadlines s) (armed b)
  goes-along = record {
    none = refl;
    told = λ w es. ap (λ acts. armed_by acts (armed b es)) (quiet (Told w) es refl);
    others = others;
    owns = λ x n ms live h. own-armed J s (b.acts (Did x ∷ projection s ms)) (agenda_at s x n ms (agenda b ms))
        ∙ ap (armed_by (b.acts (Did x ∷ projection s ms))) (own-after J s x n ms (projection s ms) (agenda b ms) (armed b (projection s ms)) live h);
  }

  pub own-agenda : (ms : List (GlobalAction J)) → IsExecution b (projection s ms) → lives (projection s ms) ≡ true → deadlines s (agenda b ms) ≡ armed b (projection s ms)
  own-agenda ms f live = own-line b s (agenda b) (deadlines s) (armed b) goes-along ms f live
