-- That the scripted plan meets the conditions of a plan.
use Rattle.std.proofs.Common.{◌≡◌, ℕ, nat_le, Bool, true, false, List, [], ◌∷◌, drop, Some, None, if◌then◌else◌, refl, sym, ap, ◌∙◌, subst}
use Rattle.strand_contract.specs.declared.turns.Place.TheVariants as place
use Rattle.strand_contract.specs.Actions.{LocalAction, Did, Bytes, Ended, Put, Lost, Ready, Run, Due, Halted}
use Rattle.strand_contract.specs.Alone.{due, is_some_left, disarmed, IsPrefixOf}
use Rattle.strand_contract.specs.Laws.{is_still}
use Rattle.strand_plans.specs.Questions.{Question}
use Rattle.strand_plans.specs.Ledgers.{Ledger, left_at, entered}
use Rattle.strand_plans.specs.Moves.{Move, Done, Send, Arm, Cancel, Set, Look, End, State, with_sent, with_offer, with_thread, without_thread, perform}
use Rattle.strand_plans.specs.Moves as move
use Rattle.strand_plans.specs.Plans.{state_of, stepped}
use Rattle.strand_plans.specs.Turns.{Comes}
use Rattle.strand_plans.specs.Conditions.{IsPlan}
use Rattle.strand_plans.proofs.Served.{send-serves, end-serves}
use Rattle.strand_plans.proofs.Calls.{IsUntouched, still-same}
use Rattle.strand_plans.proofs.Forms.{either, only-wakes, ends-life}
use Rattle.strand_scripts.specs.declared.program.Op.{Op}
use Rattle.strand_scripts.specs.declared.program.Op.TheVariants as op
use Rattle.strand_scripts.specs.declared.program.Site.{Site}
use Rattle.strand_scripts.specs.declared.strand.ScriptStrand.{ScriptStrand}
use Rattle.strand_scripts.specs.declared.strand.Wait.{Wait}
use Rattle.strand_scripts.specs.declared.strand.Wait.TheVariants.{Asking, Going, Sleeping, Sending}
use Rattle.strand_scripts.specs.Scripted.{Script, script, waits, goes, hears, hears_end, is_taken, script_plan, later}
use Rattle.strand_scripts.specs.Turns.{strand_of, strand_after}

-- what the run queue is, and which deadlines are armed, by what the strand waits for
abbrev pub queue_of : Wait → List ℕ
queue_of Going = 0 ∷ []
queue_of w = []

abbrev pub IsArmedFor : Wait → List (ℕ × ℕ) → Type 0
IsArmedFor Sleeping ds = (at : ℕ) × (ds ≡ (2, at) ∷ [])
IsArmedFor w ds = ds ≡ []

-- what it knows of itself: it waits for no answer, its thread is queued while it goes, and its deadline armed while it sleeps
pub record IsScripted {J : Type 0} (st : State J Script) : Type 0 where
  pub none_asked : st.ledger.asked ≡ None
  pub queue : st.ledger.threads ≡ queue_of st.inner.wait
  pub armed : IsArmedFor st.inner.wait st.ledger.armed

-- it asks nothing
abbrev pub nothing : {J : Type 0} → Question J → Type 0
nothing x = ⊥

-- a thread that runs is the first of the queue, so the strand goes
pub runs-going : (w : Wait) (k : ℕ) (ks : List ℕ) → ks ≡ queue_of w → IsPrefixOf (k ∷ []) ks → w ≡ Going
runs-going Going k ks e p = refl
runs-going Asking k ks e p = absurd (let h : k ∷ p.0 ≡ [] = p.1 ∙ e in cc)
runs-going Sleeping k ks e p = absurd (let h : k ∷ p.0 ≡ [] = p.1 ∙ e in cc)
runs-going Sending k ks e p = absurd (let h : k ∷ p.0 ≡ [] = p.1 ∙ e in cc)

-- a deadline that is due is armed, so the strand sleeps
pub due-sleeping : (w : Wait) (now : ℕ) (ds : List (ℕ × ℕ)) (d : ℕ × ℕ) → IsArmedFor w ds → due now ds ≡ Some d → w ≡ Sleeping
due-sleeping Sleeping now ds d h e = refl
due-sleeping Asking now ds d h e = absurd (let g : None ≡ Some d = sym (ap (due now) h) ∙ e in cc)
due-sleeping Going now ds d h e = absurd (let g : None ≡ Some d = sym (ap (due now) h) ∙ e in cc)
due-sleeping Sending now ds d h e = absurd (let g : None ≡ Some d = sym (ap (due now) h) ∙ e in cc)

same-holds : {J : Type 0} (b : Ledger J) (s : Script) (c : Bool) → b.asked ≡ None → b.threads ≡ queue_of s.wait → IsArmedFor s.wait b.armed
    → IsScripted (perform (if c then Done else End) b s).state
same-holds b s true asked queue armed = record { none_asked = asked; queue = queue; armed = armed }
same-holds b s false asked queue armed = record { none_asked = asked; queue = queue; armed = armed }

-- the moves of a run, from a ledger in which nothing is queued or armed
goes-holds : {J : Type 0} (now : ℕ) (ops : List Op) (b : Ledger J) (s : Script) → b.asked ≡ None → b.threads ≡ [] → b.armed ≡ []
    → IsScripted (perform (goes now ops) b s).state
goes-holds now [] b s asked threads armed = same-holds b (script Sending []) (is_some_left (left_at place.Client b)) asked threads armed
goes-holds now (op.Sleep span ∷ ops) b s asked threads armed = record { none_asked = asked; queue = threads; armed = ((later now span).0, rw armed refl) }
goes-holds now (op.Yield ∷ ops) b s asked threads armed = record { none_asked = asked; queue = rw threads refl; armed = armed }
goes-holds now (op.Log text ∷ ops) b s asked threads armed = goes-holds now ops b s asked threads armed
goes-holds now (op.Say text ∷ ops) b s asked threads armed =
    goes-holds now ops (with_offer place.Client (with_sent place.Client text b)) s asked threads armed
goes-holds now (op.Recall ∷ ops) b s asked threads armed = goes-holds now ops (without_thread 1 (with_thread 1 b)) s asked (rw threads refl) armed
goes-holds now (op.Fail ∷ ops) b s asked threads armed = goes-holds now ops b s asked threads armed

hears-holds : {J : Type 0} (site : Site) (bytes : List ℕ) (b : Ledger J) (w : Wait) (rest : List Op) → b.asked ≡ None → b.threads ≡ queue_of w
    → IsArmedFor w b.armed
    → IsScripted (perform (hears site bytes (script w rest)) b (script w rest)).state
hears-holds site [] b w rest asked queue armed = record { none_asked = asked; queue = queue; armed = armed }
hears-holds site (x ∷ xs) b Asking rest asked queue armed = record { none_asked = asked; queue = rw queue refl; armed = armed }
hears-holds site (x ∷ xs) b Sleeping rest asked queue armed = record { none_asked = asked; queue = rw queue refl; armed = rw armed.1 refl }
hears-holds site (x ∷ xs) b Going rest asked queue armed = record { none_asked = asked; queue = queue; armed = armed }
hears-holds site (x ∷ xs) b Sending rest asked queue armed = record { none_asked = asked; queue = queue; armed = armed }

ends-holds : {J : Type 0} (b : Ledger J) (w : Wait) (rest : List Op) → b.asked ≡ None → b.threads ≡ queue_of w → IsArmedFor w b.armed
    → IsScripted (perform (hears_end w) b (script w rest)).state
ends-holds b Asking rest asked queue armed = record { none_asked = asked; queue = queue; armed = armed }
ends-holds b Going rest asked queue armed = record { none_asked = asked; queue = queue; armed = armed }
ends-holds b Sleeping rest asked queue armed = record { none_asked = asked; queue = queue; armed = armed }
ends-holds b Sending rest asked queue armed = record { none_asked = asked; queue = queue; armed = armed }

taken-holds : {J : Type 0} (b : Ledger J) (w : Wait) (rest : List Op) → b.asked ≡ None → b.threads ≡ queue_of w → IsArmedFor w b.armed
    → IsScripted (perform (is_taken w b) b (script w rest)).state
taken-holds b Asking rest asked queue armed = record { none_asked = asked; queue = queue; armed = armed }
taken-holds b Going rest asked queue armed = record { none_asked = asked; queue = queue; armed = armed }
taken-holds b Sleeping rest asked queue armed = record { none_asked = asked; queue = queue; armed = armed }
taken-holds b Sending rest asked queue armed = same-holds b (script Sending rest) (is_some_left (left_at place.Client b)) asked queue armed

ran-queue : (w : Wait) (ks : List ℕ) → ks ≡ queue_of w → drop 1 ks ≡ []
ran-queue Asking ks e = ap (drop 1) e
ran-queue Going ks e = ap (drop 1) e
ran-queue Sleeping ks e = ap (drop 1) e
ran-queue Sending ks e = ap (drop 1) e

going-none : (w : Wait) (ds : List (ℕ × ℕ)) → w ≡ Going → IsArmedFor w ds → ds ≡ []
going-none w ds e h = subst (λ w. IsArmedFor w ds) e h

-- the deadline that is due is the only one
same-deadline : (d e : ℕ × ℕ) → Some d ≡ Some e → e ≡ d
same-deadline d e h = cc

only-due : (c : Bool) (d e : ℕ × ℕ) → (if c then Some d else None) ≡ Some e → e ≡ d
only-due true d e h = same-deadline d e h
only-due false d e h = absurd (let g : None ≡ Some e = h in cc)

due-gone : (now n at moment : ℕ) (ds : List (ℕ × ℕ)) → ds ≡ (2, moment) ∷ [] → due now ds ≡ Some (n, at) → disarmed n ds ≡ []
due-gone now n at moment ds e h =
    let same = only-due (nat_le moment now) (2, moment) (n, at) (sym (ap (due now) e) ∙ h) in
    subst (λ m. disarmed m ds ≡ []) (sym (ap (λ (d : ℕ × ℕ). d.0) same)) (subst (λ xs. disarmed 2 xs ≡ []) (sym e) refl)

due-holds : {J : Type 0} (now n : ℕ) (b : Ledger J) (w : Wait) (rest : List Op) → b.asked ≡ None → b.threads ≡ queue_of w → IsArmedFor w b.armed
    → (at : ℕ) → due now b.armed ≡ Some (n, at)
    → IsScripted (perform (Set (waits Going rest) (move.Ready 0 Done)) (record b { armed = disarmed n b.armed }) (script w rest)).state
due-holds now n b Sleeping rest asked queue armed at e =
    record { none_asked = asked; queue = rw queue refl; armed = due-gone now n at armed.0 b.armed armed.1 e }
due-holds now n b Asking rest asked queue armed at e = absurd (let g : None ≡ Some (n, at) = sym (ap (due now) armed) ∙ e in cc)
due-holds now n b Going rest asked queue armed at e = absurd (let g : None ≡ Some (n, at) = sym (ap (due now) armed) ∙ e in cc)
due-holds now n b Sending rest asked queue armed at e = absurd (let g : None ≡ Some (n, at) = sym (ap (due now) armed) ∙ e in cc)

stays : {J : Type 0} (site : Site) (now : ℕ) (a : LocalAction J) (st : State J Script) → IsScripted st → Comes (script_plan site) now a st
    → IsScripted (stepped (script_plan site) now a st).state
stays site now (Did (Bytes q bytes)) st h comes =
    hears-holds site bytes (entered (Did (Bytes q bytes)) st.ledger) st.inner.wait st.inner.rest refl h.queue h.armed
stays site now (Did (Ended q)) st h comes = ends-holds (entered (Did (Ended q)) st.ledger) st.inner.wait st.inner.rest refl h.queue h.armed
stays site now (Did (Put q bytes)) st h comes = taken-holds (entered (Did (Put q bytes)) st.ledger) st.inner.wait st.inner.rest refl h.queue h.armed
stays site now (Did (Run k)) st h comes =
    let going = runs-going st.inner.wait k st.ledger.threads h.queue comes.0 in
    let b = entered (Did (Run k)) st.ledger in
    goes-holds now st.inner.rest b st.inner refl (ran-queue st.inner.wait st.ledger.threads h.queue) (going-none st.inner.wait st.ledger.armed going h.armed)
stays site now (Did (Due n)) st h comes =
    due-holds now n (record (entered (Did (Due n)) st.ledger) { armed = st.ledger.armed }) st.inner.wait st.inner.rest refl h.queue h.armed comes.at comes.first
stays site now a st h comes = record {
  none_asked = either (λ x. x ≡ None) (is_still a) st.ledger.asked None h.none_asked refl;
  queue = h.queue;
  armed = h.armed;
}

pub meets : (J : Type 0) (site : Site) → IsPlan {J = J} (script_plan site) IsScripted nothing
meets J site = record {
  begins = record { none_asked = refl; queue = refl; armed = refl };
  stays = stays site;
  lost = λ now q st h comes. end-serves {J = J} {S = Script} q (entered (Did (Lost q)) st.ledger) st.inner;
  again = λ now q st h comes. send-serves {S = Script} q [] Done (entered (Did (Ready q)) st.ledger) st.inner;
  asks = λ st x h e. absurd (let f = sym h.none_asked ∙ e in cc);
  fits = λ x h. absurd h;
  due = λ now n st h comes. only-wakes {S = Script} (Set (waits Going st.inner.rest) (move.Ready 0 Done)) (entered (Did (Due n)) st.ledger) st.inner tt;
  job = λ now at n premature job. tt;
  ends = λ now st h. ends-life {S = Script} End (entered (Did Halted) st.ledger) st.inner tt;
}

same-strand : {J : Type 0} (a b : State J Script) → IsUntouched a b → strand_of b ≡ strand_of a
same-strand a b u = rw (u.opened, u.inner, u.put_off, u.ended, u.sent, u.taken) refl

-- what is no turn changes nothing that it holds
pub still : {J : Type 0} (site : Site) (strand : ScriptStrand) (a : LocalAction J) (es : List (LocalAction J)) → is_still a ≡ true
    → strand ≡ strand_after site es → strand ≡ strand_after site (a ∷ es)
still site strand a es h e =
    e ∙ sym (same-strand (state_of (script_plan site) es) (state_of (script_plan site) (a ∷ es)) (still-same (script_plan site) a es h))
