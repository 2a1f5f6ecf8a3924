-- What the moves of the plan do to what the strand holds, and their acts.
use Rattle.std.proofs.Common.{◌≡◌, ℕ, Bool, true, false, not, ◌&&◌, ◌||◌, List, [], ◌∷◌, ◌++◌, None, if◌then◌else◌, refl, sym, ap, ◌∙◌, append-nil, append_assoc}
use Rattle.strand_contract.specs.declared.turns.Place.{Place}
use Rattle.strand_contract.specs.declared.turns.Place.TheVariants as place
use Rattle.strand_contract.specs.declared.turns.Act.{Act}
use Rattle.strand_contract.specs.declared.turns.Act.TheVariants as act
use Rattle.strand_contract.specs.Alone.{is_some_left}
use Rattle.strand_plans.specs.Ledgers.{Ledger, has, has_number, left_at}
use Rattle.strand_plans.specs.Ledgers as ledgers
use Rattle.strand_plans.specs.Moves as move
use Rattle.strand_plans.specs.Moves.{Move, Done, Unready, Send, End, ending, with_sent, with_offer, with_thread, without_thread, act_if, perform}
use Rattle.strand_plans.specs.Conditions.{IsServed}
use Rattle.strand_plans.proofs.Served.{sends-keep}
use Rattle.strand_plans.proofs.Tidy.{IsTidyLedger, performed-tidy, send-wants}
use Rattle.strand_scripts.specs.declared.program.Op.{Op}
use Rattle.strand_scripts.specs.declared.program.Op.TheVariants as op
use Rattle.strand_scripts.specs.declared.program.Site.{Site}
use Rattle.strand_scripts.specs.declared.strand.Wait.{Wait}
use Rattle.strand_scripts.specs.declared.strand.Wait.TheVariants.{Asking, Going, Sleeping, Sending}
use Rattle.strand_scripts.specs.Lines.{sent_more, wants_offer}
use Rattle.strand_scripts.specs.Scripted.{Script, script, waits, goes, hears, hears_end, is_taken}
use Rattle.strand_scripts.specs.Turns.{Turn, turn, line_of, strand_of, end_if, heard, is_asking, is_sending, is_done, offer_acts, ran}
use Rattle.strand_scripts.specs.ConditionLaws.{queue_of}

-- what is open is the client's connection, or nothing
abbrev pub IsOne : {J : Type 0} → Ledger J → Type 0
IsOne b = b.opened ≡ (if has place.Client b.opened then place.Client ∷ [] else [])

ends-acts : (J : Type 0) (qs : List Place) (c : Bool) → qs ≡ (if c then place.Client ∷ [] else []) → (if c then act.HangUp place.Client ∷ act.Gone ∷ [] else act.Gone ∷ []) ≡ ending {J = J} qs
ends-acts J qs true e = rw e refl
ends-acts J qs false e = rw e refl

-- moves, from a ledger and a script, come to this turn
abbrev pub ComesTo : {J : Type 0} → Move J Script → Ledger J → Script → List (Act J) → Turn J → Type 0
ComesTo m b s acts t = let r = perform m b s in t ≡ turn (strand_of r.state) (acts ++ r.acts)

pub ends : {J : Type 0} (b : Ledger J) (s : Script) (acts : List (Act J)) → IsOne b
    → ComesTo End b s acts (end_if true (strand_of (record { ledger = b; inner = s })) acts)
ends {J} b s acts one =
    let r = perform {J = J} {S = Script} End b s in
    ap (λ xs. turn (strand_of r.state) (acts ++ xs)) (ends-acts J b.opened (has place.Client b.opened) one)

stays : {J : Type 0} (b : Ledger J) (s : Script) (acts : List (Act J)) → ComesTo Done b s acts (turn (strand_of (record { ledger = b; inner = s })) acts)
stays b s acts = rw (append-nil acts) refl

-- it ends where nothing is left
ends-if : {J : Type 0} (c : Bool) (b : Ledger J) (s : Script) (acts : List (Act J)) → IsOne b
    → ComesTo (if c then Done else End) b s acts (end_if (not c) (strand_of (record { ledger = b; inner = s })) acts)
ends-if true b s acts one = stays b s acts
ends-if false b s acts one = ends b s acts one

pub hearing : {J : Type 0} (site : Site) (bytes : List ℕ) (b : Ledger J) (w : Wait) (rest : List Op) → b.threads ≡ queue_of w
    → ComesTo (hears site bytes (script w rest)) b (script w rest) [] (heard site bytes (strand_of (record { ledger = b; inner = script w rest })) [])
hearing site [] b w rest queue = refl
hearing site (x ∷ xs) b Asking rest queue = rw queue refl
hearing site (x ∷ xs) b Sleeping rest queue = rw queue refl
hearing site (x ∷ xs) b Going rest queue = refl
hearing site (x ∷ xs) b Sending rest queue = refl

pub hearing-end : {J : Type 0} (b : Ledger J) (w : Wait) (rest : List Op) → IsOne b
    → ComesTo (hears_end w) b (script w rest) [] (end_if (is_asking w) (strand_of (record { ledger = b; inner = script w rest })) [])
hearing-end b Asking rest one = ends b (script Asking rest) [] one
hearing-end b Going rest one = refl
hearing-end b Sleeping rest one = refl
hearing-end b Sending rest one = refl

pub taking : {J : Type 0} (b : Ledger J) (w : Wait) (rest : List Op) → IsOne b
    → ComesTo (is_taken w b) b (script w rest) [] (end_if (is_sending w && is_done (line_of b)) (strand_of (record { ledger = b; inner = script w rest })) [])
taking b Asking rest one = refl
taking b Going rest one = refl
taking b Sleeping rest one = refl
taking b Sending rest one = ends-if (is_some_left (left_at place.Client b)) b (script Sending rest) [] one

-- a ledger between two moves of a run
pub record IsRunning {J : Type 0} (b : Ledger J) : Type 0 where
  pub queue : b.threads ≡ []
  pub unbegun : b.begun ≡ None
  pub tidy : IsTidyLedger b
  pub served : IsServed place.Client b
  pub one : IsOne b

sends-on : {J : Type 0} (text : List ℕ) (b : Ledger J) → IsRunning b → IsRunning (with_offer place.Client (with_sent place.Client text b))
sends-on text b r = record {
  queue = r.queue;
  unbegun = r.unbegun;
  tidy = performed-tidy {S = Script} (Send place.Client text Done) b (script Going []) r.tidy;
  served = sends-keep place.Client place.Client text b r.served;
  one = r.one;
}

or-none : (c : Bool) → (c || false) ≡ c
or-none true = refl
or-none false = refl

and-true : (c : Bool) → (c && true) ≡ c
and-true true = refl
and-true false = refl

wants : {J : Type 0} (text : List ℕ) (b : Ledger J) → IsRunning b → ledgers.wants_offer place.Client (with_sent place.Client text b) ≡ wants_offer text (line_of b)
wants text b r = send-wants place.Client text b r.tidy r.served ∙ rw (r.unbegun, or-none (b.put_off place.Client)) refl

recalls : {J : Type 0} (b : Ledger J) → IsRunning b → IsRunning (without_thread 1 (with_thread 1 b))
recalls b r = record {
  queue = rw r.queue refl;
  unbegun = r.unbegun;
  tidy = performed-tidy {S = Script} (move.Ready 1 (Unready 1 Done)) b (script Going []) r.tidy;
  served = r.served;
  one = r.one;
}

first-act : {J : Type 0} (b : Ledger J) → b.threads ≡ [] → (more : List (Act J)) → act.Ready 1 ∷ more ≡ act_if (not (has_number 1 b.threads)) (act.Ready 1) more
first-act b none more = rw none refl

sent-line : {J : Type 0} (text : List ℕ) (b : Ledger J) → sent_more text (line_of b) ≡ line_of (with_offer place.Client (with_sent place.Client text b))
sent-line text b = rw (and-true (has place.Client b.opened)) refl

-- acts of which one comes first
with-act : {J : Type 0} (c : Bool) (acts more : List (Act J)) → (acts ++ offer_acts c) ++ more ≡ acts ++ act_if c (act.Offer place.Client) more
with-act true acts more = append_assoc acts (act.Offer place.Client ∷ []) more
with-act false acts more = ap (λ xs. xs ++ more) (append-nil acts)

pub running : {J : Type 0} (now : ℕ) (ops : List Op) (b : Ledger J) (s : Script) (acts : List (Act J)) → IsRunning b → ComesTo (goes now ops) b s acts (ran now ops (line_of b) acts)
running now [] b s acts r = ends-if (is_some_left (left_at place.Client b)) b (waits Sending [] s) acts r.one
running now (op.Sleep span ∷ ops) b s acts r = refl
running now (op.Yield ∷ ops) b s acts r = rw r.queue refl
running now (op.Log text ∷ ops) b s acts r =
    let after = perform (goes now ops) b s in
    running now ops b s (acts ++ act.Log text ∷ []) r ∙ ap (turn (strand_of after.state)) (append_assoc acts (act.Log text ∷ []) after.acts)
running now (op.Say text ∷ ops) b s acts r =
    let c = with_offer place.Client (with_sent place.Client text b) in
    let w = wants_offer text (line_of b) in
    let after = perform (goes now ops) c s in
    ap (λ h. ran now ops h (acts ++ offer_acts w)) (sent-line text b)
    ∙ running now ops c s (acts ++ offer_acts w) (sends-on text b r)
    ∙ ap (turn (strand_of after.state)) (with-act w acts after.acts ∙ ap (λ v. acts ++ act_if v (act.Offer place.Client) after.acts) (sym (wants text b r)))
running now (op.Recall ∷ ops) b s acts r =
    let c = without_thread 1 (with_thread 1 b) in
    let after = perform (goes now ops) c s in
    running now ops c s (acts ++ act.Ready 1 ∷ act.Unready 1 ∷ []) (recalls b r)
    ∙ ap (turn (strand_of after.state)) (append_assoc acts (act.Ready 1 ∷ act.Unready 1 ∷ []) after.acts ∙ ap (λ xs. acts ++ xs) (first-act b r.queue (act.Unready 1 ∷ after.acts)))
running now (op.Fail ∷ ops) b s acts r = running now ops b s acts r
