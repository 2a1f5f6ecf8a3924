-- What the run is told, and answered.
use Rattle.std.proofs.Common.{◌≡◌, ℕ, false, List, [], ◌∷◌, Option, Some, None, refl, sym, ap, ◌∙◌, subst}
use Rattle.strand_contract.specs.declared.turns.Answer.{Answer}
use Rattle.strand_contract.specs.Actions.{Did}
use Rattle.strand_plans.specs.Ledgers.{Ledger, entered}
use Rattle.strand_plans.specs.Moves.{Move, Performed, perform}
use Rattle.run_contract.specs.declared.turns.RunSeen.{RunSeen}
use Rattle.run_contract.specs.declared.turns.RunTurn.{RunTurn}
use Rattle.run_contract.specs.declared.turns.Said.TheVariants as said
use Rattle.run_contract.specs.declared.turns.Asking.{Asking}
use Rattle.run_contract.specs.Deeds as runs
use Rattle.run_contract.specs.Deeds.{Deed, Ready, Unready, Arm, Cancel, HangUp, Send, Log, Say, within, taken}
use Rattle.run_contract.specs.Runs.{Waits, waits_told, waits_did}
use Rattle.run_contract.specs.Calls as calls
use Rattle.run_contract.specs.Conditions.{IsRun, Leaves, entered_as}
use Rattle.connection_plan.specs.Clients as stage
use Rattle.connection_plan.specs.Services.{Both}
use Rattle.connection_plan.specs.Turns.{is_there, run_turn}
use Rattle.connection_strand.specs.Views.{View, service}
use Rattle.connection_strand.specs.declared.state.Connection.{Connection}
use Rattle.connection_strand.specs.declared.state.Progress.{Progress}
use Rattle.connection_strand.specs.Kept.{kept, waits_of}
use Rattle.connection_strand.specs.Standing.{Serves, before, places}
use Rattle.connection_strand.specs.Turns.{Told, Answered, Took}

-- all but the run, and what it waits for, is as it was
pub record IsSameClient {R : Type 0} (c c' : Connection R) : Type 0 where
  pub client : c'.client ≡ c.client
  pub sockets : c'.sockets ≡ c.sockets
  pub count : c'.count ≡ c.count
  pub keeping : c'.keeping ≡ c.keeping
  pub taking : c'.is_taking ≡ c.is_taking

pub serves-same : {R J I : Type 0} (c c' : Connection R) (u : Progress J) (b : Ledger J) (s : Both I) → IsSameClient c c' → Serves c u b s → Serves c' u b s
serves-same c c' u b s x w = record {
  client = ap kept x.client ∙ w.client;
  sockets = w.sockets ∙ ap (λ v. places (is_there b) v.items) (sym x.sockets);
  count = x.count ∙ w.count;
  keeping = x.keeping ∙ w.keeping;
  offered = w.offered;
  taking = λ there. x.taking ∙ w.taking there;
  counted = w.counted;
  once = w.once;
  none_asked = w.none_asked;
  on = w.on;
}

pub the-run : {R : Type 0} (o : Option R) (x y : R) → o ≡ Some x → o ≡ Some y → x ≡ y
the-run o x y e f = let g : Some x ≡ Some y = sym e ∙ f in cc

pub no-run : {R C : Type 0} (o : Option R) (x : R) → o ≡ None → o ≡ Some x → C
no-run o x e f = absurd (let g : None ≡ Some x = sym e ∙ f in cc)

-- what it asks its connection at the end of a turn changes nothing of what its words do
did-asking : (ds : List Deed) (q : Option Asking) (w : Waits) → waits_did ds (record w { asks = q }) ≡ record (waits_did ds w) { asks = q }
did-asking [] q w = refl
did-asking (Say said.WantsNoBody ∷ ds) q w = did-asking ds q (record w { body = false })
did-asking (Say said.Over ∷ ds) q w = did-asking ds q (record w { body = false; taken = false })
did-asking (Say (said.Send bytes) ∷ ds) q w = did-asking ds q w
did-asking (Say (said.Times times) ∷ ds) q w = did-asking ds q w
did-asking (Say (said.Ended closes) ∷ ds) q w = did-asking ds q w
did-asking (Ready k ∷ ds) q w = did-asking ds q w
did-asking (Unready k ∷ ds) q w = did-asking ds q w
did-asking (Arm k at ∷ ds) q w = did-asking ds q w
did-asking (Cancel k ∷ ds) q w = did-asking ds q w
did-asking (HangUp k ∷ ds) q w = did-asking ds q w
did-asking (Send k bytes ∷ ds) q w = did-asking ds q w
did-asking (Log line ∷ ds) q w = did-asking ds q w

module _ {R J I : Type 0} (v : View R J I) (now : ℕ) where
  -- a turn that the run took is to be taken
  pub took-turn : (t : runs.Turn J I) (next : RunTurn J) (did : Performed J (Both I)) (c : Connection R) (u : Progress J) (m : Move J (Both I)) (b : Ledger J) (s : Both I) (run : R)
      → Serves c u b s → s.client.stage ≡ stage.Busy → c.run ≡ Some run → calls.Took v.meaning t b run next → Leaves v.meaning.plan v.meaning.holds (waits_of c.waits) t b
      → did ≡ before u.acts.items (perform (run_turn (service v) now t m) b s) → Took v now next did c u m
  took-turn t next did c u m b s run serves busy is took left leads = (
    stage.Busy,
    t.does,
    t.asks,
    record {
      ledger = b;
      inner = record s { run = t.run };
      within = record {
        serves = record {
          client = serves.client;
          sockets = serves.sockets;
          count = serves.count;
          keeping = serves.keeping;
          offered = serves.offered;
          taking = serves.taking;
          counted = serves.counted;
          once = serves.once;
          none_asked = serves.none_asked;
          on = serves.on;
        };
        at = busy;
        run = (run, is, took.0, did-asking t.does next.asks (waits_of c.waits) ∙ ap (λ (q : Option Asking). record (waits_did t.does (waits_of c.waits)) { asks = q }) took.2 ∙ sym left.waits);
        known = left.known;
        blank = λ over. (left.over over).0;
        made = took.1;
      };
      leads = leads;
    },
  )

module _ {R J I : Type 0} (v : View R J I) (lawful : IsRun v.meaning.plan v.meaning.holds) (now : ℕ) where
  pub told-takes : (x : RunSeen) (next : RunTurn J) (did : Performed J (Both I)) (c c' : Connection R) (u : Progress J) (m : Move J (Both I)) (old new : R)
      → c.run ≡ Some old → c'.run ≡ Some new → calls.TakesTurn v.meaning now x old new next → IsSameClient c c'
      → waits_of c'.waits ≡ waits_told x (waits_of c.waits) → Told v now x did c u m → Took v now next did c' u m
  told-takes x next did c c' u m old new was is takes same waits h =
      let b = entered_as x h.ledger in
      let t = v.meaning.plan.turn now x b h.inner.run in
      took-turn v now t next did c' u m b h.inner new (serves-same c c' u b h.inner same h.serves) h.busy is
      (takes h.ledger h.inner.run (subst (λ (y : R). v.meaning.stands y h.ledger h.inner.run) (the-run c.run h.run old h.is was) h.standing) h.known h.comes)
      (subst (λ (w : Waits). Leaves v.meaning.plan v.meaning.holds w t b) (ap (waits_told x) (sym h.waits) ∙ sym waits) (lawful.stays now x h.ledger h.inner.run h.known h.comes))
      h.leads

  pub answered-takes : (given : Answer) (next : RunTurn J) (did : Performed J (Both I)) (c c' : Connection R) (u : Progress J) (m : Move J (Both I)) (old new : R)
      → c.run ≡ Some old → c'.run ≡ Some new → calls.TakesAnswer v.meaning now given old new next → IsSameClient c c'
      → c'.waits ≡ c.waits → Answered v now given did c u m → Took v now next did c' u m
  answered-takes given next did c c' u m old new was is takes same waits h =
      let b = entered (Did h.action) h.ledger in
      let t = v.meaning.plan.answered now h.action b h.inner.run in
      took-turn v now t next did c' u m b h.inner new (serves-same c c' u b h.inner same h.serves) h.busy is
      (takes h.ledger h.inner.run h.action (subst (λ (y : R). v.meaning.stands y h.ledger h.inner.run) (the-run c.run h.run old h.is was) h.standing) h.known h.answers)
      (subst (λ (w : Waits). Leaves v.meaning.plan v.meaning.holds w t b) (sym (ap waits_of waits ∙ h.waits)) (lawful.answers now h.action given h.ledger h.inner.run h.known h.answers))
      h.leads
