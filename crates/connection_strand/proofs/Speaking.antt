-- What a run says, and what the connection does then.
use Rattle.std.proofs.Common.{◌≡◌, ℕ, Bool, true, false, not, ◌&&◌, List, ◌∷◌, Option, if◌then◌else◌, refl, sym, ap, ◌∙◌, subst}
use Rattle.client_line.specs.Lines.{body_answer}
use Rattle.strand_plans.specs.Ledgers.{Ledger}
use Rattle.strand_plans.specs.Moves.{Move, Performed, Look, perform}
use Rattle.run_contract.specs.declared.turns.Said.{Said}
use Rattle.run_contract.specs.declared.turns.Said.TheVariants as said
use Rattle.run_contract.specs.declared.turns.RunAct.{RunAct}
use Rattle.run_contract.specs.declared.turns.RunAct.TheVariants as made
use Rattle.run_contract.specs.Deeds.{Deed, Say, Asks, says_over}
use Rattle.run_contract.specs.Runs.{Waits, waits_did}
use Rattle.run_contract.specs.Alike.{AreAlike}
use Rattle.run_contract.specs.Conditions.{IsRun}
use Rattle.connection_plan.specs.Clients.{Stage, Reply, Client, Unsent}
use Rattle.connection_plan.specs.Clients as stage
use Rattle.connection_plan.specs.Services.{Both}
use Rattle.connection_plan.specs.Turns.{is_there, is_more, change, send, continue_reply, let_send, wait_more, await_body, says}
use Rattle.connection_plan.specs.Turns as plans
use Rattle.connection_plan.proofs.Lifted.{same-run-refl}
use Rattle.connection_strand.specs.declared.client.Reply as code
use Rattle.connection_strand.specs.declared.client.Reply.TheVariants as own
use Rattle.connection_strand.specs.Views.{View, service}
use Rattle.connection_strand.specs.declared.state.Connection.{Connection}
use Rattle.connection_strand.specs.declared.state.Progress.{Progress}
use Rattle.connection_strand.specs.Kept.{Kept, kept, kept_of, reply_of, waits_of}
use Rattle.connection_strand.specs.Standing.{Moment, plain, taking, IsOn, HasRun, Toward, before, at_end, places}
use Rattle.connection_strand.proofs.Moving.{IsSameRun, stays-within}

-- some of the reply was sent, in code
pub begun-is : (r : code.Reply) → r ≡ own.Begun → reply_of r ≡ Unsent → ⊥
begun-is r e f = let x : stage.Begun ≡ Unsent = sym (ap reply_of e) ∙ f in cc

pub whole-is : (r : code.Reply) (closes : Bool) → r ≡ own.Whole closes → reply_of r ≡ Unsent → ⊥
whole-is r closes e f = let x : stage.Whole closes ≡ Unsent = sym (ap reply_of e) ∙ f in cc

-- more of the body is to come, and may come
abbrev pub may_come : Kept → Bool
may_come k = k.opened && not k.ended && is_more (body_answer k.came k.limit)

module _ {R J I : Type 0} (v : View R J I)
    (lawful : IsRun v.meaning.plan v.meaning.holds) (apart : (x : R) (b c : Ledger J) (r : I) → AreAlike b c → v.meaning.stands x b r → v.meaning.stands x c r) where
  abbrev pub To : Moment J → Performed J (Both I) → Connection R → Progress J → Move J (Both I) → Type 0
  To e did c u m = Toward v e did c u m

  -- the client changes, but for its stage
  pub changes : (f : Client → Client) (k : Kept → Kept) (e : Moment J) (did : Performed J (Both I)) (c c' : Connection R) (u : Progress J) (m : Move J (Both I))
      → ((b : Ledger J) (x : Client) → k (kept_of b x) ≡ kept_of b (f x)) → ((x : Client) → (f x).stage ≡ x.stage)
      → IsSameRun c c' → kept c'.client ≡ k (kept c.client) → To e did c u (change f m) → To e did c' u m
  changes f k e did c c' u m so stays same client h =
      let b = h.ledger in
      let s = h.inner in
      let w = h.within.serves in
      let s' : Both I = record s { client = f s.client } in
      record {
        ledger = b;
        inner = s';
        within = stays-within v lawful apart e c c' u u b b s s' h.within (same-run-refl b) refl (stays s.client) same.run same.waits (record {
          client = client ∙ ap k w.client ∙ so b s.client;
          sockets = w.sockets ∙ ap (places (is_there b)) (sym same.sockets);
          count = same.count ∙ w.count;
          keeping = same.keeping ∙ w.keeping;
          offered = w.offered;
          taking = λ there. same.taking ∙ w.taking there;
          counted = w.counted;
          once = w.once;
          none_asked = w.none_asked;
          on = subst IsOn (sym (stays s.client)) w.on;
        });
        leads = h.leads;
      }

  -- while nothing of the reply was sent, the first wait lets the client send the body
  pub lets : (e : Moment J) (did : Performed J (Both I)) (c c' : Connection R) (u : Progress J) (m : Move J (Both I)) (x : Bool)
      → (kept c.client).reply ≡ Unsent → c.client.waited ≡ false → c.client.expects ≡ x → IsSameRun c c' → kept c'.client ≡ record (kept c.client) { waited = true }
      → To e did c u (Look (λ b s. let_send (service v) 0 s.client s.client.reply m)) → To e did c' u (if x then send (service v) 0 continue_reply m else m)
  lets e did c c' u m x unsent unwaited expects same client h =
      let b = h.ledger in
      let s = h.inner in
      let w = h.within.serves in
      let rest : Bool → Move J (Both I) = λ y. if y then send (service v) 0 continue_reply m else m in
      let replies : s.client.reply ≡ Unsent = sym (ap (λ (k : Kept). k.reply) w.client) ∙ unsent in
      let waits : s.client.waited ≡ false = sym (ap (λ (k : Kept). k.waited) w.client) ∙ unwaited in
      let asks : s.client.expects ≡ x = sym (ap (λ (k : Kept). k.expects) w.client) ∙ expects in
      changes (λ k. record k { waited = true }) (λ k. record k { waited = true }) e did c c' u (rest x) (λ b x. refl) (λ x. refl) same client (record {
        ledger = b;
        inner = s;
        within = h.within;
        leads = h.leads
            ∙ ap (λ (r : Reply). before u.acts.items (perform (let_send (service v) 0 s.client r m) b s)) replies
            ∙ ap (λ (y : Bool). before u.acts.items (perform (if y then m else change (λ k. record k { waited = true }) (rest s.client.expects)) b s)) waits
            ∙ ap (λ (y : Bool). before u.acts.items (perform (change (λ k. record k { waited = true }) (rest y)) b s)) asks;
      })

  pub lets-reply : (bytes : List ℕ) (e : Moment J) (did : Performed J (Both I)) (c c' : Connection R) (u : Progress J) (m : Move J (Both I)) → bytes ≡ continue_reply
      → (kept c.client).reply ≡ Unsent → c.client.waited ≡ false → c.client.expects ≡ true → IsSameRun c c' → kept c'.client ≡ record (kept c.client) { waited = true }
      → To e did c u (Look (λ b s. let_send (service v) 0 s.client s.client.reply m)) → To e did c' u (send (service v) 0 bytes m)
  lets-reply bytes e did c c' u m is unsent unwaited expects same client h =
      subst (λ (xs : List ℕ). To e did c' u (send (service v) 0 xs m)) (sym is) (lets e did c c' u m true unsent unwaited expects same client h)

  -- some of the reply was sent
  is-begun : (r : Reply) → (r ≡ Unsent → ⊥) → (c : Client) (m : Move J (Both I)) → let_send (service v) 0 c r m ≡ m
  is-begun Unsent h c m = absurd (h refl)
  is-begun stage.Begun h c m = refl
  is-begun (stage.Whole closes) h c m = refl

  pub lets-begun : (e : Moment J) (did : Performed J (Both I)) (c : Connection R) (u : Progress J) (m : Move J (Both I)) → ((kept c.client).reply ≡ Unsent → ⊥)
      → To e did c u (Look (λ b s. let_send (service v) 0 s.client s.client.reply m)) → To e did c u m
  lets-begun e did c u m begun h =
      let b = h.ledger in
      let s = h.inner in
      let not-unsent : s.client.reply ≡ Unsent → ⊥ = λ x. begun (ap (λ (k : Kept). k.reply) h.within.serves.client ∙ x) in
      record { ledger = b; inner = s; within = h.within; leads = h.leads ∙ ap (λ (n : Move J (Both I)). before u.acts.items (perform n b s)) (is-begun s.client.reply not-unsent s.client m) }

  -- or it was waited for before
  waited-sends : (r : Reply) (c : Client) (m : Move J (Both I)) → c.waited ≡ true → let_send (service v) 0 c r m ≡ m
  waited-sends Unsent c m e = ap (λ (x : Bool). if x then m else change (λ k. record k { waited = true }) (if c.expects then send (service v) 0 continue_reply m else m)) e
  waited-sends stage.Begun c m e = refl
  waited-sends (stage.Whole closes) c m e = refl

  pub lets-waited : (e : Moment J) (did : Performed J (Both I)) (c : Connection R) (u : Progress J) (m : Move J (Both I)) → c.client.waited ≡ true
      → To e did c u (Look (λ b s. let_send (service v) 0 s.client s.client.reply m)) → To e did c u m
  lets-waited e did c u m waited h =
      let b = h.ledger in
      let s = h.inner in
      let is : s.client.waited ≡ true = sym (ap (λ (k : Kept). k.waited) h.within.serves.client) ∙ waited in
      record { ledger = b; inner = s; within = h.within; leads = h.leads ∙ ap (λ (n : Move J (Both I)). before u.acts.items (perform n b s)) (waited-sends s.client.reply s.client m is) }

  -- ---- a body that is waited for

  -- as the code tells it
  abbrev pub awaits : Connection R → Bool
  awaits c = c.waits.body && may_come (kept c.client)

  abbrev Awaits : ℕ → Performed J (Both I) → Connection R → Progress J → Move J (Both I) → Type 0
  Awaits now did c u m = To (plain stage.Busy) did c u (await_body (service v) now m)

  awaits-is : (now : ℕ) (did : Performed J (Both I)) (c : Connection R) (u : Progress J) (m : Move J (Both I)) (h : Awaits now did c u m) (x : Bool) → awaits c ≡ x
      → did ≡ before u.acts.items (perform (if x then wait_more (service v) now h.inner.client m else m) h.ledger h.inner)
  awaits-is now did c u m h x is =
      let b = h.ledger in
      let s = h.inner in
      h.leads
      ∙ ap (λ (w : Waits). before u.acts.items (perform (if w.body && plans.may_come (service v) now b s.client then wait_more (service v) now s.client m else m) b s)) (sym h.within.run.3)
      ∙ ap (λ (k : Kept). before u.acts.items (perform (if c.waits.body && may_come k then wait_more (service v) now s.client m else m) b s)) (sym h.within.serves.client)
      ∙ ap (λ (y : Bool). before u.acts.items (perform (if y then wait_more (service v) now s.client m else m) b s)) is

  pub awaits-body : (now : ℕ) (did : Performed J (Both I)) (c : Connection R) (u : Progress J) (m : Move J (Both I)) → awaits c ≡ true
      → Awaits now did c u m → To (plain stage.Busy) did c u (Look (λ b s. wait_more (service v) now s.client m))
  awaits-body now did c u m is h = record { ledger = h.ledger; inner = h.inner; within = h.within; leads = awaits-is now did c u m h true is }

  pub awaits-none : (now : ℕ) (did : Performed J (Both I)) (c : Connection R) (u : Progress J) (m : Move J (Both I)) → awaits c ≡ false
      → Awaits now did c u m → To (plain stage.Busy) did c u m
  awaits-none now did c u m is h = record { ledger = h.ledger; inner = h.inner; within = h.within; leads = awaits-is now did c u m h false is }

  -- ---- a word of the run

  -- it isn't the last one
  abbrev pub IsOther : Said → Type 0
  IsOther said.Over = ⊥
  IsOther w = Unit {0}

  -- what the run waits for once it said the word
  abbrev pub waits_said : Said → Waits → Waits
  waits_said said.WantsNoBody w = record w { body = false }
  waits_said w x = x

  did-said : (w : Said) (ds : List Deed) (x : Waits) → IsOther w → waits_did (Say w ∷ ds) x ≡ waits_did ds (waits_said w x)
  did-said (said.Send bytes) ds x o = refl
  did-said said.WantsNoBody ds x o = refl
  did-said (said.Times times) ds x o = refl
  did-said (said.Ended closes) ds x o = refl
  did-said said.Over ds x o = absurd o

  over-said : (w : Said) (ds : List Deed) → IsOther w → says_over (Say w ∷ ds) ≡ says_over ds
  over-said (said.Send bytes) ds o = refl
  over-said said.WantsNoBody ds o = refl
  over-said (said.Times times) ds o = refl
  over-said (said.Ended closes) ds o = refl
  over-said said.Over ds o = absurd o

  others-left : (x : RunAct J) (xs ys : List (RunAct J)) → x ∷ xs ≡ x ∷ ys → xs ≡ ys
  others-left x xs ys e = cc

  waits-now : (st : Stage) (o : Option R) (w x : Waits) (b : Ledger J) (r : I) → w ≡ x → HasRun v st o w b r → HasRun v st o x b r
  waits-now st o w x b r e h = subst (λ (y : Waits). HasRun v st o y b r) e h

  -- it is said: what it does is still to come
  pub said-so : (w : Said) (st : Stage) (ds : List Deed) (a : Asks J) (rest : List (RunAct J)) (did : Performed J (Both I)) (c c' : Connection R) (u : Progress J) (m : Move J (Both I)) → IsOther w
      → c' ≡ record c { waits = c'.waits } → waits_of c'.waits ≡ waits_said w (waits_of c.waits)
      → To (taking st (Say w ∷ ds) a (made.Say w ∷ rest)) did c u m → To (taking st ds a rest) did c' u m
  said-so w st ds a rest did c c' u m other same waits h =
      let b = h.ledger in
      let s = h.inner in
      let x = h.within.serves in
      record {
        ledger = b;
        inner = s;
        within = record {
          serves = record {
            client = ap (λ (k : Connection R). kept k.client) same ∙ x.client;
            sockets = x.sockets ∙ ap (λ (k : Connection R). places (is_there b) k.sockets.items) (sym same);
            count = ap (λ (k : Connection R). k.count) same ∙ x.count;
            keeping = ap (λ (k : Connection R). k.keeping) same ∙ x.keeping;
            offered = x.offered;
            taking = λ there. ap (λ (k : Connection R). k.is_taking) same ∙ x.taking there;
            counted = x.counted;
            once = x.once;
            none_asked = x.none_asked;
            on = x.on;
          };
          at = h.within.at;
          run = subst (λ (o : Option R). HasRun v st o (waits_did ds (waits_of c'.waits)) (at_end (taking st ds a rest) b) s.run) (sym (ap (λ (k : Connection R). k.run) same))
              (waits-now st c.run (waits_did (Say w ∷ ds) (waits_of c.waits)) (waits_did ds (waits_of c'.waits)) (at_end (taking st ds a rest) b) s.run
              (did-said w ds (waits_of c.waits) other ∙ ap (waits_did ds) (sym waits)) h.within.run);
          known = h.within.known;
          blank = λ over. h.within.blank (over-said w ds other ∙ over);
          made = others-left (made.Say w) rest _ h.within.made;
        };
        leads = h.leads;
      }

  -- the last one: nothing of the run is left
  pub flushes : (st : Stage) (ds : List Deed) (a : Asks J) (rest : List (RunAct J)) (did : Performed J (Both I)) (c c' : Connection R) (u : Progress J) (m : Move J (Both I))
      → c'.sockets.items ≡ c.sockets.items → c'.count ≡ c.count → c'.keeping ≡ c.keeping → c'.is_taking ≡ c.is_taking
      → kept c'.client ≡ record (kept c.client) { stage = stage.Flush }
      → To (taking st (Say said.Over ∷ ds) a (made.Say said.Over ∷ rest)) did c u (change (λ k. record k { stage = stage.Flush }) m) → To (taking stage.Flush ds a rest) did c' u m
  flushes st ds a rest did c c' u m socks count keeping taking client h =
      let b = h.ledger in
      let s = h.inner in
      let w = h.within.serves in
      record {
        ledger = b;
        inner = record s { client = record s.client { stage = stage.Flush } };
        within = record {
          serves = record {
            client = client ∙ ap (λ (k : Kept). record k { stage = stage.Flush }) w.client;
            sockets = w.sockets ∙ ap (places (is_there b)) (sym socks);
            count = count ∙ w.count;
            keeping = keeping ∙ w.keeping;
            offered = w.offered;
            taking = λ there. taking ∙ w.taking there;
            counted = w.counted;
            once = w.once;
            none_asked = w.none_asked;
            on = tt;
          };
          at = refl;
          run = tt;
          known = h.within.blank refl;
          blank = λ over. h.within.blank refl;
          made = others-left (made.Say said.Over) rest _ h.within.made;
        };
        leads = h.leads;
      }
