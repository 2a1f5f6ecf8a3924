-- A strand that is shown something takes the turn of its plan.
use Rattle.std.proofs.Common.{◌≡◌, ℕ, Bool, true, false, not, ◌&&◌, ◌||◌, List, [], ◌∷◌, take, Some, None, if◌then◌else◌, refl, sym, ap, ◌∙◌, subst}
use Rattle.std.specs.Prelude.{◌-◌, ◌%◌}
use Rattle.strand_contract.specs.declared.turns.Place.TheVariants as place
use Rattle.strand_contract.specs.declared.turns.Seen.{Seen}
use Rattle.strand_contract.specs.declared.turns.Seen.TheVariants as seens
use Rattle.strand_contract.specs.Actions.{Action, LocalAction, Did, Put}
use Rattle.strand_contract.specs.Alone.{lives, moment, todo, begun_offer, is_some_left, IsExecution}
use Rattle.strand_contract.specs.Calls.{action_of}
use Rattle.strand_contract.specs.Laws.{is_still}
use Rattle.strand_contract.specs.ClientOnlyLaws.{clash}
use Rattle.strand_plans.specs.Ledgers.{Ledger, has, is_place, left_at, has_offer, entered}
use Rattle.strand_plans.specs.Moves.{Done, Performed, perform}
use Rattle.strand_plans.specs.Plans.{state_of, acts_of, stepped}
use Rattle.strand_plans.specs.Turns.{Comes}
use Rattle.strand_plans.specs.Conditions.{IsServed}
use Rattle.strand_plans.proofs.Calls.{IsCalled, shown}
use Rattle.strand_plans.proofs.Executions.{is-idle}
use Rattle.strand_plans.proofs.Ledgers.{begun-is}
use Rattle.strand_plans.proofs.Once.{deadlines}
use Rattle.strand_plans.proofs.PlanLaws.{lived, piece-is}
use Rattle.strand_plans.proofs.Tidy.{IsTidyLedger}
use Rattle.run_contract.specs.Conditions.{IsRun}
use Rattle.connection_plan.specs.Services.{Service, Both}
use Rattle.connection_plan.specs.Turns.{is_there}
use Rattle.connection_plan.specs.Conditions.{MayAsk}
use Rattle.connection_plan.specs.Connections.{connection_plan, connection_behavior, connection_turn}
use Rattle.connection_plan.proofs.Meets.{meets}
use Rattle.connection_strand.specs.Views.{View, service, Known}
use Rattle.connection_strand.specs.declared.state.Connection.{Connection}
use Rattle.connection_strand.specs.declared.state.Progress.{Progress}
use Rattle.connection_strand.specs.Kept.{kept, kept_of}
use Rattle.connection_strand.specs.Standing.{Came, before}
use Rattle.connection_strand.specs.Following.{Follows, turn_begun}
use Rattle.connection_strand.specs.Shown.{Shown, action_by, offered_as, takes_as}
use Rattle.connection_strand.proofs.Bridge.{queued-so}

pub or-false : (c : Bool) → c ≡ (c || false)
or-false true = refl
or-false false = refl

pub or-true : (c : Bool) → true ≡ (c || true)
or-true true = refl
or-true false = refl

-- ---- what is shown begins a turn, at the present moment

shows-turn : {J : Type 0} (b : Ledger J) (x : Seen) → is_still (Did (action_by b x)) ≡ false
shows-turn b seens.Stop = refl
shows-turn b x = refl

shows-now : {J : Type 0} (b : Ledger J) (x : Seen) (es : List (LocalAction J)) → moment (Did (action_by b x) ∷ es) ≡ moment es
shows-now b seens.Stop es = refl
shows-now b x es = refl

takes-begun : {J : Type 0} (b : Ledger J) (x : Seen) → takes_as x ≡ is_place place.Client (entered (Did (action_by b x)) b).begun
takes-begun b (seens.Took place.Client n) = refl
takes-begun b (seens.Took (place.Sock k) n) = refl
takes-begun b x = refl

module _ {J I : Type 0} (site : Service J I) where
  -- to what the turn of an action comes
  abbrev pub turned : Action J → List (LocalAction J) → Performed J (Both I)
  turned a es = stepped (connection_plan site) (moment (Did a ∷ es)) (Did a) (state_of (connection_plan site) es)

  begins-turn : (a : Action J) (es : List (LocalAction J)) → is_still (Did a) ≡ false → begun_offer (Did a ∷ es) ≡ turn_begun (Did a ∷ es)
  begins-turn a es e = sym (ap (λ (c : Bool). if c then turn_begun es else begun_offer (Did a ∷ es)) e)

  -- the moves of a turn are those of the plan
  pub turned-is : (now : ℕ) (a : Action J) (es : List (LocalAction J)) → is_still (Did a) ≡ false → moment (Did a ∷ es) ≡ now
      → let st = state_of (connection_plan site) es in let b = entered (Did a) st.ledger in turned a es ≡ perform (connection_turn site now (Did a) b st.inner) b st.inner
  turned-is now a es e m =
      let st = state_of (connection_plan site) es in
      let b = entered (Did a) st.ledger in
      ap (λ (c : Bool). perform (if c then Done else connection_turn site (moment (Did a ∷ es)) (Did a) b st.inner) b st.inner) e
      ∙ ap (λ (n : ℕ). perform (connection_turn site n (Did a) b st.inner) b st.inner) m

-- a connection that came to it follows the plan
pub follows-by : {R J I : Type 0} (v : View R J I) (a : Action J) (es : List (LocalAction J)) (c : Connection R) (u : Progress J) → is_still (Did a) ≡ false
    → Came v (turned (service v) a es) c u → Follows v c (Did a ∷ es) × (u.acts.items ≡ acts_of (connection_plan (service v)) (Did a ∷ es))
follows-by v a es c u e x = (
  record { stays = x.stays; taking = λ there. x.taking there ∙ ap (is_place place.Client) (sym (begun-is (connection_plan (service v)) (Did a ∷ es)) ∙ begins-turn (service v) a es e) },
  sym x.acts,
)

-- ---- the offer of the client

module _ {J : Type 0} (b : Ledger J) (tidy : IsTidyLedger b) where
  -- it isn't in line while it is begun
  unlined : b.begun ≡ Some place.Client → has place.Client b.places ≡ false
  unlined begun = test (has place.Client b.places) refl
    where
      test : (o : Bool) → has place.Client b.places ≡ o → has place.Client b.places ≡ false
      test true e = clash (is_place place.Client b.begun) (ap (is_place place.Client) begun) (tidy.apart place.Client e)
      test false e = e

  -- and it is in line where something is left, while none goes on
  lined : (is_some_left (left_at place.Client b) ≡ true → (b.put_off place.Client || (has place.Client b.places || false)) ≡ true) → is_there b ≡ true
      → (is_there b && is_some_left (if is_there b then left_at place.Client b else []) && not (b.put_off place.Client)) ≡ (has place.Client b.places || false)
  lined served there = queued-so b tidy (is_there b) (λ o. served) there ∙ or-false (has place.Client b.places)

  -- so it is while that of a socket goes on
  beside : (k : ℕ) → b.begun ≡ Some (place.Sock k) → IsServed place.Client b → is_there b ≡ true
      → (is_there b && is_some_left (if is_there b then left_at place.Client b else []) && not (b.put_off place.Client)) ≡ (has place.Client b.places || false)
  beside k begun served there =
      lined (λ some. subst (λ (o : Bool). (b.put_off place.Client || (has place.Client b.places || o)) ≡ true) (ap (is_place place.Client) begun) (served there some)) there

module _ {R J I : Type 0} (v : View R J I) (lawful : IsRun v.meaning.plan v.meaning.holds) where
  abbrev IsShown : Seen → List (LocalAction J) → Type 0
  IsShown x es = IsExecution (connection_behavior (service v)) (Did (action_of (connection_behavior (service v)) es x) ∷ es)

  called : (x : Seen) (es : List (LocalAction J)) → IsShown x es → IsCalled (connection_plan (service v)) (Known v) (Did (action_of (connection_behavior (service v)) es x)) es
  called x es f = shown (connection_plan (service v)) (Known v) (MayAsk (service v)) (meets (service v) v.meaning.holds lawful) x es f

  -- the action is the one of the ledger
  action-is : (x : Seen) (es : List (LocalAction J)) → IsShown x es → action_of (connection_behavior (service v)) es x ≡ action_by (state_of (connection_plan (service v)) es).ledger x
  action-is (seens.Took q n) es f =
      let b = (state_of (connection_plan (service v)) es).ledger in
      ap (λ (bytes : List ℕ). Put q (take n bytes)) (piece-is (connection_plan (service v)) (Known v) (MayAsk (service v)) (meets (service v) v.meaning.holds lawful) es q f.0 f.1.0.living f.1.0.no_act)
      ∙ ap (λ (o : Bool). Put q (take n (take (16_384 - b.taken q % 16_384) (if o then left_at q b else [])))) (called (seens.Took q n) es f).comes.taking.opened
  action-is x es f = refl

  -- no question waits
  idle : (es : List (LocalAction J)) → IsExecution (connection_behavior (service v)) es → lives es ≡ true → todo (connection_behavior (service v)) es ≡ [] → (state_of (connection_plan (service v)) es).ledger.asked ≡ None
  idle es f l t = (is-idle (connection_plan (service v)) (Known v) es (lived (connection_plan (service v)) (Known v) (MayAsk (service v)) (meets (service v) v.meaning.holds lawful) es f l) t).none_asked

  none-asked : (x : Seen) (es : List (LocalAction J)) → IsShown x es → (state_of (connection_plan (service v)) es).ledger.asked ≡ None
  none-asked (seens.Bytes q bytes) es f = idle es f.0 f.1.0.living f.1.0.idle.no_act
  none-asked (seens.Took q n) es f = idle es f.0 f.1.0.living f.1.0.no_act
  none-asked (seens.Later q) es f = idle es f.0 f.1.living f.1.no_act
  none-asked (seens.Lost q) es f = idle es f.0 f.1.living f.1.no_act
  none-asked (seens.Due n) es f = idle es f.0 f.1.0.living f.1.0.no_act
  none-asked (seens.Run k) es f = idle es f.0 f.1.0.living f.1.0.no_act
  none-asked seens.Stop es f = idle es f.0 f.1.0.living f.1.0.no_act
  none-asked x es f = idle es f.0 f.1.living f.1.idle.no_act

  -- whether the client's offer is queued or goes on is seen from what is kept
  offers : (x : Seen) (es : List (LocalAction J)) → IsShown x es → let st = state_of (connection_plan (service v)) es in let b = st.ledger in
      is_there b ≡ true → offered_as x (kept_of b st.inner.client) ≡ has_offer place.Client (entered (Did (action_by b x)) b)
  offers (seens.Bytes q bytes) es f there = let k = called (seens.Bytes q bytes) es f in lined (state_of (connection_plan (service v)) es).ledger k.tidy (k.settled f.1.0.idle.no_offer place.Client there) there
  offers (seens.Ready place.Client) es f there = let k = called (seens.Ready place.Client) es f in sym (ap (λ ps. has place.Client ps || false) k.comes.free.no_place)
  offers (seens.Took place.Client n) es f there = or-true (has place.Client (state_of (connection_plan (service v)) es).ledger.places)
  offers (seens.Took (place.Sock j) n) es f there = let k = called (seens.Took (place.Sock j) n) es f in beside (state_of (connection_plan (service v)) es).ledger k.tidy j k.comes.taking.begun (k.served place.Client) there
  offers (seens.Later place.Client) es f there = let k = called (seens.Later place.Client) es f in sym (ap (λ o. o || false) (unlined (state_of (connection_plan (service v)) es).ledger k.tidy k.comes.begun))
  offers (seens.Later (place.Sock j)) es f there = let k = called (seens.Later (place.Sock j)) es f in beside (state_of (connection_plan (service v)) es).ledger k.tidy j k.comes.begun (k.served place.Client) there
  offers (seens.Lost place.Client) es f there = let k = called (seens.Lost place.Client) es f in sym (ap (λ o. o || false) (unlined (state_of (connection_plan (service v)) es).ledger k.tidy k.comes.begun))
  offers (seens.Lost (place.Sock j)) es f there = let k = called (seens.Lost (place.Sock j)) es f in beside (state_of (connection_plan (service v)) es).ledger k.tidy j k.comes.begun (k.served place.Client) there
  offers (seens.Due n) es f there = let k = called (seens.Due n) es f in lined (state_of (connection_plan (service v)) es).ledger k.tidy (k.settled f.1.0.no_offer place.Client there) there
  offers (seens.Run n) es f there = let k = called (seens.Run n) es f in lined (state_of (connection_plan (service v)) es).ledger k.tidy (k.settled f.1.0.no_offer place.Client there) there
  offers seens.Stop es f there = let k = called seens.Stop es f in lined (state_of (connection_plan (service v)) es).ledger k.tidy (k.settled f.1.0.no_offer place.Client there) there
  offers x es f there = let k = called x es f in lined (state_of (connection_plan (service v)) es).ledger k.tidy (k.settled f.1.idle.no_offer place.Client there) there

  -- ---- the turn

  pub may-show : (now : ℕ) (x : Seen) (es : List (LocalAction J)) (c : Connection R) (taking : Bool) (u : Progress J) → Follows v c es → now ≡ moment es → IsShown x es
      → taking ≡ takes_as x → u.is_offered ≡ offered_as x (kept c.client) → u.acts.items ≡ []
      → Shown v now x (turned (service v) (action_of (connection_behavior (service v)) es x) es) (record c { keeping = None; is_taking = taking }) u
  may-show now x es c taking u follows at f takes offered acts =
      let st = state_of (connection_plan (service v)) es in
      let b = st.ledger in
      let a = action_by b x in
      let k = called x es f in
      let y = follows.stays k.going in
      let m : moment (Did a ∷ es) ≡ now = shows-now b x es ∙ sym at in
      record {
        ledger = b;
        inner = st.inner;
        client = y.client;
        sockets = y.sockets;
        count = y.count;
        keeping = refl;
        offered = λ there. offered ∙ ap (offered_as x) y.client ∙ offers x es f there;
        taking = λ there. takes ∙ takes-begun b x;
        takes = k.tidy.takes place.Client;
        counted = k.tidy.counted place.Client;
        once = deadlines (connection_plan (service v)) es;
        none_asked = none-asked x es f;
        on = y.on;
        run = y.run;
        known = k.inner;
        comes = subst (λ (n : ℕ). Comes (connection_plan (service v)) n (Did a) st) m
            (subst (λ (a : Action J). Comes (connection_plan (service v)) (moment (Did a ∷ es)) (Did a) st) (action-is x es f) k.comes);
        leads = ap (λ (a : Action J). turned (service v) a es) (action-is x es f) ∙ turned-is (service v) now a es (shows-turn b x) m
            ∙ ap (λ acts. before acts (let b = entered (Did a) b in perform (connection_turn (service v) now (Did a) b st.inner) b st.inner)) (sym acts);
      }

  -- what is shown is no still action
  pub shown-turn : (x : Seen) (es : List (LocalAction J)) → IsShown x es → is_still (Did (action_of (connection_behavior (service v)) es x)) ≡ false
  shown-turn x es f = ap (λ (a : Action J). is_still (Did a)) (action-is x es f) ∙ shows-turn (state_of (connection_plan (service v)) es).ledger x
