-- A turn of the run is taken part by part: each act is the connection's, each word is heard where it stands.
use Rattle.std.specs.Prelude.{option_to_list, is_some, MatchOption, ◌+◌}
use Rattle.std.proofs.Common.{◌≡◌, ◌⊎◌, inl, inr, ℕ, suc, ◌≤◌, ◌||◌, Bool, true, false, not, List, [], ◌∷◌, ◌++◌, length, Option, Some, None, if◌then◌else◌, refl, sym, ap, ◌∙◌, subst, append_assoc, append-nil, arith}
use Rattle.strand_contract.specs.declared.turns.Act.{Act}
use Rattle.strand_contract.specs.declared.turns.Act.TheVariants as act
use Rattle.strand_contract.specs.declared.turns.Place.TheVariants as place
use Rattle.strand_contract.specs.Alone.{without_place}
use Rattle.strand_plans.specs.Questions.{Question, asking_if}
use Rattle.strand_plans.specs.Questions as question
use Rattle.strand_plans.specs.Ledgers.{Ledger, has, has_number, numbers, is_place, wants_offer}
use Rattle.strand_plans.specs.Moves.{Move, Ask, Performed, after_act_if, with_sent, with_offer, with_thread, hung_up, asked_of, perform}
use Rattle.strand_plans.specs.Tidiness.{NumbersOnce}
use Rattle.strand_plans.proofs.Once.{once-disarmed, once-armed}
use Rattle.run_contract.specs.declared.turns.RunAct.{RunAct}
use Rattle.run_contract.specs.declared.turns.RunAct.TheVariants as made
use Rattle.run_contract.specs.declared.turns.RunTurn.{RunTurn}
use Rattle.run_contract.specs.declared.turns.Said.{Said}
use Rattle.run_contract.specs.Deeds as deed
use Rattle.run_contract.specs.Deeds.{Deed, Say, Asks, Nothing, Outside, ledger_by, ledger_after, made_if, made_by, made_after, acts_made, made_asking, says_over}
use Rattle.run_contract.specs.Runs.{Waits, waits_did}
use Rattle.connection_plan.specs.Clients.{Stage, Client}
use Rattle.connection_plan.specs.Services.{Both}
use Rattle.connection_plan.specs.Lifts.{lifted_deed, lifted}
use Rattle.connection_plan.specs.Turns.{is_there, says, asks_then}
use Rattle.connection_plan.specs.Conditions.{AgreesWithin}
use Rattle.connection_plan.proofs.OwnMoves.{LeavesClient, deed-leaves-client}
use Rattle.connection_strand.specs.Views.{View, service}
use Rattle.connection_strand.specs.declared.state.Connection.{Connection}
use Rattle.connection_strand.specs.declared.state.Progress.{Progress}
use Rattle.connection_strand.specs.Acts.{is_question, kept_with, sockets_after}
use Rattle.connection_strand.specs.Kept.{kept, kept_of, waits_of}
use Rattle.connection_strand.specs.Standing.{plain, taking, HasRun, Serves, Toward, Came, Went, before, at_end, places, kept_sock}
use Rattle.connection_strand.specs.Turns.{TowardBy, Takes, Took, TakesPart, HearsWord, stage_after}
use Rattle.connection_strand.proofs.Sockets.{without-none, places-without}

-- ---- the act of a deed, where it is one

abbrev some_if : {J : Type 0} → Bool → Act J → Option (Act J)
some_if c a = if c then Some a else None

abbrev act_of : {J : Type 0} → Deed → Ledger J → Option (Act J)
act_of (deed.Ready k) b = some_if (not (has_number k b.threads)) (act.Ready k)
act_of (deed.Unready k) b = Some (act.Unready k)
act_of (deed.Arm k at) b = Some (act.Arm (suc (suc k)) at)
act_of (deed.Cancel k) b = Some (act.Cancel (suc (suc k)))
act_of (deed.HangUp k) b = some_if (has (place.Sock k) b.opened) (act.HangUp (place.Sock k))
act_of (deed.Send k bytes) b = some_if (wants_offer (place.Sock k) (with_sent (place.Sock k) bytes b)) (act.Offer (place.Sock k))
act_of (deed.Log line) b = Some (act.Log line)
act_of (Say w) b = None

-- it is no word
abbrev IsAct : Deed → Type 0
IsAct (Say w) = ⊥
IsAct d = Unit {0}

-- the open sockets after the act, where it is one
abbrev socks_if : {J : Type 0} → Option (Act J) → List ℕ → List ℕ
socks_if None ks = ks
socks_if (Some a) ks = sockets_after a ks

-- an act that is no question, and keeps no socket
record IsCalm {J : Type 0} (a : Act J) : Type 0 where
  goes_on : is_question a ≡ false
  keeps : (k : Option ℕ) → kept_with a k ≡ k

of-some : {A : Type 0} (x y : A) → Some x ≡ Some y → x ≡ y
of-some x y e = cc

none-some : {A : Type 0} {C : Type 1} (x : A) → None ≡ Some x → C
none-some x e = absurd (cc)

of-if : {J : Type 0} (c : Bool) (a x : Act J) → some_if c a ≡ Some x → a ≡ x
of-if true a x e = of-some a x e
of-if false a x e = absurd (let f : None ≡ Some x = e in cc)

made-if : {J : Type 0} (c : Bool) (a : Act J) → made_if c a ≡ acts_made (option_to_list (some_if c a))
made-if true a = refl
made-if false a = refl

done-if : {J S : Type 0} (c : Bool) (a : Act J) (p : Performed J S) → after_act_if c a p ≡ before (option_to_list (some_if c a)) p
done-if true a p = refl
done-if false a p = refl

socks-if : {J : Type 0} (c : Bool) (a : Act J) (ks : List ℕ) → sockets_after a ks ≡ ks → ks ≡ socks_if (some_if c a) ks
socks-if true a ks e = sym e
socks-if false a ks e = refl

hangs : {J : Type 0} (k : ℕ) (b : Ledger J) (o : Bool) (ks : List ℕ) → b.opened ≡ places o ks → (c : Bool) → has (place.Sock k) b.opened ≡ c
    → (hung_up (place.Sock k) b).opened ≡ places o (socks_if (some_if {J = J} c (act.HangUp (place.Sock k))) ks)
hangs k b o ks e true h = ap (without_place (place.Sock k)) e ∙ places-without k o ks
hangs k b o ks e false h = without-none (place.Sock k) b.opened h ∙ e

-- ---- what a deed does, and what of it is an act

record IsDeed {J : Type 0} (d : Deed) (b : Ledger J) : Type 1 where
  made_is : made_by d b ≡ acts_made (option_to_list (act_of d b))
  socks : (o : Bool) (ks : List ℕ) → b.opened ≡ places o ks → (ledger_by d b).opened ≡ places o (socks_if (act_of d b) ks)
  calm : (x : Act J) → act_of d b ≡ Some x → IsCalm x
  once : NumbersOnce (numbers b.armed) → NumbersOnce (numbers (ledger_by d b).armed)
  asked : (ledger_by d b).asked ≡ b.asked
  did : (ds : List Deed) (w : Waits) → waits_did (d ∷ ds) w ≡ waits_did ds w
  over : (ds : List Deed) → says_over (d ∷ ds) ≡ says_over ds
  done : {R : Type 0} (speaks : Said → Move J (Both R) → Move J (Both R)) (m : Move J (Both R)) (s : Both R)
      → perform (lifted_deed speaks d m) b s ≡ before (option_to_list (act_of d b)) (perform m (ledger_by d b) s)

calm-as : {J : Type 0} (a x : Act J) → IsCalm a → a ≡ x → IsCalm x
calm-as a x h e = subst IsCalm e h

is-deed : {J : Type 0} (d : Deed) (b : Ledger J) → IsAct d → IsDeed d b
is-deed (deed.Ready k) b h = record {
  made_is = made-if (not (has_number k b.threads)) (act.Ready k);
  socks = λ o ks e. e ∙ ap (places o) (socks-if (not (has_number k b.threads)) (act.Ready k) ks refl);
  calm = λ x e. calm-as (act.Ready k) x (record { goes_on = refl; keeps = λ k. refl }) (of-if (not (has_number k b.threads)) (act.Ready k) x e);
  once = λ h. h;
  asked = refl;
  did = λ ds w. refl;
  over = λ ds. refl;
  done = λ speaks m s. done-if (not (has_number k b.threads)) (act.Ready k) (perform m (with_thread k b) s);
}
is-deed (deed.Unready k) b h = record {
  made_is = refl;
  socks = λ o ks e. e;
  calm = λ x e. calm-as (act.Unready k) x (record { goes_on = refl; keeps = λ k. refl }) (of-some (act.Unready k) x e);
  once = λ h. h;
  asked = refl;
  did = λ ds w. refl;
  over = λ ds. refl;
  done = λ speaks m s. refl;
}
is-deed (deed.Arm k at) b h = record {
  made_is = refl;
  socks = λ o ks e. e;
  calm = λ x e. calm-as (act.Arm (suc (suc k)) at) x (record { goes_on = refl; keeps = λ k. refl }) (of-some (act.Arm (suc (suc k)) at) x e);
  once = once-armed (suc (suc k)) at.0 b.armed;
  asked = refl;
  did = λ ds w. refl;
  over = λ ds. refl;
  done = λ speaks m s. refl;
}
is-deed (deed.Cancel k) b h = record {
  made_is = refl;
  socks = λ o ks e. e;
  calm = λ x e. calm-as (act.Cancel (suc (suc k))) x (record { goes_on = refl; keeps = λ k. refl }) (of-some (act.Cancel (suc (suc k))) x e);
  once = once-disarmed (suc (suc k)) b.armed;
  asked = refl;
  did = λ ds w. refl;
  over = λ ds. refl;
  done = λ speaks m s. refl;
}
is-deed (deed.HangUp k) b h = record {
  made_is = made-if (has (place.Sock k) b.opened) (act.HangUp (place.Sock k));
  socks = λ o ks e. hangs k b o ks e (has (place.Sock k) b.opened) refl;
  calm = λ x e. calm-as (act.HangUp (place.Sock k)) x (record { goes_on = refl; keeps = λ k. refl }) (of-if (has (place.Sock k) b.opened) (act.HangUp (place.Sock k)) x e);
  once = λ h. h;
  asked = refl;
  did = λ ds w. refl;
  over = λ ds. refl;
  done = λ speaks m s. done-if (has (place.Sock k) b.opened) (act.HangUp (place.Sock k)) (perform m (hung_up (place.Sock k) b) s);
}
is-deed (deed.Send k bytes) b h =
    let c = with_sent (place.Sock k) bytes b in
    let o = wants_offer (place.Sock k) c in
    let a = act.Offer (place.Sock k) in
    record {
      made_is = made-if o a;
      socks = λ p ks e. e ∙ ap (places p) (socks-if o a ks refl);
      calm = λ x e. calm-as a x (record { goes_on = refl; keeps = λ k. refl }) (of-if o a x e);
      once = λ h. h;
      asked = refl;
      did = λ ds w. refl;
      over = λ ds. refl;
      done = λ speaks m s. done-if o a (perform m (with_offer (place.Sock k) c) s);
    }
is-deed (deed.Log line) b h = record {
  made_is = refl;
  socks = λ o ks e. e;
  calm = λ x e. calm-as (act.Log line) x (record { goes_on = refl; keeps = λ k. refl }) (of-some (act.Log line) x e);
  once = λ h. h;
  asked = refl;
  did = λ ds w. refl;
  over = λ ds. refl;
  done = λ speaks m s. refl;
}
is-deed (Say w) b h = absurd h

-- ---- in code

-- it took the act
pub record TookAct {R J : Type 0} (a : Act J) (c c' : Connection R) (u u' : Progress J) : Type 0 where
  pub sockets : c'.sockets.items ≡ sockets_after a c.sockets.items
  pub keeping : c'.keeping ≡ kept_with a c.keeping
  pub kept : c' ≡ record c { sockets = c'.sockets; keeping = c'.keeping }
  pub offered : u'.is_offered ≡ u.is_offered
  pub acts : u'.acts.items ≡ u.acts.items ++ a ∷ []

-- it did what a deed came to, which may be nothing
record DidAct {R J : Type 0} (a : Option (Act J)) (c c' : Connection R) (u u' : Progress J) : Type 0 where
  sockets : c'.sockets.items ≡ socks_if a c.sockets.items
  kept : c' ≡ record c { sockets = c'.sockets }
  offered : u'.is_offered ≡ u.is_offered
  acts : u'.acts.items ≡ u.acts.items ++ option_to_list a

-- the client is kept as it was
kept-left : {J : Type 0} (b d : Ledger J) (c : Client) → LeavesClient b d → kept_of b c ≡ kept_of d c
kept-left b d c l = rw (l.opened, l.sent, l.taken, l.put_off, l.armed 0 (omega arith), l.armed 1 (omega arith)) refl

module _ {R J I : Type 0} (v : View R J I) (now : ℕ) where
  abbrev speaks : Said → Move J (Both I) → Move J (Both I)
  speaks = says (service v) now

  serves-on : (d : Deed) (c c' : Connection R) (u u' : Progress J) (b : Ledger J) (s : Both I) → IsDeed d b → Serves c u b s → DidAct (act_of d b) c c' u u' → Serves c' u' (ledger_by d b) s
  serves-on d c c' u u' b s h w x =
      let l = deed-leaves-client d b in
      record {
        client = ap (λ (k : Connection R). kept k.client) x.kept ∙ w.client ∙ kept-left b (ledger_by d b) s.client l;
        sockets = h.socks (is_there b) c.sockets.items w.sockets ∙ ap (λ o. places o (socks_if (act_of d b) c.sockets.items)) (sym l.opened) ∙ ap (places (is_there (ledger_by d b))) (sym x.sockets);
        count = ap (λ (k : Connection R). k.count) x.kept ∙ w.count ∙ sym l.count;
        keeping = ap (λ (k : Connection R). k.keeping) x.kept ∙ w.keeping;
        offered = λ there. x.offered ∙ w.offered (sym l.opened ∙ there) ∙ sym (λ i. l.places i || is_place place.Client (l.begun i));
        taking = λ there. ap (λ (k : Connection R). k.is_taking) x.kept ∙ w.taking (sym l.opened ∙ there) ∙ sym (ap (is_place place.Client) l.begun);
        counted = subst (λ (n : ℕ). n ≤ length ((ledger_by d b).sent place.Client)) (sym (ap (λ f. f place.Client) l.taken))
            (subst (λ (xs : List ℕ). b.taken place.Client ≤ length xs) (sym l.sent) w.counted);
        once = h.once w.once;
        none_asked = h.asked ∙ w.none_asked;
        on = w.on;
      }

  left-after : (xs ys zs rest : List (RunAct J)) → xs ≡ ys → ys ++ rest ≡ xs ++ zs → rest ≡ zs
  left-after xs [] zs rest e f = f ∙ ap (λ ws. ws ++ zs) e
  left-after xs (y ∷ ys) zs rest e f = left-after ys ys zs rest refl (let g : y ∷ (ys ++ rest) ≡ y ∷ (ys ++ zs) = f ∙ ap (λ ws. ws ++ zs) e in cc)

  -- a deed that is no word is done
  deed-done : (d : Deed) (ds : List Deed) (a : Asks J) (st : Stage) (rest rest' : List (RunAct J)) (did : Performed J (Both I)) (c c' : Connection R) (u u' : Progress J) (m : Move J (Both I)) → IsAct d
      → (h : TowardBy v now st (d ∷ ds) a rest did c u m) → DidAct (act_of d h.ledger) c c' u u' → rest ≡ acts_made (option_to_list (act_of d h.ledger)) ++ rest'
      → TowardBy v now st ds a rest' did c' u' m
  deed-done d ds a st rest rest' did c c' u u' m is h x parts =
      let b = h.ledger in
      let s = h.inner in
      let f = is-deed d b is in
      let more = lifted speaks ds (asks_then (service v) now a m) in
      let p = perform more (ledger_by d b) s in
      record {
        ledger = ledger_by d b;
        inner = s;
        within = record {
          serves = serves-on d c c' u u' b s f h.within.serves x;
          at = h.within.at;
          run = subst (λ (k : Connection R). HasRun v st k.run (waits_did ds (waits_of k.waits)) (at_end (taking st ds a rest') (ledger_by d b)) s.run) (sym x.kept)
              (subst (λ (w : Waits). HasRun v st c.run w (at_end (taking st ds a rest') (ledger_by d b)) s.run) (f.did ds (waits_of c.waits)) h.within.run);
          known = h.within.known;
          blank = λ over. h.within.blank (f.over ds ∙ over);
          made = left-after (made_by d b) (acts_made (option_to_list (act_of d b))) _ rest' (f.made_is)
              (sym parts ∙ h.within.made ∙ append_assoc (made_by d b) (made_after ds (ledger_by d b)) (made_asking a (ledger_after ds (ledger_by d b))));
        };
        leads = h.leads ∙ ap (before u.acts.items) (f.done speaks more s)
            ∙ ap (λ xs. record { state = p.state; acts = xs }) (sym (append_assoc u.acts.items (option_to_list (act_of d b)) p.acts) ∙ ap (λ xs. xs ++ p.acts) (sym x.acts));
      }

  -- ---- the next part

  first-is : (x y : RunAct J) (xs ys : List (RunAct J)) → x ∷ xs ≡ y ∷ ys → x ≡ y
  first-is x y xs ys e = cc

  others-are : (x y : RunAct J) (xs ys : List (RunAct J)) → x ∷ xs ≡ y ∷ ys → xs ≡ ys
  others-are x y xs ys e = cc

  not-none : {C : Type 0} (x : RunAct J) (xs : List (RunAct J)) → x ∷ xs ≡ [] → C
  not-none x xs e = absurd (cc)

  -- it is an act that the connection takes, or a word that it hears
  abbrev NextIs : RunAct J → List (RunAct J) → Performed J (Both I) → Connection R → Progress J → Move J (Both I) → Type 0
  NextIs x rest did c u m =
      ((b : Act J) × (x ≡ made.Act b) × ((c' : Connection R) (u' : Progress J) → TookAct b c c' u u' → Takes v now (not (is_question b)) rest did c' u' m))
      ⊎ ((w : Said) × (x ≡ made.Say w) × (st : Stage) × (ds : List Deed) × (a : Asks J) × TowardBy v now st (Say w ∷ ds) a (made.Say w ∷ rest) did c u m)

  asking-calm : (y : Question J) → (is_question (question.asking y) ≡ true) × ((ks : List ℕ) → sockets_after (question.asking y) ks ≡ ks) × ((k : Option ℕ) → k ≡ None → kept_with (question.asking y) k ≡ kept_sock (Some y))
  asking-calm (question.Dict zone call) = (refl, (λ ks. refl), (λ k e. e))
  asking-calm (question.Take key) = (refl, (λ ks. refl), (λ k e. e))
  asking-calm (question.Dial host port) = (refl, (λ ks. refl), (λ k e. e))
  asking-calm (question.Keep k key idle size) = (refl, (λ ks. refl), (λ k e. refl))
  asking-calm (question.Timer at job) = (refl, (λ ks. refl), (λ k e. e))

  asked-one : (y : Question J) → acts_made (asking_if (Some y)) ≡ made.Act (question.asking y) ∷ []
  asked-one (question.Dict zone call) = refl
  asked-one (question.Take key) = refl
  asked-one (question.Dial host port) = refl
  asked-one (question.Keep k key idle size) = refl
  asked-one (question.Timer at job) = refl

  asked-act : (y : Question J) → asking_if (Some y) ≡ question.asking y ∷ []
  asked-act (question.Dict zone call) = refl
  asked-act (question.Take key) = refl
  asked-act (question.Dial host port) = refl
  asked-act (question.Keep k key idle size) = refl
  asked-act (question.Timer at job) = refl

  -- the question is asked, and the turn comes to its end
  asked : (q y : Question J) (st : Stage) (rest : List (RunAct J)) (did : Performed J (Both I)) (c c' : Connection R) (u u' : Progress J) (m : Move J (Both I))
      → (h : TowardBy v now st [] (Outside q) rest did c u m) → asked_of q h.ledger ≡ Some y → TookAct (question.asking y) c c' u u' → Came v did c' u'
  asked q y st rest did c c' u u' m h is x =
      let b = h.ledger in
      let s = h.inner in
      let w = h.within.serves in
      let e = asking-calm y in
      let d : Ledger J = record b { asked = Some y } in
      let to : did ≡ record { state = record { ledger = d; inner = s }; acts = u.acts.items ++ question.asking y ∷ [] } =
      h.leads
      ∙ ap (λ (o : Bool). before u.acts.items (perform (if o then Ask q else m) b s)) (ap is_some is)
      ∙ ap (λ (o : Option (Question J)). record { state = record { ledger = record b { asked = o }; inner = s }; acts = u.acts.items ++ asking_if o }) is
      ∙ ap (λ xs. record { state = record { ledger = d; inner = s }; acts = u.acts.items ++ xs }) (asked-act y) in
      subst (λ (p : Performed J (Both I)). Came v p c' u') (sym to) (record {
        acts = sym x.acts;
        stays = λ on. record {
          client = ap (λ (k : Connection R). kept k.client) x.kept ∙ w.client;
          sockets = w.sockets ∙ ap (places (is_there b)) (sym (x.sockets ∙ e.1 c.sockets.items));
          count = ap (λ (k : Connection R). k.count) x.kept ∙ w.count;
          keeping = x.keeping ∙ e.2 c.keeping w.keeping;
          on = w.on;
          run = subst (λ (k : Connection R). HasRun v s.client.stage k.run (waits_of k.waits) d s.run) (sym x.kept)
              (subst (λ (o : Option (Question J)). HasRun v s.client.stage c.run (waits_of c.waits) (record b { asked = o }) s.run) is
              (subst (λ (z : Stage). HasRun v z c.run (waits_of c.waits) (record b { asked = asked_of q b }) s.run) (sym h.within.at) h.within.run));
        };
        taking = λ there. ap (λ (k : Connection R). k.is_taking) x.kept ∙ w.taking there;
      })

  -- all deeds are done: what is left is the question
  last-part : (x : RunAct J) (rest : List (RunAct J)) (a : Asks J) (st : Stage) (did : Performed J (Both I)) (c : Connection R) (u : Progress J) (m : Move J (Both I))
      → TowardBy v now st [] a (x ∷ rest) did c u m → NextIs x rest did c u m
  last-part x rest Nothing st did c u m h = not-none x rest h.within.made
  last-part x rest (deed.Within q) st did c u m h = not-none x rest h.within.made
  last-part x rest (Outside q) st did c u m h = by (asked_of q h.ledger) refl
    where
      by : (o : Option (Question J)) → asked_of q h.ledger ≡ o → NextIs x rest did c u m
      by None e = not-none x rest (h.within.made ∙ ap (λ (o : Option (Question J)). acts_made (asking_if o)) e)
      by (Some y) e =
          let parts : x ∷ rest ≡ made.Act (question.asking y) ∷ [] = h.within.made ∙ ap (λ (o : Option (Question J)). acts_made (asking_if o)) e ∙ asked-one y in
          inl (
            question.asking y,
            first-is x _ rest [] parts,
            λ c' u' took.
                subst (λ (o : Bool). Takes v now (not o) rest did c' u' m) (sym (asking-calm y).0) (others-are x _ rest [] parts, asked q y st (x ∷ rest) did c c' u u' m h e took),
          )

  -- a deed that is no word: its act is the next part, or it is none
  act-part : (d : Deed) (x : RunAct J) (rest : List (RunAct J)) (ds : List Deed) (a : Asks J) (st : Stage) (did : Performed J (Both I)) (c : Connection R) (u : Progress J) (m : Move J (Both I)) → IsAct d
      → (TowardBy v now st ds a (x ∷ rest) did c u m → NextIs x rest did c u m) → TowardBy v now st (d ∷ ds) a (x ∷ rest) did c u m → NextIs x rest did c u m
  act-part d x rest ds a st did c u m is others h = by (act_of d h.ledger) refl
    where
      f : IsDeed d h.ledger
      f = is-deed d h.ledger is

      left : List (RunAct J)
      left = made_after ds (ledger_by d h.ledger) ++ made_asking a (ledger_after ds (ledger_by d h.ledger))

      parts : x ∷ rest ≡ acts_made (option_to_list (act_of d h.ledger)) ++ left
      parts = h.within.made ∙ append_assoc (made_by d h.ledger) (made_after ds (ledger_by d h.ledger)) (made_asking a (ledger_after ds (ledger_by d h.ledger))) ∙ ap (λ xs. xs ++ left) f.made_is

      by : (o : Option (Act J)) → act_of d h.ledger ≡ o → NextIs x rest did c u m
      by None e = others (deed-done d ds a st (x ∷ rest) (x ∷ rest) did c c u u m is h
          (subst (λ (o : Option (Act J)). DidAct o c c u u) (sym e) (record { sockets = refl; kept = refl; offered = refl; acts = sym (append-nil u.acts.items) }))
          (ap (λ o. acts_made (option_to_list o) ++ x ∷ rest) (sym e)))
      by (Some y) e =
          let is-it : x ∷ rest ≡ made.Act y ∷ left = parts ∙ ap (λ o. acts_made (option_to_list o) ++ left) e in
          let calm = f.calm y e in
          inl (
            y,
            first-is x _ rest left is-it,
            λ c' u' took.
                subst (λ (o : Bool). Takes v now (not o) rest did c' u' m) (sym calm.goes_on) (
                  st,
                  ds,
                  a,
                  deed-done d ds a st (x ∷ rest) rest did c c' u u' m is h
                      (subst (λ (o : Option (Act J)). DidAct o c c' u u') (sym e) (record {
                        sockets = took.sockets;
                        kept = took.kept ∙ ap (λ (k : Option ℕ). record c { sockets = c'.sockets; keeping = k }) (took.keeping ∙ calm.keeps c.keeping);
                        offered = took.offered;
                        acts = took.acts;
                      }))
                      (ap (λ z. z ∷ rest) (first-is x _ rest left is-it) ∙ ap (λ o. acts_made (option_to_list o) ++ rest) (sym e)),
                ),
          )

  next-part : (x : RunAct J) (rest : List (RunAct J)) (ds : List Deed) (a : Asks J) (st : Stage) (did : Performed J (Both I)) (c : Connection R) (u : Progress J) (m : Move J (Both I))
      → TowardBy v now st ds a (x ∷ rest) did c u m → NextIs x rest did c u m
  next-part x rest [] a st did c u m h = last-part x rest a st did c u m h
  next-part x rest (Say w ∷ ds) a st did c u m h =
      let e = first-is x (made.Say w) rest _ h.within.made in
      inr (w, e, st, ds, a, subst (λ (y : RunAct J). TowardBy v now st (Say w ∷ ds) a (y ∷ rest) did c u m) e h)
  next-part x rest (deed.Ready k ∷ ds) a st did c u m h = act-part (deed.Ready k) x rest ds a st did c u m tt (next-part x rest ds a st did c u m) h
  next-part x rest (deed.Unready k ∷ ds) a st did c u m h = act-part (deed.Unready k) x rest ds a st did c u m tt (next-part x rest ds a st did c u m) h
  next-part x rest (deed.Arm k at ∷ ds) a st did c u m h = act-part (deed.Arm k at) x rest ds a st did c u m tt (next-part x rest ds a st did c u m) h
  next-part x rest (deed.Cancel k ∷ ds) a st did c u m h = act-part (deed.Cancel k) x rest ds a st did c u m tt (next-part x rest ds a st did c u m) h
  next-part x rest (deed.HangUp k ∷ ds) a st did c u m h = act-part (deed.HangUp k) x rest ds a st did c u m tt (next-part x rest ds a st did c u m) h
  next-part x rest (deed.Send k bytes ∷ ds) a st did c u m h = act-part (deed.Send k bytes) x rest ds a st did c u m tt (next-part x rest ds a st did c u m) h
  next-part x rest (deed.Log line ∷ ds) a st did c u m h = act-part (deed.Log line) x rest ds a st did c u m tt (next-part x rest ds a st did c u m) h

  same-act : (a b : Act J) → made.Act a ≡ made.Act b → a ≡ b
  same-act a b e = cc

  same-word : (w x : Said) (y : RunAct J) → y ≡ made.Say w → y ≡ made.Say x → w ≡ x
  same-word w x y e f = let g = sym e ∙ f in cc

  -- it is this act
  pub takes-act : (b : Act J) (rest : List (RunAct J)) (did : Performed J (Both I)) (c c' : Connection R) (u u' : Progress J) (m : Move J (Both I)) → TookAct b c c' u u'
      → Takes v now true (made.Act b ∷ rest) did c u m → Takes v now (not (is_question b)) rest did c' u' m
  takes-act b rest did c c' u u' m took h = elim (next-part (made.Act b) rest h.1 h.2 h.0 did c u m h.3) [
    | inl n ↦ let e = same-act b n.0 n.1 in
        subst (λ (a : Act J). Takes v now (not (is_question a)) rest did c' u' m) (sym e) (n.2 c' u' (subst (λ (a : Act J). TookAct a c c' u u') e took))
    | inr n ↦ absurd (let e : made.Act b ≡ made.Say n.0 = n.1 in cc)
  ]

  -- or this word
  pub takes-word : (w : Said) (rest : List (RunAct J)) (did : Performed J (Both I)) (c c' : Connection R) (u u' : Progress J) (m : Move J (Both I)) → HearsWord v now w c u c' u'
      → Takes v now true (made.Say w ∷ rest) did c u m → Takes v now true rest did c' u' m
  takes-word w rest did c c' u u' m hears h = elim (next-part (made.Say w) rest h.1 h.2 h.0 did c u m h.3) [
    | inl n ↦ absurd (let e : made.Say w ≡ made.Act n.0 = n.1 in cc)
    | inr n ↦
        let e = same-word w n.0 (made.Say w) refl n.1 in
        let t = subst (λ (x : Said). TowardBy v now n.2 (Say x ∷ n.3) n.4 (made.Say x ∷ rest) did c u m) (sym e) n.5 in
        (stage_after w n.2, n.3, n.4, hears n.2 n.3 n.4 rest did (lifted speaks n.3 (asks_then (service v) now n.4 m)) t)
  ]

  -- ---- nothing is left of it

  none-left : (a : Asks J) (st : Stage) (did : Performed J (Both I)) (c : Connection R) (u : Progress J) (m : Move J (Both I)) → TowardBy v now st [] a [] did c u m → Toward v (plain st) did c u m
  none-left Nothing st did c u m h = h
  none-left (deed.Within q) st did c u m h = record {
    ledger = h.ledger;
    inner = h.inner;
    within = record { serves = h.within.serves; at = h.within.at; run = h.within.run; known = h.within.known; blank = h.within.blank; made = refl };
    leads = h.leads;
  }
  none-left (Outside q) st did c u m h = by (asked_of q h.ledger) refl
    where
      b : Ledger J
      b = h.ledger

      by : (o : Option (Question J)) → asked_of q b ≡ o → Toward v (plain st) did c u m
      by (Some y) e = absurd (let f : [] ≡ made.Act (question.asking y) ∷ [] = h.within.made ∙ ap (λ (o : Option (Question J)). acts_made (asking_if o)) e ∙ asked-one y in cc)
      by None e =
          let same : at_end (taking st [] (Outside q) []) b ≡ b = ap (λ (o : Option (Question J)). record b { asked = o }) (e ∙ sym h.within.serves.none_asked) in
          record {
            ledger = b;
            inner = h.inner;
            within = record {
              serves = h.within.serves;
              at = h.within.at;
              run = subst (λ (l : Ledger J). HasRun v st c.run (waits_of c.waits) l h.inner.run) same h.within.run;
              known = subst (λ (l : Ledger J). AgreesWithin v.meaning.holds st l h.inner.run) same h.within.known;
              blank = λ over. absurd (let f : false ≡ true = over in cc);
              made = refl;
            };
            leads = h.leads ∙ ap (λ (o : Bool). before u.acts.items (perform (if o then Ask q else m) b h.inner)) (ap is_some e);
          }

  act-none : (d : Deed) (ds : List Deed) (a : Asks J) (st : Stage) (did : Performed J (Both I)) (c : Connection R) (u : Progress J) (m : Move J (Both I)) → IsAct d
      → (TowardBy v now st ds a [] did c u m → Went v true did c u m) → TowardBy v now st (d ∷ ds) a [] did c u m → Went v true did c u m
  act-none d ds a st did c u m is others h = by (act_of d h.ledger) refl
    where
      by : (o : Option (Act J)) → act_of d h.ledger ≡ o → Went v true did c u m
      by None e = others (deed-done d ds a st [] [] did c c u u m is h
          (subst (λ (o : Option (Act J)). DidAct o c c u u) (sym e) (record { sockets = refl; kept = refl; offered = refl; acts = sym (append-nil u.acts.items) }))
          (ap (λ o. acts_made (option_to_list o) ++ []) (sym e)))
      by (Some y) e = absurd (
          let f = is-deed d h.ledger is in
          let left = made_after ds (ledger_by d h.ledger) ++ made_asking a (ledger_after ds (ledger_by d h.ledger)) in
          let parts : [] ≡ made.Act y ∷ left =
          h.within.made ∙ append_assoc (made_by d h.ledger) (made_after ds (ledger_by d h.ledger)) (made_asking a (ledger_after ds (ledger_by d h.ledger)))
          ∙ ap (λ xs. xs ++ left) (f.made_is ∙ ap (λ o. acts_made (option_to_list o)) e) in cc)

  all-taken : (ds : List Deed) (a : Asks J) (st : Stage) (did : Performed J (Both I)) (c : Connection R) (u : Progress J) (m : Move J (Both I)) → TowardBy v now st ds a [] did c u m → Went v true did c u m
  all-taken [] a st did c u m h = (st, none-left a st did c u m h)
  all-taken (Say w ∷ ds) a st did c u m h = absurd (let e : [] ≡ made.Say w ∷ _ = h.within.made in cc)
  all-taken (deed.Ready k ∷ ds) a st did c u m h = act-none (deed.Ready k) ds a st did c u m tt (all-taken ds a st did c u m) h
  all-taken (deed.Unready k ∷ ds) a st did c u m h = act-none (deed.Unready k) ds a st did c u m tt (all-taken ds a st did c u m) h
  all-taken (deed.Arm k at ∷ ds) a st did c u m h = act-none (deed.Arm k at) ds a st did c u m tt (all-taken ds a st did c u m) h
  all-taken (deed.Cancel k ∷ ds) a st did c u m h = act-none (deed.Cancel k) ds a st did c u m tt (all-taken ds a st did c u m) h
  all-taken (deed.HangUp k ∷ ds) a st did c u m h = act-none (deed.HangUp k) ds a st did c u m tt (all-taken ds a st did c u m) h
  all-taken (deed.Send k bytes ∷ ds) a st did c u m h = act-none (deed.Send k bytes) ds a st did c u m tt (all-taken ds a st did c u m) h
  all-taken (deed.Log line ∷ ds) a st did c u m h = act-none (deed.Log line) ds a st did c u m tt (all-taken ds a st did c u m) h

  pub took-all : (on : Bool) (did : Performed J (Both I)) (c : Connection R) (u : Progress J) (m : Move J (Both I)) → Takes v now on [] did c u m → Went v on did c u m
  took-all true did c u m h = all-taken h.1 h.2 h.0 did c u m h.3
  took-all false did c u m h = h.1

  -- ---- the loop

  -- what is left leads to where all of it leads
  abbrev pub Taken : RunTurn J → Connection R → Progress J → Bool → List (RunAct J) → Connection R → Progress J → Type 0
  Taken next c0 u0 on rest c u = (did : Performed J (Both I)) (m : Move J (Both I)) → Took v now next did c0 u0 m → Takes v now on rest did c u m

  pub takes-next : (on on' : Bool) (x : RunAct J) (parts rest : List (RunAct J)) (did : Performed J (Both I)) (c c' : Connection R) (u u' : Progress J) (m : Move J (Both I)) → parts ≡ x ∷ rest
      → TakesPart v now on' x c u c' u' → Takes v now on parts did c u m → Takes v now on' rest did c' u' m
  takes-next true on' x parts rest did c c' u u' m is takes h = takes rest did m (subst (λ xs. Takes v now true xs did c u m) is h)
  takes-next false on' x parts rest did c c' u u' m is takes h = absurd (let e : x ∷ rest ≡ [] = sym is ∙ h.0 in cc)

  pub none-of : (parts : List (RunAct J)) (o : Option (RunAct J)) (n k : ℕ) → o ≡ None → MatchOption o ((n ≡ 0) × (k ≡ 0)) (λ x. k + 1 ≡ n) → length parts ≡ n → parts ≡ []
  none-of parts (Some x) n k is h size = absurd (let f : None ≡ Some x = sym is in cc)
  none-of parts None n k is h size = by parts (size ∙ h.0)
    where
      by : (xs : List (RunAct J)) → length xs ≡ 0 → xs ≡ []
      by [] f = refl
      by (x ∷ xs) f = absurd (omega (arith, f))

  pub takes-none : (on : Bool) (parts : List (RunAct J)) (did : Performed J (Both I)) (c : Connection R) (u : Progress J) (m : Move J (Both I)) → parts ≡ [] → Takes v now on parts did c u m → Went v on did c u m
  takes-none on parts did c u m is h = took-all on did c u m (subst (λ xs. Takes v now on xs did c u m) is h)
