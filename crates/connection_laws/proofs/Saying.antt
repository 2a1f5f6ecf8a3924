-- What a run says becomes the reply to its request, while its client is there; nothing of it does once that is gone; and its lines are logged in either case.
use Rattle.std.proofs.Common.{inl, inr, ◌⊎◌, ◌≡◌, ℕ, ◌&&◌, Bool, true, false, List, [], ◌∷◌, ◌++◌, if◌then◌else◌, refl, sym, ap, ◌∙◌, subst, append-nil, append_assoc}
use Rattle.uri_args.specs.declared.targets.Target.{Target}
use Rattle.http_in.specs.declared.heads.Head.{Head}
use Rattle.client_line.specs.declared.requests.LineOut.TheVariants as out
use Rattle.client_line.specs.Records.{Came}
use Rattle.strand_contract.specs.declared.turns.Place.TheVariants as place
use Rattle.strand_plans.specs.Ledgers.{Ledger, has_number, numbers}
use Rattle.strand_plans.specs.Moves.{Move, Done, Cancel, with_sent, with_offer, without_deadline, with_deadline}
use Rattle.strand_plans.specs.Moves as move
use Rattle.run_contract.specs.declared.turns.Said.{Said}
use Rattle.run_contract.specs.declared.turns.Said.TheVariants as said
use Rattle.run_contract.specs.Deeds.{Deed, Ready, Unready, Arm, HangUp, Send, Log, Say, ledger_by, ledger_after, says_over}
use Rattle.run_contract.specs.Deeds as deed
use Rattle.connection_plan.specs.Clients.{Stage, Reply, Client, Exchange, Unsent, Begun, Whole, exchange, with_more, with_times, begun}
use Rattle.connection_plan.specs.Clients as stage
use Rattle.connection_plan.specs.Services.{Service, Both}
use Rattle.connection_plan.specs.Timers.{Timer, number_of, time_of, later}
use Rattle.connection_plan.specs.Timers as timer
use Rattle.connection_plan.specs.Lifts.{lifted}
use Rattle.connection_plan.specs.Turns.{is_there, change, send, begin_timer, continue_reply, let_send, wait_more, says}
use Rattle.connection_plan.proofs.Lifted.{SameRun, same-run-refl, same-run-trans, deed-same}
use Rattle.connection_plan.proofs.Steps.{stage_word, stage_did, own-number, armed-same, cancelled-same, sent-to-client-same}
use Rattle.connection_plan.proofs.OwnMoves.{deed-leaves-client}
use Rattle.connection_laws.specs.Alone.{words_of, lines_of, is_over, bytes_said, let_first, MayWaitForBody}
use Rattle.connection_laws.proofs.Leaving.{Left, here_at, left}

-- ---- bytes of words

pub bytes-append : (xs ys : List Said) → bytes_said (xs ++ ys) ≡ bytes_said xs ++ bytes_said ys
bytes-append [] ys = refl
bytes-append (said.Send bytes ∷ xs) ys = ap (λ zs. bytes ++ zs) (bytes-append xs ys) ∙ sym (append_assoc bytes (bytes_said xs) (bytes_said ys))
bytes-append (said.Over ∷ xs) ys = bytes-append xs ys
bytes-append (said.WantsNoBody ∷ xs) ys = bytes-append xs ys
bytes-append (said.Times times ∷ xs) ys = bytes-append xs ys
bytes-append (said.Ended closes ∷ xs) ys = bytes-append xs ys

pub over-append : (xs ys : List Said) → is_over xs ≡ false → is_over (xs ++ ys) ≡ is_over ys
over-append [] ys h = refl
over-append (said.Over ∷ xs) ys h = absurd (let e : true ≡ false = h in cc)
over-append (said.Send bytes ∷ xs) ys h = over-append xs ys h
over-append (said.WantsNoBody ∷ xs) ys h = over-append xs ys h
over-append (said.Times times ∷ xs) ys h = over-append xs ys h
over-append (said.Ended closes ∷ xs) ys h = over-append xs ys h

pub over-words : (ds : List Deed) → is_over (words_of ds) ≡ says_over ds
over-words [] = refl
over-words (Say said.Over ∷ ds) = refl
over-words (Say (said.Send bytes) ∷ ds) = over-words ds
over-words (Say said.WantsNoBody ∷ ds) = over-words ds
over-words (Say (said.Times times) ∷ ds) = over-words ds
over-words (Say (said.Ended closes) ∷ ds) = over-words ds
over-words (Ready k ∷ ds) = over-words ds
over-words (Unready k ∷ ds) = over-words ds
over-words (Arm k at ∷ ds) = over-words ds
over-words (deed.Cancel k ∷ ds) = over-words ds
over-words (HangUp k ∷ ds) = over-words ds
over-words (Send k bytes ∷ ds) = over-words ds
over-words (Log line ∷ ds) = over-words ds

begun-sent : (r : Reply) → begun r ≡ Unsent → ⊥
begun-sent Unsent h = let e : Begun ≡ Unsent = h in cc
begun-sent Begun h = let e : Begun ≡ Unsent = h in cc
begun-sent (Whole closes) h = let e : Whole closes ≡ Unsent = h in cc

-- ---- the newest exchange, once the run said so much; W is what holds where it waited for more of a body

pub record Says (W : Type 0) (head : Head) (target : Target) (older : List Exchange) (xs : List Said) (c : Client) : Type 0 where
  pub newest : c.exchanges ≡ exchange (out.Request head target) (let_first (c.waited && c.expects) ++ bytes_said xs) ∷ older
  pub unsent : c.reply ≡ Unsent → bytes_said xs ≡ []
  pub expects : c.expects ≡ head.expects
  pub waits : c.waited ≡ true → W

says-as : (W : Type 0) (head : Head) (target : Target) (older : List Exchange) (xs ys : List Said) (c : Client) → bytes_said xs ≡ bytes_said ys → Says W head target older xs c → Says W head target older ys c
says-as W head target older xs ys c e h = record {
  newest = h.newest ∙ ap (λ bs. exchange (out.Request head target) (let_first (c.waited && c.expects) ++ bs) ∷ older) e;
  unsent = λ u. sym e ∙ h.unsent u;
  expects = h.expects;
  waits = h.waits;
}

-- bytes are sent
says-more : (W : Type 0) (head : Head) (target : Target) (older : List Exchange) (xs : List Said) (bytes : List ℕ) (c : Client) → Says W head target older xs c
    → Says W head target older (xs ++ said.Send bytes ∷ []) (record c { reply = begun c.reply; exchanges = with_more bytes c.exchanges })
says-more W head target older xs bytes c h =
    let first = let_first (c.waited && c.expects) in
    let more : bytes_said xs ++ bytes ≡ bytes_said (xs ++ said.Send bytes ∷ []) = ap (λ bs. bytes_said xs ++ bs) (sym (append-nil bytes)) ∙ sym (bytes-append xs (said.Send bytes ∷ [])) in
    record {
      newest = ap (with_more bytes) h.newest ∙ ap (λ bs. exchange (out.Request head target) bs ∷ older) (append_assoc first (bytes_said xs) bytes ∙ ap (λ bs. first ++ bs) more);
      unsent = λ u. absurd (begun-sent c.reply u);
      expects = h.expects;
      waits = h.waits;
    }

let-on : (w : List ℕ) (e : Bool) → w ≡ [] → e ≡ true → w ++ continue_reply ≡ let_first e ++ w
let-on w e h k = ap (λ (x : List ℕ). x ++ continue_reply) h ∙ sym (append-nil continue_reply) ∙ ap (λ (x : Bool). let_first x ++ []) (sym k) ∙ ap (λ (x : List ℕ). let_first e ++ x) (sym h)

pub left-of : (a b : Bool) → (a && b) ≡ true → a ≡ true
left-of true b h = refl
left-of false b h = h

pub right-of : (a b : Bool) → (a && b) ≡ true → b ≡ true
right-of true b h = h
right-of false b h = absurd (let e : false ≡ true = h in cc)

-- ---- the wait for more of a body

module _ {J R : Type 0} (site : Service J R) (now : ℕ) where
  -- from one state to another: a client that is there may have been let send its body
  pub record IsWaited (b : Ledger J) (s : Both R) (d : Ledger J) (t : Both R) : Type 0 where
    pub same : SameRun b d
    pub there : is_there d ≡ is_there b
    pub run : t.run ≡ s.run
    pub stage : t.client.stage ≡ s.client.stage
    pub came : t.client.came ≡ s.client.came
    pub exchanges : (t.client.exchanges ≡ s.client.exchanges) ⊎ ((is_there b ≡ true) × (t.client.exchanges ≡ with_more continue_reply s.client.exchanges))
    pub says : (head : Head) (target : Target) (older : List Exchange) (xs : List Said) → is_there b ≡ true → Says (MayWaitForBody site.runs) head target older xs s.client
        → Says (MayWaitForBody site.runs) head target older xs t.client

  module _ (P : Left J (Both R) → Type 0) where
    -- where it waits for a 100 reply, and nothing was sent
    let-leads : (m : Move J (Both R)) (b : Ledger J) (s : Both R) (ls : List (List ℕ)) → MayWaitForBody site.runs → ((d : Ledger J) (t : Both R) → IsWaited b s d t → P (left m d t ls))
        → (r : Reply) → s.client.reply ≡ r → P (left (let_send site now s.client r m) b s ls)
    let-leads m b s ls may f r e = at r e
      where
        as_it_was : P (left m b s ls)
        as_it_was = f b s (record { same = same-run-refl b; there = refl; run = refl; stage = refl; came = refl; exchanges = inl refl; says = λ head target older xs l h. h })

        waiting : Both R
        waiting = record s { client = record s.client { waited = true } }

        first : (head : Head) (target : Target) (older : List Exchange) (xs : List Said) → Says (MayWaitForBody site.runs) head target older xs s.client → s.client.waited ≡ false
            → s.client.exchanges ≡ exchange (out.Request head target) (bytes_said xs) ∷ older
        first head target older xs h w = h.newest ∙ ap (λ (x : Bool). exchange (out.Request head target) (let_first (x && s.client.expects) ++ bytes_said xs) ∷ older) w

        sent : s.client.reply ≡ Unsent → s.client.expects ≡ true → s.client.waited ≡ false → (c : Bool) → is_there b ≡ c
            → P (left (if c then change (λ c. record c { exchanges = with_more continue_reply c.exchanges }) (move.Send place.Client continue_reply m) else m) b waiting ls)
        sent e x w true l = f (with_offer place.Client (with_sent place.Client continue_reply b)) (record waiting { client = record waiting.client { exchanges = with_more continue_reply waiting.client.exchanges } }) (record {
          same = sent-to-client-same continue_reply b;
          there = refl;
          run = refl;
          stage = refl;
          came = refl;
          exchanges = inr (l, refl);
          says = λ head target older xs l h. record {
            newest = ap (with_more continue_reply) (first head target older xs h w) ∙ ap (λ bs. exchange (out.Request head target) bs ∷ older) (let-on (bytes_said xs) s.client.expects (h.unsent e) x);
            unsent = h.unsent;
            expects = h.expects;
            waits = λ k. may;
          };
        })
        sent e x w false l = f b waiting (record {
          same = same-run-refl b;
          there = refl;
          run = refl;
          stage = refl;
          came = refl;
          exchanges = inl refl;
          says = λ head target older xs k h. absurd (let n : false ≡ true = sym l ∙ k in cc);
        })

        asked : s.client.reply ≡ Unsent → s.client.waited ≡ false → (x : Bool) → s.client.expects ≡ x → P (left (if x then send site now continue_reply m else m) b waiting ls)
        asked e w true x = sent e x w (is_there b) refl
        asked e w false x = f b waiting (record {
          same = same-run-refl b;
          there = refl;
          run = refl;
          stage = refl;
          came = refl;
          exchanges = inl refl;
          says = λ head target older xs l h. record {
            newest = first head target older xs h w ∙ ap (λ (e : Bool). exchange (out.Request head target) (let_first e ++ bytes_said xs) ∷ older) (sym x);
            unsent = h.unsent;
            expects = h.expects;
            waits = λ k. may;
          };
        })

        by : s.client.reply ≡ Unsent → (w : Bool) → s.client.waited ≡ w
            → P (left (if w then m else change (λ c. record c { waited = true }) (if s.client.expects then send site now continue_reply m else m)) b s ls)
        by e true w = as_it_was
        by e false w = asked e w s.client.expects refl

        at : (r : Reply) → s.client.reply ≡ r → P (left (let_send site now s.client r m) b s ls)
        at Begun e = as_it_was
        at (Whole closes) e = as_it_was
        at Unsent e = by e s.client.waited refl

    pub wait-leads : (m : Move J (Both R)) (b : Ledger J) (s : Both R) (ls : List (List ℕ)) → MayWaitForBody site.runs → ((d : Ledger J) (t : Both R) → IsWaited b s d t → P (left m d t ls))
        → P (left (wait_more site now s.client m) b s ls)
    wait-leads m b s ls may f = let-leads (begin_timer site now timer.Body m) b s ls may
        (λ d t x.
        let due = later now (time_of site.default_times t.client.times timer.Body) in
        let e = with_deadline (number_of timer.Body) due d in
        f e t (record {
          same = same-run-trans b d e x.same (armed-same (number_of timer.Body) due d (own-number timer.Body));
          there = x.there;
          run = x.run;
          stage = x.stage;
          came = x.came;
          exchanges = x.exchanges;
          says = x.says;
        })) s.client.reply refl

module _ {J R : Type 0} (site : Service J R) (now : ℕ) (head : Head) (target : Target) (older : List Exchange) where
  abbrev pub SaysThere : List Said → Client → Type 0
  SaysThere xs c = Says (MayWaitForBody site.runs) head target older xs c

  -- ---- what a run does in a turn

  -- Of a client that is there or not, of a run, of what came and what was asked before: to where words and other deeds lead. The ledger is the same to the run
  -- as this one, all these words were said, and these lines were logged.
  module _ (there : Bool) (run : R) (came : Came) (others : List Exchange) where
    pub record IsAt (b : Ledger J) (st : Stage) (xs : List Said) (ls : List (List ℕ)) (x : Left J (Both R)) : Type 0 where
      pub same : SameRun b x.ledger
      pub ran : x.inner.run ≡ run
      pub at : x.inner.client.stage ≡ st
      pub read : x.inner.client.came ≡ came
      pub still : is_there x.ledger ≡ there
      pub logged : x.lines ≡ ls
      pub says : there ≡ true → SaysThere xs x.inner.client
      pub gone : there ≡ false → x.inner.client.exchanges ≡ others

    module _ (P : Left J (Both R) → Type 0) where
      -- a word, and what follows it
      abbrev Follows : Said → Move J (Both R) → Ledger J → Stage → List Said → List (List ℕ) → Type 0
      Follows w m b st xs ls = (y : Left J (Both R)) → IsAt b (stage_word w st) (xs ++ w ∷ []) ls y → P (left m y.ledger y.inner y.lines)

      -- a word of no bytes changes no reply
      unheard : (w : Said) (xs : List Said) (c : Client) → bytes_said (w ∷ []) ≡ [] → SaysThere xs c → SaysThere (xs ++ w ∷ []) c
      unheard w xs c e h =
          says-as (MayWaitForBody site.runs) head target older xs (xs ++ w ∷ []) c (sym (bytes-append xs (w ∷ []) ∙ ap (λ bs. bytes_said xs ++ bs) e ∙ append-nil (bytes_said xs))) h

      cancelled : (b : Ledger J) (x : Left J (Both R)) → SameRun b x.ledger → SameRun b (without_deadline (number_of timer.Body) x.ledger)
      cancelled b x same = same-run-trans b x.ledger (without_deadline (number_of timer.Body) x.ledger) same (cancelled-same (number_of timer.Body) x.ledger (own-number timer.Body))

      word-leads : (w : Said) (m : Move J (Both R)) (b : Ledger J) (st : Stage) (xs : List Said) (ls : List (List ℕ)) (x : Left J (Both R)) → IsAt b st xs ls x → Follows w m b st xs ls
          → P (left (says site now w m) x.ledger x.inner x.lines)
      word-leads (said.Send bytes) m b st xs ls x a f = by (is_there x.ledger) refl
        where
          told : Both R
          told = record x.inner { client = record x.inner.client { reply = begun x.inner.client.reply } }

          by : (c : Bool) → is_there x.ledger ≡ c
              → P (left (if c then change (λ c. record c { exchanges = with_more bytes c.exchanges }) (move.Send place.Client bytes m) else m) x.ledger told x.lines)
          by true l = f (here_at (with_offer place.Client (with_sent place.Client bytes x.ledger)) (record told { client = record told.client { exchanges = with_more bytes told.client.exchanges } }) x.lines) (record {
            same = same-run-trans b x.ledger (with_offer place.Client (with_sent place.Client bytes x.ledger)) a.same (sent-to-client-same bytes x.ledger);
            ran = a.ran;
            at = a.at;
            read = a.read;
            still = a.still;
            logged = a.logged;
            says = λ e. says-more (MayWaitForBody site.runs) head target older xs bytes x.inner.client (a.says e);
            gone = λ g. absurd (let n : true ≡ false = sym l ∙ a.still ∙ g in cc);
          })
          by false l = f (here_at x.ledger told x.lines) (record {
            same = a.same;
            ran = a.ran;
            at = a.at;
            read = a.read;
            still = a.still;
            logged = a.logged;
            says = λ e. absurd (let n : false ≡ true = sym l ∙ a.still ∙ e in cc);
            gone = a.gone;
          })
      word-leads said.WantsNoBody m b st xs ls x a f = by (has_number (number_of timer.Body) (numbers x.ledger.armed))
        where
          says_so : there ≡ true → SaysThere (xs ++ said.WantsNoBody ∷ []) x.inner.client
          says_so e = unheard said.WantsNoBody xs x.inner.client refl (a.says e)

          by : (c : Bool) → P (left (if c then Cancel (number_of timer.Body) m else m) x.ledger x.inner x.lines)
          by true = f (here_at (without_deadline (number_of timer.Body) x.ledger) x.inner x.lines)
              (record { same = cancelled b x a.same; ran = a.ran; at = a.at; read = a.read; still = a.still; logged = a.logged; says = says_so; gone = a.gone })
          by false = f x (record { same = a.same; ran = a.ran; at = a.at; read = a.read; still = a.still; logged = a.logged; says = says_so; gone = a.gone })
      word-leads (said.Times times) m b st xs ls x a f = f (here_at x.ledger (record x.inner { client = with_times times x.inner.client }) x.lines) (record {
        same = a.same;
        ran = a.ran;
        at = a.at;
        read = a.read;
        still = a.still;
        logged = a.logged;
        says = λ e. let h = unheard (said.Times times) xs x.inner.client refl (a.says e) in record { newest = h.newest; unsent = h.unsent; expects = h.expects; waits = h.waits };
        gone = a.gone;
      })
      word-leads (said.Ended closes) m b st xs ls x a f = f (here_at x.ledger (record x.inner { client = record x.inner.client { reply = Whole closes } }) x.lines) (record {
        same = a.same;
        ran = a.ran;
        at = a.at;
        read = a.read;
        still = a.still;
        logged = a.logged;
        says = λ e. let h = unheard (said.Ended closes) xs x.inner.client refl (a.says e) in
            record { newest = h.newest; unsent = λ u. absurd (let e : Whole closes ≡ Unsent = u in cc); expects = h.expects; waits = h.waits };
        gone = a.gone;
      })
      word-leads said.Over m b st xs ls x a f = by (has_number (number_of timer.Body) (numbers x.ledger.armed))
        where
          over : Both R
          over = record x.inner { client = record x.inner.client { stage = stage.Flush } }

          says_so : there ≡ true → SaysThere (xs ++ said.Over ∷ []) over.client
          says_so e = let h = unheard said.Over xs x.inner.client refl (a.says e) in record { newest = h.newest; unsent = h.unsent; expects = h.expects; waits = h.waits }

          by : (c : Bool) → let after : Move J (Both R) = change (λ c. record c { stage = stage.Flush }) m in P (left (if c then Cancel (number_of timer.Body) after else after) x.ledger x.inner x.lines)
          by true = f (here_at (without_deadline (number_of timer.Body) x.ledger) over x.lines)
              (record { same = cancelled b x a.same; ran = a.ran; at = refl; read = a.read; still = a.still; logged = a.logged; says = says_so; gone = a.gone })
          by false = f (here_at x.ledger over x.lines) (record { same = a.same; ran = a.ran; at = refl; read = a.read; still = a.still; logged = a.logged; says = says_so; gone = a.gone })

      -- a deed that is no word
      moved : (d : Deed) (b : Ledger J) (st : Stage) (xs : List Said) (ls : List (List ℕ)) (x : Left J (Both R)) → IsAt b st xs ls x → IsAt (ledger_by d b) st xs ls (here_at (ledger_by d x.ledger) x.inner x.lines)
      moved d b st xs ls x a = record {
        same = deed-same d b x.ledger a.same;
        ran = a.ran;
        at = a.at;
        read = a.read;
        still = (deed-leaves-client d x.ledger).opened ∙ a.still;
        logged = a.logged;
        says = a.says;
        gone = a.gone;
      }

      pub deeds-lead : (ds : List Deed) (m : Move J (Both R)) (b : Ledger J) (st : Stage) (xs zs : List Said) (ls ks : List (List ℕ)) (x : Left J (Both R)) → IsAt b st xs ls x
          → xs ++ words_of ds ≡ zs → ls ++ lines_of ds ≡ ks → ((y : Left J (Both R)) → IsAt (ledger_after ds b) (stage_did ds st) zs ks y → P (left m y.ledger y.inner y.lines))
          → P (left (lifted (says site now) ds m) x.ledger x.inner x.lines)
      deeds-lead [] m b st xs zs ls ks x a w l f =
          f x (subst (λ (ys : List Said). IsAt b st ys ks x) (sym (append-nil xs) ∙ w) (subst (λ (js : List (List ℕ)). IsAt b st xs js x) (sym (append-nil ls) ∙ l) a))
      deeds-lead (Say v ∷ ds) m b st xs zs ls ks x a w l f = word-leads v (lifted (says site now) ds m) b st xs ls x a
          (λ y c. deeds-lead ds m b (stage_word v st) (xs ++ v ∷ []) zs ls ks y c (append_assoc xs (v ∷ []) (words_of ds) ∙ w) l f)
      deeds-lead (Ready k ∷ ds) m b st xs zs ls ks x a w l f = deeds-lead ds m (ledger_by (Ready k) b) st xs zs ls ks (here_at (ledger_by (Ready k) x.ledger) x.inner x.lines) (moved (Ready k) b st xs ls x a) w l f
      deeds-lead (Unready k ∷ ds) m b st xs zs ls ks x a w l f = deeds-lead ds m (ledger_by (Unready k) b) st xs zs ls ks (here_at (ledger_by (Unready k) x.ledger) x.inner x.lines) (moved (Unready k) b st xs ls x a) w l f
      deeds-lead (Arm k at ∷ ds) m b st xs zs ls ks x a w l f = deeds-lead ds m (ledger_by (Arm k at) b) st xs zs ls ks (here_at (ledger_by (Arm k at) x.ledger) x.inner x.lines) (moved (Arm k at) b st xs ls x a) w l f
      deeds-lead (deed.Cancel k ∷ ds) m b st xs zs ls ks x a w l f =
          deeds-lead ds m (ledger_by (deed.Cancel k) b) st xs zs ls ks (here_at (ledger_by (deed.Cancel k) x.ledger) x.inner x.lines) (moved (deed.Cancel k) b st xs ls x a) w l f
      deeds-lead (HangUp k ∷ ds) m b st xs zs ls ks x a w l f = deeds-lead ds m (ledger_by (HangUp k) b) st xs zs ls ks (here_at (ledger_by (HangUp k) x.ledger) x.inner x.lines) (moved (HangUp k) b st xs ls x a) w l f
      deeds-lead (Send k bytes ∷ ds) m b st xs zs ls ks x a w l f =
          deeds-lead ds m (ledger_by (Send k bytes) b) st xs zs ls ks (here_at (ledger_by (Send k bytes) x.ledger) x.inner x.lines) (moved (Send k bytes) b st xs ls x a) w l f
      deeds-lead (Log line ∷ ds) m b st xs zs ls ks x a w l f =
          deeds-lead ds m b st xs zs (ls ++ line ∷ []) ks (here_at x.ledger x.inner (x.lines ++ line ∷ []))
          (record { same = a.same; ran = a.ran; at = a.at; read = a.read; still = a.still; logged = ap (λ js. js ++ line ∷ []) a.logged; says = a.says; gone = a.gone })
          w (append_assoc ls (line ∷ []) (lines_of ds) ∙ l) f
