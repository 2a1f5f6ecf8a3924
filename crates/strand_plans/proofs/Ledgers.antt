-- The queues, the deadlines and the counts that the contract reads off an execution are those of the ledger. Here b is a ledger, m a move, and s what is beside the ledger.
use Rattle.strand_contract.specs.Actions.{LocalAction, Told, Did, same_place, Ready}
use Rattle.strand_contract.specs.Actions.{Put, Later, Lost, Take, Dial, Offer}
use Rattle.strand_contract.specs.Alone.{moment, waiting, armed, to_offer, taken, was_put_off, begun_offer, socket_count}
use Rattle.strand_contract.specs.Alone.{lined_up, offers, armed_by, run_by, offered_by, taken_by}
use Rattle.strand_contract.specs.Laws.{IsLastAct, AsksLast}
use Rattle.strand_plans.specs.Questions.{Question, asking_if}
use Rattle.strand_plans.specs.Questions as question
use Rattle.strand_plans.specs.Ledgers.{Ledger, has, has_number, wants_offer, begun_by, put_off_by, took_by, count_by, entered}
use Rattle.strand_plans.specs.Moves.{Move, Done, Unready, Send, Arm, Cancel, HangUp, Log, Set, Look, Ask, End, added_if, with_sent, with_offer, with_thread, without_thread, with_deadline, without_deadline, hung_up, asked_of, ending, act_if, perform}
use Rattle.strand_plans.specs.Moves as move
use Rattle.strand_plans.specs.Plans.{Plan, move_of, state_of, acts_of, behavior_of}
use Rattle.std.proofs.Common.{◌≡◌, ℕ, ◌+◌, Bool, true, false, not, List, [], ◌∷◌, ◌++◌, Option, Some, None, if◌then◌else◌, refl, sym, ap, ◌∙◌, length}
use Rattle.std.proofs.Common.{append-nil, append_assoc}
use Rattle.strand_contract.specs.declared.turns.Place.{Place}
use Rattle.strand_contract.specs.declared.turns.Act.{Act}
use Rattle.strand_contract.specs.declared.turns.Act.TheVariants as act

-- what no move changes of a ledger
abbrev pub IsUnmoved : {J : Type 0} → Ledger J → Ledger J → Type 0
IsUnmoved b c = (c.taken ≡ b.taken) × (c.begun ≡ b.begun) × (c.put_off ≡ b.put_off) × (c.count ≡ b.count)

lined-ready : {J : Type 0} (c : Bool) (k : ℕ) (acts : List (Act J)) (l : List ℕ) → lined_up (act_if c (act.Ready k) acts) l ≡ lined_up acts (added_if c k l)
lined-ready true k acts l = refl
lined-ready false k acts l = ap (lined_up acts) (sym (append-nil l))

armed-ready : {J : Type 0} (c : Bool) (k : ℕ) (acts : List (Act J)) (l : List (ℕ × ℕ)) → armed_by (act_if c (act.Ready k) acts) l ≡ armed_by acts l
armed-ready true k acts l = refl
armed-ready false k acts l = refl

offers-ready : {J : Type 0} (c : Bool) (k : ℕ) (acts : List (Act J)) → offers (act_if c (act.Ready k) acts) ≡ offers acts
offers-ready true k acts = refl
offers-ready false k acts = refl

lined-hang : {J : Type 0} (c : Bool) (q : Place) (acts : List (Act J)) (l : List ℕ) → lined_up (act_if c (act.HangUp q) acts) l ≡ lined_up acts l
lined-hang true q acts l = refl
lined-hang false q acts l = refl

lined-offer : {J : Type 0} (c : Bool) (q : Place) (acts : List (Act J)) (l : List ℕ) → lined_up (act_if c (act.Offer q) acts) l ≡ lined_up acts l
lined-offer true q acts l = refl
lined-offer false q acts l = refl

armed-hang : {J : Type 0} (c : Bool) (q : Place) (acts : List (Act J)) (l : List (ℕ × ℕ)) → armed_by (act_if c (act.HangUp q) acts) l ≡ armed_by acts l
armed-hang true q acts l = refl
armed-hang false q acts l = refl

armed-offer : {J : Type 0} (c : Bool) (q : Place) (acts : List (Act J)) (l : List (ℕ × ℕ)) → armed_by (act_if c (act.Offer q) acts) l ≡ armed_by acts l
armed-offer true q acts l = refl
armed-offer false q acts l = refl

offers-hang : {J : Type 0} (c : Bool) (q : Place) (acts : List (Act J)) → offers (act_if c (act.HangUp q) acts) ≡ offers acts
offers-hang true q acts = refl
offers-hang false q acts = refl

offers-offer : {J : Type 0} (c : Bool) (q : Place) (acts : List (Act J)) (ps : List Place) → ps ++ offers (act_if c (act.Offer q) acts) ≡ (ps ++ (if c then q ∷ [] else [])) ++ offers acts
offers-offer true q acts ps = sym (append_assoc ps (q ∷ []) (offers acts))
offers-offer false q acts ps = ap (λ l. l ++ offers acts) (sym (append-nil ps))

last-if : {J : Type 0} (c : Bool) (a : Act J) (acts : List (Act J)) → (IsLastAct acts → IsLastAct (a ∷ acts)) → IsLastAct acts → IsLastAct (act_if c a acts)
last-if true a acts f h = f h
last-if false a acts f h = h

lined-end : (J : Type 0) (qs : List Place) (l : List ℕ) → lined_up (ending {J = J} qs) l ≡ l
lined-end J [] l = refl
lined-end J (q ∷ qs) l = lined-end J qs l

armed-end : (J : Type 0) (qs : List Place) (l : List (ℕ × ℕ)) → armed_by (ending {J = J} qs) l ≡ l
armed-end J [] l = refl
armed-end J (q ∷ qs) l = armed-end J qs l

offers-end : (J : Type 0) (qs : List Place) → offers (ending {J = J} qs) ≡ []
offers-end J [] = refl
offers-end J (q ∷ qs) = offers-end J qs

last-end : (J : Type 0) (qs : List Place) → IsLastAct (ending {J = J} qs)
last-end J [] = refl
last-end J (q ∷ qs) = last-end J qs

-- a question's act changes no line
lined-asks : {J : Type 0} (q : Option (Question J)) (l : List ℕ) → lined_up (asking_if q) l ≡ l
lined-asks None l = refl
lined-asks (Some (question.Dict zone call)) l = refl
lined-asks (Some (question.Take key)) l = refl
lined-asks (Some (question.Dial host port)) l = refl
lined-asks (Some (question.Keep k key idle size)) l = refl
lined-asks (Some (question.Timer at job)) l = refl

armed-asks : {J : Type 0} (q : Option (Question J)) (l : List (ℕ × ℕ)) → armed_by (asking_if q) l ≡ l
armed-asks None l = refl
armed-asks (Some (question.Dict zone call)) l = refl
armed-asks (Some (question.Take key)) l = refl
armed-asks (Some (question.Dial host port)) l = refl
armed-asks (Some (question.Keep k key idle size)) l = refl
armed-asks (Some (question.Timer at job)) l = refl

offers-asks : {J : Type 0} (q : Option (Question J)) → offers (asking_if q) ≡ []
offers-asks None = refl
offers-asks (Some (question.Dict zone call)) = refl
offers-asks (Some (question.Take key)) = refl
offers-asks (Some (question.Dial host port)) = refl
offers-asks (Some (question.Keep k key idle size)) = refl
offers-asks (Some (question.Timer at job)) = refl

last-asks : {J : Type 0} (q : Option (Question J)) → IsLastAct (asking_if q)
last-asks None = tt
last-asks (Some (question.Dict zone call)) = refl
last-asks (Some (question.Take key)) = refl
last-asks (Some (question.Dial host port)) = refl
last-asks (Some (question.Keep k key idle size)) = refl
last-asks (Some (question.Timer at job)) = refl

module _ {J S : Type 0} where
  pub threads-agree : (m : Move J S) (b : Ledger J) (s : S) → lined_up (perform m b s).acts b.threads ≡ (perform m b s).state.ledger.threads
  threads-agree Done b s = refl
  threads-agree (move.Ready k m) b s = lined-ready (not (has_number k b.threads)) k _ b.threads ∙ threads-agree m (with_thread k b) s
  threads-agree (Unready k m) b s = threads-agree m (without_thread k b) s
  threads-agree (Send q bytes m) b s = let c = with_sent q bytes b in lined-offer (wants_offer q c) q _ b.threads ∙ threads-agree m (with_offer q c) s
  threads-agree (Arm n at m) b s = threads-agree m (with_deadline n at b) s
  threads-agree (Cancel n m) b s = threads-agree m (without_deadline n b) s
  threads-agree (HangUp q m) b s = lined-hang (has q b.opened) q _ b.threads ∙ threads-agree m (hung_up q b) s
  threads-agree (Log line m) b s = threads-agree m b s
  threads-agree (Set f m) b s = threads-agree m b (f s)
  threads-agree (Look go) b s = threads-agree (go b s) b s
  threads-agree (Ask q) b s = lined-asks (asked_of q b) b.threads
  threads-agree End b s = lined-end _ b.opened b.threads

  pub armed-agrees : (m : Move J S) (b : Ledger J) (s : S) → armed_by (perform m b s).acts b.armed ≡ (perform m b s).state.ledger.armed
  armed-agrees Done b s = refl
  armed-agrees (move.Ready k m) b s = armed-ready (not (has_number k b.threads)) k _ b.armed ∙ armed-agrees m (with_thread k b) s
  armed-agrees (Unready k m) b s = armed-agrees m (without_thread k b) s
  armed-agrees (Send q bytes m) b s = let c = with_sent q bytes b in armed-offer (wants_offer q c) q _ b.armed ∙ armed-agrees m (with_offer q c) s
  armed-agrees (Arm n at m) b s = armed-agrees m (with_deadline n at b) s
  armed-agrees (Cancel n m) b s = armed-agrees m (without_deadline n b) s
  armed-agrees (HangUp q m) b s = armed-hang (has q b.opened) q _ b.armed ∙ armed-agrees m (hung_up q b) s
  armed-agrees (Log line m) b s = armed-agrees m b s
  armed-agrees (Set f m) b s = armed-agrees m b (f s)
  armed-agrees (Look go) b s = armed-agrees (go b s) b s
  armed-agrees (Ask q) b s = armed-asks (asked_of q b) b.armed
  armed-agrees End b s = armed-end _ b.opened b.armed

  pub last : (m : Move J S) (b : Ledger J) (s : S) → IsLastAct (perform m b s).acts
  last Done b s = tt
  last (move.Ready k m) b s = last-if (not (has_number k b.threads)) (act.Ready k) _ (λ h. h) (last m (with_thread k b) s)
  last (Unready k m) b s = last m (without_thread k b) s
  last (Send q bytes m) b s = let c = with_sent q bytes b in last-if (wants_offer q c) (act.Offer q) _ (λ h. h) (last m (with_offer q c) s)
  last (Arm n at m) b s = last m (with_deadline n at b) s
  last (Cancel n m) b s = last m (without_deadline n b) s
  last (HangUp q m) b s = last-if (has q b.opened) (act.HangUp q) _ (λ h. h) (last m (hung_up q b) s)
  last (Log line m) b s = last m b s
  last (Set f m) b s = last m b (f s)
  last (Look go) b s = last (go b s) b s
  last (Ask q) b s = last-asks (asked_of q b)
  last End b s = last-end _ b.opened

  pub places-agree : (m : Move J S) (b : Ledger J) (s : S) → b.places ++ offers (perform m b s).acts ≡ (perform m b s).state.ledger.places
  places-agree Done b s = append-nil b.places
  places-agree (move.Ready k m) b s = ap (λ l. b.places ++ l) (offers-ready (not (has_number k b.threads)) k _) ∙ places-agree m (with_thread k b) s
  places-agree (Unready k m) b s = places-agree m (without_thread k b) s
  places-agree (Send q bytes m) b s = let c = with_sent q bytes b in offers-offer (wants_offer q c) q _ b.places ∙ places-agree m (with_offer q c) s
  places-agree (Arm n at m) b s = places-agree m (with_deadline n at b) s
  places-agree (Cancel n m) b s = places-agree m (without_deadline n b) s
  places-agree (HangUp q m) b s = ap (λ l. b.places ++ l) (offers-hang (has q b.opened) q _) ∙ places-agree m (hung_up q b) s
  places-agree (Log line m) b s = places-agree m b s
  places-agree (Set f m) b s = places-agree m b (f s)
  places-agree (Look go) b s = places-agree (go b s) b s
  places-agree (Ask q) b s = ap (λ l. b.places ++ l) (offers-asks (asked_of q b)) ∙ append-nil b.places
  places-agree End b s = ap (λ l. b.places ++ l) (offers-end _ b.opened) ∙ append-nil b.places

  -- no move changes what was taken, whose offer was begun, what was put off and how many sockets there were
  pub unmoved : (m : Move J S) (b : Ledger J) (s : S) → IsUnmoved b (perform m b s).state.ledger
  unmoved Done b s = (refl, refl, refl, refl)
  unmoved (move.Ready k m) b s = unmoved m (with_thread k b) s
  unmoved (Unready k m) b s = unmoved m (without_thread k b) s
  unmoved (Send q bytes m) b s = unmoved m (with_offer q (with_sent q bytes b)) s
  unmoved (Arm n at m) b s = unmoved m (with_deadline n at b) s
  unmoved (Cancel n m) b s = unmoved m (without_deadline n b) s
  unmoved (HangUp q m) b s = unmoved m (hung_up q b) s
  unmoved (Log line m) b s = unmoved m b s
  unmoved (Set f m) b s = unmoved m b (f s)
  unmoved (Look go) b s = unmoved (go b s) b s
  unmoved (Ask x) b s = (refl, refl, refl, refl)
  unmoved End b s = (refl, refl, refl, refl)

-- so over an execution
pub threads-are : {J S : Type 0} (p : Plan J S) (es : List (LocalAction J)) → waiting (behavior_of p) es ≡ (state_of p es).ledger.threads
threads-are p [] = refl
threads-are p (a ∷ es) =
    let st = state_of p es in
    ap (λ l. lined_up (acts_of p (a ∷ es)) (run_by a l)) (threads-are p es) ∙ threads-agree (move_of p (moment (a ∷ es)) a st) (entered a st.ledger) st.inner

pub armed-are : {J S : Type 0} (p : Plan J S) (es : List (LocalAction J)) → armed (behavior_of p) es ≡ (state_of p es).ledger.armed
armed-are p [] = refl
armed-are p (a ∷ es) =
    let st = state_of p es in
    ap (λ l. armed_by (acts_of p (a ∷ es)) (taken_by a l)) (armed-are p es) ∙ armed-agrees (move_of p (moment (a ∷ es)) a st) (entered a st.ledger) st.inner

pub places-are : {J S : Type 0} (p : Plan J S) (es : List (LocalAction J)) → to_offer (behavior_of p) es ≡ (state_of p es).ledger.places
places-are p [] = refl
places-are p (a ∷ es) =
    let st = state_of p es in
    ap (λ l. offered_by a l ++ offers (acts_of p (a ∷ es))) (places-are p es) ∙ places-agree (move_of p (moment (a ∷ es)) a st) (entered a st.ledger) st.inner

pub asks-last : {J S : Type 0} (p : Plan J S) → AsksLast (behavior_of p)
asks-last p [] = tt
asks-last p (a ∷ es) = let st = state_of p es in last (move_of p (moment (a ∷ es)) a st) (entered a st.ledger) st.inner

at-place : {A : Type 0} (f g : Place → A) (q : Place) → f ≡ g → f q ≡ g q
at-place f g q e = ap (λ h. h q) e

taken-by : {J : Type 0} (a : LocalAction J) (es : List (LocalAction J)) (t : Place → ℕ) (q : Place) → taken q es ≡ t q → taken q (a ∷ es) ≡ took_by a t q
taken-by (Did (Put p bytes)) es t q e = ap (λ n. if same_place q p then n + length bytes else n) e
taken-by a es t q e = e

pub taken-is : {J S : Type 0} (p : Plan J S) (q : Place) (es : List (LocalAction J)) → taken q es ≡ (state_of p es).ledger.taken q
taken-is p q [] = refl
taken-is p q (a ∷ es) =
    let st = state_of p es in
    taken-by a es st.ledger.taken q (taken-is p q es) ∙ sym (at-place _ _ q (unmoved (move_of p (moment (a ∷ es)) a st) (entered a st.ledger) st.inner).0)

begun-by : {J : Type 0} (a : LocalAction J) (es : List (LocalAction J)) → begun_offer (a ∷ es) ≡ begun_by a (begun_offer es)
begun-by (Told w) es = refl
begun-by (Did (Offer q)) es = refl
begun-by a es = refl

pub begun-is : {J S : Type 0} (p : Plan J S) (es : List (LocalAction J)) → begun_offer es ≡ (state_of p es).ledger.begun
begun-is p [] = refl
begun-is p (a ∷ es) =
    let st = state_of p es in
    begun-by a es ∙ ap (begun_by a) (begun-is p es) ∙ sym (unmoved (move_of p (moment (a ∷ es)) a st) (entered a st.ledger) st.inner).1

count-by : {J : Type 0} (a : LocalAction J) (es : List (LocalAction J)) → socket_count (a ∷ es) ≡ count_by a (socket_count es)
count-by (Did (Dial host port true)) es = refl
count-by (Did (Take key (Some uses))) es = refl
count-by a es = refl

pub count-is : {J S : Type 0} (p : Plan J S) (es : List (LocalAction J)) → socket_count es ≡ (state_of p es).ledger.count
count-is p [] = refl
count-is p (a ∷ es) =
    let st = state_of p es in
    count-by a es ∙ ap (count_by a) (count-is p es) ∙ sym (unmoved (move_of p (moment (a ∷ es)) a st) (entered a st.ledger) st.inner).3

put-off-by : {J : Type 0} (a : LocalAction J) (es : List (LocalAction J)) (off : Place → Bool) (q : Place) → was_put_off q es ≡ off q → was_put_off q (a ∷ es) ≡ put_off_by a off q
put-off-by (Did (Put p bytes)) es off q e = ap (λ x. if same_place q p then false else x) e
put-off-by (Did (Later p)) es off q e = ap (λ x. if same_place q p then true else x) e
put-off-by (Did (Lost p)) es off q e = ap (λ x. if same_place q p then false else x) e
put-off-by (Did (Ready p)) es off q e = ap (λ x. if same_place q p then false else x) e
put-off-by a es off q e = e

pub put-off-is : {J S : Type 0} (p : Plan J S) (q : Place) (es : List (LocalAction J)) → was_put_off q es ≡ (state_of p es).ledger.put_off q
put-off-is p q [] = refl
put-off-is p q (a ∷ es) =
    let st = state_of p es in
    put-off-by a es st.ledger.put_off q (put-off-is p q es) ∙ sym (at-place _ _ q (unmoved (move_of p (moment (a ∷ es)) a st) (entered a st.ledger) st.inner).2)
