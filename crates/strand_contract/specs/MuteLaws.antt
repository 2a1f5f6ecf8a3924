-- That the mute strand keeps to what is asked of a strand.
use Rattle.std.specs.Prelude.{◌≡◌, ◌⊎◌, ℕ, ◌+◌, ◌<◌, length, Bool, true, false, List, [], ◌∷◌, ◌++◌, drop, Option, Some, None, if◌then◌else◌, refl}
use Rattle.std.proofs.Common.{zero, suc, lit<, sym, ◌∙◌, ap, inl, inr}
use Rattle.strand_contract.specs.declared.turns.Place.{Place}
use Rattle.strand_contract.specs.declared.turns.Place.TheVariants as place
use Rattle.strand_contract.specs.declared.turns.Start.{Start}
use Rattle.strand_contract.specs.declared.turns.Start.TheVariants as start
use Rattle.strand_contract.specs.declared.turns.Act.{Act}
use Rattle.strand_contract.specs.declared.turns.Act.TheVariants as act
use Rattle.strand_contract.specs.declared.turns.Answer.{Answer}
use Rattle.strand_contract.specs.declared.turns.Seen.{Seen}
use Rattle.strand_contract.specs.declared.turns.Seen.TheVariants as seen
use Rattle.strand_contract.specs.Actions.{Action, Moment, Stop, LocalAction, Told, Did, Began, Bytes, Ended, Broken, Ready, Dialled, Refused}
use Rattle.strand_contract.specs.Actions.{Put, Later, Lost, Close, Log, Dict, Take, Dial, Keep, Timer, Dropped, Run, Offer, Due, Halted, Gone}
use Rattle.strand_contract.specs.Alone.{lives, is_open, taken, todo, carried, lined_up, offers, waiting, to_offer}
use Rattle.strand_contract.specs.Alone.{queued, offering, going_on, begun_offer, IsExecution, IsFirstOpen, KeepsNothingBack, IsNextAct}
use Rattle.strand_contract.specs.Calls.{action_of, answered, is_own_turn}
use Rattle.strand_contract.specs.Laws.{is_still, is_waking_turn, IsLastAct, IsMild, IsEnding, IsAskedRight}
use Rattle.strand_contract.specs.ClientOnly.{IsClientOnly}
use Rattle.strand_contract.specs.ClientOnlyLaws.{client-only, never, over, clash, none-due, first-of-none, unasked}
use Rattle.strand_contract.specs.Mute.{is_client, end_acts, mute_acts, mute_behavior, was_halted}

pub mute-quiet : {J : Type 0} (a : LocalAction J) (es : List (LocalAction J)) → is_still a ≡ true → mute_acts (a ∷ es) ≡ []
mute-quiet (Did Halted) es h = clash false h refl
mute-quiet a es h = refl

mute-still-client : {J : Type 0} (a : LocalAction J) (es : List (LocalAction J)) → is_still a ≡ true → is_client (a ∷ es) ≡ is_client es
mute-still-client (Did (Began now (start.Client c))) es h = clash false h refl
mute-still-client a es h = refl

mute-still-halted : {J : Type 0} (a : LocalAction J) (es : List (LocalAction J)) → is_still a ≡ true → was_halted (a ∷ es) ≡ was_halted es
mute-still-halted (Did Halted) es h = clash false h refl
mute-still-halted a es h = refl

pub mute-still : {J : Type 0} (client is_over : Bool) (a : LocalAction J) (es : List (LocalAction J)) → is_still a ≡ true
    → (client ≡ is_client es) × (is_over ≡ was_halted es) → (client ≡ is_client (a ∷ es)) × (is_over ≡ was_halted (a ∷ es))
mute-still client is_over a es h s = (s.0 ∙ sym (mute-still-client a es h), s.1 ∙ sym (mute-still-halted a es h))

end-only : (J : Type 0) (b : Bool) → IsClientOnly {J = J} (end_acts b)
end-only J true = tt
end-only J false = tt

pub mute-only : {J : Type 0} (es : List (LocalAction J)) → IsClientOnly (mute_acts es)
mute-only [] = tt
mute-only (Did Halted ∷ es) = end-only _ (is_client es)
mute-only (a ∷ es) = tt

end-last : (J : Type 0) (b : Bool) → IsLastAct {J = J} (end_acts b)
end-last J true = refl
end-last J false = refl

pub mute-asks-last : {J : Type 0} (es : List (LocalAction J)) → IsLastAct (mute_acts es)
mute-asks-last [] = tt
mute-asks-last (Did Halted ∷ es) = end-last _ (is_client es)
mute-asks-last (a ∷ es) = tt

drop-none : (n : ℕ) → drop {A = ℕ} n [] ≡ []
drop-none zero = refl
drop-none (suc n) = refl

pub none-queued : {J : Type 0} (q : Place) (es : List (LocalAction J)) → queued (mute_behavior {J = J}) q es ≡ []
none-queued q es = either (is_open q es) (taken q es)
  where
    either : (b : Bool) (n : ℕ) → (if b then drop {A = ℕ} n [] else []) ≡ []
    either true n = drop-none n
    either false n = refl

never-offers : {J : Type 0} {C : Type 0} (es : List (LocalAction J)) (q : Place) → offering mute_behavior es ≡ Some q → C
never-offers {J = J} es q e = absurd (let f : None ≡ Some q = sym (none (begun_offer es)) ∙ e in cc)
  where
    none : (o : Option Place) → going_on {J = J} mute_behavior es o ≡ None
    none None = refl
    none (Some p) = rw (none-queued p es) refl

-- the acts that may be left to be carried out
abbrev pub IsMuteTodo : {J : Type 0} → List (Act J) → Bool → Bool → Bool → Type 0
IsMuteTodo acts live opened halted =
    (acts ≡ [])
    ⊎ (((acts ≡ act.HangUp place.Client ∷ act.Gone ∷ []) × (live ≡ true) × (opened ≡ true) × (halted ≡ true))
    ⊎ ((acts ≡ act.Gone ∷ []) × (live ≡ true) × (opened ≡ false) × (halted ≡ true)))

-- where such a strand stands
pub record Course {J : Type 0} (es : List (LocalAction J)) : Type 0 where
  pub to_do : IsMuteTodo (todo mute_behavior es) (lives es) (is_open place.Client es) (was_halted es)
  pub no_thread : waiting mute_behavior es ≡ []
  pub no_place : to_offer mute_behavior es ≡ []
  -- until Stop ends it, its connection is open exactly where it is a client's
  pub before : was_halted es ≡ false → lives es ≡ true → is_open place.Client es ≡ is_client es
  -- once Stop has ended it, something is left to be done while it lives
  pub after : was_halted es ≡ true → lives es ≡ true → todo mute_behavior es ≡ [] → ⊥

none-left : {J : Type 0} (acts : List (Act J)) (live opened halted : Bool) → acts ≡ [] → IsMuteTodo (acts ++ []) live opened halted
none-left acts live opened halted e = inl (rw e refl)

no-line : {A : Type 0} (xs : List A) → xs ≡ [] → xs ++ [] ≡ []
no-line xs e = rw e refl

ended : {J : Type 0} (acts : List (Act J)) (live opened client : Bool) → acts ≡ [] → live ≡ true → opened ≡ client
    → IsMuteTodo (acts ++ carried (end_acts client)) live opened true
ended acts live opened true e l o = inr (inl (rw e refl, l, o, refl))
ended acts live opened false e l o = inr (inr (rw e refl, l, o, refl))

unhalted : {J : Type 0} (es : List (LocalAction J)) → Course es → lives es ≡ true → todo mute_behavior es ≡ [] → was_halted es ≡ false
unhalted es g l e = test (was_halted es) (g.after)
  where
    test : (b : Bool) → (b ≡ true → lives es ≡ true → todo mute_behavior es ≡ [] → ⊥) → b ≡ false
    test true f = absurd (f refl l e)
    test false f = refl

-- what happens changes nothing: nothing is left to be done, and Stop hasn't ended the strand
same : {J : Type 0} (a : LocalAction J) (es : List (LocalAction J)) → Course es → todo mute_behavior es ≡ [] → lives es ≡ true
    → todo mute_behavior (a ∷ es) ≡ todo mute_behavior es ++ [] → waiting mute_behavior (a ∷ es) ≡ waiting mute_behavior es
    → to_offer mute_behavior (a ∷ es) ≡ to_offer mute_behavior es ++ [] → was_halted (a ∷ es) ≡ was_halted es → lives (a ∷ es) ≡ lives es
    → is_open place.Client (a ∷ es) ≡ is_open place.Client es → is_client (a ∷ es) ≡ is_client es → Course (a ∷ es)
same a es g e l t w o h live opened client = record {
  to_do = inl (t ∙ no-line _ e);
  no_thread = w ∙ g.no_thread;
  no_place = o ∙ no-line _ g.no_place;
  before = λ p q. opened ∙ g.before (sym h ∙ p) (sym live ∙ q) ∙ sym client;
  after = λ p q r. g.after (sym h ∙ p) l e;
}

begun : {J : Type 0} (now : ℕ) (begin : Start J) (es : List (LocalAction J)) → es ≡ [] → Course es → Course (Did (Began now begin) ∷ es)
begun now (start.Client c) es e g = record {
  to_do = inl (no-line _ (ap (todo mute_behavior) e));
  no_thread = g.no_thread;
  no_place = no-line _ g.no_place;
  before = λ p q. refl;
  after = λ p q r. clash (was_halted es) p (ap was_halted e);
}
begun now (start.Job n premature job) es e g = record {
  to_do = inl (no-line _ (ap (todo mute_behavior) e));
  no_thread = g.no_thread;
  no_place = no-line _ g.no_place;
  before = λ p q. ap (is_open place.Client) e ∙ sym (ap is_client e);
  after = λ p q r. clash (was_halted es) p (ap was_halted e);
}

halted : {J : Type 0} (es : List (LocalAction J)) → Course es → lives es ≡ true → todo mute_behavior es ≡ [] → Course (Did Halted ∷ es)
halted {J = J} es g l e = record {
  to_do = ended _ (lives es) (is_open place.Client es) (is_client es) e l (g.before (unhalted es g l e) l);
  no_thread = waits (is_client es);
  no_place = places (is_client es);
  before = λ p q. clash true refl p;
  after = λ p q r. some (is_client es) (todo mute_behavior es) e r;
}
  where
    waits : (b : Bool) → lined_up {J = J} (end_acts b) (waiting mute_behavior es) ≡ []
    waits true = g.no_thread
    waits false = g.no_thread

    places : (b : Bool) → to_offer mute_behavior es ++ offers {J = J} (end_acts b) ≡ []
    places true = no-line _ g.no_place
    places false = no-line _ g.no_place

    some : (b : Bool) (acts : List (Act J)) → acts ≡ [] → acts ++ carried (end_acts b) ≡ [] → ⊥
    some true acts p q = let r : act.HangUp place.Client ∷ act.Gone ∷ [] ≡ [] = rw p at q in cc
    some false acts p q = let r : act.Gone ∷ [] ≡ [] = rw p at q in cc

gone : {J : Type 0} (a : LocalAction J) (es : List (LocalAction J)) → Course es → todo mute_behavior (a ∷ es) ≡ []
    → waiting mute_behavior (a ∷ es) ≡ waiting mute_behavior es
    → to_offer mute_behavior (a ∷ es) ≡ to_offer mute_behavior es ++ [] → lives (a ∷ es) ≡ false → Course (a ∷ es)
gone a es g t w o l = record {
  to_do = inl t;
  no_thread = w ∙ g.no_thread;
  no_place = o ∙ no-line _ g.no_place;
  before = λ p q. clash _ q l;
  after = λ p q r. clash _ q l;
}

-- the place that is hung up is the client's connection, and it is open
hung : {J : Type 0} (acts rest : List (Act J)) (q : Place) (live opened stopped : Bool) → IsMuteTodo acts live opened stopped → acts ≡ act.HangUp q ∷ rest
    → (q ≡ place.Client) × (acts ≡ act.HangUp place.Client ∷ act.Gone ∷ []) × (live ≡ true) × (opened ≡ true) × (stopped ≡ true)
hung acts rest q live opened stopped t e = elim t [
  | inl w ↦ absurd (let f : act.HangUp q ∷ rest ≡ [] = sym e ∙ w in cc)
  | inr v ↦ elim v [
    | inl w ↦ (let f : act.HangUp q ∷ rest ≡ act.HangUp place.Client ∷ act.Gone ∷ [] = sym e ∙ w.0 in cc, w.0, w.1, w.2, w.3)
    | inr w ↦ absurd (let f : act.HangUp q ∷ rest ≡ act.Gone ∷ [] = sym e ∙ w.0 in cc)
  ]
]

closed : {J : Type 0} (es : List (LocalAction J)) (q : Place) → Course es
    → (IsNextAct mute_behavior es (act.HangUp q) × (is_open q es ≡ true)) ⊎ IsFirstOpen es q
    → IsExecution (mute_behavior {J = J}) es → Course (Did (Close q) ∷ es)
closed es q g f execution = elim f [
  | inl w ↦ (let h = hung _ w.0.0 q _ _ _ g.to_do w.0.1 in record {
    to_do = inr (inr (rw h.1 refl, h.2, rw h.0 refl, h.4));
    no_thread = g.no_thread;
    no_place = no-line _ g.no_place;
    before = λ p r. clash (was_halted es) h.4 p;
    after = λ p r s. absurd (let k : act.Gone ∷ [] ≡ [] = rw h.1 at s in cc);
  })
  | inr w ↦ (let h = over mute_behavior mute-quiet es execution w.0 in gone _ es g (rw h.no_act refl) refl refl h.dead)
]

pub course : {J : Type 0} (es : List (LocalAction J)) → IsExecution mute_behavior es → Course es
course [] f = record { to_do = inl refl; no_thread = refl; no_place = refl; before = λ p q. refl; after = λ p q r. clash false p refl }
course (Told (Moment t) ∷ es) f = same _ es (course es f.0) f.1.1.no_act f.1.0 refl refl refl refl refl refl refl
course (Told Stop ∷ es) f = same _ es (course es f.0) f.1.1.no_act f.1.0 refl refl refl refl refl refl refl
course (Did (Began now begin) ∷ es) f = begun now begin es f.1 (course es f.0)
course (Did (Bytes q bytes) ∷ es) f = same _ es (course es f.0) f.1.0.idle.no_act f.1.0.living refl refl refl refl refl refl refl
course (Did (Ended q) ∷ es) f = same _ es (course es f.0) f.1.idle.no_act f.1.living refl refl refl refl refl refl refl
course (Did (Broken q) ∷ es) f = same _ es (course es f.0) f.1.idle.no_act f.1.living refl refl refl refl refl refl refl
course (Did (Ready q) ∷ es) f = same _ es (course es f.0) f.1.idle.no_act f.1.living refl refl refl refl refl refl refl
course (Did (Dialled k) ∷ es) f = same _ es (course es f.0) f.1.idle.no_act f.1.living refl refl refl refl refl refl refl
course (Did (Refused k) ∷ es) f = same _ es (course es f.0) f.1.idle.no_act f.1.living refl refl refl refl refl refl refl
course (Did (Put q bytes) ∷ es) f = never-offers es q f.1.0.offered
course (Did (Later q) ∷ es) f = never-offers es q f.1.offered
course (Did (Lost q) ∷ es) f = never-offers es q f.1.offered
course (Did (Close q) ∷ es) f = closed es q (course es f.0) f.1 f.0
course (Did (Log line done) ∷ es) f = never _ _ (client-only mute_behavior mute-only es f.0).to_do f.1.1 (λ w. absurd w)
course (Did (Dict zone call answer) ∷ es) f = never _ _ (client-only mute_behavior mute-only es f.0).to_do f.1.0 (λ w. absurd w)
course (Did (Take key uses) ∷ es) f = never _ _ (client-only mute_behavior mute-only es f.0).to_do f.1 (λ w. absurd w)
course (Did (Dial host port done) ∷ es) f = never _ _ (client-only mute_behavior mute-only es f.0).to_do f.1 (λ w. absurd w)
course (Did (Keep k key idle size) ∷ es) f = never _ _ (client-only mute_behavior mute-only es f.0).to_do f.1.0 (λ w. absurd w)
course (Did (Timer at answer) ∷ es) f = never _ _ (client-only mute_behavior mute-only es f.0).to_do f.1.1 (λ w. absurd w)
course (Did Dropped ∷ es) f = gone _ es (course es f.0) refl refl refl refl
course (Did (Run k) ∷ es) f = first-of-none _ _ k f.1.1.1 (course es f.0).no_thread
course (Did (Offer q) ∷ es) f = first-of-none _ _ q f.1.1.1 (course es f.0).no_place
course (Did (Due n) ∷ es) f = none-due mute_behavior es _ (client-only mute_behavior mute-only es f.0) f.1.2.1
course (Did Halted ∷ es) f = halted es (course es f.0) f.1.0.living f.1.0.no_act
course (Did Gone ∷ es) f = gone _ es (course es f.0) (rw f.1 refl) refl refl refl

pub mute-hangs-up : {J : Type 0} (es : List (LocalAction J)) (q : Place) (rest : List (Act J)) → IsExecution mute_behavior es
    → todo mute_behavior es ≡ act.HangUp q ∷ rest
    → (lives es ≡ true) × (is_open q es ≡ true)
mute-hangs-up es q rest f e = let h = hung _ rest q _ _ _ (course es f).to_do e in (h.2, rw h.0 h.3)

pub mute-leaves : {J : Type 0} (es : List (LocalAction J)) (q : Place) → IsExecution mute_behavior es → todo mute_behavior es ≡ act.Gone ∷ []
    → is_open q es ≡ false
mute-leaves es place.Client f e = elim (course es f).to_do [
  | inl w ↦ absurd (let k : act.Gone ∷ [] ≡ [] = sym e ∙ w in cc)
  | inr v ↦ elim v [
    | inl w ↦ absurd (let k : act.Gone ∷ [] ≡ act.HangUp place.Client ∷ act.Gone ∷ [] = sym e ∙ w.0 in cc)
    | inr w ↦ w.2
  ]
]
mute-leaves es (place.Sock k) f e = (client-only mute_behavior mute-only es f).no_socket k

pub mute-keeps : {J : Type 0} (es : List (LocalAction J)) → KeepsNothingBack (mute_behavior {J = J}) es
mute-keeps es q opened = inl (none-queued q es)

-- what the calls of the strand take for granted
pub mute-unasked : {J : Type 0} {C : Type 0} (es : List (LocalAction J)) (given : Answer) (x : Action J) → IsExecution mute_behavior es
    → answered (todo mute_behavior es) given ≡ Some x → C
mute-unasked es given x f = unasked _ given x (client-only mute_behavior mute-only es f).to_do

-- of the turns that a strand makes by itself, only the end by Stop can come
pub mute-turns : {J : Type 0} (es : List (LocalAction J)) (shown : Seen) → is_own_turn shown ≡ true
    → IsExecution (mute_behavior {J = J}) (Did (action_of mute_behavior es shown) ∷ es)
    → (shown ≡ seen.Stop) × (was_halted es ≡ false)
mute-turns es (seen.Took q n) h f = never-offers es q f.1.0.offered
mute-turns es (seen.Later q) h f = never-offers es q f.1.offered
mute-turns es (seen.Lost q) h f = never-offers es q f.1.offered
mute-turns es (seen.Due n) h f = none-due mute_behavior es _ (client-only mute_behavior mute-only es f.0) f.1.2.1
mute-turns es (seen.Run k) h f = first-of-none _ _ k f.1.1.1 (course es f.0).no_thread
mute-turns es seen.Stop h f = (refl, unhalted es (course es f.0) f.1.0.living f.1.0.no_act)
mute-turns es other h f = clash false h refl

-- the end by Stop leaves it less to do
pub mute-left : {J : Type 0} (acts : List (Act J)) (client was is : Bool) → was ≡ false → is ≡ true → acts ≡ end_acts client
    → (if is then 0 else 3) + length acts < (if was then 0 else 3)
mute-left acts true was is p q e = rw (p, q, e) (lit< tt)
mute-left acts false was is p q e = rw (p, q, e) (lit< tt)

pub mute-asks-fit : {J : Type 0} (es : List (LocalAction J)) → IsExecution mute_behavior es → IsAskedRight mute_behavior es (todo mute_behavior es)
mute-asks-fit {J = J} es f = fits (todo mute_behavior es) (client-only mute_behavior mute-only es f).to_do
  where
    fits : (acts : List (Act J)) → IsClientOnly acts → IsAskedRight mute_behavior es acts
    fits [] only = tt
    fits (act.Dict zone call ∷ acts) only = absurd only
    fits (act.Keep k key idle size ∷ acts) only = absurd only
    fits (a ∷ acts) only = tt

pub mute-wakes : {J : Type 0} (a : LocalAction J) (es : List (LocalAction J)) → is_waking_turn a ≡ true → IsMild (mute_acts (a ∷ es))
mute-wakes (Did Halted) es h = clash false h refl
mute-wakes a es h = tt

pub mute-ends : {J : Type 0} (es : List (LocalAction J)) → IsEnding (mute_acts (Did Halted ∷ es))
mute-ends {J = J} es = ends (is_client es)
  where
    ends : (b : Bool) → IsEnding (end_acts {J = J} b)
    ends true = refl
    ends false = refl
