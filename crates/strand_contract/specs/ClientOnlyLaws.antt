-- What the executions of strands with nothing but their client's connection have.
use Rattle.std.specs.Prelude.{◌≡◌, ℕ, Bool, true, false, List, [], ◌∷◌, ◌++◌, drop, Some, None, if◌then◌else◌, refl}
use Rattle.std.proofs.Common.{sym, ◌∙◌, ap, subst}
use Rattle.strand_contract.specs.declared.turns.Place.TheVariants as place
use Rattle.strand_contract.specs.declared.turns.Start.TheVariants as start
use Rattle.strand_contract.specs.declared.turns.Act.{Act}
use Rattle.strand_contract.specs.declared.turns.Act.TheVariants as act
use Rattle.strand_contract.specs.declared.turns.Answer.{Answer}
use Rattle.strand_contract.specs.Actions.{Action, LocalAction, Told, Did, same_place, Began, Bytes, Ended, Broken, Ready, Dialled, Refused}
use Rattle.strand_contract.specs.Actions.{Put, Later, Lost, Close, Log, Dict, Take, Dial, Keep, Timer, Dropped, Run, Offer, Due, Halted, Gone}
use Rattle.strand_contract.specs.Behaviors.{Behavior}
use Rattle.strand_contract.specs.Alone.{lives, was_dropped, is_open, moment, todo, left_by, carried, armed, armed_by, taken_by, due, IsExecution}
use Rattle.strand_contract.specs.Calls.{answered}
use Rattle.strand_contract.specs.Laws.{is_still, IsQuiet}
use Rattle.strand_contract.specs.ClientOnly.{IsClientOnly, HasClientOnly, IsOver}

only-append : (J : Type 0) (xs ys : List (Act J)) → IsClientOnly xs → IsClientOnly ys → IsClientOnly (xs ++ ys)
only-append J [] ys p q = q
only-append J (act.Ready k ∷ xs) ys p q = only-append J xs ys p q
only-append J (act.Unready k ∷ xs) ys p q = only-append J xs ys p q
only-append J (act.Offer k ∷ xs) ys p q = only-append J xs ys p q
only-append J (act.HangUp k ∷ xs) ys p q = only-append J xs ys p q
only-append J (act.Gone ∷ xs) ys p q = only-append J xs ys p q
only-append J (a ∷ xs) ys p q = absurd p

only-carried : (J : Type 0) (xs : List (Act J)) → IsClientOnly xs → IsClientOnly (carried xs)
only-carried J [] p = tt
only-carried J (act.Ready k ∷ xs) p = only-carried J xs p
only-carried J (act.Unready k ∷ xs) p = only-carried J xs p
only-carried J (act.Offer k ∷ xs) p = only-carried J xs p
only-carried J (act.HangUp k ∷ xs) p = only-carried J xs p
only-carried J (act.Gone ∷ xs) p = only-carried J xs p
only-carried J (a ∷ xs) p = absurd p

only-drop : (J : Type 0) (xs : List (Act J)) → IsClientOnly xs → IsClientOnly (drop 1 xs)
only-drop J [] p = tt
only-drop J (act.Ready k ∷ xs) p = p
only-drop J (act.Unready k ∷ xs) p = p
only-drop J (act.Offer k ∷ xs) p = p
only-drop J (act.HangUp k ∷ xs) p = p
only-drop J (act.Gone ∷ xs) p = p
only-drop J (a ∷ xs) p = absurd p

only-left_by : (J : Type 0) (a : LocalAction J) (acts : List (Act J)) → IsClientOnly acts → IsClientOnly (left_by a acts)
only-left_by J (Did (Close q)) acts p = only-drop J acts p
only-left_by J (Did (Log line done)) acts p = only-drop J acts p
only-left_by J (Did (Dict zone call answer)) acts p = only-drop J acts p
only-left_by J (Did (Take key uses)) acts p = only-drop J acts p
only-left_by J (Did (Dial host port done)) acts p = only-drop J acts p
only-left_by J (Did (Keep k key idle size)) acts p = only-drop J acts p
only-left_by J (Did (Timer at answer)) acts p = only-drop J acts p
only-left_by J (Did Gone) acts p = only-drop J acts p
only-left_by J (Did Dropped) acts p = tt
only-left_by J a acts p = p

none-armed : (J : Type 0) (acts : List (Act J)) → IsClientOnly acts → armed_by acts [] ≡ []
none-armed J [] p = refl
none-armed J (act.Ready k ∷ xs) p = none-armed J xs p
none-armed J (act.Unready k ∷ xs) p = none-armed J xs p
none-armed J (act.Offer k ∷ xs) p = none-armed J xs p
none-armed J (act.HangUp k ∷ xs) p = none-armed J xs p
none-armed J (act.Gone ∷ xs) p = none-armed J xs p
none-armed J (a ∷ xs) p = absurd p

none-taken : (J : Type 0) (a : LocalAction J) → taken_by a [] ≡ []
none-taken J (Did (Due n)) = refl
none-taken J a = refl

-- an act that awaits an answer isn't one of these
pub never : {J : Type 0} {C : Type 0} (acts wanted : List (Act J)) → IsClientOnly acts → acts ≡ wanted → (IsClientOnly wanted → C) → C
never acts wanted p e f = f (subst IsClientOnly e p)

closed-stays : (b : Bool) (c : Bool) → c ≡ false → (if b then false else c) ≡ false
closed-stays true c h = refl
closed-stays false c h = h

no-socket : {J : Type 0} (b : Behavior J) (a : LocalAction J) (es : List (LocalAction J)) (k : ℕ) → IsExecution b (a ∷ es) → IsClientOnly (todo b es)
    → is_open (place.Sock k) es ≡ false → is_open (place.Sock k) (a ∷ es) ≡ false
no-socket b (Did (Began now (start.Client c))) es k f p h = refl
no-socket b (Did (Dial host port true)) es k f p h = never _ _ p f.1 (λ w. absurd w)
no-socket b (Did (Take key (Some uses))) es k f p h = never _ _ p f.1 (λ w. absurd w)
no-socket b (Did (Close q)) es k f p h = closed-stays (same_place (place.Sock k) q) _ h
no-socket b (Did (Keep j key idle size)) es k f p h = never _ _ p f.1.0 (λ w. absurd w)
no-socket b a es k f p h = h

-- what the acts of all turns are, the whole execution keeps to
pub client-only : {J : Type 0} (b : Behavior J) → ((es : List (LocalAction J)) → IsClientOnly (b.acts es)) → (es : List (LocalAction J)) → IsExecution b es
    → HasClientOnly b es
client-only {J = J} b acts [] f = record { to_do = tt; no_deadline = refl; no_socket = λ k. refl }
client-only {J = J} b acts (a ∷ es) f = let before : HasClientOnly b es = client-only b acts es f.0 in record {
  to_do = only-append J (left_by a (todo b es)) (carried (b.acts (a ∷ es)))
      (only-left_by J a (todo b es) before.to_do) (only-carried J (b.acts (a ∷ es)) (acts (a ∷ es)));
  no_deadline = rw (before.no_deadline, none-taken J a) (none-armed J (b.acts (a ∷ es)) (acts (a ∷ es)));
  no_socket = λ k. no-socket b a es k f before.to_do (before.no_socket k);
}

-- a test isn't both true and false
pub clash : {C : Type 0} (x : Bool) → x ≡ true → x ≡ false → C
clash x p q = absurd (let e : true ≡ false = sym p ∙ q in cc)

differs : {J : Type 0} {C : Type 0} (acts rest : List (Act J)) (a : Act J) → acts ≡ a ∷ rest → acts ≡ [] → C
differs acts rest a p q = absurd (let e : a ∷ rest ≡ [] = sym p ∙ q in cc)

still-over : {J : Type 0} (b : Behavior J) (a : LocalAction J) (es : List (LocalAction J)) → IsQuiet b → is_still a ≡ true → left_by a [] ≡ [] → todo b es ≡ []
    → todo b (a ∷ es) ≡ []
still-over b a es quiet h l e = rw (e, quiet a es h, l) refl

-- so it is with each that was dropped
pub over : {J : Type 0} (b : Behavior J) → IsQuiet b → (es : List (LocalAction J)) → IsExecution b es → was_dropped es ≡ true → IsOver b es
over b quiet [] f h = clash false h refl
over b quiet (Told w ∷ es) f h = clash (lives es) f.1.0 (over b quiet es f.0 h).dead
over b quiet (Did (Began now begin) ∷ es) f h = clash (was_dropped es) h (ap was_dropped f.1)
over b quiet (Did (Bytes q bytes) ∷ es) f h = clash (lives es) f.1.0.living (over b quiet es f.0 h).dead
over b quiet (Did (Ended q) ∷ es) f h = clash (lives es) f.1.living (over b quiet es f.0 h).dead
over b quiet (Did (Broken q) ∷ es) f h = clash (lives es) f.1.living (over b quiet es f.0 h).dead
over b quiet (Did (Ready q) ∷ es) f h = clash (lives es) f.1.living (over b quiet es f.0 h).dead
over b quiet (Did (Dialled k) ∷ es) f h = clash (lives es) f.1.living (over b quiet es f.0 h).dead
over b quiet (Did (Refused k) ∷ es) f h = clash (lives es) f.1.living (over b quiet es f.0 h).dead
over b quiet (Did (Put q bytes) ∷ es) f h = clash (lives es) f.1.0.living (over b quiet es f.0 h).dead
over b quiet (Did (Later q) ∷ es) f h = clash (lives es) f.1.living (over b quiet es f.0 h).dead
over b quiet (Did (Lost q) ∷ es) f h = clash (lives es) f.1.living (over b quiet es f.0 h).dead
over b quiet (Did (Close q) ∷ es) f h =
    let before : IsOver b es = over b quiet es f.0 h in
    record { dead = before.dead; no_act = still-over b (Did (Close q)) es quiet refl refl before.no_act }
over b quiet (Did (Log line done) ∷ es) f h = differs _ f.1.0 _ f.1.1 (over b quiet es f.0 h).no_act
over b quiet (Did (Dict zone call answer) ∷ es) f h = differs _ _ _ f.1.0 (over b quiet es f.0 h).no_act
over b quiet (Did (Take key uses) ∷ es) f h = differs _ _ _ f.1 (over b quiet es f.0 h).no_act
over b quiet (Did (Dial host port done) ∷ es) f h = differs _ _ _ f.1 (over b quiet es f.0 h).no_act
over b quiet (Did (Keep k key idle size) ∷ es) f h = differs _ _ _ f.1.0 (over b quiet es f.0 h).no_act
over b quiet (Did (Timer at answer) ∷ es) f h = differs _ _ _ f.1.1 (over b quiet es f.0 h).no_act
over b quiet (Did Dropped ∷ es) f h = record { dead = refl; no_act = rw (quiet (Did Dropped) es refl) refl }
over b quiet (Did (Run k) ∷ es) f h = clash (lives es) f.1.0.living (over b quiet es f.0 h).dead
over b quiet (Did (Offer q) ∷ es) f h = clash (lives es) f.1.0.living (over b quiet es f.0 h).dead
over b quiet (Did (Due n) ∷ es) f h = clash (lives es) f.1.0.living (over b quiet es f.0 h).dead
over b quiet (Did Halted ∷ es) f h = clash (lives es) f.1.0.living (over b quiet es f.0 h).dead
over b quiet (Did Gone ∷ es) f h = differs _ _ _ f.1 (over b quiet es f.0 h).no_act

-- no deadline is due where none is armed
pub none-due : {J : Type 0} {C : Type 0} (b : Behavior J) (es : List (LocalAction J)) (d : ℕ × ℕ) → HasClientOnly b es → due (moment es) (armed b es) ≡ Some d
    → C
none-due b es d h e = absurd (let f : None ≡ Some d = sym (ap (due (moment es)) h.no_deadline) ∙ e in cc)

-- a list isn't empty where something is first in it
pub first-of-none : {A : Type 0} {C : Type 0} (xs rest : List A) (x : A) → (x ∷ []) ++ rest ≡ xs → xs ≡ [] → C
first-of-none xs rest x p q = absurd (let e : x ∷ rest ≡ [] = p ∙ q in cc)

some-none : {A : Type 0} {C : Type 0} (x : A) → None ≡ Some x → C
some-none x e = absurd (cc e)

-- none of its acts awaits an answer
pub unasked : {J : Type 0} {C : Type 0} (acts : List (Act J)) (given : Answer) (x : Action J) → IsClientOnly acts → answered acts given ≡ Some x → C
unasked [] given x p e = some-none x e
unasked (act.Ready k ∷ xs) given x p e = some-none x e
unasked (act.Unready k ∷ xs) given x p e = some-none x e
unasked (act.Offer k ∷ xs) given x p e = some-none x e
unasked (act.HangUp k ∷ xs) given x p e = some-none x e
unasked (act.Gone ∷ xs) given x p e = some-none x e
unasked (a ∷ xs) given x p e = absurd p
