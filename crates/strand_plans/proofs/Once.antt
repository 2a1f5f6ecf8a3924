-- A thread is queued once, and a deadline armed once.
use Rattle.strand_contract.specs.Actions.{LocalAction, Did}
use Rattle.strand_contract.specs.Actions.{Run, Due}
use Rattle.strand_contract.specs.Alone.{moment, waiting, armed}
use Rattle.strand_contract.specs.Alone.{without, disarmed, run_by, taken_by}
use Rattle.strand_contract.specs.ClientOnlyLaws.{clash}
use Rattle.strand_plans.specs.Ledgers.{Ledger, has_number, numbers, entered}
use Rattle.strand_plans.specs.Moves.{Move, Done, Ready, Unready, Send, Arm, Cancel, HangUp, Set, Look, Ask, End, added_if, with_sent, with_offer, with_thread, without_thread, with_deadline, without_deadline, hung_up, perform}
use Rattle.strand_plans.specs.Moves as move
use Rattle.strand_plans.specs.Plans.{Plan, move_of, state_of, behavior_of}
use Rattle.strand_plans.specs.Tidiness.{NumbersOnce}
use Rattle.strand_plans.proofs.Ledgers.{threads-are, armed-are}
use Rattle.strand_plans.proofs.Places.{or-right, or-left, or-none}
use Rattle.std.proofs.Common.{◌≡◌, ℕ, Bool, true, false, not, ◌||◌, ◌==◌, List, [], ◌∷◌, ◌++◌, drop, if◌then◌else◌, refl, sym, ap, subst, append-nil, eqb-true, eq-eqb}

fewer-if : (c : Bool) (k j : ℕ) (js ks : List ℕ) → has_number k js ≡ false → ((k == j) || has_number k ks) ≡ false → has_number k (if c then js else j ∷ ks) ≡ false
fewer-if true k j js ks h f = h
fewer-if false k j js ks h f = f

fewer : (n k : ℕ) (js : List ℕ) → has_number k js ≡ false → has_number k (without n js) ≡ false
fewer n k [] h = refl
fewer n k (j ∷ js) h = fewer-if (n == j) k j js (without n js) (or-right (k == j) _ h) (or-none _ _ (or-left _ _ h) (fewer n k js (or-right (k == j) _ h)))

once-if : (c : Bool) (j : ℕ) (js ks : List ℕ) → NumbersOnce js → (has_number j ks ≡ false) × NumbersOnce ks → NumbersOnce (if c then js else j ∷ ks)
once-if true j js ks o f = o
once-if false j js ks o f = f

once-without : (n : ℕ) (js : List ℕ) → NumbersOnce js → NumbersOnce (without n js)
once-without n [] o = tt
once-without n (j ∷ js) o = once-if (n == j) j js (without n js) o.1 (fewer n j js o.0, once-without n js o.1)

-- taken out, a number is there no more
pub none-without : (n : ℕ) (js : List ℕ) → NumbersOnce js → has_number n (without n js) ≡ false
none-without n [] o = refl
none-without n (j ∷ js) o = test (none-without n js o.1) (n == j) refl
  where
    test : has_number n (without n js) ≡ false → (c : Bool) → (n == j) ≡ c → has_number n (if c then js else j ∷ without n js) ≡ false
    test h true e = subst (λ k. has_number k js ≡ false) (sym (eqb-true n j e)) o.0
    test h false e = or-none _ _ e h

more : (k n : ℕ) (js : List ℕ) → (k == n) ≡ false → has_number k js ≡ false → has_number k (js ++ n ∷ []) ≡ false
more k n [] e h = or-none _ _ e refl
more k n (j ∷ js) e h = or-none _ _ (or-left _ _ h) (more k n js e (or-right (k == j) _ h))

apart : (k n : ℕ) → (n == k) ≡ false → (k == n) ≡ false
apart k n h = test (k == n) refl
  where
    test : (c : Bool) → (k == n) ≡ c → c ≡ false
    test true e = clash (n == k) (eq-eqb n k (sym (eqb-true k n e))) h
    test false e = refl

once-last : (n : ℕ) (js : List ℕ) → has_number n js ≡ false → NumbersOnce js → NumbersOnce (js ++ n ∷ [])
once-last n [] h o = (refl, tt)
once-last n (j ∷ js) h o = (more j n js (apart j n (or-left _ _ h)) o.0, once-last n js (or-right (n == j) _ h) o.1)

once-added : (n : ℕ) (js : List ℕ) → NumbersOnce js → NumbersOnce (added_if (not (has_number n js)) n js)
once-added n js o = test (has_number n js) refl
  where
    test : (c : Bool) → has_number n js ≡ c → NumbersOnce (js ++ (if not c then n ∷ [] else []))
    test true e = subst NumbersOnce (sym (append-nil js)) o
    test false e = once-last n js e o

once-drop : (js : List ℕ) → NumbersOnce js → NumbersOnce (drop 1 js)
once-drop [] o = o
once-drop (j ∷ js) o = o.1

-- the numbers of deadlines, of which one is cancelled, or armed
numbers-if : (c : Bool) (d : ℕ × ℕ) (ds es : List (ℕ × ℕ)) → numbers (if c then ds else d ∷ es) ≡ (if c then numbers ds else d.0 ∷ numbers es)
numbers-if true d ds es = refl
numbers-if false d ds es = refl

pub numbers-disarmed : (n : ℕ) (ds : List (ℕ × ℕ)) → numbers (disarmed n ds) ≡ without n (numbers ds)
numbers-disarmed n [] = refl
numbers-disarmed n (d ∷ ds) = rw (numbers-if (n == d.0) d ds (disarmed n ds), numbers-disarmed n ds) refl

pub numbers-last : (n at : ℕ) (ds : List (ℕ × ℕ)) → numbers (ds ++ (n, at) ∷ []) ≡ numbers ds ++ n ∷ []
numbers-last n at [] = refl
numbers-last n at (d ∷ ds) = ap (λ js. d.0 ∷ js) (numbers-last n at ds)

pub once-disarmed : (n : ℕ) (ds : List (ℕ × ℕ)) → NumbersOnce (numbers ds) → NumbersOnce (numbers (disarmed n ds))
once-disarmed n ds o = subst NumbersOnce (sym (numbers-disarmed n ds)) (once-without n (numbers ds) o)

pub once-armed : (n at : ℕ) (ds : List (ℕ × ℕ)) → NumbersOnce (numbers ds) → NumbersOnce (numbers (disarmed n ds ++ (n, at) ∷ []))
once-armed n at ds o = subst NumbersOnce (sym (numbers-last n at (disarmed n ds)))
    (once-last n (numbers (disarmed n ds)) (subst (λ js. has_number n js ≡ false) (sym (numbers-disarmed n ds)) (none-without n (numbers ds) o)) (once-disarmed n ds o))

module _ {J S : Type 0} where
  performed-threads : (m : Move J S) (b : Ledger J) (s : S) → NumbersOnce b.threads → NumbersOnce (perform m b s).state.ledger.threads
  performed-threads Done b s o = o
  performed-threads (Ready k m) b s o = performed-threads m (with_thread k b) s (once-added k b.threads o)
  performed-threads (Unready k m) b s o = performed-threads m (without_thread k b) s (once-without k b.threads o)
  performed-threads (Send q bytes m) b s o = performed-threads m (with_offer q (with_sent q bytes b)) s o
  performed-threads (Arm n at m) b s o = performed-threads m (with_deadline n at b) s o
  performed-threads (Cancel n m) b s o = performed-threads m (without_deadline n b) s o
  performed-threads (HangUp q m) b s o = performed-threads m (hung_up q b) s o
  performed-threads (move.Log line m) b s o = performed-threads m b s o
  performed-threads (Set f m) b s o = performed-threads m b (f s) o
  performed-threads (Look go) b s o = performed-threads (go b s) b s o
  performed-threads (Ask x) b s o = o
  performed-threads End b s o = o

  pub performed-deadlines : (m : Move J S) (b : Ledger J) (s : S) → NumbersOnce (numbers b.armed) → NumbersOnce (numbers (perform m b s).state.ledger.armed)
  performed-deadlines Done b s o = o
  performed-deadlines (Ready k m) b s o = performed-deadlines m (with_thread k b) s o
  performed-deadlines (Unready k m) b s o = performed-deadlines m (without_thread k b) s o
  performed-deadlines (Send q bytes m) b s o = performed-deadlines m (with_offer q (with_sent q bytes b)) s o
  performed-deadlines (Arm n at m) b s o = performed-deadlines m (with_deadline n at b) s (once-armed n at.0 b.armed o)
  performed-deadlines (Cancel n m) b s o = performed-deadlines m (without_deadline n b) s (once-disarmed n b.armed o)
  performed-deadlines (HangUp q m) b s o = performed-deadlines m (hung_up q b) s o
  performed-deadlines (move.Log line m) b s o = performed-deadlines m b s o
  performed-deadlines (Set f m) b s o = performed-deadlines m b (f s) o
  performed-deadlines (Look go) b s o = performed-deadlines (go b s) b s o
  performed-deadlines (Ask x) b s o = o
  performed-deadlines End b s o = o

run-once : {J : Type 0} (a : LocalAction J) (js : List ℕ) → NumbersOnce js → NumbersOnce (run_by a js)
run-once (Did (Run k)) js o = once-drop js o
run-once a js o = o

taken-once : {J : Type 0} (a : LocalAction J) (ds : List (ℕ × ℕ)) → NumbersOnce (numbers ds) → NumbersOnce (numbers (taken_by a ds))
taken-once (Did (Due n)) ds o = once-disarmed n ds o
taken-once a ds o = o

threads : {J S : Type 0} (p : Plan J S) (es : List (LocalAction J)) → NumbersOnce (state_of p es).ledger.threads
threads p [] = tt
threads p (a ∷ es) = let st = state_of p es in performed-threads (move_of p (moment (a ∷ es)) a st) (entered a st.ledger) st.inner (run-once a st.ledger.threads (threads p es))

pub deadlines : {J S : Type 0} (p : Plan J S) (es : List (LocalAction J)) → NumbersOnce (numbers (state_of p es).ledger.armed)
deadlines p [] = tt
deadlines p (a ∷ es) = let st = state_of p es in performed-deadlines (move_of p (moment (a ∷ es)) a st) (entered a st.ledger) st.inner (taken-once a st.ledger.armed (deadlines p es))

pub threads-once : {J S : Type 0} (p : Plan J S) (es : List (LocalAction J)) → NumbersOnce (waiting (behavior_of p) es)
threads-once p es = subst NumbersOnce (sym (threads-are p es)) (threads p es)

pub deadlines-once : {J S : Type 0} (p : Plan J S) (es : List (LocalAction J)) → NumbersOnce (numbers (armed (behavior_of p) es))
deadlines-once p es = subst (λ ds. NumbersOnce (numbers ds)) (sym (armed-are p es)) (deadlines p es)
