-- Whether a deadline is armed, after one was armed or cancelled.
use Rattle.std.proofs.Common.{◌≡◌, ℕ, ◌==◌, ◌||◌, Bool, true, false, List, [], ◌∷◌, ◌++◌, if◌then◌else◌, refl, sym, ap, ◌∙◌, subst, eqb-true, eq-eqb}
use Rattle.resty_base.specs.declared.names.Ms.{Ms}
use Rattle.strand_contract.specs.Alone.{without, disarmed}
use Rattle.strand_plans.specs.Ledgers.{Ledger, has_number, numbers}
use Rattle.strand_plans.specs.Moves.{with_deadline, without_deadline}
use Rattle.strand_plans.specs.Tidiness.{NumbersOnce}
use Rattle.strand_plans.proofs.Once.{none-without, numbers-disarmed, numbers-last}
use Rattle.connection_plan.specs.Clients.{Client}
use Rattle.connection_plan.specs.Timers.{Timer, number_of}
use Rattle.connection_plan.specs.Timers as timer
use Rattle.connection_strand.specs.Kept.{kept_of, with_armed, is_armed}

has-last : (n : ℕ) (js : List ℕ) → has_number n (js ++ n ∷ []) ≡ true
has-last n [] = ap (λ c. c || false) (same n)
  where
    same : (n : ℕ) → (n == n) ≡ true
    same n = eq-eqb n n refl
has-last n (j ∷ js) = ap (λ c. (n == j) || c) (has-last n js) ∙ or-true (n == j)
  where
    or-true : (c : Bool) → (c || true) ≡ true
    or-true true = refl
    or-true false = refl

has-more : (n k : ℕ) (js : List ℕ) → (n == k) ≡ false → has_number n (js ++ k ∷ []) ≡ has_number n js
has-more n k [] e = ap (λ c. c || false) e
has-more n k (j ∷ js) e = ap (λ c. (n == j) || c) (has-more n k js e)

has-but : (n k : ℕ) (js : List ℕ) → (n == k) ≡ false → has_number n (without k js) ≡ has_number n js
has-but n k [] e = refl
has-but n k (j ∷ js) e = by (has-but n k js e) (k == j) refl
  where
    by : has_number n (without k js) ≡ has_number n js → (c : Bool) → (k == j) ≡ c → has_number n (if c then js else j ∷ without k js) ≡ ((n == j) || has_number n js)
    by h true f = sym (ap (λ c. c || has_number n js) (subst (λ i. (n == i) ≡ false) (eqb-true k j f) e))
    by h false f = ap (λ c. (n == j) || c) h

-- of deadlines
pub armed-now : (n at : ℕ) (ds : List (ℕ × ℕ)) → has_number n (numbers (disarmed n ds ++ (n, at) ∷ [])) ≡ true
armed-now n at ds = ap (has_number n) (numbers-last n at (disarmed n ds)) ∙ has-last n (numbers (disarmed n ds))

pub cancelled : (n : ℕ) (ds : List (ℕ × ℕ)) → NumbersOnce (numbers ds) → has_number n (numbers (disarmed n ds)) ≡ false
cancelled n ds o = ap (has_number n) (numbers-disarmed n ds) ∙ none-without n (numbers ds) o

pub cancelled-other : (n k : ℕ) (ds : List (ℕ × ℕ)) → (n == k) ≡ false → has_number n (numbers (disarmed k ds)) ≡ has_number n (numbers ds)
cancelled-other n k ds e = ap (has_number n) (numbers-disarmed k ds) ∙ has-but n k (numbers ds) e

pub armed-other : (n k at : ℕ) (ds : List (ℕ × ℕ)) → (n == k) ≡ false → has_number n (numbers (disarmed k ds ++ (k, at) ∷ [])) ≡ has_number n (numbers ds)
armed-other n k at ds e = ap (has_number n) (numbers-last k at (disarmed k ds)) ∙ has-more n k (numbers (disarmed k ds)) e ∙ cancelled-other n k ds e

-- of a connection's own
pub is-armed : {J : Type 0} (t : Timer) (b : Ledger J) (c : Client) → is_armed t (kept_of b c) ≡ has_number (number_of t) (numbers b.armed)
is-armed timer.Header b c = refl
is-armed timer.Keepalive b c = refl
is-armed timer.Body b c = refl
is-armed timer.Send b c = refl

pub arms : {J : Type 0} (t : Timer) (at : Ms) (b : Ledger J) (c : Client) → with_armed t true (kept_of b c) ≡ kept_of (with_deadline (number_of t) at b) c
arms timer.Header at b c = rw (armed-now 0 at.0 b.armed, armed-other 1 0 at.0 b.armed refl) refl
arms timer.Keepalive at b c = rw (armed-now 0 at.0 b.armed, armed-other 1 0 at.0 b.armed refl) refl
arms timer.Body at b c = rw (armed-now 0 at.0 b.armed, armed-other 1 0 at.0 b.armed refl) refl
arms timer.Send at b c = rw (armed-now 1 at.0 b.armed, armed-other 0 1 at.0 b.armed refl) refl

pub disarms : {J : Type 0} (t : Timer) (b : Ledger J) (c : Client) → NumbersOnce (numbers b.armed) → with_armed t false (kept_of b c) ≡ kept_of (without_deadline (number_of t) b) c
disarms timer.Header b c o = rw (cancelled 0 b.armed o, cancelled-other 1 0 b.armed refl) refl
disarms timer.Keepalive b c o = rw (cancelled 0 b.armed o, cancelled-other 1 0 b.armed refl) refl
disarms timer.Body b c o = rw (cancelled 0 b.armed o, cancelled-other 1 0 b.armed refl) refl
disarms timer.Send b c o = rw (cancelled 1 b.armed o, cancelled-other 0 1 b.armed refl) refl
