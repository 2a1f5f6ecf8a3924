-- A run's own deadlines by their numbers: which is due, and what is left of them.
use Rattle.std.proofs.Common.{◌≡◌, ℕ, ◌==◌, Bool, true, false, ◌&&◌, ◌||◌, List, [], ◌∷◌, ◌++◌, Option, Some, None, if◌then◌else◌}
use Rattle.std.proofs.Common.{refl, sym, ap, ◌∙◌, eqb-true, arith}
use Rattle.std.specs.Prelude.{nat_lt, nat_le}
use Rattle.strand_contract.specs.Alone.{sooner, due, disarmed, without}
use Rattle.strand_plans.specs.Ledgers.{has_number, numbers}
use Rattle.run_contract.specs.Alike.{own_deadlines}

abbrev pub own : List (ℕ × ℕ) → List ℕ
own ds = numbers (own_deadlines ds)

pub none-armed : (ds : List (ℕ × ℕ)) → numbers ds ≡ [] → ds ≡ []
none-armed [] h = refl
none-armed (d ∷ ds) h = cc

same-number : (n : ℕ) → (n == n) ≡ true
same-number n = grind (arith)

or-later : (a : Bool) → (a || true) ≡ true
or-later true = refl
or-later false = refl

or-first : (a b : Bool) → a ≡ true → (a || b) ≡ true
or-first true b e = refl
or-first false b e = absurd (cc)

-- one that is due is among them
pub due-own : (now n at : ℕ) (ds : List (ℕ × ℕ)) → due now ds ≡ Some (n, at) → nat_lt n 2 ≡ false → has_number n (own ds) ≡ true
due-own now n at [] e f = cc
due-own now n at (d ∷ ds) e f = by (λ x. due-own now n at ds x f) (due now ds) refl (nat_lt d.0 2) refl
  where
    goal : Bool → Bool
    goal c = has_number n (numbers (if c then own_deadlines ds else d ∷ own_deadlines ds))

    lift : (c : Bool) → nat_lt d.0 2 ≡ c → goal c ≡ true → has_number n (own (d ∷ ds)) ≡ true
    lift c g x = ap goal g ∙ x

    first : (c : Bool) → nat_lt d.0 2 ≡ c → d ≡ (n, at) → goal c ≡ true
    first true g same = absurd (let x : true ≡ false = sym g ∙ ap (λ (k : ℕ × ℕ). nat_lt k.0 2) same ∙ f in cc)
    first false g same = or-first (n == d.0) (has_number n (own ds)) (ap (λ (k : ℕ × ℕ). n == k.0) same ∙ same-number n)

    rest : (c : Bool) → has_number n (own ds) ≡ true → goal c ≡ true
    rest true x = x
    rest false x = ap (λ y. (n == d.0) || y) x ∙ or-later (n == d.0)

    at-none : (c : Bool) → nat_lt d.0 2 ≡ c → (l : Bool) → (if l then Some d else None) ≡ Some (n, at) → goal c ≡ true
    at-none c g true x = first c g (cc)
    at-none c g false x = cc

    at-some : (due now ds ≡ Some (n, at) → has_number n (own ds) ≡ true) → (y : ℕ × ℕ) → due now ds ≡ Some y → (c : Bool) → nat_lt d.0 2 ≡ c
        → (l : Bool) → (if l then Some d else Some y) ≡ Some (n, at) → goal c ≡ true
    at-some later y h c g true x = first c g (cc)
    at-some later y h c g false x = rest c (later (h ∙ x))

    by : (due now ds ≡ Some (n, at) → has_number n (own ds) ≡ true) → (o : Option (ℕ × ℕ)) → due now ds ≡ o → (c : Bool) → nat_lt d.0 2 ≡ c
        → has_number n (own (d ∷ ds)) ≡ true
    by later None h c g = lift c g (at-none c g (nat_le d.1 now) (sym (ap (sooner now d) h) ∙ e))
    by later (Some y) h c g = lift c g (at-some later y h c g (nat_le d.1 now && nat_le d.1 y.1) (sym (ap (sooner now d) h) ∙ e))

own-disarms : (n : ℕ) (ds : List (ℕ × ℕ)) → nat_lt n 2 ≡ false → own_deadlines (disarmed n ds) ≡ disarmed n (own_deadlines ds)
own-disarms n [] h = refl
own-disarms n (d ∷ ds) h = by (own-disarms n ds h) (n == d.0) (nat_lt d.0 2) refl refl
  where
    by : own_deadlines (disarmed n ds) ≡ disarmed n (own_deadlines ds) → (e l : Bool) → (n == d.0) ≡ e → nat_lt d.0 2 ≡ l
        → own_deadlines (if e then ds else d ∷ disarmed n ds) ≡ disarmed n (if l then own_deadlines ds else d ∷ own_deadlines ds)
    by rest true true e l = absurd (let f : false ≡ true = sym h ∙ ap (λ m. nat_lt m 2) (eqb-true n d.0 e) ∙ l in cc)
    by rest true false e l = sym (ap (λ (x : Bool). if x then own_deadlines ds else d ∷ disarmed n (own_deadlines ds)) e)
    by rest false true e l = ap (λ (x : Bool). if x then own_deadlines (disarmed n ds) else d ∷ own_deadlines (disarmed n ds)) l ∙ rest
    by rest false false e l =
        ap (λ (x : Bool). if x then own_deadlines (disarmed n ds) else d ∷ own_deadlines (disarmed n ds)) l ∙ ap (λ xs. d ∷ xs) rest
        ∙ sym (ap (λ (x : Bool). if x then own_deadlines ds else d ∷ disarmed n (own_deadlines ds)) e)

numbers-left : (n : ℕ) (ds : List (ℕ × ℕ)) → numbers (disarmed n ds) ≡ without n (numbers ds)
numbers-left n [] = refl
numbers-left n (d ∷ ds) = by (n == d.0) (numbers-left n ds)
  where
    by : (e : Bool) → numbers (disarmed n ds) ≡ without n (numbers ds)
        → numbers (if e then ds else d ∷ disarmed n ds) ≡ (if e then numbers ds else d.0 ∷ without n (numbers ds))
    by true h = refl
    by false h = ap (λ ks. d.0 ∷ ks) h

pub own-left : (ds : List (ℕ × ℕ)) → own (disarmed 2 ds) ≡ without 2 (own ds)
own-left ds = ap numbers (own-disarms 2 ds refl) ∙ numbers-left 2 (own_deadlines ds)

pub own-armed : (at : ℕ) (ds : List (ℕ × ℕ)) → own (ds ++ (2, at) ∷ []) ≡ own ds ++ 2 ∷ []
own-armed at [] = refl
own-armed at (d ∷ ds) = by (nat_lt d.0 2) (own-armed at ds)
  where
    by : (c : Bool) → own (ds ++ (2, at) ∷ []) ≡ own ds ++ 2 ∷ []
        → numbers (if c then own_deadlines (ds ++ (2, at) ∷ []) else d ∷ own_deadlines (ds ++ (2, at) ∷ []))
        ≡ numbers (if c then own_deadlines ds else d ∷ own_deadlines ds) ++ 2 ∷ []
    by true h = h
    by false h = ap (λ ks. d.0 ∷ ks) h
