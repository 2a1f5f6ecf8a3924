-- The deadlines of the entries.
use Rattle.std.proofs.Common.{◌≡◌, ℕ, ◌≤◌, nat_eq, Bool, true, false, cond, List, [], ◌∷◌, ◌++◌, is_some, Option, Some, None, refl, sym, ap, ◌∙◌, arith, subst, append_assoc, append-nil}
use Rattle.std.proofs.lemmas.Bool.{eqb-true, eq-eqb}
use Rattle.std.specs.Map.{lookup, remove_entry}
use Rattle.resty_base.specs.declared.names.Ms.{Ms}
use Rattle.wakes.specs.declared.deadlines.Whose.TheVariants as whose
use Rattle.wakes.specs.Times.{Deadline}
use Rattle.sock_pool.specs.declared.pool.Parked.{Parked}
use Rattle.sock_pool.specs.Kept.{Entry, armed_for, armed_of, IsBelow, bound, IsRising}

pub rises-more : (low high : ℕ) (es : List Entry) → low ≤ high → IsRising low es → IsRising high es
rises-more low high [] l r = tt
rises-more low high (e ∷ es) l r = put (rises-more low high es l) e.1.deadline r
  where
    put : (IsRising low es → IsRising high es) → (d : Option ℕ) → IsBelow low d × IsRising (bound low d) es → IsBelow high d × IsRising (bound high d) es
    put ih None r = (tt, ih r.1)
    put ih (Some k) r = (omega (arith, r.0, l), r.1)

below-bound : (top : ℕ) (d : Option ℕ) → IsBelow top d → bound top d ≤ top
below-bound top None b = omega arith
below-bound top (Some k) b = omega (arith, b)

pub removed-rises : (n top : ℕ) (es : List Entry) → IsRising top es → IsRising top (remove_entry (nat_eq n) es)
removed-rises n top [] r = tt
removed-rises n top (e ∷ es) r = put (nat_eq n e.0) (removed-rises n (bound top e.1.deadline) es r.1)
  where
    put : (b : Bool) → IsRising (bound top e.1.deadline) (remove_entry (nat_eq n) es) → IsRising top (cond b es (e ∷ remove_entry (nat_eq n) es))
    put true h = rises-more (bound top e.1.deadline) top es (below-bound top e.1.deadline r.0) r.1
    put false h = (r.0, h)

-- a number that isn't below the bound is none of theirs
passed-for : (k sock top : ℕ) (d : Option ℕ) (until : Option Ms) (ds : List Deadline) → IsBelow top d → top ≤ k → remove_entry (nat_eq k) (armed_for sock d until ++ ds) ≡ armed_for sock d until ++ remove_entry (nat_eq k) ds
passed-for k sock top None until ds b l = refl
passed-for k sock top (Some m) None ds b l = refl
passed-for k sock top (Some m) (Some at) ds b l = put (nat_eq k m) refl
  where
    put : (c : Bool) → nat_eq k m ≡ c → cond c ds ((m, record { at = at; whose = whose.Idle sock }) ∷ remove_entry (nat_eq k) ds) ≡ (m, record { at = at; whose = whose.Idle sock }) ∷ remove_entry (nat_eq k) ds
    put true q = let e = eqb-true k m q in absurd (omega (arith, e, b, l))
    put false q = refl

pub passed : (k top : ℕ) (es : List Entry) (ds : List Deadline) → IsRising top es → top ≤ k → remove_entry (nat_eq k) (armed_of es ++ ds) ≡ armed_of es ++ remove_entry (nat_eq k) ds
passed k top [] ds r l = refl
passed k top (e ∷ es) ds r l =
    let mine = armed_for e.0 e.1.deadline e.1.idle.until in
    let low = below-bound top e.1.deadline r.0 in
    ap (remove_entry (nat_eq k)) (append_assoc (armed_of es) mine ds) ∙ passed k (bound top e.1.deadline) es (mine ++ ds) r.1 (omega (arith, low, l))
    ∙ ap (λ x. armed_of es ++ x) (passed-for k e.0 top e.1.deadline e.1.idle.until ds r.0 l) ∙ sym (append_assoc (armed_of es) mine (remove_entry (nat_eq k) ds))

-- the deadline of an entry that leaves is taken out
taken-for : (sock k : ℕ) (d : Option ℕ) (until : Option Ms) (ds : List Deadline) → d ≡ Some k → is_some d ≡ is_some until → remove_entry (nat_eq k) (armed_for sock d until ++ ds) ≡ ds
taken-for sock k None until ds e t = absurd (let f : None ≡ Some k = e in cc)
taken-for sock k (Some m) None ds e t = absurd (let f : true ≡ false = t in cc)
taken-for sock k (Some m) (Some at) ds e t = put (nat_eq k m) refl
  where
    put : (c : Bool) → nat_eq k m ≡ c → cond c ds ((m, record { at = at; whose = whose.Idle sock }) ∷ remove_entry (nat_eq k) ds) ≡ ds
    put true q = refl
    put false q = let f : m ≡ k = cc in absurd (let g : true ≡ false = sym (eq-eqb k m (sym f)) ∙ q in cc)

pub taken-armed : (n k top : ℕ) (p : Parked) (es : List Entry) (ds : List Deadline) → IsRising top es → lookup (nat_eq n) es ≡ Some p → p.deadline ≡ Some k → is_some p.deadline ≡ is_some p.idle.until
    → remove_entry (nat_eq k) (armed_of es ++ ds) ≡ armed_of (remove_entry (nat_eq n) es) ++ ds
taken-armed n k top p [] ds r h e t = absurd (let f : None ≡ Some p = h in cc)
taken-armed n k top p (x ∷ es) ds r h e t = put (λ d. taken-armed n k (bound top x.1.deadline) p es d r.1) (nat_eq n x.0) h
  where
    put : ((d : List Deadline) → lookup (nat_eq n) es ≡ Some p → p.deadline ≡ Some k → is_some p.deadline ≡ is_some p.idle.until → remove_entry (nat_eq k) (armed_of es ++ d) ≡ armed_of (remove_entry (nat_eq n) es) ++ d)
        → (b : Bool) → cond b (Some x.1) (lookup (nat_eq n) es) ≡ Some p → remove_entry (nat_eq k) (armed_of (x ∷ es) ++ ds) ≡ armed_of (cond b es (x ∷ remove_entry (nat_eq n) es)) ++ ds
    put ih true h =
        let mine = armed_for x.0 x.1.deadline x.1.idle.until in
        let f : x.1 ≡ p = cc in
        let d : x.1.deadline ≡ Some k = ap (λ (y : Parked). y.deadline) f ∙ e in
        let b : bound top x.1.deadline ≡ k = ap (bound top) d in
        ap (remove_entry (nat_eq k)) (append_assoc (armed_of es) mine ds) ∙ passed k (bound top x.1.deadline) es (mine ++ ds) r.1 (omega (arith, b))
        ∙ ap (λ l. armed_of es ++ l) (taken-for x.0 k x.1.deadline x.1.idle.until ds d (subst (λ (y : Parked). is_some y.deadline ≡ is_some y.idle.until) (sym f) t))
    put ih false h =
        let mine = armed_for x.0 x.1.deadline x.1.idle.until in
        ap (remove_entry (nat_eq k)) (append_assoc (armed_of es) mine ds) ∙ ih (mine ++ ds) h e t ∙ sym (append_assoc (armed_of (remove_entry (nat_eq n) es)) mine ds)

-- where it has none, nothing changes
pub taken-unarmed : (n : ℕ) (p : Parked) (es : List Entry) → lookup (nat_eq n) es ≡ Some p → p.deadline ≡ None → armed_of (remove_entry (nat_eq n) es) ≡ armed_of es
taken-unarmed n p [] h e = absurd (let f : None ≡ Some p = h in cc)
taken-unarmed n p (x ∷ es) h e = put (taken-unarmed n p es) (nat_eq n x.0) h
  where
    none : (d : Option ℕ) → d ≡ None → armed_of es ≡ armed_of es ++ armed_for x.0 d x.1.idle.until
    none None e = sym (append-nil (armed_of es))
    none (Some k) e = absurd (let f : Some k ≡ None = e in cc)

    put : (lookup (nat_eq n) es ≡ Some p → p.deadline ≡ None → armed_of (remove_entry (nat_eq n) es) ≡ armed_of es)
        → (b : Bool) → cond b (Some x.1) (lookup (nat_eq n) es) ≡ Some p → armed_of (cond b es (x ∷ remove_entry (nat_eq n) es)) ≡ armed_of (x ∷ es)
    put ih true h = let f : x.1 ≡ p = cc in none x.1.deadline (ap (λ (y : Parked). y.deadline) f ∙ e)
    put ih false h = ap (λ l. l ++ armed_for x.0 x.1.deadline x.1.idle.until) (ih h e)
