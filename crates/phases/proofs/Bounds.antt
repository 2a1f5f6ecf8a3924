-- How many handlers a request has at most.
use Rattle.std.proofs.Common.{◌≡◌, ℕ, ◌+◌, ◌*◌, ◌<◌, ◌≤◌, Bool, true, false, ◌||◌, List, [], ◌∷◌, length, filter, if◌then◌else◌, refl, ap, arith}
use Rattle.phases.specs.declared.outcomes.Phase.{Phase}
use Rattle.phases.specs.declared.outcomes.Phase.TheVariants.{Rewrite, Access, Content, HeaderFilter, BodyFilter, Log}
use Rattle.phases.specs.declared.outcomes.Outcome.{Outcome}
use Rattle.phases.specs.declared.outcomes.Next.{Next}
use Rattle.phases.specs.declared.outcomes.Next.TheVariants.{Run, Reply, Again, Finish, HangUp}
use Rattle.phases.specs.After.{after}
use Rattle.phases.specs.Lists.{Deed, Handles, Replies, End, is_spent, logging, deeds_after, deeds_from, phase_list, is_beginning}
use Rattle.phases.proofs.Follows.{left, first, Follows, follows}

left-some : (p : Phase) → 1 ≤ left p
left-some Rewrite = omega arith
left-some Access = omega arith
left-some Content = omega arith
left-some HeaderFilter = omega arith
left-some BodyFilter = omega arith
left-some Log = omega arith

if-short : (b : Bool) → length (if b then [] else Handles Log ∷ []) ≤ 1
if-short true = omega arith
if-short false = omega arith

logging-short : (sub : Bool) (o : Outcome) → length (logging sub o) ≤ 1
logging-short sub o = if-short (sub || is_spent o)

after-ends : (sub : Bool) (o : Outcome) (go : ℕ → Phase → List Deed) (n : ℕ) (p : Phase) (x : Next) → n ≤ 10 → Follows n p x
    → ((m : ℕ) (q : Phase) → m ≤ 10 → length (go m q) + 3 * m ≤ 32 + left q) → length (deeds_after sub o go n x) + 1 + 3 * n ≤ 32 + left p
after-ends sub o go n p (Run q) few f short = let l = short n q few in let w = f.0 in omega (arith, l, w)
after-ends sub o go n p Again few f short = let l = short (n + 1) Rewrite (omega (arith, f)) in let w = left-some p in omega (arith, l, w)
after-ends sub o go n p (Reply status) few f short = let l = logging-short sub o in let w = left-some p in omega (arith, l, w, few)
after-ends sub o go n p Finish few f short = let l = logging-short sub o in let w = left-some p in omega (arith, l, w, few)
after-ends sub o go n p HangUp few f short = let l = logging-short sub o in let w = left-some p in omega (arith, l, w, few)

ends-from : (sub : Bool) (n : ℕ) (p : Phase) (es : List End) → n ≤ 10 → length (deeds_from sub n p es) + 3 * n ≤ 32 + left p
ends-from sub n p [] few = let w = left-some p in omega (arith, w, few)
ends-from sub n p (e ∷ es) few =
    let l = after-ends sub e.1 (λ m q. deeds_from sub m q es) n p (after p sub e.0 n e.1) few (follows n p sub e.0 e.1) (λ m q. ends-from sub m q es) in
    omega (arith, l)

pub ends : (sub : Bool) (es : List End) → length (phase_list sub es) ≤ 35
ends sub es = let l = ends-from sub 0 Rewrite es (omega arith) in omega (arith, l)

-- how often a request begins
abbrev begun : List Deed → ℕ
begun ds = length (filter is_beginning ds)

head-begins : (p : Phase) (ds : List Deed) → begun (Handles p ∷ ds) ≡ begun ds + first p
head-begins Rewrite ds = omega arith
head-begins Access ds = omega arith
head-begins Content ds = omega arith
head-begins HeaderFilter ds = omega arith
head-begins BodyFilter ds = omega arith
head-begins Log ds = omega arith

if-begins : (b : Bool) → begun (if b then [] else Handles Log ∷ []) ≡ 0
if-begins true = refl
if-begins false = refl

logging-begins : (sub : Bool) (o : Outcome) → begun (logging sub o) ≡ 0
logging-begins sub o = if-begins (sub || is_spent o)

after-begins : (sub : Bool) (o : Outcome) (go : ℕ → Phase → List Deed) (n : ℕ) (p : Phase) (x : Next) → n ≤ 10 → Follows n p x
    → ((m : ℕ) (q : Phase) → m ≤ 10 → begun (go m q) + m ≤ 10 + first q) → begun (deeds_after sub o go n x) + n ≤ 10
after-begins sub o go n p (Run q) few f short = let l = short n q few in let w = f.1 in omega (arith, l, w)
after-begins sub o go n p Again few f short = let l = short (n + 1) Rewrite (omega (arith, f)) in omega (arith, l)
after-begins sub o go n p (Reply status) few f short = let l = logging-begins sub o in omega (arith, l, few)
after-begins sub o go n p Finish few f short = let l = logging-begins sub o in omega (arith, l, few)
after-begins sub o go n p HangUp few f short = let l = logging-begins sub o in omega (arith, l, few)

begins-from : (sub : Bool) (n : ℕ) (p : Phase) (es : List End) → n ≤ 10 → begun (deeds_from sub n p es) + n ≤ 10 + first p
begins-from sub n p [] few = let h = head-begins p [] in omega (arith, h, few)
begins-from sub n p (e ∷ es) few =
    let l = after-begins sub e.1 (λ m q. deeds_from sub m q es) n p (after p sub e.0 n e.1) few (follows n p sub e.0 e.1) (λ m q. begins-from sub m q es) in
    let h = head-begins p (deeds_after sub e.1 (λ m q. deeds_from sub m q es) n (after p sub e.0 n e.1)) in
    omega (arith, l, h)

pub begins : (sub : Bool) (es : List End) → length (filter is_beginning (phase_list sub es)) ≤ 11
begins sub es = let l = begins-from sub 0 Rewrite es (omega arith) in omega (arith, l)
