-- How ids and jobs stand, as one comes, changes or goes.
use Rattle.std.proofs.Common.{◌≡◌, ℕ, Bool, true, false, eqb, nat_eq, List, [], ◌∷◌, Option, Some, unwrap_or, cond, refl, sym, ap, ◌∙◌}
use Rattle.std.specs.Bool.{if◌then◌else◌}
use Rattle.std.specs.List.{list_any}
use Rattle.std.specs.Map.{lookup}
use Rattle.std.specs.Prelude.{◌||◌}
use Rattle.std.proofs.lemmas.Bool.{eqb-true}
use Rattle.resty_base.specs.contracts.names.IdPartialEq.TheImpl as derived
use Rattle.resty_base.specs.declared.names.Id.{Id}
use Rattle.resty_base.specs.declared.names.Id.TheVariants as id
use Rattle.resty_base.specs.BoolLaws.{by_test}
use Rattle.resty_world.specs.Ids.{same_id}
use Rattle.live_world.specs.declared.standings.Standing.{Standing}
use Rattle.live_world.specs.Standings.{nothing, kept_at, standing_at, has_job}

-- what `==` returns is whether the two are the same
same-by-eq : (x y : Id) → derived.ghosts.eq x y ≡ same_id x y
same-by-eq (id.Conn c) (id.Conn d) = refl
same-by-eq (id.Sock n) (id.Sock m) = refl
same-by-eq (id.Conn c) (id.Sock m) = refl
same-by-eq (id.Sock n) (id.Conn d) = refl

eqb-turned : (n m : ℕ) → eqb n m ≡ eqb m n
eqb-turned n m = by_test (eqb n m)
    (λ on. ap (λ k. eqb n k) (sym (eqb-true n m on)) ∙ ap (λ k. eqb k n) (eqb-true n m on))
    (λ off. by_test (eqb m n) (λ on. ap (λ k. eqb k m) (sym (eqb-true m n on)) ∙ ap (λ k. eqb m k) (eqb-true m n on)) (λ no. off ∙ sym no))

pub same-turned : (x y : Id) → same_id x y ≡ same_id y x
same-turned (id.Conn c) (id.Conn d) = eqb-turned c d
same-turned (id.Sock n) (id.Sock m) = eqb-turned n m
same-turned (id.Conn c) (id.Sock m) = refl
same-turned (id.Sock n) (id.Conn d) = refl

-- what a map has of an id
pub kept-lookup : (x : Id) (es : List (Id × Standing)) → kept_at es x ≡ lookup (derived.ghosts.eq x) es
kept-lookup x [] = refl
kept-lookup x (e ∷ es) =
    ap (λ b. if b then Some e.1 else kept_at es x) (sym (same-by-eq x e.0))
    ∙ ap (λ o. if derived.ghosts.eq x e.0 then Some e.1 else o) (kept-lookup x es)

unwrapped : (b : Bool) (w o : Option Standing) → unwrap_or (if b then w else o) nothing ≡ (if b then unwrap_or w nothing else unwrap_or o nothing)
unwrapped true w o = refl
unwrapped false w o = refl

-- a map after one id came, changed or went
pub kept-updated : (x i : Id) (inside old new : List (Id × Standing)) (w : Option Standing) → inside ≡ old
    → lookup (derived.ghosts.eq x) new ≡ cond (derived.ghosts.eq i x) w (lookup (derived.ghosts.eq x) inside)
    → standing_at new x ≡ (if same_id x i then unwrap_or w nothing else standing_at old x)
kept-updated x i inside old new w same is =
    ap (λ o. unwrap_or o nothing) (kept-lookup x new ∙ is
    ∙ ap (λ b. cond b w (lookup (derived.ghosts.eq x) inside)) (same-by-eq i x ∙ same-turned i x)
    ∙ ap (λ o. if same_id x i then w else o) (sym (kept-lookup x inside) ∙ ap (λ es. kept_at es x) same))
    ∙ unwrapped (same_id x i) w (kept_at old x)

either : (b c : Bool) → (if b then true else c) ≡ (b || c)
either true c = refl
either false c = refl

-- what a set has of a job
pub job-any : (n : ℕ) (jobs : List ℕ) → has_job jobs n ≡ list_any (nat_eq n) jobs
job-any n [] = refl
job-any n (m ∷ ms) = ap (λ b. if nat_eq n m then true else b) (job-any n ms) ∙ either (nat_eq n m) (list_any (nat_eq n) ms)

-- a set after one job came or went
pub job-updated : (n m : ℕ) (inside old new : List ℕ) (is_in : Bool) → inside ≡ old
    → list_any (nat_eq n) new ≡ (if nat_eq m n then is_in else list_any (nat_eq n) inside)
    → has_job new n ≡ (if nat_eq n m then is_in else has_job old n)
job-updated n m inside old new is_in same is =
    job-any n new ∙ is ∙ ap (λ b. if b then is_in else list_any (nat_eq n) inside) (eqb-turned m n)
    ∙ ap (λ b. if nat_eq n m then is_in else b) (sym (job-any n inside) ∙ ap (λ js. has_job js n) same)
