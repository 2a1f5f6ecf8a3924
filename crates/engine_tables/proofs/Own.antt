-- The numbers of deadlines, once that of one was put or taken out.
use Rattle.std.proofs.Common.{◌≡◌, ℕ, ◌+◌, ◌<◌, ◌==◌, ◌&&◌, Bool, true, false, cond, List, [], ◌∷◌, length, Option, Some, None, IfSome, is_some, if◌then◌else◌, nat_eq, refl, sym, ap, subst, ◌∙◌, arith}
use Rattle.std.specs.Map.{lookup}
use Rattle.indexmap.specs.IndexMap.{IndexMap, get}
use Rattle.resty_base.specs.contracts.names.StrandIdPartialEq.TheImpl as derived
use Rattle.resty_base.specs.declared.names.StrandId.{StrandId}
use Rattle.resty_world.specs.Ids.{same_strand}
use Rattle.resty_world.specs.IdLaws.{same_strand-eq, same_strand-self}
use Rattle.engine_tables.specs.Numbers.{number_in, count_in}
use Rattle.engine_tables.proofs.Strands.{same-by-eq}

module _ {H : Type 0} where
  -- what a strand has is what its name leads to
  same-own : (es : List (StrandId × IndexMap ℕ ℕ H)) (who s : StrandId) (own : IndexMap ℕ ℕ H) → lookup (derived.ghosts.eq who) es ≡ Some own → derived.ghosts.eq who s ≡ true → lookup (derived.ghosts.eq s) es ≡ Some own
  same-own es who s own found same = subst (λ (t : StrandId). lookup (derived.ghosts.eq t) es ≡ Some own) (same_strand-eq who s (sym (same-by-eq who s) ∙ same)) found

  -- the test by `==`, as the strands are the same
  by-name : (who s : StrandId) (j k : ℕ) (w : Option ℕ) (other : Option (IndexMap ℕ ℕ H)) → (if derived.ghosts.eq who s && (k == j) then w else number_in j other) ≡ (if same_strand who s && (k == j) then w else number_in j other)
  by-name who s j k w other = ap (λ b. if b && (k == j) then w else number_in j other) (same-by-eq who s)

  -- one strand's own numbers are changed at one
  at-written : (b : Bool) (j k : ℕ) (w : Option ℕ) (own own' : IndexMap ℕ ℕ H) (other : Option (IndexMap ℕ ℕ H)) → (b ≡ true → other ≡ Some own)
      → get nat_eq own' j ≡ (if k == j then w else get nat_eq own j) → number_in j (cond b (Some own') other) ≡ (if b && (k == j) then w else number_in j other)
  at-written true j k w own own' other f h = h ∙ ap (λ x. if k == j then w else x) (sym (ap (number_in j) (f refl)))
  at-written false j k w own own' other f h = refl

  at-added : (b : Bool) (j k : ℕ) (w : Option ℕ) (own : IndexMap ℕ ℕ H) (other : Option (IndexMap ℕ ℕ H)) → (b ≡ true → number_in j other ≡ None)
      → get nat_eq own j ≡ (if k == j then w else None) → number_in j (cond b (Some own) other) ≡ (if b && (k == j) then w else number_in j other)
  at-added true j k w own other f h = h ∙ ap (λ x. if k == j then w else x) (sym (f refl))
  at-added false j k w own other f h = refl

  at-emptied : (b : Bool) (j k : ℕ) (own own' : IndexMap ℕ ℕ H) (other : Option (IndexMap ℕ ℕ H)) → (b ≡ true → other ≡ Some own) → own'.entries ≡ []
      → get nat_eq own' j ≡ (if k == j then None else get nat_eq own j) → number_in j (cond b None (cond b (Some own') other)) ≡ (if b && (k == j) then None else number_in j other)
  at-emptied true j k own own' other f nil h = sym (ap (lookup (nat_eq j)) nil) ∙ h ∙ ap (λ x. if k == j then None else x) (sym (ap (number_in j) (f refl)))
  at-emptied false j k own own' other f nil h = refl

  at-kept : (b : Bool) (j : ℕ) (own own' : IndexMap ℕ ℕ H) (other : Option (IndexMap ℕ ℕ H)) → (b ≡ true → other ≡ Some own)
      → get nat_eq own' j ≡ get nat_eq own j → number_in j (cond b (Some own') other) ≡ number_in j other
  at-kept true j own own' other f h = h ∙ sym (ap (number_in j) (f refl))
  at-kept false j own own' other f h = refl

  -- one of a strand's numbers is put or taken out, and the strand's own are written
  pub written : (es : List (StrandId × IndexMap ℕ ℕ H)) (who s : StrandId) (j k : ℕ) (w : Option ℕ) (own own' : IndexMap ℕ ℕ H) (o : Option (IndexMap ℕ ℕ H))
      → lookup (derived.ghosts.eq who) es ≡ Some own → o ≡ cond (derived.ghosts.eq who s) (Some own') (lookup (derived.ghosts.eq s) es)
      → get nat_eq own' j ≡ (if k == j then w else get nat_eq own j)
      → number_in j o ≡ (if same_strand who s && (k == j) then w else number_in j (lookup (derived.ghosts.eq s) es))
  written es who s j k w own own' o found new h = ap (number_in j) new
      ∙ at-written (derived.ghosts.eq who s) j k w own own' (lookup (derived.ghosts.eq s) es) (same-own es who s own found) h ∙ by-name who s j k w (lookup (derived.ghosts.eq s) es)

  -- a strand that has none gets one
  pub added : (es : List (StrandId × IndexMap ℕ ℕ H)) (who s : StrandId) (j k : ℕ) (w : Option ℕ) (own : IndexMap ℕ ℕ H) (o : Option (IndexMap ℕ ℕ H))
      → ((i : ℕ) → number_in i (lookup (derived.ghosts.eq who) es) ≡ None) → o ≡ cond (derived.ghosts.eq who s) (Some own) (lookup (derived.ghosts.eq s) es)
      → get nat_eq own j ≡ (if k == j then w else None)
      → number_in j o ≡ (if same_strand who s && (k == j) then w else number_in j (lookup (derived.ghosts.eq s) es))
  added es who s j k w own o none new h = ap (number_in j) new
      ∙ at-added (derived.ghosts.eq who s) j k w own (lookup (derived.ghosts.eq s) es)
      (λ on. subst (λ (t : StrandId). number_in j (lookup (derived.ghosts.eq t) es) ≡ None) (same_strand-eq who s (sym (same-by-eq who s) ∙ on)) (none j)) h
      ∙ by-name who s j k w (lookup (derived.ghosts.eq s) es)

  -- a strand's last number is taken out, and the strand leaves
  pub emptied : (es : List (StrandId × IndexMap ℕ ℕ H)) (who s : StrandId) (j k : ℕ) (own own' : IndexMap ℕ ℕ H) (o mid : Option (IndexMap ℕ ℕ H))
      → lookup (derived.ghosts.eq who) es ≡ Some own → mid ≡ cond (derived.ghosts.eq who s) (Some own') (lookup (derived.ghosts.eq s) es) → o ≡ cond (derived.ghosts.eq who s) None mid → own'.entries ≡ []
      → get nat_eq own' j ≡ (if k == j then None else get nat_eq own j)
      → number_in j o ≡ (if same_strand who s && (k == j) then None else number_in j (lookup (derived.ghosts.eq s) es))
  emptied es who s j k own own' o mid found middle new nil h = ap (number_in j) (new ∙ ap (cond (derived.ghosts.eq who s) None) middle)
      ∙ at-emptied (derived.ghosts.eq who s) j k own own' (lookup (derived.ghosts.eq s) es) (same-own es who s own found) nil h ∙ by-name who s j k None (lookup (derived.ghosts.eq s) es)

  -- nothing is changed
  pub unchanged : (es : List (StrandId × IndexMap ℕ ℕ H)) (who s : StrandId) (j : ℕ) (own own' : IndexMap ℕ ℕ H) (o : Option (IndexMap ℕ ℕ H))
      → lookup (derived.ghosts.eq who) es ≡ Some own → o ≡ cond (derived.ghosts.eq who s) (Some own') (lookup (derived.ghosts.eq s) es)
      → get nat_eq own' j ≡ get nat_eq own j → number_in j o ≡ number_in j (lookup (derived.ghosts.eq s) es)
  unchanged es who s j own own' o found new h = ap (number_in j) new ∙ at-kept (derived.ghosts.eq who s) j own own' (lookup (derived.ghosts.eq s) es) (same-own es who s own found) h

pub own-same : (who : StrandId) → derived.ghosts.eq who who ≡ true
own-same who = same-by-eq who who ∙ same_strand-self who

-- how many a strand has, once its own numbers are written, or it left
pub count-written : {H : Type 0} (who : StrandId) (own' : IndexMap ℕ ℕ H) (o other : Option (IndexMap ℕ ℕ H)) → o ≡ cond (derived.ghosts.eq who who) (Some own') other → count_in o ≡ length own'.entries
count-written who own' o other new = ap count_in (new ∙ ap (λ b. cond b (Some own') other) (own-same who))

pub count-emptied : {H : Type 0} (who : StrandId) (o mid : Option (IndexMap ℕ ℕ H)) → o ≡ cond (derived.ghosts.eq who who) None mid → count_in o ≡ 0
count-emptied who o mid new = ap count_in (new ∙ ap (λ b. cond b None mid) (own-same who))

-- one that was taken out is counted no more
pub fewer : (r : Option ℕ) (old new count before : ℕ) → count ≡ new → before ≡ old → new + (if is_some r then 1 else 0) ≡ old → IfSome r (λ n. count < before)
fewer None old new count before e f h = tt
fewer (Some n) old new count before e f h = omega (arith, e, f, h)
