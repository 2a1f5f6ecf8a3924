-- How the deadlines of strands go on being kept, as one is armed, cancelled or due.
use Rattle.std.proofs.Common.{◌≡◌, ℕ, ◌+◌, ◌<◌, ◌≤◌, ◌==◌, ◌&&◌, Bool, true, false, cond, List, [], ◌∷◌, ◌++◌, Option, Some, None, nat_eq, if◌then◌else◌, refl, sym, ap, subst, ◌∙◌, arith, rules}
use Rattle.std.proofs.lemmas.Bool.{eq-eqb, eqb-true, and_parts}
use Rattle.std.proofs.lemmas.Bool.Decides.{nat_tests}
use Rattle.std.specs.List.{AllByRecursion}
use Rattle.std.specs.Map.{remove_entry}
use Rattle.resty_base.specs.declared.names.Ms.{Ms}
use Rattle.resty_base.specs.declared.names.StrandId.{StrandId}
use Rattle.resty_base.specs.declared.names.StrandId.TheVariants as strand
use Rattle.resty_base.specs.BoolLaws.{by_test, clash}
use Rattle.resty_world.specs.Ids.{same_strand}
use Rattle.resty_world.specs.IdLaws.{same_strand-eq}
use Rattle.wakes.specs.declared.deadlines.Whose.{Whose as Owner}
use Rattle.wakes.specs.declared.deadlines.Whose.TheVariants as owner
use Rattle.wakes.specs.Times.{Deadline, DeadlinesView, armed_with}
use Rattle.executions.specs.Agenda.{Whose, OfStrand, without_one, without_those, is_number, is_of}
use Rattle.engine_tables.specs.Agenda.{whose_of, agenda_of}
use Rattle.engine_tables.specs.Numbers.{changed}
use Rattle.engine_tables.specs.Kept.{is_strands, is_the, IsFound, Rises, IsKept, disarmed}

unequal : (x y : ℕ) → x < y → (x == y) ≡ false
unequal x y h = search (nat_tests, rules)

above : (x y : ℕ) → y < x → (x == y) ≡ false
above x y h = search (nat_tests, rules)

same-swapped : (x y : ℕ) → (x == y) ≡ (y == x)
same-swapped x y = search (nat_tests, rules)

strand-swapped : (s t : StrandId) → same_strand s t ≡ same_strand t s
strand-swapped (strand.Conn c) (strand.Conn d) = same-swapped c d
strand-swapped (strand.Job n) (strand.Job m) = same-swapped n m
strand-swapped (strand.Conn c) (strand.Job m) = refl
strand-swapped (strand.Job n) (strand.Conn d) = refl

-- numbers that rise from above one have none up to it
below-out : (low last n : ℕ) (ds : List Deadline) → Rises low ds last → n ≤ low → AllByRecursion (λ d. (n == d.0) ≡ false) ds
below-out low last n [] r l = tt
below-out low last n (d ∷ ds) r l = (unequal n d.0 (omega (arith, l, r.0)), below-out d.0 last n ds r.1 (omega (arith, l, r.0)))

rises-from : (low lower last : ℕ) (ds : List Deadline) → lower ≤ low → Rises low ds last → Rises lower ds last
rises-from low lower last [] l r = omega (arith, l, r)
rises-from low lower last (d ∷ ds) l r = (omega (arith, l, r.0), r.1)

rises-to : (low last more : ℕ) (ds : List Deadline) → last ≤ more → Rises low ds last → Rises low ds more
rises-to low last more [] l r = omega (arith, l, r)
rises-to low last more (d ∷ ds) l r = (r.0, rises-to d.0 last more ds l r.1)

-- none is above the last
none-above : (low last : ℕ) (ds : List Deadline) → Rises low ds last → low ≤ last
none-above low last [] r = r
none-above low last (d ∷ ds) r = let l = none-above d.0 last ds r.1 in omega (arith, l, r.0)

all-upto : (low last : ℕ) (ds : List Deadline) → Rises low ds last → AllByRecursion (λ d. d.0 ≤ last) ds
all-upto low last [] r = tt
all-upto low last (d ∷ ds) r = (none-above d.0 last ds r.1, all-upto d.0 last ds r.1)

rises-with : (low last : ℕ) (ds : List Deadline) (d : Deadline) → d.0 ≡ last + 1 → Rises low ds last → Rises low (ds ++ d ∷ []) (last + 1)
rises-with low last [] d e r = (omega (arith, e, r), omega (arith, e))
rises-with low last (f ∷ ds) d e r = (r.0, rises-with f.0 last ds d e r.1)

out-rises : (n low last : ℕ) (ds : List Deadline) → Rises low ds last → Rises low (remove_entry (nat_eq n) ds) last
out-rises n low last [] r = r
out-rises n low last (d ∷ ds) r = step (n == d.0) (out-rises n d.0 last ds r.1)
  where
    step : (b : Bool) → Rises d.0 (remove_entry (nat_eq n) ds) last → Rises low (cond b ds (d ∷ remove_entry (nat_eq n) ds)) last
    step true ih = rises-from d.0 low last ds (omega (arith, r.0)) r.1
    step false ih = (r.0, ih)

out-gone : (n low last : ℕ) (ds : List Deadline) → Rises low ds last → AllByRecursion (λ d. (n == d.0) ≡ false) (remove_entry (nat_eq n) ds)
out-gone n low last [] r = tt
out-gone n low last (d ∷ ds) r = step (n == d.0) refl (out-gone n d.0 last ds r.1)
  where
    step : (b : Bool) → (n == d.0) ≡ b → AllByRecursion (λ (e : Deadline). (n == e.0) ≡ false) (remove_entry (nat_eq n) ds) → AllByRecursion (λ (e : Deadline). (n == e.0) ≡ false) (cond b ds (d ∷ remove_entry (nat_eq n) ds))
    step true e ih = let same = eqb-true n d.0 e in below-out d.0 last n ds r.1 (omega (arith, same))
    step false e ih = (e, ih)

out-all : (P : Deadline → Type 0) (n : ℕ) (ds : List Deadline) → AllByRecursion P ds → AllByRecursion P (remove_entry (nat_eq n) ds)
out-all P n [] h = tt
out-all P n (d ∷ ds) h = step (n == d.0) (out-all P n ds h.1)
  where
    step : (b : Bool) → AllByRecursion P (remove_entry (nat_eq n) ds) → AllByRecursion P (cond b ds (d ∷ remove_entry (nat_eq n) ds))
    step true ih = h.1
    step false ih = (h.0, ih)

with-all : (P : Deadline → Type 0) (ds : List Deadline) (d : Deadline) → AllByRecursion P ds → P d → AllByRecursion P (ds ++ d ∷ [])
with-all P [] d h p = (p, tt)
with-all P (e ∷ ds) d h p = (h.0, with-all P ds d h.1 p)

-- what was armed last goes out again
out-last : (n : ℕ) (ds : List Deadline) (d : Deadline) → (n == d.0) ≡ true → AllByRecursion (λ e. (n == e.0) ≡ false) ds → remove_entry (nat_eq n) (ds ++ d ∷ []) ≡ ds
out-last n [] d same h = ap (λ b. cond b [] (d ∷ [])) same
out-last n (e ∷ ds) d same h = ap (λ b. cond b (ds ++ d ∷ []) (e ∷ remove_entry (nat_eq n) (ds ++ d ∷ []))) h.0 ∙ ap (λ l. e ∷ l) (out-last n ds d same h.1)

both-all : {P Q R : Deadline → Type 0} (ds : List Deadline) → ((d : Deadline) → P d → Q d → R d) → AllByRecursion P ds → AllByRecursion Q ds → AllByRecursion R ds
both-all [] f p q = tt
both-all (d ∷ ds) f p q = (f d p.0 q.0, both-all ds f p.1 q.1)

each-all : {P R : Deadline → Type 0} (ds : List Deadline) → ((d : Deadline) → P d → R d) → AllByRecursion P ds → AllByRecursion R ds
each-all [] f p = tt
each-all (d ∷ ds) f p = (f d p.0, each-all ds f p.1)

-- tests that agree take the same out
same-out : (n : ℕ) (is_so : Whose → Bool) (ds : List Deadline) → AllByRecursion (λ d. is_so (whose_of d.1.whose) ≡ (n == d.0)) ds → without_one is_so (agenda_of ds) ≡ agenda_of (remove_entry (nat_eq n) ds)
same-out n is_so [] h = refl
same-out n is_so (d ∷ ds) h = step (is_so (whose_of d.1.whose)) (n == d.0) h.0 (same-out n is_so ds h.1)
  where
    step : (b c : Bool) → b ≡ c → without_one is_so (agenda_of ds) ≡ agenda_of (remove_entry (nat_eq n) ds)
        → (if b then agenda_of ds else (whose_of d.1.whose, d.1.at.0) ∷ without_one is_so (agenda_of ds)) ≡ agenda_of (cond c ds (d ∷ remove_entry (nat_eq n) ds))
    step true true e ih = refl
    step false false e ih = ap (λ l. (whose_of d.1.whose, d.1.at.0) ∷ l) ih
    step true false e ih = clash refl e
    step false true e ih = clash e refl

-- what isn't there isn't taken out
none-out : (is_so : Whose → Bool) (ds : List Deadline) → AllByRecursion (λ d. is_so (whose_of d.1.whose) ≡ false) ds → without_one is_so (agenda_of ds) ≡ agenda_of ds
none-out is_so [] h = refl
none-out is_so (d ∷ ds) h = ap (λ b. if b then agenda_of ds else (whose_of d.1.whose, d.1.at.0) ∷ without_one is_so (agenda_of ds)) h.0 ∙ ap (λ l. (whose_of d.1.whose, d.1.at.0) ∷ l) (none-out is_so ds h.1)

none-of : (is_so : Whose → Bool) (ds : List Deadline) → AllByRecursion (λ d. is_so (whose_of d.1.whose) ≡ false) ds → without_those is_so (agenda_of ds) ≡ agenda_of ds
none-of is_so [] h = refl
none-of is_so (d ∷ ds) h = ap (λ b. if b then without_those is_so (agenda_of ds) else (whose_of d.1.whose, d.1.at.0) ∷ without_those is_so (agenda_of ds)) h.0 ∙ ap (λ l. (whose_of d.1.whose, d.1.at.0) ∷ l) (none-of is_so ds h.1)

agenda-with : (ds : List Deadline) (d : Deadline) → agenda_of (ds ++ d ∷ []) ≡ agenda_of ds ++ (whose_of d.1.whose, d.1.at.0) ∷ []
agenda-with [] d = refl
agenda-with (e ∷ ds) d = ap (λ l. (whose_of e.1.whose, e.1.at.0) ∷ l) (agenda-with ds d)

module _ (numbers numbers' : StrandId → ℕ → Option ℕ) (v : DeadlinesView) (who : StrandId) (k : ℕ) (kept : IsKept numbers v) where
  -- the numbers of this deadline and of all others
  at-number : (w : Option ℕ) → ((s : StrandId) (j : ℕ) → numbers' s j ≡ changed who k w numbers s j) → (P : StrandId → ℕ → Option ℕ → Type 0) → P who k w → ((s : StrandId) (j : ℕ) → P s j (numbers s j)) → (s : StrandId) (j : ℕ) → P s j (numbers' s j)
  at-number w change P here others s j = by_test (same_strand who s && (k == j))
      (λ on. let t = and_parts (same_strand who s) (k == j) on in
      subst (P s j) (sym (change s j ∙ ap (λ b. if b then w else numbers s j) on)) (subst (λ (i : ℕ). P s i w) (eqb-true k j t.1) (subst (λ (x : StrandId). P x k w) (same_strand-eq who s t.0) here)))
      (λ off. subst (P s j) (sym (change s j ∙ ap (λ b. if b then w else numbers s j) off)) (others s j))

  pub cancelled : ((s : StrandId) (j : ℕ) → numbers' s j ≡ changed who k None numbers s j)
      → IsKept numbers' (disarmed (numbers who k) v) × (agenda_of (disarmed (numbers who k) v).armed ≡ without_one (is_number who k) (agenda_of v.armed))
  cancelled change = by-number (numbers who k) refl
    where
      given : (s : StrandId) (j n : ℕ) → numbers' s j ≡ Some n → n ≤ v.last
      given s j n = at-number None change (λ t i o. o ≡ Some n → n ≤ v.last) (λ e. absurd (let f : None ≡ Some n = e in cc)) (λ t i. kept.given t i n) s j

      by-number : (o : Option ℕ) → numbers who k ≡ o → IsKept numbers' (disarmed o v) × (agenda_of (disarmed o v).armed ≡ without_one (is_number who k) (agenda_of v.armed))
      by-number None e = (
        record {
          each = each-all v.armed (λ d f. record {
            strands = f.strands;
            found = at-number None change (λ t i o. is_number t i (whose_of d.1.whose) ≡ is_the o d.0) (f.found who k ∙ ap (λ o. is_the o d.0) e) f.found;
          }) kept.each;
          rising = kept.rising;
          given = given;
        },
        sym (none-out (is_number who k) v.armed (each-all v.armed (λ d f. f.found who k ∙ ap (λ o. is_the o d.0) e) kept.each)),
      )
      by-number (Some n) e = (
        record {
          each = both-all (remove_entry (nat_eq n) v.armed) (λ d f off. record {
            strands = f.strands;
            found = at-number None change (λ t i o. is_number t i (whose_of d.1.whose) ≡ is_the o d.0) (f.found who k ∙ ap (λ o. is_the o d.0) e ∙ off) f.found;
          }) (out-all (IsFound numbers) n v.armed kept.each) (out-gone n 0 v.last v.armed kept.rising);
          rising = out-rises n 0 v.last v.armed kept.rising;
          given = given;
        },
        sym (same-out n (is_number who k) v.armed (each-all v.armed (λ d f. f.found who k ∙ ap (λ o. is_the o d.0) e) kept.each)),
      )

  pub armed-more : (at : Ms) → numbers who k ≡ None → ((s : StrandId) (j : ℕ) → numbers' s j ≡ changed who k (Some (v.last + 1)) numbers s j) → IsKept numbers' (armed_with v at (owner.Strand who k))
  armed-more at none change = record {
    each = with-all (IsFound numbers') v.armed (v.last + 1, record { at = at; whose = owner.Strand who k })
        (both-all v.armed (λ d f l. record {
          strands = f.strands;
          found = at-number (Some (v.last + 1)) change (λ t i o. is_number t i (whose_of d.1.whose) ≡ is_the o d.0) (f.found who k ∙ ap (λ o. is_the o d.0) none ∙ sym (above (v.last + 1) d.0 (omega (arith, l)))) f.found;
        }) kept.each (all-upto 0 v.last v.armed kept.rising))
        (record { strands = refl; found = λ s j. new-found s j (numbers s j) refl ∙ sym (ap (λ o. is_the o (v.last + 1)) (change s j)) });
    rising = rises-with 0 v.last v.armed (v.last + 1, record { at = at; whose = owner.Strand who k }) refl kept.rising;
    given = λ s j n. at-number (Some (v.last + 1)) change (λ t i o. o ≡ Some n → n ≤ v.last + 1) (λ e. let same : v.last + 1 ≡ n = cc in omega (arith, same)) (λ t i e. let l = kept.given t i n e in omega (arith, l)) s j;
  }
    where
      above-all : (o : Option ℕ) → ((n : ℕ) → o ≡ Some n → n ≤ v.last) → is_the o (v.last + 1) ≡ false
      above-all None h = refl
      above-all (Some n) h = let l = h n refl in unequal n (v.last + 1) (omega (arith, l))

      pick : (b : Bool) (o : Option ℕ) → is_the o (v.last + 1) ≡ false → b ≡ is_the (if b then Some (v.last + 1) else o) (v.last + 1)
      pick true o h = sym (eq-eqb (v.last + 1) (v.last + 1) refl)
      pick false o h = sym h

      new-found : (s : StrandId) (j : ℕ) (o : Option ℕ) → numbers s j ≡ o → (same_strand s who && (j == k)) ≡ is_the (if same_strand who s && (k == j) then Some (v.last + 1) else numbers s j) (v.last + 1)
      new-found s j o e = ap (λ b. b && (j == k)) (strand-swapped s who) ∙ ap (λ b. same_strand who s && b) (same-swapped j k)
          ∙ pick (same_strand who s && (k == j)) (numbers s j) (above-all (numbers s j) (λ n. kept.given s j n))

-- one that was armed goes out again
pub undone : (numbers numbers' : StrandId → ℕ → Option ℕ) (v : DeadlinesView) (at : Ms) (whose : Owner) → IsKept numbers v → ((s : StrandId) (j : ℕ) → numbers' s j ≡ numbers s j)
    → IsKept numbers' (disarmed (Some (v.last + 1)) (armed_with v at whose)) × ((disarmed (Some (v.last + 1)) (armed_with v at whose)).armed ≡ v.armed)
undone numbers numbers' v at whose kept same = (
  record {
    each = subst (AllByRecursion (IsFound numbers')) (sym back) (each-all v.armed (λ d f. record { strands = f.strands; found = λ s j. f.found s j ∙ sym (ap (λ o. is_the o d.0) (same s j)) }) kept.each);
    rising = subst (λ (ds : List Deadline). Rises 0 ds (v.last + 1)) (sym back) (rises-to 0 v.last (v.last + 1) v.armed (omega arith) kept.rising);
    given = λ s j n e. let l = kept.given s j n (sym (same s j) ∙ e) in omega (arith, l);
  },
  back,
)
  where
    back : remove_entry (nat_eq (v.last + 1)) (v.armed ++ (v.last + 1, record { at = at; whose = whose }) ∷ []) ≡ v.armed
    back = out-last (v.last + 1) v.armed (v.last + 1, record { at = at; whose = whose }) (eq-eqb (v.last + 1) (v.last + 1) refl) (each-all v.armed (λ d l. above (v.last + 1) d.0 (omega (arith, l))) (all-upto 0 v.last v.armed kept.rising))

pub armed-agenda : (v : DeadlinesView) (at : Ms) (whose : Owner) → agenda_of (armed_with v at whose).armed ≡ agenda_of v.armed ++ (whose_of whose, at.0) ∷ []
armed-agenda v at whose = agenda-with v.armed (v.last + 1, record { at = at; whose = whose })

-- a deadline of a strand leaves with the strand's others, and before them
pub those-one : (who : StrandId) (k : ℕ) (l : List (Whose × ℕ)) → without_those (is_of who) (without_one (is_number who k) l) ≡ without_those (is_of who) l
those-one who k [] = refl
those-one who k (d ∷ l) = step (is_number who k d.0) refl (those-one who k l)
  where
    of-strand : (w : Whose) → is_number who k w ≡ true → is_of who w ≡ true
    of-strand (OfStrand t j) h = (and_parts (same_strand who t) (k == j) h).0
    of-strand w h = absurd (let e : false ≡ true = h in cc)

    step : (b : Bool) → is_number who k d.0 ≡ b → without_those (is_of who) (without_one (is_number who k) l) ≡ without_those (is_of who) l
        → without_those (is_of who) (if b then l else d ∷ without_one (is_number who k) l) ≡ (if is_of who d.0 then without_those (is_of who) l else d ∷ without_those (is_of who) l)
    step true e ih = sym (ap (λ c. if c then without_those (is_of who) l else d ∷ without_those (is_of who) l) (of-strand d.0 e))
    step false e ih = ap (λ x. if is_of who d.0 then x else d ∷ x) ih

-- where a strand has no number left, it has no deadline
pub none-left : (numbers : StrandId → ℕ → Option ℕ) (v : DeadlinesView) (who : StrandId) → IsKept numbers v → ((k : ℕ) → numbers who k ≡ None) → without_those (is_of who) (agenda_of v.armed) ≡ agenda_of v.armed
none-left numbers v who kept none = none-of (is_of who) v.armed (each-all v.armed (λ d f. off d.1.whose d.0 f.strands (f.found who)) kept.each)
  where
    off : (w : Owner) (n : ℕ) → is_strands w ≡ true → ((k : ℕ) → is_number who k (whose_of w) ≡ is_the (numbers who k) n) → is_of who (whose_of w) ≡ false
    off (owner.Strand t j) n s f = by_test (same_strand who t)
        (λ on. clash (ap (λ b. b && (j == j)) on ∙ eq-eqb j j refl) (f j ∙ ap (λ o. is_the o n) (none j)))
        (λ no. no)
    off (owner.Job j) n s f = absurd (let e : false ≡ true = s in cc)
    off (owner.Idle i) n s f = absurd (let e : false ≡ true = s in cc)

-- what is kept once a strand's number is taken out, and the deadline of it
pub left-of : (numbers numbers' : StrandId → ℕ → Option ℕ) (v v' : DeadlinesView) (who : StrandId) (k : ℕ) → IsKept numbers v → ((s : StrandId) (j : ℕ) → numbers' s j ≡ changed who k None numbers s j) → v' ≡ disarmed (numbers who k) v
    → IsKept numbers' v' × (agenda_of v'.armed ≡ without_one (is_number who k) (agenda_of v.armed))
left-of numbers numbers' v v' who k kept change is =
    let m = cancelled numbers numbers' v who k kept change in
    (subst (IsKept numbers') (sym is) m.0, ap (λ (w : DeadlinesView). agenda_of w.armed) is ∙ m.1)

pub none-kept : (numbers : StrandId → ℕ → Option ℕ) (v : DeadlinesView) → ((s : StrandId) (j : ℕ) → numbers s j ≡ None) → v ≡ record { armed = []; last = 0 } → IsKept numbers v
none-kept numbers v none is = subst (IsKept numbers) (sym is) (record {
  each = tt;
  rising = omega arith;
  given = λ s k n e. absurd (let f : None ≡ Some n = sym (none s k) ∙ e in cc);
})
