-- An execution is determined by what came from outside.
use Rattle.std.proofs.Common.{◌≡◌, ◌⊎◌, inl, inr, ℕ, zero, suc, ◌+◌, ◌≤◌, true, false, List, [], ◌∷◌, ◌++◌, Some, length, refl, sym, ap, subst, ◌∙◌, arith}
use Rattle.resty_base.specs.BoolLaws.{by_test, clash}
use Rattle.strand_contract.specs.Actions.{Dropped, LocalAction, Did}
use Rattle.strand_contract.specs.Behaviors.{Behavior}
use Rattle.strand_contract.specs.Alone.{was_dropped, IsExecution, IsQuiescent}
use Rattle.strand_contract.specs.Laws.{IsQuiet}
use Rattle.execution_laws.specs.StrandInputs.{Input, inputs_of, gave}
use Rattle.execution_laws.proofs.OwnSteps.{is_own, tail-whole, own-is, IsStill, still-given, still-at-rest}
use Rattle.execution_laws.proofs.Given.{Means, means, same-action, gave-own}

flip : {A B : Type 0} → A ⊎ B → B ⊎ A
flip (inl a) = inr a
flip (inr b) = inl b

module _ {J : Type 0} where
  -- es goes on from ds by the strand's own actions
  data GoesOn : List (LocalAction J) → List (LocalAction J) → Type 0 where
    here : {ds : List (LocalAction J)} → GoesOn ds ds
    more : {ds es : List (LocalAction J)} {a : LocalAction J} → is_own a ≡ true → GoesOn ds es → GoesOn ds (a ∷ es)

  first : {ds es : List (LocalAction J)} → GoesOn ds es → (ds ≡ es) ⊎ ((a : LocalAction J) × (is_own a ≡ true) × GoesOn (a ∷ ds) es)
  first here = inl refl
  first {es = a ∷ es} (more own r) = elim (first r) [
    | inl e ↦ inr (a, own, subst (λ (l : List (LocalAction J)). GoesOn (a ∷ l) (a ∷ es)) (sym e) here)
    | inr w ↦ inr (w.0, w.1, more own w.2)
  ]

  earlier : (b : Behavior J) {ds es : List (LocalAction J)} → GoesOn ds es → IsExecution b es → IsExecution b ds
  earlier b here f = f
  earlier b (more own r) f = earlier b r f.0

  head-whole : (a : LocalAction J) (es : List (LocalAction J)) → was_dropped (a ∷ es) ≡ false → a ≡ Did Dropped → ⊥
  head-whole a es w e = clash refl (subst (λ (x : LocalAction J). was_dropped (x ∷ es) ≡ false) e w)

  -- a strand that does nothing by itself doesn't go on by itself
  stays : (b : Behavior J) {ds es : List (LocalAction J)} → IsStill b ds → IsExecution b es → GoesOn ds es → ds ≡ es
  stays b still f r = elim (first r) [ inl e ↦ e | inr w ↦ absurd (still w.0 (earlier b w.2 f).1 w.1) ]

  -- one more action of its own on one side
  grow : (b : Behavior J) → IsQuiet b → (a : LocalAction J) (ds es : List (LocalAction J)) → was_dropped es ≡ false → IsExecution b ds → IsExecution b (a ∷ es) → is_own a ≡ true
      → GoesOn ds es ⊎ GoesOn es ds → GoesOn ds (a ∷ es) ⊎ GoesOn (a ∷ es) ds
  grow b quiet a ds es w f g own (inl r) = inl (more own r)
  grow b quiet a ds es w f g own (inr r) = elim (first r) [
    | inl e ↦ inl (more own (subst (λ (l : List (LocalAction J)). GoesOn l es) e here))
    | inr v ↦
        let next : Some v.0 ≡ Some a = sym (own-is b quiet es v.0 g.0 w (earlier b v.2 f).1 v.1) ∙ own-is b quiet es a g.0 w g.1 own in
        let same : v.0 ≡ a = cc in
        inr (subst (λ (x : LocalAction J). GoesOn (x ∷ es) ds) same v.2)
  ]

  -- where something came from outside on both sides, both stood at the same point
  both : (b : Behavior J) → IsQuiet b → (x y : LocalAction J) (ds es : List (LocalAction J)) → was_dropped (x ∷ ds) ≡ false → was_dropped (y ∷ es) ≡ false → IsExecution b (x ∷ ds) → IsExecution b (y ∷ es)
      → is_own x ≡ false → is_own y ≡ false → GoesOn ds es ⊎ GoesOn es ds → ds ≡ es
  both b quiet x y ds es v w f g p q (inl r) = stays b (still-given b quiet ds x f.0 (tail-whole x ds v) f.1 p (head-whole x ds v)) g.0 r
  both b quiet x y ds es v w f g p q (inr r) = sym (stays b (still-given b quiet es y g.0 (tail-whole y es w) g.1 q (head-whole y es w)) f.0 r)

  joined : (x y : List (Input J)) (p q : Input J) (xs ys : List (Input J)) → x ≡ p ∷ [] → y ≡ q ∷ [] → x ++ xs ≡ y ++ ys → (x ≡ y) × (xs ≡ ys)
  joined x y p q xs ys e f g =
      let c : p ∷ xs ≡ q ∷ ys = ap (λ l. l ++ xs) (sym e) ∙ g ∙ ap (λ l. l ++ ys) f in
      let heads : p ≡ q = cc in
      let tails : xs ≡ ys = cc in
      (e ∙ ap (λ g. g ∷ []) heads ∙ sym f, tails)

  gave-some : {C : Type 0} (b : Behavior J) (a : LocalAction J) (es ds : List (LocalAction J)) → Means b es a → [] ≡ gave (a ∷ es) → C
  gave-some b a es ds m e = absurd (let c : [] ≡ m.input ∷ gave es = e ∙ ap (λ l. l ++ gave es) m.is in cc)

  same-gave : (n : ℕ) (b : Behavior J) → IsQuiet b → (ds es : List (LocalAction J)) → length ds + length es ≤ n → IsExecution b ds → IsExecution b es
      → was_dropped ds ≡ false → was_dropped es ≡ false → gave ds ≡ gave es → GoesOn ds es ⊎ GoesOn es ds
  same-gave n b quiet [] [] k f g v w e = inl here
  same-gave zero b quiet (x ∷ ds) es k f g v w e = absurd (omega arith)
  same-gave zero b quiet [] (y ∷ es) k f g v w e = absurd (omega arith)
  same-gave (suc n) b quiet [] (y ∷ es) k f g v w e = by_test (is_own y)
      (λ own. grow b quiet y [] es (tail-whole y es w) f g own (same-gave n b quiet [] es (omega arith) f g.0 v (tail-whole y es w) (e ∙ gave-own y es own)))
      (λ own. gave-some b y es [] (means b es y g.1 own (head-whole y es w)) e)
  same-gave (suc n) b quiet (x ∷ ds) [] k f g v w e = by_test (is_own x)
      (λ own. flip (grow b quiet x [] ds (tail-whole x ds v) g f own (flip (same-gave n b quiet ds [] (omega arith) f.0 g (tail-whole x ds v) w (sym (gave-own x ds own) ∙ e)))))
      (λ own. gave-some b x ds [] (means b ds x f.1 own (head-whole x ds v)) (sym e))
  same-gave (suc n) b quiet (x ∷ ds) (y ∷ es) k f g v w e = by_test (is_own x)
      (λ own. flip (grow b quiet x (y ∷ es) ds (tail-whole x ds v) g f own (flip (same-gave n b quiet ds (y ∷ es) (omega arith) f.0 g (tail-whole x ds v) w (sym (gave-own x ds own) ∙ e)))))
      (λ p. by_test (is_own y)
      (λ own. grow b quiet y (x ∷ ds) es (tail-whole y es w) f g own (same-gave n b quiet (x ∷ ds) es (omega arith) f g.0 v (tail-whole y es w) (e ∙ gave-own y es own)))
      (λ q.
      let m : Means b ds x = means b ds x f.1 p (head-whole x ds v) in
      let o : Means b es y = means b es y g.1 q (head-whole y es w) in
      let parts : (inputs_of x ≡ inputs_of y) × (gave ds ≡ gave es) = joined (inputs_of x) (inputs_of y) m.input o.input (gave ds) (gave es) m.is o.is e in
      let at : ds ≡ es = both b quiet x y ds es v w f g p q (same-gave n b quiet ds es (omega arith) f.0 g.0 (tail-whole x ds v) (tail-whole y es w) parts.1) in
      let same : x ≡ y = same-action b es x y (subst (λ (l : List (LocalAction J)). Means b l x) at m) o parts.0 in
      let whole : x ∷ ds ≡ y ∷ es = cc in
      inl (subst (λ (l : List (LocalAction J)). GoesOn (x ∷ ds) l) whole here)))

  -- two executions, to which the same came from outside, and which both do nothing more by themselves, are one
  pub one : (b : Behavior J) → IsQuiet b → (ds es : List (LocalAction J)) → IsExecution b ds → IsExecution b es → was_dropped ds ≡ false → was_dropped es ≡ false
      → IsStill b ds → IsStill b es → gave ds ≡ gave es → ds ≡ es
  one b quiet ds es f g v w s t e = elim (same-gave (length ds + length es) b quiet ds es (omega arith) f g v w e) [
    | inl r ↦ stays b s g r
    | inr r ↦ sym (stays b t f r)
  ]

  pub one-at-rest : (b : Behavior J) (ds es : List (LocalAction J)) → IsQuiet b → IsExecution b ds → IsExecution b es → was_dropped ds ≡ false → was_dropped es ≡ false
      → IsQuiescent b ds → IsQuiescent b es → gave ds ≡ gave es → ds ≡ es
  one-at-rest b ds es quiet f g v w s t e = one b quiet ds es f g v w (still-at-rest b quiet ds f v s) (still-at-rest b quiet es g w t) e

  -- what goes on from it has it at its end
  extends : {ds es : List (LocalAction J)} → GoesOn ds es → (later : List (LocalAction J)) × (es ≡ later ++ ds)
  extends here = ([], refl)
  extends (more {a = a} own r) = let w = extends r in (a ∷ w.0, ap (λ l. a ∷ l) w.1)

  less : (b : Behavior J) (a : LocalAction J) (es : List (LocalAction J)) (g : Input J) (rest : List (Input J)) → Means b es a → gave (a ∷ es) ≡ g ∷ rest → gave es ≡ rest
  less b a es g rest m e = let lists : m.input ∷ gave es ≡ g ∷ rest = ap (λ l. l ++ gave es) (sym m.is) ∙ e in cc

  onto : (a : LocalAction J) (ds es : List (LocalAction J)) → (later : List (LocalAction J)) × (es ≡ later ++ ds) → (later : List (LocalAction J)) × (a ∷ es ≡ later ++ ds)
  onto a ds es w = (a ∷ w.0, ap (λ l. a ∷ l) w.1)

  -- more came than before: what was done before is the beginning
  longer : (b : Behavior J) → IsQuiet b → (g : Input J) (rest : List (Input J)) (ds es : List (LocalAction J)) → IsExecution b ds → IsExecution b es → was_dropped ds ≡ false → was_dropped es ≡ false
      → gave es ≡ g ∷ (rest ++ gave ds) → (later : List (LocalAction J)) × (es ≡ later ++ ds)
  longer b quiet g rest ds [] f h v w e = absurd (cc)
  longer b quiet g [] ds (y ∷ es) f h v w e = onto y ds es (by_test (is_own y)
      (λ own. longer b quiet g [] ds es f h.0 v (tail-whole y es w) (sym (gave-own y es own) ∙ e))
      (λ own.
      let tails : gave es ≡ gave ds = less b y es g (gave ds) (means b es y h.1 own (head-whole y es w)) e in
      elim (same-gave (length ds + length es) b quiet ds es (omega arith) f h.0 v (tail-whole y es w) (sym tails)) [
        | inl r ↦ extends r
        | inr r ↦ ([], stays b (still-given b quiet es y h.0 (tail-whole y es w) h.1 own (head-whole y es w)) f r)
      ]))
  longer b quiet g (k ∷ rest) ds (y ∷ es) f h v w e = onto y ds es (by_test (is_own y)
      (λ own. longer b quiet g (k ∷ rest) ds es f h.0 v (tail-whole y es w) (sym (gave-own y es own) ∙ e))
      (λ own. longer b quiet k rest ds es f h.0 v (tail-whole y es w) (less b y es g (k ∷ (rest ++ gave ds)) (means b es y h.1 own (head-whole y es w)) e)))

  pub beginning : (b : Behavior J) (ds es : List (LocalAction J)) (rest : List (Input J)) → IsQuiet b → IsExecution b ds → IsExecution b es → was_dropped ds ≡ false → was_dropped es ≡ false
      → IsQuiescent b es → gave es ≡ rest ++ gave ds → (later : List (LocalAction J)) × (es ≡ later ++ ds)
  beginning b ds es [] quiet f g v w rests e = elim (same-gave (length ds + length es) b quiet ds es (omega arith) f g v w (sym e)) [
    | inl r ↦ extends r
    | inr r ↦ ([], stays b (still-at-rest b quiet es g w rests) f r)
  ]
  beginning b ds es (k ∷ rest) quiet f g v w rests e = longer b quiet k rest ds es f g v w e
