-- The tests of equality tell equal values.
use Rattle.std.specs.Prelude.{◌≡◌, ℕ, Bool, true, false, ◌&&◌, ◌==◌, ℤ, pos, negsuc, List, [], ◌∷◌, Option, Some, None, refl}
use Rattle.std.proofs.Common.{sym, ◌∙◌, ap}
use Rattle.std.proofs.lemmas.Bool.{eqb-true, and_parts, not-true}
use Rattle.resty_base.specs.declared.names.StrandId.{StrandId}
use Rattle.resty_base.specs.declared.names.StrandId.TheVariants as strand
use Rattle.resty_base.specs.declared.dictionary.How.{How}
use Rattle.resty_base.specs.declared.dictionary.How.TheVariants as how
use Rattle.resty_base.specs.declared.dictionary.DictValue.{DictValue}
use Rattle.resty_base.specs.declared.dictionary.DictValue.TheVariants as value
use Rattle.resty_base.specs.declared.dictionary.DictCall.{DictCall}
use Rattle.resty_base.specs.declared.dictionary.DictCall.TheVariants as call
use Rattle.resty_base.specs.declared.dictionary.DictAnswer.{DictAnswer}
use Rattle.resty_base.specs.declared.dictionary.DictAnswer.TheVariants as answer
use Rattle.resty_world.specs.Ids.{same_strand}
use Rattle.resty_world.specs.declared.answers.TimerAnswer.{TimerAnswer}
use Rattle.resty_world.specs.declared.answers.TimerAnswer.TheVariants as timer
use Rattle.resty_world.specs.IdLaws.{same_strand-eq}
use Rattle.strand_contract.specs.declared.turns.Place.{Place}
use Rattle.strand_contract.specs.declared.turns.Place.TheVariants as place
use Rattle.shared_rules.specs.Keys.{same_key}
use Rattle.shared_rules.specs.KeyLaws.{same_key-eq}
use Rattle.strand_contract.specs.OpenPlaceLaws.{same-place}
use Rattle.executions.specs.Agenda.{Whose, OfStrand, OfJob, OfIdle}
use Rattle.engine_examples.specs.Checks.{same_bool, same_option, same_int, same_init, same_value, same_how, same_call, same_keys, same_answer, same_timer}
use Rattle.engine_examples.specs.Checks.{same_whose, is_strand, is_place, is_whose, none, empty}

pub bad : {C : Type 0} → false ≡ true → C
bad h = absurd (let e : false ≡ true = h in cc)

pub clash : {C : Type 0} (x : Bool) → x ≡ true → x ≡ false → C
clash x p q = bad (sym q ∙ p)

pub and3 : (x y z : Bool) → (x && y && z) ≡ true → (x ≡ true) × (y ≡ true) × (z ≡ true)
and3 x y z h = let g = and_parts (x && y) z h in let f = and_parts x y g.0 in (f.0, f.1, g.1)

pub and4 : (x y z w : Bool) → (x && y && z && w) ≡ true → (x ≡ true) × (y ≡ true) × (z ≡ true) × (w ≡ true)
and4 x y z w h = let g = and_parts (x && y && z) w h in let f = and3 x y z g.0 in (f.0, f.1, f.2, g.1)

pub and5 : (x y z w v : Bool) → (x && y && z && w && v) ≡ true → (x ≡ true) × (y ≡ true) × (z ≡ true) × (w ≡ true) × (v ≡ true)
and5 x y z w v h = let g = and_parts (x && y && z && w) v h in let f = and4 x y z w g.0 in (f.0, f.1, f.2, f.3, g.1)

pub and7 : (x y z w v u t : Bool) → (x && y && z && w && v && u && t) ≡ true → (x ≡ true) × (y ≡ true) × (z ≡ true) × (w ≡ true) × (v ≡ true) × (u ≡ true) × (t ≡ true)
and7 x y z w v u t h = let g = and_parts (x && y && z && w && v && u) t h in let f = and_parts (x && y && z && w && v) u g.0 in let e = and5 x y z w v f.0 in (e.0, e.1, e.2, e.3, e.4, f.1, g.1)

pub same-bool : (x y : Bool) → same_bool x y ≡ true → x ≡ y
same-bool true y h = sym h
same-bool false y h = sym (not-true y h)

pub same-option : (x y : Option ℕ) → same_option x y ≡ true → x ≡ y
same-option None None h = refl
same-option (Some m) (Some n) h = ap Some (eqb-true m n h)
same-option None (Some n) h = bad h
same-option (Some m) None h = bad h

pub same-int : (m n : ℤ) → same_int m n ≡ true → m ≡ n
same-int (pos m) (pos n) h = ap pos (eqb-true m n h)
same-int (negsuc m) (negsuc n) h = ap negsuc (eqb-true m n h)
same-int (pos m) (negsuc n) h = bad h
same-int (negsuc m) (pos n) h = bad h

pub same-value : (x y : DictValue) → same_value x y ≡ true → x ≡ y
same-value (value.Text x) (value.Text y) h = ap value.Text (same_key-eq x y h)
same-value (value.Number m) (value.Number n) h = ap value.Number (same-int m n h)
same-value (value.Truth x) (value.Truth y) h = ap value.Truth (same-bool x y h)
same-value (value.Text x) (value.Number y) h = bad h
same-value (value.Text x) (value.Truth y) h = bad h
same-value (value.Number x) (value.Text y) h = bad h
same-value (value.Number x) (value.Truth y) h = bad h
same-value (value.Truth x) (value.Text y) h = bad h
same-value (value.Truth x) (value.Number y) h = bad h

pub same-keys : (x y : List (List ℕ)) → same_keys x y ≡ true → x ≡ y
same-keys [] [] h = refl
same-keys (x ∷ xs) (y ∷ ys) h = let g = and_parts (same_key x y) (same_keys xs ys) h in ap (λ z. z ∷ xs) (same_key-eq x y g.0) ∙ ap (λ zs. y ∷ zs) (same-keys xs ys g.1)
same-keys [] (y ∷ ys) h = bad h
same-keys (x ∷ xs) [] h = bad h

pub is-strand : (s : StrandId) (o : Option StrandId) → is_strand s o ≡ true → o ≡ Some s
is-strand s None h = bad h
is-strand s (Some t) h = ap Some (sym (same_strand-eq s t h))

pub is-place : (q : Place) (o : Option Place) → is_place q o ≡ true → o ≡ Some q
is-place q None h = bad h
is-place q (Some p) h = ap Some (sym (same-place q p h))

pub same-whose : (v w : Whose) → same_whose v w ≡ true → v ≡ w
same-whose (OfStrand s k) (OfStrand t j) h = let g = and_parts (same_strand s t) (k == j) h in ap (λ x. OfStrand x k) (same_strand-eq s t g.0) ∙ ap (OfStrand t) (eqb-true k j g.1)
same-whose (OfJob i) (OfJob j) h = ap OfJob (eqb-true i j h)
same-whose (OfIdle m) (OfIdle n) h = ap OfIdle (eqb-true m n h)
same-whose (OfStrand s k) (OfJob j) h = bad h
same-whose (OfStrand s k) (OfIdle j) h = bad h
same-whose (OfJob i) (OfStrand t j) h = bad h
same-whose (OfJob i) (OfIdle j) h = bad h
same-whose (OfIdle i) (OfStrand t j) h = bad h
same-whose (OfIdle i) (OfJob j) h = bad h

pub is-whose : (w : Whose) (o : Option Whose) → is_whose w o ≡ true → o ≡ Some w
is-whose w None h = bad h
is-whose w (Some v) h = ap Some (sym (same-whose w v h))

pub is-none : {A : Type 0} (o : Option A) → none o ≡ true → o ≡ None
is-none None h = refl
is-none (Some x) h = bad h

pub is-empty : {A : Type 0} (xs : List A) → empty xs ≡ true → xs ≡ []
is-empty [] h = refl
is-empty (x ∷ xs) h = bad h

pub same-timer : (x y : TimerAnswer) → same_timer x y ≡ true → x ≡ y
same-timer (timer.Job i) (timer.Job j) h = ap timer.Job (eqb-true i j h)
same-timer timer.Full timer.Full h = refl
same-timer timer.Exiting timer.Exiting h = refl
same-timer (timer.Job i) timer.Full h = bad h
same-timer (timer.Job i) timer.Exiting h = bad h
same-timer timer.Full (timer.Job j) h = bad h
same-timer timer.Full timer.Exiting h = bad h
same-timer timer.Exiting (timer.Job j) h = bad h
same-timer timer.Exiting timer.Full h = bad h

pub same-init : (x y : Option ℤ) → same_init x y ≡ true → x ≡ y
same-init None None h = refl
same-init (Some m) (Some n) h = ap Some (same-int m n h)
same-init None (Some n) h = bad h
same-init (Some m) None h = bad h

pub same-how : (x y : How) → same_how x y ≡ true → x ≡ y
same-how how.Set how.Set h = refl
same-how how.Add how.Add h = refl
same-how how.Replace how.Replace h = refl
same-how how.Set how.Add h = bad h
same-how how.Set how.Replace h = bad h
same-how how.Add how.Set h = bad h
same-how how.Add how.Replace h = bad h
same-how how.Replace how.Set h = bad h
same-how how.Replace how.Add h = bad h

pub same-call : (x y : DictCall) → same_call x y ≡ true → x ≡ y
same-call (call.Get k1) (call.Get k2) h = ap (λ z. call.Get z) (same_key-eq k1 k2 h)
same-call (call.Store h1 k1 v1 t1 f1) (call.Store h2 k2 v2 t2 f2) h =
    let g = and5 (same_how h1 h2) (same_key k1 k2) (same_value v1 v2) (t1 == t2) (f1 == f2) h in
    ap (λ z. call.Store z k1 v1 t1 f1) (same-how h1 h2 g.0) ∙ ap (λ z. call.Store h2 z v1 t1 f1) (same_key-eq k1 k2 g.1) ∙ ap (λ z. call.Store h2 k2 z t1 f1) (same-value v1 v2 g.2) ∙ ap (λ z. call.Store h2 k2 v2 z f1) (eqb-true t1 t2 g.3) ∙ ap (λ z. call.Store h2 k2 v2 t2 z) (eqb-true f1 f2 g.4)
same-call (call.Delete k1) (call.Delete k2) h = ap (λ z. call.Delete z) (same_key-eq k1 k2 h)
same-call (call.Incr k1 b1 i1 t1) (call.Incr k2 b2 i2 t2) h = let g = and4 (same_key k1 k2) (same_int b1 b2) (same_init i1 i2) (t1 == t2) h in ap (λ z. call.Incr z b1 i1 t1) (same_key-eq k1 k2 g.0) ∙ ap (λ z. call.Incr k2 z i1 t1) (same-int b1 b2 g.1) ∙ ap (λ z. call.Incr k2 b2 z t1) (same-init i1 i2 g.2) ∙ ap (λ z. call.Incr k2 b2 i2 z) (eqb-true t1 t2 g.3)
same-call call.FlushAll call.FlushAll h = refl
same-call (call.FlushExpired n1) (call.FlushExpired n2) h = ap (λ z. call.FlushExpired z) (eqb-true n1 n2 h)
same-call (call.Keys n1) (call.Keys n2) h = ap (λ z. call.Keys z) (eqb-true n1 n2 h)
same-call (call.Get k1) (call.Store h2 k2 v2 t2 f2) h = bad h
same-call (call.Get k1) (call.Delete k2) h = bad h
same-call (call.Get k1) (call.Incr k2 b2 i2 t2) h = bad h
same-call (call.Get k1) call.FlushAll h = bad h
same-call (call.Get k1) (call.FlushExpired n2) h = bad h
same-call (call.Get k1) (call.Keys n2) h = bad h
same-call (call.Store h1 k1 v1 t1 f1) (call.Get k2) h = bad h
same-call (call.Store h1 k1 v1 t1 f1) (call.Delete k2) h = bad h
same-call (call.Store h1 k1 v1 t1 f1) (call.Incr k2 b2 i2 t2) h = bad h
same-call (call.Store h1 k1 v1 t1 f1) call.FlushAll h = bad h
same-call (call.Store h1 k1 v1 t1 f1) (call.FlushExpired n2) h = bad h
same-call (call.Store h1 k1 v1 t1 f1) (call.Keys n2) h = bad h
same-call (call.Delete k1) (call.Get k2) h = bad h
same-call (call.Delete k1) (call.Store h2 k2 v2 t2 f2) h = bad h
same-call (call.Delete k1) (call.Incr k2 b2 i2 t2) h = bad h
same-call (call.Delete k1) call.FlushAll h = bad h
same-call (call.Delete k1) (call.FlushExpired n2) h = bad h
same-call (call.Delete k1) (call.Keys n2) h = bad h
same-call (call.Incr k1 b1 i1 t1) (call.Get k2) h = bad h
same-call (call.Incr k1 b1 i1 t1) (call.Store h2 k2 v2 t2 f2) h = bad h
same-call (call.Incr k1 b1 i1 t1) (call.Delete k2) h = bad h
same-call (call.Incr k1 b1 i1 t1) call.FlushAll h = bad h
same-call (call.Incr k1 b1 i1 t1) (call.FlushExpired n2) h = bad h
same-call (call.Incr k1 b1 i1 t1) (call.Keys n2) h = bad h
same-call call.FlushAll (call.Get k2) h = bad h
same-call call.FlushAll (call.Store h2 k2 v2 t2 f2) h = bad h
same-call call.FlushAll (call.Delete k2) h = bad h
same-call call.FlushAll (call.Incr k2 b2 i2 t2) h = bad h
same-call call.FlushAll (call.FlushExpired n2) h = bad h
same-call call.FlushAll (call.Keys n2) h = bad h
same-call (call.FlushExpired n1) (call.Get k2) h = bad h
same-call (call.FlushExpired n1) (call.Store h2 k2 v2 t2 f2) h = bad h
same-call (call.FlushExpired n1) (call.Delete k2) h = bad h
same-call (call.FlushExpired n1) (call.Incr k2 b2 i2 t2) h = bad h
same-call (call.FlushExpired n1) call.FlushAll h = bad h
same-call (call.FlushExpired n1) (call.Keys n2) h = bad h
same-call (call.Keys n1) (call.Get k2) h = bad h
same-call (call.Keys n1) (call.Store h2 k2 v2 t2 f2) h = bad h
same-call (call.Keys n1) (call.Delete k2) h = bad h
same-call (call.Keys n1) (call.Incr k2 b2 i2 t2) h = bad h
same-call (call.Keys n1) call.FlushAll h = bad h
same-call (call.Keys n1) (call.FlushExpired n2) h = bad h

pub same-answer : (x y : DictAnswer) → same_answer x y ≡ true → x ≡ y
same-answer (answer.Found v1 f1) (answer.Found v2 f2) h = let g = and_parts (same_value v1 v2) (f1 == f2) h in ap (λ z. answer.Found z f1) (same-value v1 v2 g.0) ∙ ap (λ z. answer.Found v2 z) (eqb-true f1 f2 g.1)
same-answer answer.Nothing answer.Nothing h = refl
same-answer (answer.Done b1) (answer.Done b2) h = ap (λ z. answer.Done z) (same-bool b1 b2 h)
same-answer answer.Exists answer.Exists h = refl
same-answer answer.Missing answer.Missing h = refl
same-answer (answer.NoMemory b1) (answer.NoMemory b2) h = ap (λ z. answer.NoMemory z) (same-bool b1 b2 h)
same-answer answer.NotNumber answer.NotNumber h = refl
same-answer answer.OutOfRange answer.OutOfRange h = refl
same-answer (answer.Number m1 b1) (answer.Number m2 b2) h = let g = and_parts (same_int m1 m2) (same_bool b1 b2) h in ap (λ z. answer.Number z b1) (same-int m1 m2 g.0) ∙ ap (λ z. answer.Number m2 z) (same-bool b1 b2 g.1)
same-answer (answer.Count n1) (answer.Count n2) h = ap (λ z. answer.Count z) (eqb-true n1 n2 h)
same-answer (answer.Names l1) (answer.Names l2) h = ap (λ z. answer.Names z) (same-keys l1 l2 h)
same-answer (answer.Found v1 f1) answer.Nothing h = bad h
same-answer (answer.Found v1 f1) (answer.Done b2) h = bad h
same-answer (answer.Found v1 f1) answer.Exists h = bad h
same-answer (answer.Found v1 f1) answer.Missing h = bad h
same-answer (answer.Found v1 f1) (answer.NoMemory b2) h = bad h
same-answer (answer.Found v1 f1) answer.NotNumber h = bad h
same-answer (answer.Found v1 f1) answer.OutOfRange h = bad h
same-answer (answer.Found v1 f1) (answer.Number m2 b2) h = bad h
same-answer (answer.Found v1 f1) (answer.Count n2) h = bad h
same-answer (answer.Found v1 f1) (answer.Names l2) h = bad h
same-answer answer.Nothing (answer.Found v2 f2) h = bad h
same-answer answer.Nothing (answer.Done b2) h = bad h
same-answer answer.Nothing answer.Exists h = bad h
same-answer answer.Nothing answer.Missing h = bad h
same-answer answer.Nothing (answer.NoMemory b2) h = bad h
same-answer answer.Nothing answer.NotNumber h = bad h
same-answer answer.Nothing answer.OutOfRange h = bad h
same-answer answer.Nothing (answer.Number m2 b2) h = bad h
same-answer answer.Nothing (answer.Count n2) h = bad h
same-answer answer.Nothing (answer.Names l2) h = bad h
same-answer (answer.Done b1) (answer.Found v2 f2) h = bad h
same-answer (answer.Done b1) answer.Nothing h = bad h
same-answer (answer.Done b1) answer.Exists h = bad h
same-answer (answer.Done b1) answer.Missing h = bad h
same-answer (answer.Done b1) (answer.NoMemory b2) h = bad h
same-answer (answer.Done b1) answer.NotNumber h = bad h
same-answer (answer.Done b1) answer.OutOfRange h = bad h
same-answer (answer.Done b1) (answer.Number m2 b2) h = bad h
same-answer (answer.Done b1) (answer.Count n2) h = bad h
same-answer (answer.Done b1) (answer.Names l2) h = bad h
same-answer answer.Exists (answer.Found v2 f2) h = bad h
same-answer answer.Exists answer.Nothing h = bad h
same-answer answer.Exists (answer.Done b2) h = bad h
same-answer answer.Exists answer.Missing h = bad h
same-answer answer.Exists (answer.NoMemory b2) h = bad h
same-answer answer.Exists answer.NotNumber h = bad h
same-answer answer.Exists answer.OutOfRange h = bad h
same-answer answer.Exists (answer.Number m2 b2) h = bad h
same-answer answer.Exists (answer.Count n2) h = bad h
same-answer answer.Exists (answer.Names l2) h = bad h
same-answer answer.Missing (answer.Found v2 f2) h = bad h
same-answer answer.Missing answer.Nothing h = bad h
same-answer answer.Missing (answer.Done b2) h = bad h
same-answer answer.Missing answer.Exists h = bad h
same-answer answer.Missing (answer.NoMemory b2) h = bad h
same-answer answer.Missing answer.NotNumber h = bad h
same-answer answer.Missing answer.OutOfRange h = bad h
same-answer answer.Missing (answer.Number m2 b2) h = bad h
same-answer answer.Missing (answer.Count n2) h = bad h
same-answer answer.Missing (answer.Names l2) h = bad h
same-answer (answer.NoMemory b1) (answer.Found v2 f2) h = bad h
same-answer (answer.NoMemory b1) answer.Nothing h = bad h
same-answer (answer.NoMemory b1) (answer.Done b2) h = bad h
same-answer (answer.NoMemory b1) answer.Exists h = bad h
same-answer (answer.NoMemory b1) answer.Missing h = bad h
same-answer (answer.NoMemory b1) answer.NotNumber h = bad h
same-answer (answer.NoMemory b1) answer.OutOfRange h = bad h
same-answer (answer.NoMemory b1) (answer.Number m2 b2) h = bad h
same-answer (answer.NoMemory b1) (answer.Count n2) h = bad h
same-answer (answer.NoMemory b1) (answer.Names l2) h = bad h
same-answer answer.NotNumber (answer.Found v2 f2) h = bad h
same-answer answer.NotNumber answer.Nothing h = bad h
same-answer answer.NotNumber (answer.Done b2) h = bad h
same-answer answer.NotNumber answer.Exists h = bad h
same-answer answer.NotNumber answer.Missing h = bad h
same-answer answer.NotNumber (answer.NoMemory b2) h = bad h
same-answer answer.NotNumber answer.OutOfRange h = bad h
same-answer answer.NotNumber (answer.Number m2 b2) h = bad h
same-answer answer.NotNumber (answer.Count n2) h = bad h
same-answer answer.NotNumber (answer.Names l2) h = bad h
same-answer answer.OutOfRange (answer.Found v2 f2) h = bad h
same-answer answer.OutOfRange answer.Nothing h = bad h
same-answer answer.OutOfRange (answer.Done b2) h = bad h
same-answer answer.OutOfRange answer.Exists h = bad h
same-answer answer.OutOfRange answer.Missing h = bad h
same-answer answer.OutOfRange (answer.NoMemory b2) h = bad h
same-answer answer.OutOfRange answer.NotNumber h = bad h
same-answer answer.OutOfRange (answer.Number m2 b2) h = bad h
same-answer answer.OutOfRange (answer.Count n2) h = bad h
same-answer answer.OutOfRange (answer.Names l2) h = bad h
same-answer (answer.Number m1 b1) (answer.Found v2 f2) h = bad h
same-answer (answer.Number m1 b1) answer.Nothing h = bad h
same-answer (answer.Number m1 b1) (answer.Done b2) h = bad h
same-answer (answer.Number m1 b1) answer.Exists h = bad h
same-answer (answer.Number m1 b1) answer.Missing h = bad h
same-answer (answer.Number m1 b1) (answer.NoMemory b2) h = bad h
same-answer (answer.Number m1 b1) answer.NotNumber h = bad h
same-answer (answer.Number m1 b1) answer.OutOfRange h = bad h
same-answer (answer.Number m1 b1) (answer.Count n2) h = bad h
same-answer (answer.Number m1 b1) (answer.Names l2) h = bad h
same-answer (answer.Count n1) (answer.Found v2 f2) h = bad h
same-answer (answer.Count n1) answer.Nothing h = bad h
same-answer (answer.Count n1) (answer.Done b2) h = bad h
same-answer (answer.Count n1) answer.Exists h = bad h
same-answer (answer.Count n1) answer.Missing h = bad h
same-answer (answer.Count n1) (answer.NoMemory b2) h = bad h
same-answer (answer.Count n1) answer.NotNumber h = bad h
same-answer (answer.Count n1) answer.OutOfRange h = bad h
same-answer (answer.Count n1) (answer.Number m2 b2) h = bad h
same-answer (answer.Count n1) (answer.Names l2) h = bad h
same-answer (answer.Names l1) (answer.Found v2 f2) h = bad h
same-answer (answer.Names l1) answer.Nothing h = bad h
same-answer (answer.Names l1) (answer.Done b2) h = bad h
same-answer (answer.Names l1) answer.Exists h = bad h
same-answer (answer.Names l1) answer.Missing h = bad h
same-answer (answer.Names l1) (answer.NoMemory b2) h = bad h
same-answer (answer.Names l1) answer.NotNumber h = bad h
same-answer (answer.Names l1) answer.OutOfRange h = bad h
same-answer (answer.Names l1) (answer.Number m2 b2) h = bad h
same-answer (answer.Names l1) (answer.Count n2) h = bad h
