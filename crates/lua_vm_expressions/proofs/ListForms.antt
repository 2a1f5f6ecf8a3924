-- Lists of expressions: what is left of them while they are evaluated.
use Rattle.std.specs.Prelude.{◌≡◌, ℕ, suc, zero, ◌+◌, ◌≤◌, ◌<◌, List, [], ◌∷◌, ◌++◌, length, drop, Result, Ok, refl}
use Rattle.std.proofs.Common.{sym, ◌∙◌, ap, arith, Vec, Global}
use Rattle.std.specs.declared.rc.Rc.{Rc}
use Rattle.lua_ast.specs.declared.expressions.Expr.{Expr}
use Rattle.lua_values.specs.declared.values.Value.{Value}
use Rattle.lua_values.specs.Heap.{StoreView}
use Rattle.lua_meaning.specs.Works.{Places, Slots, AValue, AnExpr, Sign, Values, Return, Break, Failed, Work, End, Eval}
use Rattle.lua_meaning.specs.Evaluator.{Ending, Ended, Parked, Spent, after, do_work}
use Rattle.lua_meaning.specs.Setting.{Setting}
use Rattle.lua_meaning.specs.Signs.{first, give, on_values, listed, more, values_of}
use Rattle.lua_meaning.specs.Nodes.{eval}
use Rattle.lua_frames.specs.declared.flow.Flow.{Flow}
use Rattle.lua_frames.specs.declared.flow.Flow.TheVariants as flow
use Rattle.lua_frames.specs.declared.items.Item.TheVariants as i
use Rattle.lua_frames.specs.declared.threads.Frames.{Frames}
use Rattle.lua_frames.specs.Signals.{sign_of, Passes, HasFirst, HasValues}
use Rattle.lua_frames.specs.Items.{resume_item}
use Rattle.lua_frames.specs.Frames.{finish_from, here, slots_of, entering, working}
use Rattle.lua_frames.specs.Follows.{Enters, Works}
use Rattle.lua_frames.specs.Changes.{Waits, Ends}
use Rattle.lua_frames.proofs.FollowLemmas.{follows_ok, works_as, works_from, ends_works, step_under}
use Rattle.lua_frames.proofs.TakeForms.{first_goes, on_all}
use Rattle.lua_vm_expressions.specs.Lists.{rest_of}
use Rattle.lua_frames.proofs.DropLemmas.{dropped_all}

-- the values of a list of one are those of its expression
passed_on : (S : Setting) (p : Places) (o : Ending) → after o (λ sign s w. do_work (eval S) (on_values (more [] p []) sign s) w) ≡ o
passed_on S p (Ended (Values vs) s w) = refl
passed_on S p (Ended (Return vs) s w) = refl
passed_on S p (Ended Break s w) = refl
passed_on S p (Ended (Failed v) s w) = refl
passed_on S p (Parked number args position store) = refl
passed_on S p Spent = refl

pub list_of_one : {E : Type 0} (S : Setting) (x : Expr) (xs : List Expr) (old fs : Frames) (before store : StoreView) (r : Result Flow E)
    → xs ≡ x ∷ [] → Enters S (AnExpr x) old before fs store r → Works S (values_of xs (here old) (slots_of old)) old before fs store r
list_of_one S x xs old fs before store r e h =
    works_as S (values_of xs (here old) (slots_of old)) (values_of (x ∷ []) (here old) (slots_of old)) old fs before store r
    (record {
      follows = follows_ok S (working S (values_of (x ∷ []) (here old) (slots_of old)) old before) (entering S (AnExpr x) old before) store fs r
          (λ rs. ap (finish_from S old) (passed_on S (here old) (eval S (AnExpr x) (here old) (slots_of old) (record { store = before; resumes = rs })))) h.follows;
    })
    (ap (λ (t : List Expr). values_of t (here old) (slots_of old)) e)

-- none at all
pub list_of_none : {E : Type 0} (S : Setting) (xs : List Expr) (old new : Frames) (store : StoreView) (r : Result Flow E)
    → xs ≡ [] → Ends (Values []) old new r → Works S (values_of xs (here old) (slots_of old)) old store new store r
list_of_none S xs old new store r e h =
    works_as S (values_of xs (here old) (slots_of old)) (End (Values []) (slots_of old)) old new store store r (ends_works S (Values []) old new store r h) (ap (λ (t : List Expr). values_of t (here old) (slots_of old)) e)

-- a list from its start on
from_start : (xs : List Expr) (p : Places) (s : Slots) → values_of xs p s ≡ rest_of xs p [] s
from_start [] p s = refl
from_start (x ∷ xs) p s = refl

pub list_from_start : {E : Type 0} (S : Setting) (xs : List Expr) (done : List Value) (old mid fs : Frames) (before store : StoreView) (r : Result Flow E)
    → done ≡ [] → mid.below ≡ old.below → mid.top ≡ old.top → Works S (rest_of xs (here mid) done (slots_of mid)) mid before fs store r
    → Works S (values_of xs (here old) (slots_of old)) old before fs store r
list_from_start S xs done old mid fs before store r none b t w =
    works_as S (values_of xs (here old) (slots_of old)) (rest_of xs (here mid) done (slots_of mid)) old fs before store r
    (works_from S (rest_of xs (here mid) done (slots_of mid)) old mid fs before store r b t w)
    (from_start xs (here old) (slots_of old) ∙ rw (none, b, t) refl)

-- which is the last of a list
last_listed : (x : Expr) (xs : List Expr) (n : ℕ) → length xs ≤ n → listed x (drop n xs) ≡ AnExpr x
last_listed x xs n h = ap (listed x) (dropped_all xs n h)

not_last_listed : (x : Expr) (xs : List Expr) (n : ℕ) → n < length xs → listed x (drop n xs) ≡ AValue x
not_last_listed x [] zero h = absurd (omega (arith, h))
not_last_listed x [] (suc n) h = absurd (omega (arith, h))
not_last_listed x (y ∷ xs) zero h = refl
not_last_listed x (y ∷ xs) (suc n) h = not_last_listed x xs n (omega (arith, h))

-- the last expression is entered
pub rest_last : {E : Type 0} (S : Setting) (xs copy : Rc (Vec Expr Global) Global) (x : Expr) (next : ℕ) (done : Vec Value Global) (old mid fs : Frames) (before store : StoreView) (r : Result Flow E)
    → drop next xs.value.items ≡ x ∷ drop (next + 1) xs.value.items → length xs.value.items ≤ next + 1 → copy.value ≡ xs.value → Waits old (i.More copy (next + 1) done) mid → Enters S (AnExpr x) mid before fs store r
    → Works S (rest_of (drop next xs.value.items) (here old) done.items (slots_of old)) old before fs store r
rest_last S xs copy x next done old mid fs before store r e last same h w =
    works_as S (rest_of (drop next xs.value.items) (here old) done.items (slots_of old)) (Eval (AnExpr x) (here old) (slots_of old) (resume_item S (i.More copy (next + 1) done) (here old))) old fs before store r
    (step_under S old mid fs (i.More copy (next + 1) done) (AnExpr x) before store r h w)
    (ap (λ (t : List Expr). rest_of t (here old) done.items (slots_of old)) e
    ∙ ap (λ (n : _). Eval n (here old) (slots_of old) (on_values (more (drop (next + 1) xs.value.items) (here old) done.items))) (last_listed x xs.value.items (next + 1) last)
    ∙ ap (λ (t : Vec Expr Global). Eval (AnExpr x) (here old) (slots_of old) (on_values (more (drop (next + 1) t.items) (here old) done.items))) (sym same))

-- and one that isn't the last
pub rest_next : {E : Type 0} (S : Setting) (xs copy : Rc (Vec Expr Global) Global) (x : Expr) (next : ℕ) (done : Vec Value Global) (old mid fs : Frames) (before store : StoreView) (r : Result Flow E)
    → drop next xs.value.items ≡ x ∷ drop (next + 1) xs.value.items → next + 1 < length xs.value.items → copy.value ≡ xs.value → Waits old (i.More copy (next + 1) done) mid → Enters S (AValue x) mid before fs store r
    → Works S (rest_of (drop next xs.value.items) (here old) done.items (slots_of old)) old before fs store r
rest_next S xs copy x next done old mid fs before store r e last same h w =
    works_as S (rest_of (drop next xs.value.items) (here old) done.items (slots_of old)) (Eval (AValue x) (here old) (slots_of old) (resume_item S (i.More copy (next + 1) done) (here old))) old fs before store r
    (step_under S old mid fs (i.More copy (next + 1) done) (AValue x) before store r h w)
    (ap (λ (t : List Expr). rest_of t (here old) done.items (slots_of old)) e
    ∙ ap (λ (n : _). Eval n (here old) (slots_of old) (on_values (more (drop (next + 1) xs.value.items) (here old) done.items))) (not_last_listed x xs.value.items (next + 1) last)
    ∙ ap (λ (t : Vec Expr Global). Eval (AValue x) (here old) (slots_of old) (on_values (more (drop (next + 1) t.items) (here old) done.items))) (sym same))

-- none is left
pub rest_none : {E : Type 0} (S : Setting) (xs : List Expr) (done : List Value) (old new : Frames) (store : StoreView) (r : Result Flow E)
    → xs ≡ [] → Ends (Values done) old new r → Works S (rest_of xs (here old) done (slots_of old)) old store new store r
rest_none S xs done old new store r e h =
    works_as S (rest_of xs (here old) done (slots_of old)) (End (Values done) (slots_of old)) old new store store r (ends_works S (Values done) old new store r h) (ap (λ (t : List Expr). rest_of t (here old) done (slots_of old)) e)

-- what gives no values is handed on
on_passes : (go : List Value → Slots → Work) (sign : Sign) (s : Slots) → Passes sign → on_values go sign s ≡ End sign s
on_passes go (Values vs) s h = absurd h
on_passes go (Return vs) s h = refl
on_passes go Break s h = refl
on_passes go (Failed v) s h = refl

pub hands_on : {E : Type 0} (S : Setting) (go : List Value → Slots → Work) (old new : Frames) (store : StoreView)
    → Passes (sign_of old.given) → new.given ≡ old.given → new.below ≡ old.below → new.top ≡ old.top
    → Works {E = E} S (on_values go (sign_of old.given) (slots_of old)) old store new store (Ok flow.Went)
hands_on S go old new store passes g b t =
    works_as S (on_values go (sign_of old.given) (slots_of old)) (End (sign_of old.given) (slots_of old)) old new store store (Ok flow.Went)
    (ends_works S (sign_of old.given) old new store (Ok flow.Went) (record { below = b; top = t; given = ap sign_of g; went = refl })) (on_passes go (sign_of old.given) (slots_of old) passes)

-- a list goes on with the value that an expression gave
went_on : (xs : List Expr) (p : Places) (done : List Value) (sign : Sign) (v : Value) (s : Slots) (x : Expr) (rest : List Expr) → xs ≡ x ∷ rest → HasFirst sign v
    → on_values (more xs p done) sign s ≡ rest_of xs p (done ++ v ∷ []) s
went_on xs p done sign v s x rest e h =
    ap (λ (t : List Expr). on_values (more t p done) sign s) e ∙ first_goes (λ u s'. rest_of (x ∷ rest) p (done ++ u ∷ []) s') sign v s h ∙ ap (λ (t : List Expr). rest_of t p (done ++ v ∷ []) s) (sym e)

some_left : (xs : List Expr) (n : ℕ) → n < length xs → (x : Expr) × (rest : List Expr) × (drop n xs ≡ x ∷ rest)
some_left [] zero h = absurd (omega (arith, h))
some_left [] (suc n) h = absurd (omega (arith, h))
some_left (x ∷ xs) zero h = (x, xs, refl)
some_left (x ∷ xs) (suc n) h = some_left xs n (omega (arith, h))

pub more_goes_on : {E : Type 0} (S : Setting) (xs : Rc (Vec Expr Global) Global) (next : ℕ) (done longer : Vec Value Global) (v : Value) (old mid fs : Frames) (before store : StoreView) (r : Result Flow E)
    → next < length xs.value.items → HasFirst (sign_of old.given) v → longer.items ≡ done.items ++ v ∷ [] → mid.below ≡ old.below → mid.top ≡ old.top
    → Works S (rest_of (drop next xs.value.items) (here mid) longer.items (slots_of mid)) mid before fs store r
    → Works S (resume_item S (i.More xs next done) (here old) (sign_of old.given) (slots_of old)) old before fs store r
more_goes_on S xs next done longer v old mid fs before store r within h l b t w =
    works_as S (resume_item S (i.More xs next done) (here old) (sign_of old.given) (slots_of old)) (rest_of (drop next xs.value.items) (here mid) longer.items (slots_of mid)) old fs before store r
    (works_from S (rest_of (drop next xs.value.items) (here mid) longer.items (slots_of mid)) old mid fs before store r b t w)
    (went_on (drop next xs.value.items) (here old) done.items (sign_of old.given) v (slots_of old) (some_left xs.value.items next within).0 (some_left xs.value.items next within).1 (some_left xs.value.items next within).2 h ∙ rw (l, b, t) refl)

-- a list ends with the values that its last expression gave
pub list_ends : {E : Type 0} (S : Setting) (done vs : List Value) (old mid new : Frames) (store : StoreView) (r : Result Flow E)
    → HasValues (sign_of old.given) vs → mid.below ≡ old.below → mid.top ≡ old.top → Works S (End (Values (done ++ vs)) (slots_of mid)) mid store new store r
    → Works S (on_values (more [] (here old) done) (sign_of old.given) (slots_of old)) old store new store r
list_ends S done vs old mid new store r h b t w =
    works_as S (on_values (more [] (here old) done) (sign_of old.given) (slots_of old)) (End (Values (done ++ vs)) (slots_of mid)) old new store store r
    (works_from S (End (Values (done ++ vs)) (slots_of mid)) old mid new store store r b t w)
    (on_all (more [] (here old) done) (sign_of old.given) vs (slots_of old) h ∙ ap (λ (f : _). give (done ++ vs) f.slots.items) (sym t))

-- past its end nothing is left but those values
pub more_ends : {E : Type 0} (S : Setting) (xs : Rc (Vec Expr Global) Global) (next : ℕ) (done : Vec Value Global) (old new : Frames) (store : StoreView) (r : Result Flow E)
    → length xs.value.items ≤ next → Works S (on_values (more [] (here old) done.items) (sign_of old.given) (slots_of old)) old store new store r
    → Works S (resume_item S (i.More xs next done) (here old) (sign_of old.given) (slots_of old)) old store new store r
more_ends S xs next done old new store r past w =
    works_as S (resume_item S (i.More xs next done) (here old) (sign_of old.given) (slots_of old)) (on_values (more [] (here old) done.items) (sign_of old.given) (slots_of old)) old new store store r w
    (ap (λ (t : List Expr). on_values (more t (here old) done.items) (sign_of old.given) (slots_of old)) (dropped_all xs.value.items next past))
