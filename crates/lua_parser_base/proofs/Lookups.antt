-- Looking a name up.
use Rattle.std.proofs.Common.{◌≡◌, ℕ, ◌+◌, ◌<◌, ◌≤◌, Bool, true, false, List, [], ◌∷◌, ◌++◌, length, map, reverse, Option, Some, None, refl, ap, sym, subst, zero, suc, max, add-one, add-zero, append_assoc, append-nil, length-append, if◌then◌else◌, IfSome, arith, take, get_or, length-take}
use Rattle.std.proofs.Math.Seq.{take-suc}
use Rattle.std.proofs.lemmas.List.{reverse-append}
use Rattle.std.specs.Str.{bytes_eq}
use Rattle.lua_grammar.specs.Tree.{Bytes}
use Rattle.lua_ast.specs.declared.programs.Capture.{Capture}
use Rattle.lua_ast.specs.declared.programs.Capture.TheVariants.{Outer}
use Rattle.lua_grammar.specs.Scopes.{Frame, last_index, later, local_or, own, look, slots_from, with_locals}
use Rattle.lua_parser_base.specs.declared.frames.Frame.{Frame as KeptFrame}
use Rattle.lua_parser_base.specs.declared.frames.Captured.{Captured as KeptCapture}
use Rattle.lua_parser_base.specs.Frames.{captured_of, frame_of}

-- one more name after the others
pub one_more : (name : Bytes) (xs : List Bytes) (x : Bytes) →
    last_index name (xs ++ x ∷ []) ≡ (if bytes_eq x name then Some (length xs) else last_index name xs)
unfolding last_index
one_more name [] x = refl
one_more name (y ∷ ys) x =
    rw (one_more name ys x) (elim (bytes_eq x name) as (λ b. later (if b then Some (length ys) else last_index name ys) (if bytes_eq y name then Some 0 else None)
    ≡ (if b then Some (length (y ∷ ys)) else later (last_index name ys) (if bytes_eq y name then Some 0 else None))) [ true ↦ rw (add-one (length ys)) refl | false ↦ refl ])

within_later : (m : Option ℕ) (b : Bool) (n : ℕ) → IfSome m (λ k. k < n) → IfSome (later m (if b then Some 0 else None)) (λ k. k < n + 1)
within_later (Some k) b n h = omega (arith, h)
within_later None true n h = omega arith
within_later None false n h = tt

pub within : (name : Bytes) (xs : List Bytes) → IfSome (last_index name xs) (λ k. k < length xs)
unfolding last_index
within name [] = tt
within name (x ∷ xs) = rw (add-one (length xs)) at (within_later (last_index name xs) (bytes_eq x name) (length xs) (within name xs))

-- one more step of a search for the last index
pub searched : (name : Bytes) (xs : List Bytes) (i : ℕ) (x d : Bytes) (was now : Option ℕ) (b : Bool) → i < length xs → x ≡ get_or xs i d →
    was ≡ last_index name (take i xs) → b ≡ bytes_eq x name → now ≡ (if b then Some i else was) → now ≡ last_index name (take (i + 1) xs)
searched name xs i x d was now b inside at before test is =
    let longer : take (i + 1) xs ≡ take i xs ++ x ∷ [] = rw (add-one i, at) (take-suc xs i d inside) in
    let more = one_more name (take i xs) x in
    let len : length (take i xs) ≡ i = simp length-take (omega (arith, inside)) in
    rw (is, before, test, longer, more, len) refl

-- the names of the captures, as they are kept and as the grammar sees them
names_same : (cs : List KeptCapture) → map (λ c. c.name) (map captured_of cs) ≡ map (λ c. c.name) cs
names_same [] = refl
names_same (c ∷ cs) = ap (λ cs. c.name ∷ cs) (names_same cs)

pub own_is : (name : Bytes) (f : KeptFrame) (m k : Option ℕ) → m ≡ last_index name f.locals.items →
    k ≡ last_index name (map (λ c. c.name) f.captures.items) → local_or m k ≡ own name (frame_of f)
unfolding own
own_is name f m k p q = rw (p, q, names_same f.captures.items) refl

pub look_own : (name : Bytes) (f : Frame) (enclosing : List Frame) (v : Capture) → own name f ≡ Some v →
    look name (f ∷ enclosing) ≡ (Some v, f ∷ enclosing)
unfolding look
look_own name f enclosing v e = rw e refl

pub look_none : (name : Bytes) (f : Frame) (enclosing after : List Frame) → own name f ≡ None → look name enclosing ≡ (None, after) →
    look name (f ∷ enclosing) ≡ (None, f ∷ after)
unfolding look
look_none name f enclosing after e further = rw (e, further) refl

pub look_some : (name : Bytes) (f g : Frame) (enclosing after : List Frame) (v : Capture) → own name f ≡ None → look name enclosing ≡ (Some v, after) →
    g.locals ≡ f.locals → g.slots ≡ f.slots → g.captures ≡ f.captures ++ record { name = name; variable = v } ∷ [] →
    look name (f ∷ enclosing) ≡ (Some (Outer (length f.captures)), g ∷ after)
unfolding look
look_some name f g enclosing after v e further locals slots captures =
    let same : g ≡ record f { captures = f.captures ++ record { name = name; variable = v } ∷ [] } = rw (locals, slots, captures) refl in
    rw (same, e, further) refl

pub nowhere : (name : Bytes) → look name [] ≡ (None, [])
unfolding look
nowhere name = refl

pub frames_pushed : (fs : List KeptFrame) (f : KeptFrame) → map frame_of (reverse (fs ++ f ∷ [])) ≡ frame_of f ∷ map frame_of (reverse fs)
frames_pushed fs f = rw (reverse-append fs (f ∷ [])) refl

pub captured_length : (cs : List KeptCapture) → length (map captured_of cs) ≡ length cs
captured_length [] = refl
captured_length (c ∷ cs) = ap suc (captured_length cs)

pub below : (o : Option ℕ) (n m : ℕ) → n ≡ m → IfSome o (λ k. k < n) → IfSome o (λ k. k < m)
below o n m e h = let P : ℕ → Type 0 = λ n. IfSome o (λ k. k < n) in subst P e h

pub names_length : (cs : List KeptCapture) → length (map (λ c. c.name) cs) ≡ length cs
names_length [] = refl
names_length (c ∷ cs) = ap suc (names_length cs)

pub name_at : (cs : List KeptCapture) (i : ℕ) (d : KeptCapture) → get_or (map (λ c. c.name) cs) i d.name ≡ (get_or cs i d).name
name_at [] i d = refl
name_at (c ∷ cs) zero d = refl
name_at (c ∷ cs) (suc i) d = name_at cs i d

pub names_taken : (cs : List KeptCapture) (i : ℕ) → map (λ c. c.name) (take i cs) ≡ take i (map (λ c. c.name) cs)
names_taken [] zero = refl
names_taken [] (suc i) = refl
names_taken (c ∷ cs) zero = refl
names_taken (c ∷ cs) (suc i) = ap (λ cs. c.name ∷ cs) (names_taken cs i)

pub none_of : {A : Type 0} (o : Option A) → ((x : A) → o ≡ Some x → ⊥) → o ≡ None
none_of (Some x) h = absurd (h x refl)
none_of None h = refl

-- the variables of the captures, as they are kept and as the grammar sees them
pub variables_same : (cs : List KeptCapture) → map (λ c. c.variable) (map captured_of cs) ≡ map (λ c. c.variable) cs
variables_same [] = refl
variables_same (c ∷ cs) = ap (λ cs. c.variable ∷ cs) (variables_same cs)

-- one more name that is declared after others
pub slots_more : (n : ℕ) (xs : List Bytes) (x : Bytes) → slots_from n (xs ++ x ∷ []) ≡ slots_from n xs ++ (n + length xs) ∷ []
unfolding slots_from
slots_more n [] x = rw (add-zero n) refl
slots_more n (y ∷ ys) x = rw (slots_more (n + 1) ys x) (let e : n + 1 + length ys ≡ n + suc (length ys) = omega arith in rw e refl)

pub locals_more : (xs : List Bytes) (x : Bytes) (f : Frame) → with_locals (xs ++ x ∷ []) f ≡ with_locals (x ∷ []) (with_locals xs f)
locals_more xs x f =
    let a = append_assoc f.locals xs (x ∷ []) in
    let m : max f.slots (length f.locals + length (xs ++ x ∷ [])) ≡ max (max f.slots (length f.locals + length xs)) (length (f.locals ++ xs) + 1) =
    rw (length-append xs (x ∷ []), length-append f.locals xs) (omega arith) in
    rw (sym a, m) refl

pub locals_none : (f : Frame) → length f.locals ≤ f.slots → with_locals [] f ≡ f
locals_none f h =
    let m : max f.slots (length f.locals + 0) ≡ f.slots = omega (arith, h) in
    let a : f.locals ++ [] ≡ f.locals = append-nil f.locals in
    rw (a, m) refl

pub front_more : (xs : List Bytes) (i : ℕ) (d x : Bytes) → i < length xs → x ≡ get_or xs i d → take (i + 1) xs ≡ take i xs ++ x ∷ []
front_more xs i d x inside at = rw (add-one i, at) (take-suc xs i d inside)

pub front_length : (xs : List Bytes) (i : ℕ) → i < length xs → length (take i xs) ≡ i
front_length xs i inside = simp length-take (omega (arith, inside))
