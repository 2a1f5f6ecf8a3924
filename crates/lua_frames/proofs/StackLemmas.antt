-- How many Lua functions wait in a stack.
use Rattle.std.specs.Prelude.{◌≡◌, ℕ, ◌+◌, ◌-◌, ◌≤◌, ◌<◌, suc, zero, List, [], ◌∷◌, ◌++◌, length, if◌then◌else◌, Bool, true, false, Some, None, drop, take, slice_index_or, refl}
use Rattle.std.proofs.Common.{sym, ◌∙◌, ap, arith, Vec, Global, Fits, w64}
use Rattle.std.proofs.lemmas.List.{take_more}
use Rattle.lua_meaning.specs.declared.positions.Position.{Position}
use Rattle.lua_meaning.specs.Works.{Caller}
use Rattle.lua_meaning.specs.Setting.{Setting}
use Rattle.lua_meaning.specs.Positions.{position_of}
use Rattle.lua_frames.specs.declared.frames.Frame.{Frame}
use Rattle.lua_frames.specs.declared.frames.Kind.{Kind}
use Rattle.lua_frames.specs.declared.frames.Kind.TheVariants.{Base, Lua, Guard, Handled, Handling}
use Rattle.lua_frames.specs.Around.{is_lua, deeper, around_of}
use Rattle.lua_frames.specs.PositionIn.{IsPositionIn}
use Rattle.lua_frames.proofs.FinishLemmas.{around_push}

deeper_length : (a : List Caller) (f : Frame) (t : Bool) → length (if t then (record { function = f.function; line = f.line }) ∷ a else a) ≡ length a + (if t then 1 else 0)
deeper_length a f true = omega arith
deeper_length a f false = omega arith

-- a frame more
pub count_push : (fs : List Frame) (f : Frame) → length (around_of [] (fs ++ f ∷ [])) ≡ length (around_of [] fs) + (if is_lua f.kind then 1 else 0)
count_push fs f = ap (λ (a : List Caller). length a) (around_push [] fs f) ∙ deeper_length (around_of [] fs) f (is_lua f.kind)

at_most_one : (t : Bool) → (if t then 1 else 0) ≤ 1
at_most_one true = omega arith
at_most_one false = omega arith

-- no more than frames
pub few : (a : List Caller) (fs : List Frame) → length (around_of a fs) ≤ length a + length fs
few a [] = omega arith
few a (f ∷ fs) =
    let one : length (deeper a f) ≡ length a + (if is_lua f.kind then 1 else 0) = deeper_length a f (is_lua f.kind) in omega (arith, few (deeper a f) fs, one, at_most_one (is_lua f.kind))

-- the functions in one frame more
pub around_more : (xs : List Frame) (i : ℕ) (f : Frame) → take (i + 1) xs ≡ take i xs ++ f ∷ [] → around_of [] (take (i + 1) xs) ≡ deeper (around_of [] (take i xs)) f
around_more xs i f e = ap (λ (fs : List Frame). around_of [] fs) e ∙ around_push [] (take i xs) f

is_function : (f : Frame) (a : List Caller) → f.kind ≡ Lua → deeper a f ≡ (record { function = f.function; line = f.line }) ∷ a
is_function f a e = rw e refl

dropped_one : (c : Caller) (a : List Caller) (skip : ℕ) → 0 < skip → drop skip (c ∷ a) ≡ drop (skip - 1) a
dropped_one c a zero h = absurd (omega (arith, h))
dropped_one c a (suc n) h = let e : n ≡ suc n - 1 = omega arith in ap (λ (k : ℕ). drop k a) e

-- a function is skipped
pub skipped : (S : Setting) (f : Frame) (a : List Caller) (skip : ℕ) → f.kind ≡ Lua → 0 < skip → position_of S (drop skip (deeper a f)) ≡ position_of S (drop (skip - 1) a)
skipped S f a skip e h = ap (λ (xs : List Caller). position_of S (drop skip xs)) (is_function f a e) ∙ ap (position_of S) (dropped_one (record { function = f.function; line = f.line }) a skip h)

-- a function's own position, or that of those around it
pub positioned_here : (S : Setting) (f : Frame) (a : List Caller) (skip : ℕ) (position : Position) → f.kind ≡ Lua → skip ≡ 0 → IsPositionIn S f.function f.line (Some position) → position_of S (drop skip (deeper a f)) ≡ Some position
positioned_here S f a skip position e z h = ap (λ (n : ℕ). position_of S (drop n (deeper a f))) z ∙ ap (position_of S) (is_function f a e) ∙ h a

pub positioned_around : (S : Setting) (f : Frame) (a : List Caller) (skip : ℕ) → f.kind ≡ Lua → skip ≡ 0 → IsPositionIn S f.function f.line None → position_of S (drop skip (deeper a f)) ≡ position_of S (drop skip a)
positioned_around S f a skip e z h = ap (λ (n : ℕ). position_of S (drop n (deeper a f))) z ∙ ap (position_of S) (is_function f a e) ∙ h a ∙ ap (λ (n : ℕ). position_of S (drop n a)) (sym z)

-- a frame of another kind adds nothing
pub no_function : (f : Frame) (a : List Caller) → (f.kind ≡ Lua → ⊥) → deeper a f ≡ a
no_function f a k = by_kind f.kind refl
  where
    by_kind : (t : Kind) → f.kind ≡ t → (if is_lua t then (record { function = f.function; line = f.line }) ∷ a else a) ≡ a
    by_kind Base e = refl
    by_kind Lua e = absurd (k e)
    by_kind Guard e = refl
    by_kind (Handled h) e = refl
    by_kind Handling e = refl

-- a frame less
counted_with : (old new : List Frame) (f : Frame) (n k : ℕ) → n ≡ length (around_of [] old) → old ≡ new ++ f ∷ [] → k ≡ (if is_lua f.kind then 1 else 0) → n ≡ length (around_of [] new) + k
counted_with old new f n k c e j = c ∙ ap (λ (fs : List Frame). length (around_of [] fs)) e ∙ count_push new f ∙ ap (λ (m : ℕ). length (around_of [] new) + m) (sym j)

pub one_there : (old new : List Frame) (f : Frame) (n k : ℕ) → n ≡ length (around_of [] old) → old ≡ new ++ f ∷ [] → k ≡ (if is_lua f.kind then 1 else 0) → k ≤ n
one_there old new f n k c e j = omega (arith, counted_with old new f n k c e j)

pub count_pop : (old new : List Frame) (f : Frame) (n k : ℕ) → n ≡ length (around_of [] old) → old ≡ new ++ f ∷ [] → k ≡ (if is_lua f.kind then 1 else 0) → n - k ≡ length (around_of [] new)
count_pop old new f n k c e j = omega (arith, counted_with old new f n k c e j)

-- one more is no too great number
pub fits_one_more : (frames : Vec Frame Global) (n : ℕ) (f : Frame) (k : ℕ) → n ≡ length (around_of [] frames.items) → k ≡ (if is_lua f.kind then 1 else 0) → Fits w64 (n + k)
fits_one_more frames n f k c j = omega (arith, c, j, few [] frames.items, at_most_one (is_lua f.kind), frames.ok, frames.small)

-- the innermost of some frames
pub one_more : (xs : List Frame) (i : ℕ) (f : Frame) → 0 < i → i ≤ length xs → f ≡ slice_index_or xs (i - 1) f → around_of [] (take i xs) ≡ deeper (around_of [] (take (i - 1) xs)) f
one_more xs i f some within is =
    let e : i ≡ (i - 1) + 1 = omega (arith, some) in let below : i - 1 < length xs = omega (arith, some, within) in
    ap (λ (k : ℕ). around_of [] (take k xs)) e ∙ around_more xs (i - 1) f (take_more xs (i - 1) f below ∙ ap (λ (x : Frame). take (i - 1) xs ++ x ∷ []) (sym is))
