-- How many Lua functions are around one that is called.
use Rattle.std.specs.Prelude.{◌≡◌, ℕ, ◌-◌, ◌<◌, suc, List, [], ◌∷◌, drop, length, nat_lt, Bool, true, false, refl}
use Rattle.std.proofs.Common.{sym, ◌∙◌, ap, arith}
use borrow.Author.Tests.{ltb-true, ltb-false}
use Rattle.lua_meaning.specs.Works.{Caller}
use Rattle.lua_meaning.specs.Positions.{callers_at}
use Rattle.lua_meaning.specs.Calls.{calling, around_callee, most_callers}
use Rattle.lua_frames.specs.declared.frames.Kind.{Kind}
use Rattle.lua_frames.specs.declared.frames.Kind.TheVariants.{Base, Lua, Guard, Handled, Handling}
use Rattle.lua_frames.specs.declared.threads.Frames.{Frames}
use Rattle.lua_frames.specs.Around.{is_lua}
use Rattle.lua_frames.specs.Frames.{around, here}

same_test : (a b : ℕ) (t u : Bool) → (a < b → suc a < suc b) → nat_lt a b ≡ t → nat_lt (suc a) (suc b) ≡ u → t ≡ u
same_test a b true true h e f = refl
same_test a b false false h e f = refl
same_test a b true false h e f = absurd (omega (arith, ltb-true _ _ e, ltb-false _ _ f))
same_test a b false true h e f = absurd (omega (arith, ltb-false _ _ e, ltb-true _ _ f))

-- one function more
pub one_more : (n most : ℕ) → nat_lt n most ≡ nat_lt (suc n) (suc most)
one_more n most = same_test n most (nat_lt n most) (nat_lt (suc n) (suc most)) (λ h. omega (arith, h)) refl refl

-- around a function's callee is the function too, unless the call gives it up
pub lua_plain : (fs : Frames) (line : ℕ) → fs.top.kind ≡ Lua → length (around_callee (calling (callers_at (here fs) line) false)) ≡ suc (length (around fs))
lua_plain fs line e = rw e refl

pub lua_tail : (fs : Frames) (line : ℕ) → fs.top.kind ≡ Lua → length (around_callee (calling (callers_at (here fs) line) true)) ≡ length (around fs)
lua_tail fs line e = rw e refl

other : (fs : Frames) (line : ℕ) → (fs.top.kind ≡ Lua → ⊥) → callers_at (here fs) line ≡ around fs
other fs line k = by_kind fs.top.kind refl
  where
    by_kind : (t : Kind) → fs.top.kind ≡ t → callers_at (record (here fs) { lua = is_lua t }) line ≡ around fs
    by_kind Base e = refl
    by_kind Lua e = absurd (k e)
    by_kind Guard e = refl
    by_kind (Handled h) e = refl
    by_kind Handling e = refl

pub other_plain : (fs : Frames) (line : ℕ) → (fs.top.kind ≡ Lua → ⊥) → length (around_callee (calling (callers_at (here fs) line) false)) ≡ length (around fs)
other_plain fs line k = ap (λ (a : List Caller). length a) (other fs line k)

one_less : (a : List Caller) → length (drop 1 a) ≡ length a - 1
one_less [] = omega arith
one_less (c ∷ a) = omega arith

pub other_tail : (fs : Frames) (line : ℕ) → (fs.top.kind ≡ Lua → ⊥) → length (around_callee (calling (callers_at (here fs) line) true)) ≡ length (around fs) - 1
other_tail fs line k = ap (λ (a : List Caller). length (drop 1 a)) (other fs line k) ∙ one_less (around fs)

-- the test of the code, by the frame on top and by whether the call is a tail call
pub room_plain : (fs : Frames) (line n : ℕ) (tail : Bool) → fs.top.kind ≡ Lua → tail ≡ false → n ≡ length (around fs) → nat_lt n 4_999 ≡ nat_lt (length (around_callee (calling (callers_at (here fs) line) tail))) most_callers
room_plain fs line n tail k t e =
    one_more n 4_999 ∙ ap (λ (m : ℕ). nat_lt (suc m) most_callers) e ∙ ap (λ (m : ℕ). nat_lt m most_callers) (sym (lua_plain fs line k)) ∙ ap (λ (u : Bool). nat_lt (length (around_callee (calling (callers_at (here fs) line) u))) most_callers) (sym t)

pub room_tail : (fs : Frames) (line n : ℕ) (tail : Bool) → fs.top.kind ≡ Lua → tail ≡ true → n ≡ length (around fs) → nat_lt n most_callers ≡ nat_lt (length (around_callee (calling (callers_at (here fs) line) tail))) most_callers
room_tail fs line n tail k t e =
    ap (λ (m : ℕ). nat_lt m most_callers) (e ∙ sym (lua_tail fs line k)) ∙ ap (λ (u : Bool). nat_lt (length (around_callee (calling (callers_at (here fs) line) u))) most_callers) (sym t)

pub room_other : (fs : Frames) (line n : ℕ) (tail : Bool) → (fs.top.kind ≡ Lua → ⊥) → tail ≡ false → n ≡ length (around fs) → nat_lt n most_callers ≡ nat_lt (length (around_callee (calling (callers_at (here fs) line) tail))) most_callers
room_other fs line n tail k t e =
    ap (λ (m : ℕ). nat_lt m most_callers) (e ∙ sym (other_plain fs line k)) ∙ ap (λ (u : Bool). nat_lt (length (around_callee (calling (callers_at (here fs) line) u))) most_callers) (sym t)

pub room_other_tail : (fs : Frames) (line n : ℕ) (tail : Bool) → (fs.top.kind ≡ Lua → ⊥) → tail ≡ true → n ≡ length (around fs) - 1 → nat_lt n most_callers ≡ nat_lt (length (around_callee (calling (callers_at (here fs) line) tail))) most_callers
room_other_tail fs line n tail k t e =
    ap (λ (m : ℕ). nat_lt m most_callers) (e ∙ sym (other_tail fs line k)) ∙ ap (λ (u : Bool). nat_lt (length (around_callee (calling (callers_at (here fs) line) u))) most_callers) (sym t)
