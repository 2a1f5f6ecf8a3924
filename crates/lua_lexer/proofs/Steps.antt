-- Each definition that goes over a text, one step on: what it says of a text by what it says of the text after the
-- first step.
use Rattle.std.proofs.Common.{◌≡◌, ℕ, zero, suc, ◌+◌, ◌-◌, ◌<◌, ◌≤◌, max, List, [], ◌∷◌, ◌++◌, length, get_or, drop, append_assoc, append-nil, cond, Bool, true, false, refl, ap, sym, ◌∙◌, arith, length-drop}
use mir.Val.{bool_byte}
use Rattle.lua_lexer.specs.Characters.{is_line_byte, line_end, line_ends_after, unified_after}

pub line_ends_skip : (k : ℕ) (xs : List ℕ) → line_ends_after k xs ≡ line_ends_after 0 (drop k xs)
unfolding line_ends_after
line_ends_skip zero xs = refl
line_ends_skip (suc k) [] = refl
line_ends_skip (suc k) (c ∷ cs) = line_ends_skip k cs

pub unified_skip : (k : ℕ) (xs : List ℕ) → unified_after k xs ≡ unified_after 0 (drop k xs)
unfolding unified_after
unified_skip zero xs = refl
unified_skip (suc k) [] = refl
unified_skip (suc k) (c ∷ cs) = unified_skip k cs

-- after the first byte, what is left to skip
pub drop_first : (n c : ℕ) (cs : List ℕ) → drop (n - 1) cs ≡ drop (max n 1) (c ∷ cs)
drop_first zero c cs = refl
drop_first (suc n) c cs = let e : suc n - 1 ≡ n = omega arith in let m : max (suc n) 1 ≡ suc n = omega arith in rw (e, m) refl

pub line_ends_step : (rest : List ℕ) → 0 < length rest
    → line_ends_after 0 rest ≡ cond (is_line_byte (get_or rest 0 0)) 1 0 + line_ends_after 0 (drop (max (line_end rest) 1) rest)
unfolding line_ends_after
line_ends_step [] some = absurd (omega arith)
line_ends_step (c ∷ cs) some = ap (λ n. cond (is_line_byte c) 1 0 + n) (line_ends_skip (line_end (c ∷ cs) - 1) cs ∙ ap (line_ends_after 0) (drop_first (line_end (c ∷ cs)) c cs))

pub unified_step : (rest : List ℕ) → 0 < length rest
    → unified_after 0 rest ≡ cond (is_line_byte (get_or rest 0 0)) 10 (get_or rest 0 0) ∷ unified_after 0 (drop (max (line_end rest) 1) rest)
unfolding unified_after
unified_step [] some = absurd (omega arith)
unified_step (c ∷ cs) some = ap (λ n. cond (is_line_byte c) 10 c ∷ n) (unified_skip (line_end (c ∷ cs) - 1) cs ∙ ap (unified_after 0) (drop_first (line_end (c ∷ cs)) c cs))

one_or_none : (b : Bool) → bool_byte b ≡ cond b 1 0
one_or_none true = refl
one_or_none false = refl

at_most_one : (b : Bool) → bool_byte b ≤ 1
at_most_one true = omega arith
at_most_one false = omega arith

-- an iteration that counts
pub line_ends_kept :
    (count add total room n : ℕ) (flag : Bool) (rest after : List ℕ) → 0 < length rest
    → (count + line_ends_after 0 rest ≡ total) × (count + length rest ≤ room) → add ≡ bool_byte flag
    → flag ≡ is_line_byte (get_or rest 0 0) → after ≡ drop n rest → 0 < n
    → line_ends_after 0 rest ≡ cond (is_line_byte (get_or rest 0 0)) 1 0 + line_ends_after 0 (drop n rest)
    → (count + add + line_ends_after 0 after ≡ total) × (count + add + length after ≤ room)
line_ends_kept count add total room n flag rest after some was adds is_end left forward step =
    let one = one_or_none (is_line_byte (get_or rest 0 0)) in
    let most = at_most_one (is_line_byte (get_or rest 0 0)) in
    rw (left, adds, is_end) (omega (arith, step, one, was.0), omega (arith, was.1, most, length-drop n rest))

pub line_ends_none : (rest : List ℕ) → length rest ≡ 0 → line_ends_after 0 rest ≡ 0
unfolding line_ends_after
line_ends_none [] none = refl
line_ends_none (c ∷ cs) none = absurd (omega arith)

pub unified_none : (rest : List ℕ) → length rest ≡ 0 → unified_after 0 rest ≡ []
unfolding unified_after
unified_none [] none = refl
unified_none (c ∷ cs) none = absurd (omega arith)

-- an iteration that pushes
pub unified_kept :
    (bytes pushed total : List ℕ) (byte n size : ℕ) (rest after : List ℕ) → 0 < length rest
    → bytes ++ unified_after 0 rest ≡ total → pushed ≡ bytes ++ byte ∷ []
    → byte ≡ cond (is_line_byte (get_or rest 0 0)) 10 (get_or rest 0 0) → after ≡ drop n rest → n ≡ max size 1
    → size ≡ line_end rest → pushed ++ unified_after 0 after ≡ total
unified_kept bytes pushed total byte n size rest after some was pushes is_byte left larger ended =
    let step = unified_step rest some in
    rw (pushes, left, is_byte, larger, ended, append_assoc) (rw step at was)

-- the last iteration
pub unified_whole : (bytes total rest : List ℕ) → bytes ++ unified_after 0 rest ≡ total → length rest ≡ 0 → total ≡ bytes
unified_whole bytes total rest was none = sym was ∙ ap (λ more. bytes ++ more) (unified_none rest none) ∙ append-nil bytes
