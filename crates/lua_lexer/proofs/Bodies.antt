-- The body of a short string, one step on.
use Rattle.std.proofs.Common.{◌≡◌, ℕ, zero, suc, ◌+◌, ◌-◌, ◌<◌, ◌≤◌, min, max, true, false, ◌||◌, List, [], ◌∷◌, ◌++◌, length, get_or, drop, take, cond, Result, Ok, Err, refl, ap, sym, ◌∙◌, arith, append-nil, length-drop, length-take-le}
use Rattle.std.specs.Prelude.{◌==◌}
use Rattle.lua_lexer.specs.Characters.{is_line_byte, line_end, line_ends}
use Rattle.lua_lexer.proofs.Fronts.{with_front, with_front-with_front, drop_among}
use Rattle.lua_lexer.specs.Strings.{taken_along, body_after, decoded_after, first_element}
use Rattle.lua_lexer.specs.declared.tokens.LexFault.{LexFault}
use Rattle.lua_lexer.specs.declared.strings.Element.{Element}

pub body_skip : (quote k : ℕ) (xs : List ℕ) → k ≤ length xs → body_after quote k xs ≡ k + body_after quote 0 (drop k xs)
unfolding body_after
body_skip quote zero xs within = omega arith
body_skip quote (suc k) [] within = absurd (omega arith)
body_skip quote (suc k) (c ∷ cs) within = let more = body_skip quote k cs (omega arith) in omega (arith, more)

taken_within : (c : ℕ) (after : List ℕ) → taken_along c after ≤ length after
unfolding taken_along
taken_within c after = elim (c == 92) as (λ b. cond b (min (max (line_end after) 1) (length after)) 0 ≤ length after) [ true ↦ omega arith | false ↦ omega arith ]

-- the body ends here
pub body_ends : (quote : ℕ) (rest : List ℕ) → 0 < length rest → (get_or rest 0 0 == quote || is_line_byte (get_or rest 0 0)) ≡ true → body_after quote 0 rest ≡ 0
unfolding body_after
body_ends quote [] some ends = absurd (omega arith)
body_ends quote (c ∷ cs) some ends = rw ends refl

pub body_none : (quote : ℕ) (rest : List ℕ) → length rest ≡ 0 → body_after quote 0 rest ≡ 0
unfolding body_after
body_none quote [] none = refl
body_none quote (c ∷ cs) none = absurd (omega arith)

-- the body goes on
pub body_step : (quote : ℕ) (rest : List ℕ) → 0 < length rest → (get_or rest 0 0 == quote || is_line_byte (get_or rest 0 0)) ≡ false
    → let inside = drop 1 rest in
    let n = taken_along (get_or rest 0 0) inside in
    body_after quote 0 rest ≡ 1 + n + body_after quote 0 (drop n inside)
unfolding body_after
body_step quote [] some on = absurd (omega arith)
body_step quote (c ∷ cs) some on = rw on (omega (arith, body_skip quote (taken_along c cs) cs (taken_within c cs)))

-- an iteration of the search for the body's end
pub body_kept :
    (quote total len n : ℕ) (rest inside after : List ℕ) → 0 < length rest → (get_or rest 0 0 == quote || is_line_byte (get_or rest 0 0)) ≡ false
    → (total + length rest ≡ len + body_after quote 0 rest) × (length rest ≤ len) → inside ≡ drop 1 rest → n ≡ taken_along (get_or rest 0 0) inside → after ≡ drop n inside
    → (total + length after ≡ len + body_after quote 0 after) × (length after ≤ len)
body_kept quote total len n rest inside after some on was is_inside taken left =
    let step = body_step quote rest some on in
    let most = taken_within (get_or rest 0 0) (drop 1 rest) in
    rw (left, taken, is_inside) (omega (arith, step, most, was.0, length-drop 1 rest, length-drop (taken_along (get_or rest 0 0) (drop 1 rest)) (drop 1 rest)), omega (arith, was.1, length-drop 1 rest, length-drop (taken_along (get_or rest 0 0) (drop 1 rest)) (drop 1 rest)))

pub decoded_skip : (k line : ℕ) (xs : List ℕ) → decoded_after k line xs ≡ decoded_after 0 line (drop k xs)
unfolding decoded_after
decoded_skip zero line xs = refl
decoded_skip (suc k) line [] = refl
decoded_skip (suc k) line (c ∷ cs) = decoded_skip k line cs

-- the body ends where the iteration does
pub body_at : (quote total len : ℕ) (rest : List ℕ) → (total + length rest ≡ len + body_after quote 0 rest) × (length rest ≤ len)
    → body_after quote 0 rest ≡ 0 → len - length rest ≡ total
body_at quote total len rest was none = omega (arith, was.0, was.1, none)

-- the search ends with the text
pub body_whole : (quote total len : ℕ) (rest : List ℕ) → (total + length rest ≡ len + body_after quote 0 rest) × (length rest ≤ len)
    → length rest ≡ 0 → len ≡ total
body_whole quote total len rest was none = omega (arith, was.0, body_none quote rest none)

pub decoded_none : (line : ℕ) (rest : List ℕ) → length rest ≡ 0 → decoded_after 0 line rest ≡ Ok []
unfolding decoded_after
decoded_none line [] none = refl
decoded_none line (c ∷ cs) none = absurd (omega arith)

pub decoded_fault : (line : ℕ) (rest : List ℕ) (fault : LexFault) → 0 < length rest → first_element line rest ≡ Err fault
    → decoded_after 0 line rest ≡ Err fault
unfolding decoded_after
decoded_fault line [] fault some wrong = absurd (omega arith)
decoded_fault line (c ∷ cs) fault some wrong = rw wrong refl

pub decoded_step : (line : ℕ) (rest : List ℕ) (first : Element) → 0 < length rest → first_element line rest ≡ Ok first → 0 < first.size
    → decoded_after 0 line rest
    ≡ with_front (first.byte ∷ []) (decoded_after 0 (line + line_ends (take first.size rest)) (drop first.size rest))
unfolding decoded_after
decoded_step line [] first some right size = absurd (omega arith)
decoded_step line (c ∷ cs) first some right size =
    rw (right, decoded_skip (first.size - 1) (line + line_ends (take first.size (c ∷ cs))) cs, drop_among first.size c cs size) refl

-- an iteration of the decoding
pub decoded_kept :
    (bytes pushed rest after taken : List ℕ) (total : Result (List ℕ) LexFault) (line add room : ℕ) (first : Element)
    → 0 < length rest → (with_front bytes (decoded_after 0 line rest) ≡ total) × (line + length rest ≤ room)
    → Ok first ≡ first_element line rest → (0 < first.size) × (first.size ≤ length rest)
    → pushed ≡ bytes ++ first.byte ∷ [] → (add ≡ line_ends taken) × (add ≤ length taken) → taken ≡ take first.size rest
    → after ≡ drop first.size rest
    → (with_front pushed (decoded_after 0 (line + add) after) ≡ total) × (line + add + length after ≤ room)
decoded_kept bytes pushed rest after taken total line add room first some was right size pushes adds is_taken left =
    let step = decoded_step line rest first some (sym right) size.0 in
    let most : add ≤ first.size = omega (arith, adds.1, ap length is_taken, length-take-le first.size rest size.1) in (
      rw (pushes, adds.0, is_taken, left) (sym (with_front-with_front bytes (first.byte ∷ []) _) ∙ ap (with_front bytes) (sym step) ∙ was.0),
      rw left (omega (arith, most, was.1, size.1, length-drop first.size rest)),
    )

-- the last iteration
pub decoded_whole : (bytes rest : List ℕ) (total : Result (List ℕ) LexFault) (line : ℕ)
    → with_front bytes (decoded_after 0 line rest) ≡ total → length rest ≡ 0 → total ≡ Ok bytes
decoded_whole bytes rest total line was none =
    sym was ∙ ap (with_front bytes) (decoded_none line rest none) ∙ ap Ok (append-nil bytes)

-- the iteration that meets a fault
pub decoded_wrong : (bytes rest : List ℕ) (total : Result (List ℕ) LexFault) (line : ℕ) (fault : LexFault) → 0 < length rest
    → with_front bytes (decoded_after 0 line rest) ≡ total → Err fault ≡ first_element line rest → total ≡ Err fault
decoded_wrong bytes rest total line fault some was wrong =
    sym was ∙ ap (with_front bytes) (decoded_fault line rest fault some (sym wrong))
