-- The tokens of a text, one piece on.
use Rattle.std.proofs.Common.{◌≡◌, ℕ, zero, suc, ◌+◌, ◌-◌, ◌<◌, ◌≤◌, List, [], ◌∷◌, ◌++◌, length, drop, take, Result, Ok, Err, refl, ap, sym, ◌∙◌, arith, append-nil, length-drop}
use Rattle.lua_lexer.specs.Characters.{line_ends}
use Rattle.lua_lexer.specs.Tokens.{piece, token_of, tokens_after}
use Rattle.lua_lexer.specs.Pieces.{IsPieceOf}
use Rattle.lua_lexer.specs.declared.tokens.LexFault.{LexFault}
use Rattle.lua_lexer.specs.declared.tokens.Piece.{Piece}
use Rattle.lua_lexer.specs.declared.tokens.Token.{Token}
use Rattle.lua_lexer.proofs.Fronts.{with_front, with_front-with_front, drop_among}

pub tokens_skip : (k line start : ℕ) (xs : List ℕ) → tokens_after k line start xs ≡ tokens_after 0 line (start + k) (drop k xs)
unfolding tokens_after
tokens_skip zero line start xs = let same : start ≡ start + 0 = omega arith in ap (λ index. tokens_after 0 line index xs) same
tokens_skip (suc k) line start [] = refl
tokens_skip (suc k) line start (c ∷ cs) =
    let same : start + 1 + k ≡ start + suc k = omega arith in
    tokens_skip k line (start + 1) cs ∙ ap (λ index. tokens_after 0 line index (drop k cs)) same

pub tokens_none : (line start : ℕ) (rest : List ℕ) → length rest ≡ 0 → tokens_after 0 line start rest ≡ Ok []
unfolding tokens_after
tokens_none line start [] none = refl
tokens_none line start (c ∷ cs) none = absurd (omega arith)

pub tokens_fault : (line start : ℕ) (rest : List ℕ) (fault : LexFault) → 0 < length rest → piece line rest ≡ Err fault
    → tokens_after 0 line start rest ≡ Err fault
unfolding tokens_after
tokens_fault line start [] fault some wrong = absurd (omega arith)
tokens_fault line start (c ∷ cs) fault some wrong = rw wrong refl

pub tokens_step : (line start : ℕ) (rest : List ℕ) (found : Piece) → 0 < length rest → piece line rest ≡ Ok found → 0 < found.size
    → tokens_after 0 line start rest
    ≡ with_front (token_of line start found.kind (start + found.size))
    (tokens_after 0 (line + line_ends (take found.size rest)) (start + found.size) (drop found.size rest))
unfolding tokens_after
tokens_step line start [] found some right size = absurd (omega arith)
tokens_step line start (c ∷ cs) found some right size =
    let index : start + 1 + (found.size - 1) ≡ start + found.size = omega arith in
    rw (right, tokens_skip (found.size - 1) (line + line_ends (take found.size (c ∷ cs))) (start + 1) cs, index, drop_among found.size c cs size) refl

-- an iteration of the listing
pub tokens_kept :
    (tokens pushed : List Token) (rest after : List ℕ) (total : Result (List Token) LexFault) (line start add room len : ℕ) (found : Piece)
    → 0 < length rest
    → (with_front tokens (tokens_after 0 line start rest) ≡ total) × (line + length rest ≤ room) × (start + length rest ≡ len)
    → piece line rest ≡ Ok found → IsPieceOf rest found
    → pushed ≡ tokens ++ token_of line start found.kind (start + found.size) → (add ≡ line_ends (take found.size rest)) × (add ≤ found.size)
    → after ≡ drop found.size rest
    → (with_front pushed (tokens_after 0 (line + add) (start + found.size) after) ≡ total) × (line + add + length after ≤ room)
    × (start + found.size + length after ≡ len)
tokens_kept tokens pushed rest after total line start add room len found some was right size pushes adds left =
    let step = tokens_step line start rest found some right size.some in
    let most = adds.1 in (
      rw (pushes, adds.0, left) (sym (with_front-with_front tokens (token_of line start found.kind (start + found.size)) _) ∙ ap (with_front tokens) (sym step) ∙ was.0),
      rw left (omega (arith, most, was.1, size.within, length-drop found.size rest)),
      rw left (omega (arith, was.2, size.within, length-drop found.size rest)),
    )

-- the last iteration
pub tokens_whole : (tokens : List Token) (rest : List ℕ) (total : Result (List Token) LexFault) (line start : ℕ)
    → with_front tokens (tokens_after 0 line start rest) ≡ total → length rest ≡ 0 → total ≡ Ok tokens
tokens_whole tokens rest total line start was none =
    sym was ∙ ap (with_front tokens) (tokens_none line start rest none) ∙ ap Ok (append-nil tokens)

-- the iteration that meets a fault
pub tokens_wrong : (tokens : List Token) (rest : List ℕ) (total : Result (List Token) LexFault) (line start : ℕ) (fault : LexFault)
    → 0 < length rest → with_front tokens (tokens_after 0 line start rest) ≡ total → piece line rest ≡ Err fault → total ≡ Err fault
tokens_wrong tokens rest total line start fault some was wrong =
    sym was ∙ ap (with_front tokens) (tokens_fault line start rest fault some wrong)
