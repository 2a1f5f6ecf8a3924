-- Line ends after a line end, and after the bytes that stand before one.
use Rattle.std.proofs.Common.{◌≡◌, ℕ, ◌+◌, ◌-◌, ◌<◌, max, Bool, true, false, cond, List, [], ◌∷◌, length, get_or, drop, refl, ap, sym, ◌∙◌, arith}
use Rattle.std.specs.Prelude.{not, ◌&&◌, ◌==◌}
use Rattle.std.specs.List.{prefix_len}
use Rattle.lua_lexer.specs.Characters.{is_line_byte, line_end, line_ends}
use Rattle.lua_lexer.proofs.Fronts.{drop_among}
use Rattle.lua_lexer.proofs.Runs.{run_some}
use Rattle.lua_lexer.proofs.Steps.{line_ends_step}
use Rattle.lua_lexer.proofs.StringPieces.{line_quiet}

abbrev quiet_len : List ℕ → ℕ
quiet_len text = prefix_len (λ c. not (is_line_byte c)) text

-- the line end at the front has a byte
pub some_ends : (text : List ℕ) → is_line_byte (get_or text 0 0) ≡ true → 0 < line_end text
unfolding line_end
some_ends text ends = rw ends (elim (is_line_byte (get_or text 1 0) && not (get_or text 0 0 == get_or text 1 0)) as (λ b. 0 < cond b 2 1) [ true ↦ omega arith | false ↦ omega arith ])

pub some_quiet : (text : List ℕ) → 0 < length text → is_line_byte (get_or text 0 0) ≡ false → 0 < prefix_len (λ c. not (is_line_byte c)) text
some_quiet text some other = run_some (λ c. not (is_line_byte c)) text some (rw other refl)

pub over_end : (text : List ℕ) → 0 < length text → is_line_byte (get_or text 0 0) ≡ true
    → line_ends text ≡ cond (is_line_byte (get_or text 0 0)) 1 0 + line_ends (drop (line_end text) text)
over_end text some ends =
    let least = some_ends text ends in
    let most : max (line_end text) 1 ≡ line_end text = omega (arith, least) in
    line_ends_step text some ∙ ap (λ n. cond (is_line_byte (get_or text 0 0)) 1 0 + line_ends (drop n text)) most

line_ends_past : (text : List ℕ) → line_ends text ≡ line_ends (drop (quiet_len text) text)
line_ends_past [] = refl
line_ends_past (c ∷ cs) = by (is_line_byte c) refl (line_ends_past cs)
  where
    by : (b : Bool) → is_line_byte c ≡ b → line_ends cs ≡ line_ends (drop (quiet_len cs) cs) → line_ends (c ∷ cs) ≡ line_ends (drop (quiet_len (c ∷ cs)) (c ∷ cs))
    by true ends more = rw ends refl
    by false other more =
        let less : 1 + quiet_len cs - 1 ≡ quiet_len cs = omega arith in
        let dropped : drop (1 + quiet_len cs) (c ∷ cs) ≡ drop (quiet_len cs) cs = sym (drop_among (1 + quiet_len cs) c cs (omega arith)) ∙ ap (λ k. drop k cs) less in
        rw other (line_quiet c cs other ∙ more ∙ ap line_ends (sym dropped))

pub over_quiet : (text : List ℕ) → is_line_byte (get_or text 0 0) ≡ false
    → line_ends text ≡ cond (is_line_byte (get_or text 0 0)) 1 0 + line_ends (drop (prefix_len (λ c. not (is_line_byte c)) text) text)
over_quiet text other = rw other (let past = line_ends_past text in omega (arith, past))
