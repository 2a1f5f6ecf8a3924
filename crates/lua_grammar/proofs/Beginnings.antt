-- Tokens after which a reader of a chunk waits begin a chunk.
use Rattle.std.proofs.Common.{◌≡◌, List, [], ◌∷◌, ◌++◌, inl, inr, refl, sym, ap, subst, ◌∙◌, append_assoc}
use Rattle.std.proofs.lemmas.List.{append-nil}
use Rattle.lua_lexer.specs.declared.tokens.TokenKind.{TokenKind}
use Rattle.lua_lexer.specs.declared.tokens.TokenKind.TheVariants.{Word}
use Rattle.lua_lexer.specs.declared.words.Word.TheVariants.{End}
use Rattle.lua_grammar.specs.Tree.{Block}
use Rattle.lua_grammar.specs.Printing.{Lexeme, a_kind, print_block}
use Rattle.lua_grammar.specs.Waiting.{chunk, IsWaiting}
use Rattle.lua_grammar.specs.Reading.{read, read_chunk, run}
use Rattle.lua_grammar.proofs.Live.{open_run, open_chunk, run_after, fails_or_goes_on}
use Rattle.lua_grammar.proofs.LiveStates.{on_line_one}
use Rattle.lua_grammar.proofs.Printed.{ends_in_end}

-- all but the last, and the last
split_last : (kind : TokenKind) (kinds : List TokenKind) → (before : List Lexeme) × (last : TokenKind) × on_line_one (kind ∷ kinds) ≡ before ++ a_kind last 1 []
split_last kind [] = ([], kind, refl)
split_last kind (next ∷ kinds) =
    let (before, last, is) = split_last next kinds in (record { kind = kind; line = 1 } ∷ before, last, ap (λ xs. record { kind = kind; line = 1 } ∷ xs) is)

abbrev final : Lexeme → List Lexeme → Lexeme
final d [] = d
final d (x ∷ xs) = final x xs

final_after : (d : Lexeme) (xs : List Lexeme) (x : Lexeme) → final d (xs ++ x ∷ []) ≡ x
final_after d [] x = refl
final_after d (y ∷ xs) x = final_after y xs x

same_last : (xs ys : List Lexeme) (x y : Lexeme) → xs ++ x ∷ [] ≡ ys ++ y ∷ [] → x ≡ y
same_last xs ys x y same = sym (final_after x xs x) ∙ ap (final x) same ∙ final_after x ys y

-- the last token that leads to a chunk is an `end`
last_is_end : (xs : List Lexeme) (last : TokenKind) (b : Block) → run read_chunk (xs ++ a_kind last 1 []) ≡ chunk b → last ≡ Word End
last_is_end xs last b is = let ends = ends_in_end (xs ++ a_kind last 1 []) b is in ap (λ x. x.kind) (same_last xs (print_block b []) _ _ ends.1)

waits_for_one : (tokens : List Lexeme) (kinds : List TokenKind) (b : Block) → IsWaiting (run read_chunk tokens) → run read_chunk (tokens ++ on_line_one kinds) ≡ chunk b
    → (rest : List Lexeme) × (block : Block) × read (tokens ++ rest) ≡ chunk block
waits_for_one tokens [] b waits is = absurd (subst IsWaiting (sym (ap (run read_chunk) (append-nil tokens)) ∙ is) waits)
waits_for_one tokens (kind ∷ kinds) b waits is =
    let (before, last, splits) = split_last kind kinds in
    let whole : run read_chunk ((tokens ++ before) ++ a_kind last 1 []) ≡ chunk b =
    ap (run read_chunk) (append_assoc tokens before (a_kind last 1 []) ∙ ap (λ xs. tokens ++ xs) (sym splits)) ∙ is in
    let end = last_is_end (tokens ++ before) last b whole in
    (before, b, ap (λ kind. run read_chunk ((tokens ++ before) ++ a_kind kind 1 [])) (sym end) ∙ whole)

pub begins_a_chunk : (tokens : List Lexeme) → IsWaiting (run read_chunk tokens) → (rest : List Lexeme) × (block : Block) × read (tokens ++ rest) ≡ chunk block
begins_a_chunk tokens waits = elim (fails_or_goes_on (run read_chunk tokens) (open_run read_chunk open_chunk tokens)) [
  | inl fails ↦ absurd (subst IsWaiting fails waits)
  | inr on ↦ waits_for_one tokens on.0 on.1 waits (run_after read_chunk tokens (on_line_one on.0) ∙ on.2)
]
