-- Where a reader is refused: at a token at which it fails, at the end of the text, or in a dead state.
use Rattle.std.proofs.Common.{◌≡◌, ◌≤◌, ◌⊎◌, ℕ, List, [], ◌∷◌, refl, sym, subst, ◌∙◌}
use Rattle.lua_lexer.specs.declared.tokens.TokenKind.{TokenKind}
use Rattle.lua_lexer.specs.declared.tokens.TokenKind.TheVariants.{Name, Word, Sign}
use Rattle.lua_lexer.specs.declared.signs.Sign.TheVariants as sign
use Rattle.lua_lexer.specs.declared.words.Word.TheVariants as word
use Rattle.lua_grammar.specs.Tree.{Line, Bytes, Block}
use Rattle.lua_grammar.specs.Printing.{Lexeme}
use Rattle.lua_grammar.specs.Waiting.{Reader, IsWaiting, failed, chunk, token, name, close_parenthesis, close_bracket, equals, comma, do_, then_, end_, until_}
use Rattle.lua_grammar.specs.Reading.{feed}
use Rattle.lua_grammar.specs.Dead.{IsDead}
use Rattle.lua_parser_base.specs.declared.faults.ParseFault.{ParseFault}
use Rattle.lua_parser_base.specs.declared.faults.ParseFault.TheVariants.{At, Depth, Memory}
use Rattle.lua_parser_base.specs.declared.nesting.Nesting.{Nesting}
use Rattle.lua_parser_base.specs.States.{State}
use Rattle.lua_parser_base.specs.Next.{Begin, IsKind, IsName, Ends, IsTooDeep, HasNoPart, IsTooHigh, Misses, OnAt, first_kind, line_or}
use Rattle.lua_parser_base.specs.Readers.{Refuses, Supposes}
use Rattle.lua_parser_base.proofs.Moving.{dead_stuck, ends_stuck, fails}

reported_at_end : (s : State) (line : ℕ) → Ends s line → line ≡ line_or s.final s.left
reported_at_end s line e = rw e.nothing e.reported

-- ---- at the end of the text

pub at_end : (r : Reader) (s : State) (line : ℕ) → Ends s line → ((l : ℕ) (b : Block) → feed r (Word word.End) l ≡ chunk b → ⊥) → IsWaiting r → Refuses (At line) r s s
at_end r s line e not waits = record { sticks = ends_stuck (At line) r s e.nothing not waits; reports = reported_at_end s line e }

no_chunk_fails : (q : Reader) (b : Block) → q ≡ failed → q ≡ chunk b → ⊥
no_chunk_fails q b is other = let e : failed ≡ chunk b = sym is ∙ other in cc

-- a reader that fails there
pub ends_failed : (r : Reader) → ((l : ℕ) → feed r (Word word.End) l ≡ failed) → (l : ℕ) (b : Block) → feed r (Word word.End) l ≡ chunk b → ⊥
ends_failed r none l b is = no_chunk_fails (feed r (Word word.End) l) b (none l) is

-- where it ends
pub ended : (fault : ParseFault) (P : Type 0) (r : Reader) (s : State) → OnAt (Ends s) fault → Supposes fault P → ((l : ℕ) (b : Block) → feed r (Word word.End) l ≡ chunk b → ⊥) → IsWaiting r →
    Refuses fault r s s
ended (At line) X r s e h not waits = at_end r s line e not waits
ended Memory X r s e h not waits = absurd h
ended other X r s e h not waits = absurd e

-- ---- of a limit

-- in a dead state
pub limited : (line : ℕ) (r : Reader) (s : State) → IsDead r → Refuses (Depth line) r s s
limited line r s dead = record { sticks = dead_stuck (Depth line) r s (λ b c. c) dead tt; reports = tt }

pub too_deep : (fault : ParseFault) (P : Type 0) (at : Nesting) (r : Reader) (s : State) → IsTooDeep at s fault → Supposes fault P →
    ((l : ℕ) (b : Block) → feed r (Word word.End) l ≡ chunk b → ⊥) → (200 ≤ at.depth → P → IsDead r) → IsWaiting r → Refuses fault r s s
too_deep (At line) X at r s e h not dead waits = at_end r s line e not waits
too_deep (Depth line) X at r s e h not dead waits = limited line r s (dead e.0 h)
too_deep other X at r s e h not dead waits = absurd e

pub no_part : (fault : ParseFault) (P : Type 0) (at : Nesting) (r : Reader) (s : State) → HasNoPart at s fault → Supposes fault P →
    ((l : ℕ) (b : Block) → feed r (Word word.End) l ≡ chunk b → ⊥) → ((200 ≤ at.depth) ⊎ (at.room ≤ 1) → P → IsDead r) → IsWaiting r → Refuses fault r s s
no_part (At line) X at r s e h not dead waits = at_end r s line e not waits
no_part (Depth line) X at r s e h not dead waits = limited line r s (dead e.0 h)
no_part other X at r s e h not dead waits = absurd e

pub too_high : (there : ℕ) (fault : ParseFault) (P : Type 0) (at : Nesting) (height : ℕ) (r : Reader) (s : State) → IsTooHigh at height there fault → Supposes fault P →
    (at.room ≤ height → P → IsDead r) → Refuses fault r s s
too_high there (Depth line) X at height r s e h dead = limited line r s (dead e.0 h)
too_high there other X at height r s e h dead = absurd e

-- ---- where no such token is next

missing_fails : (r : Reader) (P : TokenKind → Type 0) (left : List Lexeme) → (Begin P left → ⊥) → (P (Word word.End) → ⊥) →
    ((kind : TokenKind) (l : Line) → (P kind → ⊥) → feed r kind l ≡ failed) → (l : Line) → feed r (first_kind left) l ≡ failed
missing_fails r P [] missing end none l = none (Word word.End) l end
missing_fails r P (first ∷ left) missing end none l = none first.kind l missing

pub missed_at : (r : Reader) (P : TokenKind → Type 0) (s t : State) (line : ℕ) → Misses P s t line → (P (Word word.End) → ⊥) →
    ((kind : TokenKind) (l : Line) → (P kind → ⊥) → feed r kind l ≡ failed) → IsWaiting r → Refuses (At line) r s t
missed_at r P s t line m end none waits =
    subst (λ z. Refuses (At line) r s z) (sym m.same) (record { sticks = fails (At line) r s (missing_fails r P s.left m.missing end none) waits; reports = m.reported })

pub missed : (fault : ParseFault) (X : Type 0) (r : Reader) (P : TokenKind → Type 0) (s t : State) → OnAt (Misses P s t) fault → Supposes fault X → (P (Word word.End) → ⊥) →
    ((kind : TokenKind) (l : Line) → (P kind → ⊥) → feed r kind l ≡ failed) → IsWaiting r → Refuses fault r s t
missed (At line) X r P s t m h end none waits = missed_at r P s t line m end none waits
missed Memory X r P s t m h end none waits = absurd h
missed other X r P s t m h end none waits = absurd m

-- the same where it can't be missing
kind_missed : (P : TokenKind → Type 0) (left : List Lexeme) → (P (Word word.End) → ⊥) → P (first_kind left) → (Begin P left → ⊥) → ⊥
kind_missed P [] end h missing = end h
kind_missed P (first ∷ after) end h missing = missing h

pub never_missed : (fault : ParseFault) (X : Type 0) (r : Reader) (P : TokenKind → Type 0) (s t : State) → OnAt (Misses P s t) fault → Supposes fault X → Begin P s.left → Refuses fault r s t
never_missed (At line) X r P s t m h next = absurd (m.missing next)
never_missed Memory X r P s t m h next = absurd h
never_missed other X r P s t m h next = absurd m

pub never_missed_ahead : (fault : ParseFault) (X : Type 0) (r : Reader) (P : TokenKind → Type 0) (s t : State) → OnAt (Misses P s t) fault → Supposes fault X →
    (P (Word word.End) → ⊥) → P (first_kind s.left) → Refuses fault r s t
never_missed_ahead (At line) X r P s t m h end next = absurd (kind_missed P s.left end next m.missing)
never_missed_ahead Memory X r P s t m h end next = absurd h
never_missed_ahead other X r P s t m h end next = absurd m

-- ---- tokens alone

close_parenthesis_fails : (k : Line → Reader) (kind : TokenKind) (l : Line) → (IsKind (Sign sign.CloseParenthesis) kind → ⊥) → close_parenthesis k kind l ≡ failed
close_parenthesis_fails k (Sign sign.CloseParenthesis) l h = absurd (h refl)
close_parenthesis_fails k kind l h = refl

close_bracket_fails : (k : Line → Reader) (kind : TokenKind) (l : Line) → (IsKind (Sign sign.CloseBracket) kind → ⊥) → close_bracket k kind l ≡ failed
close_bracket_fails k (Sign sign.CloseBracket) l h = absurd (h refl)
close_bracket_fails k kind l h = refl

equals_fails : (k : Line → Reader) (kind : TokenKind) (l : Line) → (IsKind (Sign sign.Assign) kind → ⊥) → equals k kind l ≡ failed
equals_fails k (Sign sign.Assign) l h = absurd (h refl)
equals_fails k kind l h = refl

comma_fails : (k : Line → Reader) (kind : TokenKind) (l : Line) → (IsKind (Sign sign.Comma) kind → ⊥) → comma k kind l ≡ failed
comma_fails k (Sign sign.Comma) l h = absurd (h refl)
comma_fails k kind l h = refl

do_fails : (k : Line → Reader) (kind : TokenKind) (l : Line) → (IsKind (Word word.Do) kind → ⊥) → do_ k kind l ≡ failed
do_fails k (Word word.Do) l h = absurd (h refl)
do_fails k kind l h = refl

then_fails : (k : Line → Reader) (kind : TokenKind) (l : Line) → (IsKind (Word word.Then) kind → ⊥) → then_ k kind l ≡ failed
then_fails k (Word word.Then) l h = absurd (h refl)
then_fails k kind l h = refl

until_fails : (k : Line → Reader) (kind : TokenKind) (l : Line) → (IsKind (Word word.Until) kind → ⊥) → until_ k kind l ≡ failed
until_fails k (Word word.Until) l h = absurd (h refl)
until_fails k kind l h = refl

name_fails : (k : Line → Bytes → Reader) (kind : TokenKind) (l : Line) → (IsName kind → ⊥) → name k kind l ≡ failed
name_fails k (Name n) l h = absurd (h tt)
name_fails k kind l h = refl

pub no_close_parenthesis : (fault : ParseFault) (X : Type 0) (k : Line → Reader) (s t : State) → OnAt (Misses (IsKind (Sign sign.CloseParenthesis)) s t) fault → Supposes fault X → Refuses fault (token (close_parenthesis k)) s t
no_close_parenthesis fault X k s t m h = missed fault X _ _ s t m h (λ is. cc) (close_parenthesis_fails k) tt

pub no_close_bracket : (fault : ParseFault) (X : Type 0) (k : Line → Reader) (s t : State) → OnAt (Misses (IsKind (Sign sign.CloseBracket)) s t) fault → Supposes fault X → Refuses fault (token (close_bracket k)) s t
no_close_bracket fault X k s t m h = missed fault X _ _ s t m h (λ is. cc) (close_bracket_fails k) tt

pub no_equals : (fault : ParseFault) (X : Type 0) (k : Line → Reader) (s t : State) → OnAt (Misses (IsKind (Sign sign.Assign)) s t) fault → Supposes fault X → Refuses fault (token (equals k)) s t
no_equals fault X k s t m h = missed fault X _ _ s t m h (λ is. cc) (equals_fails k) tt

pub no_comma : (fault : ParseFault) (X : Type 0) (k : Line → Reader) (s t : State) → OnAt (Misses (IsKind (Sign sign.Comma)) s t) fault → Supposes fault X → Refuses fault (token (comma k)) s t
no_comma fault X k s t m h = missed fault X _ _ s t m h (λ is. cc) (comma_fails k) tt

pub no_do : (fault : ParseFault) (X : Type 0) (k : Line → Reader) (s t : State) → OnAt (Misses (IsKind (Word word.Do)) s t) fault → Supposes fault X → Refuses fault (token (do_ k)) s t
no_do fault X k s t m h = missed fault X _ _ s t m h (λ is. cc) (do_fails k) tt

pub no_then : (fault : ParseFault) (X : Type 0) (k : Line → Reader) (s t : State) → OnAt (Misses (IsKind (Word word.Then)) s t) fault → Supposes fault X → Refuses fault (token (then_ k)) s t
no_then fault X k s t m h = missed fault X _ _ s t m h (λ is. cc) (then_fails k) tt

pub no_until : (fault : ParseFault) (X : Type 0) (k : Line → Reader) (s t : State) → OnAt (Misses (IsKind (Word word.Until)) s t) fault → Supposes fault X → Refuses fault (token (until_ k)) s t
no_until fault X k s t m h = missed fault X _ _ s t m h (λ is. cc) (until_fails k) tt

pub no_name : (fault : ParseFault) (X : Type 0) (k : Line → Bytes → Reader) (s t : State) → OnAt (Misses IsName s t) fault → Supposes fault X → Refuses fault (token (name k)) s t
no_name fault X k s t m h = missed fault X _ _ s t m h (λ is. is) (name_fails k) tt

-- an `end` that is missing: at the end of the text the reader sees one, which gets it to no chunk
end_fails : (k : Line → Reader) (kind : TokenKind) (l : Line) → (IsKind (Word word.End) kind → ⊥) → end_ k kind l ≡ failed
end_fails k (Word word.End) l h = absurd (h refl)
end_fails k kind l h = refl

end_missing : (k : Line → Reader) (s : State) (left : List Lexeme) (line : ℕ) → s.left ≡ left → (Begin (IsKind (Word word.End)) left → ⊥) → line ≡ line_or s.final s.left →
    ((l : Line) (b : Block) → k l ≡ chunk b → ⊥) → Refuses (At line) (token (end_ k)) s s
end_missing k s [] line is missing reported not = record { sticks = ends_stuck (At line) (token (end_ k)) s is not tt; reports = reported }
end_missing k s (first ∷ left) line is missing reported not = record {
  sticks = fails (At line) (token (end_ k)) s (λ l. rw is (end_fails k first.kind l missing)) tt;
  reports = reported;
}

end_missed : (k : Line → Reader) (s t : State) (line : ℕ) → Misses (IsKind (Word word.End)) s t line → ((l : Line) (b : Block) → k l ≡ chunk b → ⊥) → Refuses (At line) (token (end_ k)) s t
end_missed k s t line m not = subst (λ z. Refuses (At line) (token (end_ k)) s z) (sym m.same) (end_missing k s s.left line refl m.missing m.reported not)

pub no_end : (fault : ParseFault) (X : Type 0) (k : Line → Reader) (s t : State) → OnAt (Misses (IsKind (Word word.End)) s t) fault → Supposes fault X →
    ((l : Line) (b : Block) → k l ≡ chunk b → ⊥) → Refuses fault (token (end_ k)) s t
no_end (At line) X k s t m h not = end_missed k s t line m not
no_end Memory X k s t m h not = absurd h
no_end other X k s t m h not = absurd m
