-- Tests of the next token.
use Rattle.std.proofs.Common.{◌≡◌, ◌↔◌, ◌≤◌, ℕ, Bool, false, IsTrue, List, [], ◌∷◌, length, drop, Option, Some, None, IfNone, Result, Ok, Err, IfErr, MatchResult, ℤ, refl, slice_get, add-one, ◌+◌, arith, rules, ap, sym, subst, suc, zero, inl, inr, ◌∙◌}
use Rattle.std.proofs.lemmas.Bool.{false≢true}
use Rattle.lua_lexer.specs.declared.tokens.Token.{Token}
use Rattle.lua_lexer.specs.declared.tokens.TokenKind.{TokenKind}
use Rattle.lua_grammar.specs.Printing.{lexeme, lexemes}
use Rattle.lua_parser_base.specs.declared.cursor.Parser.{Parser}
use Rattle.lua_parser_base.specs.declared.faults.ParseFault.{ParseFault}
use Rattle.lua_parser_base.specs.declared.faults.ParseFault.TheVariants.{At, Depth, Memory}
use Rattle.lua_parser_base.specs.declared.nesting.Nesting.{Nesting}
use Rattle.lua_parser_base.specs.States.{State, last_line, state}
use Rattle.lua_parser_base.specs.Next.{Begin, IsMemory, IsKind, IsName, IsText, IsNumber, Ends, IsDepth, IsTooDeep, HasNoPart, IsOnLine, CannotOpen, ahead, Misses, OnAt, line_or}
use Rattle.lua_lexer.specs.declared.tokens.TokenKind.TheVariants.{Name, Text, Number, Word as WordKind, Sign as SignKind}
use Rattle.lua_lexer.specs.declared.words.Word.TheVariants.{End}
use Rattle.lua_lexer.specs.declared.signs.Sign.TheVariants.{Assign}
use Rattle.lua_parser_base.specs.Kinds.{BeginNamed}
use Rattle.lua_parser_base.proofs.Steps.{first_left}

pub next_left : (tokens : List Token) (p : Parser) (token : Token) → slice_get tokens p.index ≡ Some token →
    (state tokens p).left ≡ lexeme token ∷ lexemes (drop (suc p.index) tokens)
unfolding state
next_left tokens p token is = ap lexemes (first_left tokens p.index token is)

none_dropped : (tokens : List Token) (index : ℕ) → length tokens ≤ index → drop index tokens ≡ []
none_dropped [] zero all = refl
none_dropped [] (suc n) all = refl
none_dropped (x ∷ xs) zero all = absurd (grind arith)
none_dropped (x ∷ xs) (suc n) all = none_dropped xs n (grind arith)

pub none_left : (tokens : List Token) (p : Parser) → length tokens ≤ p.index → (state tokens p).left ≡ []
unfolding state
none_left tokens p all = ap lexemes (none_dropped tokens p.index all)

-- a token is next, or none
pub tests_next : (tokens : List Token) (p : Parser) (token : Token) (P : TokenKind → Type 0) (b : Bool) → slice_get tokens p.index ≡ Some token →
    (IsTrue b ↔ P token.kind) → IsTrue b ↔ Begin P (state tokens p).left
tests_next tokens p token P b is test = rw (next_left tokens p token is) test

pub tests_none : (tokens : List Token) (p : Parser) (P : TokenKind → Type 0) → length tokens ≤ p.index → IsTrue false ↔ Begin P (state tokens p).left
tests_none tokens p P all = rw (none_left tokens p all) (search rules)

pub not_next : (tokens : List Token) (p : Parser) (token : Token) (P : TokenKind → Type 0) → slice_get tokens p.index ≡ Some token → (P token.kind → ⊥) →
    Begin P (state tokens p).left → ⊥
not_next tokens p token P is not next = not (rw (next_left tokens p token is) at next)

pub none_next : (tokens : List Token) (p : Parser) (P : TokenKind → Type 0) → length tokens ≤ p.index → Begin P (state tokens p).left → ⊥
none_next tokens p P all next = rw (none_left tokens p all) at next

pub line_of_next : (tokens : List Token) (p : Parser) (token : Token) → slice_get tokens p.index ≡ Some token →
    At token.line ≡ At (line_or (last_line (lexemes tokens)) (state tokens p).left)
line_of_next tokens p token is = rw (next_left tokens p token is) refl

pub line_of_last : (tokens : List Token) (p : Parser) → length tokens ≤ p.index → At (last_line (lexemes tokens)) ≡ At (line_or (last_line (lexemes tokens)) (state tokens p).left)
line_of_last tokens p all = rw (none_left tokens p all) refl

pub sees_next : (tokens : List Token) (p : Parser) (token : Token) → slice_get tokens p.index ≡ Some token → token.kind ≡ ahead (state tokens p)
sees_next tokens p token is = rw (next_left tokens p token is) refl

pub sees_none : (tokens : List Token) (p : Parser) → length tokens ≤ p.index → WordKind End ≡ ahead (state tokens p)
sees_none tokens p all = rw (none_left tokens p all) refl

-- a name and `=` are next, or not
second_left : (tokens : List Token) (index : ℕ) (token next : Token) → slice_get tokens index ≡ Some token → slice_get tokens (index + 1) ≡ Some next →
    drop index tokens ≡ token ∷ next ∷ drop (suc (suc index)) tokens
second_left tokens index token next is then =
    first_left tokens index token is ∙ ap (λ xs. token ∷ xs) (first_left tokens (suc index) next (rw (add-one index) at then))

pub named_next : (tokens : List Token) (p : Parser) (token next : Token) (b : Bool) → slice_get tokens p.index ≡ Some token → slice_get tokens (p.index + 1) ≡ Some next →
    (IsTrue b ↔ IsName token.kind × (next.kind ≡ SignKind Assign)) → IsTrue b ↔ BeginNamed (state tokens p).left
unfolding state
named_next tokens p token next b is then test = rw (second_left tokens p.index token next is then) test

one_dropped : (tokens : List Token) (index : ℕ) (token : Token) → slice_get tokens index ≡ Some token → length tokens ≤ index + 1 → drop index tokens ≡ token ∷ []
one_dropped tokens index token is all =
    first_left tokens index token is ∙ ap (λ xs. token ∷ xs) (none_dropped tokens (suc index) (omega (arith, all)))

pub named_one : (tokens : List Token) (p : Parser) (token : Token) → slice_get tokens p.index ≡ Some token → length tokens ≤ p.index + 1 →
    IsTrue false ↔ BeginNamed (state tokens p).left
unfolding state
named_one tokens p token is all = rw (one_dropped tokens p.index token is all) (search rules)

pub named_none : (tokens : List Token) (p : Parser) → length tokens ≤ p.index → IsTrue false ↔ BeginNamed (state tokens p).left
named_none tokens p all = rw (none_left tokens p all) (search rules)

-- the fault At where no such token is next
pub final_of : (tokens : List Token) (p : Parser) → (state tokens p).final ≡ last_line (lexemes tokens)
unfolding state
final_of tokens p = refl

pub missed : (tokens : List Token) (p q : Parser) (P : TokenKind → Type 0) (fault : ParseFault) → state tokens q ≡ state tokens p → (Begin P (state tokens p).left → ⊥) →
    fault ≡ At (line_or (last_line (lexemes tokens)) (state tokens q).left) → OnAt (Misses P (state tokens p) (state tokens q)) fault
missed tokens p q P fault same missing is =
    rw is (record {
      same = same;
      missing = missing;
      reported = ap (λ final. line_or final (state tokens q).left) (sym (final_of tokens q)) ∙ ap (λ s. line_or s.final s.left) same;
    })

pub if_none : {A P : Type 0} (o : Option A) → P → IfNone o P
if_none None h = h
if_none (Some x) h = tt

ended_at : (tokens : List Token) (p : Parser) → length tokens ≤ p.index → Ends (state tokens p) (line_or (last_line (lexemes tokens)) (state tokens p).left)
ended_at tokens p all =
    let none = none_left tokens p all in
    record { nothing = none; reported = ap (line_or (last_line (lexemes tokens))) none ∙ sym (final_of tokens p) }

pub ended : (tokens : List Token) (p : Parser) (fault : ParseFault) → length tokens ≤ p.index → fault ≡ At (line_or (last_line (lexemes tokens)) (state tokens p).left) → OnAt (Ends (state tokens p)) fault
ended tokens p fault all is = rw is (ended_at tokens p all)

pub depth_ended : (tokens : List Token) (p : Parser) (fault : ParseFault) → length tokens ≤ p.index → fault ≡ At (line_or (last_line (lexemes tokens)) (state tokens p).left) → IsDepth (state tokens p) fault
depth_ended tokens p fault all is = rw is (ended_at tokens p all)

pub open_ended : (tokens : List Token) (p : Parser) (fault : ParseFault) → length tokens ≤ p.index → fault ≡ At (line_or (last_line (lexemes tokens)) (state tokens p).left) → CannotOpen (state tokens p) fault
open_ended tokens p fault all is = rw is (ended_at tokens p all)

pub on_next_line : (tokens : List Token) (p : Parser) (token : Token) → slice_get tokens p.index ≡ Some token → IsOnLine token.line (state tokens p).left
on_next_line tokens p token is = rw (next_left tokens p token is) refl

-- where it is too deep
pub is_too_deep : (at : Nesting) (s : State) (fault : ParseFault) → 200 ≤ at.depth → IsDepth s fault → IsTooDeep at s fault
is_too_deep at s (At line) deep h = h
is_too_deep at s (Depth line) deep h = (deep, h)
is_too_deep at s other deep h = h

pub part_too_deep : (at : Nesting) (s : State) (fault : ParseFault) → IsTooDeep at s fault → HasNoPart at s fault
part_too_deep at s (At line) h = h
part_too_deep at s (Depth line) h = (inl h.0, h.1)
part_too_deep at s other h = h

pub no_room : (at : Nesting) (s : State) (fault : ParseFault) → at.room ≤ 1 → IsDepth s fault → HasNoPart at s fault
no_room at s (At line) room h = h
no_room at s (Depth line) room h = (inr room, h)
no_room at s other room h = h

pub no_name : (kind : TokenKind) → ((name : List ℕ) → kind ≡ Name name → ⊥) → IsName kind → ⊥
no_name (Name n) not is = not n refl
no_name other not is = is

pub no_text : (kind : TokenKind) → ((bytes : List ℕ) → kind ≡ Text bytes → ⊥) → IsText kind → ⊥
no_text (Text bytes) not is = not bytes refl
no_text other not is = is

pub no_number : (kind : TokenKind) → ((n : ℤ) → kind ≡ Number n → ⊥) → IsNumber kind → ⊥
no_number (Number n) not is = not n refl
no_number other not is = is

pub kind_next : (tokens : List Token) (p : Parser) (token : Token) (kind : TokenKind) → slice_get tokens p.index ≡ Some token →
    Begin (IsKind kind) (state tokens p).left → token.kind ≡ kind
kind_next tokens p token kind is next = rw (next_left tokens p token is) at next

-- both of two tests
pub both : (b : Bool) (P Q : Type 0) → P → (IsTrue b ↔ Q) → IsTrue b ↔ P × Q
both b P Q h test = (λ t. (h, test.0 t), λ k. test.1 k.1)

pub neither : (b : Bool) (P Q : Type 0) → b ≡ false → (IsTrue b ↔ P) → IsTrue b ↔ P × Q
neither b P Q fails test = (λ t. absurd (false≢true (sym fails ∙ t)), λ k. test.1 k.0)

pub untested : (b : Bool) (P : Type 0) → b ≡ false → (IsTrue b ↔ P) → P → ⊥
untested b P fails test h = false≢true (sym fails ∙ test.1 h)

-- what is said of a fault is said of the same fault where it is handed on
pub on_err : {A : Type 0} {P Q : ParseFault → Type 0} (r : Result A ParseFault) → IfErr r P → ((fault : ParseFault) → P fault → Q fault) → IfErr r Q
on_err (Ok x) h f = tt
on_err (Err fault) h f = f fault h

-- what fails as memory ran out alone
pub on_memory : {A : Type 0} (P : A → Type 0) (Q : ParseFault → Type 0) (r : Result A ParseFault) → Q Memory → MatchResult r P IsMemory → IfErr r Q
on_memory P Q (Ok x) q h = tt
on_memory P Q (Err fault) q h = subst Q (sym h) q

pub on_want : {A : Type 0} (Q : ParseFault → Type 0) (r : Result A ParseFault) → Q Memory → IfErr r IsMemory → IfErr r Q
on_want Q (Ok x) q h = tt
on_want Q (Err fault) q h = subst Q (sym h) q
