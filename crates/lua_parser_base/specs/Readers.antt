-- Where a reader of tokens gets to between two states, and where it is refused.
use Rattle.std.specs.Prelude.{◌≡◌, List, [], ◌∷◌, ◌++◌}
use Rattle.lua_lexer.specs.declared.words.Word.TheVariants.{End}
use Rattle.lua_grammar.specs.Tree.{Block}
use Rattle.lua_grammar.specs.Printing.{Lexeme, a_word}
use Rattle.lua_grammar.specs.Grammar.{IsChunk}
use Rattle.lua_grammar.specs.Waiting.{Reader, chunk, IsWaiting}
use Rattle.lua_grammar.specs.Reading.{run}
use Rattle.lua_parser_base.specs.declared.faults.ParseFault.{ParseFault}
use Rattle.lua_parser_base.specs.declared.faults.ParseFault.TheVariants.{At, Memory}
use Rattle.lua_parser_base.specs.States.{State}
use Rattle.lua_parser_base.specs.Next.{line_or}

-- tokens that go on as those do up to their first, whatever stands after it; after the text stands an `end` alone
abbrev pub GoOn : List Lexeme → List Lexeme → Type 0
GoOn [] xs = xs ≡ a_word End 1 []
GoOn (first ∷ after) xs = (others : List Lexeme) × (xs ≡ first ∷ others)

-- The first reader becomes the second by the tokens between two states, whatever stands after the next one; and if the second
-- waits for a token, so does the first after those tokens.
pub record Moves (r : Reader) (s : State) (q : Reader) (t : State) : Type 0 where
  pub read : List Lexeme
  pub printed : s.left ≡ read ++ t.left
  pub runs : (xs : List Lexeme) → GoOn t.left xs → run r (read ++ xs) ≡ run q xs
  pub waits : IsWaiting q → IsWaiting (run r read)

-- which chunks a fault speaks of: `At` of every one, a limit's fault of those that stand for a program
abbrev pub Counts : ParseFault → Block → Type 0
Counts (At line) b = Unit {0}
Counts other b = IsChunk b

-- with `At` tokens go on as those do up to their first; with another fault as they all do, with that `end` after the text
abbrev pub GoOnWith : ParseFault → List Lexeme → List Lexeme → Type 0
GoOnWith (At line) left xs = GoOn left xs
GoOnWith other left xs = xs ≡ left ++ a_word End 1 []

-- with the fault `At` the reader waits for a token
abbrev pub WaitsWith : ParseFault → Reader → Type 0
WaitsWith (At line) r = IsWaiting r
WaitsWith other r = Unit {0}

-- With that fault a reader gets to no chunk by the tokens up to the next one at the second state and by those that go on. With
-- `At` the fault isn't late: after the tokens before the next one the reader waits for a token.
pub record Sticks (fault : ParseFault) (r : Reader) (s t : State) : Type 0 where
  pub read : List Lexeme
  pub printed : s.left ≡ read ++ t.left
  pub stuck : (xs : List Lexeme) → GoOnWith fault t.left xs → (b : Block) → run r (read ++ xs) ≡ chunk b → Counts fault b → ⊥
  pub waits : WaitsWith fault (run r read)

-- the fault `At` has the line of the next token, and of the last one at the end of the text
abbrev pub Reports : ParseFault → State → Type 0
Reports (At line) t = line ≡ line_or t.final t.left
Reports other t = Unit {0}

-- with that fault a reader is refused between two states
pub record Refuses (fault : ParseFault) (r : Reader) (s t : State) : Type 0 where
  pub sticks : Sticks fault r s t
  pub reports : Reports fault t

-- What a refusal may suppose: nothing where no tree goes on, and of a limit that. Being out of memory refuses no reader.
abbrev pub Supposes : ParseFault → Type 0 → Type 0
Supposes (At line) P = Unit {0}
Supposes Memory P = ⊥
Supposes other P = P

-- a reader that never gets to a chunk by a part alone
abbrev pub NeverChunk : {A : Type 0} → (A → Reader) → Type 0
NeverChunk {A} k = (x : A) (b : Block) → k x ≡ chunk b → ⊥
