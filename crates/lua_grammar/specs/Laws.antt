-- Laws of the grammar, and a chunk by hand.
use Rattle.std.specs.Prelude.{◌≡◌, ℕ, ◌⊎◌, false, true, List, [], ◌∷◌, ◌++◌, length, Some, pos, codes}
use Rattle.lua_ast.specs.declared.expressions.BinOp.TheVariants.{Pow, Eq}
use Rattle.lua_ast.specs.declared.expressions.Expr.{Expr}
use Rattle.lua_ast.specs.declared.expressions.ExprKind as kind
use Rattle.lua_ast.specs.declared.expressions.UnOp.TheVariants as unary
use Rattle.lua_ast.specs.declared.statements.StmtKind as stmt
use Rattle.lua_ast.specs.declared.programs.Capture.TheVariants.{Slot}
use Rattle.lua_ast.specs.declared.programs.Function.{Function}
use Rattle.lua_ast.specs.declared.programs.Program.{Program}
use Rattle.lua_lexer.specs.declared.signs.Sign.{Sign}
use Rattle.lua_lexer.specs.declared.signs.Sign.TheVariants.{Assign, OpenParenthesis, CloseParenthesis}
use Rattle.lua_lexer.specs.declared.tokens.Token.{Token}
use Rattle.lua_lexer.specs.declared.tokens.TokenKind.TheVariants.{Number}
use Rattle.lua_lexer.specs.declared.words.Word.TheVariants.{Local, Return, Function as FunctionWord, End}
use Rattle.lua_grammar.specs.declared.operators.Operator.{Operator}
use Rattle.lua_grammar.specs.declared.operators.Operator.TheVariants.{Plain}
use Rattle.lua_grammar.specs.Tree.{Line, Bytes, Exp, Block}
use Rattle.lua_grammar.specs.Tree as tree
use Rattle.lua_grammar.specs.Printing.{Lexeme, lexemes, a_kind, a_word, a_sign, a_name, print_block}
use Rattle.lua_grammar.specs.Validity.{IsValid, IsValidBlock}
use Rattle.lua_grammar.specs.Scopes.{Frame, look, with_locals}
use Rattle.lua_grammar.specs.Resolution.{SharedList, node, statement}
use Rattle.lua_grammar.specs.Waiting.{chunk}
use Rattle.lua_grammar.specs.Reading.{read, read_chunk, run}

-- one of two trees is valid, and the other isn't
abbrev pub IsOneValid : Exp → Exp → Type 0
IsOneValid some other = (IsValid false some × (IsValid false other → ⊥)) ⊎ ((IsValid false some → ⊥) × IsValid false other)

-- the first tree is valid, and the second isn't
abbrev pub IsValidNot : Exp → Exp → Type 0
IsValidNot some other = IsValid false some × (IsValid false other → ⊥)

-- the two ways to group three operands, here each `nil` on a line of its own
abbrev pub grouped_left : Operator → Operator → Exp
grouped_left first second = tree.binary (tree.binary (tree.nil 1) first 2 (tree.nil 3)) second 4 (tree.nil 5)

abbrev pub grouped_right : Operator → Operator → Exp
grouped_right first second = tree.binary (tree.nil 1) first 2 (tree.binary (tree.nil 3) second 4 (tree.nil 5))

-- `-x^y` and `not x == y`
abbrev pub minus_of_power : Exp
minus_of_power = tree.unary unary.Minus 1 (tree.binary (tree.nil 2) (Plain Pow) 3 (tree.nil 4))

abbrev pub power_of_minus : Exp
power_of_minus = tree.binary (tree.unary unary.Minus 1 (tree.nil 2)) (Plain Pow) 3 (tree.nil 4)

abbrev pub not_before_equal : Exp
not_before_equal = tree.binary (tree.unary unary.Not 1 (tree.nil 2)) (Plain Eq) 3 (tree.nil 4)

abbrev pub not_of_equal : Exp
not_of_equal = tree.unary unary.Not 1 (tree.binary (tree.nil 2) (Plain Eq) 3 (tree.nil 4))

-- the first token is that sign
abbrev pub BeginWith : Sign → List Token → Type 0
BeginWith sign tokens = (line : ℕ) × (after : List Lexeme) × (lexemes tokens ≡ a_sign sign line after)

-- `local a = 1` on line 1, `return function() return a end` on line 2
abbrev pub tokens_by_hand : List Lexeme
tokens_by_hand =
    a_word Local 1 (a_name 1 (codes "a") (a_sign Assign 1 (a_kind (Number (pos 1)) 1
    (a_word Return 2 (a_word FunctionWord 2 (a_sign OpenParenthesis 2 (a_sign CloseParenthesis 2
    (a_word Return 2 (a_name 2 (codes "a") (a_word End 2 []))))))))))

-- the chunk: it has one local, which gets 1, and returns a closure of function 1
pub record IsChunkByHand (f : Function) : Type 0 where
  pub file : f.file ≡ 0
  pub params : f.params ≡ 0
  pub vararg : f.vararg ≡ true
  pub slots : f.slots ≡ 1
  pub captures : f.captures.items ≡ []
  pub begins : f.line ≡ 1
  pub targets : SharedList ℕ
  pub values : SharedList Expr
  pub returned : SharedList Expr
  pub body : f.body.value.items ≡ statement 1 (stmt.Local targets values) ∷ statement 2 (stmt.Return returned) ∷ []
  pub the_targets : targets.value.items ≡ 0 ∷ []
  pub the_values : values.value.items ≡ node 1 (kind.Number (pos 1)) ∷ []
  pub the_returned : returned.value.items ≡ node 2 (kind.Function 1) ∷ []

-- function 1: it captures slot 0 of the chunk, and returns it
pub record IsInnerByHand (f : Function) : Type 0 where
  pub file : f.file ≡ 0
  pub params : f.params ≡ 0
  pub vararg : f.vararg ≡ false
  pub slots : f.slots ≡ 0
  pub captures : f.captures.items ≡ Slot 0 ∷ []
  pub begins : f.line ≡ 2
  pub returned : SharedList Expr
  pub body : f.body.value.items ≡ statement 2 (stmt.Return returned) ∷ []
  pub the_returned : returned.value.items ≡ node 2 (kind.Captured 0) ∷ []

pub record IsProgramByHand (program : Program) : Type 0 where
  pub chunk : Function
  pub inner : Function
  pub files : program.files ≡ [] ∷ []
  pub functions : program.functions.items ≡ chunk ∷ inner ∷ []
  pub is_chunk : IsChunkByHand chunk
  pub is_inner : IsInnerByHand inner

-- what is printed stands before the rest, whatever it is
pub record IsBefore (f : List Lexeme → List Lexeme) : Type 0 where
  pub splits : (xs ys : List Lexeme) → f (xs ++ ys) ≡ f xs ++ ys

-- a valid chunk that has these tokens
abbrev pub IsTreeOf : List Lexeme → Block → Type 0
IsTreeOf tokens block = IsValidBlock true false block × (print_block block [] ≡ tokens)

-- the tokens begin those of a chunk that is read
abbrev pub BeginChunk : List Lexeme → Type 0
BeginChunk tokens = (rest : List Lexeme) × (block : Block) × (read (tokens ++ rest) ≡ chunk block)

-- further tokens lead a reader of a chunk that has taken these to its chunk
abbrev pub GoesOnToChunk : List Lexeme → Type 0
GoesOnToChunk tokens = (rest : List Lexeme) × (block : Block) × (run read_chunk (tokens ++ rest) ≡ chunk block)

-- a chunk without statements
pub record IsEmptyProgram (program : Program) : Type 0 where
  pub chunk : Function
  pub files : program.files ≡ [] ∷ []
  pub functions : program.functions.items ≡ chunk ∷ []
  pub file : chunk.file ≡ 0
  pub params : chunk.params ≡ 0
  pub vararg : chunk.vararg ≡ true
  pub slots : chunk.slots ≡ 0
  pub captures : chunk.captures.items ≡ []
  pub body : chunk.body.value.items ≡ []
  pub begins : chunk.line ≡ 1

-- a name that was declared last is the local in the next slot, whatever it meant before, and nothing is captured for it
abbrev pub IsSeen : Bytes → Frame → List Frame → Type 0
IsSeen name f enclosing =
    let inner = with_locals (name ∷ []) f ∷ enclosing in look name inner ≡ (Some (Slot (length f.locals)), inner)

-- `a = f` and `(g)()`, the `(` on that line, as one statement: it is that of a call
abbrev pub one_call : Line → Block
one_call line =
    let called = tree.call (tree.variable 1 (codes "f")) (tree.args line (tree.one (tree.prefix (tree.variable line (codes "g")))) line) in
    let assigned = tree.one (tree.prefix (tree.call called (tree.no_args line line))) in
    tree.statements (tree.more_stats tree.no_stats (tree.assign (tree.one_var (tree.variable 1 (codes "a"))) 1 assigned) tree.bare)

-- the same as two statements, with a `;` between them or without
abbrev pub two_statements : Line → tree.End → Block
two_statements line between =
    let assigned = tree.one (tree.prefix (tree.variable 1 (codes "f"))) in
    let called = tree.paren line (tree.prefix (tree.variable line (codes "g"))) line in
    tree.statements (tree.more_stats (tree.more_stats tree.no_stats (tree.assign (tree.one_var (tree.variable 1 (codes "a"))) 1 assigned) between)
    (tree.call_statement (tree.call called (tree.no_args line line))) tree.bare)

-- the first function is the chunk, which takes its arguments as `...` and captures nothing
pub record BeginsWithChunk (program : Program) : Type 0 where
  pub chunk : Function
  pub others : List Function
  pub functions : program.functions.items ≡ chunk ∷ others
  pub params : chunk.params ≡ 0
  pub vararg : chunk.vararg ≡ true
  pub captures : chunk.captures.items ≡ []
