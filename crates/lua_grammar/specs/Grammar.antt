-- Which tokens are which program.
use Rattle.std.specs.Prelude.{◌≡◌, ◌≤◌, true, false, List, [], ◌∷◌}
use Rattle.lua_ast.specs.declared.programs.Function.{Function}
use Rattle.lua_ast.specs.declared.programs.Program.{Program}
use Rattle.lua_ast.specs.declared.statements.Stmt.{Stmt}
use Rattle.lua_lexer.specs.declared.tokens.Token.{Token}
use Rattle.lua_grammar.specs.Tree.{Line, Block}
use Rattle.lua_grammar.specs.Printing.{Lexeme, lexemes, print_block}
use Rattle.lua_grammar.specs.Levels.{block_levels}
use Rattle.lua_grammar.specs.Validity.{IsValidBlock}
use Rattle.lua_grammar.specs.Scopes.{Scope, enter}
use Rattle.lua_grammar.specs.Resolution.{Opens, EndsFunction}

-- the line of the first token, 1 of none
abbrev pub first_line : List Lexeme → Line
first_line [] = 1
first_line (first ∷ after) = first.line

-- before the chunk, which is itself a function
abbrev pub outside : Scope
outside = record { functions = []; enclosing = [] }

-- the chunk is a function without parameters that takes more arguments, number 0 of a program of one file without a name
abbrev pub ResolvesChunk : Line → Block → Program → Type 0
ResolvesChunk line chunk program =
    (kept : Function) × (out : List Stmt) × (m : Scope) × (t : Scope) × Opens chunk (enter [] kept outside) out m
    × EndsFunction line [] true out outside m t × (program.functions.items ≡ t.functions) × (program.files ≡ [] ∷ [])

-- a valid chunk within the limits, which stands for a program
pub record IsChunk (tree : Block) : Type 0 where
  pub valid : IsValidBlock true false tree
  pub shallow : block_levels tree ≤ 200
  pub line : Line
  pub program : Program
  pub resolved : ResolvesChunk line tree program

-- the tokens are those of a valid chunk, and the program is what it stands for
pub record IsChunkOf (tokens : List Token) (program : Program) (chunk : Block) : Type 0 where
  pub printed : lexemes tokens ≡ print_block chunk []
  pub valid : IsValidBlock true false chunk
  pub shallow : block_levels chunk ≤ 200
  pub resolved : ResolvesChunk (first_line (lexemes tokens)) chunk program

-- the tokens are those of some chunk, and the program is what it stands for
abbrev pub IsProgramOf : List Token → Program → Type 0
IsProgramOf tokens program = (chunk : Block) × IsChunkOf tokens program chunk
