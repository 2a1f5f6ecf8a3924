-- Lists of names and parameters that are read between two states. No scope sees them yet.
use Rattle.std.specs.Prelude.{◌≡◌, List, [], ◌∷◌, ◌++◌}
use Rattle.lua_lexer.specs.declared.tokens.TokenKind.{TokenKind}
use Rattle.lua_lexer.specs.declared.tokens.TokenKind.TheVariants.{Name as NameKind, Sign as SignKind}
use Rattle.lua_lexer.specs.declared.signs.Sign.{Sign}
use Rattle.lua_lexer.specs.declared.signs.Sign.TheVariants.{CloseParenthesis}
use Rattle.lua_grammar.specs.Tree.{Line, Bytes, NameList, Params}
use Rattle.lua_grammar.specs.Tree as tree
use Rattle.lua_grammar.specs.Printing.{print_names, print_params}
use Rattle.lua_grammar.specs.Validity.{takes_vararg}
use Rattle.lua_grammar.specs.Resolution.{names_of, names_of_params}
use Rattle.lua_parser_base.specs.declared.functions.Parameters.{Parameters}
use Rattle.lua_grammar.specs.Stopping.{IsNoComma}
use Rattle.lua_parser_base.specs.States.{State, Takes}
use Rattle.lua_parser_base.specs.Next.{ahead}

-- one name, which is put after others
pub record TakesName (before : List Bytes) (s : State) (names : List Bytes) (t : State) : Type 0 where
  pub line : Line
  pub name : Bytes
  pub taken : Takes (NameKind name) line s t
  pub listed : names ≡ before ++ name ∷ []

-- a sign, and a name after it
pub record TakesMember (sign : Sign) (dot : Line) (name : Bytes) (line : Line) (s t : State) : Type 0 where
  pub middle : State
  pub taken : Takes (SignKind sign) dot s middle
  pub named : Takes (NameKind name) line middle t

-- names with commas between them, which are put after others
pub record ReadsNames (before : List Bytes) (s : State) (names : List Bytes) (t : State) : Type 0 where
  pub tree : NameList
  pub printed : s.left ≡ print_names tree t.left
  pub scope : t.scope ≡ s.scope
  pub listed : names ≡ before ++ names_of tree

-- what stands after parameters: `)` where there are none, and no comma after the last name
abbrev pub ParametersEnd : Params → TokenKind → Type 0
ParametersEnd tree.no_params next = next ≡ SignKind CloseParenthesis
ParametersEnd (tree.names ns) next = IsNoComma next
ParametersEnd other next = Unit {0}

-- the parameters of a function, after those that aren't named there
pub record ReadsParameters (before : List Bytes) (s : State) (p : Parameters) (t : State) : Type 0 where
  pub tree : Params
  pub printed : s.left ≡ print_params tree t.left
  pub scope : t.scope ≡ s.scope
  pub listed : p.names.items ≡ before ++ names_of_params tree
  pub vararg : p.vararg ≡ takes_vararg tree
  pub ends : ParametersEnd tree (ahead t)
