-- What is read of a part of a production (Lua 5.1 Reference Manual, 8), where what stands before the part is kept.
use Rattle.std.specs.Prelude.{◌≡◌, ◌<◌, ◌≤◌, ◌⊎◌, ℕ, List, min, IfNone}
use Rattle.lua_ast.specs.declared.statements.Arm.{Arm}
use Rattle.lua_ast.specs.declared.statements.Stmt.{Stmt}
use Rattle.lua_lexer.specs.declared.tokens.TokenKind.TheVariants.{Name as NameKind, Sign as SignKind, Word as WordKind}
use Rattle.lua_lexer.specs.declared.signs.Sign.TheVariants.{Assign, Colon, Comma, OpenBrace, OpenBracket, OpenParenthesis}
use Rattle.lua_lexer.specs.declared.signs.Sign.TheVariants.{CloseBrace, CloseBracket, CloseParenthesis}
use Rattle.lua_lexer.specs.declared.words.Word.TheVariants.{If}
use Rattle.lua_grammar.specs.Grammar.{first_line}
use Rattle.lua_grammar.specs.Operators.{right_level}
use Rattle.lua_grammar.specs.Stopping.{EndsAt}
use Rattle.lua_grammar.specs.Tree.{Bytes, Line}
use Rattle.lua_parser_base.specs.declared.cursor.Named.{Named}
use Rattle.lua_parser_base.specs.declared.faults.ParseFault.{ParseFault}
use Rattle.lua_parser_base.specs.declared.functions.Begun.{Begun}
use Rattle.lua_parser_base.specs.declared.functions.Parameters.{Parameters}
use Rattle.lua_parser_base.specs.declared.nesting.Nesting.{Nesting}
use Rattle.lua_parser_base.specs.declared.nodes.Built.{Built}
use Rattle.lua_parser_base.specs.declared.nodes.Item.{Item}
use Rattle.lua_parser_base.specs.declared.nodes.Items.{Items}
use Rattle.lua_parser_base.specs.declared.nodes.Prefix.{Prefix}
use Rattle.lua_parser_base.specs.declared.nodes.Values.{Values}
use Rattle.lua_parser_base.specs.declared.operators.Infix.{Infix}
use Rattle.lua_parser_base.specs.declared.statement_nodes.Range.{Range}
use Rattle.lua_parser_base.specs.Functions.{Enters}
use Rattle.lua_parser_base.specs.Nesting.{IsPart, IsWithin}
use Rattle.lua_parser_base.specs.Next.{IsNext, IsTooDeep, ahead}
use Rattle.lua_parser_base.specs.Nodes.{AddsItem}
use Rattle.lua_parser_base.specs.Reads.{ReadsArgs, ReadsExp, ReadsField, ReadsFields}
use Rattle.lua_parser_base.specs.ReadsNames.{ReadsParameters}
use Rattle.lua_parser_base.specs.ReadsStatements.{ReadsArms, ReadsBlock, ReadsStep, ReadsValue}
use Rattle.lua_parser_base.specs.Refusals.{RefusesFrom, RefusesTable}
use Rattle.lua_parser_base.specs.StatementRefusals.{RefusesBlock, RefusesStat}
use Rattle.lua_parser_base.specs.Standing.{FirstFault}
use Rattle.lua_parser_base.specs.Standing as Standing
use Rattle.lua_parser_base.specs.States.{OpensOnLine, State, Takes, TakesOperator}

-- the operand after an operator
pub record ReadsRight (at : Nesting) (left : Built) (found : Infix) (m : State) (right : Built) (t : State) : Type 0 where
  pub inner : Nesting
  pub part : IsPart at inner
  pub reads : ReadsExp inner m right t
  pub ends : EndsAt (right_level found.op) (ahead t)
  pub level : min (right_level found.op) 7 ≤ right.level
  pub below : left.height < at.room

-- however what stands before the operator was read
abbrev pub RefusesRight : Nesting → Built → Infix → State → State → ParseFault → Type 0
RefusesRight at left found m t fault =
    (lowest : ℕ) (s a : State) → lowest ≤ 7 → min lowest 7 ≤ left.level → ReadsExp at s left a → TakesOperator left.level lowest found a m
    → RefusesFrom lowest at s t fault

abbrev pub FirstFaultOfRight : Nesting → Built → Infix → State → State → ParseFault → Type 0
FirstFaultOfRight at left found m t fault =
    (lowest : ℕ) (s a : State) → ReadsExp at s left a → TakesOperator left.level lowest found a m
    → FirstFault (Standing.here (Standing.exp lowest) at) s t fault

-- a key in brackets after a prefix
pub record ReadsKey (at : Nesting) (object : Prefix) (m : State) (key : Built) (open_at : Line) (t : State) : Type 0 where
  pub inner : Nesting
  pub inside : State
  pub after : State
  pub close_at : Line
  pub opens : Takes (SignKind OpenBracket) open_at m inside
  pub part : IsPart at inner
  pub reads : ReadsExp inner inside key after
  pub closes : Takes (SignKind CloseBracket) close_at after t
  pub below : object.height < at.room

-- arguments after a prefix
pub record ReadsGiven (at : Nesting) (callee : Prefix) (m : State) (values : Values) (line : Line) (t : State) : Type 0 where
  pub reads : ReadsArgs at m values t
  pub on_line : OpensOnLine m
  pub begins : line ≡ first_line m.left
  pub below : callee.height < at.room

-- the name of a method after a prefix
pub record ReadsMethodName (at : Nesting) (object : Prefix) (m : State) (name : Named) (t : State) : Type 0 where
  pub inside : State
  pub colon_at : Line
  pub colon : Takes (SignKind Colon) colon_at m inside
  pub named : Takes (NameKind name.name) name.line inside t
  pub below : object.height < at.room

-- the name of a method and arguments after a prefix
pub record ReadsNamed (at : Nesting) (object : Prefix) (m : State) (name : Named) (values : Values) (line : Line) (t : State) : Type 0 where
  pub inside : State
  pub after : State
  pub colon_at : Line
  pub colon : Takes (SignKind Colon) colon_at m inside
  pub named : Takes (NameKind name.name) name.line inside after
  pub reads : ReadsArgs at after values t
  pub on_line : OpensOnLine after
  pub begins : line ≡ first_line after.left
  pub below : object.height < at.room

-- the numbers of a loop
pub record ReadsRange (at : Nesting) (s : State) (range : Range) (t : State) : Type 0 where
  pub equals_at : Line
  pub comma_at : Line
  pub first : State
  pub second : State
  pub third : State
  pub last : State
  pub equals : Takes (SignKind Assign) equals_at s first
  pub from : ReadsValue at first range.from second
  pub comma : Takes (SignKind Comma) comma_at second third
  pub to : ReadsValue at third range.to last
  pub step : ReadsStep at last range.step t
  pub stops : IfNone range.step (IsNext (SignKind Comma) last → ⊥)

-- the parameters of a function, which begins there
pub record ReadsHead (line : Line) (first : List Bytes) (s : State) (begun : Begun) (t : State) : Type 0 where
  pub open_at : Line
  pub close_at : Line
  pub parameters : Parameters
  pub inside : State
  pub last : State
  pub after : State
  pub opens : Takes (SignKind OpenParenthesis) open_at s inside
  pub reads : ReadsParameters first inside parameters last
  pub closes : Takes (SignKind CloseParenthesis) close_at last after
  pub enters : Enters parameters line begun after.scope t.scope
  pub left : t.left ≡ after.left

-- the arms of an `if`, whose word stands on that line
pub record AfterArms (at : Nesting) (line : Line) (arms : List Arm) (s t : State) : Type 0 where
  pub inside : State
  pub taken : Takes (WordKind If) line s inside
  pub reads : (l : Line) → ReadsArms at l inside arms t

abbrev pub RefusesElse : Nesting → Line → List Arm → State → State → ParseFault → Type 0
RefusesElse at line arms m t fault = (s : State) → AfterArms at line arms s m → RefusesStat at s t fault

abbrev pub FirstFaultOfElse : Nesting → Line → List Arm → State → State → ParseFault → Type 0
FirstFaultOfElse at line arms m t fault = (s : State) → AfterArms at line arms s m → FirstFault (Standing.statement at) s t fault

-- one more item of a table constructor
pub record PushesField (at : Nesting) (before : Items) (m : State) (after : Items) (t : State) : Type 0 where
  pub inner : Nesting
  pub item : Item
  pub part : IsPart at inner
  pub reads : ReadsField inner m item t
  pub adds : AddsItem before item after

-- after the items of a table constructor that were read up to there
pub record AfterItems (at : Nesting) (items : Items) (s t : State) : Type 0 where
  pub open_at : Line
  pub inside : State
  pub opens : Takes (SignKind OpenBrace) open_at s inside
  pub reads : ReadsFields at inside items t
  pub more : IsNext (SignKind CloseBrace) t → ⊥

abbrev pub RefusesItem : Nesting → Items → State → State → ParseFault → Type 0
RefusesItem at items m t fault = (s : State) → AfterItems at items s m → RefusesTable at s t fault

abbrev pub FirstFaultOfItem : Nesting → Items → State → State → ParseFault → Type 0
FirstFaultOfItem at items m t fault = (s : State) → AfterItems at items s m → FirstFault (Standing.table at) s t fault

-- a block in another one
pub record ReadsInner (at : Nesting) (s : State) (out : List Stmt) (t : State) : Type 0 where
  pub inner : Nesting
  pub within : IsWithin at inner
  pub reads : ReadsBlock inner s out t

-- it is one too many, or refused
abbrev pub RefusesInner : Nesting → State → State → ParseFault → Type 0
RefusesInner at s t fault = (IsTooDeep at s fault × (t ≡ s)) ⊎ ((inner : Nesting) × IsWithin at inner × RefusesBlock inner s t fault)
