-- What may stand where: at a state of the text a block, a statement, an expression, a name and so on, with a nesting that
-- says how many constructs are open and what is allowed there. All that was read before is valid, and within the limits.
use Rattle.std.specs.Prelude.{◌≡◌, ◌≤◌, ◌<◌, ◌+◌, ◌⊎◌, ℕ, Bool, false, List, [], ◌∷◌, length, Option}
use Rattle.lua_ast.specs.declared.expressions.Expr.{Expr}
use Rattle.lua_ast.specs.declared.expressions.UnOp.{UnOp}
use Rattle.lua_ast.specs.declared.programs.Function.{Function}
use Rattle.lua_ast.specs.declared.statements.Arm.{Arm}
use Rattle.lua_ast.specs.declared.statements.Stmt.{Stmt}
use Rattle.lua_lexer.specs.declared.tokens.Token.{Token}
use Rattle.lua_lexer.specs.declared.tokens.TokenKind.TheVariants.{Name as NameKind, Word as WordKind, Sign as SignKind}
use Rattle.lua_lexer.specs.declared.signs.Sign.TheVariants as sign
use Rattle.lua_lexer.specs.declared.words.Word.TheVariants as word
use Rattle.lua_grammar.specs.Operators.{kind_of_unary, right_level, unary_level}
use Rattle.lua_grammar.specs.Tree.{Line, Bytes}
use Rattle.lua_grammar.specs.Limits.{Few}
use Rattle.lua_grammar.specs.Grammar.{outside}
use Rattle.lua_grammar.specs.Printing.{Lexeme, a_sign, lexemes}
use Rattle.lua_grammar.specs.Scopes.{Scope, declare, enter, in_scope, leave, look}
use Rattle.lua_grammar.specs.Resolution.{self_name}
use Rattle.lua_parser_base.specs.declared.operators.Infix.{Infix}
use Rattle.lua_parser_base.specs.declared.faults.ParseFault.{ParseFault}
use Rattle.lua_parser_base.specs.declared.faults.ParseFault.TheVariants.{At, Depth, Locals, Upvalues, Ambiguous, BreakOutside, VarargOutside, Memory}
use Rattle.lua_parser_base.specs.declared.nodes.Built.{Built}
use Rattle.lua_parser_base.specs.declared.nodes.Item.{Item}
use Rattle.lua_parser_base.specs.declared.nodes.Items.{Items}
use Rattle.lua_parser_base.specs.declared.nodes.Prefix.{Prefix}
use Rattle.lua_parser_base.specs.declared.nodes.Values.{Values}
use Rattle.lua_parser_base.specs.declared.functions.Parameters.{Parameters}
use Rattle.lua_parser_base.specs.declared.nesting.Nesting.{Nesting}
use Rattle.lua_parser_base.specs.declared.statement_nodes.FunctionName.{FunctionName}
use Rattle.lua_parser_base.specs.declared.beginnings.Begins.TheVariants as begins
use Rattle.lua_parser_base.specs.Kinds.{BeginNamed, begins_of}
use Rattle.lua_parser_base.specs.Next.{Begin, IsNext, IsOnLine, ahead}
use Rattle.lua_parser_base.specs.Nesting.{IsFresh, IsLooped, IsNarrower, IsOfFunction, IsPart, IsWithin, IsOutermost}
use Rattle.lua_parser_base.specs.Reads.{ReadsExp, ReadsField, ReadsFields, ReadsList, ReadsPrefix}
use Rattle.lua_parser_base.specs.ReadsNames.{ReadsNames, ReadsParameters}
use Rattle.lua_parser_base.specs.ReadsStatements.{ReadsArms, ReadsBlock, ReadsFuncName, ReadsMember, ReadsScoped, ReadsStats, ReadsStep, ReadsValue}
use Rattle.lua_parser_base.specs.ReadsStatements.{ReadsValues, ReadsVars}
use Rattle.lua_parser_base.specs.States.{CanDeclare, GoesOn, OpensOnLine, State, Takes, TakesOperator}

-- a block, an expression of at least that level of precedence, expressions with commas between them, or a field of a table
pub data Construct : Type 0 where
  block : Construct
  exp : (lowest : ℕ) → Construct
  list : Construct
  field : Construct

-- What stands next. A construct is nested so itself, or stands within one nested so, or is a part of an expression nested so;
-- all else is in a block or an expression nested so.
pub data Role : Type 0 where
  here : Construct → Nesting → Role
  within : Construct → Nesting → Role
  part : Construct → Nesting → Role
  statement : Nesting → Role
  value : Nesting → Role
  values : Nesting → Role
  target : Nesting → Role
  prefix : Nesting → Role
  args : Nesting → Role
  table : Nesting → Role
  arms : Nesting → Role
  arm : Nesting → Role
  for_tail : Nesting → List Bytes → Role
  step : Nesting → Role
  loop : Nesting → List Bytes → Role
  initial : Nesting → Role
  function_name : Role
  function_tail : Nesting → FunctionName → Role
  local : Nesting → Role
  body : Nesting → (first : List Bytes) → Role
  function_block : Nesting → (vararg : Bool) → Role
  parameters : (first : List Bytes) → Role
  names : (others : ℕ) → Role
  name : (others : ℕ) → Role

-- the same tokens are left, and the scope is that
pub record IsAt (s : State) (known : Scope) (t : State) : Type 0 where
  pub left : t.left ≡ s.left
  pub scope : t.scope ≡ known

-- no block ends there, and no `;` is next
pub record GoesOnWithValues (s : State) : Type 0 where
  pub no_end : begins_of (ahead s) ≡ begins.Nothing → ⊥
  pub no_semicolon : IsNext (SignKind sign.Semicolon) s → ⊥

-- in a text that begins at that state
pub data Stands (start : State) : Role → State → Type 0 where
  chunk : (at : Nesting) → IsOutermost at → Stands start (here block at) start
  -- constructs within others
  inside : {c : Construct} {at inner : Nesting} {s : State} → Stands start (within c at) s → IsWithin at inner → Stands start (here c inner) s
  as_part : {c : Construct} {at inner : Nesting} {s : State} → Stands start (part c at) s → IsPart at inner → Stands start (here c inner) s
  of_value : {at free : Nesting} {s : State} → Stands start (value at) s → IsFresh at free → Stands start (within (exp 1) free) s
  of_values : {at free : Nesting} {s : State} → Stands start (values at) s → IsFresh at free → Stands start (within list free) s
  -- statements
  one_of : {at : Nesting} {s t : State} {out : List Stmt} → Stands start (here block at) s → ReadsStats at s out t → Stands start (statement at) t
  do_block : {at : Nesting} {s t : State} {l : Line} → Stands start (statement at) s → Takes (WordKind word.Do) l s t → Stands start (within block at) t
  while_test : {at : Nesting} {s t : State} {l : Line} → Stands start (statement at) s → Takes (WordKind word.While) l s t → Stands start (value at) t
  while_block : {at looped : Nesting} {s a b t : State} {l d : Line} {e : Expr} → Stands start (statement at) s
      → Takes (WordKind word.While) l s a → ReadsValue at a e b → Takes (WordKind word.Do) d b t → IsLooped at looped → Stands start (within block looped) t
  repeat_block : {at looped : Nesting} {s t : State} {l : Line} → Stands start (statement at) s
      → Takes (WordKind word.Repeat) l s t → IsLooped at looped → Stands start (within block looped) t
  repeat_test : {at looped inner : Nesting} {s a b t : State} {l u : Line} {out : List Stmt} → Stands start (statement at) s
      → Takes (WordKind word.Repeat) l s a → IsLooped at looped → IsWithin looped inner → ReadsBlock inner a out b
      → Takes (WordKind word.Until) u b t → Stands start (value at) t
  if_arms : {at : Nesting} {s t : State} {l : Line} → Stands start (statement at) s → Takes (WordKind word.If) l s t → Stands start (arms at) t
  first_arm : {at : Nesting} {s : State} → Stands start (arms at) s → Stands start (arm at) s
  next_arm : {at : Nesting} {s a t : State} {i : Line} {those : List Arm} → Stands start (arms at) s
      → ((line : ℕ) → ReadsArms at line s those a) → Takes (WordKind word.ElseIf) i a t → Stands start (arm at) t
  arm_test : {at : Nesting} {s : State} → Stands start (arm at) s → Stands start (value at) s
  arm_block : {at : Nesting} {s a t : State} {h : Line} {e : Expr} → Stands start (arm at) s
      → ReadsValue at s e a → Takes (WordKind word.Then) h a t → Stands start (within block at) t
  else_block : {at : Nesting} {s a b t : State} {l e : Line} {those : List Arm} → Stands start (statement at) s
      → Takes (WordKind word.If) l s a → ((line : ℕ) → ReadsArms at line a those b) → Takes (WordKind word.Else) e b t → Stands start (within block at) t
  for_names : {at : Nesting} {s t : State} {l : Line} → Stands start (statement at) s
      → Takes (WordKind word.For) l s t → Stands start (names (in_scope t.scope)) t
  after_names : {at : Nesting} {s a t : State} {f : Line} {ns : List Bytes} → Stands start (statement at) s
      → Takes (WordKind word.For) f s a → ReadsNames [] a ns t → CanDeclare ns t → Stands start (for_tail at ns) t
  for_first : {at : Nesting} {s t : State} {q : Line} {ns : List Bytes} → Stands start (for_tail at ns) s → length ns ≡ 1
      → Takes (SignKind sign.Assign) q s t → Stands start (value at) t
  for_limit : {at : Nesting} {s a b t : State} {q c : Line} {ns : List Bytes} {from : Expr} → Stands start (for_tail at ns) s → length ns ≡ 1
      → Takes (SignKind sign.Assign) q s a → ReadsValue at a from b → Takes (SignKind sign.Comma) c b t → Stands start (value at) t
  for_step : {at : Nesting} {s a b c t : State} {q x : Line} {ns : List Bytes} {from to : Expr} → Stands start (for_tail at ns) s → length ns ≡ 1
      → Takes (SignKind sign.Assign) q s a → ReadsValue at a from b → Takes (SignKind sign.Comma) x b c → ReadsValue at c to t → Stands start (step at) t
  step_value : {at : Nesting} {s t : State} {c : Line} → Stands start (step at) s → Takes (SignKind sign.Comma) c s t → Stands start (value at) t
  for_range : {at : Nesting} {s a b c d t : State} {q x : Line} {ns : List Bytes} {from to : Expr} (by : Option Expr)
      → Stands start (for_tail at ns) s → length ns ≡ 1 → Takes (SignKind sign.Assign) q s a → ReadsValue at a from b
      → Takes (SignKind sign.Comma) x b c → ReadsValue at c to d → ReadsStep at d by t → Stands start (loop at ns) t
  for_values : {at : Nesting} {s t : State} {i : Line} {ns : List Bytes} → Stands start (for_tail at ns) s
      → Takes (WordKind word.In) i s t → Stands start (values at) t
  for_list : {at : Nesting} {s a t : State} {i : Line} {ns : List Bytes} {out : List Expr} → Stands start (for_tail at ns) s
      → Takes (WordKind word.In) i s a → ReadsValues at a out t → Stands start (loop at ns) t
  loop_block : {at looped : Nesting} {s a t : State} {d : Line} {ns : List Bytes} → Stands start (loop at ns) s
      → Takes (WordKind word.Do) d s a → IsAt a (declare ns a.scope) t → IsLooped at looped → Stands start (within block looped) t
  named : {at : Nesting} {s t : State} {l : Line} → Stands start (statement at) s → Takes (WordKind word.Function) l s t → Stands start function_name t
  after_name : {at : Nesting} {s a t : State} {l : Line} {f : FunctionName} → Stands start (statement at) s
      → Takes (WordKind word.Function) l s a → ReadsFuncName a f t → Stands start (function_tail at f) t
  named_body : {at : Nesting} {s : State} {f : FunctionName} → Stands start (function_tail at f) s → Stands start (body at []) s
  method_body : {at : Nesting} {s t : State} {object whole : FunctionName} → Stands start (function_tail at object) s
      → ReadsMember sign.Colon object s whole t → Stands start (body at (self_name ∷ [])) t
  after_local : {at : Nesting} {s t : State} {l : Line} → Stands start (statement at) s → Takes (WordKind word.Local) l s t → Stands start (local at) t
  local_name : {at : Nesting} {s t : State} {f : Line} → Stands start (local at) s
      → Takes (WordKind word.Function) f s t → Stands start (name (in_scope t.scope)) t
  local_body : {at : Nesting} {s a b t : State} {f x : Line} {n : Bytes} → Stands start (local at) s
      → Takes (WordKind word.Function) f s a → Takes (NameKind n) x a b → IsAt b (declare (n ∷ []) b.scope) t → Stands start (body at []) t
  local_names : {at : Nesting} {s : State} → Stands start (local at) s → Stands start (names (in_scope s.scope)) s
  local_values : {at : Nesting} {s t : State} {ns : List Bytes} → Stands start (local at) s
      → ReadsNames [] s ns t → CanDeclare ns t → Stands start (initial at) t
  initial_values : {at : Nesting} {s t : State} {q : Line} → Stands start (initial at) s → Takes (SignKind sign.Assign) q s t → Stands start (values at) t
  first_prefix : {at free : Nesting} {s : State} → Stands start (statement at) s → IsFresh at free → Stands start (prefix free) s
  next_target : {at : Nesting} {s a t : State} {line c : Line} {out : List Expr} → Stands start (statement at) s
      → ReadsVars at line s out a → Takes (SignKind sign.Comma) c a t → Stands start (target at) t
  of_target : {at free : Nesting} {s : State} → Stands start (target at) s → IsFresh at free → Stands start (prefix free) s
  assigned : {at : Nesting} {s a t : State} {line q : Line} {out : List Expr} → Stands start (statement at) s
      → ReadsVars at line s out a → Takes (SignKind sign.Assign) q a t → Stands start (values at) t
  returned : {at : Nesting} {s t : State} {l : Line} → Stands start (statement at) s
      → Takes (WordKind word.Return) l s t → GoesOnWithValues t → Stands start (values at) t
  -- names that are declared
  first_declared : {others : ℕ} {s : State} → Stands start (names others) s → Stands start (name others) s
  next_declared : {others : ℕ} {s a t : State} {ns : List Bytes} {c : Line} → Stands start (names others) s
      → ReadsNames [] s ns a → Takes (SignKind sign.Comma) c a t → Stands start (name (others + length ns)) t
  first_parameter : {first : List Bytes} {s : State} → Stands start (parameters first) s → Stands start (name (length first)) s
  next_parameter : {first ns : List Bytes} {s a t : State} {c : Line} → Stands start (parameters first) s
      → ReadsNames first s ns a → Takes (SignKind sign.Comma) c a t → Stands start (name (length ns)) t
  -- functions
  of_parameters : {at : Nesting} {first : List Bytes} {s t : State} {o : Line} → Stands start (body at first) s
      → Takes (SignKind sign.OpenParenthesis) o s t → Stands start (parameters first) t
  of_function : {at : Nesting} {first : List Bytes} {s a b c t : State} {o e : Line} {p : Parameters} (kept : Function) → Stands start (body at first) s
      → Takes (SignKind sign.OpenParenthesis) o s a → ReadsParameters first a p b → Takes (SignKind sign.CloseParenthesis) e b c
      → IsAt c (enter p.names.items kept c.scope) t → Stands start (function_block at p.vararg) t
  its_block : {at inner own : Nesting} {vararg : Bool} {s : State} → Stands start (function_block at vararg) s
      → IsWithin at inner → IsOfFunction vararg inner own → Stands start (here block own) s
  -- expressions
  first_of : {at : Nesting} {s : State} → Stands start (here list at) s → Stands start (here (exp 1) at) s
  next_of : {at : Nesting} {s a t : State} {v : Values} {c : Line} → Stands start (here list at) s
      → ReadsList at s v a → Takes (SignKind sign.Comma) c a t → Stands start (here (exp 1) at) t
  operand : {at : Nesting} {m : ℕ} {s t : State} {l : Line} (op : UnOp) → Stands start (here (exp m) at) s
      → Takes (kind_of_unary op) l s t → Stands start (part (exp unary_level) at) t
  right_operand : {at : Nesting} {m : ℕ} {s a t : State} {left : Built} {found : Infix} → Stands start (here (exp m) at) s
      → ReadsExp at s left a → TakesOperator left.level m found a t → left.height < at.room → Stands start (part (exp (right_level found.op)) at) t
  closure : {at : Nesting} {m : ℕ} {s t : State} {l : Line} → Stands start (here (exp m) at) s
      → Takes (WordKind word.Function) l s t → Stands start (body at []) t
  of_prefix : {at : Nesting} {m : ℕ} {s : State} → Stands start (here (exp m) at) s → Stands start (prefix at) s
  of_table : {at : Nesting} {m : ℕ} {s : State} → Stands start (here (exp m) at) s → Stands start (table at) s
  in_parentheses : {at : Nesting} {s t : State} {o : Line} → Stands start (prefix at) s
      → Takes (SignKind sign.OpenParenthesis) o s t → Stands start (part (exp 1) at) t
  key : {at : Nesting} {s a t : State} {p : Prefix} {o : Line} → Stands start (prefix at) s
      → ReadsPrefix at s p a → Takes (SignKind sign.OpenBracket) o a t → p.height < at.room → Stands start (part (exp 1) at) t
  call_args : {at : Nesting} {s t : State} {p : Prefix} → Stands start (prefix at) s → ReadsPrefix at s p t → p.height < at.room → Stands start (args at) t
  method_args : {at : Nesting} {s a b t : State} {p : Prefix} {c l : Line} {n : Bytes} → Stands start (prefix at) s
      → ReadsPrefix at s p a → Takes (SignKind sign.Colon) c a b → p.height < at.room → Takes (NameKind n) l b t → Stands start (args at) t
  in_args : {at : Nesting} {s t : State} {o : Line} → Stands start (args at) s
      → Takes (SignKind sign.OpenParenthesis) o s t → (IsNext (SignKind sign.CloseParenthesis) t → ⊥) → Stands start (part list at) t
  table_args : {at inner : Nesting} {s : State} → Stands start (args at) s → IsNarrower at inner → Stands start (table inner) s
  in_table : {at : Nesting} {s a t : State} {o : Line} {items : Items} → Stands start (table at) s
      → Takes (SignKind sign.OpenBrace) o s a → ReadsFields at a items t → (IsNext (SignKind sign.CloseBrace) t → ⊥) → Stands start (part field at) t
  plain_field : {at : Nesting} {s : State} → Stands start (here field at) s → (BeginNamed s.left → ⊥) → Stands start (here (exp 1) at) s
  field_key : {at : Nesting} {s t : State} {o : Line} → Stands start (here field at) s
      → Takes (SignKind sign.OpenBracket) o s t → Stands start (here (exp 1) at) t
  keyed_value : {at : Nesting} {s a b c t : State} {k : Built} {o e q : Line} → Stands start (here field at) s
      → Takes (SignKind sign.OpenBracket) o s a → ReadsExp at a k b → Takes (SignKind sign.CloseBracket) e b c → Takes (SignKind sign.Assign) q c t
      → Stands start (here (exp 1) at) t
  named_value : {at : Nesting} {s a t : State} {l q : Line} {n : Bytes} → Stands start (here field at) s
      → Takes (NameKind n) l s a → Takes (SignKind sign.Assign) q a t → Stands start (here (exp 1) at) t

-- Nothing that was read breaks a rule: something stands there, or was read up to there.
pub data Within (start : State) : State → Type 0 where
  before_it : {role : Role} {s : State} → Stands start role s → Within start s
  after_block : {at : Nesting} {s t : State} {out : List Stmt} → Stands start (here block at) s → ReadsBlock at s out t → Within start t
  after_inner_block : {at : Nesting} {s t : State} {out : List Stmt} → Stands start (within block at) s → ReadsScoped at s out t → Within start t
  after_value : {at : Nesting} {s t : State} {e : Expr} → Stands start (value at) s → ReadsValue at s e t → Within start t
  after_arms : {at : Nesting} {s t : State} {line : Line} {those : List Arm} → Stands start (arms at) s → ReadsArms at line s those t → Within start t
  after_targets : {at : Nesting} {s t : State} {line : Line} {out : List Expr} → Stands start (statement at) s → ReadsVars at line s out t → Within start t
  after_parameters : {first : List Bytes} {s t : State} {p : Parameters} → Stands start (parameters first) s → ReadsParameters first s p t → Within start t
  after_names : {others : ℕ} {s t : State} {ns : List Bytes} → Stands start (names others) s → ReadsNames [] s ns t → others + length ns ≤ 200 → Within start t
  after_function_name : {s t : State} {f : FunctionName} → Stands start function_name s → ReadsFuncName s f t → Within start t
  after_name_dot : {s a t : State} {f : FunctionName} {l : Line} → Stands start function_name s
      → ReadsFuncName s f a → Takes (SignKind sign.Dot) l a t → f.height < 4_000 → Within start t
  after_name_colon : {at : Nesting} {s t : State} {object : FunctionName} {l : Line} → Stands start (function_tail at object) s
      → Takes (SignKind sign.Colon) l s t → object.height < 4_000 → Within start t
  after_exp : {at : Nesting} {m : ℕ} {s t : State} {b : Built} → Stands start (here (exp m) at) s → ReadsExp at s b t → Within start t
  after_list : {at : Nesting} {s t : State} {v : Values} → Stands start (here list at) s → ReadsList at s v t → Within start t
  after_field : {at : Nesting} {s t : State} {i : Item} → Stands start (here field at) s → ReadsField at s i t → Within start t
  after_key : {at : Nesting} {s a b t : State} {k : Built} {o e : Line} → Stands start (here field at) s
      → Takes (SignKind sign.OpenBracket) o s a → ReadsExp at a k b → Takes (SignKind sign.CloseBracket) e b t → Within start t
  after_prefix : {at : Nesting} {s t : State} {p : Prefix} → Stands start (prefix at) s → ReadsPrefix at s p t → Within start t
  after_dot : {at : Nesting} {s a t : State} {p : Prefix} {l : Line} → Stands start (prefix at) s
      → ReadsPrefix at s p a → Takes (SignKind sign.Dot) l a t → p.height < at.room → Within start t
  after_colon : {at : Nesting} {s a t : State} {p : Prefix} {l : Line} → Stands start (prefix at) s
      → ReadsPrefix at s p a → Takes (SignKind sign.Colon) l a t → p.height < at.room → Within start t
  after_loop : {s t : State} (before : Scope) → Within start s → t.left ≡ s.left → t.scope ≡ leave before s.scope → Within start t

-- The first rule that a text breaks, with the token that makes it so: the first of a construct that is one too many, or of
-- what makes an expression too high, but for a `(` on another line; the name that is one too many; the `(` on another line;
-- the `break`; or the `...`. Before it each open function is within its limits.
pub data Breaks (start : State) : ParseFault → Type 0 where
  too_deep : {c : Construct} {at : Nesting} {s : State} {line : Line} → Stands start (within c at) s
      → 200 ≤ at.depth → IsOnLine line s.left → Few s.scope.enclosing → Breaks start (Depth line)
  part_too_deep : {c : Construct} {at : Nesting} {s : State} {line : Line} → Stands start (part c at) s
      → (200 ≤ at.depth) ⊎ (at.room ≤ 1) → IsOnLine line s.left → Few s.scope.enclosing → Breaks start (Depth line)
  function_too_deep : {at : Nesting} {vararg : Bool} {s : State} {line : Line} → Stands start (function_block at vararg) s
      → 200 ≤ at.depth → IsOnLine line s.left → Few s.scope.enclosing → Breaks start (Depth line)
  operator_too_high : {at : Nesting} {m : ℕ} {s a t : State} {left : Built} {found : Infix} → Stands start (here (exp m) at) s
      → ReadsExp at s left a → TakesOperator left.level m found a t → at.room ≤ left.height → Few a.scope.enclosing → Breaks start (Depth found.line)
  prefix_too_high : {at : Nesting} {s a : State} {p : Prefix} {line : Line} → Stands start (prefix at) s
      → ReadsPrefix at s p a → Begin GoesOn a.left → OpensOnLine a → IsOnLine line a.left → at.room ≤ p.height → Few a.scope.enclosing
      → Breaks start (Depth line)
  name_too_high : {s a t : State} {f : FunctionName} {line : Line} → Stands start function_name s
      → ReadsFuncName s f a → Takes (SignKind sign.Dot) line a t → 4_000 ≤ f.height → Few a.scope.enclosing → Breaks start (Depth line)
  method_too_high : {at : Nesting} {s t : State} {object : FunctionName} {line : Line} → Stands start (function_tail at object) s
      → Takes (SignKind sign.Colon) line s t → 4_000 ≤ object.height → Few s.scope.enclosing → Breaks start (Depth line)
  too_many_locals : {others : ℕ} {s t : State} {n : Bytes} {line : Line} → Stands start (name others) s
      → Takes (NameKind n) line s t → others ≡ 200 → Few s.scope.enclosing → Breaks start (Locals line)
  too_many_captures : {at : Nesting} {s t : State} {n : Bytes} {line : Line} → Stands start (prefix at) s
      → Takes (NameKind n) line s t → (Few (look n s.scope.enclosing).1 → ⊥) → Few s.scope.enclosing → Breaks start (Upvalues line)
  function_captures : {s t : State} {n : Bytes} {line : Line} → Stands start function_name s
      → Takes (NameKind n) line s t → (Few (look n s.scope.enclosing).1 → ⊥) → Few s.scope.enclosing → Breaks start (Upvalues line)
  call_on_other_line : {at : Nesting} {s a : State} {p : Prefix} {line : Line} {after : List Lexeme} → Stands start (prefix at) s
      → ReadsPrefix at s p a → a.left ≡ a_sign sign.OpenParenthesis line after → (line ≡ a.last → ⊥) → Few a.scope.enclosing → Breaks start (Ambiguous line)
  args_on_other_line : {at : Nesting} {s : State} {line : Line} {after : List Lexeme} → Stands start (args at) s
      → s.left ≡ a_sign sign.OpenParenthesis line after → (line ≡ s.last → ⊥) → Few s.scope.enclosing → Breaks start (Ambiguous line)
  break_outside : {at : Nesting} {s t : State} {line : Line} → Stands start (statement at) s
      → Takes (WordKind word.Break) line s t → at.in_loop ≡ false → Few s.scope.enclosing → Breaks start (BreakOutside line)
  vararg_outside : {at : Nesting} {m : ℕ} {s t : State} {line : Line} → Stands start (here (exp m) at) s
      → Takes (SignKind sign.Ellipsis) line s t → at.vararg ≡ false → Few s.scope.enclosing → Breaks start (VarargOutside line)

-- of a fault other than `At` and out of memory that is said
abbrev pub OnLimit : (ParseFault → Type 0) → ParseFault → Type 0
OnLimit P (At line) = Unit {0}
OnLimit P Memory = Unit {0}
OnLimit P other = P other

-- no rule is broken before that fault, which is met at that state
abbrev pub IsFirst : State → State → ParseFault → Type 0
IsFirst start t (At line) = Within start t
IsFirst start t Memory = Unit {0}
IsFirst start t other = Breaks start other

-- the same in whatever text that stands there
abbrev pub FirstFault : Role → State → State → ParseFault → Type 0
FirstFault role s t fault = (start : State) → Stands start role s → IsFirst start t fault

-- the same of a prefix, of which that was read up to the first state
abbrev pub FirstFaultOfPrefix : Nesting → Prefix → State → State → ParseFault → Type 0
FirstFaultOfPrefix at object m t fault = (s : State) → ReadsPrefix at s object m → FirstFault (prefix at) s t fault

-- the same of an assignment on that line, whose first target was read up to the first state
abbrev pub FirstFaultOfAssignment : Nesting → ℕ → Expr → State → State → ParseFault → Type 0
FirstFaultOfAssignment at line first m t fault = (s : State) → ReadsVars at line s (first ∷ []) m → FirstFault (statement at) s t fault

abbrev pub FirstFaultOfTargets : Nesting → Expr → State → State → ParseFault → Type 0
FirstFaultOfTargets at first m t fault = (line : ℕ) → FirstFaultOfAssignment at line first m t fault

-- nothing of the tokens of a chunk is read
pub record IsBeginning (tokens : List Token) (start : State) : Type 0 where
  pub kept : Function
  pub all : start.left ≡ lexemes tokens
  pub known : start.scope ≡ enter [] kept outside

-- the tokens of a chunk break a rule first so
pub record IsBroken (tokens : List Token) (fault : ParseFault) : Type 0 where
  pub start : State
  pub begins : IsBeginning tokens start
  pub breaks : Breaks start fault
