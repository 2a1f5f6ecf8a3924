-- The concrete syntax tree of a chunk (Lua 5.1 Reference Manual, 8): one constructor a production. A repetition of the
-- manual is a list that grows at its end. Each `Line` is that of one token: of a word or a sign that the production writes, or
-- of the name, the number, the string or the operator beside it.
use Rattle.std.specs.Prelude.{ℕ, ℤ, List}
use Rattle.lua_ast.specs.declared.expressions.UnOp.{UnOp}
use Rattle.lua_grammar.specs.declared.operators.Operator.{Operator}

-- the number of a line of the text
abbrev pub Line : Type 0
Line = ℕ

-- the bytes of a name or a string
abbrev pub Bytes : Type 0
Bytes = List ℕ

-- namelist ::= Name {`,´ Name}
pub data NameList : Type 0 where
  first_name : (name_at : Line) → Bytes → NameList
  next_name : NameList → (comma : Line) → (name_at : Line) → Bytes → NameList

-- [parlist], where parlist ::= namelist [`,´ `...´] | `...´
pub data Params : Type 0 where
  no_params : Params
  names : NameList → Params
  names_and_vararg : NameList → (comma : Line) → (dots : Line) → Params
  only_vararg : (dots : Line) → Params

-- Name {`.´ Name}: funcname ::= Name {`.´ Name} [`:´ Name], without the part from `:´ on, which makes it a method
pub data FuncName : Type 0 where
  root_name : (name_at : Line) → Bytes → FuncName
  name_member : FuncName → (dot : Line) → (name_at : Line) → Bytes → FuncName

-- fieldsep ::= `,´ | `;´
pub data Separator : Type 0 where
  comma : Line → Separator
  semicolon : Line → Separator

-- [`;´] after a statement
pub data End : Type 0 where
  bare : End
  closed : (semicolon : Line) → End

mutual
  -- exp ::= nil | false | true | Number | String | `...´ | function | prefixexp | tableconstructor | exp binop exp | unop exp,
  -- where function ::= function funcbody
  pub data Exp : Type 0 where
    nil : Line → Exp
    false_ : Line → Exp
    true_ : Line → Exp
    number : Line → ℤ → Exp
    string : Line → Bytes → Exp
    dots : Line → Exp
    function : (function_at : Line) → FuncBody → Exp
    prefix : PrefixExp → Exp
    table : Table → Exp
    binary : Exp → Operator → Line → Exp → Exp
    unary : UnOp → Line → Exp → Exp

  -- prefixexp ::= var | functioncall | `(´ exp `)´, where var ::= Name | prefixexp `[´ exp `]´ | prefixexp `.´ Name and
  -- functioncall ::= prefixexp args | prefixexp `:´ Name args
  pub data PrefixExp : Type 0 where
    variable : Line → Bytes → PrefixExp
    paren : (opens : Line) → Exp → (close : Line) → PrefixExp
    item : PrefixExp → (opens : Line) → Exp → (close : Line) → PrefixExp
    member : PrefixExp → (dot : Line) → (name_at : Line) → Bytes → PrefixExp
    call : PrefixExp → Args → PrefixExp
    method : PrefixExp → (colon : Line) → (name_at : Line) → Bytes → Args → PrefixExp

  -- args ::= `(´ [explist] `)´ | tableconstructor | String
  pub data Args : Type 0 where
    no_args : (opens : Line) → (close : Line) → Args
    args : (opens : Line) → ExpList → (close : Line) → Args
    table_arg : Table → Args
    string_arg : Line → Bytes → Args

  -- explist ::= {exp `,´} exp
  pub data ExpList : Type 0 where
    one : Exp → ExpList
    more : ExpList → (comma : Line) → Exp → ExpList

  -- tableconstructor ::= `{´ {field fieldsep} [field] `}´, which are the same texts as those of the manual's
  -- `{´ [fieldlist] `}´ with fieldlist ::= field {fieldsep field} [fieldsep]
  pub data Table : Type 0 where
    separated : (opens : Line) → Fields → (close : Line) → Table
    ending : (opens : Line) → Fields → Field → (close : Line) → Table

  -- {field fieldsep}
  pub data Fields : Type 0 where
    no_fields : Fields
    more_fields : Fields → Field → Separator → Fields

  -- field ::= `[´ exp `]´ `=´ exp | Name `=´ exp | exp
  pub data Field : Type 0 where
    keyed : (opens : Line) → Exp → (close : Line) → (equals : Line) → Exp → Field
    named : (name_at : Line) → Bytes → (equals : Line) → Exp → Field
    plain : Exp → Field

  -- funcbody ::= `(´ [parlist] `)´ block end
  pub data FuncBody : Type 0 where
    function_body : (opens : Line) → Params → (close : Line) → Block → (end_at : Line) → FuncBody

  -- block ::= chunk, and chunk ::= {stat [`;´]} [laststat [`;´]]
  pub data Block : Type 0 where
    statements : Stats → Block
    with_last : Stats → LastStat → End → Block

  -- {stat [`;´]}
  pub data Stats : Type 0 where
    no_stats : Stats
    more_stats : Stats → Stat → End → Stats

  -- stat: each constructor under its production, which two of them may share
  pub data Stat : Type 0 where
    -- varlist `=´ explist
    assign : VarList → (equals : Line) → ExpList → Stat
    -- functioncall
    call_statement : PrefixExp → Stat
    -- do block end
    do_block : (do_at : Line) → Block → (end_at : Line) → Stat
    -- while exp do block end
    while_loop : (while_at : Line) → Exp → (do_at : Line) → Block → (end_at : Line) → Stat
    -- repeat block until exp
    repeat_loop : (repeat_at : Line) → Block → (until_at : Line) → Exp → Stat
    -- if exp then block {elseif exp then block} [else block] end
    if_then : Arms → (end_at : Line) → Stat
    if_else : Arms → (else_at : Line) → Block → (end_at : Line) → Stat
    -- for Name `=´ exp `,´ exp [`,´ exp] do block end
    for_range : (for_at : Line) → (name_at : Line) → Bytes → (equals : Line) → Exp → (comma : Line) → Exp
        → (do_at : Line) → Block → (end_at : Line) → Stat
    for_steps : (for_at : Line) → (name_at : Line) → Bytes → (equals : Line) → Exp → (comma : Line) → Exp → (second : Line) → Exp
        → (do_at : Line) → Block → (end_at : Line) → Stat
    -- for namelist in explist do block end
    for_in : (for_at : Line) → NameList → (in_at : Line) → ExpList → (do_at : Line) → Block → (end_at : Line) → Stat
    -- function funcname funcbody
    function_statement : (function_at : Line) → FuncName → FuncBody → Stat
    method_statement : (function_at : Line) → FuncName → (colon : Line) → (name_at : Line) → Bytes → FuncBody → Stat
    -- local function Name funcbody
    local_function : (local_at : Line) → (function_at : Line) → (name_at : Line) → Bytes → FuncBody → Stat
    -- local namelist [`=´ explist]
    local : (local_at : Line) → NameList → Stat
    local_values : (local_at : Line) → NameList → (equals : Line) → ExpList → Stat

  -- if exp then block {elseif exp then block}
  pub data Arms : Type 0 where
    if_arm : (if_at : Line) → Exp → (then_at : Line) → Block → Arms
    elseif_arm : Arms → (elseif_at : Line) → Exp → (then_at : Line) → Block → Arms

  -- laststat ::= return [explist] | break
  pub data LastStat : Type 0 where
    return_none : (return_at : Line) → LastStat
    return_values : (return_at : Line) → ExpList → LastStat
    break_ : (break_at : Line) → LastStat

  -- varlist ::= var {`,´ var}
  pub data VarList : Type 0 where
    one_var : PrefixExp → VarList
    more_vars : VarList → (comma : Line) → PrefixExp → VarList
