-- Where a fault of a limit was found, that rule is broken there first.
use Rattle.std.proofs.Common.{◌≡◌, ◌≤◌, ◌<◌, inl, inr, ℕ, Bool, List, [], ◌∷◌, refl, sym, ap, subst, arith, ◌∙◌}
use Rattle.lua_lexer.specs.declared.tokens.Token.{Token}
use Rattle.lua_lexer.specs.declared.tokens.TokenKind.{TokenKind}
use Rattle.lua_lexer.specs.declared.tokens.TokenKind.TheVariants.{Name as NameKind, Sign as SignKind, Text as TextKind}
use Rattle.lua_lexer.specs.declared.signs.Sign.TheVariants.{Colon, Dot, OpenBrace, OpenBracket, OpenParenthesis}
use Rattle.lua_grammar.specs.Grammar.{first_line}
use Rattle.lua_grammar.specs.Tree.{Bytes}
use Rattle.lua_grammar.specs.Printing.{Lexeme}
use Rattle.lua_grammar.specs.Limits.{Few}
use Rattle.lua_grammar.specs.Scopes.{look}
use Rattle.lua_parser_base.specs.declared.cursor.Parser.{Parser}
use Rattle.lua_parser_base.specs.declared.operators.Infix.{Infix}
use Rattle.lua_parser_base.specs.declared.faults.ParseFault.{ParseFault}
use Rattle.lua_parser_base.specs.declared.faults.ParseFault.TheVariants.{At, Depth, Locals, Upvalues, Ambiguous, Memory}
use Rattle.lua_parser_base.specs.declared.nodes.Built.{Built}
use Rattle.lua_parser_base.specs.declared.nodes.Prefix.{Prefix}
use Rattle.lua_parser_base.specs.declared.nesting.Nesting.{Nesting}
use Rattle.lua_parser_base.specs.declared.statement_nodes.FunctionName.{FunctionName}
use Rattle.lua_parser_base.specs.declared.suffixes.Suffix.TheVariants.{Arguments}
use Rattle.lua_parser_base.specs.Kinds.{IsSuffix}
use Rattle.lua_parser_base.specs.Next.{Begin, CannotOpen, Ends, HasNoPart, IsLocals, IsOnLine, IsTooDeep, IsTooHigh, Misses, MissesMember, MissesMemberBelow, MissesName, OnAt, OnLocals, OnUpvalues, first_kind}
use Rattle.lua_parser_base.specs.Reads.{ReadsExp, ReadsPrefix}
use Rattle.lua_parser_base.specs.ReadsStatements.{ReadsFuncName}
use Rattle.lua_parser_base.specs.States.{GoesOn, OpensOnLine, State, Takes, TakesOperator, scope_of, state}
use Rattle.lua_parser_base.specs.Standing.{Stands, Breaks, Construct, FirstFault, FirstFaultOfPrefix, IsFirst, Within}
use Rattle.lua_parser_base.specs.Standing as standing

-- ---- constructs

pub deep_breaks : (c : Construct) (at : Nesting) (s : State) (fault : ParseFault) → Few s.scope.enclosing → IsTooDeep at s fault → FirstFault (standing.within c at) s s fault
deep_breaks c at s (At line) few deep = λ start stands. standing.before_it stands
deep_breaks c at s (Depth line) few deep = λ start stands. standing.too_deep stands deep.0 deep.1 few
deep_breaks c at s other few deep = absurd deep

pub part_breaks : (c : Construct) (at : Nesting) (s : State) (fault : ParseFault) → Few s.scope.enclosing → HasNoPart at s fault → FirstFault (standing.part c at) s s fault
part_breaks c at s (At line) few none = λ start stands. standing.before_it stands
part_breaks c at s (Depth line) few none = λ start stands. standing.part_too_deep stands none.0 none.1 few
part_breaks c at s other few none = absurd none

pub function_breaks : (vararg : Bool) (at : Nesting) (s : State) (fault : ParseFault) → Few s.scope.enclosing → IsTooDeep at s fault → FirstFault (standing.function_block at vararg) s s fault
function_breaks vararg at s (At line) few deep = λ start stands. standing.before_it stands
function_breaks vararg at s (Depth line) few deep = λ start stands. standing.function_too_deep stands deep.0 deep.1 few
function_breaks vararg at s other few deep = absurd deep

-- ---- names

pub name_breaks : (others : ℕ) (s t : State) (fault : ParseFault) → Few s.scope.enclosing → others ≤ 200 → MissesName others s t fault → FirstFault (standing.name others) s t fault
name_breaks others s t (At line) few low misses = λ start stands. subst (Within start) (sym misses.same) (standing.before_it stands)
name_breaks others s t (Locals line) few low misses = λ start stands.
    let full = misses.2 in
    standing.too_many_locals stands misses.1 (omega (arith, low, full)) few
name_breaks others s t Memory few low misses = λ start stands. tt
name_breaks others s t other few low misses = absurd misses

pub local_breaks : (others line : ℕ) (n : Bytes) (s t z : State) (fault : ParseFault) → Few s.scope.enclosing → others ≤ 200 → OnLocals (200 ≤ others) fault → IsLocals line fault → Takes (NameKind n) line s t →
    FirstFault (standing.name others) s z fault
local_breaks others line n s t z (Locals reported) few low full same taken = λ start stands. standing.too_many_locals stands (subst (λ l. Takes (NameKind n) l s t) (sym same) taken) (omega (arith, low, full)) few
local_breaks others line n s t z Memory few low full same taken = λ start stands. tt
local_breaks others line n s t z other few low full same taken = absurd full

-- names that were counted before
pub counted_before : (start z : State) (count : ℕ) (fault : ParseFault) → OnLocals (200 < count) fault → count ≤ 200 → IsFirst start z fault
counted_before start z count (Locals line) full few = let no : count < count = omega (arith, full, few) in absurd (grind arith)
counted_before start z count Memory full few = tt
counted_before start z count other full few = absurd full

captures_break : (at : Nesting) (line : ℕ) (n : Bytes) (s m z : State) (fault : ParseFault) → Few s.scope.enclosing → OnUpvalues line (Few (look n m.scope.enclosing).1 → ⊥) fault → Takes (NameKind n) line s m →
    FirstFault (standing.prefix at) s z fault
captures_break at line n s m z (Upvalues reported) few many taken = λ start stands.
    standing.too_many_captures stands (subst (λ l. Takes (NameKind n) l s m) (sym many.1) taken) (subst (λ z. Few (look n z.enclosing).1 → ⊥) taken.scope many.0) few
captures_break at line n s m z Memory few many taken = λ start stands. tt
captures_break at line n s m z other few many taken = absurd many

pub variable_breaks : (at : Nesting) (line : ℕ) (n : Bytes) (tokens : List Token) (s z : State) (p : Parser) (fault : ParseFault) → Few s.scope.enclosing → OnUpvalues line (Few (look n (scope_of p).enclosing).1 → ⊥) fault →
    Takes (NameKind n) line s (state tokens p) → FirstFault (standing.prefix at) s z fault
unfolding state
variable_breaks at line n tokens s z p fault few many taken = captures_break at line n s (state tokens p) z fault few many taken

function_captures_break : (line : ℕ) (n : Bytes) (s m z : State) (fault : ParseFault) → Few s.scope.enclosing → OnUpvalues line (Few (look n m.scope.enclosing).1 → ⊥) fault → Takes (NameKind n) line s m →
    FirstFault standing.function_name s z fault
function_captures_break line n s m z (Upvalues reported) few many taken = λ start stands.
    standing.function_captures stands (subst (λ l. Takes (NameKind n) l s m) (sym many.1) taken) (subst (λ z. Few (look n z.enclosing).1 → ⊥) taken.scope many.0) few
function_captures_break line n s m z Memory few many taken = λ start stands. tt
function_captures_break line n s m z other few many taken = absurd many

pub function_variable_breaks : (line : ℕ) (n : Bytes) (tokens : List Token) (s z : State) (p : Parser) (fault : ParseFault) → Few s.scope.enclosing → OnUpvalues line (Few (look n (scope_of p).enclosing).1 → ⊥) fault →
    Takes (NameKind n) line s (state tokens p) → FirstFault standing.function_name s z fault
unfolding state
function_variable_breaks line n tokens s z p fault few many taken = function_captures_break line n s (state tokens p) z fault few many taken

-- ---- heights

pub member_breaks : (f : FunctionName) (s m t : State) (fault : ParseFault) → Few m.scope.enclosing → ReadsFuncName s f m → MissesMember Dot f.height m t fault → FirstFault standing.function_name s t fault
member_breaks f s m t (At line) few read (inl miss) = λ start stands. subst (Within start) (sym miss.same) (standing.after_function_name stands read)
member_breaks f s m t (At line) few read (inr (mid, l, taken, miss, low)) = λ start stands. subst (Within start) (sym miss.same) (standing.after_name_dot stands read taken low)
member_breaks f s m t (Depth line) few read misses = λ start stands. standing.name_too_high stands read misses.0 misses.1 few
member_breaks f s m t Memory few read misses = λ start stands. tt
member_breaks f s m t other few read misses = absurd misses

pub method_breaks : (at : Nesting) (f : FunctionName) (s t : State) (fault : ParseFault) → Few s.scope.enclosing → MissesMember Colon f.height s t fault → FirstFault (standing.function_tail at f) s t fault
method_breaks at f s t (At line) few (inl miss) = λ start stands. subst (Within start) (sym miss.same) (standing.before_it stands)
method_breaks at f s t (At line) few (inr (mid, l, taken, miss, low)) = λ start stands. subst (Within start) (sym miss.same) (standing.after_name_colon stands taken low)
method_breaks at f s t (Depth line) few misses = λ start stands. standing.method_too_high stands misses.0 misses.1 few
method_breaks at f s t Memory few misses = λ start stands. tt
method_breaks at f s t other few misses = absurd misses

pub operator_breaks : (at : Nesting) (m : ℕ) (left : Built) (found : Infix) (s a b z : State) (fault : ParseFault) → Few a.scope.enclosing → ReadsExp at s left a → TakesOperator left.level m found a b →
    IsTooHigh at left.height found.line fault → FirstFault (standing.here (standing.exp m) at) s z fault
operator_breaks at m left found s a b z (Depth reported) few read taken high = λ start stands.
    subst (λ l. Breaks start (Depth l)) (sym high.1) (standing.operator_too_high stands read taken high.0 few)
operator_breaks at m left found s a b z other few read taken high = absurd high

next_line : (kind : TokenKind) (line reported : ℕ) (a b : State) → Takes kind line a b → reported ≡ line → IsOnLine reported a.left
next_line kind line reported a b taken same = subst (IsOnLine reported) (sym taken.printed) same

next_goes_on : (kind : TokenKind) (line : ℕ) (a b : State) → Takes kind line a b → GoesOn kind → Begin GoesOn a.left
next_goes_on kind line a b taken goes = subst (Begin GoesOn) (sym taken.printed) goes

-- it goes on with no arguments
abbrev pub GoesOnInside : TokenKind → Type 0
GoesOnInside (SignKind Dot) = Unit {0}
GoesOnInside (SignKind OpenBracket) = Unit {0}
GoesOnInside (SignKind Colon) = Unit {0}
GoesOnInside other = ⊥

inside_goes_on : (kind : TokenKind) → GoesOnInside kind → GoesOn kind
inside_goes_on (SignKind Dot) is = tt
inside_goes_on (SignKind OpenBracket) is = tt
inside_goes_on (SignKind Colon) is = tt
inside_goes_on other is = absurd is

opens_nothing : (kind : TokenKind) → GoesOnInside kind → kind ≡ SignKind OpenParenthesis → ⊥
opens_nothing (SignKind OpenParenthesis) is same = is
opens_nothing (SignKind Dot) is same = cc
opens_nothing (SignKind OpenBracket) is same = cc
opens_nothing (SignKind Colon) is same = cc
opens_nothing other is same = absurd is

none_opens : (kind : TokenKind) (line : ℕ) (a b : State) → GoesOnInside kind → Takes kind line a b → OpensOnLine a
none_opens kind line a b is taken = λ l after left. absurd (opens_nothing kind is (ap first_kind (sym taken.printed ∙ left)))

pub suffix_breaks : (kind : TokenKind) (at : Nesting) (line : ℕ) (p : Prefix) (s a b z : State) (fault : ParseFault) → Few a.scope.enclosing → GoesOnInside kind → Takes kind line a b → IsTooHigh at p.height line fault →
    ReadsPrefix at s p a → FirstFault (standing.prefix at) s z fault
suffix_breaks kind at line p s a b z (Depth reported) few goes taken high read = λ start stands.
    standing.prefix_too_high stands read (next_goes_on kind line a b taken (inside_goes_on kind goes)) (none_opens kind line a b goes taken) (next_line kind line reported a b taken high.1) high.0 few
suffix_breaks kind at line p s a b z other few goes taken high read = absurd high

-- a member
pub prefix_member_breaks : (at : Nesting) (p : Prefix) (m t : State) (fault : ParseFault) → Few m.scope.enclosing → MissesMemberBelow at.room Dot p.height m t fault → FirstFaultOfPrefix at p m t fault
prefix_member_breaks at p m t (At line) few (inl miss) = λ s read start stands. subst (Within start) (sym miss.same) (standing.after_prefix stands read)
prefix_member_breaks at p m t (At line) few (inr (n, l, taken, miss, low)) = λ s read start stands. subst (Within start) (sym miss.same) (standing.after_dot stands read taken low)
prefix_member_breaks at p m t (Depth line) few (taken, high) = λ s read. suffix_breaks (SignKind Dot) at line p s m t t (Depth line) few tt taken (high, refl) read
prefix_member_breaks at p m t Memory few misses = λ s read start stands. tt
prefix_member_breaks at p m t other few misses = absurd misses

-- arguments
args_line : (line reported : ℕ) (left : List Lexeme) → Begin (IsSuffix Arguments) left → line ≡ first_line left → reported ≡ line → IsOnLine reported left
args_line line reported [] next first same = absurd next
args_line line reported (x ∷ xs) next first same = same ∙ first

kind_goes_on : (kind : TokenKind) → IsSuffix Arguments kind → GoesOn kind
kind_goes_on (SignKind OpenParenthesis) is = tt
kind_goes_on (SignKind OpenBrace) is = tt
kind_goes_on (TextKind bytes) is = tt
kind_goes_on other is = absurd is

args_go_on : (left : List Lexeme) → Begin (IsSuffix Arguments) left → Begin GoesOn left
args_go_on [] next = absurd next
args_go_on (x ∷ xs) next = kind_goes_on x.kind next

pub call_breaks : (at : Nesting) (line : ℕ) (p : Prefix) (s a z : State) (fault : ParseFault) → Few a.scope.enclosing → Begin (IsSuffix Arguments) a.left → line ≡ first_line a.left → OpensOnLine a →
    IsTooHigh at p.height line fault →
    ReadsPrefix at s p a → FirstFault (standing.prefix at) s z fault
call_breaks at line p s a z (Depth reported) few next first opens high read = λ start stands.
    standing.prefix_too_high stands read (args_go_on a.left next) opens (args_line line reported a.left next first high.1) high.0 few
call_breaks at line p s a z other few next first opens high read = absurd high

pub call_ambiguous : (at : Nesting) (p : Prefix) (s a : State) (fault : ParseFault) → Few a.scope.enclosing → CannotOpen a fault → ReadsPrefix at s p a → FirstFault (standing.prefix at) s a fault
call_ambiguous at p s a (At line) few cannot read = λ start stands. standing.after_prefix stands read
call_ambiguous at p s a (Ambiguous line) few cannot read = λ start stands. standing.call_on_other_line stands read cannot.1 cannot.2 few
call_ambiguous at p s a other few cannot read = absurd cannot

pub args_ambiguous : (at : Nesting) (s : State) (fault : ParseFault) → Few s.scope.enclosing → CannotOpen s fault → FirstFault (standing.args at) s s fault
args_ambiguous at s (At line) few cannot = λ start stands. standing.before_it stands
args_ambiguous at s (Ambiguous line) few cannot = λ start stands. standing.args_on_other_line stands cannot.1 cannot.2 few
args_ambiguous at s other few cannot = absurd cannot

-- ---- where a token is missing, or the text ends

pub missing_first : (P : TokenKind → Type 0) (s t : State) (fault : ParseFault) → OnAt (Misses P s t) fault → (start : State) → Within start s → IsFirst start t fault
missing_first P s t (At line) misses start within = subst (Within start) (sym misses.same) within
missing_first P s t Memory misses start within = tt
missing_first P s t other misses start within = absurd misses

pub ended_first : (s : State) (fault : ParseFault) → OnAt (Ends s) fault → (start : State) → Within start s → IsFirst start s fault
ended_first s (At line) ends start within = within
ended_first s Memory ends start within = tt
ended_first s other ends start within = absurd ends
