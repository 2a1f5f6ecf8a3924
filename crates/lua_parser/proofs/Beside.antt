-- What was read before, and what is read after it.
use Rattle.std.proofs.Common.{◌≡◌, ◌<◌, ◌≤◌, ◌⊎◌, ℕ, arith, min, inl, inr, List, Result, Ok, Err, IfOk, IfErr, OnOk, MatchResult, subst, sym}
use Rattle.lua_grammar.specs.declared.operators.Operator.{Operator}
use Rattle.lua_grammar.specs.Operators.{right_level}
use Rattle.lua_grammar.specs.Stopping.{EndsAt}
use Rattle.lua_grammar.specs.Tree.{Bytes}
use Rattle.lua_lexer.specs.declared.tokens.Token.{Token}
use Rattle.lua_parser_base.specs.declared.cursor.Parser.{Parser}
use Rattle.lua_lexer.specs.declared.tokens.TokenKind.{TokenKind}
use Rattle.lua_parser_base.specs.declared.faults.ParseFault.{ParseFault}
use Rattle.lua_parser_base.specs.declared.faults.ParseFault.TheVariants.{At, Memory}
use Rattle.lua_parser_base.specs.declared.nesting.Nesting.{Nesting}
use Rattle.lua_parser_base.specs.declared.nodes.Built.{Built}
use Rattle.lua_parser_base.specs.declared.operators.Infix.{Infix}
use Rattle.lua_parser_base.specs.Nesting.{IsPart}
use Rattle.lua_parser_base.specs.Next.{Begin, IsMemory, Misses, OnAt, ahead}
use Rattle.lua_parser_base.specs.Nodes.{IsBinary}
use Rattle.lua_parser_base.specs.Reads.{ReadsExp}
use Rattle.lua_parser_base.specs.StatementRefusals.{RefusesLoop}
use Rattle.lua_parser_base.specs.States.{Advances, AdvancesOrStays, State, state}
use Rattle.lua_parser.specs.Parts.{ReadsRight}

-- what a call says of its value, where it answered one
pub read_by : {A : Type 0} (P : A → Type 0) (r : Result A ParseFault) (x : A) → r ≡ Ok x → IfOk r P → P x
read_by P r x is h = subst (λ r. IfOk r P) is h

pub done_by : {A P : Type 0} (r : Result A ParseFault) (x : A) → r ≡ Ok x → OnOk r P → P
done_by {A} {P} r x is h = subst (λ r. OnOk r P) is h

pub node_by : {A : Type 0} (P : A → Type 0) (Q : ParseFault → Type 0) (r : Result A ParseFault) (x : A) → r ≡ Ok x → MatchResult r P Q → P x
node_by P Q r x is h = subst (λ r. MatchResult r P Q) is h

-- and of its fault
pub refused_by : {A : Type 0} (P : ParseFault → Type 0) (r : Result A ParseFault) (fault : ParseFault) → r ≡ Err fault → IfErr r P → P fault
refused_by P r fault is h = subst (λ r. IfErr r P) is h

pub memory_by : {A : Type 0} (P : A → Type 0) (r : Result A ParseFault) (fault : ParseFault) → r ≡ Err fault → MatchResult r P IsMemory → IsMemory fault
memory_by P r fault is h = subst (λ r. MatchResult r P IsMemory) is h

-- the operand after an operator
pub right_read : (at inner : Nesting) (left : Built) (found : Infix) (n : ℕ) (m t : State) (r : Result Built ParseFault) → IsPart at inner → left.height < at.room → n ≡ right_level found.op →
    IfOk r (λ b. ReadsExp inner m b t) → IfOk r (λ b. min n 7 ≤ b.level) → OnOk r (EndsAt n (ahead t)) → IfOk r (λ right. ReadsRight at left found m right t)
right_read at inner left found n m t (Ok b) part below is reads level ends = record {
  inner = inner;
  part = part;
  reads = reads;
  ends = subst (λ n. EndsAt n (ahead t)) is ends;
  level = subst (λ n. min n 7 ≤ b.level) is level;
  below = below;
}
right_read at inner left found n m t (Err fault) part below is reads level ends = tt

pub on_done : {A P : Type 0} (r : Result A ParseFault) → P → OnOk r P
on_done (Ok x) h = h
on_done (Err fault) h = tt

-- tokens are read, and then maybe more
pub advances_stays : (tokens : List Token) (p q u : Parser) → Advances tokens p q → AdvancesOrStays tokens q u → Advances tokens p u
advances_stays tokens p q u a b = record {
  forward = let first = a.forward in let then = b.forward in omega (arith, first, then);
  within = b.within a.within;
}

pub binary_of : (left other : Built) (op : Operator) (line : ℕ) (right whole : Built) → left ≡ other → IsBinary left op line right whole → IsBinary other op line right whole
binary_of left other op line right whole same is = subst (λ x. IsBinary x op line right whole) same is

pub loop_named : (at : Nesting) (names others : List Bytes) (s t : State) (fault : ParseFault) → names ≡ others → RefusesLoop at names s t fault → RefusesLoop at others s t fault
loop_named at names others s t fault same refuses = subst (λ xs. RefusesLoop at xs s t fault) same refuses

-- what stands next isn't missed
pub never_there : (P : TokenKind → Type 0) (Q : ParseFault → Type 0) (s t : State) (fault : ParseFault) → OnAt (Misses P s t) fault → Begin P s.left → Q Memory → Q fault
never_there P Q s t (At line) m next h = absurd (m.missing next)
never_there P Q s t Memory m next h = h
never_there P Q s t fault m next h = absurd m

pub done_node : {A X : Type 0} (P : Type 0) (Q : ParseFault → Type 0) (r : Result A ParseFault) → MatchResult r (λ x. P) Q → (P → X) → OnOk r X
done_node P Q (Ok x) h f = f h
done_node P Q (Err fault) h f = tt

-- what is put after others, and was refused or found no memory
pub pushed_refused : {A : Type 0} (P : ParseFault → Type 0) (r : Result A ParseFault) (fault : ParseFault) → (r ≡ Err fault) ⊎ IsMemory fault → IfErr r P → P Memory → P fault
pushed_refused P r fault (inl is) refuses memory = refused_by P r fault is refuses
pushed_refused P r fault (inr is) refuses memory = subst P (sym is) memory

-- what stands before a keyword, and was refused, or the keyword is missed
pub before_refused : {A : Type 0} (Missed : ParseFault → Type 0) (R : State → ParseFault → Type 0) (tokens : List Token) (p q : Parser) (r : Result A ParseFault) (fault : ParseFault) →
    ((r ≡ Err fault) × (q ≡ p)) ⊎ ((x : A) × (r ≡ Ok x) × Missed fault) → IfErr r (R (state tokens p)) → ((x : A) → r ≡ Ok x → Missed fault → R (state tokens q) fault) → R (state tokens q) fault
before_refused Missed R tokens p q r fault (inl stays) refuses missing = subst (λ q. R (state tokens q) fault) (sym stays.1) (refused_by (R (state tokens p)) r fault stays.0 refuses)
before_refused Missed R tokens p q r fault (inr missed) refuses missing = missing missed.0 missed.1 missed.2
