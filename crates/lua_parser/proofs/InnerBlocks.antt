-- Where a block in another one is too deep, or refused.
use Rattle.std.proofs.Common.{List, inl, inr, subst, sym}
use Rattle.lua_lexer.specs.declared.tokens.TokenKind.TheVariants.{Word as WordKind}
use Rattle.lua_lexer.specs.declared.words.Word.TheVariants.{Do, Repeat}
use Rattle.lua_grammar.specs.Scopes.{declare}
use Rattle.lua_grammar.specs.Tree.{Bytes, Line}
use Rattle.lua_parser.proofs.LoopRefusals.{repeat_block_refused, repeat_too_deep}
use Rattle.lua_parser.proofs.RefusedLoops.{loop_refused, loop_too_deep}
use Rattle.lua_parser.specs.Parts.{RefusesInner}
use Rattle.lua_parser_base.proofs.BlockRefusals.{scoped_refused, scoped_too_deep}
use Rattle.lua_parser_base.proofs.Scoping.{Turns}
use Rattle.lua_parser_base.specs.declared.faults.ParseFault.{ParseFault}
use Rattle.lua_parser_base.specs.declared.nesting.Nesting.{Nesting}
use Rattle.lua_parser_base.specs.Nesting.{IsLooped}
use Rattle.lua_parser_base.specs.StatementRefusals.{RefusesLoop, RefusesScoped, RefusesStat}
use Rattle.lua_parser_base.specs.States.{State, Takes}

pub scoped_inner : (at : Nesting) (s t : State) (fault : ParseFault) → RefusesInner at s t fault → RefusesScoped at s t fault
scoped_inner at s t fault (inl x) = subst (λ z. RefusesScoped at s z fault) (sym x.1) (scoped_too_deep at s fault x.0)
scoped_inner at s t fault (inr x) = scoped_refused at x.0 s t fault x.1 x.2

pub repeat_inner : (at loop : Nesting) (line : Line) (s a t : State) (fault : ParseFault) → Takes (WordKind Repeat) line s a → IsLooped at loop → RefusesInner loop a t fault →
    RefusesStat at s t fault
repeat_inner at loop line s a t fault taken looped (inl x) = subst (λ z. RefusesStat at s z fault) (sym x.1) (repeat_too_deep at loop line s a fault taken looped x.0)
repeat_inner at loop line s a t fault taken looped (inr x) = repeat_block_refused at loop x.0 line s a t fault taken looped x.1 x.2

pub loop_inner : (at loop : Nesting) (names : List Bytes) (line : Line) (fault : ParseFault) (s a b t : State) → Takes (WordKind Do) line s a → Turns (declare names a.scope) a b →
    IsLooped at loop → RefusesInner loop b t fault → RefusesLoop at names s t fault
loop_inner at loop names line fault s a b t taken turn looped (inl x) = subst (λ z. RefusesLoop at names s z fault) (sym x.1) (loop_too_deep at loop names line fault s a b taken turn.left looped x.0)
loop_inner at loop names line fault s a b t taken turn looped (inr x) = loop_refused at loop x.0 names line fault s a b t taken turn looped x.1 x.2
