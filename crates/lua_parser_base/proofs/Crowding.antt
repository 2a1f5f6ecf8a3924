-- Where a name makes a function have too many captures.
use Rattle.std.proofs.Common.{ℕ, ◌≡◌, ◌≤◌, List, ◌∷◌, [], length, Option, Some, None, Result, Ok, Err, IsErrAnd, MatchResult, arith, length-append, subst, sym}
use Rattle.lua_ast.specs.declared.programs.Capture.{Capture}
use Rattle.lua_grammar.specs.Tree.{Bytes}
use Rattle.lua_grammar.specs.Scopes.{Frame, handed, look, own}
use Rattle.lua_grammar.specs.Limits.{Few}
use Rattle.lua_parser_base.specs.declared.faults.ParseFault.{ParseFault}
use Rattle.lua_parser_base.specs.declared.faults.ParseFault.TheVariants.{Upvalues, Memory}
use Rattle.lua_parser_base.specs.Next.{OnUpvalues}

-- the functions that enclose one have few captures where all have
few_handed : (name : Bytes) (f : Frame) (found : Option Capture) (enclosing : List Frame) → Few (handed name f found enclosing).1 → Few enclosing
unfolding Few
few_handed name f None enclosing few = few.1
few_handed name f (Some variable) enclosing few = few.1

pub few_further : (name : Bytes) (f : Frame) (enclosing : List Frame) → own name f ≡ None → Few (look name (f ∷ enclosing)).1 → Few (look name enclosing).1
unfolding look
few_further name f enclosing none few = few_handed name f (look name enclosing).0 (look name enclosing).1 (rw none at few)

-- one capture more than a function may have
pub crowded_frame : (name : Bytes) (f : Frame) (enclosing after : List Frame) (variable : Capture) → own name f ≡ None → look name enclosing ≡ (Some variable, after) → 60 ≤ length f.captures →
    Few (look name (f ∷ enclosing)).1 → ⊥
unfolding look Few
crowded_frame name f enclosing after variable none further full few =
    let few-frame = (rw (none, further) at few).0 in
    let most = few-frame.captures in
    let more = length-append f.captures (record { name = name; variable = variable } ∷ []) in
    omega (arith, most, more, full)

pub upvalues_on : (line : ℕ) {P Q : Type 0} (fault : ParseFault) → (P → Q) → OnUpvalues line P fault → OnUpvalues line Q fault
upvalues_on line (Upvalues reported) f h = (f h.0, h.1)
upvalues_on line Memory f h = tt
upvalues_on line other f h = absurd h

pub handed_match : {A : Type 0} (P : A → Type 0) (Q : ParseFault → Type 0) (r : Result A ParseFault) (fault : ParseFault) → IsErrAnd r (λ same. same ≡ fault) → Q fault → MatchResult r P Q
handed_match P Q (Ok x) fault is h = absurd is
handed_match P Q (Err other) fault is h = subst Q (sym is) h
