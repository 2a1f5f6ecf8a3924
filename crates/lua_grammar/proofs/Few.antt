-- The limits of a function only come nearer: what is within them at the end was within them before.
use Rattle.std.proofs.Common.{◌≡◌, List, [], ◌∷◌, subst, sym, arith}
use Rattle.std.specs.List.{AllZip}
use Rattle.lua_ast.specs.declared.statements.Stmt.{Stmt}
use Rattle.lua_grammar.specs.Tree.{Line, Bytes}
use Rattle.lua_grammar.specs.Scopes.{Frame, Scope}
use Rattle.lua_grammar.specs.Limits.{IsFew, Few}
use Rattle.lua_grammar.specs.Resolution.{EndsFunction}
use Rattle.lua_grammar.proofs.Frames.{Steady, Wider, Went, Keeps, Goes, goes}

few_frame : (f g : Frame) → Wider f g → IsFew g → IsFew f
few_frame f g w h = record { locals = omega arith; captures = omega arith }

few_steady : (fs gs : List Frame) → AllZip Steady fs gs → Few gs → Few fs
unfolding Few
few_steady [] [] p h = tt
few_steady (f ∷ fs) (g ∷ gs) p h = (few_frame f g p.0.wider h.0, few_steady fs gs p.1 h.1)
few_steady [] (g ∷ gs) p h = absurd p
few_steady (f ∷ fs) [] p h = absurd p

few_went : (fs gs : List Frame) → Went fs gs → Few gs → Few fs
unfolding Few Went
few_went [] [] p h = tt
few_went (f ∷ fs) (g ∷ gs) p h = (few_frame f g p.0 h.0, few_steady fs gs p.1 h.1)
few_went [] (g ∷ gs) p h = absurd p
few_went (f ∷ fs) [] p h = absurd p

-- before a statement or a block
pub few_before : {s t : Scope} → Goes s t → Few t.enclosing → Few s.enclosing
few_before {s = s} {t = t} h few = few_went s.enclosing t.enclosing h.frames few

-- before an expression
pub few_before_it : {s t : Scope} → Keeps s t → Few t.enclosing → Few s.enclosing
few_before_it h few = few_before (goes h) few

few_on : (all : List Frame) (f : Frame) (fs : List Frame) → all ≡ f ∷ fs → IsFew f → Few fs → Few all
unfolding Few
few_on all f fs e h few = subst Few (sym e) (h, few)

-- at the end of a function's statements, where it ends
pub few_inside : (line : Line) (names : List Bytes) (rest : _) (out : List Stmt) (s m t : Scope) → EndsFunction line names rest out s m t → Few t.enclosing → Few m.enclosing
few_inside line names rest out s m t (f, frame, enclosing, top, is, ended) few =
    few_on m.enclosing frame enclosing top (record { locals = is.few_locals; captures = is.few_captures }) (subst (λ z. Few z.enclosing) ended few)
