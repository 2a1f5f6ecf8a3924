-- What a part of a tree may do to the functions enclosing it: an expression keeps the locals of each, a statement those of all
-- but the innermost; slots and captures only grow.
use Rattle.std.proofs.Common.{◌≡◌, ℕ, ◌≤◌, List, [], ◌∷◌, length, Option, Some, None, refl, sym, subst, arith, le_refl, ◌∙◌}
use Rattle.std.specs.List.{AllZip}
use Rattle.std.proofs.lemmas.List.{length-append}
use Rattle.lua_ast.specs.declared.programs.Capture.{Capture}
use Rattle.lua_ast.specs.declared.programs.Function.{Function}
use Rattle.lua_grammar.specs.Tree.{Line, Bytes}
use Rattle.lua_grammar.specs.Scopes.{Frame, Scope, own, nearest, look, declare, declare_in, leave, leave_in, in_scope, enter}
use Rattle.lua_grammar.specs.Resolution.{ResolvesName, EndsFunction}

pub record Wider (f g : Frame) : Type 0 where
  pub slots : f.slots ≤ g.slots
  pub captures : length f.captures ≤ length g.captures

pub record Steady (f g : Frame) : Type 0 where
  pub locals : g.locals ≡ f.locals
  pub wider : Wider f g

-- all frames keep their locals
pub record Keeps (s t : Scope) : Type 0 where
  pub frames : AllZip Steady s.enclosing t.enclosing

-- all but the innermost keep them
unfoldable pub Went : List Frame → List Frame → Type 0
Went [] [] = Unit {0}
Went (f ∷ fs) (g ∷ gs) = Wider f g × AllZip Steady fs gs
Went fs gs = ⊥

pub record Goes (s t : Scope) : Type 0 where
  pub frames : Went s.enclosing t.enclosing

wider_refl : (f : Frame) → Wider f f
wider_refl f = record { slots = le_refl f.slots; captures = le_refl (length f.captures) }

wider_trans : (f g h : Frame) → Wider f g → Wider g h → Wider f h
wider_trans f g h p q = record { slots = omega arith; captures = omega arith }

steady_refl : (fs : List Frame) → AllZip Steady fs fs
steady_refl [] = tt
steady_refl (f ∷ fs) = (record { locals = refl; wider = wider_refl f }, steady_refl fs)

steady_trans : (fs gs hs : List Frame) → AllZip Steady fs gs → AllZip Steady gs hs → AllZip Steady fs hs
steady_trans [] [] [] p q = tt
steady_trans (f ∷ fs) (g ∷ gs) (h ∷ hs) p q =
    (record { locals = q.0.locals ∙ p.0.locals; wider = wider_trans f g h p.0.wider q.0.wider }, steady_trans fs gs hs p.1 q.1)
steady_trans [] [] (h ∷ hs) p q = absurd q
steady_trans [] (g ∷ gs) hs p q = absurd p
steady_trans (f ∷ fs) [] hs p q = absurd p
steady_trans (f ∷ fs) (g ∷ gs) [] p q = absurd q

went_trans : (fs gs hs : List Frame) → Went fs gs → Went gs hs → Went fs hs
unfolding Went
went_trans [] [] [] p q = tt
went_trans (f ∷ fs) (g ∷ gs) (h ∷ hs) p q = (wider_trans f g h p.0 q.0, steady_trans fs gs hs p.1 q.1)
went_trans [] [] (h ∷ hs) p q = absurd q
went_trans [] (g ∷ gs) hs p q = absurd p
went_trans (f ∷ fs) [] hs p q = absurd p
went_trans (f ∷ fs) (g ∷ gs) [] p q = absurd q

went_of : (fs gs : List Frame) → AllZip Steady fs gs → Went fs gs
unfolding Went
went_of [] [] p = tt
went_of (f ∷ fs) (g ∷ gs) p = (p.0.wider, p.1)
went_of [] (g ∷ gs) p = absurd p
went_of (f ∷ fs) [] p = absurd p

pub stays : {s t : Scope} → t ≡ s → Keeps s t
stays {s = s} e = record { frames = subst (λ z. AllZip Steady s.enclosing z.enclosing) (sym e) (steady_refl s.enclosing) }

pub and_keeps : {s m t : Scope} → Keeps s m → Keeps m t → Keeps s t
and_keeps {s = s} {m = m} {t = t} p q = record { frames = steady_trans s.enclosing m.enclosing t.enclosing p.frames q.frames }

pub goes : {s t : Scope} → Keeps s t → Goes s t
goes {s = s} {t = t} p = record { frames = went_of s.enclosing t.enclosing p.frames }

pub and_goes : {s m t : Scope} → Goes s m → Goes m t → Goes s t
and_goes {s = s} {m = m} {t = t} p q = record { frames = went_trans s.enclosing m.enclosing t.enclosing p.frames q.frames }

-- ---- names

nearest_keeps : (name : Bytes) (f : Frame) (enclosing : List Frame) (mine : Option Capture) (further : Option Capture × List Frame) →
    AllZip Steady enclosing further.1 → AllZip Steady (f ∷ enclosing) (nearest name f enclosing mine further).1
nearest_keeps name f enclosing (Some variable) further h = steady_refl (f ∷ enclosing)
nearest_keeps name f enclosing None (None, others) h = (record { locals = refl; wider = wider_refl f }, h)
nearest_keeps name f enclosing None (Some variable, others) h =
    let e = length-append f.captures (record { name = name; variable = variable } ∷ []) in
    (record { locals = refl; wider = record { slots = le_refl f.slots; captures = omega (arith, e) } }, h)

pub look_keeps : (name : Bytes) (enclosing : List Frame) → AllZip Steady enclosing (look name enclosing).1
unfolding look
look_keeps name [] = steady_refl []
look_keeps name (f ∷ enclosing) = nearest_keeps name f enclosing (own name f) (look name enclosing) (look_keeps name enclosing)

pub name_keeps : {l : Line} {n : Bytes} {s t : Scope} {e : _} → ResolvesName l n s e t → Keeps s t
name_keeps {n = n} {s = s} r = record { frames = subst (λ z. AllZip Steady s.enclosing z.enclosing) (sym r.scope) (look_keeps n s.enclosing) }

-- ---- locals

declared_went : (names : List Bytes) (fs : List Frame) → Went fs (declare_in names fs)
unfolding Went
declared_went names [] = tt
declared_went names (f ∷ fs) = (record { slots = omega arith; captures = le_refl (length f.captures) }, steady_refl fs)

left_went : (count : ℕ) (fs : List Frame) → Went fs (leave_in count fs)
unfolding Went
left_went count [] = tt
left_went count (f ∷ fs) = (record { slots = le_refl f.slots; captures = le_refl (length f.captures) }, steady_refl fs)

pub declare_goes : (names : List Bytes) (s : Scope) → Goes s (declare names s)
declare_goes names s = record { frames = declared_went names s.enclosing }

pub leave_goes : {t : Scope} (k m : Scope) → t ≡ leave k m → Goes m t
leave_goes k m e = record { frames = subst (λ z. Went m.enclosing z.enclosing) (sym e) (left_went (in_scope k) m.enclosing) }

-- ---- functions

inner_kept : (f : Frame) (fs : List Frame) (g : Frame) (gs all : List Frame) → all ≡ g ∷ gs → Went (f ∷ fs) all → AllZip Steady fs gs
unfolding Went
inner_kept f fs g gs all e h = let k = subst (Went (f ∷ fs)) e h in k.1

pub inner_wider : (f : Frame) (fs : List Frame) (g : Frame) (gs all : List Frame) → all ≡ g ∷ gs → Went (f ∷ fs) all → Wider f g
unfolding Went
inner_wider f fs g gs all e h = let k = subst (Went (f ∷ fs)) e h in k.0

pub ended_keeps : (line : Line) (names : List Bytes) (rest : _) (kept : Function) (out : _) (s m t : Scope) → Goes (enter names kept s) m →
    EndsFunction line names rest out s m t → Keeps s t
ended_keeps line names rest kept out s m t h (f, frame, enclosing, top, is, ended) = record {
  frames = subst (λ z. AllZip Steady s.enclosing z.enclosing) (sym ended) (inner_kept _ s.enclosing frame enclosing m.enclosing top h.frames);
}
