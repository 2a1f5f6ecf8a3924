-- In each function of a scope there is a slot for each local, and each capture is a variable of the function enclosing it.
use Rattle.std.proofs.Common.{ℕ, suc, ◌<◌, ◌≤◌, List, map, [], ◌∷◌, ◌++◌, length, All, Option, Some, None, IfSome, subst, arith, if◌then◌else◌, true, false, le_refl}
use Rattle.std.specs.List.{AllZip}
use Rattle.std.specs.Str.{bytes_eq}
use Rattle.std.proofs.lemmas.List.{length-append, length-map, length-take}
use Rattle.std.proofs.lemmas.List.Elements.{All-nil, All-push, All-weaker}
use Rattle.lua_ast.specs.declared.programs.Capture.{Capture}
use Rattle.lua_ast.specs.declared.programs.Capture.TheVariants.{Slot, Outer}
use Rattle.lua_grammar.specs.Tree.{Bytes}
use Rattle.lua_grammar.specs.Scopes.{Captured, Frame, last_index, later, local_or, own, nearest, look, declare_in, leave_in}
use Rattle.lua_grammar.proofs.Frames.{Steady, look_keeps}

-- the innermost function has that variable
unfoldable pub HasIn : List Frame → Capture → Type 0
HasIn [] variable = ⊥
HasIn (f ∷ fs) (Slot n) = n < f.slots
HasIn (f ∷ fs) (Outer n) = n < length f.captures

unfoldable pub Fits : List Frame → Type 0
Fits [] = Unit {0}
Fits (f ∷ fs) = (length f.locals ≤ f.slots) × All (λ c. HasIn fs c.variable) f.captures × Fits fs

has_steady : (fs gs : List Frame) (variable : Capture) → AllZip Steady fs gs → HasIn fs variable → HasIn gs variable
unfolding HasIn
has_steady (f ∷ fs) (g ∷ gs) (Slot n) p h = let w = p.0.wider.slots in omega arith
has_steady (f ∷ fs) (g ∷ gs) (Outer n) p h = let w = p.0.wider.captures in omega arith
has_steady [] gs variable p h = absurd h
has_steady (f ∷ fs) [] variable p h = absurd p

captures_steady : (fs gs : List Frame) (captures : List Captured) → AllZip Steady fs gs → All (λ c. HasIn fs c.variable) captures → All (λ c. HasIn gs c.variable) captures
captures_steady fs gs captures p all = All-weaker (λ c. HasIn fs c.variable) (λ c. HasIn gs c.variable) (λ c h. has_steady fs gs c.variable p h) captures all

-- ---- places of names

IsIndex : ℕ → Option ℕ → Type 0
IsIndex count place = IfSome place (λ n. n < count)

later_index : (count : ℕ) (after here : Option ℕ) → IsIndex count after → IsIndex (suc count) here → IsIndex (suc count) (later after here)
unfolding IsIndex
later_index count (Some n) here h k = omega arith
later_index count None here h k = k

here_index : (count : ℕ) (b : _) → IsIndex (suc count) (if b then Some 0 else None)
unfolding IsIndex
here_index count true = omega arith
here_index count false = tt

index_within : (name : Bytes) (xs : List Bytes) → IsIndex (length xs) (last_index name xs)
unfolding last_index IsIndex
index_within name [] = tt
index_within name (x ∷ xs) = later_index (length xs) (last_index name xs) _ (index_within name xs) (here_index (length xs) (bytes_eq x name))

own_has : (f : Frame) (fs : List Frame) (slot place : Option ℕ) → length f.locals ≤ f.slots → IsIndex (length f.locals) slot → IsIndex (length f.captures) place →
    IfSome (local_or slot place) (HasIn (f ∷ fs))
unfolding IsIndex HasIn
own_has f fs (Some n) place fit h k = omega arith
own_has f fs None (Some n) fit h k = k
own_has f fs None None fit h k = tt

mine_has : (name : Bytes) (f : Frame) (fs : List Frame) → length f.locals ≤ f.slots → IfSome (own name f) (HasIn (f ∷ fs))
unfolding own
mine_has name f fs fit =
    let e = length-map f.captures (λ c. c.name) in
    let places = subst (λ n. IsIndex n (last_index name (map (λ c. c.name) f.captures))) e (index_within name (map (λ c. c.name) f.captures)) in
    own_has f fs (last_index name f.locals) (last_index name (map (λ c. c.name) f.captures)) fit (index_within name f.locals) places

-- ---- a name that is read

-- the scope fits, and what was found is in it
record Found (found : Option Capture × List Frame) : Type 0 where
  fits : Fits found.1
  has : IfSome found.0 (HasIn found.1)

one_after : (c : Captured) (f : Frame) (fs : List Frame) → HasIn (record f { captures = f.captures ++ c ∷ [] } ∷ fs) (Outer (length f.captures))
unfolding HasIn
one_after c f fs = let e = length-append f.captures (c ∷ []) in omega (arith, e)

nearest_found : (name : Bytes) (f : Frame) (fs : List Frame) (mine : Option Capture) (further : Option Capture × List Frame) → Fits (f ∷ fs) →
    IfSome mine (HasIn (f ∷ fs)) → AllZip Steady fs further.1 → Found further → Found (nearest name f fs mine further)
unfolding Fits
nearest_found name f fs (Some variable) further fit has steady found = record { fits = fit; has = has }
nearest_found name f fs None (None, others) fit has steady found = record {
  fits = (fit.0, captures_steady fs others f.captures steady fit.1, found.fits);
  has = tt;
}
nearest_found name f fs None (Some variable, others) fit has steady found = record {
  fits = (
    fit.0,
    All-push (λ c. HasIn others c.variable) f.captures (record { name = name; variable = variable }) (captures_steady fs others f.captures steady fit.1) found.has,
    found.fits,
  );
  has = one_after (record { name = name; variable = variable }) f others;
}

look_found : (name : Bytes) (fs : List Frame) → Fits fs → Found (look name fs)
unfolding look Fits
look_found name [] fit = record { fits = tt; has = tt }
look_found name (f ∷ fs) fit =
    nearest_found name f fs (own name f) (look name fs) fit (mine_has name f fs fit.0) (look_keeps name fs) (look_found name fs fit.2)

pub look_fits : (name : Bytes) (fs : List Frame) → Fits fs → Fits (look name fs).1
look_fits name fs fit = (look_found name fs fit).fits

pub look_has : (name : Bytes) (fs : List Frame) → Fits fs → IfSome (look name fs).0 (HasIn (look name fs).1)
look_has name fs fit = (look_found name fs fit).has

-- ---- locals

pub declared_fits : (names : List Bytes) (fs : List Frame) → Fits fs → Fits (declare_in names fs)
unfolding Fits
declared_fits names [] fit = tt
declared_fits names (f ∷ fs) fit = (let e = length-append f.locals names in let h = fit.0 in omega (arith, e, h), fit.1, fit.2)

pub left_fits : (count : ℕ) (fs : List Frame) → Fits fs → Fits (leave_in count fs)
unfolding Fits
left_fits count [] fit = tt
left_fits count (f ∷ fs) fit = (let e = length-take count f.locals in let h = fit.0 in omega (arith, e, h), fit.1, fit.2)

pub entered_fits : (names : List Bytes) (fs : List Frame) → Fits fs → Fits (record { locals = names; captures = []; slots = length names } ∷ fs)
unfolding Fits
entered_fits names fs fit = (le_refl (length names), All-nil (λ c. HasIn fs c.variable), fit)
