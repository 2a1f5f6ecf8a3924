-- Captures that are opened, closed and opened again.
use Rattle.std.proofs.Common.{◌≡◌, ℕ, ◌+◌, ◌-◌, ◌<◌, List, [], ◌∷◌, ◌++◌, length, get_or, take, Option, Some, None, refl, sym, ◌∙◌, ap, subst, arith, add-one}
use Rattle.std.proofs.lemmas.List.{take_more, length-take-le, length-append, set-set, set-get_or}
use Rattle.std.proofs.Math.Seq.{take-append_seam}
use Rattle.lua_patterns.specs.declared.captures.Cap.TheVariants.{Span}
use Rattle.std.specs.Prelude.{slice_set}
use Rattle.lua_patterns.specs.declared.captures.Capture.{Capture}
use Rattle.lua_patterns.specs.declared.captures.Cap.{Cap}
use Rattle.lua_patterns.specs.declared.captures.OpenCapture.{OpenCapture}
use Rattle.lua_patterns.specs.declared.captures.Capture.TheVariants.{Open, Closed}
use Rattle.lua_patterns.specs.Captures.{last_open, last_open_from, closed_at, opened_again}

pub none_open : last_open [] ≡ None
unfolding last_open
none_open = refl

pub last_open_more : (captures : List Capture) (start at : ℕ)
    → last_open (captures ++ Open start at ∷ []) ≡ Some (record { index = length captures; start = start; at = at })
unfolding last_open
last_open_more [] start at = refl
last_open_more (c ∷ captures) start at = rw (last_open_more captures start at) (ap (λ i. Some (record { index = i; start = start; at = at })) (omega arith))

pub last_open_same : (captures : List Capture) (c : Cap) → last_open (captures ++ Closed c ∷ []) ≡ last_open captures
unfolding last_open
last_open_same [] c = refl
last_open_same (x ∷ captures) c = ap (last_open_from x) (last_open_same captures c)

-- the last open one among so many
pub last_open_at_open : (captures : List Capture) (i : ℕ) (d : Capture) (start at : ℕ) → i < length captures → get_or captures i d ≡ Open start at
    → last_open (take (i + 1) captures) ≡ Some (record { index = i; start = start; at = at })
last_open_at_open captures i d start at within here =
    rw (take_more captures i d within, here, last_open_more (take i captures) start at)
    (ap (λ k. Some (record { index = k; start = start; at = at })) (length-take-le i captures (omega arith)))

pub last_open_at_closed : (captures : List Capture) (i : ℕ) (d : Capture) (c : Cap) → i < length captures → get_or captures i d ≡ Closed c
    → last_open (take (i + 1) captures) ≡ last_open (take i captures)
last_open_at_closed captures i d c within here = rw (take_more captures i d within, here, last_open_same (take i captures) c) refl

-- a capture that was put last is forgotten
pub forget_last : (captures : List Capture) (c : Capture) → take (length (captures ++ c ∷ []) - 1) (captures ++ c ∷ []) ≡ captures
forget_last captures c =
    let size : length (captures ++ c ∷ []) - 1 ≡ length captures = omega (arith, length-append captures (c ∷ [])) in
    rw size (take-append_seam captures (c ∷ []))

same_some : {A : Type 0} (x y : A) → Some x ≡ Some y → x ≡ y
same_some x y e = cc

-- one step of it
last_here : (c : Capture) (captures : List Capture) (later : Option OpenCapture) (d : Capture)
    → ((other : OpenCapture) → later ≡ Some other → get_or captures other.index d ≡ Open other.start other.at)
    → (found : OpenCapture) → last_open_from c later ≡ Some found → get_or (c ∷ captures) found.index d ≡ Open found.start found.at
last_here c captures (Some other) d known found last =
    let is = same_some (record { index = other.index + 1; start = other.start; at = other.at }) found last in
    let P : OpenCapture → Type 0 = λ f. get_or (c ∷ captures) f.index d ≡ Open f.start f.at in
    subst P is (rw (add-one other.index) (known other refl))
last_here (Open start at) captures None d known found last =
    let is = same_some (record { index = 0; start = start; at = at }) found last in
    let P : OpenCapture → Type 0 = λ f. get_or (Open start at ∷ captures) f.index d ≡ Open f.start f.at in
    subst P is refl
last_here (Closed e) captures None d known found last = cc

-- the last open one is where it says
pub last_open_is : (captures : List Capture) (found : OpenCapture) (d : Capture) → last_open captures ≡ Some found
    → get_or captures found.index d ≡ Open found.start found.at
unfolding last_open
last_open_is [] found d last = cc
last_open_is (c ∷ captures) found d last = last_here c captures (last_open captures) d (λ other. last_open_is captures other d) found last

-- a capture that was closed is opened again
pub opened_again_is : (captures : List Capture) (found : OpenCapture) (index : ℕ) → last_open captures ≡ Some found
    → opened_again found (closed_at index found captures) ≡ captures
opened_again_is captures found index last =
    set-set captures found.index (Closed (Span found.start index)) (Open found.start found.at)
    ∙ ap (slice_set captures found.index) (sym (last_open_is captures found (Open 0 0) last))
    ∙ set-get_or captures found.index (Open 0 0)
