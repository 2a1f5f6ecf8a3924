-- What a walk through all arguments of a call comes to.
use Rattle.std.proofs.Common.{◌≡◌, ℕ, zero, suc, ◌+◌, ◌-◌, ◌^◌, ◌<◌, nat_lt, min, Bool, true, false, List, [], ◌∷◌, ◌++◌, take, drop, length, refl, sym, ◌∙◌, ap, arith}
use Rattle.std.proofs.Common.{length-append, zero-add, Option, Some, None}
use Rattle.std.specs.Prelude.{option_map, option_and_then, flat_map, sum_by, Result, Ok, Err}
use Rattle.std.proofs.lemmas.Bool.{ltb-false}
use Rattle.std.proofs.lemmas.Grind.{flat_map-append}
use Rattle.std.proofs.Math.ListN.{get_or}
use Rattle.std.proofs.Math.Seq.{drop-cons}
use Rattle.std.proofs.lemmas.List.Sums.{sum_by-cons}
use Rattle.lua_lib_base.specs.Work.{texts_length}
use Rattle.lua_operators.specs.declared.types.LuaType.{LuaType}
use Rattle.lua_values.specs.declared.values.Value.{Value}
use Rattle.lua_values.specs.declared.values.Value.TheVariants.{Table}
use Rattle.lua_values.specs.Heap.{Heap}
use Rattle.ngx_calls.specs.declared.printing.Printing.TheVariants as came
use Rattle.ngx_calls.specs.declared.printing.Walk.{Walk}
use Rattle.ngx_calls.specs.declared.printing.WalkFault.{WalkFault}
use Rattle.ngx_calls.specs.declared.printing.WalkFault.TheVariants as fault
use Rattle.ngx_calls.specs.Operations.{most_kept}
use Rattle.ngx_calls.specs.Printing.{elements_of, met_in, met_in_each, together, printed_text, unprinted_in, wrong_argument, taken_out, most_levels, most_values, printing_of, printing, unless_wrong, BadRequest, Prints}
use Rattle.ngx_calls.specs.Walks.{Walked, seen, kept, counted, with_more, after_more, after_met, after_arguments, ComesTo, given_as, came_to, came_of}
use Rattle.ngx_calls.proofs.Walking.{more_after, after_none, none_after, then_same, plain_met, kept-append, comes_some, none_of}

-- of an array that is an argument all texts are taken out of it
pub all_taken : (k t number : ℕ) (h : Heap) (w : Walked) → after_met taken_out number (met_in k h (Table t)) w ≡ after_met texts_length number (met_in k h (Table t)) w
unfolding met_in
all_taken zero t number h w = refl
all_taken (suc k) t number h w = by_elements (met_in_each (met_in k h) (elements_of h t))
  where
    by_elements : (m : Option (List (List Value))) →
        after_met taken_out number (option_map (λ met. Table t ∷ together met) m) w ≡ after_met texts_length number (option_map (λ met. Table t ∷ together met) m) w
    by_elements None = refl
    by_elements (Some met) = refl

-- nothing of an argument that is no array
pub meets_argument : (k number : ℕ) (h : Heap) (v : Value) (w : Walked) (new : Walk) (r : Result (Unit {0}) WalkFault) → ((t : ℕ) → v ≡ Table t → ⊥) →
    ComesTo (after_met (λ met. 0) number (Some (v ∷ [])) w) new r → ComesTo (after_met taken_out number (met_in k h v) w) new r
meets_argument k number h v w new r other comes = rw (plain_met k h v other) comes

-- at least the value itself is met
met_some : (k : ℕ) (h : Heap) (v : Value) (met : List Value) → met_in k h v ≡ Some met → 0 < length met
unfolding met_in
met_some zero h (Table t) met e = cc
met_some (suc k) h (Table t) met e = by_elements (met_in_each (met_in k h) (elements_of h t)) e
  where
    by_elements : (m : Option (List (List Value))) → option_map (λ met. Table t ∷ together met) m ≡ Some met → 0 < length met
    by_elements None e = cc
    by_elements (Some each) e = let l : Table t ∷ together each ≡ met = cc in rw (sym l) (omega arith)
met_some k h v met e = let l : v ∷ [] ≡ met = cc in rw (sym l) (omega arith)

-- so fewer may be met after an argument
more_falls : (n : ℕ) (bytes : List ℕ) (taken : ℕ) (wrong : Option (ℕ × LuaType)) (w next : Walked) → 0 < n → after_more n bytes taken wrong w ≡ Some next → next.left < w.left
more_falls n bytes taken wrong w next some e = by_bool (nat_lt w.left n) refl
  where
    by_bool : (b : Bool) → nat_lt w.left n ≡ b → next.left < w.left
    by_bool true f = let none : ◌≡◌ {A = Option Walked} None (Some next) = rw f at e in cc
    by_bool false f =
        let went : ◌≡◌ {A = Option Walked} (Some (with_more n bytes taken wrong w)) (Some next) = rw f at e in
        let is : with_more n bytes taken wrong w ≡ next = cc in
        let left : w.left - n ≡ next.left = ap (λ (u : Walked). u.left) is in
        omega (arith, ltb-false _ _ f, left)

pub argument_falls : (taken : List Value → ℕ) (k number : ℕ) (h : Heap) (v : Value) (w next : Walked) → after_met taken number (met_in k h v) w ≡ Some next → next.left < w.left
argument_falls taken k number h v w next e = by_met (met_in k h v) refl
  where
    by_met : (m : Option (List Value)) → met_in k h v ≡ m → next.left < w.left
    by_met None f = let none : ◌≡◌ {A = Option Walked} None (Some next) = rw f at e in cc
    by_met (Some met) f =
        let went : after_met taken number (Some met) w ≡ Some next = rw f at e in
        more_falls (length met) (flat_map printed_text met) (taken met) (unprinted_in number met) w next (met_some k h v met f) went

-- after all that is met in the arguments
after_all : ℕ → Option (List (List Value)) → Walked → Option Walked
after_all i None w = None
after_all i (Some met) w = after_more (length (together met)) (flat_map printed_text (together met)) (sum_by taken_out met) (wrong_argument i met) w

next_argument : (i : ℕ) (o : Option (List Value)) (m : Option (List (List Value))) (w : Walked) →
    option_and_then (after_all (i + 1) m) (after_met taken_out i o w) ≡ after_all i (option_and_then (λ first. option_map (λ others. first ∷ others) m) o) w
unfolding after_all
next_argument i None m w = refl
next_argument i (Some a) None w = none_after (after_met taken_out i (Some a) w)
next_argument i (Some a) (Some met) w =
    more_after (length a) (length (together met)) (flat_map printed_text a) (flat_map printed_text (together met)) (taken_out a) (sum_by taken_out met) (unprinted_in i a) (wrong_argument (i + 1) met) w
    ∙ rw (sym (length-append a (together met)), sym (flat_map-append printed_text a (together met)), sym (sum_by-cons taken_out a met)) refl

arguments_walked : (met : Value → Option (List Value)) (i : ℕ) (vs : List Value) (w : Walked) → after_arguments met i vs w ≡ after_all i (met_in_each met vs) w
unfolding after_all
arguments_walked met i [] w = sym (after_none w)
arguments_walked met i (v ∷ vs) w =
    then_same (after_arguments met (i + 1) vs) (after_all (i + 1) (met_in_each met vs)) (arguments_walked met (i + 1) vs) (after_met taken_out i (met v) w) ∙ next_argument i (met v) (met_in_each met vs) w

-- a walk as it begins
abbrev unwalked : Walked
unwalked = record { left = most_values; printed = []; taken = 0; wrong = None }

-- it ends before its end where the call is refused as a bad request
ends_bad : (m : Option (List (List Value))) → after_all 1 m unwalked ≡ None → printing_of m ≡ BadRequest
unfolding after_all
ends_bad None e = refl
ends_bad (Some met) e = by_bool (nat_lt most_values (length (together met))) refl
  where
    by_bool : (b : Bool) → nat_lt most_values (length (together met)) ≡ b → printing_of (Some met) ≡ BadRequest
    by_bool true f = rw f refl
    by_bool false f = let went : ◌≡◌ {A = Option Walked} (Some (with_more (length (together met)) (flat_map printed_text (together met)) (sum_by taken_out met) (wrong_argument 1 met) unwalked)) None = rw f at e in cc

pub bad_request : (h : Heap) (args : List Value) (printed end : List ℕ) (new : Walk) (f : WalkFault) → printed ≡ [] → f ≡ fault.BadRequest →
    ComesTo (after_arguments (met_in most_levels h) 1 args (record { left = most_values; printed = printed; taken = 0; wrong = None })) new (Err f) → came.BadRequest ≡ given_as end (printing h args)
bad_request h args printed end new f empty is comes =
    let none : after_all 1 (met_in_each (met_in most_levels h) args) unwalked ≡ None = sym (arguments_walked (met_in most_levels h) 1 args unwalked) ∙ none_of _ new (rw (is, empty) at comes) in
    ap (given_as end) (sym (ends_bad (met_in_each (met_in most_levels h) args) none))

-- a walk to its end tells all
kept_all : (bytes end : List ℕ) → kept (kept [] bytes) end ≡ take most_kept (bytes ++ end)
kept_all bytes end = kept-append [] bytes end

came_with : (bytes end : List ℕ) (taken : ℕ) (wrong : Option (ℕ × LuaType)) →
    came_of (kept (kept [] bytes) end) (counted 0 taken) wrong ≡ given_as end (unless_wrong wrong (Prints bytes taken))
came_with bytes end taken None = let told : counted 0 taken ≡ min taken (2 ^ 64 - 1) = zero-add (min taken (2 ^ 64 - 1)) in rw (kept_all bytes end, told) refl
came_with bytes end taken (Some wrong) = refl

ends_well : (m : Option (List (List Value))) (end : List ℕ) (w : Walked) → after_all 1 m unwalked ≡ Some w → came_to end w ≡ given_as end (printing_of m)
unfolding after_all
ends_well None end w e = cc
ends_well (Some met) end w e = by_bool (nat_lt most_values (length (together met))) refl
  where
    by_bool : (b : Bool) → nat_lt most_values (length (together met)) ≡ b → came_to end w ≡ given_as end (printing_of (Some met))
    by_bool true f = let none : ◌≡◌ {A = Option Walked} None (Some w) = rw f at e in cc
    by_bool false f =
        let went : ◌≡◌ {A = Option Walked} (Some (with_more (length (together met)) (flat_map printed_text (together met)) (sum_by taken_out met) (wrong_argument 1 met) unwalked)) (Some w) = rw f at e in
        let is : with_more (length (together met)) (flat_map printed_text (together met)) (sum_by taken_out met) (wrong_argument 1 met) unwalked ≡ w = cc in
        rw (sym is, f) (came_with (flat_map printed_text (together met)) end (sum_by taken_out met) (wrong_argument 1 met))

pub told_all : (h : Heap) (args : List Value) (printed end : List ℕ) (new : Walk) (u : Unit {0}) → printed ≡ [] →
    ComesTo (after_arguments (met_in most_levels h) 1 args (record { left = most_values; printed = printed; taken = 0; wrong = None })) new (Ok u) → came_to end (seen new) ≡ given_as end (printing h args)
told_all h args printed end new u empty comes =
    ends_well (met_in_each (met_in most_levels h) args) end (seen new)
    (sym (arguments_walked (met_in most_levels h) 1 args unwalked) ∙ comes_some (after_arguments (met_in most_levels h) 1 args unwalked) new (Ok u) u (rw empty at comes) refl)

-- the arguments that are left
pub argument_goes : (met : Value → Option (List Value)) (n i : ℕ) (args : List Value) (v : Value) (u next : Walked) (all : Option Walked) →
    after_arguments met (n + 1) (drop i args) u ≡ all → i < length args → v ≡ get_or args i v → after_met taken_out (n + 1) (met v) u ≡ Some next → after_arguments met (n + 1 + 1) (drop (i + 1) args) next ≡ all
argument_goes met n i args v u next all left less at goes =
    let one : i + 1 ≡ suc i = omega arith in
    let first : drop i args ≡ v ∷ drop (i + 1) args = drop-cons args i v less ∙ rw (sym at, one) refl in
    ap (option_and_then (after_arguments met (n + 1 + 1) (drop (i + 1) args))) (sym goes) ∙ ap (λ vs. after_arguments met (n + 1) vs u) (sym first) ∙ left
