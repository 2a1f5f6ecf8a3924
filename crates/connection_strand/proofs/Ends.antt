-- How a turn comes to its end.
use Rattle.std.specs.Prelude.{IfOk, Result, Ok, Err}
use Rattle.std.proofs.Common.{◌≡◌, ℕ, ◌≤◌, ◌+◌, ◌*◌, Bool, true, false, List, [], ◌∷◌, ◌++◌, map, length, if◌then◌else◌, refl, sym, ap, ◌∙◌, subst, append-nil, append_assoc, arith, length-append}
use Rattle.strand_contract.specs.declared.turns.Act.{Act}
use Rattle.strand_contract.specs.declared.turns.Act.TheVariants as act
use Rattle.strand_contract.specs.declared.turns.Place.TheVariants as place
use Rattle.strand_plans.specs.Moves.{Done, Performed, ending}
use Rattle.connection_plan.specs.Clients.{Stage}
use Rattle.connection_plan.specs.Services.{Both}
use Rattle.connection_strand.specs.Views.{View}
use Rattle.connection_strand.specs.declared.state.Connection.{Connection}
use Rattle.connection_strand.specs.declared.state.Progress.{Progress}
use Rattle.connection_strand.specs.Kept.{waits_of}
use Rattle.connection_strand.specs.Standing.{plain, kept_sock, HasRun, Toward, Came, Went, places}
use Rattle.connection_strand.specs.Costs.{weight_if}

-- the acts of an end
pub ending-socks : {J : Type 0} (socks : List ℕ) → ending {J = J} (map place.Sock socks) ≡ map (λ (k : ℕ). act.HangUp (place.Sock k)) socks ++ act.Gone ∷ []
ending-socks [] = refl
ending-socks (k ∷ ks) = ap (λ acts. act.HangUp (place.Sock k) ∷ acts) (ending-socks ks)

module _ {R J I : Type 0} (v : View R J I) where
  -- nothing more is done
  pub done-came : (st : Stage) (did : Performed J (Both I)) (c : Connection R) (u : Progress J) → Toward v (plain st) did c u Done → Came v did c u
  done-came st did c u h =
      let b = h.ledger in
      let s = h.inner in
      let w = h.within.serves in
      subst (λ (d : Performed J (Both I)). Came v d c u) (sym h.leads) (record {
        acts = append-nil u.acts.items;
        stays = λ on. record {
          client = w.client;
          sockets = w.sockets;
          count = w.count;
          keeping = w.keeping ∙ ap kept_sock (sym w.none_asked);
          on = w.on;
          run = subst (λ (st : Stage). HasRun v st c.run (waits_of c.waits) b s.run) (sym h.within.at) h.within.run;
        };
        taking = w.taking;
      })

  pub went-came : (on : Bool) (did : Performed J (Both I)) (c : Connection R) (u : Progress J) → Went v on did c u Done → Came v did c u
  went-came true did c u w = done-came w.0 did c u w.1
  went-came false did c u w = w

-- what is hung up, before the life is over
abbrev pub hung : {J : Type 0} → List ℕ → List (Act J)
hung socks = map (λ (k : ℕ). act.HangUp (place.Sock k)) socks

socks-length : (J : Type 0) (socks : List ℕ) → length (ending {J = J} (map place.Sock socks)) ≡ length socks + 1
socks-length J [] = refl
socks-length J (k ∷ ks) = let e = socks-length J ks in omega arith

pub ending-length : (J : Type 0) (o : Bool) (socks : List ℕ) → length (ending {J = J} (places o socks)) ≡ (if o then 1 else 0) + length socks + 1
ending-length J true socks = let e = socks-length J socks in omega arith
ending-length J false socks = let e = socks-length J socks in omega arith

module _ {J : Type 0} where
  pub closing : (o : Bool) (acts first more last : List (Act J)) (socks : List ℕ) → first ≡ acts ++ (if o then act.HangUp place.Client ∷ [] else [])
      → more ≡ first ++ hung socks → last ≡ more ++ act.Gone ∷ [] → last ≡ acts ++ ending (places o socks)
  closing o acts first more last socks e f g =
      g ∙ ap (λ xs. xs ++ act.Gone ∷ []) (f ∙ ap (λ xs. xs ++ hung socks) e) ∙ by o
    where
      by : (o : Bool) → ((acts ++ (if o then act.HangUp place.Client ∷ [] else [])) ++ hung socks) ++ act.Gone ∷ [] ≡ acts ++ ending (places o socks)
      by true = append_assoc (acts ++ act.HangUp place.Client ∷ []) (hung socks) (act.Gone ∷ [])
          ∙ append_assoc acts (act.HangUp place.Client ∷ []) (hung socks ++ act.Gone ∷ [])
          ∙ ap (λ xs. acts ++ act.HangUp place.Client ∷ xs) (sym (ending-socks socks))
      by false = append_assoc (acts ++ []) (hung socks) (act.Gone ∷ [])
          ∙ ap (λ xs. xs ++ (hung socks ++ act.Gone ∷ [])) (append-nil acts)
          ∙ ap (λ xs. acts ++ xs) (sym (ending-socks socks))

  -- it costs no more than was left
  pub closing-costs : (o : Bool) (x n : ℕ) (acts last : List (Act J)) (socks : List ℕ) → last ≡ acts ++ ending (places o socks) → n ≡ x + weight_if o 4 + 2 * length socks + 2
      → 0 + length last ≤ n + length acts + 0
  closing-costs o x n acts last socks e f = by o (ap length e ∙ length-append acts (ending (places o socks)) ∙ ap (λ k. length acts + k) (ending-length J o socks)) f
    where
      by : (o : Bool) → length last ≡ length acts + ((if o then 1 else 0) + length socks + 1) → n ≡ x + weight_if o 4 + 2 * length socks + 2 → 0 + length last ≤ n + length acts + 0
      by true e f = omega arith
      by false e f = omega arith

pub ok-map : {T F : Type 0} (r : Result T F) (P Q : T → Type 0) → ((x : T) → P x → Q x) → IfOk r P → IfOk r Q
ok-map (Ok x) P Q f h = f x h
ok-map (Err e) P Q f h = tt

pub ok-both : {T F : Type 0} (r : Result T F) (P Q S : T → Type 0) → ((x : T) → P x → Q x → S x) → IfOk r P → IfOk r Q → IfOk r S
ok-both (Ok x) P Q S f h k = f x h k
ok-both (Err e) P Q S f h k = tt

pub of-ok : {T F : Type 0} (r : Result T F) (x : T) (P : T → Type 0) → r ≡ Ok x → IfOk r P → P x
of-ok r x P is h = subst (λ o. IfOk o P) is h

-- a value beside that of a result
abbrev pub beside : {S T F : Type 0} → S → Result T F → Result (S × T) F
beside s (Ok x) = Ok (s, x)
beside s (Err e) = Err e

pub of-beside : {S T F : Type 0} (s : S) (r : Result T F) (x : T) → r ≡ Ok x → beside s r ≡ Ok (s, x)
of-beside s r x is = ap (beside s) is
