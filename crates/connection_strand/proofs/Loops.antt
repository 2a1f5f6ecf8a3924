-- What the loop that settles keeps.
use Rattle.std.proofs.Common.{◌≡◌, ℕ, ◌<◌, ◌+◌, Bool, true, false, length, refl, arith}
use Rattle.strand_plans.specs.Moves.{Move, Performed, perform}
use Rattle.connection_plan.specs.Clients.{Stage}
use Rattle.connection_plan.specs.Services.{Both}
use Rattle.connection_plan.specs.Turns.{settle}
use Rattle.connection_strand.specs.Views.{View, service}
use Rattle.connection_strand.specs.declared.state.Connection.{Connection}
use Rattle.connection_strand.specs.declared.state.Progress.{Progress}
use Rattle.connection_strand.specs.Standing.{plain, Toward, Came, Went, Steps, IsWithin, before}
use Rattle.connection_strand.specs.Costs.{whole, weight_if, Spends, Costs, Settles}

module _ {R J I : Type 0} (v : View R J I) (now : ℕ) where
  -- what settling came to so far, and that it may go on
  pub record IsSettling (on : Bool) (c0 : Connection R) (u0 : Progress J) (c : Connection R) (u : Progress J) : Type 0 where
    pub moves : (st : Stage) (did : Performed J (Both I)) → Toward v (plain st) did c0 u0 (settle (service v) now) → Went v on did c u (settle (service v) now)
    pub within : on ≡ true → IsWithin v c u

  pub begins : (c : Connection R) (u : Progress J) → IsWithin v c u → IsSettling true c u c u
  begins c u x = record { moves = λ st did h. (st, h); within = λ e. x }

  pub within-on : (on : Bool) (did : Performed J (Both I)) (c : Connection R) (u : Progress J) (m : Move J (Both I)) → Went v on did c u m → on ≡ true
      → IsWithin v c u
  within-on true did c u m w e = (w.0, (w.1.ledger, w.1.inner, w.1.within))
  within-on false did c u m w e = absurd (let f : false ≡ true = e in cc)

  pub goes-on : (on : Bool) (c0 : Connection R) (u0 : Progress J) (c : Connection R) (u : Progress J) (d : Connection R) (w : Progress J) → IsSettling true c0 u0 c u
      → Steps v on (settle (service v) now) c u d w → IsSettling on c0 u0 d w
  goes-on on c0 u0 c u d w x steps =
      let y = x.within refl in
      let did : Performed J (Both I) = before u.acts.items (perform (settle (service v) now) y.1.0 y.1.1) in
      let h : Toward v (plain y.0) did c u (settle (service v) now) = record { ledger = y.1.0; inner = y.1.1; within = y.1.2; leads = refl } in
      record {
        moves = λ st did h. (let t = x.moves st did h in steps t.0 did t.1);
        within = within-on on did d w (settle (service v) now) (steps y.0 did h);
      }

  pub settled : (c0 : Connection R) (u0 : Progress J) (c : Connection R) (u : Progress J) (st : Stage) (did : Performed J (Both I)) → IsSettling false c0 u0 c u
      → Toward v (plain st) did c0 u0 (settle (service v) now) → Came v did c u
  settled c0 u0 c u st did x h = x.moves st did h

module _ {R J : Type 0} (left : R → ℕ) (bound : ℕ) where
  -- what it cost so far
  abbrev pub Spent : Bool → Connection R → Progress J → Connection R → Progress J → Type 0
  Spent true c0 u0 c u = Spends left bound 0 c0 u0 c u
  Spent false c0 u0 c u = Costs left bound 5 c0 u0 c u

  abbrev pub rounds : Bool → Connection R → Progress J → ℕ
  rounds on c u = weight_if on (whole left bound c + length u.acts.items + 1)

  pub spends-on : (on : Bool) (c0 : Connection R) (u0 : Progress J) (c : Connection R) (u : Progress J) (d : Connection R) (v : Progress J) → Spends left bound 0 c0 u0 c u
      → Settles left bound on c u d v → Spent on c0 u0 d v
  spends-on true c0 u0 c u d v x y = omega arith
  spends-on false c0 u0 c u d v x y = omega arith

  pub fewer : (on : Bool) (c : Connection R) (u : Progress J) (d : Connection R) (v : Progress J) → Settles left bound on c u d v → rounds on d v < rounds true c u
  fewer true c u d v y = omega arith
  fewer false c u d v y = omega arith
