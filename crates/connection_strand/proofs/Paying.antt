-- What pays for words and turns of a run, and for requests that are held.
use Rattle.std.specs.Prelude.{filter, ◌^◌}
use Rattle.std.proofs.Common.{◌≡◌, ℕ, ◌≤◌, ◌<◌, ◌+◌, ◌*◌, ◌==◌, Bool, true, false, not, List, [], ◌∷◌, length, Option, Some, if◌then◌else◌, refl, ap, arith}
use Rattle.strand_contract.specs.declared.turns.Act.{Act}
use Rattle.strand_contract.specs.declared.turns.Act.TheVariants as act
use Rattle.strand_contract.specs.declared.turns.Place.TheVariants as place
use Rattle.run_contract.specs.declared.turns.RunAct.{RunAct}
use Rattle.run_contract.specs.declared.turns.Asking.{Asking}
use Rattle.connection_plan.specs.Clients.{Reply, Unsent, Begun, Whole, begun, is_last, Times}
use Rattle.connection_plan.specs.Clients as stage
use Rattle.connection_strand.specs.declared.state.Connection.{Connection}
use Rattle.connection_strand.specs.declared.state.Progress.{Progress}
use Rattle.connection_strand.specs.Kept.{kept}
use Rattle.connection_strand.specs.Acts.{sockets_after}
use Rattle.connection_strand.specs.Turns.{with_asks}
use Rattle.connection_strand.specs.Costs.{unit, weight_if, client_left, run_left, units, whole, Spends, Pays}
use Rattle.connection_strand.proofs.Costing.{spends-client, one-longer}
use Rattle.connection_strand.proofs.Parts.{TookAct}

-- ---- units

pub unit-holds : (n : ℕ) → n < 2 ^ 64 → 16 * n + 1 ≤ unit
unfolding unit
unit-holds n h = omega arith

pub unit-some : (n : ℕ) → n ≤ 406 → n ≤ unit
unfolding unit
unit-some n h = omega arith

unit-and : (m n : ℕ) → unit * (m + n) ≡ unit * m + unit * n
unfolding unit
unit-and m n = omega arith

unit-one : (m n : ℕ) → m + 1 ≤ n → unit * m + unit ≤ unit * n
unfolding unit
unit-one m n h = omega arith

-- a run that has less pays for what it did
unit-less : (a b n y w : ℕ) → a + n < b → unit * (a + y + w) + unit * n + unit ≤ unit * (b + y + w)
unfolding unit
unit-less a b n y w h = omega arith

unit-begun : (a n b r y w : ℕ) → a + n ≤ b → unit * (a + y + 1) + unit * n ≤ unit * (r + y + w) + unit * (b + 1)
unfolding unit
unit-begun a n b r y w h = omega arith

unit-last : (x : ℕ) → unit * (x + 0) + unit ≤ unit * (x + 1)
unfolding unit
unit-last x = omega arith

-- ---- acts of a run's turn

pub filter-fewer : (f : ℕ → Bool) (xs : List ℕ) → length (filter f xs) ≤ length xs
filter-fewer f [] = omega arith
filter-fewer f (x ∷ xs) = by (filter-fewer f xs) (f x)
  where
    by : length (filter f xs) ≤ length xs → (o : Bool) → length (if o then x ∷ filter f xs else filter f xs) ≤ length (x ∷ xs)
    by h true = omega arith
    by h false = omega arith

pub sockets-fewer : {J : Type 0} (a : Act J) (socks : List ℕ) → length (sockets_after a socks) ≤ length socks
sockets-fewer (act.HangUp (place.Sock k)) socks = filter-fewer (λ j. not (j == k)) socks
sockets-fewer a socks = omega arith

begun-last : (r : Reply) → is_last (begun r) ≡ is_last r
begun-last Unsent = refl
begun-last Begun = refl
begun-last (Whole closes) = refl

module _ {R J : Type 0} (left : R → ℕ) (bound : ℕ) where
  pub spends-more : (n m : ℕ) (c c' : Connection R) (u u' : Progress J) → n ≤ m → Spends left bound n c u c' u' → Spends left bound m c u c' u'
  spends-more n m c c' u u' l h = omega arith

  -- ---- words

  pub begins-reply : (n : ℕ) (c d c' : Connection R) (u u' : Progress J) → kept d.client ≡ record (kept c.client) { reply = begun (kept c.client).reply } → d.run ≡ c.run
      → d.sockets.items ≡ c.sockets.items → Spends left bound n d u c' u' → Spends left bound n c u c' u'
  begins-reply n c d c' u u' client run socks h =
      let k = kept c.client in
      let f : Spends left bound 0 c u d u = spends-client left bound 0 c d u u (record k { reply = begun k.reply }) client run socks
      (ap (λ (b : Bool). run_left left bound c.run + length k.came.held * (bound + 2) + weight_if (not b) 1) (begun-last k.reply)) (omega arith) in
      omega arith

  -- what is counted is as it was
  pub spends-same : (n : ℕ) (c d c' : Connection R) (u u' : Progress J) → d.run ≡ c.run → d.sockets.items ≡ c.sockets.items → units left bound (kept d.client) c.run ≡ units left bound (kept c.client) c.run
      → client_left (kept d.client) ≡ client_left (kept c.client) → Spends left bound n d u c' u' → Spends left bound n c u c' u'
  spends-same n c d c' u u' run socks same less h =
      let f : Spends left bound 0 c u d u = spends-client left bound 0 c d u u (kept d.client) refl run socks same (omega (arith, less)) in
      omega arith

  -- ---- turns of a run

  -- an act
  pub act-costs : (a : Act J) (c c' : Connection R) (u u' : Progress J) → TookAct a c c' u u' → Spends left bound 1 c u c' u'
  act-costs a c c' u u' x =
      let e : whole left bound c' ≡ unit * units left bound (kept c.client) c.run + client_left (kept c.client) + 2 * length c'.sockets.items + 2 =
      ap (λ (k : Connection R). unit * units left bound (kept k.client) k.run + client_left (kept k.client) + 2 * length c'.sockets.items + 2) x.kept in
      let f = sockets-fewer a c.sockets.items in
      let g = ap length x.sockets in
      let l = one-longer u.acts.items u'.acts.items a x.acts in
      omega arith

  -- what was taken of it so far is paid for
  abbrev pub Taking : List (RunAct J) → Connection R → Progress J → List (RunAct J) → Connection R → Progress J → Type 0
  Taking parts c u rest c' u' = whole left bound c' + length u'.acts.items + unit * length rest ≤ whole left bound c + length u.acts.items + unit * length parts

  pub takes-first : (parts : List (RunAct J)) (q : Option Asking) (c : Connection R) (u : Progress J) → Taking parts c u parts (with_asks q c) u
  takes-first parts q c u = omega arith

  pub takes-on : (parts rest more : List (RunAct J)) (c d e : Connection R) (u v w : Progress J) → length rest ≡ length more + 1 → Taking parts c u rest d v → Spends left bound unit d v e w
      → Taking parts c u more e w
  takes-on parts rest more c d e u v w l h k = let f = unit-one (length more) (length rest) (omega arith) in omega arith

  pub tells-costs : (n : ℕ) (old new : R) (c d c' : Connection R) (u u' : Progress J) → c.run ≡ Some old → d.run ≡ Some new → d.client ≡ c.client → d.sockets ≡ c.sockets
      → left new + n < left old → Spends left bound (unit * n) d u c' u' → Pays left bound unit c u c' u'
  tells-costs n old new c d c' u u' was is client socks less h =
      let k = kept c.client in
      let y = length k.came.held * (bound + 2) in
      let w = weight_if (not (is_last k.reply)) 1 in
      let e : whole left bound d ≡ unit * (left new + y + w) + client_left k + 2 * length c.sockets.items + 2 =
      λ i. unit * units left bound (kept (client i)) (is i) + client_left (kept (client i)) + 2 * length (socks i).items + 2 in
      let f : whole left bound c ≡ unit * (left old + y + w) + client_left k + 2 * length c.sockets.items + 2 =
      λ i. unit * units left bound k (was i) + client_left k + 2 * length c.sockets.items + 2 in
      let g = unit-less (left new) (left old) n y w less in
      omega arith

  pub begins-costs : (n : ℕ) (new : R) (times : Times) (expects : Bool) (c d c' : Connection R) (u u' : Progress J)
      → kept d.client ≡ record (kept c.client) { stage = stage.Busy; times = times; reply = Unsent; expects = expects; waited = false } → d.run ≡ Some new → d.sockets ≡ c.sockets
      → left new + n ≤ bound → Spends left bound (unit * n) d u c' u' → Spends left bound (unit * (bound + 1)) c u c' u'
  begins-costs n new times expects c d c' u u' client is socks less h =
      let k = kept c.client in
      let y = length k.came.held * (bound + 2) in
      let w = weight_if (not (is_last k.reply)) 1 in
      let r = run_left left bound c.run in
      let e : whole left bound d ≡ unit * (left new + y + 1) + client_left k + 2 * length c.sockets.items + 2 =
      λ i. unit * units left bound (client i) (is i) + client_left (client i) + 2 * length (socks i).items + 2 in
      let g = unit-begun (left new) n bound r y w less in
      omega arith

  -- ---- heads that are refused

  -- what the reply costs is paid for by that no more heads are read
  pub refuses-costs : (times : Times) (c d e : Connection R) (u v : Progress J) → kept d.client ≡ record (kept c.client) { stage = stage.Flush; times = times; reply = Whole true }
      → d.run ≡ c.run → d.sockets ≡ c.sockets → is_last (kept c.client).reply ≡ false → Spends left bound unit d u e v → Spends left bound 0 c u e v
  refuses-costs times c d e u v client run socks last h =
      let k = kept c.client in
      let y = run_left left bound c.run + length k.came.held * (bound + 2) in
      let is : whole left bound d ≡ unit * (y + 0) + client_left k + 2 * length c.sockets.items + 2 =
      λ i. unit * units left bound (client i) (run i) + client_left (client i) + 2 * length (socks i).items + 2 in
      let was : whole left bound c ≡ unit * (y + 1) + client_left k + 2 * length c.sockets.items + 2 =
      λ i. unit * (y + weight_if (not (last i)) 1) + client_left k + 2 * length c.sockets.items + 2 in
      let f = unit-last y in
      omega arith
