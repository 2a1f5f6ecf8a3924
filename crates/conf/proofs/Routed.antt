-- A request has one route: the location that fits best is the first of the greatest rank.
use Rattle.std.proofs.Common.{◌≡◌, ◌≤◌, ◌<◌, ◌==◌, ℕ, zero, suc, ◌+◌, max, Bool, true, false, not, cond, List, [], ◌∷◌, length, position, slice_get, Option, Some, None}
use Rattle.std.proofs.Common.{refl, sym, ap, ◌∙◌, arith}
use Rattle.std.proofs.lemmas.Grind.{common_steps}
use Rattle.std.proofs.lemmas.Bool.Decides.{nat_tests}
use Rattle.std.specs.List.{fold, position_or_len}
use Rattle.std.specs.Option.{option_map_or}
use Rattle.conf.specs.Routes.{rank, best_rank, location_for, server_for, IsLocationFor, IsRoute, route_of}
use Rattle.conf.specs.declared.routes.Route.{Route}
use Rattle.conf.specs.declared.sites.Conf.{Conf}
use Rattle.conf.specs.declared.sites.LocationConf.{LocationConf}
use Rattle.conf.specs.declared.sites.ServerConf.{ServerConf}

module _ {A : Type 0} (f : A → ℕ) where
  -- the greatest of a number and of what f gives
  abbrev top : ℕ → List A → ℕ
  top a xs = fold (λ b x. max b (f x)) a xs

  top_le : (xs : List A) (a n : ℕ) → a ≤ n → ((k : ℕ) (x : A) → slice_get xs k ≡ Some x → f x ≤ n) → top a xs ≤ n
  top_le [] a n h all = h
  top_le (x ∷ xs) a n h all = top_le xs (max a (f x)) n (let g = all 0 x refl in omega arith) (λ k y e. all (suc k) y e)

  top_ge : (xs : List A) (a : ℕ) → a ≤ top a xs
  top_ge [] a = omega arith
  top_ge (x ∷ xs) a = let h = top_ge xs (max a (f x)) in omega arith

  top_at : (xs : List A) (a k : ℕ) (x : A) → slice_get xs k ≡ Some x → f x ≤ top a xs
  top_at [] a k x e = absurd (let no : ◌≡◌ {A = Option A} None (Some x) = e in cc)
  top_at (y ∷ ys) a zero x e =
      let same : y ≡ x = (let some : ◌≡◌ {A = Option A} (Some y) (Some x) = e in cc) in
      let h = top_ge ys (max a (f y)) in
      let g = ap f same in
      omega arith
  top_at (y ∷ ys) a (suc k) x e = top_at ys (max a (f y)) k x e

module _ {A : Type 0} (p : A → Bool) where
  -- the first that passes
  first_at : (xs : List A) (i : ℕ) (x : A) → slice_get xs i ≡ Some x → p x ≡ true → ((k : ℕ) (y : A) → k < i → slice_get xs k ≡ Some y → p y ≡ false)
      → (position_or_len p xs ≡ i) × (i < length xs)
  first_at [] i x e passes fails = absurd (let no : ◌≡◌ {A = Option A} None (Some x) = e in cc)
  first_at (y ∷ ys) zero x e passes fails =
      let same : y ≡ x = (let some : ◌≡◌ {A = Option A} (Some y) (Some x) = e in cc) in
      (ap (λ t. cond (not t) (1 + position_or_len p ys) 0) (ap p same ∙ passes), omega arith)
  first_at (y ∷ ys) (suc i) x e passes fails =
      let h = first_at ys i x e passes (λ k z lt there. fails (suc k) z (omega arith) there) in
      let g : position_or_len p (y ∷ ys) ≡ 1 + position_or_len p ys = ap (λ t. cond (not t) (1 + position_or_len p ys) 0) (fails 0 y (omega arith) refl) in
      (omega arith, omega arith)

  at_position : (xs : List A) (i : ℕ) → (position_or_len p xs ≡ i) × (i < length xs) → position p xs ≡ Some i
  at_position xs i h = grind (arith, common_steps)

ranks_equal : (a b : ℕ) → a ≡ b → (a == b) ≡ true
ranks_equal a b h = grind (arith, nat_tests)

ranks_differ : (a b : ℕ) → a < b → (a == b) ≡ false
ranks_differ a b h = grind (arith, nat_tests)

not_none : (best : ℕ) → 0 < best → (best == 0) ≡ false
not_none best h = grind (arith, nat_tests)

module _ (locations : List LocationConf) (path : List ℕ) where
  abbrev rank_of : LocationConf → ℕ
  rank_of location = rank path location.kind

  -- the location for a best rank
  abbrev chosen : ℕ → Option ℕ
  chosen best = cond (best == 0) None (position (λ location. rank_of location == best) locations)

  pub located : (found : Option ℕ) → IsLocationFor locations path found → found ≡ location_for locations path
  located None most =
      let least : best_rank locations path ≡ 0 = (let h = top_le rank_of locations 0 0 (omega arith) most in omega arith) in
      sym (ap chosen least)
  located (Some index) h =
      let best = h.0 in
      let first = h.1.0 in
      let low = top_le rank_of locations 0 best (omega arith) h.1.1 in
      let high = top_at rank_of locations 0 index first.location first.there in
      let greatest : best_rank locations path ≡ best = (let r : rank_of first.location ≡ best = first.ranked in omega arith) in
      let found = first_at (λ location. rank_of location == best) locations index first.location first.there (ranks_equal _ _ first.ranked)
      (λ k other lt there. ranks_differ _ _ (first.first k other lt there)) in
      sym (ap chosen greatest ∙ ap (λ t. cond t None (position (λ location. rank_of location == best) locations)) (not_none best first.fits)
      ∙ at_position (λ location. rank_of location == best) locations index found)

same_route : (r s : Route) → r.server ≡ s.server → r.location ≡ s.location → r ≡ s
same_route r s server location =
    ap (λ (n : ℕ). let made : Route = record { server = n; location = r.location } in made) server
    ∙ ap (λ (l : Option ℕ). let made : Route = record { server = s.server; location = l } in made) location

pub one_route : (conf : Conf) (host path : List ℕ) (route : Route) → IsRoute conf host path route → route ≡ route_of conf host path
one_route conf host path route is =
    let here : slice_get conf.servers (server_for conf host) ≡ Some is.server = ap (slice_get conf.servers) (sym is.named) ∙ is.there in
    let among : is.server.locations ≡ option_map_or (λ (server : ServerConf). server.locations) (slice_get conf.servers (server_for conf host)) [] =
    sym (ap (λ found. option_map_or (λ (server : ServerConf). server.locations) found []) here) in
    let at : route.location ≡ (route_of conf host path).location = located is.server.locations path route.location is.located ∙ ap (λ locations. location_for locations path) among in
    same_route route (route_of conf host path) is.named at
