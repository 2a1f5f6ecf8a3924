-- A map with text keys, at the keys that weren't set.
use Rattle.std.proofs.Common.{◌≡◌, ◌≢◌, ℕ, List, Option, false, sym, refl}
use Rattle.std.proofs.lemmas.Bool.{false_from_ne_true}
use Rattle.std.proofs.lemmas.Slice.Eq.{bytes_eq-Decides}
use Rattle.std.specs.Str.{bytes_eq}
use Rattle.std.specs.Map.{update}
use Rattle.std.proofs.Common.{rules}

pub differs-bytes_eq : (xs ys : List ℕ) → ys ≢ xs → bytes_eq xs ys ≡ false
differs-bytes_eq xs ys differs = false_from_ne_true (bytes_eq xs ys) (λ same. differs (sym (let e : xs ≡ ys = search (rules, bytes_eq-Decides) in e)))

pub update-others : {X : Type 0} (files : List ℕ → Option X) (name other key : List ℕ) (new : Option X) (value : Option X) → key ≡ name → other ≢ name
    → new ≡ update bytes_eq files key value other → new ≡ files other
update-others files name other key new value is_name differs updates =
    let apart = differs-bytes_eq name other differs in
    rw (updates, is_name, apart) refl
