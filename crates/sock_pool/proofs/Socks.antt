-- The sockets of each key after a change of those of one.
use Rattle.std.proofs.Common.{◌≡◌, ℕ, nat_eq, Bool, true, false, cond, List, [], ◌∷◌, Some, None, refl, sym, ap, ◌∙◌, length, arith}
use Rattle.std.specs.Map.{keys_of, lookup, remove_entry}
use Rattle.shared_rules.specs.Keys.{same_key}
use Rattle.shared_rules.specs.KeyLaws.{same_key-eq}
use Rattle.sock_pool.specs.Keys.{numbers_in, without, first_put, left_out}
use Rattle.sock_pool.proofs.Numbers.{without-keys}

module _ {V : Type 0} (es : List (List ℕ × List (ℕ × V))) (key : List ℕ) (sock : ℕ) (k : List ℕ) (old : List (ℕ × V)) where
  -- the key has these entries
  there : (b : Bool) → same_key key k ≡ b → lookup (same_key key) es ≡ Some old → b ≡ true → lookup (same_key k) es ≡ Some old
  there true q h t = ap (λ (x : List ℕ). lookup (same_key x) es) (sym (same_key-eq key k q)) ∙ h
  there false q h t = absurd (let f : false ≡ true = t in cc)

  pub puts-first : (v : V) → lookup (same_key key) es ≡ Some old
      → numbers_in (cond (same_key key k) (Some ((sock, v) ∷ remove_entry (nat_eq sock) old)) (lookup (same_key k) es)) ≡ first_put key sock k (numbers_in (lookup (same_key k) es))
  puts-first v h = put (same_key key k) refl
    where
      put : (b : Bool) → same_key key k ≡ b → numbers_in (cond b (Some ((sock, v) ∷ remove_entry (nat_eq sock) old)) (lookup (same_key k) es)) ≡ cond b (sock ∷ without sock (numbers_in (lookup (same_key k) es))) (numbers_in (lookup (same_key k) es))
      put true q = ap (λ l. sock ∷ l) (without-keys sock old ∙ ap (λ o. without sock (numbers_in o)) (sym (there true q h refl)))
      put false q = refl

  pub takes-out : lookup (same_key key) es ≡ Some old
      → numbers_in (cond (same_key key k) (Some (remove_entry (nat_eq sock) old)) (lookup (same_key k) es)) ≡ left_out key sock k (numbers_in (lookup (same_key k) es))
  takes-out h = put (same_key key k) refl
    where
      put : (b : Bool) → same_key key k ≡ b → numbers_in (cond b (Some (remove_entry (nat_eq sock) old)) (lookup (same_key k) es)) ≡ cond b (without sock (numbers_in (lookup (same_key k) es))) (numbers_in (lookup (same_key k) es))
      put true q = without-keys sock old ∙ ap (λ o. without sock (numbers_in o)) (sym (there true q h refl))
      put false q = refl

  -- where none is left, the key needn't be there
  pub takes-last : lookup (same_key key) es ≡ Some old → length (remove_entry (nat_eq sock) old) ≡ 0
      → numbers_in (cond (same_key key k) None (lookup (same_key k) es)) ≡ left_out key sock k (numbers_in (lookup (same_key k) es))
  takes-last h z = put (same_key key k) refl
    where
      empty : (l : List (ℕ × V)) → length l ≡ 0 → [] ≡ keys_of l
      empty [] z = refl
      empty (x ∷ l) z = absurd (omega arith)

      put : (b : Bool) → same_key key k ≡ b → numbers_in (cond b None (lookup (same_key k) es)) ≡ cond b (without sock (numbers_in (lookup (same_key k) es))) (numbers_in (lookup (same_key k) es))
      put true q = empty (remove_entry (nat_eq sock) old) z ∙ without-keys sock old ∙ ap (λ o. without sock (numbers_in o)) (sym (there true q h refl))
      put false q = refl
