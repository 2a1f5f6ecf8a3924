-- Parts of a list of items: some of them, in their order.
use Rattle.std.proofs.Common.{◌≡◌, ℕ, zero, suc, ◌-◌, ◌≤◌, nat_lt, Bool, true, false, List, [], ◌∷◌, length, take, map, All, arith, if◌then◌else◌}
use Rattle.std.proofs.lemmas.List.Sums.{sum_by-cons}
use Rattle.std.proofs.lemmas.List.Elements.{All-head, All-tail, All-cons}
use Rattle.std.proofs.lemmas.Map.Keys.{IsDistinct-head, IsDistinct-tail, IsDistinct-cons}
use Rattle.std.specs.List.{IsDistinct, AllByRecursion}
use Rattle.shared_rules.specs.declared.items.Item.{Item}
use Rattle.shared_rules.specs.Keys.{same_key}
use Rattle.shared_rules.specs.Items.{size_of, used, is_there, has_key, without, swept}
use Rattle.shared_rules.specs.Ranges.{IsKept, IsWithin}

pub data IsPart : List Item → List Item → Type 0 where
  nothing : IsPart [] []
  passes : (x : Item) (xs ys : List Item) → IsPart xs ys → IsPart xs (x ∷ ys)
  keeps : (x : Item) (xs ys : List Item) → IsPart xs ys → IsPart (x ∷ xs) (x ∷ ys)

abbrev pub keys : List Item → List (List ℕ)
keys items = map (λ item. item.key) items

pub whole : (xs : List Item) → IsPart xs xs
whole [] = nothing
whole (x ∷ xs) = keeps x xs xs (whole xs)

pub part-used : (xs ys : List Item) → IsPart xs ys → used xs ≤ used ys
part-used xs ys nothing = omega arith
part-used xs ys (passes x xs' ys' p) = let h = part-used xs' ys' p in let e = sum_by-cons size_of x ys' in omega arith
part-used xs ys (keeps x xs' ys' p) = let h = part-used xs' ys' p in let e = sum_by-cons size_of x ys' in let d = sum_by-cons size_of x xs' in omega arith

part-all : (P : List ℕ → Type 0) (xs ys : List Item) → IsPart xs ys → AllByRecursion P (keys ys) → AllByRecursion P (keys xs)
part-all P xs ys nothing a = a
part-all P xs ys (passes x xs' ys' p) a = part-all P xs' ys' p a.1
part-all P xs ys (keeps x xs' ys' p) a = (a.0, part-all P xs' ys' p a.1)

part-distinct : (xs ys : List Item) → IsPart xs ys → IsDistinct same_key (keys ys) → IsDistinct same_key (keys xs)
part-distinct xs ys nothing d = d
part-distinct xs ys (passes x xs' ys' p) d = part-distinct xs' ys' p (IsDistinct-tail same_key x.key (keys ys') d)
part-distinct xs ys (keeps x xs' ys' p) d =
    IsDistinct-cons same_key x.key (keys xs') (part-all (λ k. same_key x.key k ≡ false) xs' ys' p (IsDistinct-head same_key x.key (keys ys') d)) (part-distinct xs' ys' p (IsDistinct-tail same_key x.key (keys ys') d))

part-kept : (xs ys : List Item) → IsPart xs ys → All IsKept ys → All IsKept xs
part-kept xs ys nothing a = a
part-kept xs ys (passes x xs' ys' p) a = part-kept xs' ys' p (All-tail IsKept x ys' a)
part-kept xs ys (keeps x xs' ys' p) a = All-cons IsKept x xs' (All-head IsKept x ys' a) (part-kept xs' ys' p (All-tail IsKept x ys' a))

pub part-within : (size : ℕ) (xs ys : List Item) → IsPart xs ys → IsWithin size ys → IsWithin size xs
part-within size xs ys p w =
    let h = part-used xs ys p in
    let b = w.bytes in
    record { distinct = part-distinct xs ys p w.distinct; bytes = omega arith; kept = part-kept xs ys p w.kept }

pub without-part : (key : List ℕ) (items : List Item) → IsPart (without key items) items
without-part key [] = nothing
without-part key (item ∷ items) = put (has_key key item) (without-part key items)
  where
    put : (b : Bool) → IsPart (without key items) items → IsPart (if b then items else item ∷ without key items) (item ∷ items)
    put true p = passes item items items (whole items)
    put false p = keeps item (without key items) items p

pub take-part : (n : ℕ) (items : List Item) → IsPart (take n items) items
take-part zero [] = nothing
take-part zero (item ∷ items) = passes item [] items (take-part zero items)
take-part (suc n) [] = nothing
take-part (suc n) (item ∷ items) = keeps item (take n items) items (take-part n items)

pub swept-part : (now most : ℕ) (items : List Item) → IsPart (swept now most items) items
swept-part now most [] = nothing
swept-part now most (item ∷ items) = put (swept now most items) (swept-part now most items) (is_there now item) (nat_lt (length items - length (swept now most items)) most)
  where
    put : (rest : List Item) → IsPart rest items → (b c : Bool) → IsPart (if b then item ∷ rest else if c then rest else item ∷ rest) (item ∷ items)
    put rest p true c = keeps item rest items p
    put rest p false true = passes item rest items p
    put rest p false false = keeps item rest items p
