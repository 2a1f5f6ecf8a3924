-- Shared pieces and the beginning of a block: what is taken of them, and what is put after them.
use Rattle.std.proofs.Common.{◌≡◌, ℕ, ◌+◌, ◌-◌, ◌*◌, ◌%◌, ◌/◌, ◌<◌, ◌≤◌, List, [], ◌∷◌, ◌++◌, length, take, drop, All, slice_range, inl, inr, ◌⊎◌, refl, sym, ap, subst, ◌∙◌, append_assoc, append-nil, arith, mod-eq_of_lt, drop-drop, drop_at, length-append, length-drop, length-take, length-take-le, take-append-drop, eq-or-lt_of_le}
use Rattle.std.specs.List.{concat}
use Rattle.std.proofs.lemmas.List.{drop-append-le, take-append-le, drop_all}
use Rattle.std.proofs.lemmas.List.Folds.{concat-append, drop_split}
use Rattle.std.proofs.lemmas.List.Elements.{All-nil, All-cons, All-head, All-tail, All-append}
use Rattle.std.proofs.Math.Nat.{mod-add-div', mod_self}
use Rattle.std.specs.Prelude.{true, false, Option, Some, None, is_some, option_to_list}
use Rattle.send_queue.specs.Layout.{AreBlocks, first, before, IsLaidOut, unless_empty}

-- all that is kept
abbrev pub kept : List (List ℕ) → List ℕ → List ℕ
kept pieces begun = concat pieces ++ begun

-- ---- what is offered

pub offers : (phase taken : ℕ) (pieces : List (List ℕ)) (begun : List ℕ) → phase < 16_384 → IsLaidOut phase taken pieces begun
    → take (16_384 - phase) (drop taken (first pieces begun)) ≡ take (16_384 - phase) (drop taken (kept pieces begun))
offers phase taken [] begun p l = refl
offers phase taken (x ∷ xs) begun p l =
    sym (ap (λ t. take (16_384 - phase) (drop taken t)) (append_assoc x (concat xs) begun)
    ∙ ap (take (16_384 - phase)) (drop-append-le taken x (concat xs ++ begun) (omega (arith, l.0)))
    ∙ take-append-le (16_384 - phase) (drop taken x) (concat xs ++ begun) (omega (arith, p, l.1.1, length-drop taken x)))

pub within : (phase taken : ℕ) (pieces : List (List ℕ)) (begun : List ℕ) → IsLaidOut phase taken pieces begun → taken ≤ length (first pieces begun)
within phase taken [] begun l = l.0
within phase taken (x ∷ xs) begun l = omega (arith, l.0)

pub reaches : (phase taken : ℕ) (pieces : List (List ℕ)) (begun : List ℕ) → IsLaidOut phase taken pieces begun → taken ≤ length (kept pieces begun)
reaches phase taken [] begun l = l.0
reaches phase taken (x ∷ xs) begun l =
    let goes : taken ≤ length ((x ++ concat xs) ++ begun) = omega (arith, l.0, length-append x (concat xs), length-append (x ++ concat xs) begun) in
    goes

-- so many bytes of what is offered are among those that come first
pub bounds : (phase taken count : ℕ) (pieces : List (List ℕ)) (begun : List ℕ) → phase < 16_384 → IsLaidOut phase taken pieces begun
    → count ≤ length (take (16_384 - phase) (drop taken (kept pieces begun))) → (phase + count ≤ 16_384) × (taken + count ≤ length (first pieces begun))
bounds phase taken count pieces begun p l h =
    let e = ap length (offers phase taken pieces begun p l) in
    let f = length-take (16_384 - phase) (drop taken (first pieces begun)) in
    let g = length-drop taken (first pieces begun) in
    (omega (arith, p, e, f, h), omega (arith, e, f, g, h, within phase taken pieces begun l))

no-more : (ps : List (List ℕ)) → length ps ≡ 0 → ps ≡ []
no-more [] h = refl
no-more (p ∷ ps) h = absurd (omega (arith, h))

-- ---- after bytes were taken

pub phase-within : (phase count : ℕ) → (phase + count) % 16_384 < 16_384
phase-within phase count = omega arith

stays-in : (phase taken count : ℕ) (x : List ℕ) → phase < 16_384 → phase + count ≤ 16_384 → taken + count < length x
    → AreBlocks (phase + (length x - taken)) → AreBlocks ((phase + count) % 16_384 + (length x - (taken + count)))
stays-in phase taken count x p q h b = from (eq-or-lt_of_le q)
  where
    from : (phase + count ≡ 16_384) ⊎ (phase + count < 16_384) → AreBlocks ((phase + count) % 16_384 + (length x - (taken + count)))
    from (inl e) = (b.0 - 1, ap (λ n. n % 16_384 + (length x - (taken + count))) e ∙ ap (λ n. n + (length x - (taken + count))) (mod_self 16_384) ∙ omega (arith, e, h, b.1))
    from (inr e) = (b.0, ap (λ n. n + (length x - (taken + count))) (mod-eq_of_lt e) ∙ omega (arith, e, h, b.1))

-- some of what comes first is left
pub stays : (phase taken count : ℕ) (pieces : List (List ℕ)) (begun : List ℕ) → phase < 16_384 → IsLaidOut phase taken pieces begun
    → phase + count ≤ 16_384 → taken + count < length (first pieces begun) → IsLaidOut ((phase + count) % 16_384) (taken + count) pieces begun
stays phase taken count [] begun p l q h =
    let some : taken + count < length begun = h in
    let room : phase + (length begun - taken) < 16_384 = l.1 in
    let e : phase + count < 16_384 = omega (arith, room, some) in
    (omega (arith, some), omega (arith, mod-eq_of_lt e, room, some))
stays phase taken count (x ∷ xs) begun p l q h = (h, stays-in phase taken count x p q h l.1, l.2, l.3)

-- the piece that comes first was taken whole
pub leaves : (phase taken count : ℕ) (x : List ℕ) (xs : List (List ℕ)) (begun : List ℕ) → phase < 16_384 → IsLaidOut phase taken (x ∷ xs) begun
    → phase + count ≤ 16_384 → taken + count ≡ length x → IsLaidOut ((phase + count) % 16_384) 0 xs begun
leaves phase taken count x xs begun p l q h =
    let full : phase + count ≡ 16_384 = omega (arith, l.0, l.1.1, q, h) in
    let begins : (phase + count) % 16_384 ≡ 0 = ap (λ n. n % 16_384) full ∙ mod_self 16_384 in
    subst (λ n. IsLaidOut n 0 xs begun) (sym begins) (next xs l.2)
  where
    next : (ys : List (List ℕ)) → All (λ y. AreBlocks (length y)) ys → IsLaidOut 0 0 ys begun
    next [] all = (omega arith, omega (arith, l.3))
    next (y ∷ ys) all =
        let b = All-head (λ z. AreBlocks (length z)) y ys all in
        (omega (arith, b.1), (b.0, omega (arith, b.1)), All-tail (λ z. AreBlocks (length z)) y ys all, l.3)

pub leaves-bytes : (taken count : ℕ) (x : List ℕ) (xs : List (List ℕ)) (begun : List ℕ) → taken + count ≡ length x
    → kept xs begun ≡ drop count (drop taken (kept (x ∷ xs) begun))
leaves-bytes taken count x xs begun h =
    sym (drop-drop count taken (kept (x ∷ xs) begun) ∙ ap (drop (taken + count)) (append_assoc x (concat xs) begun) ∙ drop_at x (concat xs ++ begun) (taken + count) (sym h))

-- the begun block was taken whole
pub empties : (taken count : ℕ) (begun : List ℕ) → taken + count ≡ length begun → [] ≡ drop count (drop taken (kept [] begun))
empties taken count begun h = sym (drop-drop count taken begun ∙ drop_all (taken + count) begun (omega (arith, h)))

-- what came first was popped
pub pops : (phase taken count : ℕ) (ps qs : List (List ℕ)) (begun : List ℕ) (popped : Option (List ℕ)) → phase < 16_384 → IsLaidOut phase taken ps begun
    → phase + count ≤ 16_384 → taken + count ≡ length (first ps begun) → ps ≡ option_to_list popped ++ qs → is_some popped ≡ true
    → IsLaidOut ((phase + count) % 16_384) 0 qs begun × (kept qs begun ≡ drop count (drop taken (kept ps begun)))
pops phase taken count ps qs begun None p l q h e s = absurd (let f : false ≡ true = s in cc)
pops phase taken count ps qs begun (Some x) p l q h e s =
    let is : ps ≡ x ∷ qs = e in
    let laid : IsLaidOut phase taken (x ∷ qs) begun = subst (λ rs. IsLaidOut phase taken rs begun) is l in
    let whole : taken + count ≡ length x = h ∙ ap (λ rs. length (first rs begun)) is in
    (leaves phase taken count x qs begun p laid q whole, leaves-bytes taken count x qs begun whole ∙ ap (λ rs. drop count (drop taken (kept rs begun))) (sym is))

pub pops-last : (phase taken count : ℕ) (ps qs rs : List (List ℕ)) (begun : List ℕ) (popped : Option (List ℕ)) → phase < 16_384 → IsLaidOut phase taken ps begun
    → phase + count ≤ 16_384 → taken + count ≡ length (first ps begun) → ps ≡ option_to_list popped ++ qs → is_some popped ≡ true → length qs ≡ 0 → rs ≡ []
    → kept rs begun ≡ drop count (drop taken (kept ps begun))
pops-last phase taken count ps qs rs begun popped p l q h e s none empty =
    ap (λ zs. kept zs begun) (empty ∙ sym (no-more qs none)) ∙ (pops phase taken count ps qs begun popped p l q h e s).1

-- ---- what is put after them

-- bytes that the begun block has room for
pub appends : (phase taken room : ℕ) (pieces : List (List ℕ)) (begun bytes : List ℕ) → IsLaidOut phase taken pieces begun
    → room + before phase taken pieces begun ≡ 16_384 → length bytes < room → IsLaidOut phase taken pieces (begun ++ bytes)
appends phase taken room [] begun bytes l r h =
    let full : room + (phase + (length begun - taken)) ≡ 16_384 = r in
    (omega (arith, length-append begun bytes, l.0), omega (arith, length-append begun bytes, l.0, full, h))
appends phase taken room (x ∷ xs) begun bytes l r h =
    let full : room + length begun ≡ 16_384 = r in
    (l.0, l.1, l.2, omega (arith, length-append begun bytes, full, h))

pub appends-bytes : (phase taken : ℕ) (pieces : List (List ℕ)) (begun bytes : List ℕ) → IsLaidOut phase taken pieces begun
    → drop taken (kept pieces (begun ++ bytes)) ≡ drop taken (kept pieces begun) ++ bytes
appends-bytes phase taken pieces begun bytes l =
    ap (drop taken) (sym (append_assoc (concat pieces) begun bytes)) ∙ drop-append-le taken (kept pieces begun) bytes (reaches phase taken pieces begun l)

-- bytes that fill it, whole blocks after them, and the beginning of another block
pub fills : (phase taken room : ℕ) (pieces : List (List ℕ)) (begun cut : List ℕ) (more : List (List ℕ)) (rest : List ℕ) → IsLaidOut phase taken pieces begun
    → room + before phase taken pieces begun ≡ 16_384 → length cut ≡ room → All (λ p. AreBlocks (length p)) more → length rest < 16_384
    → IsLaidOut phase taken (pieces ++ (begun ++ cut) ∷ more) rest
fills phase taken room [] begun cut more rest l r c all h =
    let full : room + (phase + (length begun - taken)) ≡ 16_384 = r in
    let left : phase + (length begun - taken) < 16_384 = l.1 in
    let some : taken ≤ length begun = l.0 in
    (omega (arith, length-append begun cut, some, left, full, c), (0, omega (arith, length-append begun cut, some, full, c)), all, h)
fills phase taken room (x ∷ xs) begun cut more rest l r c all h =
    let full : room + length begun ≡ 16_384 = r in
    let whole : AreBlocks (length (begun ++ cut)) = (0, omega (arith, length-append begun cut, full, c)) in
    (l.0, l.1, All-append (λ p. AreBlocks (length p)) xs ((begun ++ cut) ∷ more) l.2 (All-cons (λ p. AreBlocks (length p)) (begun ++ cut) more whole all), h)

seam : (a b c m r : List ℕ) → (a ++ ((b ++ c) ++ m)) ++ r ≡ (a ++ b) ++ (c ++ (m ++ r))
seam a b c m r =
    append_assoc a ((b ++ c) ++ m) r ∙ ap (λ t. a ++ t) (append_assoc (b ++ c) m r ∙ append_assoc b c (m ++ r)) ∙ sym (append_assoc a b (c ++ (m ++ r)))

pub fills-bytes : (phase taken : ℕ) (pieces : List (List ℕ)) (begun cut : List ℕ) (more : List (List ℕ)) (rest : List ℕ) → IsLaidOut phase taken pieces begun
    → drop taken (kept (pieces ++ (begun ++ cut) ∷ more) rest) ≡ drop taken (kept pieces begun) ++ (cut ++ (concat more ++ rest))
fills-bytes phase taken pieces begun cut more rest l =
    ap (λ t. drop taken (t ++ rest)) (concat-append pieces ((begun ++ cut) ∷ more))
    ∙ ap (drop taken) (seam (concat pieces) begun cut (concat more) rest)
    ∙ drop-append-le taken (kept pieces begun) (cut ++ (concat more ++ rest)) (reaches phase taken pieces begun l)

-- the parts of a piece: what fills the block, whole blocks, and the rest
pub parts : (room end : ℕ) (piece : List ℕ) (more : List (List ℕ)) → room ≤ end → concat more ≡ slice_range piece room end
    → take room piece ++ (concat more ++ drop end piece) ≡ piece
parts room end piece more h e =
    ap (λ t. take room piece ++ (t ++ drop end piece)) e
    ∙ ap (λ t. take room piece ++ t) (sym (drop_split piece room end h))
    ∙ take-append-drop room piece

-- so many bytes are whole blocks, and fewer than one block more
divides : (n : ℕ) → ((n / 16_384) * 16_384 ≤ n) × (n < (n / 16_384) * 16_384 + 16_384)
divides n =
    let e = mod-add-div' n 16_384 in
    (omega (arith, e), omega (arith, e))

are-blocks : (k n : ℕ) → n ≡ k * 16_384 → 0 < n → AreBlocks n
are-blocks k n e some = (k - 1, omega (arith, e, some))

pub middle-blocks : (room end : ℕ) (piece : List ℕ) → room ≤ length piece → end ≡ room + (length piece - room) / 16_384 * 16_384
    → 0 < length (slice_range piece room end) → AreBlocks (length (slice_range piece room end))
middle-blocks room end piece h e some =
    let d = divides (length piece - room) in
    let long : length (take (end - room) (drop room piece)) ≡ (length piece - room) / 16_384 * 16_384 =
    omega (arith, e, d.0, length-take (end - room) (drop room piece), length-drop room piece) in
    are-blocks ((length piece - room) / 16_384) (length (slice_range piece room end)) long some

pub rest-short : (room end : ℕ) (piece : List ℕ) → room ≤ length piece → end ≡ room + (length piece - room) / 16_384 * 16_384 → length (drop end piece) < 16_384
rest-short room end piece h e = omega (arith, h, e, (divides (length piece - room)).1, length-drop end piece)

middle-laid : (room end : ℕ) (piece middle : List ℕ) → room ≤ length piece → end ≡ room + (length piece - room) / 16_384 * 16_384
    → middle ≡ slice_range piece room end → All (λ p. AreBlocks (length p)) (unless_empty middle)
middle-laid room end piece [] h e is = All-nil (λ p. AreBlocks (length p))
middle-laid room end piece (b ∷ bs) h e is =
    let some : 0 < length (slice_range piece room end) = omega (arith, ap length is) in
    let blocks : AreBlocks (length (b ∷ bs)) = subst (λ m. AreBlocks (length m)) (sym is) (middle-blocks room end piece h e some) in
    All-cons (λ p. AreBlocks (length p)) (b ∷ bs) [] blocks (All-nil (λ p. AreBlocks (length p)))

middle-bytes : (middle : List ℕ) → concat (unless_empty middle) ≡ middle
middle-bytes [] = refl
middle-bytes (b ∷ bs) = append-nil (b ∷ bs)

-- all of a piece that fills the begun block
pub queues : (phase taken room end n : ℕ) (ps qs : List (List ℕ)) (begun piece whole middle rest : List ℕ) → IsLaidOut phase taken ps begun
    → room + before phase taken ps begun ≡ 16_384 → n ≡ length piece → room ≤ n → end ≡ room + (n - room) / 16_384 * 16_384
    → whole ≡ begun ++ take room piece → middle ≡ slice_range piece room end → rest ≡ drop end piece → qs ≡ ps ++ whole ∷ unless_empty middle
    → IsLaidOut phase taken qs rest × (drop taken (kept qs rest) ≡ drop taken (kept ps begun) ++ piece)
queues phase taken room end n ps qs begun piece whole middle rest l r len h e w m t put =
    let fits : room ≤ length piece = omega (arith, h, len) in
    let ends : end ≡ room + (length piece - room) / 16_384 * 16_384 = e ∙ ap (λ k. room + (k - room) / 16_384 * 16_384) len in
    let cut = length-take-le room piece fits in
    let short : length rest < 16_384 = omega (arith, ap length t, rest-short room end piece fits ends) in
    let is : qs ≡ ps ++ (begun ++ take room piece) ∷ unless_empty middle = put ∙ ap (λ x. ps ++ x ∷ unless_empty middle) w in
    let within : room ≤ end = omega (arith, ends) in
    let all : take room piece ++ (concat (unless_empty middle) ++ rest) ≡ piece =
    ap (λ t. take room piece ++ (concat (unless_empty middle) ++ t)) t ∙ parts room end piece (unless_empty middle) within (middle-bytes middle ∙ m) in (
      subst (λ rs. IsLaidOut phase taken rs rest) (sym is) (fills phase taken room ps begun (take room piece) (unless_empty middle) rest l r cut (middle-laid room end piece middle fits ends m) short),
      ap (λ rs. drop taken (kept rs rest)) is ∙ fills-bytes phase taken ps begun (take room piece) (unless_empty middle) rest l ∙ ap (λ b. drop taken (kept ps begun) ++ b) all,
    )
