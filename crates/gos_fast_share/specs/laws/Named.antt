-- The cells of a Share by order name what comes in and its own cells, and no gate names a later gate.
--
-- Read first: Fit of gos_macro; Own.
use Rattle.std.proofs.Common.{◌≡◌, inl, inr, ℕ, zero, suc, ◌+◌, ◌≤◌, ◌<◌, Bool, true, false, List, [], ◌∷◌, ◌++◌, Some, refl, ◌∙◌, subst, arith}
use Rattle.std.specs.Prelude.{length, slice_get, nat_eq, if◌then◌else◌}
use Rattle.std.proofs.lemmas.List.{length-append}
use Rattle.std.proofs.lemmas.Option.{slice_get_within}
use Rattle.gos_netlist.specs.Nets.{Cell}
use Rattle.gos_plan.specs.Kinds.{Contact, turned_contact}
use Rattle.gos_macro.specs.Gates.{Incoming, bits_in}
use Rattle.gos_macro.specs.Fit.{IsKnown, NameEarlier}
use Rattle.gos_macro.specs.laws.StandingCells.{NamesAt, names_from, names_append}
use Rattle.gos_share.specs.Blocks.{told_cells, told_size}
use Rattle.gos_share.specs.laws.Slots.{bits_there}
use Rattle.gos_share.specs.laws.Comes.{sides, ArePlaced, all_placed}
use Rattle.gos_fast_share.specs.Thread.{Asker, Nobody, Caller0, Caller1, asker, one_if_asks, requests, requests_before}
use Rattle.gos_fast_share.specs.Fast.{set_cells, thread_cells, up_bits, down_bits, split_cells, split_size, block_cells, block_size, row_cells, fast_cells}
use Rattle.gos_fast_share.specs.inner.Sizes.{blocks_size}
use Rattle.gos_fast_share.specs.laws.Threaded.{set_length, IsThere, asker_there}
use Rattle.gos_fast_share.specs.laws.Shown.{told_length, block_length}
use Rattle.gos_fast_share.specs.laws.Keeping.{sides_length, thread_length, up_is, down_is}

-- a cell at each place that there is
cell_at : (cells : List Cell) (k : ℕ) → k < length cells → (c : Cell) × (slice_get cells k ≡ Some c)
cell_at [] k low = absurd (omega (arith, low))
cell_at (c ∷ cs) zero low = (c, refl)
cell_at (c ∷ cs) (suc k) low = cell_at cs k (omega (arith, low))

-- the nets of the cells ahead of place m, where there are so many
pub known_own : (contacts : List Contact) (i : Incoming) (b : ℕ) (all : List Cell) (m k : ℕ) → k < m → m ≤ length all → IsKnown contacts i b all m (b + k)
known_own contacts i b all m k low long =
    let there = cell_at all k (omega (arith, low, long)) in
    inr (k, there.0, refl, there.1, inl low)

-- the nets of a handshake are known everywhere
record SideKnown (contacts : List Contact) (i : Incoming) (b : ℕ) (all : List Cell) (w e : ℕ) : Type 0 where
  pub pulse : (n : ℕ) → IsKnown contacts i b all n (i.pulse e)
  pub value : 0 < w → (n : ℕ) → IsKnown contacts i b all n (i.value e)

side_known : (contacts : List Contact) (i : Incoming) (b : ℕ) (all : List Cell) (w e : ℕ) (k : Contact) → slice_get contacts e ≡ Some k → bits_in k.role k ≡ w
    → SideKnown contacts i b all w e
side_known contacts i b all w e k there bits =
    let low = slice_get_within contacts e k there in
    let same = bits_there e contacts k there in
    record {
      pulse = λ n. inl (e, low, inl refl);
      value = λ some n. inl (e, low, inr (omega (arith, some, same, bits), refl));
    }

told_names : (contacts : List Contact) (i : Incoming) (b : ℕ) (all : List Cell) (w h j n : ℕ) → n + told_size w ≤ length all
    → SideKnown contacts i b all w (h + j) → SideKnown contacts i b all w (h + h + j) → NamesAt contacts i b all n 0 (told_cells w i h j b n)
told_names contacts i b all zero h j n long first second = ((first.pulse (n + 0), (second.pulse (n + 0), tt)), tt)
told_names contacts i b all (suc w) h j n long first second = (
  (first.pulse (n + 0), (second.pulse (n + 0), tt)),
  (
    (second.pulse (n + 1), (second.value (omega arith) (n + 1), (first.value (omega arith) (n + 1), tt))),
    (
      (known_own contacts i b all (n + 2) (n + 0) (omega arith) (omega (arith, long)), (known_own contacts i b all (n + 2) (n + 1) (omega arith) (omega (arith, long)), tt)),
      tt,
    ),
  ),
)

split_names : (contacts : List Contact) (i : Incoming) (b : ℕ) (all : List Cell) (w j n k : ℕ) → n + split_size w ≤ length all → 0 < n → k < n
    → SideKnown contacts i b all w j → NamesAt contacts i b all n 0 (split_cells w i j b n (b + k))
split_names contacts i b all zero j n k long some low source = (
  (
    known_own contacts i b all (n + 0) k (omega (arith, low)) (omega (arith, long)),
    (known_own contacts i b all (n + 0) 0 (omega (arith, some)) (omega (arith, long)), (source.pulse (n + 0), tt)),
  ),
  ((source.pulse (n + 1), (known_own contacts i b all (n + 1) k (omega (arith, low)) (omega (arith, long)), tt)), tt),
)
split_names contacts i b all (suc w) j n k long some low source = (
  (
    known_own contacts i b all (n + 0) k (omega (arith, low)) (omega (arith, long)),
    (known_own contacts i b all (n + 0) 0 (omega (arith, some)) (omega (arith, long)), (source.pulse (n + 0), tt)),
  ),
  (
    (source.pulse (n + 1), (known_own contacts i b all (n + 1) k (omega (arith, low)) (omega (arith, long)), tt)),
    (
      (known_own contacts i b all (n + 2) (n + 0) (omega arith) (omega (arith, long)), (source.value (omega arith) (n + 2), tt)),
      ((known_own contacts i b all (n + 3) (n + 1) (omega arith) (omega (arith, long)), (source.value (omega arith) (n + 3), tt)), tt),
    ),
  ),
)

-- the requests before a handshake are some of all
pub fewer_before : (ks : List Contact) (j : ℕ) (es : List ℕ) → requests_before ks j es ≤ requests ks es
fewer_before ks j [] = omega arith
fewer_before ks j (e ∷ es) = by_test (nat_eq e j) (fewer_before ks j es)
  where
    by_test : (t : Bool) → requests_before ks j es ≤ requests ks es
        → (if t then 0 else one_if_asks (asker ks e) + requests_before ks j es) ≤ one_if_asks (asker ks e) + requests ks es
    by_test true ih = omega arith
    by_test false ih = omega (arith, ih)

pub row_length : (ks : List Contact) (order : List ℕ) (i : Incoming) (j b n : ℕ) (ls : List Contact) → length (row_cells ks order i j b n ls) ≡ blocks_size ls
row_length ks order i j b n [] = refl
row_length ks order i j b n (l ∷ ls) =
    let net = b + (1 + requests_before ks j order) in
    let size = block_size l.role l.ask_bits l.answer_bits in
    length-append (block_cells l.role l.ask_bits l.answer_bits i (length ks) j b n net) (row_cells ks order i (suc j) b (n + size) ls)
    ∙ (λ d. block_length l.role l.ask_bits l.answer_bits i (length ks) j b n net d + row_length ks order i (suc j) b (n + size) ls d)

row_names : (ks : List Contact) (order : List ℕ) (i : Incoming) (j b n : ℕ) (all : List Cell) (ls : List Contact) → 2 + requests ks order ≤ n
    → n + blocks_size ls ≤ length all → ArePlaced ks j ls → NameEarlier (sides ks) i b all n (row_cells ks order i j b n ls)
row_names ks order i j b n all [] behind long placed = tt
row_names ks order i j b n all (l ∷ ls) behind long placed =
    names_append (sides ks) i b all n size (told ++ split) (row_cells ks order i (suc j) b (n + size) ls) (block_length l.role q a i h j b n net)
    (names_append (sides ks) i b all n (told_size u) told split (told_length u i h j b n)
    (names_from (sides ks) i b all n n 0 told (omega arith)
    (told_names (sides ks) i b all u h j n (omega (arith, long))
    (side_known (sides ks) i b all u (h + j) l placed.0.first (up_is l.role l)) (side_known (sides ks) i b all u (h + h + j) l placed.0.second (up_is l.role l))))
    (names_from (sides ks) i b all (n + told_size u) (n + told_size u) 0 split (omega arith)
    (split_names (sides ks) i b all d j (n + told_size u) (1 + requests_before ks j order) (omega (arith, long)) (omega (arith, behind)) (omega (arith, behind, fewer))
    (side_known (sides ks) i b all d j (turned_contact l) placed.0.source (down_is l.role l)))))
    (row_names ks order i (suc j) b (n + size) all ls (omega (arith, behind)) (omega (arith, long)) placed.1)
  where
    q : ℕ
    q = l.ask_bits

    a : ℕ
    a = l.answer_bits

    h : ℕ
    h = length ks

    u : ℕ
    u = up_bits l.role q a

    d : ℕ
    d = down_bits l.role q a

    size : ℕ
    size = block_size l.role q a

    net : ℕ
    net = b + (1 + requests_before ks j order)

    told : List Cell
    told = told_cells u i h j b n

    split : List Cell
    split = split_cells d i j b (n + told_size u) net

    fewer : requests_before ks j order ≤ requests ks order
    fewer = fewer_before ks j order

-- the thread names the requests, the 0, and what stands before
set_names : (ks : List Contact) (i : Incoming) (b n e : ℕ) (all : List Cell) (a : Asker) → IsThere ks e a → suc n + one_if_asks a ≤ length all
    → NameEarlier (sides ks) i b all (suc n) (set_cells a (i.pulse e) b n)
set_names ks i b n e all Nobody there long = tt
set_names ks i b n e all Caller0 there long =
    let sides_long = sides_length ks in (
      (
        inl (e, omega (arith, there, sides_long), inl refl),
        (known_own (sides ks) i b all (suc n) 0 (omega arith) (omega (arith, long)), (known_own (sides ks) i b all (suc n) n (omega arith) (omega (arith, long)), tt)),
      ),
      tt,
    )
set_names ks i b n e all Caller1 there long =
    let sides_long = sides_length ks in
    ((known_own (sides ks) i b all (suc n) n (omega arith) (omega (arith, long)), (inl (e, omega (arith, there, sides_long), inl refl), tt)), tt)

thread_names : (ks : List Contact) (i : Incoming) (b n : ℕ) (all : List Cell) (es : List ℕ) → suc n + requests ks es ≤ length all
    → NameEarlier (sides ks) i b all (suc n) (thread_cells ks i b n es)
thread_names ks i b n all [] long = tt
thread_names ks i b n all (e ∷ es) long =
    names_append (sides ks) i b all (suc n) (one_if_asks (asker ks e)) (set_cells (asker ks e) (i.pulse e) b n) (thread_cells ks i b (n + one_if_asks (asker ks e)) es)
    (set_length (asker ks e) (i.pulse e) b n)
    (set_names ks i b n e all (asker ks e) (asker_there ks e) (omega (arith, long)))
    (let here : suc (n + one_if_asks (asker ks e)) ≡ suc n + one_if_asks (asker ks e) = omega arith in
    subst (λ (m : ℕ). NameEarlier (sides ks) i b all m (thread_cells ks i b (n + one_if_asks (asker ks e)) es)) here
    (thread_names ks i b (n + one_if_asks (asker ks e)) all es (omega (arith, long))))

pub fast_length : (b : ℕ) (i : Incoming) (ks : List Contact) (order : List ℕ) → length (fast_cells ks order b i) ≡ 2 + (requests ks order + blocks_size ks)
fast_length b i ks order =
    let inner = length-append (thread_cells ks i b 1 order) (row_cells ks order i 0 b (2 + requests ks order) ks)
    ∙ (λ d. thread_length ks i b 1 order d + row_length ks order i 0 b (2 + requests ks order) ks d) in
    omega (arith, inner)

pub fast_names : (b : ℕ) (i : Incoming) (ks : List Contact) (order : List ℕ) → NameEarlier (sides ks) i b (fast_cells ks order b i) 0 (fast_cells ks order b i)
fast_names b i ks order =
    let all = fast_cells ks order b i in
    let long = fast_length b i ks order in (
      tt,
      (
        (known_own (sides ks) i b all (length all) (1 + requests ks order) (omega (arith, long)) (omega arith), tt),
        names_append (sides ks) i b all 2 (requests ks order) (thread_cells ks i b 1 order) (row_cells ks order i 0 b (2 + requests ks order) ks) (thread_length ks i b 1 order)
            (thread_names ks i b 1 all order (omega (arith, long)))
            (row_names ks order i 0 b (2 + requests ks order) all ks (omega arith) (omega (arith, long)) (all_placed ks)),
      ),
    )
