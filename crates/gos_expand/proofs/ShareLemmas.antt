-- How many cells the gates of a Share have: 11 at most for each handshake of its type, and 4 besides. How many
-- handshakes it has, and how far it passes on.
--
-- Read first: Blocks and Share of gos_share.
use Rattle.std.proofs.Common.{◌≡◌, ◌+◌, ◌*◌, ◌≤◌, ◌⊎◌, ℕ, zero, suc, List, [], ◌∷◌, ◌++◌, length, inl, inr, refl, length-append, arith}
use Rattle.std.specs.Int.{abs_diff}
use Rattle.std.proofs.lemmas.List.{length-map}
use Rattle.gos_types.specs.declared.shakes.Role.{Role}
use Rattle.gos_types.specs.declared.shakes.Role.TheVariants.{Serve, Ask}
use Rattle.gos_types.specs.Types.{Type', Com, Exp, Var, Pair, Fun, size}
use Rattle.gos_types.specs.Handshakes.{handshakes_of}
use Rattle.gos_macro.specs.Gates.{Incoming}
use Rattle.gos_plan.specs.Kinds.{Share, Contact, contact, contacts_of, part_contacts, turned_contact, other_side}
use Rattle.gos_share.specs.Blocks.{block_cells, block_size, kept_net}
use Rattle.gos_share.specs.Share.{row_cells, share_cells}
use Rattle.gos_share.specs.laws.Row.{block_length}
use Rattle.gos_share.proofs.ApartLemmas.{AreApart}
use Rattle.gos_fast_share.specs.Thread.{Asker, Nobody, Caller0, Caller1, asker, one_if_asks, requests}
use Rattle.gos_fast_share.specs.Fast as fast
use Rattle.gos_fast_share.specs.inner.Sizes as sizes
use Rattle.gos_fast_share.specs.laws.Named as named
use Rattle.gos_expand.specs.Gates.{ForOrder, ForEach, part_size}

-- the blocks of these handshakes
abbrev pub row_size : List Contact → ℕ
row_size [] = 0
row_size (k ∷ ks) = block_size k.role k.ask_bits k.answer_bits + row_size ks

row_length : (i : Incoming) (h j b n c d : ℕ) (ks : List Contact) → length (row_cells i h j b n c d ks) ≡ row_size ks + 1
row_length i h j b n c d [] = refl
row_length i h j b n c d (k ∷ ks) =
    let size : ℕ = block_size k.role k.ask_bits k.answer_bits in
    let next_c = kept_net k.role (b + (n + 0)) c in
    let next_d = kept_net k.role (b + (n + 1)) d in
    let both = length-append (block_cells k.role k.ask_bits k.answer_bits i h j b n c d) (row_cells i h (suc j) b (n + size) next_c next_d ks) in
    let first = block_length k.role k.ask_bits k.answer_bits i h j b n c d in
    let rest = row_length i h (suc j) b (n + size) next_c next_d ks in
    omega (arith, both, first, rest)

-- they are as many wherever they stand, and whatever comes in
pub share_length : (ks : List Contact) (b : ℕ) (i : Incoming) → length (share_cells ks b i) ≡ row_size ks + 4
share_length ks b i = let row = row_length i (length ks) 0 b 3 (b + 0) (b + 2) ks in omega (arith, row)

-- at most 11 for each handshake

block_few : (r : Role) (q a : ℕ) → block_size r q a ≤ 11
block_few Serve zero zero = omega arith
block_few Serve zero (suc a) = omega arith
block_few Serve (suc q) zero = omega arith
block_few Serve (suc q) (suc a) = omega arith
block_few Ask zero zero = omega arith
block_few Ask zero (suc a) = omega arith
block_few Ask (suc q) zero = omega arith
block_few Ask (suc q) (suc a) = omega arith

row_few : (ks : List Contact) → row_size ks ≤ 11 * length ks
row_few [] = omega arith
row_few (k ∷ ks) =
    let one = block_few k.role k.ask_bits k.answer_bits in
    let rest = row_few ks in
    omega (arith, one, rest)

pub share_few : (t : Type') → part_size ForEach (Share t) ≤ 24 * (length (part_contacts (Share t)) + 1)
share_few t =
    let ks : List Contact = contacts_of t in
    let size = share_length ks 0 (record { pulse = λ h. 0; value = λ h. 0 }) in
    let few = row_few ks in
    let sides = length-append (other_side ks) (ks ++ ks) in
    let source = length-map ks turned_contact in
    let callers = length-append ks ks in
    omega (arith, size, few, sides, source, callers)

-- a request has a cell in the thread, and a handshake at most 7 besides

asks_few : (a : Asker) → one_if_asks a ≤ 1
asks_few Nobody = omega arith
asks_few Caller0 = omega arith
asks_few Caller1 = omega arith

requests_few : (ks : List Contact) (order : List ℕ) → requests ks order ≤ length order
requests_few ks [] = omega arith
requests_few ks (e ∷ es) =
    let one = asks_few (asker ks e) in
    let rest = requests_few ks es in
    omega (arith, one, rest)

fast_block_few : (r : Role) (q a : ℕ) → fast.block_size r q a ≤ 7
fast_block_few Serve zero zero = omega arith
fast_block_few Serve zero (suc a) = omega arith
fast_block_few Serve (suc q) zero = omega arith
fast_block_few Serve (suc q) (suc a) = omega arith
fast_block_few Ask zero zero = omega arith
fast_block_few Ask zero (suc a) = omega arith
fast_block_few Ask (suc q) zero = omega arith
fast_block_few Ask (suc q) (suc a) = omega arith

fast_row_few : (ks : List Contact) → sizes.blocks_size ks ≤ 7 * length ks
fast_row_few [] = omega arith
fast_row_few (k ∷ ks) =
    let one = fast_block_few k.role k.ask_bits k.answer_bits in
    let rest = fast_row_few ks in
    omega (arith, one, rest)

pub fast_few : (t : Type') (order : List ℕ) → length order ≡ length (part_contacts (Share t))
    → part_size (ForOrder order) (Share t) ≤ 24 * (length (part_contacts (Share t)) + 1)
fast_few t order whole =
    let ks : List Contact = contacts_of t in
    let size = named.fast_length 0 (record { pulse = λ h. 0; value = λ h. 0 }) ks order in
    let asks = requests_few ks order in
    let few = fast_row_few ks in
    let sides = length-append (other_side ks) (ks ++ ks) in
    let source = length-map ks turned_contact in
    let callers = length-append ks ks in
    omega (arith, size, asks, few, sides, source, callers, whole)

-- a type has no more nodes than twice its handshakes
pub size_few : (t : Type') → size t + 1 ≤ 2 * length (handshakes_of t)
size_few Com = omega arith
size_few (Exp w) = omega arith
size_few (Var w) = omega arith
size_few (Pair a b) = simp (length-append, length-map) (omega (arith, size_few a, size_few b))
size_few (Fun a b) = simp (length-append, length-map) (omega (arith, size_few a, size_few b))

-- a Share has three times its type's handshakes
pub share_shakes : (t : Type') → length (part_contacts (Share t)) ≡ 3 * length (handshakes_of t)
share_shakes t =
    let ks : List Contact = contacts_of t in
    let all = length-map (handshakes_of t) contact in
    let sides = length-append (other_side ks) (ks ++ ks) in
    let source = length-map ks turned_contact in
    let callers = length-append ks ks in
    omega (arith, all, sides, source, callers)

-- what a Share passes on goes a third of its handshakes further, or two thirds, or so far back

pub thirds : (h count from to : ℕ) → count ≡ 3 * h → AreApart h from to → (3 * abs_diff from to ≡ count) ⊎ (3 * abs_diff from to ≡ 2 * count)
thirds h count from to all (inl is) = inl (omega (arith, is, all))
thirds h count from to all (inr is) = inr (omega (arith, is, all))
