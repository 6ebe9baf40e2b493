-- How many cells and wires a Share by order has, and how its three sides stand one behind the other.
--
-- Read first: Fast, Order. Of two parts that are one, u is the one inside, and s as clauses see it.
use Rattle.std.proofs.Common.{◌≡◌, ℕ, suc, ◌+◌, ◌*◌, ◌<◌, ◌≤◌, List, [], ◌∷◌, ◌++◌, refl, sym, ap, subst, arith}
use Rattle.std.specs.Prelude.{All, length}
use Rattle.std.proofs.lemmas.List.{length-append}
use Rattle.gos_types.specs.Types.{type_of}
use Rattle.gos_plan.specs.Kinds.{Share, Contact, part_contacts}
use Rattle.gos_macro.specs.declared.gates.Wire.{Wire}
use Rattle.gos_macro.specs.Gates.{Incoming, Outgoing}
use Rattle.gos_macro.specs.Wires.{HoldNets}
use Rattle.gos_macro.proofs.WireLemmas.{hold_both}
use Rattle.gos_share.specs.Blocks.{outgoing}
use Rattle.gos_share.proofs.SharingLemmas.{sides_length}
use Rattle.gos_fast_share.specs.Thread.{requests}
use Rattle.gos_fast_share.specs.Fast.{up_bits, block_size, fast_cells, source_outs, caller_out, caller_outs, fast_outs}
use Rattle.gos_fast_share.specs.Made.{Made}
use Rattle.gos_fast_share.specs.Order.{IsMade}
use Rattle.gos_fast_share.specs.inner.Sizes.{blocks_size}
use Rattle.gos_fast_share.specs.inner.Seen.{all_of, side_outs}
use Rattle.gos_fast_share.specs.laws.Keeping.{source_length, caller_length}
use Rattle.gos_fast_share.specs.laws.Named.{fast_length}
use Rattle.gos_fast_share.specs.declared.sides.Side.TheVariants as the

source_side : (b n : ℕ) (ks : List Contact) → side_outs the.Source b n ks ≡ source_outs b n ks
source_side b n [] = refl
source_side b n (k ∷ ks) =
    ap (λ (os : List Outgoing). outgoing (up_bits k.role k.ask_bits k.answer_bits) (b + (n + 0)) (b + (n + 2)) ∷ os) (source_side b (n + block_size k.role k.ask_bits k.answer_bits) ks)

first_side : (b n : ℕ) (ks : List Contact) → side_outs the.First b n ks ≡ caller_outs 0 b n ks
first_side b n [] = refl
first_side b n (k ∷ ks) = ap (λ (os : List Outgoing). caller_out 0 k.role k.ask_bits k.answer_bits b n ∷ os) (first_side b (n + block_size k.role k.ask_bits k.answer_bits) ks)

second_side : (b n : ℕ) (ks : List Contact) → side_outs the.Second b n ks ≡ caller_outs 1 b n ks
second_side b n [] = refl
second_side b n (k ∷ ks) = ap (λ (os : List Outgoing). caller_out 1 k.role k.ask_bits k.answer_bits b n ∷ os) (second_side b (n + block_size k.role k.ask_bits k.answer_bits) ks)

-- the wires of the three sides, where n is the place of the first block
pub three_sides : (b n : ℕ) (u s : Made) (xs ys zs : List Wire) → u ≡ s → n ≡ 2 + requests (all_of u.ty) u.order → HoldNets (side_outs the.Source b n (all_of u.ty)) xs
    → HoldNets (side_outs the.First b n (all_of u.ty)) ys → HoldNets (side_outs the.Second b n (all_of u.ty)) zs
    → HoldNets (fast_outs (all_of s.ty) s.order b) (xs ++ (ys ++ zs))
three_sides b n u s xs ys zs same at one two three =
    let ks = all_of u.ty in
    let held : HoldNets (source_outs b n ks ++ (caller_outs 0 b n ks ++ caller_outs 1 b n ks)) (xs ++ (ys ++ zs)) =
    hold_both (source_outs b n ks) (caller_outs 0 b n ks ++ caller_outs 1 b n ks) xs (ys ++ zs)
    (subst (λ (os : List Outgoing). HoldNets os xs) (source_side b n ks) one)
    (hold_both (caller_outs 0 b n ks) (caller_outs 1 b n ks) ys zs
    (subst (λ (os : List Outgoing). HoldNets os ys) (first_side b n ks) two)
    (subst (λ (os : List Outgoing). HoldNets os zs) (second_side b n ks) three)) in
    let there : HoldNets (fast_outs ks u.order b) (xs ++ (ys ++ zs)) =
    subst (λ (m : ℕ). HoldNets (source_outs b m ks ++ (caller_outs 0 b m ks ++ caller_outs 1 b m ks)) (xs ++ (ys ++ zs))) at held in
    subst (λ (m : Made). HoldNets (fast_outs (all_of m.ty) m.order b) (xs ++ (ys ++ zs))) same there

-- nets are numbered up to a bound, and cells are within one
pub numbers : (u s : Made) (b c m : ℕ) (i : Incoming) → u ≡ s → c + length (fast_cells (all_of s.ty) s.order b i) ≤ m
    → c + (2 + (requests (all_of u.ty) u.order + blocks_size (all_of u.ty))) ≤ m
numbers u s b c m i same fits =
    subst (λ (t : Made). c + (2 + (requests (all_of t.ty) t.order + blocks_size (all_of t.ty))) ≤ m) (sym same)
    (let long = fast_length b i (all_of s.ty) s.order in omega (arith, long, fits))

pub within : (u s : Made) (b m : ℕ) (i : Incoming) → u ≡ s → length (fast_cells (all_of s.ty) s.order b i) ≤ m
    → 2 + (requests (all_of u.ty) u.order + blocks_size (all_of u.ty)) ≤ m
within u s b m i same fits =
    subst (λ (t : Made). 2 + (requests (all_of t.ty) t.order + blocks_size (all_of t.ty)) ≤ m) (sym same)
    (let long = fast_length b i (all_of s.ty) s.order in omega (arith, long, fits))

held_length : (os : List Outgoing) (ws : List Wire) → HoldNets os ws → length ws ≡ length os
held_length [] [] holds = refl
held_length [] (w ∷ ws) holds = absurd holds
held_length (o ∷ os) [] holds = absurd holds
held_length (o ∷ os) (w ∷ ws) holds = ap suc (held_length os ws holds.1)

pub held_count : (s : Made) (b : ℕ) (ws : List Wire) → HoldNets (fast_outs (all_of s.ty) s.order b) ws → length ws ≡ length (part_contacts (Share (type_of s.ty)))
held_count s b ws holds =
    let ks = all_of s.ty in
    let n = 2 + requests ks s.order in
    let long = held_length (fast_outs ks s.order b) ws holds in
    let one = source_length b n ks in
    let two = caller_length 0 b n ks in
    let three = caller_length 1 b n ks in
    let both = length-append (caller_outs 0 b n ks) (caller_outs 1 b n ks) in
    let all = length-append (source_outs b n ks) (caller_outs 0 b n ks ++ caller_outs 1 b n ks) in
    let count = sides_length ks in
    omega (arith, long, one, two, three, both, all, count)

-- each handshake of its order is its own, of which there are three for each of the type's
pub own_order : (u : Made) (n : ℕ) → IsMade u → n ≡ length (all_of u.ty) → All (λ e. e < 3 * n) u.order
own_order u n made count = subst (λ (m : ℕ). All (λ e. e < 3 * m) u.order) (sym count) made.2
