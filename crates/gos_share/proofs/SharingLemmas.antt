-- How many cells and wires a Share has, and how its three sides stand one behind the other.
use Rattle.std.proofs.Common.{◌≡◌, ℕ, suc, ◌+◌, ◌≤◌, List, [], ◌∷◌, ◌++◌, refl, sym, ◌∙◌, ap, subst, arith}
use Rattle.std.specs.Prelude.{◌/◌, length}
use Rattle.std.proofs.lemmas.List.{length-map, length-append}
use Rattle.gos_types.specs.declared.types.Ty.{Ty}
use Rattle.gos_types.specs.Types.{Type', type_of}
use Rattle.gos_types.specs.Handshakes.{handshakes_of}
use Rattle.gos_netlist.specs.Nets.{Cell, Not, Const, Reg}
use Rattle.gos_pool.specs.Pools.{Pool}
use Rattle.gos_macro.specs.declared.gates.Wire.{Wire}
use Rattle.gos_plan.specs.Kinds.{Share, Contact, contact, contacts_of, part_contacts, turned_contact, other_side}
use Rattle.gos_plan.specs.Ranges.{IsSmall}
use Rattle.gos_macro.specs.Gates.{Incoming, Outgoing}
use Rattle.gos_macro.specs.Cells.{bit}
use Rattle.gos_macro.specs.Wires.{HoldNets}
use Rattle.gos_share.specs.Blocks.{block_cells, block_size, kept_net, source_out, caller_out}
use Rattle.gos_share.specs.Share.{place_behind, row_cells, share_cells, source_outs, caller_outs, share_outs}
use Rattle.gos_share.specs.laws.Comes.{sides}
use Rattle.gos_share.specs.laws.Row.{block_length}
use Rattle.gos_share.specs.laws.Keeping.{source_length, caller_length}
use Rattle.gos_macro.specs.Cells.{Places}
use Rattle.gos_share.specs.inner.Seen.{all_of, side_outs, blocks_size}
use Rattle.gos_macro.proofs.WireLemmas.{hold_both}
use Rattle.gos_share.proofs.SideLemmas.{blocks_few}
use Rattle.gos_share.specs.declared.shared.Side.TheVariants as the

pub row_length : (i : Incoming) (h j b n c d : ℕ) (ks : List Contact) → length (row_cells i h j b n c d ks) ≡ blocks_size ks + 1
row_length i h j b n c d [] = refl
row_length i h j b n c d (k ∷ ks) =
    let size = block_size k.role k.ask_bits k.answer_bits in
    let next_c = kept_net k.role (b + (n + 0)) c in
    let next_d = kept_net k.role (b + (n + 1)) d in
    let rest = row_length i h (suc j) b (n + size) next_c next_d ks in
    let here = block_length k.role k.ask_bits k.answer_bits i h j b n c d in
    let both = length-append (block_cells k.role k.ask_bits k.answer_bits i h j b n c d) (row_cells i h (suc j) b (n + size) next_c next_d ks) in
    omega (arith, rest, here, both)

pub cells_length : (ks : List Contact) (b : ℕ) (i : Incoming) → length (share_cells ks b i) ≡ 4 + blocks_size ks
cells_length ks b i = let rest = row_length i (length ks) 0 b 3 (b + 0) (b + 2) ks in omega (arith, rest)

pub behind_all : (n : ℕ) (ks : List Contact) → place_behind n ks ≡ n + blocks_size ks
behind_all n [] = omega arith
behind_all n (k ∷ ks) = let rest = behind_all (n + block_size k.role k.ask_bits k.answer_bits) ks in omega (arith, rest)

pub sides_length : (ks : List Contact) → length (sides ks) ≡ length ks + (length ks + length ks)
sides_length ks =
    let long = length-map ks turned_contact in
    let one = length-append (other_side ks) (ks ++ ks) in
    let two = length-append ks ks in
    omega (arith, long, one, two)

pub contacts_length : (t : Type') → length (contacts_of t) ≡ length (handshakes_of t)
contacts_length t = length-map (handshakes_of t) contact

pub source_side : (b n : ℕ) (ks : List Contact) → side_outs the.Source b n ks ≡ source_outs b n ks
source_side b n [] = refl
source_side b n (k ∷ ks) = ap (λ (os : List Outgoing). source_out k.role k.ask_bits k.answer_bits b n ∷ os) (source_side b (n + block_size k.role k.ask_bits k.answer_bits) ks)

pub first_side : (b n : ℕ) (ks : List Contact) → side_outs the.First b n ks ≡ caller_outs 0 b n ks
first_side b n [] = refl
first_side b n (k ∷ ks) = ap (λ (os : List Outgoing). caller_out 0 k.role k.ask_bits k.answer_bits b n ∷ os) (first_side b (n + block_size k.role k.ask_bits k.answer_bits) ks)

pub second_side : (b n : ℕ) (ks : List Contact) → side_outs the.Second b n ks ≡ caller_outs 1 b n ks
second_side b n [] = refl
second_side b n (k ∷ ks) = ap (λ (os : List Outgoing). caller_out 1 k.role k.ask_bits k.answer_bits b n ∷ os) (second_side b (n + block_size k.role k.ask_bits k.answer_bits) ks)

pub three_sides : (b : ℕ) (ks : List Contact) (xs ys zs : List Wire) → HoldNets (side_outs the.Source b 3 ks) xs → HoldNets (side_outs the.First b 3 ks) ys
    → HoldNets (side_outs the.Second b 3 ks) zs
    → HoldNets (source_outs b 3 ks ++ (caller_outs 0 b 3 ks ++ caller_outs 1 b 3 ks)) (xs ++ (ys ++ zs))
three_sides b ks xs ys zs one two three =
    hold_both (source_outs b 3 ks) (caller_outs 0 b 3 ks ++ caller_outs 1 b 3 ks) xs (ys ++ zs)
    (subst (λ (os : List Outgoing). HoldNets os xs) (source_side b 3 ks) one)
    (hold_both (caller_outs 0 b 3 ks) (caller_outs 1 b 3 ks) ys zs
    (subst (λ (os : List Outgoing). HoldNets os ys) (first_side b 3 ks) two)
    (subst (λ (os : List Outgoing). HoldNets os zs) (second_side b 3 ks) three))

-- what a type u that is s has, and its wires, of which there are n
pub few_handshakes : (u : Ty) → IsSmall u → length (all_of u) ≤ 64
few_handshakes u small =
    let long = contacts_length (type_of u) in
    let low = small.1 in
    omega (arith, long, low)

pub few_blocks : (u : Ty) → IsSmall u → blocks_size (all_of u) ≤ 704
few_blocks u small =
    let few = few_handshakes u small in
    let blocks = blocks_few (all_of u) in
    omega (arith, few, blocks)

pub three_times : (u s : Ty) (n : ℕ) → u ≡ s → n ≡ length (part_contacts (Share (type_of s))) → n ≡ length (all_of u) + (length (all_of u) + length (all_of u))
three_times u s n same count =
    subst (λ (t : Ty). n ≡ length (all_of t) + (length (all_of t) + length (all_of t))) (sym same) (count ∙ sides_length (all_of s))

pub third : (u s : Ty) (n : ℕ) → u ≡ s → n ≡ length (part_contacts (Share (type_of s))) → n / 3 ≡ length (all_of u)
third u s n same count = let known = three_times u s n same count in omega (arith, known)

pub numbers : (u s : Ty) (b c m : ℕ) (i : Incoming) → u ≡ s → c + length (share_cells (all_of s) b i) ≤ m → c + (4 + blocks_size (all_of u)) ≤ m
numbers u s b c m i same fits =
    subst (λ (t : Ty). c + (4 + blocks_size (all_of t)) ≤ m) (sym same) (let long = cells_length (all_of s) b i in omega (arith, long, fits))

held_length : (os : List Outgoing) (ws : List Wire) → HoldNets os ws → length ws ≡ length os
held_length [] [] holds = refl
held_length [] (w ∷ ws) holds = absurd holds
held_length (o ∷ os) [] holds = absurd holds
held_length (o ∷ os) (w ∷ ws) holds = ap suc (held_length os ws holds.1)

pub held_count : (s : Ty) (b : ℕ) (ws : List Wire) → HoldNets (share_outs (all_of s) b) ws → length ws ≡ length (part_contacts (Share (type_of s)))
held_count s b ws holds =
    let ks = all_of s in
    let long = held_length (share_outs ks b) ws holds in
    let one = source_length b 3 ks in
    let two = caller_length 0 b 3 ks in
    let three = caller_length 1 b 3 ks in
    let both = length-append (caller_outs 0 b 3 ks) (caller_outs 1 b 3 ks) in
    let all = length-append (source_outs b 3 ks) (caller_outs 0 b 3 ks ++ caller_outs 1 b 3 ks) in
    let count = sides_length ks in
    omega (arith, long, one, two, three, both, all, count)

pub within : (u s : Ty) (b m : ℕ) (i : Incoming) → u ≡ s → length (share_cells (all_of s) b i) ≤ m → 4 + blocks_size (all_of u) ≤ m
within u s b m i same fits =
    subst (λ (t : Ty). 4 + blocks_size (all_of t) ≤ m) (sym same) (let long = cells_length (all_of s) b i in omega (arith, long, fits))

-- the first three cells, and the row behind them
pub with_head : (ks : List Contact) (b last : ℕ) (i : Incoming) (head : List Cell) (cells mid new : List Cell)
    → head ≡ bit (Reg (b + last)) ∷ bit (Not (b + 0)) ∷ bit (Const 0) ∷ [] → last ≡ 3 + blocks_size ks → mid ≡ cells ++ head
    → new ≡ mid ++ row_cells i (length ks) 0 b 3 (b + 0) (b + 2) ks → new ≡ cells ++ share_cells ks b i
with_head ks b last i head cells mid new is place first second =
    let row = row_cells i (length ks) 0 b 3 (b + 0) (b + 2) ks in
    let same : last ≡ place_behind 3 ks = (let all = behind_all 3 ks in omega (arith, place, all)) in
    second
    ∙ ap (λ (cs : List Cell). cs ++ row) (first ∙ ap (λ (cs : List Cell). cells ++ cs) (is ∙ ap (λ (m : ℕ). bit (Reg (b + m)) ∷ bit (Not (b + 0)) ∷ bit (Const 0) ∷ []) same))
    ∙ behind_three cells (bit (Reg (b + place_behind 3 ks))) (bit (Not (b + 0))) (bit (Const 0)) row
  where
    behind_three : (xs : List Cell) (x y z : Cell) (ys : List Cell) → (xs ++ x ∷ y ∷ z ∷ []) ++ ys ≡ xs ++ (x ∷ y ∷ z ∷ ys)
    behind_three [] x y z ys = refl
    behind_three (w ∷ xs) x y z ys = ap (λ (cs : List Cell). w ∷ cs) (behind_three xs x y z ys)

pub head_placed : (ks : List Contact) (b last : ℕ) (i : Incoming) (head : List Cell) (old mid new : Pool)
    → head ≡ bit (Reg (b + last)) ∷ bit (Not (b + 0)) ∷ bit (Const 0) ∷ [] → last ≡ 3 + blocks_size ks → Places head old mid
    → Places (row_cells i (length ks) 0 b 3 (b + 0) (b + 2) ks) mid new → Places (share_cells ks b i) old new
head_placed ks b last i head old mid new is place first second =
    let three = ap (λ (cs : List Cell). length cs) is in
    let used_first = first.used in
    let used_second = second.used in
    record {
      added = with_head ks b last i head old.cells mid.cells new.cells is place first.added second.added;
      used = omega (arith, three, used_first, used_second);
      begun = second.begun ∙ first.begun;
      closed = second.closed ∙ first.closed;
      kept =
          record {
            closed = λ region there. second.kept.closed region (first.kept.closed region there);
            cells = λ region there. second.kept.cells region (first.kept.closed region there) ∙ first.kept.cells region there;
          };
    }
