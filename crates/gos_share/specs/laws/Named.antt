-- The cells of a Share depend on their place and on the nets that come in by name alone.
--
-- Read first: Paths; Own, Order.
use Rattle.std.proofs.Common.{◌≡◌, ℕ, zero, suc, ◌+◌, ◌≤◌, List, [], ◌∷◌, ◌++◌, Some, ◌∙◌, sym, arith}
use Rattle.std.specs.Prelude.{◌<◌, length, map, slice_get}
use Rattle.std.proofs.lemmas.List.{map-append}
use Rattle.std.proofs.lemmas.Option.{slice_get_within}
use Rattle.gos_types.specs.declared.shakes.Role.{Role}
use Rattle.gos_types.specs.declared.shakes.Role.TheVariants.{Serve, Ask}
use Rattle.gos_types.specs.Handshakes.{turned}
use Rattle.gos_netlist.specs.Nets.{Cell, Not, And, Or, Mux, Gate, Const, Reg}
use Rattle.gos_plan.specs.Kinds.{Contact}
use Rattle.gos_macro.specs.Gates.{Incoming, bits_in}
use Rattle.gos_macro.specs.Cells.{bit, wide}
use Rattle.gos_macro.specs.Paths.{with_renamed, Renames}
use Rattle.gos_share.specs.Blocks.{asked_cells, asked_size, answered_cells, answered_size, sent_cells, sent_size, told_cells, told_size, branch_cells, block_cells, block_size, kept_net}
use Rattle.gos_share.specs.Share.{place_behind, row_cells, share_cells}
use Rattle.gos_share.specs.laws.Slots.{bits_there}
use Rattle.gos_share.specs.laws.Comes.{sides, in_bits, same_bits, ArePlaced, all_placed}
use Rattle.gos_share.specs.laws.Own.{row_stands}
use Rattle.gos_share.specs.laws.Order.{last_cell}

-- the nets of a handshake with w bits, in the other place
pub record SideNamed (f : ℕ → ℕ) (i o : Incoming) (w e : ℕ) : Type 0 where
  pub pulse : o.pulse e ≡ f (i.pulse e)
  pub value : 0 < w → o.value e ≡ f (i.value e)

-- the part's own nets below a place, in the other place
abbrev pub OwnNamed : (ℕ → ℕ) → ℕ → ℕ → ℕ → Type 0
OwnNamed f b d size = (n : ℕ) → n < size → d + n ≡ f (b + n)

pub side_named : (contacts : List Contact) (size : ℕ) (f : ℕ → ℕ) (b d : ℕ) (i o : Incoming) (w e : ℕ) (k : Contact) → Renames contacts size f b d i o
    → slice_get contacts e ≡ Some k → bits_in k.role k ≡ w → SideNamed f i o w e
side_named contacts size f b d i o w e k names there is =
    let within = slice_get_within contacts e k there in
    let bits = bits_there e contacts k there in
    record { pulse = sym (names.pulse e within); value = λ some. sym (names.value e within (omega (arith, some, bits, is))) }

branch_named : (f : ℕ → ℕ) (i o : Incoming) (w h j b d c1 c2 d1 d2 : ℕ) → SideNamed f i o w (h + j) → SideNamed f i o w (h + h + j)
    → d + 2 ≡ f (b + 2) → c2 ≡ f c1 → d2 ≡ f d1
    → branch_cells o h j d c2 d2 ≡ map (with_renamed f) (branch_cells i h j b c1 d1)
branch_named f i o w h j b d c1 c2 d1 d2 first second none kept set = λ t. bit (Mux (first.pulse t) (none t) (kept t)) ∷ bit (Or (set t) (second.pulse t)) ∷ []

asked_named : (f : ℕ → ℕ) (i o : Incoming) (w h j b d n size : ℕ) → OwnNamed f b d size → n + asked_size w ≤ size
    → SideNamed f i o w (h + j) → SideNamed f i o w (h + h + j)
    → asked_cells w o h j d n ≡ map (with_renamed f) (asked_cells w i h j b n)
asked_named f i o zero h j b d n size own fits first second =
    let o0 = own (n + 0) (omega (arith, fits)) in
    λ t. bit (Or (first.pulse t) (second.pulse t)) ∷ bit (Reg (o0 t)) ∷ []
asked_named f i o (suc w) h j b d n size own fits first second =
    let some : 0 < suc w = omega arith in
    let o0 = own (n + 0) (omega (arith, fits)) in
    let o1 = own (n + 1) (omega (arith, fits)) in
    let o2 = own (n + 2) (omega (arith, fits)) in
    let o3 = own (n + 3) (omega (arith, fits)) in
    let v1 = first.value some in
    let v2 = second.value some in
    λ t. bit (Or (first.pulse t) (second.pulse t)) ∷ bit (Reg (o0 t)) ∷ wide (suc w) (Mux (second.pulse t) (v2 t) (v1 t))
    ∷ wide (suc w) (Reg (o2 t)) ∷ wide (suc w) (Gate (o1 t) (o3 t)) ∷ []

answered_named : (f : ℕ → ℕ) (i o : Incoming) (w j b d n size : ℕ) → OwnNamed f b d size → n + answered_size w ≤ size → SideNamed f i o w j
    → answered_cells w o j d n ≡ map (with_renamed f) (answered_cells w i j b n)
answered_named f i o zero j b d n size own fits source =
    let to_first = own 1 (omega (arith, fits)) in
    let to_second = own 0 (omega (arith, fits)) in
    λ t. bit (And (source.pulse t) (to_first t)) ∷ bit (And (source.pulse t) (to_second t)) ∷ []
answered_named f i o (suc w) j b d n size own fits source =
    let some : 0 < suc w = omega arith in
    let to_first = own 1 (omega (arith, fits)) in
    let to_second = own 0 (omega (arith, fits)) in
    let o0 = own (n + 0) (omega (arith, fits)) in
    let o1 = own (n + 1) (omega (arith, fits)) in
    let v = source.value some in
    λ t. bit (And (source.pulse t) (to_first t)) ∷ bit (And (source.pulse t) (to_second t))
    ∷ wide (suc w) (Gate (o0 t) (v t)) ∷ wide (suc w) (Gate (o1 t) (v t)) ∷ []

sent_named : (f : ℕ → ℕ) (i o : Incoming) (w j b d n size : ℕ) → OwnNamed f b d size → n + sent_size w ≤ size → SideNamed f i o w j
    → sent_cells w o j d n ≡ map (with_renamed f) (sent_cells w i j b n)
sent_named f i o zero j b d n size own fits source =
    let to_first = own 1 (omega (arith, fits)) in
    let to_second = own 0 (omega (arith, fits)) in
    let o0 = own (n + 0) (omega (arith, fits)) in
    let o1 = own (n + 1) (omega (arith, fits)) in
    λ t. bit (And (source.pulse t) (to_first t)) ∷ bit (And (source.pulse t) (to_second t)) ∷ bit (Reg (o0 t)) ∷ bit (Reg (o1 t)) ∷ []
sent_named f i o (suc w) j b d n size own fits source =
    let some : 0 < suc w = omega arith in
    let to_first = own 1 (omega (arith, fits)) in
    let to_second = own 0 (omega (arith, fits)) in
    let o0 = own (n + 0) (omega (arith, fits)) in
    let o1 = own (n + 1) (omega (arith, fits)) in
    let o2 = own (n + 2) (omega (arith, fits)) in
    let o3 = own (n + 3) (omega (arith, fits)) in
    let o4 = own (n + 4) (omega (arith, fits)) in
    let v = source.value some in
    λ t. bit (And (source.pulse t) (to_first t)) ∷ bit (And (source.pulse t) (to_second t)) ∷ bit (Reg (o0 t)) ∷ bit (Reg (o1 t)) ∷ wide (suc w) (Reg (v t))
    ∷ wide (suc w) (Gate (o2 t) (o4 t)) ∷ wide (suc w) (Gate (o3 t) (o4 t)) ∷ []

pub told_named : (f : ℕ → ℕ) (i o : Incoming) (w h j b d n size : ℕ) → OwnNamed f b d size → n + told_size w ≤ size
    → SideNamed f i o w (h + j) → SideNamed f i o w (h + h + j)
    → told_cells w o h j d n ≡ map (with_renamed f) (told_cells w i h j b n)
told_named f i o zero h j b d n size own fits first second = λ t. bit (Or (first.pulse t) (second.pulse t)) ∷ []
told_named f i o (suc w) h j b d n size own fits first second =
    let some : 0 < suc w = omega arith in
    let o0 = own (n + 0) (omega (arith, fits)) in
    let o1 = own (n + 1) (omega (arith, fits)) in
    let v1 = first.value some in
    let v2 = second.value some in
    λ t. bit (Or (first.pulse t) (second.pulse t)) ∷ wide (suc w) (Mux (second.pulse t) (v2 t) (v1 t)) ∷ wide (suc w) (Gate (o0 t) (o1 t)) ∷ []

pub both_named : (f : ℕ → ℕ) (xs ys us vs : List Cell) → us ≡ map (with_renamed f) xs → vs ≡ map (with_renamed f) ys → us ++ vs ≡ map (with_renamed f) (xs ++ ys)
both_named f xs ys us vs first second = (λ t. first t ++ second t) ∙ sym (map-append (with_renamed f) xs ys)

block_named : (r : Role) (q a : ℕ) (f : ℕ → ℕ) (i o : Incoming) (h j b d n size c1 c2 d1 d2 : ℕ) → OwnNamed f b d size → 3 ≤ n → n + block_size r q a ≤ size
    → SideNamed f i o (in_bits (turned r) q a) j → SideNamed f i o (in_bits r q a) (h + j) → SideNamed f i o (in_bits r q a) (h + h + j) → c2 ≡ f c1 → d2 ≡ f d1
    → block_cells r q a o h j d n c2 d2 ≡ map (with_renamed f) (block_cells r q a i h j b n c1 d1)
block_named Serve q a f i o h j b d n size c1 c2 d1 d2 own high fits source first second kept set =
    both_named f (branch_cells i h j b c1 d1) (asked_cells q i h j b (n + 2) ++ answered_cells a i j b (n + 2 + asked_size q))
    (branch_cells o h j d c2 d2) (asked_cells q o h j d (n + 2) ++ answered_cells a o j d (n + 2 + asked_size q))
    (branch_named f i o q h j b d c1 c2 d1 d2 first second (own 2 (omega (arith, high, fits))) kept set)
    (both_named f (asked_cells q i h j b (n + 2)) (answered_cells a i j b (n + 2 + asked_size q))
    (asked_cells q o h j d (n + 2)) (answered_cells a o j d (n + 2 + asked_size q))
    (asked_named f i o q h j b d (n + 2) size own (omega (arith, fits)) first second)
    (answered_named f i o a j b d (n + 2 + asked_size q) size own (omega (arith, fits)) source))
block_named Ask q a f i o h j b d n size c1 c2 d1 d2 own high fits source first second kept set =
    both_named f (sent_cells q i j b n) (told_cells a i h j b (n + sent_size q)) (sent_cells q o j d n) (told_cells a o h j d (n + sent_size q))
    (sent_named f i o q j b d n size own (omega (arith, fits)) source)
    (told_named f i o a h j b d (n + sent_size q) size own (omega (arith, fits)) first second)

-- both nets of the branch behind a block
net_named : (r : Role) (f : ℕ → ℕ) (m n c1 c2 : ℕ) → m ≡ f n → c2 ≡ f c1 → kept_net r m c2 ≡ f (kept_net r n c1)
net_named Serve f m n c1 c2 own kept = own
net_named Ask f m n c1 c2 own kept = kept

behind_high : (n : ℕ) (ks : List Contact) → n ≤ place_behind n ks
behind_high n [] = omega arith
behind_high n (k ∷ ks) = let rest = behind_high (n + block_size k.role k.ask_bits k.answer_bits) ks in omega (arith, rest)

two_cells : (r : Role) (q a : ℕ) → 1 ≤ block_size r q a
two_cells Serve q a = omega arith
two_cells Ask zero a = omega arith
two_cells Ask (suc q) a = omega arith

row_named : (ls : List Contact) (total : ℕ) (f : ℕ → ℕ) (i o : Incoming) (j b d n size c1 c2 d1 d2 : ℕ) (ks : List Contact)
    → Renames (sides ls) total f b d i o → OwnNamed f b d size → 3 ≤ n → place_behind n ks < size → ArePlaced ls j ks → c2 ≡ f c1 → d2 ≡ f d1
    → row_cells o (length ls) j d n c2 d2 ks ≡ map (with_renamed f) (row_cells i (length ls) j b n c1 d1 ks)
row_named ls total f i o j b d n size c1 c2 d1 d2 [] names own high fits placed kept set = λ t. bit (Or (kept t) (set t)) ∷ []
row_named ls total f i o j b d n size c1 c2 d1 d2 (k ∷ ks) names own high fits placed kept set =
    let q = k.ask_bits in
    let a = k.answer_bits in
    let h = length ls in
    let here = block_size k.role q a in
    let behind = behind_high (n + here) ks in
    both_named f (block_cells k.role q a i h j b n c1 d1)
    (row_cells i h (suc j) b (n + here) (kept_net k.role (b + (n + 0)) c1) (kept_net k.role (b + (n + 1)) d1) ks)
    (block_cells k.role q a o h j d n c2 d2)
    (row_cells o h (suc j) d (n + here) (kept_net k.role (d + (n + 0)) c2) (kept_net k.role (d + (n + 1)) d2) ks)
    (block_named k.role q a f i o h j b d n size c1 c2 d1 d2 own high (omega (arith, fits, behind))
    (side_named (sides ls) total f b d i o (in_bits (turned k.role) q a) j _ names placed.0.source (same_bits (turned k.role) _))
    (side_named (sides ls) total f b d i o (in_bits k.role q a) (h + j) k names placed.0.first (same_bits k.role k))
    (side_named (sides ls) total f b d i o (in_bits k.role q a) (h + h + j) k names placed.0.second (same_bits k.role k)) kept set)
    (row_named ls total f i o (suc j) b d (n + here) size _ _ _ _ ks names own (omega (arith, high)) fits placed.1
    (let low = two_cells k.role q a in net_named k.role f (d + (n + 0)) (b + (n + 0)) c1 c2 (own (n + 0) (omega (arith, fits, behind, low))) kept)
    (let low = two_cells k.role q a in net_named k.role f (d + (n + 1)) (b + (n + 1)) d1 d2 (own (n + 1) (omega (arith, fits, behind, low))) set))

pub share_named : (ks : List Contact) (f : ℕ → ℕ) (b d : ℕ) (i o : Incoming) → Renames (sides ks) (length (share_cells ks b i)) f b d i o
    → share_cells ks d o ≡ map (with_renamed f) (share_cells ks b i)
share_named ks f b d i o names =
    let size = length (share_cells ks b i) in
    let own : OwnNamed f b d size = λ n low. sym (names.own n low) in
    let high = behind_high 3 ks in
    let last = last_cell i (length ks) 0 b 3 (b + 0) (b + 2) (share_cells ks b i) ks (row_stands b i ks) in
    let within = slice_get_within (share_cells ks b i) (place_behind 3 ks) last.0 last.1 in
    let branch = own (place_behind 3 ks) within in
    let o0 = own 0 (omega (arith, high, within)) in
    let o2 = own 2 (omega (arith, high, within)) in
    let row = row_named ks size f i o 0 b d 3 size (b + 0) (d + 0) (b + 2) (d + 2) ks names own (omega arith) within (all_placed ks) o0 o2 in
    λ t. bit (Reg (branch t)) ∷ bit (Not (o0 t)) ∷ bit (Const 0) ∷ row t
