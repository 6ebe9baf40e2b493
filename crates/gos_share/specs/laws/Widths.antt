-- The cells of a Share have the widths of their pins.
--
-- Read first: Fit; Own.
use Rattle.std.proofs.Common.{◌≡◌, ℕ, zero, suc, ◌+◌, ◌≤◌, List, [], ◌∷◌, ◌++◌, Some, refl, ◌∙◌, arith}
use Rattle.std.specs.Prelude.{◌<◌, length, slice_get, map}
use Rattle.std.specs.List.{AllByRecursion}
use Rattle.std.proofs.lemmas.Option.{slice_get_within}
use Rattle.gos_types.specs.declared.widths.TheConstants.{GREATEST_WIDTH}
use Rattle.gos_types.specs.declared.shakes.Role.{Role}
use Rattle.gos_types.specs.declared.shakes.Role.TheVariants.{Serve, Ask}
use Rattle.gos_types.specs.declared.shakes.Step.{Step}
use Rattle.gos_types.specs.declared.shakes.Step.TheVariants.{First, Second, Argument, Outcome}
use Rattle.gos_types.specs.Types.{Type', Com, Exp, Var, Pair, Fun}
use Rattle.gos_types.specs.Handshakes.{Shake, turned, turn_all, below, handshakes_of}
use Rattle.gos_netcheck.specs.CellRules.{width_at, HasRightWidths}
use Rattle.gos_plan.specs.Kinds.{Contact, contact, contacts_of}
use Rattle.gos_macro.specs.Gates.{Incoming, bits_in, incoming_bits}
use Rattle.gos_types.specs.Widths.{HasWidths}
use Rattle.gos_macro.specs.Fit.{BitsComeIn, HaveBits}
use Rattle.gos_macro.specs.laws.CellBits.{bits_at, bits_both, right_append}
use Rattle.gos_share.specs.Blocks.{asked_cells, asked_size, answered_cells, sent_cells, sent_size, told_cells, branch_cells, block_cells, block_size, kept_net}
use Rattle.gos_share.specs.Share.{place_behind, row_cells, share_cells}
use Rattle.gos_share.specs.laws.Slots.{bits_there}
use Rattle.gos_share.specs.laws.Comes.{sides, in_bits, same_bits, ArePlaced, all_placed}
use Rattle.gos_share.specs.laws.Row.{asked_length, sent_length, block_length}

-- no more bits are asked and answered than the greatest width has
abbrev pub AreNarrow : List Contact → Type 0
AreNarrow [] = Unit {0}
AreNarrow (k ∷ ks) = (k.ask_bits ≤ GREATEST_WIDTH) × (k.answer_bits ≤ GREATEST_WIDTH) × AreNarrow ks

abbrev ShakesNarrow : List Shake → Type 0
ShakesNarrow [] = Unit {0}
ShakesNarrow (s ∷ ss) = (s.ask_bits ≤ GREATEST_WIDTH) × (s.answer_bits ≤ GREATEST_WIDTH) × ShakesNarrow ss

below_narrow : (step : Step) (ss : List Shake) → ShakesNarrow ss → ShakesNarrow (below step ss)
below_narrow step [] narrow = tt
below_narrow step (s ∷ ss) narrow = (narrow.0, narrow.1, below_narrow step ss narrow.2)

turned_narrow : (ss : List Shake) → ShakesNarrow ss → ShakesNarrow (turn_all ss)
turned_narrow [] narrow = tt
turned_narrow (s ∷ ss) narrow = (narrow.0, narrow.1, turned_narrow ss narrow.2)

both_narrow : (ss us : List Shake) → ShakesNarrow ss → ShakesNarrow us → ShakesNarrow (ss ++ us)
both_narrow [] us first second = second
both_narrow (s ∷ ss) us first second = (first.0, first.1, both_narrow ss us first.2 second)

shakes_narrow : (t : Type') → HasWidths t → ShakesNarrow (handshakes_of t)
shakes_narrow Com widths = (omega arith, omega arith, tt)
shakes_narrow (Exp w) widths = (omega arith, widths.1, tt)
shakes_narrow (Var w) widths = (omega arith, widths.1, (widths.1, omega arith, tt))
shakes_narrow (Pair s t) widths =
    both_narrow (below First (handshakes_of s)) (below Second (handshakes_of t)) (below_narrow First (handshakes_of s) (shakes_narrow s widths.0)) (below_narrow Second (handshakes_of t) (shakes_narrow t widths.1))
shakes_narrow (Fun s t) widths =
    both_narrow (below Argument (turn_all (handshakes_of s))) (below Outcome (handshakes_of t))
    (below_narrow Argument (turn_all (handshakes_of s)) (turned_narrow (handshakes_of s) (shakes_narrow s widths.0)))
    (below_narrow Outcome (handshakes_of t) (shakes_narrow t widths.1))

contacts_narrow : (ss : List Shake) → ShakesNarrow ss → AreNarrow (map contact ss)
contacts_narrow [] narrow = tt
contacts_narrow (s ∷ ss) narrow = (narrow.0, narrow.1, contacts_narrow ss narrow.2)

pub type_narrow : (t : Type') → HasWidths t → AreNarrow (contacts_of t)
type_narrow t widths = contacts_narrow (handshakes_of t) (shakes_narrow t widths)

-- the nets of a handshake have their bits
abbrev pub SideBits : List ℕ → Incoming → ℕ → ℕ → Type 0
SideBits bits i w e = (width_at bits (i.pulse e) ≡ 1) × (0 < w → width_at bits (i.value e) ≡ w)

pub side_bits : (contacts : List Contact) (i : Incoming) (bits : List ℕ) (w e : ℕ) (k : Contact) → BitsComeIn contacts i bits → slice_get contacts e ≡ Some k → bits_in k.role k ≡ w
    → SideBits bits i w e
side_bits contacts i bits w e k come there is =
    let known = come e (slice_get_within contacts e k there) in
    let same : incoming_bits contacts e ≡ w = bits_there e contacts k there ∙ is in
    (known.0, λ some. known.1 (omega (arith, some, same)) ∙ same)

asked_right : (w : ℕ) (i : Incoming) (h j b n : ℕ) (bits : List ℕ) → w ≤ GREATEST_WIDTH → SideBits bits i w (h + j) → SideBits bits i w (h + h + j)
    → HaveBits bits b n (asked_cells w i h j b n) → AllByRecursion (HasRightWidths bits) (asked_cells w i h j b n)
asked_right zero i h j b n bits narrow first second have =
    let own = bits_at bits b n (asked_cells zero i h j b n) have in
    ((omega arith, omega arith, (first.0, second.0)), ((omega arith, omega arith, own.0), tt))
asked_right (suc w) i h j b n bits narrow first second have =
    let own = bits_at bits b n (asked_cells (suc w) i h j b n) have in
    let o1 = own.1 in
    let o2 = o1.1 in
    let o3 = o2.1 in
    let some : 1 ≤ suc w = omega arith in (
      (omega arith, omega arith, (first.0, second.0)),
      (
        (omega arith, omega arith, own.0),
        (
          (some, narrow, (second.0, second.1 (omega arith), first.1 (omega arith))),
          ((some, narrow, o2.0), ((some, narrow, (o1.0, o3.0)), tt)),
        ),
      ),
    )

answered_right : (w : ℕ) (i : Incoming) (j b n : ℕ) (bits : List ℕ) → w ≤ GREATEST_WIDTH → SideBits bits i w j → width_at bits (b + 0) ≡ 1 → width_at bits (b + 1) ≡ 1
    → HaveBits bits b n (answered_cells w i j b n) → AllByRecursion (HasRightWidths bits) (answered_cells w i j b n)
answered_right zero i j b n bits narrow source to_caller to_other have =
    ((omega arith, omega arith, (source.0, to_other)), ((omega arith, omega arith, (source.0, to_caller)), tt))
answered_right (suc w) i j b n bits narrow source to_caller to_other have =
    let own = bits_at bits b n (answered_cells (suc w) i j b n) have in
    let o1 = own.1 in
    let some : 1 ≤ suc w = omega arith in (
      (omega arith, omega arith, (source.0, to_other)),
      (
        (omega arith, omega arith, (source.0, to_caller)),
        ((some, narrow, (own.0, source.1 (omega arith))), ((some, narrow, (o1.0, source.1 (omega arith))), tt)),
      ),
    )

sent_right : (w : ℕ) (i : Incoming) (j b n : ℕ) (bits : List ℕ) → w ≤ GREATEST_WIDTH → SideBits bits i w j → width_at bits (b + 0) ≡ 1 → width_at bits (b + 1) ≡ 1
    → HaveBits bits b n (sent_cells w i j b n) → AllByRecursion (HasRightWidths bits) (sent_cells w i j b n)
sent_right zero i j b n bits narrow source to_caller to_other have =
    let own = bits_at bits b n (sent_cells zero i j b n) have in
    let o1 = own.1 in (
      (omega arith, omega arith, (source.0, to_other)),
      ((omega arith, omega arith, (source.0, to_caller)), ((omega arith, omega arith, own.0), ((omega arith, omega arith, o1.0), tt))),
    )
sent_right (suc w) i j b n bits narrow source to_caller to_other have =
    let own = bits_at bits b n (sent_cells (suc w) i j b n) have in
    let o1 = own.1 in
    let o2 = o1.1 in
    let o3 = o2.1 in
    let o4 = o3.1 in
    let some : 1 ≤ suc w = omega arith in (
      (omega arith, omega arith, (source.0, to_other)),
      (
        (omega arith, omega arith, (source.0, to_caller)),
        (
          (omega arith, omega arith, own.0),
          (
            (omega arith, omega arith, o1.0),
            ((some, narrow, source.1 (omega arith)), ((some, narrow, (o2.0, o4.0)), ((some, narrow, (o3.0, o4.0)), tt))),
          ),
        ),
      ),
    )

pub told_right : (w : ℕ) (i : Incoming) (h j b n : ℕ) (bits : List ℕ) → w ≤ GREATEST_WIDTH → SideBits bits i w (h + j) → SideBits bits i w (h + h + j)
    → HaveBits bits b n (told_cells w i h j b n) → AllByRecursion (HasRightWidths bits) (told_cells w i h j b n)
told_right zero i h j b n bits narrow first second have = ((omega arith, omega arith, (first.0, second.0)), tt)
told_right (suc w) i h j b n bits narrow first second have =
    let own = bits_at bits b n (told_cells (suc w) i h j b n) have in
    let o1 = own.1 in
    let some : 1 ≤ suc w = omega arith in (
      (omega arith, omega arith, (first.0, second.0)),
      ((some, narrow, (second.0, second.1 (omega arith), first.1 (omega arith))), ((some, narrow, (own.0, o1.0)), tt)),
    )

-- a block, and both nets of the branch behind it
block_right : (r : Role) (q a : ℕ) (i : Incoming) (h j b n c d : ℕ) (bits : List ℕ) → q ≤ GREATEST_WIDTH → a ≤ GREATEST_WIDTH
    → SideBits bits i (in_bits (turned r) q a) j → SideBits bits i (in_bits r q a) (h + j) → SideBits bits i (in_bits r q a) (h + h + j)
    → width_at bits (b + 0) ≡ 1 → width_at bits (b + 1) ≡ 1 → width_at bits (b + 2) ≡ 1 → width_at bits c ≡ 1 → width_at bits d ≡ 1
    → HaveBits bits b n (block_cells r q a i h j b n c d)
    → AllByRecursion (HasRightWidths bits) (block_cells r q a i h j b n c d) × (width_at bits (kept_net r (b + (n + 0)) c) ≡ 1) × (width_at bits (kept_net r (b + (n + 1)) d) ≡ 1)
block_right Serve q a i h j b n c d bits asks answers source first second to_caller to_other none bits_c bits_d have =
    let asked = asked_cells q i h j b (n + 2) in
    let answered = answered_cells a i j b (n + 2 + asked_size q) in
    let parts = bits_both bits b n 2 (branch_cells i h j b c d) (asked ++ answered) refl have in
    let both = bits_both bits b (n + 2) (asked_size q) asked answered (asked_length q i h j b (n + 2)) parts.1 in
    let own = bits_at bits b n (branch_cells i h j b c d) parts.0 in (
      (
        (omega arith, omega arith, (first.0, none, bits_c)),
        (
          (omega arith, omega arith, (bits_d, second.0)),
          right_append bits asked answered (asked_right q i h j b (n + 2) bits asks first second both.0) (answered_right a i j b (n + 2 + asked_size q) bits answers source to_caller to_other both.1),
        ),
      ),
      own.0,
      own.1.0,
    )
block_right Ask q a i h j b n c d bits asks answers source first second to_caller to_other none bits_c bits_d have =
    let sent = sent_cells q i j b n in
    let told = told_cells a i h j b (n + sent_size q) in
    let parts = bits_both bits b n (sent_size q) sent told (sent_length q i j b n) have in (
      right_append bits sent told (sent_right q i j b n bits asks source to_caller to_other parts.0) (told_right a i h j b (n + sent_size q) bits answers first second parts.1),
      bits_c,
      bits_d,
    )

-- the row, and the net of the last cell
row_right : (ls : List Contact) (i : Incoming) (j b n c d : ℕ) (bits : List ℕ) (ks : List Contact) → BitsComeIn (sides ls) i bits → ArePlaced ls j ks → AreNarrow ks
    → width_at bits (b + 0) ≡ 1 → width_at bits (b + 1) ≡ 1 → width_at bits (b + 2) ≡ 1 → width_at bits c ≡ 1 → width_at bits d ≡ 1
    → HaveBits bits b n (row_cells i (length ls) j b n c d ks)
    → AllByRecursion (HasRightWidths bits) (row_cells i (length ls) j b n c d ks) × (width_at bits (b + place_behind n ks) ≡ 1)
row_right ls i j b n c d bits [] come placed narrow to_caller to_other none bits_c bits_d have = (((omega arith, omega arith, (bits_c, bits_d)), tt), have.0)
row_right ls i j b n c d bits (k ∷ ks) come placed narrow to_caller to_other none bits_c bits_d have =
    let q = k.ask_bits in
    let a = k.answer_bits in
    let h = length ls in
    let size = block_size k.role q a in
    let next_c = kept_net k.role (b + (n + 0)) c in
    let next_d = kept_net k.role (b + (n + 1)) d in
    let block = block_cells k.role q a i h j b n c d in
    let row = row_cells i h (suc j) b (n + size) next_c next_d ks in
    let parts = bits_both bits b n size block row (block_length k.role q a i h j b n c d) have in
    let here = block_right k.role q a i h j b n c d bits narrow.0 narrow.1
    (side_bits (sides ls) i bits (in_bits (turned k.role) q a) j _ come placed.0.source (same_bits (turned k.role) _))
    (side_bits (sides ls) i bits (in_bits k.role q a) (h + j) k come placed.0.first (same_bits k.role k))
    (side_bits (sides ls) i bits (in_bits k.role q a) (h + h + j) k come placed.0.second (same_bits k.role k))
    to_caller to_other none bits_c bits_d parts.0 in
    let rest = row_right ls i (suc j) b (n + size) next_c next_d bits ks come placed.1 narrow.2 to_caller to_other none here.1 here.2 parts.1 in
    (right_append bits block row here.0 rest.0, rest.1)

pub share_right : (b : ℕ) (i : Incoming) (bits : List ℕ) (ks : List Contact) → AreNarrow ks → BitsComeIn (sides ks) i bits → HaveBits bits b 0 (share_cells ks b i)
    → AllByRecursion (HasRightWidths bits) (share_cells ks b i)
share_right b i bits ks narrow come (w0, (w1, (w2, rest))) =
    let known = row_right ks i 0 b 3 (b + 0) (b + 2) bits ks come (all_placed ks) narrow w0 w1 w2 w0 w2 rest in
    ((omega arith, omega arith, known.1), ((omega arith, omega arith, w0), ((omega arith, omega arith, omega arith), known.0)))
