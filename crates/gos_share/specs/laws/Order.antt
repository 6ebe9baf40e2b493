-- The cells of a Share name what comes in and its own cells, and no gate names a later gate.
--
-- Read first: Fit; Own.
use Rattle.std.proofs.Common.{◌≡◌, inl, inr, ℕ, zero, suc, ◌+◌, ◌≤◌, List, [], ◌∷◌, ◌++◌, Some, refl, subst, arith}
use Rattle.std.specs.Prelude.{◌<◌, length, slice_get}
use Rattle.std.proofs.lemmas.Option.{slice_get_within}
use Rattle.gos_types.specs.declared.shakes.Role.{Role}
use Rattle.gos_types.specs.declared.shakes.Role.TheVariants.{Serve, Ask}
use Rattle.gos_types.specs.Handshakes.{turned}
use Rattle.gos_netlist.specs.Nets.{Cell, Or}
use Rattle.gos_plan.specs.Kinds.{Contact}
use Rattle.gos_macro.specs.Gates.{Incoming, bits_in}
use Rattle.gos_macro.specs.Cells.{bit}
use Rattle.gos_macro.specs.Fit.{IsKnown, NameEarlier}
use Rattle.gos_macro.specs.laws.StandingCells.{StandAt, stand_left, stand_right, NamesAt, names_from, names_append, own, any_own}
use Rattle.gos_share.specs.Blocks.{asked_cells, asked_size, answered_cells, sent_cells, sent_size, told_cells, branch_cells, block_cells, block_size, kept_net}
use Rattle.gos_share.specs.Share.{place_behind, row_cells, share_cells}
use Rattle.gos_share.specs.laws.Slots.{bits_there}
use Rattle.gos_share.specs.laws.Comes.{sides, in_bits, same_bits, ArePlaced, all_placed}
use Rattle.gos_share.specs.laws.Row.{asked_length, sent_length, block_length}
use Rattle.gos_share.specs.laws.Own.{serve_parts, ask_parts, row_stands}

-- the nets of a handshake are known everywhere
pub record SideKnown (contacts : List Contact) (i : Incoming) (b : ℕ) (all : List Cell) (w e : ℕ) : Type 0 where
  pub pulse : (n : ℕ) → IsKnown contacts i b all n (i.pulse e)
  pub value : 0 < w → (n : ℕ) → IsKnown contacts i b all n (i.value e)

pub side_known : (contacts : List Contact) (i : Incoming) (b : ℕ) (all : List Cell) (w e : ℕ) (k : Contact) → slice_get contacts e ≡ Some k → bits_in k.role k ≡ w
    → SideKnown contacts i b all w e
side_known contacts i b all w e k there bits =
    let low = slice_get_within contacts e k there in
    let same = bits_there e contacts k there in
    record {
      pulse = λ n. inl (e, low, inl refl);
      value = λ some n. inl (e, low, inr (omega (arith, some, same, bits), refl));
    }

later : (contacts : List Contact) (i : Incoming) (b : ℕ) (all : List Cell) (n m net : ℕ) → n ≤ m → IsKnown contacts i b all n net → IsKnown contacts i b all m net
later contacts i b all n m net high (inl comes) = inl comes
later contacts i b all n m net high (inr (k, c, is, there, inl low)) = inr (k, c, is, there, inl (omega (arith, low, high)))
later contacts i b all n m net high (inr (k, c, is, there, inr register)) = inr (k, c, is, there, inr register)

-- what a block may name besides its own cells: three sides, the branch and its complement, and a 0
pub record Around (contacts : List Contact) (i : Incoming) (b : ℕ) (all : List Cell) (r : Role) (q a h j n : ℕ) : Type 0 where
  pub source : SideKnown contacts i b all (in_bits (turned r) q a) j
  pub first : SideKnown contacts i b all (in_bits r q a) (h + j)
  pub second : SideKnown contacts i b all (in_bits r q a) (h + h + j)
  pub branch : (m : ℕ) → n ≤ m → IsKnown contacts i b all m (b + 0)
  pub no_branch : (m : ℕ) → n ≤ m → IsKnown contacts i b all m (b + 1)
  pub zero_net : (m : ℕ) → n ≤ m → IsKnown contacts i b all m (b + 2)

asked_order : (contacts : List Contact) (i : Incoming) (b : ℕ) (all : List Cell) (w h j n : ℕ) → SideKnown contacts i b all w (h + j) → SideKnown contacts i b all w (h + h + j)
    → StandAt all n (asked_cells w i h j b n) → NamesAt contacts i b all n 0 (asked_cells w i h j b n)
asked_order contacts i b all zero h j n first second stand =
    let cs = asked_cells zero i h j b n in
    ((first.pulse (n + 0), (second.pulse (n + 0), tt)), ((any_own contacts i b all n 0 cs _ stand refl, tt), tt))
asked_order contacts i b all (suc w) h j n first second stand =
    let cs = asked_cells (suc w) i h j b n in (
      (first.pulse (n + 0), (second.pulse (n + 0), tt)),
      (
        (any_own contacts i b all n 0 cs _ stand refl, tt),
        (
          (second.pulse (n + 2), (second.value (omega arith) (n + 2), (first.value (omega arith) (n + 2), tt))),
          (
            (any_own contacts i b all n 2 cs _ stand refl, tt),
            ((own contacts i b all n 1 (n + 4) cs _ stand refl (omega arith), (own contacts i b all n 3 (n + 4) cs _ stand refl (omega arith), tt)), tt),
          ),
        ),
      ),
    )

answered_order : (contacts : List Contact) (i : Incoming) (b : ℕ) (all : List Cell) (w j n l : ℕ) → SideKnown contacts i b all w j → l ≤ n
    → ((m : ℕ) → l ≤ m → IsKnown contacts i b all m (b + 0)) → ((m : ℕ) → l ≤ m → IsKnown contacts i b all m (b + 1))
    → StandAt all n (answered_cells w i j b n) → NamesAt contacts i b all n 0 (answered_cells w i j b n)
answered_order contacts i b all zero j n l source high to_caller to_other stand =
    ((source.pulse (n + 0), (to_other (n + 0) (omega (arith, high)), tt)), ((source.pulse (n + 1), (to_caller (n + 1) (omega (arith, high)), tt)), tt))
answered_order contacts i b all (suc w) j n l source high to_caller to_other stand =
    let cs = answered_cells (suc w) i j b n in (
      (source.pulse (n + 0), (to_other (n + 0) (omega (arith, high)), tt)),
      (
        (source.pulse (n + 1), (to_caller (n + 1) (omega (arith, high)), tt)),
        (
          (own contacts i b all n 0 (n + 2) cs _ stand refl (omega arith), (source.value (omega arith) (n + 2), tt)),
          ((own contacts i b all n 1 (n + 3) cs _ stand refl (omega arith), (source.value (omega arith) (n + 3), tt)), tt),
        ),
      ),
    )

sent_order : (contacts : List Contact) (i : Incoming) (b : ℕ) (all : List Cell) (w j n l : ℕ) → SideKnown contacts i b all w j → l ≤ n
    → ((m : ℕ) → l ≤ m → IsKnown contacts i b all m (b + 0)) → ((m : ℕ) → l ≤ m → IsKnown contacts i b all m (b + 1))
    → StandAt all n (sent_cells w i j b n) → NamesAt contacts i b all n 0 (sent_cells w i j b n)
sent_order contacts i b all zero j n l source high to_caller to_other stand =
    let cs = sent_cells zero i j b n in (
      (source.pulse (n + 0), (to_other (n + 0) (omega (arith, high)), tt)),
      (
        (source.pulse (n + 1), (to_caller (n + 1) (omega (arith, high)), tt)),
        ((any_own contacts i b all n 0 cs _ stand refl, tt), ((any_own contacts i b all n 1 cs _ stand refl, tt), tt)),
      ),
    )
sent_order contacts i b all (suc w) j n l source high to_caller to_other stand =
    let cs = sent_cells (suc w) i j b n in (
      (source.pulse (n + 0), (to_other (n + 0) (omega (arith, high)), tt)),
      (
        (source.pulse (n + 1), (to_caller (n + 1) (omega (arith, high)), tt)),
        (
          (any_own contacts i b all n 0 cs _ stand refl, tt),
          (
            (any_own contacts i b all n 1 cs _ stand refl, tt),
            (
              (source.value (omega arith) (length all), tt),
              (
                (own contacts i b all n 2 (n + 5) cs _ stand refl (omega arith), (own contacts i b all n 4 (n + 5) cs _ stand refl (omega arith), tt)),
                ((own contacts i b all n 3 (n + 6) cs _ stand refl (omega arith), (own contacts i b all n 4 (n + 6) cs _ stand refl (omega arith), tt)), tt),
              ),
            ),
          ),
        ),
      ),
    )

told_order : (contacts : List Contact) (i : Incoming) (b : ℕ) (all : List Cell) (w h j n : ℕ) → SideKnown contacts i b all w (h + j) → SideKnown contacts i b all w (h + h + j)
    → StandAt all n (told_cells w i h j b n) → NamesAt contacts i b all n 0 (told_cells w i h j b n)
told_order contacts i b all zero h j n first second stand = ((first.pulse (n + 0), (second.pulse (n + 0), tt)), tt)
told_order contacts i b all (suc w) h j n first second stand =
    let cs = told_cells (suc w) i h j b n in (
      (first.pulse (n + 0), (second.pulse (n + 0), tt)),
      (
        (second.pulse (n + 1), (second.value (omega arith) (n + 1), (first.value (omega arith) (n + 1), tt))),
        ((own contacts i b all n 0 (n + 2) cs _ stand refl (omega arith), (own contacts i b all n 1 (n + 2) cs _ stand refl (omega arith), tt)), tt),
      ),
    )

-- a block, and both nets of the branch behind it
block_order : (contacts : List Contact) (i : Incoming) (b : ℕ) (all : List Cell) (r : Role) (q a h j n c d : ℕ) → Around contacts i b all r q a h j n
    → IsKnown contacts i b all n c → IsKnown contacts i b all n d → StandAt all n (block_cells r q a i h j b n c d)
    → NameEarlier contacts i b all n (block_cells r q a i h j b n c d)
    × IsKnown contacts i b all (n + block_size r q a) (kept_net r (b + (n + 0)) c)
    × IsKnown contacts i b all (n + block_size r q a) (kept_net r (b + (n + 1)) d)
block_order contacts i b all Serve q a h j n c d around known_c known_d stand =
    let parts = serve_parts q a i h j b n c d all stand in
    let branch = branch_cells i h j b c d in
    let asked = asked_cells q i h j b (n + 2) in
    let answered = answered_cells a i j b (n + 2 + asked_size q) in
    let names_branch : NamesAt contacts i b all n 0 branch = (
      (around.first.pulse (n + 0), (around.zero_net (n + 0) (omega arith), (later contacts i b all n (n + 0) c (omega arith) known_c, tt))),
      ((later contacts i b all n (n + 1) d (omega arith) known_d, (around.second.pulse (n + 1), tt)), tt),
    ) in
    let names_asked = names_from contacts i b all (n + 2) (n + 2) 0 asked (omega arith) (asked_order contacts i b all q h j (n + 2) around.first around.second parts.1) in
    let names_answered = names_from contacts i b all (n + 2 + asked_size q) (n + 2 + asked_size q) 0 answered (omega arith)
    (answered_order contacts i b all a j (n + 2 + asked_size q) n around.source (omega arith) around.branch around.no_branch parts.2) in (
      names_append contacts i b all n 2 branch (asked ++ answered) refl (names_from contacts i b all n n 0 branch (omega arith) names_branch)
          (names_append contacts i b all (n + 2) (asked_size q) asked answered (asked_length q i h j b (n + 2)) names_asked names_answered),
      own contacts i b all n 0 (n + block_size Serve q a) branch _ parts.0 refl (omega arith),
      own contacts i b all n 1 (n + block_size Serve q a) branch _ parts.0 refl (omega arith),
    )
block_order contacts i b all Ask q a h j n c d around known_c known_d stand =
    let parts = ask_parts q a i h j b n c d all stand in
    let sent = sent_cells q i j b n in
    let told = told_cells a i h j b (n + sent_size q) in
    let names_sent = names_from contacts i b all n n 0 sent (omega arith)
    (sent_order contacts i b all q j n n around.source (omega arith) around.branch around.no_branch parts.0) in
    let names_told = names_from contacts i b all (n + sent_size q) (n + sent_size q) 0 told (omega arith)
    (told_order contacts i b all a h j (n + sent_size q) around.first around.second parts.1) in (
      names_append contacts i b all n (sent_size q) sent told (sent_length q i j b n) names_sent names_told,
      later contacts i b all n (n + block_size Ask q a) c (omega arith) known_c,
      later contacts i b all n (n + block_size Ask q a) d (omega arith) known_d,
    )

row_order : (ls : List Contact) (i : Incoming) (b : ℕ) (all : List Cell) (j n c d : ℕ) (ks : List Contact) → ArePlaced ls j ks
    → ((m : ℕ) → n ≤ m → IsKnown (sides ls) i b all m (b + 0)) → ((m : ℕ) → n ≤ m → IsKnown (sides ls) i b all m (b + 1)) → ((m : ℕ) → n ≤ m → IsKnown (sides ls) i b all m (b + 2))
    → IsKnown (sides ls) i b all n c → IsKnown (sides ls) i b all n d → StandAt all n (row_cells i (length ls) j b n c d ks)
    → NameEarlier (sides ls) i b all n (row_cells i (length ls) j b n c d ks)
row_order ls i b all j n c d [] placed known0 known1 known2 known_c known_d stand = ((known_c, (known_d, tt)), tt)
row_order ls i b all j n c d (k ∷ ks) placed known0 known1 known2 known_c known_d stand =
    let q = k.ask_bits in
    let a = k.answer_bits in
    let h = length ls in
    let size = block_size k.role q a in
    let next_c = kept_net k.role (b + (n + 0)) c in
    let next_d = kept_net k.role (b + (n + 1)) d in
    let block = block_cells k.role q a i h j b n c d in
    let row = row_cells i h (suc j) b (n + size) next_c next_d ks in
    let long = block_length k.role q a i h j b n c d in
    let around : Around (sides ls) i b all k.role q a h j n =
    record {
      source = side_known (sides ls) i b all (in_bits (turned k.role) q a) j _ placed.0.source (same_bits (turned k.role) _);
      first = side_known (sides ls) i b all (in_bits k.role q a) (h + j) k placed.0.first (same_bits k.role k);
      second = side_known (sides ls) i b all (in_bits k.role q a) (h + h + j) k placed.0.second (same_bits k.role k);
      branch = known0;
      no_branch = known1;
      zero_net = known2;
    } in
    let here = block_order (sides ls) i b all k.role q a h j n c d around known_c known_d (stand_left all n block row stand) in
    names_append (sides ls) i b all n size block row long here.0
    (row_order ls i b all (suc j) (n + size) next_c next_d ks placed.1 (λ m high. known0 m (omega (arith, high))) (λ m high. known1 m (omega (arith, high))) (λ m high. known2 m (omega (arith, high)))
    here.1 here.2 (stand_right all n size block row long stand))

-- the last cell, which the branch names
pub last_cell : (i : Incoming) (h j b n c d : ℕ) (all : List Cell) (ks : List Contact) → StandAt all n (row_cells i h j b n c d ks)
    → (e : Cell) × (slice_get all (place_behind n ks) ≡ Some e)
last_cell i h j b n c d all [] stand =
    let here : n + 0 ≡ n = omega arith in
    (bit (Or c d), subst (λ (m : ℕ). slice_get all m ≡ Some (bit (Or c d))) here (stand 0 (bit (Or c d)) refl))
last_cell i h j b n c d all (k ∷ ks) stand =
    let size = block_size k.role k.ask_bits k.answer_bits in
    let next_c = kept_net k.role (b + (n + 0)) c in
    let next_d = kept_net k.role (b + (n + 1)) d in
    let block = block_cells k.role k.ask_bits k.answer_bits i h j b n c d in
    last_cell i h (suc j) b (n + size) next_c next_d all ks
    (stand_right all n size block (row_cells i h (suc j) b (n + size) next_c next_d ks) (block_length k.role k.ask_bits k.answer_bits i h j b n c d) stand)

pub share_order : (b : ℕ) (i : Incoming) (ks : List Contact) → NameEarlier (sides ks) i b (share_cells ks b i) 0 (share_cells ks b i)
share_order b i ks =
    let all = share_cells ks b i in
    let stand = row_stands b i ks in
    let last = last_cell i (length ks) 0 b 3 (b + 0) (b + 2) all ks stand in
    let known0 : (m : ℕ) → IsKnown (sides ks) i b all m (b + 0) = λ m. inr (0, _, refl, refl, inr (b + place_behind 3 ks, refl)) in
    let known1 : (m : ℕ) → 3 ≤ m → IsKnown (sides ks) i b all m (b + 1) = λ m high. inr (1, _, refl, refl, inl (omega (arith, high))) in
    let known2 : (m : ℕ) → 3 ≤ m → IsKnown (sides ks) i b all m (b + 2) = λ m high. inr (2, _, refl, refl, inl (omega (arith, high))) in (
      (inr (place_behind 3 ks, last.0, refl, last.1, inl (slice_get_within all (place_behind 3 ks) last.0 last.1)), tt),
      (
        (known0 1, tt),
        (tt, row_order ks i b all 0 3 (b + 0) (b + 2) ks (all_placed ks) (λ m high. known0 m) known1 known2 (known0 3) (known2 3 (omega arith)) stand),
      ),
    )
