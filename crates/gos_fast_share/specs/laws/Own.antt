-- What goes out of a Share by order are nets of its own cells, with the right bits; and none of its cells is an input.
--
-- Read first: Fit of gos_macro; Shown.
use Rattle.std.proofs.Common.{◌≡◌, ℕ, zero, suc, ◌+◌, List, [], ◌∷◌, ◌++◌, Some, refl, sym, subst, arith}
use Rattle.std.specs.Prelude.{◌<◌, length, slice_get}
use Rattle.gos_types.specs.declared.shakes.Role.{Role}
use Rattle.gos_types.specs.declared.shakes.Role.TheVariants.{Serve, Ask}
use Rattle.gos_types.specs.Handshakes.{turned}
use Rattle.gos_netlist.specs.Nets.{Cell}
use Rattle.gos_plan.specs.Kinds.{Contact, turned_contact, other_side}
use Rattle.gos_macro.specs.Gates.{Incoming, Outgoing, bits_out}
use Rattle.gos_macro.specs.Fit.{IsOwn, GoesOut, AllGoOut, HasNoInput}
use Rattle.gos_macro.specs.laws.StandingCells.{StandAt, stand_left, stand_right, no_input_append}
use Rattle.gos_share.specs.Blocks.{outgoing, told_cells, told_size}
use Rattle.gos_share.specs.laws.Comes.{sides}
use Rattle.gos_fast_share.specs.Thread.{Asker, Nobody, Caller0, Caller1, asker, one_if_asks, requests, requests_before}
use Rattle.gos_fast_share.specs.Fast.{set_cells, thread_cells, up_bits, down_bits, split_cells, block_size, row_cells, fast_cells, source_outs, caller_outs, fast_outs}
use Rattle.gos_fast_share.specs.laws.Shown.{told_length, block_length}
use Rattle.gos_fast_share.specs.laws.Keeping.{thread_length}

-- a pulse, and a number of w bits where there are any
goes_out : (w : ℕ) (b : ℕ) (all : List Cell) (k : Contact) (p a : ℕ) → bits_out k.role k ≡ w → IsOwn b all p 1 → (0 < w → IsOwn b all a w)
    → GoesOut b all k (outgoing w p a)
goes_out zero b all k p a bits pulse number = (bits, pulse)
goes_out (suc w) b all k p a bits pulse number =
    (let some = bits in omega (arith, some), pulse, subst (λ (c : ℕ). IsOwn b all a c) (sym bits) (number (omega arith)))

told_out : (w : ℕ) (i : Incoming) (h j b n : ℕ) (all : List Cell) (k : Contact) → bits_out k.role k ≡ w → StandAt all n (told_cells w i h j b n)
    → GoesOut b all k (outgoing w (b + (n + 0)) (b + (n + 2)))
told_out zero i h j b n all k bits stand = (bits, (n + 0, _, refl, stand 0 _ refl, refl))
told_out (suc w) i h j b n all k bits stand =
    goes_out (suc w) b all k _ _ bits (n + 0, _, refl, stand 0 _ refl, refl) (λ some. (n + 2, _, refl, stand 2 _ refl, refl))

split_out : (w : ℕ) (i : Incoming) (j b n c : ℕ) (all : List Cell) (k : Contact) → bits_out k.role k ≡ w → StandAt all n (split_cells w i j b n c)
    → GoesOut b all k (outgoing w (b + (n + 0)) (b + (n + 2))) × GoesOut b all k (outgoing w (b + (n + 1)) (b + (n + 3)))
split_out zero i j b n c all k bits stand =
    ((bits, (n + 0, _, refl, stand 0 _ refl, refl)), (bits, (n + 1, _, refl, stand 1 _ refl, refl)))
split_out (suc w) i j b n c all k bits stand = (
  goes_out (suc w) b all k _ _ bits (n + 0, _, refl, stand 0 _ refl, refl) (λ some. (n + 2, _, refl, stand 2 _ refl, refl)),
  goes_out (suc w) b all k _ _ bits (n + 1, _, refl, stand 1 _ refl, refl) (λ some. (n + 3, _, refl, stand 3 _ refl, refl)),
)

-- the bits of what goes to the source, and to a caller
source_bits : (r : Role) (k : Contact) → bits_out (turned r) k ≡ up_bits r k.ask_bits k.answer_bits
source_bits Serve k = refl
source_bits Ask k = refl

caller_bits : (r : Role) (k : Contact) → bits_out r k ≡ down_bits r k.ask_bits k.answer_bits
caller_bits Serve k = refl
caller_bits Ask k = refl

row_out : (ks : List Contact) (order : List ℕ) (i : Incoming) (j b n : ℕ) (all : List Cell) (ls : List Contact) → StandAt all n (row_cells ks order i j b n ls)
    → AllGoOut b all (other_side ls) (source_outs b n ls) × AllGoOut b all ls (caller_outs 0 b n ls) × AllGoOut b all ls (caller_outs 1 b n ls)
row_out ks order i j b n all [] stand = (tt, tt, tt)
row_out ks order i j b n all (l ∷ ls) stand =
    let q = l.ask_bits in
    let a = l.answer_bits in
    let u = up_bits l.role q a in
    let d = down_bits l.role q a in
    let size = block_size l.role q a in
    let net = b + (1 + requests_before ks j order) in
    let told = told_cells u i (length ks) j b n in
    let split = split_cells d i j b (n + told_size u) net in
    let row = row_cells ks order i (suc j) b (n + size) ls in
    let block = stand_left all n (told ++ split) row stand in
    let up = told_out u i (length ks) j b n all (turned_contact l) (source_bits l.role (turned_contact l)) (stand_left all n told split block) in
    let down = split_out d i j b (n + told_size u) net all l (caller_bits l.role l) (stand_right all n (told_size u) told split (told_length u i (length ks) j b n) block) in
    let rest = row_out ks order i (suc j) b (n + size) all ls (stand_right all n size (told ++ split) row (block_length l.role q a i (length ks) j b n net) stand) in
    ((up, rest.0), (down.0, rest.1), (down.1, rest.2))

out_append : (b : ℕ) (all : List Cell) (ks ls : List Contact) (os qs : List Outgoing) → AllGoOut b all ks os → AllGoOut b all ls qs → AllGoOut b all (ks ++ ls) (os ++ qs)
out_append b all [] ls [] qs first second = second
out_append b all [] ls (o ∷ os) qs first second = absurd first
out_append b all (k ∷ ks) ls [] qs first second = absurd first
out_append b all (k ∷ ks) ls (o ∷ os) qs first second = (first.0, out_append b all ks ls os qs first.1 second)

-- the thread stands behind both first cells, and the row behind the thread
behind_two : (b : ℕ) (i : Incoming) (ks : List Contact) (order : List ℕ)
    → StandAt (fast_cells ks order b i) 2 (thread_cells ks i b 1 order ++ row_cells ks order i 0 b (2 + requests ks order) ks)
behind_two b i ks order m c there =
    let here : suc (suc m) ≡ 2 + m = omega arith in
    subst (λ (e : ℕ). slice_get (fast_cells ks order b i) e ≡ Some c) here there

pub thread_stands : (b : ℕ) (i : Incoming) (ks : List Contact) (order : List ℕ) → StandAt (fast_cells ks order b i) 2 (thread_cells ks i b 1 order)
thread_stands b i ks order =
    stand_left (fast_cells ks order b i) 2 (thread_cells ks i b 1 order) (row_cells ks order i 0 b (2 + requests ks order) ks) (behind_two b i ks order)

pub row_stands : (b : ℕ) (i : Incoming) (ks : List Contact) (order : List ℕ)
    → StandAt (fast_cells ks order b i) (2 + requests ks order) (row_cells ks order i 0 b (2 + requests ks order) ks)
row_stands b i ks order =
    stand_right (fast_cells ks order b i) 2 (requests ks order) (thread_cells ks i b 1 order) (row_cells ks order i 0 b (2 + requests ks order) ks)
    (thread_length ks i b 1 order) (behind_two b i ks order)

pub fast_out : (b : ℕ) (i : Incoming) (ks : List Contact) (order : List ℕ) → AllGoOut b (fast_cells ks order b i) (sides ks) (fast_outs ks order b)
fast_out b i ks order =
    let all = fast_cells ks order b i in
    let n = 2 + requests ks order in
    let known = row_out ks order i 0 b n all ks (row_stands b i ks order) in
    out_append b all (other_side ks) (ks ++ ks) (source_outs b n ks) (caller_outs 0 b n ks ++ caller_outs 1 b n ks) known.0
    (out_append b all ks ks (caller_outs 0 b n ks) (caller_outs 1 b n ks) known.1 known.2)

-- no inputs
set_inner : (a : Asker) (pulse b n : ℕ) → HasNoInput (set_cells a pulse b n)
set_inner Nobody pulse b n = tt
set_inner Caller0 pulse b n = ((λ same. cc same), tt)
set_inner Caller1 pulse b n = ((λ same. cc same), tt)

thread_inner : (ks : List Contact) (i : Incoming) (b n : ℕ) (es : List ℕ) → HasNoInput (thread_cells ks i b n es)
thread_inner ks i b n [] = tt
thread_inner ks i b n (e ∷ es) =
    no_input_append (set_cells (asker ks e) (i.pulse e) b n) (thread_cells ks i b (n + one_if_asks (asker ks e)) es) (set_inner (asker ks e) (i.pulse e) b n)
    (thread_inner ks i b (n + one_if_asks (asker ks e)) es)

told_inner : (w : ℕ) (i : Incoming) (h j b n : ℕ) → HasNoInput (told_cells w i h j b n)
told_inner zero i h j b n = ((λ same. cc same), tt)
told_inner (suc w) i h j b n = ((λ same. cc same), ((λ same. cc same), ((λ same. cc same), tt)))

split_inner : (w : ℕ) (i : Incoming) (j b n c : ℕ) → HasNoInput (split_cells w i j b n c)
split_inner zero i j b n c = ((λ same. cc same), ((λ same. cc same), tt))
split_inner (suc w) i j b n c = ((λ same. cc same), ((λ same. cc same), ((λ same. cc same), ((λ same. cc same), tt))))

row_inner : (ks : List Contact) (order : List ℕ) (i : Incoming) (j b n : ℕ) (ls : List Contact) → HasNoInput (row_cells ks order i j b n ls)
row_inner ks order i j b n [] = tt
row_inner ks order i j b n (l ∷ ls) =
    let u = up_bits l.role l.ask_bits l.answer_bits in
    let d = down_bits l.role l.ask_bits l.answer_bits in
    let size = block_size l.role l.ask_bits l.answer_bits in
    let net = b + (1 + requests_before ks j order) in
    let told = told_cells u i (length ks) j b n in
    let split = split_cells d i j b (n + told_size u) net in
    no_input_append (told ++ split) (row_cells ks order i (suc j) b (n + size) ls)
    (no_input_append told split (told_inner u i (length ks) j b n) (split_inner d i j b (n + told_size u) net))
    (row_inner ks order i (suc j) b (n + size) ls)

pub fast_inner : (b : ℕ) (i : Incoming) (ks : List Contact) (order : List ℕ) → HasNoInput (fast_cells ks order b i)
fast_inner b i ks order = (
  (λ same. cc same),
  (
    (λ same. cc same),
    no_input_append (thread_cells ks i b 1 order) (row_cells ks order i 0 b (2 + requests ks order) ks) (thread_inner ks i b 1 order)
        (row_inner ks order i 0 b (2 + requests ks order) ks),
  ),
)
