-- What goes out of a Share are nets of its own cells, with the right bits; and none of its cells is an input.
--
-- Read first: Fit; Comes, Row.
use Rattle.std.proofs.Common.{◌≡◌, ℕ, zero, suc, ◌+◌, List, [], ◌∷◌, ◌++◌, Some, refl, sym, subst, arith}
use Rattle.std.specs.Prelude.{◌<◌, length, slice_get}
use Rattle.gos_types.specs.declared.shakes.Role.{Role}
use Rattle.gos_types.specs.declared.shakes.Role.TheVariants.{Serve, Ask}
use Rattle.gos_netlist.specs.Nets.{Cell}
use Rattle.gos_plan.specs.Kinds.{Contact, turned_contact, other_side}
use Rattle.gos_macro.specs.Gates.{Incoming, Outgoing, bits_out}
use Rattle.gos_macro.specs.Fit.{IsOwn, GoesOut, AllGoOut, HasNoInput}
use Rattle.gos_macro.specs.laws.StandingCells.{StandAt, stand_left, stand_right, no_input_append}
use Rattle.gos_share.specs.Blocks.{outgoing, asked_cells, asked_size, answered_cells, sent_cells, sent_size, told_cells, branch_cells, block_cells, block_size, kept_net, source_out, caller_out}
use Rattle.gos_share.specs.Share.{row_cells, share_cells, source_outs, caller_outs, share_outs}
use Rattle.gos_share.specs.laws.Comes.{sides}
use Rattle.gos_share.specs.laws.Row.{asked_length, sent_length, block_length}

-- a pulse, and a number of w bits where there are any
pub goes_out : (w : ℕ) (b : ℕ) (all : List Cell) (k : Contact) (p a : ℕ) → bits_out k.role k ≡ w → IsOwn b all p 1 → (0 < w → IsOwn b all a w)
    → GoesOut b all k (outgoing w p a)
goes_out zero b all k p a bits pulse number = (bits, pulse)
goes_out (suc w) b all k p a bits pulse number =
    (let some = bits in omega (arith, some), pulse, subst (λ (c : ℕ). IsOwn b all a c) (sym bits) (number (omega arith)))

asked_out : (w : ℕ) (i : Incoming) (h j b n : ℕ) (all : List Cell) (k : Contact) → bits_out k.role k ≡ w → StandAt all n (asked_cells w i h j b n)
    → GoesOut b all k (outgoing w (b + (n + 1)) (b + (n + 4)))
asked_out zero i h j b n all k bits stand = (bits, (n + 1, _, refl, stand 1 _ refl, refl))
asked_out (suc w) i h j b n all k bits stand =
    goes_out (suc w) b all k _ _ bits (n + 1, _, refl, stand 1 _ refl, refl) (λ some. (n + 4, _, refl, stand 4 _ refl, refl))

answered_out : (w : ℕ) (i : Incoming) (j b n : ℕ) (all : List Cell) (k : Contact) → bits_out k.role k ≡ w → StandAt all n (answered_cells w i j b n)
    → GoesOut b all k (outgoing w (b + (n + 0)) (b + (n + 2))) × GoesOut b all k (outgoing w (b + (n + 1)) (b + (n + 3)))
answered_out zero i j b n all k bits stand =
    ((bits, (n + 0, _, refl, stand 0 _ refl, refl)), (bits, (n + 1, _, refl, stand 1 _ refl, refl)))
answered_out (suc w) i j b n all k bits stand = (
  goes_out (suc w) b all k _ _ bits (n + 0, _, refl, stand 0 _ refl, refl) (λ some. (n + 2, _, refl, stand 2 _ refl, refl)),
  goes_out (suc w) b all k _ _ bits (n + 1, _, refl, stand 1 _ refl, refl) (λ some. (n + 3, _, refl, stand 3 _ refl, refl)),
)

sent_out : (w : ℕ) (i : Incoming) (j b n : ℕ) (all : List Cell) (k : Contact) → bits_out k.role k ≡ w → StandAt all n (sent_cells w i j b n)
    → GoesOut b all k (outgoing w (b + (n + 2)) (b + (n + 5))) × GoesOut b all k (outgoing w (b + (n + 3)) (b + (n + 6)))
sent_out zero i j b n all k bits stand =
    ((bits, (n + 2, _, refl, stand 2 _ refl, refl)), (bits, (n + 3, _, refl, stand 3 _ refl, refl)))
sent_out (suc w) i j b n all k bits stand = (
  goes_out (suc w) b all k _ _ bits (n + 2, _, refl, stand 2 _ refl, refl) (λ some. (n + 5, _, refl, stand 5 _ refl, refl)),
  goes_out (suc w) b all k _ _ bits (n + 3, _, refl, stand 3 _ refl, refl) (λ some. (n + 6, _, refl, stand 6 _ refl, refl)),
)

pub told_out : (w : ℕ) (i : Incoming) (h j b n : ℕ) (all : List Cell) (k : Contact) → bits_out k.role k ≡ w → StandAt all n (told_cells w i h j b n)
    → GoesOut b all k (outgoing w (b + (n + 0)) (b + (n + 2)))
told_out zero i h j b n all k bits stand = (bits, (n + 0, _, refl, stand 0 _ refl, refl))
told_out (suc w) i h j b n all k bits stand =
    goes_out (suc w) b all k _ _ bits (n + 0, _, refl, stand 0 _ refl, refl) (λ some. (n + 2, _, refl, stand 2 _ refl, refl))

-- the parts of a block, by its role
pub serve_parts : (q a : ℕ) (i : Incoming) (h j b n c d : ℕ) (all : List Cell) → StandAt all n (block_cells Serve q a i h j b n c d)
    → StandAt all n (branch_cells i h j b c d) × StandAt all (n + 2) (asked_cells q i h j b (n + 2))
    × StandAt all (n + 2 + asked_size q) (answered_cells a i j b (n + 2 + asked_size q))
serve_parts q a i h j b n c d all stand =
    let asked = asked_cells q i h j b (n + 2) in
    let answered = answered_cells a i j b (n + 2 + asked_size q) in
    let behind = stand_right all n 2 (branch_cells i h j b c d) (asked ++ answered) refl stand in (
      stand_left all n (branch_cells i h j b c d) (asked ++ answered) stand,
      stand_left all (n + 2) asked answered behind,
      stand_right all (n + 2) (asked_size q) asked answered (asked_length q i h j b (n + 2)) behind,
    )

pub ask_parts : (q a : ℕ) (i : Incoming) (h j b n c d : ℕ) (all : List Cell) → StandAt all n (block_cells Ask q a i h j b n c d)
    → StandAt all n (sent_cells q i j b n) × StandAt all (n + sent_size q) (told_cells a i h j b (n + sent_size q))
ask_parts q a i h j b n c d all stand =
    let sent = sent_cells q i j b n in
    let told = told_cells a i h j b (n + sent_size q) in
    (stand_left all n sent told stand, stand_right all n (sent_size q) sent told (sent_length q i j b n) stand)

block_out : (r : Role) (q a : ℕ) (i : Incoming) (h j b n c d : ℕ) (all : List Cell) → StandAt all n (block_cells r q a i h j b n c d)
    → GoesOut b all (turned_contact (record { role = r; ask_bits = q; answer_bits = a })) (source_out r q a b n)
    × GoesOut b all (record { role = r; ask_bits = q; answer_bits = a }) (caller_out 0 r q a b n)
    × GoesOut b all (record { role = r; ask_bits = q; answer_bits = a }) (caller_out 1 r q a b n)
block_out Serve q a i h j b n c d all stand =
    let parts = serve_parts q a i h j b n c d all stand in
    let answers = answered_out a i j b (n + 2 + asked_size q) all (record { role = Serve; ask_bits = q; answer_bits = a }) refl parts.2 in
    (asked_out q i h j b (n + 2) all (record { role = Ask; ask_bits = q; answer_bits = a }) refl parts.1, answers.0, answers.1)
block_out Ask q a i h j b n c d all stand =
    let parts = ask_parts q a i h j b n c d all stand in
    let requests = sent_out q i j b n all (record { role = Ask; ask_bits = q; answer_bits = a }) refl parts.0 in
    (told_out a i h j b (n + sent_size q) all (record { role = Serve; ask_bits = q; answer_bits = a }) refl parts.1, requests.0, requests.1)

row_out : (i : Incoming) (h j b n c d : ℕ) (all : List Cell) (ks : List Contact) → StandAt all n (row_cells i h j b n c d ks)
    → AllGoOut b all (other_side ks) (source_outs b n ks) × AllGoOut b all ks (caller_outs 0 b n ks) × AllGoOut b all ks (caller_outs 1 b n ks)
row_out i h j b n c d all [] stand = (tt, tt, tt)
row_out i h j b n c d all (k ∷ ks) stand =
    let q = k.ask_bits in
    let a = k.answer_bits in
    let size = block_size k.role q a in
    let next_c = kept_net k.role (b + (n + 0)) c in
    let next_d = kept_net k.role (b + (n + 1)) d in
    let block = block_cells k.role q a i h j b n c d in
    let row = row_cells i h (suc j) b (n + size) next_c next_d ks in
    let here = block_out k.role q a i h j b n c d all (stand_left all n block row stand) in
    let rest = row_out i h (suc j) b (n + size) next_c next_d all ks (stand_right all n size block row (block_length k.role q a i h j b n c d) stand) in
    ((here.0, rest.0), (here.1, rest.1), (here.2, rest.2))

pub out_append : (b : ℕ) (all : List Cell) (ks ls : List Contact) (os qs : List Outgoing) → AllGoOut b all ks os → AllGoOut b all ls qs → AllGoOut b all (ks ++ ls) (os ++ qs)
out_append b all [] ls [] qs first second = second
out_append b all [] ls (o ∷ os) qs first second = absurd first
out_append b all (k ∷ ks) ls [] qs first second = absurd first
out_append b all (k ∷ ks) ls (o ∷ os) qs first second = (first.0, out_append b all ks ls os qs first.1 second)

-- all cells behind the first three
pub row_stands : (b : ℕ) (i : Incoming) (ks : List Contact) → StandAt (share_cells ks b i) 3 (row_cells i (length ks) 0 b 3 (b + 0) (b + 2) ks)
row_stands b i ks m c there =
    let here : suc (suc (suc m)) ≡ 3 + m = omega arith in
    subst (λ (e : ℕ). slice_get (share_cells ks b i) e ≡ Some c) here there

pub share_out : (b : ℕ) (i : Incoming) (ks : List Contact) → AllGoOut b (share_cells ks b i) (sides ks) (share_outs ks b)
share_out b i ks =
    let all = share_cells ks b i in
    let known = row_out i (length ks) 0 b 3 (b + 0) (b + 2) all ks (row_stands b i ks) in
    out_append b all (other_side ks) (ks ++ ks) (source_outs b 3 ks) (caller_outs 0 b 3 ks ++ caller_outs 1 b 3 ks) known.0
    (out_append b all ks ks (caller_outs 0 b 3 ks) (caller_outs 1 b 3 ks) known.1 known.2)

-- no inputs
block_inner : (r : Role) (q a : ℕ) (i : Incoming) (h j b n c d : ℕ) → HasNoInput (block_cells r q a i h j b n c d)
block_inner Serve q a i h j b n c d = ((λ same. cc same), ((λ same. cc same), no_input_append (asked_cells q i h j b (n + 2)) (answered_cells a i j b (n + 2 + asked_size q)) (asked q) (answered a)))
  where
    asked : (w : ℕ) → HasNoInput (asked_cells w i h j b (n + 2))
    asked zero = ((λ same. cc same), ((λ same. cc same), tt))
    asked (suc w) = ((λ same. cc same), ((λ same. cc same), ((λ same. cc same), ((λ same. cc same), ((λ same. cc same), tt)))))

    answered : (w : ℕ) → HasNoInput (answered_cells w i j b (n + 2 + asked_size q))
    answered zero = ((λ same. cc same), ((λ same. cc same), tt))
    answered (suc w) = ((λ same. cc same), ((λ same. cc same), ((λ same. cc same), ((λ same. cc same), tt))))
block_inner Ask q a i h j b n c d = no_input_append (sent_cells q i j b n) (told_cells a i h j b (n + sent_size q)) (sent q) (told a)
  where
    sent : (w : ℕ) → HasNoInput (sent_cells w i j b n)
    sent zero = ((λ same. cc same), ((λ same. cc same), ((λ same. cc same), ((λ same. cc same), tt))))
    sent (suc w) = ((λ same. cc same), ((λ same. cc same), ((λ same. cc same), ((λ same. cc same), ((λ same. cc same), ((λ same. cc same), ((λ same. cc same), tt)))))))

    told : (w : ℕ) → HasNoInput (told_cells w i h j b (n + sent_size q))
    told zero = ((λ same. cc same), tt)
    told (suc w) = ((λ same. cc same), ((λ same. cc same), ((λ same. cc same), tt)))

row_inner : (i : Incoming) (h j b n c d : ℕ) (ks : List Contact) → HasNoInput (row_cells i h j b n c d ks)
row_inner i h j b n c d [] = ((λ same. cc same), tt)
row_inner i h j b n c d (k ∷ ks) =
    let size = block_size k.role k.ask_bits k.answer_bits in
    no_input_append (block_cells k.role k.ask_bits k.answer_bits i h j b n c d)
    (row_cells i h (suc j) b (n + size) (kept_net k.role (b + (n + 0)) c) (kept_net k.role (b + (n + 1)) d) ks)
    (block_inner k.role k.ask_bits k.answer_bits i h j b n c d)
    (row_inner i h (suc j) b (n + size) (kept_net k.role (b + (n + 0)) c) (kept_net k.role (b + (n + 1)) d) ks)

pub share_inner : (b : ℕ) (i : Incoming) (ks : List Contact) → HasNoInput (share_cells ks b i)
share_inner b i ks = ((λ same. cc same), ((λ same. cc same), ((λ same. cc same), row_inner i (length ks) 0 b 3 (b + 0) (b + 2) ks)))
