-- The handshakes of a product and of a function, one behind the other.
use Rattle.std.proofs.Common.{◌≡◌, ℕ, zero, suc, ◌+◌, List, [], ◌∷◌, ◌++◌, Some, refl, sym, ◌∙◌, ap, subst, arith}
use Rattle.std.specs.Prelude.{length, map, slice_get, drop}
use Rattle.std.proofs.lemmas.List.{length-map, length-append}
use Rattle.gos_types.specs.declared.shakes.Step.{Step}
use Rattle.gos_types.specs.declared.shakes.Step.TheVariants.{First, Second, Argument, Outcome}
use Rattle.gos_types.specs.Types.{Type', Pair, Fun}
use Rattle.gos_types.specs.Handshakes.{Shake, turn_all, below, handshakes_of}
use Rattle.gos_plan.specs.Kinds.{Contact, contact, contacts_of, turned_contact, other_side}
use Rattle.gos_share.specs.laws.Comes.{get_left, get_right}

contact_below : (step : Step) (ss : List Shake) → map contact (below step ss) ≡ map contact ss
contact_below step [] = refl
contact_below step (s ∷ ss) = ap (λ (ks : List Contact). contact s ∷ ks) (contact_below step ss)

contact_turned : (ss : List Shake) → map contact (turn_all ss) ≡ other_side (map contact ss)
contact_turned [] = refl
contact_turned (s ∷ ss) = ap (λ (ks : List Contact). turned_contact (contact s) ∷ ks) (contact_turned ss)

contact_append : (ss us : List Shake) → map contact (ss ++ us) ≡ map contact ss ++ map contact us
contact_append [] us = refl
contact_append (s ∷ ss) us = ap (λ (ks : List Contact). contact s ∷ ks) (contact_append ss us)

pub pair_contacts : (a b : Type') → contacts_of (Pair a b) ≡ contacts_of a ++ contacts_of b
pair_contacts a b =
    contact_append (below First (handshakes_of a)) (below Second (handshakes_of b))
    ∙ (λ i. contact_below First (handshakes_of a) i ++ contact_below Second (handshakes_of b) i)

pub fun_contacts : (a b : Type') → contacts_of (Fun a b) ≡ other_side (contacts_of a) ++ contacts_of b
fun_contacts a b =
    contact_append (below Argument (turn_all (handshakes_of a))) (below Outcome (handshakes_of b))
    ∙ (λ i. (contact_below Argument (turn_all (handshakes_of a)) ∙ contact_turned (handshakes_of a)) i ++ contact_below Outcome (handshakes_of b) i)

got : (xs ys : List Contact) (j : ℕ) (k : Contact) → xs ≡ ys → slice_get ys j ≡ Some k → slice_get xs j ≡ Some k
got xs ys j k same there = ap (λ (zs : List Contact). slice_get zs j) same ∙ there

turned_there : (xs : List Contact) (j : ℕ) (k : Contact) → slice_get xs j ≡ Some k → slice_get (other_side xs) j ≡ Some (turned_contact k)
turned_there [] j k there = absurd (cc there)
turned_there (x ∷ xs) zero k there = let same : x ≡ k = cc there in λ i. Some (turned_contact (same i))
turned_there (x ∷ xs) (suc j) k there = turned_there xs j k there

pub pair_first : (a b : Type') (j : ℕ) (k : Contact) → slice_get (contacts_of a) j ≡ Some k → slice_get (contacts_of (Pair a b)) j ≡ Some k
pair_first a b j k there = got _ _ j k (pair_contacts a b) (get_left (contacts_of a) (contacts_of b) j k there)

pub pair_second : (a b : Type') (j over : ℕ) (k : Contact) → j ≡ over + length (contacts_of a) → slice_get (contacts_of b) over ≡ Some k → slice_get (contacts_of (Pair a b)) j ≡ Some k
pair_second a b j over k is there = got _ _ j k (pair_contacts a b) (get_right (contacts_of a) (contacts_of b) j over k (omega (arith, is)) there)

pub pair_behind : (a b : Type') (j over rest : ℕ) → j ≡ over + length (contacts_of a) → over ≡ rest + length (contacts_of b) → j ≡ rest + length (contacts_of (Pair a b))
pair_behind a b j over rest first second =
    let long = ap (λ (ks : List Contact). length ks) (pair_contacts a b) ∙ length-append (contacts_of a) (contacts_of b) in
    omega (arith, first, second, long)

pub fun_first : (a b : Type') (j : ℕ) (k l : Contact) → slice_get (contacts_of a) j ≡ Some k → l ≡ turned_contact k → slice_get (contacts_of (Fun a b)) j ≡ Some l
fun_first a b j k l there is =
    subst (λ (m : Contact). slice_get (contacts_of (Fun a b)) j ≡ Some m) (sym is)
    (got _ _ j (turned_contact k) (fun_contacts a b) (get_left (other_side (contacts_of a)) (contacts_of b) j (turned_contact k) (turned_there (contacts_of a) j k there)))

pub fun_second : (a b : Type') (j over : ℕ) (k : Contact) → j ≡ over + length (contacts_of a) → slice_get (contacts_of b) over ≡ Some k → slice_get (contacts_of (Fun a b)) j ≡ Some k
fun_second a b j over k is there =
    let long = length-map (contacts_of a) turned_contact in
    got _ _ j k (fun_contacts a b) (get_right (other_side (contacts_of a)) (contacts_of b) j over k (omega (arith, is, long)) there)

pub fun_behind : (a b : Type') (j over rest : ℕ) → j ≡ over + length (contacts_of a) → over ≡ rest + length (contacts_of b) → j ≡ rest + length (contacts_of (Fun a b))
fun_behind a b j over rest first second =
    let turned = length-map (contacts_of a) turned_contact in
    let long = ap (λ (ks : List Contact). length ks) (fun_contacts a b) ∙ length-append (other_side (contacts_of a)) (contacts_of b) in
    omega (arith, first, second, long, turned)

-- an element and those behind it
there_from : (xs : List Contact) (j : ℕ) (k : Contact) → slice_get xs j ≡ Some k → drop j xs ≡ k ∷ drop (suc j) xs
there_from [] j k there = absurd (cc there)
there_from (x ∷ xs) zero k there = let same : x ≡ k = cc there in ap (λ (c : Contact). c ∷ xs) same
there_from (x ∷ xs) (suc j) k there = there_from xs j k there

pub drop_there : (xs : List Contact) (j : ℕ) (k : Contact) → slice_get xs j ≡ Some k → drop j xs ≡ k ∷ drop (j + 1) xs
drop_there xs j k there = let here : suc j ≡ j + 1 = omega arith in subst (λ (m : ℕ). drop j xs ≡ k ∷ drop m xs) here (there_from xs j k there)

pub drop_behind : (xs : List Contact) (j over : ℕ) → j ≡ over + length xs → drop j xs ≡ []
drop_behind [] zero over is = refl
drop_behind [] (suc j) over is = refl
drop_behind (x ∷ xs) zero over is = absurd (omega (arith, is))
drop_behind (x ∷ xs) (suc j) over is = drop_behind xs j over (omega (arith, is))
