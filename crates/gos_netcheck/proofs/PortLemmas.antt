-- What the test of the ports reads and marks, in the words of the rules.
use Rattle.std.specs.Prelude.{◌≡◌, ℕ, zero, suc, ◌+◌, ◌<◌, ◌≤◌, ◌⊎◌, Bool, true, false, if◌then◌else◌, List, [], ◌∷◌, ◌++◌, length, map, take, drop, get_or, Contains, Some, slice_get, slice_set}
use Rattle.std.proofs.Common.{arith, refl, sym, ap, subst, inl, inr, ◌∙◌, add-one}
use Rattle.std.proofs.lemmas.List.{length-map, append_assoc, map-append, drop_more, take_all}
use Rattle.std.proofs.lemmas.List.Elements.{Contains-append_left, Contains-append_right, Contains-append_cases}
use Rattle.std.proofs.lemmas.Option.{same_Some, slice_get-get_or, slice_get_within, get_or_from_slice_get}
use Rattle.gos_netlist.specs.declared.nets.NetId.{NetId}
use Rattle.gos_netlist.specs.declared.nets.Cell as declared
use Rattle.gos_netlist.specs.Nets.{Cell, Input}
use Rattle.gos_netlist.specs.Seen.{cell_of, function_of, number_of}
use Rattle.gos_netcheck.specs.declared.ports.Place.{Place}
use Rattle.gos_netcheck.specs.Rules.{KeptBefore, Kept}
use Rattle.gos_netcheck.specs.PortRules.{IsEnd, Fits, FitsAt, AreNew, IsLoose, inputs_among}
use Rattle.gos_netcheck.specs.inner.PortSearch.{AreTaken}
use Rattle.gos_netcheck.proofs.RuleLemmas.{get_mapped, mapped_more, mapped_all}
use Rattle.gos_netcheck.proofs.TurnLemmas.{no_net, first, head_or_later, not_in_nil, take_one_more}

-- a cell that is read, by its net
cell_read : (cells : List declared.Cell) (n : ℕ) (x : declared.Cell) → n < length cells → x ≡ get_or cells n x
    → slice_get (map cell_of cells) n ≡ Some (cell_of x)
cell_read cells n x l is = get_mapped cell_of cells n x l ∙ ap (λ (y : declared.Cell). Some (cell_of y)) (sym is)

pub fits_read : (cells : List declared.Cell) (place : Place) (n : ℕ) (x : declared.Cell) → n < length cells → x ≡ get_or cells n x
    → Fits (map cell_of cells) place n → (x.width ≡ place.width) × IsEnd place.input (function_of x.gate)
fits_read cells place n x l is (c, at, width, end) =
    let same : c ≡ cell_of x = same_Some c (cell_of x) (sym at ∙ cell_read cells n x l is) in
    let P : Cell → Type 0 = λ y. IsEnd place.input y.gate in
    (sym (ap (λ (y : Cell). y.width) same) ∙ width, subst P same end)

pub fits_made : (cells : List declared.Cell) (place : Place) (n : ℕ) (x : declared.Cell) → n < length cells → x ≡ get_or cells n x
    → x.width ≡ place.width → IsEnd place.input (function_of x.gate) → Fits (map cell_of cells) place n
fits_made cells place n x l is width end = (cell_of x, cell_read cells n x l is, width, end)

pub fits_past : (cells : List declared.Cell) (place : Place) (n : ℕ) → length cells ≤ n → Fits (map cell_of cells) place n → ⊥
fits_past cells place n l (c, at, width, end) =
    let low : n < length (map cell_of cells) = slice_get_within (map cell_of cells) n c at in
    omega (arith, l, low, length-map cells cell_of)

-- what a list of places is read as past its end
abbrev pub no_place : Place
no_place = record { input = false; width = 0 }

pub fits_at : (cells : List Cell) (ps : List Place) (i n : ℕ) → i < length ps → Fits cells (get_or ps i no_place) n → FitsAt cells (slice_get ps i) n
fits_at cells ps i n l fit = subst (λ o. FitsAt cells o n) (sym (slice_get-get_or ps i no_place l)) fit

pub fits_there : (cells : List Cell) (ps : List Place) (i n : ℕ) → i < length ps → FitsAt cells (slice_get ps i) n → Fits cells (get_or ps i no_place) n
fits_there cells ps i n l fit = subst (λ o. FitsAt cells o n) (slice_get-get_or ps i no_place l) fit

-- the inputs among the places from one on
inputs_more : (ps : List Place) (nets : List NetId) (i : ℕ) → i < length ps → i < length nets
    → inputs_among (drop i ps) (map number_of (drop i nets))
    ≡ (if (get_or ps i no_place).input then (get_or nets i no_net).0 ∷ [] else []) ++ inputs_among (drop (i + 1) ps) (map number_of (drop (i + 1) nets))
inputs_more ps nets i low high =
    ap (λ xs. inputs_among xs (map number_of (drop i nets))) (drop_more ps i no_place low)
    ∙ ap (λ xs. inputs_among (get_or ps i no_place ∷ drop (i + 1) ps) (map number_of xs)) (drop_more nets i no_net high)

pub input_taken : (ps : List Place) (nets ins : List NetId) (i : ℕ) (all : List ℕ) → i < length ps → i < length nets
    → map number_of ins ++ inputs_among (drop i ps) (map number_of (drop i nets)) ≡ all → (get_or ps i no_place).input ≡ true
    → map number_of (ins ++ get_or nets i no_net ∷ []) ++ inputs_among (drop (i + 1) ps) (map number_of (drop (i + 1) nets)) ≡ all
input_taken ps nets ins i all low high so_far is =
    let rest : List ℕ = inputs_among (drop (i + 1) ps) (map number_of (drop (i + 1) nets)) in
    let n : ℕ = (get_or nets i no_net).0 in
    let more = inputs_more ps nets i low high ∙ ap (λ (b : Bool). (if b then n ∷ [] else []) ++ rest) is in
    ap (λ xs. xs ++ rest) (map-append number_of ins (get_or nets i no_net ∷ [])) ∙ append_assoc (map number_of ins) (n ∷ []) rest
    ∙ ap (λ xs. map number_of ins ++ xs) (sym more) ∙ so_far

pub output_passed : (ps : List Place) (nets ins : List NetId) (i : ℕ) (all : List ℕ) → i < length ps → i < length nets
    → map number_of ins ++ inputs_among (drop i ps) (map number_of (drop i nets)) ≡ all → (get_or ps i no_place).input ≡ false
    → map number_of ins ++ inputs_among (drop (i + 1) ps) (map number_of (drop (i + 1) nets)) ≡ all
output_passed ps nets ins i all low high so_far is =
    let rest : List ℕ = inputs_among (drop (i + 1) ps) (map number_of (drop (i + 1) nets)) in
    let n : ℕ = (get_or nets i no_net).0 in
    let more = inputs_more ps nets i low high ∙ ap (λ (b : Bool). (if b then n ∷ [] else []) ++ rest) is in
    ap (λ xs. map number_of ins ++ xs) (sym more) ∙ so_far

-- a mark after one is set
mark_here : (taken : List Bool) (p : ℕ) → p < length taken → slice_get (slice_set taken p true) p ≡ Some true
mark_here [] p l = absurd (omega (arith, l))
mark_here (x ∷ xs) zero l = refl
mark_here (x ∷ xs) (suc p) l = mark_here xs p (omega (arith, l))

mark_there : (taken : List Bool) (p n : ℕ) → slice_get taken n ≡ Some true → slice_get (slice_set taken p true) n ≡ Some true
mark_there [] p n is = is
mark_there (x ∷ xs) zero zero is = refl
mark_there (x ∷ xs) zero (suc n) is = is
mark_there (x ∷ xs) (suc p) zero is = is
mark_there (x ∷ xs) (suc p) (suc n) is = mark_there xs p n is

mark_was : (taken : List Bool) (p n : ℕ) → slice_get (slice_set taken p true) n ≡ Some true → (p ≡ n) ⊎ (slice_get taken n ≡ Some true)
mark_was [] p n is = inr is
mark_was (x ∷ xs) zero zero is = inl refl
mark_was (x ∷ xs) zero (suc n) is = inr is
mark_was (x ∷ xs) (suc p) zero is = inr is
mark_was (x ∷ xs) (suc p) (suc n) is = one_on (mark_was xs p n is)
  where
    one_on : (p ≡ n) ⊎ (slice_get xs n ≡ Some true) → (suc p ≡ suc n) ⊎ (slice_get xs n ≡ Some true)
    one_on (inl e) = inl (ap suc e)
    one_on (inr was) = inr was

taken_more : (taken : List Bool) (nets : List ℕ) (p : ℕ) → p < length taken → AreTaken taken nets → AreTaken (slice_set taken p true) (nets ++ p ∷ [])
taken_more taken nets p l so_far n = (λ is. there (mark_was taken p n is), λ among. here (Contains-append_cases nets (p ∷ []) n among))
  where
    there : (p ≡ n) ⊎ (slice_get taken n ≡ Some true) → Contains (nets ++ p ∷ []) n
    there (inl e) =
        let P : ℕ → Type 0 = λ j. Contains (nets ++ p ∷ []) j in
        subst P e (Contains-append_right nets (p ∷ []) p (first p []))
    there (inr was) = Contains-append_left nets (p ∷ []) n ((so_far n).0 was)

    this : (p ≡ n) ⊎ Contains [] n → slice_get (slice_set taken p true) n ≡ Some true
    this (inl e) =
        let P : ℕ → Type 0 = λ j. slice_get (slice_set taken p true) j ≡ Some true in
        subst P e (mark_here taken p l)
    this (inr none) = absurd (not_in_nil n none)

    here : Contains nets n ⊎ Contains (p ∷ []) n → slice_get (slice_set taken p true) n ≡ Some true
    here (inl among) = mark_there taken p n ((so_far n).1 among)
    here (inr one) = this (head_or_later n p [] one)

-- the nets so far and one more, behind others
abbrev pub SoFar : List ℕ → List NetId → ℕ → List ℕ
SoFar before nets i = before ++ take i (map number_of nets)

so_far_more : (before : List ℕ) (nets : List NetId) (i : ℕ) → i < length nets
    → SoFar before nets (i + 1) ≡ SoFar before nets i ++ (get_or nets i no_net).0 ∷ []
so_far_more before nets i l =
    let n : ℕ = (get_or nets i no_net).0 in
    let ns : List ℕ = map number_of nets in
    ap (λ (k : ℕ). before ++ take k ns) (add-one i)
    ∙ ap (λ xs. before ++ xs) (take_one_more ns i n (get_mapped number_of nets i no_net l))
    ∙ sym (append_assoc before (take i ns) (n ∷ []))

-- one more net is taken, which was not
pub one_taken : (before : List ℕ) (taken : List Bool) (nets : List NetId) (i : ℕ) → i < length nets → (get_or nets i no_net).0 < length taken
    → get_or taken (get_or nets i no_net).0 false ≡ false
    → KeptBefore (λ k n. Contains (SoFar before nets k) n → ⊥) (map number_of nets) i × AreTaken taken (SoFar before nets i)
    → KeptBefore (λ k n. Contains (SoFar before nets k) n → ⊥) (map number_of nets) (i + 1)
    × AreTaken (slice_set taken (get_or nets i no_net).0 true) (SoFar before nets (i + 1))
one_taken before taken nets i l within free (kept, marks) =
    let n : ℕ = (get_or nets i no_net).0 in
    let Rule : ℕ → ℕ → Type 0 = λ k m. Contains (SoFar before nets k) m → ⊥ in
    let new : Contains (SoFar before nets i) n → ⊥ =
    λ among. let no : false ≡ true = sym free ∙ get_or_from_slice_get taken n true false ((marks n).1 among) in cc in
    let P : List ℕ → Type 0 = λ xs. AreTaken (slice_set taken n true) xs in
    (mapped_more Rule number_of nets i no_net l kept new, subst P (sym (so_far_more before nets i l)) (taken_more taken (SoFar before nets i) n within marks))

-- a net that is taken is none that is new
pub taken_before : (before : List ℕ) (taken : List Bool) (nets : List NetId) (i : ℕ) → i < length nets → (get_or nets i no_net).0 < length taken
    → get_or taken (get_or nets i no_net).0 false ≡ true → AreTaken taken (SoFar before nets i) → AreNew before (map number_of nets) → ⊥
taken_before before taken nets i l within is marks all =
    let n : ℕ = (get_or nets i no_net).0 in
    all i n (get_mapped number_of nets i no_net l) ((marks n).0 (slice_get-get_or taken n false within ∙ ap Some is))

-- all nets are taken
pub all_taken : (before : List ℕ) (taken : List Bool) (nets : List NetId) (i : ℕ) → length nets ≤ i
    → KeptBefore (λ k n. Contains (SoFar before nets k) n → ⊥) (map number_of nets) i × AreTaken taken (SoFar before nets i)
    → AreNew before (map number_of nets) × AreTaken taken (before ++ map number_of nets)
all_taken before taken nets i l (kept, marks) =
    let Rule : ℕ → ℕ → Type 0 = λ k m. Contains (SoFar before nets k) m → ⊥ in
    let P : List ℕ → Type 0 = λ xs. AreTaken taken (before ++ xs) in
    (mapped_all Rule number_of nets i l kept, subst P (take_all i (map number_of nets) (omega (arith, l, length-map nets number_of))) marks)

-- an input cell that isn't marked stands in none of the nets that are
pub loose_found : (cells : List declared.Cell) (taken : List Bool) (nets : List ℕ) (n : ℕ) (d : declared.Cell) → n < length cells → length taken ≡ length cells
    → function_of (get_or cells n d).gate ≡ Input → get_or taken n false ≡ false → AreTaken taken nets → IsLoose (map cell_of cells) nets n
loose_found cells taken nets n d l count is free marks = (
  cell_of (get_or cells n d),
  get_mapped cell_of cells n d l,
  is,
  λ among. let no : false ≡ true = sym free ∙ get_or_from_slice_get taken n true false ((marks n).1 among) in cc,
)

-- where all input cells are marked, none is loose
pub none_loose : (cells : List Cell) (taken : List Bool) (nets : List ℕ) → Kept (λ n c. c.gate ≡ Input → slice_get taken n ≡ Some true) cells
    → AreTaken taken nets → (n : ℕ) → IsLoose cells nets n → ⊥
none_loose cells taken nets all marks n (c, at, is, loose) = loose ((marks n).0 (all n c at is))
