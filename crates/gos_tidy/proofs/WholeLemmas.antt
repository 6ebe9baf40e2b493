-- Each cell for itself is a quotient.
use Rattle.std.specs.Prelude.{◌≡◌, ◌⊎◌, ℕ, ◌+◌, ◌<◌, List, [], ◌∷◌, ◌++◌, length, map, Some, slice_get, get_or, Contains}
use Rattle.std.proofs.Common.{arith, refl, sym, ap, subst, inl, inr, ◌∙◌}
use Rattle.std.proofs.lemmas.Bool.{cases_order}
use Rattle.std.proofs.lemmas.Option.{slice_get-get_or, slice_get_within}
use Rattle.gos_netlist.specs.declared.nets.Cell as declared
use Rattle.gos_netlist.specs.Seen.{cell_of}
use Rattle.std.proofs.lemmas.List.{length-map}
use Rattle.gos_netlist.specs.Nets.{Function, Input, Const, Not, And, Or, Xor, Mux, Add, Sub, Eq, Less, Gate, Reg, Cell, pins}
use Rattle.gos_netlist.specs.Settling.{at}
use Rattle.gos_netcheck.specs.CellRules.{NetsExist}
use Rattle.gos_tidy.specs.Mapped.{renamed, IsKept}
use Rattle.gos_tidy.specs.Reduced.{Stays, IsQuotient}
use Rattle.gos_tidy.specs.inner.Roots.{AreAll}
use Rattle.gos_tidy.proofs.MarkLemmas.{longer, back_cases, front_same, each_below}

-- one net more
pub all_more : (n : ℕ) (nets : List ℕ) → AreAll n nets → AreAll (n + 1) (nets ++ (n ∷ []))
all_more n nets a = record {
  long = longer nets n ∙ ap (λ (x : ℕ). x + 1) a.long;
  each = λ i m is. by_case i m is (back_cases nets n i m is);
}
  where
    by_order : (i m : ℕ) → slice_get (nets ++ (n ∷ [])) i ≡ Some m → m ≡ n → (i ≡ length nets) ⊎ ((i < length nets) ⊎ (length nets < i)) → m ≡ i
    by_order i m is here (inl last) = let long = a.long in omega (arith, here, last, long)
    by_order i m is here (inr (inl earlier)) = a.each i m (front_same nets n i m earlier is)
    by_order i m is here (inr (inr later)) =
        let inside = slice_get_within (nets ++ (n ∷ [])) i m is in
        let one = longer nets n in
        absurd (omega (arith, inside, one, later))

    by_case : (i m : ℕ) → slice_get (nets ++ (n ∷ [])) i ≡ Some m → (slice_get nets i ≡ Some m) ⊎ (m ≡ n) → m ≡ i
    by_case i m is (inl before) = a.each i m before
    by_case i m is (inr here) = by_order i m is here (cases_order i (length nets))

-- a net of all nets is at its place
pub all_at : (count : ℕ) (nets : List ℕ) → AreAll count nets → (n : ℕ) → n < count → at nets n ≡ n
all_at count nets a n l =
    let long = a.long in
    a.each n (get_or nets n 0) (slice_get-get_or nets n 0 (omega (arith, l, long)))

-- a gate whose nets stay
pub renamed_same : (f : ℕ → ℕ) (g : Function) → ((a : ℕ) → Contains (pins g) a → f a ≡ a) → renamed f g ≡ g
renamed_same f Input b = refl
renamed_same f (Const k) b = refl
renamed_same f (Not x) b = ap Not (b x (0, omega arith, refl))
renamed_same f (And x y) b = λ j. And (b x (0, omega arith, refl) j) (b y (1, omega arith, refl) j)
renamed_same f (Or x y) b = λ j. Or (b x (0, omega arith, refl) j) (b y (1, omega arith, refl) j)
renamed_same f (Xor x y) b = λ j. Xor (b x (0, omega arith, refl) j) (b y (1, omega arith, refl) j)
renamed_same f (Mux x y z) b = λ j. Mux (b x (0, omega arith, refl) j) (b y (1, omega arith, refl) j) (b z (2, omega arith, refl) j)
renamed_same f (Add x y) b = λ j. Add (b x (0, omega arith, refl) j) (b y (1, omega arith, refl) j)
renamed_same f (Sub x y) b = λ j. Sub (b x (0, omega arith, refl) j) (b y (1, omega arith, refl) j)
renamed_same f (Eq x y) b = λ j. Eq (b x (0, omega arith, refl) j) (b y (1, omega arith, refl) j)
renamed_same f (Less x y) b = λ j. Less (b x (0, omega arith, refl) j) (b y (1, omega arith, refl) j)
renamed_same f (Gate x y) b = λ j. Gate (b x (0, omega arith, refl) j) (b y (1, omega arith, refl) j)
renamed_same f (Reg x) b = ap Reg (b x (0, omega arith, refl))

-- the pins of a cell are nets
pub pin_low : (cells : List Cell) → NetsExist cells → (n : ℕ) (c : Cell) → slice_get cells n ≡ Some c → (a : ℕ) → Contains (pins c.gate) a → a < length cells
pin_low cells nets n c is a (k, inside, named) =
    subst (λ (x : ℕ). x < length cells) named (each_below (length cells) (pins c.gate) (nets n c is) k a inside)

-- each cell stays
pub kept_whole : (cells : List Cell) (targets : List ℕ) → AreAll (length cells) targets → NetsExist cells
    → (n : ℕ) (c : Cell) → slice_get cells n ≡ Some c → IsKept cells (at targets) n c
kept_whole cells targets a nets n c is =
    let here : at targets n ≡ n = all_at (length cells) targets a n (slice_get_within cells n c is) in
    let gate : renamed (at targets) c.gate ≡ c.gate = renamed_same (at targets) c.gate (λ x named. all_at (length cells) targets a x (pin_low cells nets n c is x named)) in
    ap (slice_get cells) here ∙ is ∙ (λ j. Some (record { width = c.width; gate = sym gate j }))

pub whole_right : (cells : List Cell) (targets roots : List ℕ) → NetsExist cells → AreAll (length cells) targets → AreAll (length cells) roots
    → IsQuotient cells cells (at targets) roots
whole_right cells targets roots nets a b = record {
  mapped = λ n c is. inl (kept_whole cells targets a nets n c is);
  widths = λ n c is. (c, ap (slice_get cells) (place n c is) ∙ is, refl);
  inputs = λ m n c e is there i j same. sym (place m c is) ∙ same ∙ place n e there;
  each = b.long;
  rises = λ i j m n less is there. let one = b.each i m is in let two = b.each j n there in omega (arith, less, one, two);
  stays = λ i m is. stay i m is (b.each i m is);
  first = λ i m n c is there goes stays long. let one = b.each i m is in let two = place n c there in omega (arith, one, two, goes);
}
  where
    place : (n : ℕ) (c : Cell) → slice_get cells n ≡ Some c → at targets n ≡ n
    place n c is = all_at (length cells) targets a n (slice_get_within cells n c is)

    stay : (i m : ℕ) → slice_get roots i ≡ Some m → m ≡ i → (at targets m ≡ i) × (c : Cell) × (slice_get cells m ≡ Some c) × Stays cells (at targets) m c
    stay i m is same =
        let long = b.long in
        let inside = slice_get_within roots i m is in
        let there = slice_get-get_or cells m (record { width = 0; gate = Input }) (omega (arith, inside, long, same)) in
        (place m _ there ∙ same, _, there, inl (kept_whole cells targets a nets m _ there))

-- the same, as the program has it
pub whole_quotient : (cells : List Cell) (seen lent own : List declared.Cell) (targets roots : List ℕ) → NetsExist cells → map cell_of seen ≡ cells → lent ≡ seen → own ≡ lent
    → AreAll (length lent) targets → AreAll (length lent) roots → IsQuotient cells (map cell_of own) (at targets) roots
whole_quotient cells seen lent own targets roots nets view lends copies a b =
    let count : length lent ≡ length cells = ap length lends ∙ sym (length-map seen cell_of) ∙ ap length view in
    let same : cells ≡ map cell_of own = sym (ap (map cell_of) (copies ∙ lends) ∙ view) in
    subst (λ (x : List Cell). IsQuotient cells x (at targets) roots) same
    (whole_right cells targets roots nets (subst (λ (x : ℕ). AreAll x targets) count a) (subst (λ (x : ℕ). AreAll x roots) count b))
