-- The ties of branches: a branch's own are among them, and those of other branches speak of these alone.
use Rattle.std.specs.Prelude.{◌+◌, ◌<◌, ◌≤◌, ◌⊎◌, length, Contains}
use Rattle.std.proofs.Common.{◌≡◌, ℕ, zero, suc, List, [], ◌∷◌, ◌++◌, inl, inr, refl, subst, arith}
use Rattle.std.proofs.lemmas.List.{length-append}
use Rattle.std.proofs.lemmas.List.Elements.{Contains-append_left, Contains-append_right, Contains-append_cases}
use Rattle.gos_check.specs.Nodes.{Numbered}
use Rattle.gos_check.specs.Linearity.{times, used, made}
use Rattle.gos_check.proofs.TimesLemmas.{times-append, some_times}
use Rattle.gos_ties.specs.declared.points.Place.{Place}
use Rattle.gos_ties.specs.declared.points.Place.TheVariants as places
use Rattle.gos_ties.specs.declared.points.Point.{Point}
use Rattle.gos_ties.specs.declared.points.Tie.{Tie}
use Rattle.gos_ties.specs.Ties.{point, tie}
use Rattle.gos_joining.proofs.unions.UnionLemmas.{of_image}
use Rattle.gos_compile.specs.Wiring.{Types, row, parts_of, nodes, ties_of}
use Rattle.gos_terms.specs.stages.Leading.{at_place, leading}
use Rattle.gos_terms.specs.stages.Ranges.{IsWithin}
use Rattle.gos_terms.proofs.stages.RangeLemmas.{ties_stay_within}
use Rattle.gos_terms.proofs.stages.FollowLemmas.{result_leads}
use Rattle.gos_terms.specs.run_children.Forks.{Branch, branch_parts, branch_nodes, branch_made, branch_uses, branch_ties}

-- a branch's ties, with other names for its numbers
renamed : (types : Types) (q : ℕ) (m : Numbered) (u : Tie) (x i y j z c : ℕ) → x ≡ i → y ≡ j → z ≡ c
    → Contains (ties_of types x y m (point (places.Part q) z ∷ [])) u → Contains (ties_of types i j m (point (places.Part q) c ∷ [])) u
renamed types q m u x i y j z c at_i at_j at_c has =
    subst (λ (n : ℕ). Contains (ties_of types i j m (point (places.Part q) n ∷ [])) u) at_c
    (subst (λ (n : ℕ). Contains (ties_of types i n m (point (places.Part q) z ∷ [])) u) at_j
    (subst (λ (n : ℕ). Contains (ties_of types n y m (point (places.Part q) z ∷ [])) u) at_i has))

rest_renamed : (types : Types) (q : ℕ) (bs : List Branch) (u : Tie) (p n x i y j z c : ℕ) → x ≡ i → y ≡ j → z ≡ c
    → Contains (branch_ties types q (suc z) (x + p) (y + n) bs) u → Contains (branch_ties types q (suc c) (i + p) (j + n) bs) u
rest_renamed types q bs u p n x i y j z c at_i at_j at_c has =
    subst (λ (k : ℕ). Contains (branch_ties types q (suc k) (i + p) (j + n) bs) u) at_c
    (subst (λ (k : ℕ). Contains (branch_ties types q (suc z) (i + p) (k + n) bs) u) at_j
    (subst (λ (k : ℕ). Contains (branch_ties types q (suc z) (k + p) (y + n) bs) u) at_i has))

-- Those of one branch are among all.
pub in_branches : (types : Types) (q : ℕ) (before after : List Branch) (b : Branch) (c i j x y z : ℕ) (u : Tie)
    → x ≡ i + length (branch_parts types before) → y ≡ j + branch_nodes before → z ≡ c + length before
    → Contains (ties_of types x y b.term (point (places.Part q) z ∷ [])) u → Contains (branch_ties types q c i j (before ++ b ∷ after)) u
in_branches types q [] after b c i j x y z u at_x at_y at_z has =
    Contains-append_left (ties_of types i j b.term (point (places.Part q) c ∷ []))
    (branch_ties types q (suc c) (i + length (parts_of types b.term)) (j + nodes b.term) after) u
    (renamed types q b.term u x i y j z c (omega (arith, at_x)) (omega (arith, at_y)) (omega (arith, at_z)) has)
in_branches types q (a ∷ before) after b c i j x y z u at_x at_y at_z has =
    let long = length-append (parts_of types a.term) (branch_parts types before) in
    Contains-append_right (ties_of types i j a.term (point (places.Part q) c ∷ []))
    (branch_ties types q (suc c) (i + length (parts_of types a.term)) (j + nodes a.term) (before ++ b ∷ after)) u
    (in_branches types q before after b (suc c) (i + length (parts_of types a.term)) (j + nodes a.term) x y z u
    (omega (arith, at_x, long)) (omega (arith, at_y)) (omega (arith, at_z)) has)

-- And all are of the branches before it, its own, or of those behind it.
pub of_branches : (types : Types) (q : ℕ) (before after : List Branch) (b : Branch) (c i j x y z : ℕ) (u : Tie)
    → x ≡ i + length (branch_parts types before) → y ≡ j + branch_nodes before → z ≡ c + length before
    → Contains (branch_ties types q c i j (before ++ b ∷ after)) u
    → Contains (branch_ties types q c i j before) u
    ⊎ Contains (ties_of types x y b.term (point (places.Part q) z ∷ [])) u
    ⊎ Contains (branch_ties types q (suc z) (x + length (parts_of types b.term)) (y + nodes b.term) after) u
of_branches types q [] after b c i j x y z u at_x at_y at_z has =
    let at_i : i ≡ x = omega (arith, at_x) in
    let at_j : j ≡ y = omega (arith, at_y) in
    let at_c : c ≡ z = omega (arith, at_z) in
    elim (Contains-append_cases (ties_of types i j b.term (point (places.Part q) c ∷ []))
    (branch_ties types q (suc c) (i + length (parts_of types b.term)) (j + nodes b.term) after) u has) [
      | inl own ↦ inr (inl (renamed types q b.term u i x j y c z at_i at_j at_c own))
      | inr rest ↦ inr (inr (rest_renamed types q after u (length (parts_of types b.term)) (nodes b.term) i x j y c z at_i at_j at_c rest))
    ]
of_branches types q (a ∷ before) after b c i j x y z u at_x at_y at_z has =
    let long = length-append (parts_of types a.term) (branch_parts types before) in
    elim (Contains-append_cases (ties_of types i j a.term (point (places.Part q) c ∷ []))
    (branch_ties types q (suc c) (i + length (parts_of types a.term)) (j + nodes a.term) (before ++ b ∷ after)) u has) [
      | inl one ↦
          inl (Contains-append_left (ties_of types i j a.term (point (places.Part q) c ∷ []))
          (branch_ties types q (suc c) (i + length (parts_of types a.term)) (j + nodes a.term) before) u one)
      | inr rest ↦
          elim (of_branches types q before after b (suc c) (i + length (parts_of types a.term)) (j + nodes a.term) x y z u
          (omega (arith, at_x, long)) (omega (arith, at_y)) (omega (arith, at_z)) rest) [
            | inl early ↦
                inl (Contains-append_right (ties_of types i j a.term (point (places.Part q) c ∷ []))
                (branch_ties types q (suc c) (i + length (parts_of types a.term)) (j + nodes a.term) before) u early)
            | inr later ↦ inr later
          ]
    ]

-- what a branch uses it makes, or has a supply for
abbrev pub Knows : Branch → Type 0
Knows b = (n : ℕ) → 0 < times n (used b.term) → (0 < times n (made b.term)) ⊎ Contains b.uses n

-- The handshakes of which the ties of branches speak, which part q asks from its handshake c on, where their parts have numbers from
-- i on, and their nodes from j on.
abbrev pub IsAside : Types → ℕ → ℕ → ℕ → ℕ → List Branch → Place → ℕ → Type 0
IsAside types q c i j bs (places.Part k) h = ((k ≡ q) × (c ≤ h) × (h < c + length bs)) ⊎ ((i ≤ k) × (k < i + length (branch_parts types bs)))
IsAside types q c i j bs (places.Import k) h = ⊥
IsAside types q c i j bs places.Result h = ⊥
IsAside types q c i j bs (places.Number k) h = 0 < times k (branch_made bs) + times k (branch_uses bs)
IsAside types q c i j bs (places.Node k) h = (j ≤ k) × (k < j + branch_nodes bs)

module _ (types : Types) (q : ℕ) where
  abbrev AtAside : ℕ → ℕ → ℕ → List Branch → Point → Type 0
  AtAside c i j bs p = IsAside types q c i j bs p.place p.shake

  first_number : (b : Branch) (bs : List Branch) (k : ℕ) → Knows b → 0 < times k (used b.term) + times k (made b.term)
      → 0 < times k (branch_made (b ∷ bs)) + times k (branch_uses (b ∷ bs))
  first_number b bs k knows some = by_size (times k (used b.term)) (times k (made b.term)) refl refl
    where
      all_made : times k (made b.term ++ branch_made bs) ≡ times k (made b.term) + times k (branch_made bs)
      all_made = times-append k (made b.term) (branch_made bs)

      all_uses : times k (b.uses ++ branch_uses bs) ≡ times k b.uses + times k (branch_uses bs)
      all_uses = times-append k b.uses (branch_uses bs)

      known : (0 < times k (made b.term)) ⊎ Contains b.uses k → 0 < times k (made b.term ++ branch_made bs) + times k (b.uses ++ branch_uses bs)
      known (inl h) = omega (arith, h, all_made)
      known (inr there) = let h = some_times k b.uses there in omega (arith, h, all_uses)

      by_size : (m n : ℕ) → m ≡ times k (used b.term) → n ≡ times k (made b.term) → 0 < times k (made b.term ++ branch_made bs) + times k (b.uses ++ branch_uses bs)
      by_size zero n at_m at_n = omega (arith, some, at_m, all_made)
      by_size (suc m) n at_m at_n = known (knows k (omega (arith, at_m)))

  first_aside : (c i j : ℕ) (b : Branch) (bs : List Branch) → Knows b → (p : Place) (h : ℕ) → IsWithin types i j b.term 1 p h
      → AtAside c i j (b ∷ bs) (at_place (point (places.Part q) c ∷ []) p h)
  first_aside c i j b bs knows (places.Part k) h (le, lt) =
      let long = length-append (parts_of types b.term) (branch_parts types bs) in inr (le, omega (arith, lt, long))
  first_aside c i j b bs knows (places.Import k) h inside = inside
  first_aside c i j b bs knows places.Result zero inside = inl (refl, omega arith, omega arith)
  first_aside c i j b bs knows places.Result (suc h) inside = absurd (omega (arith, inside))
  first_aside c i j b bs knows (places.Number k) h some = first_number b bs k knows some
  first_aside c i j b bs knows (places.Node k) h (le, lt) = (le, omega (arith, lt))

  later_aside : (c i j : ℕ) (b : Branch) (bs : List Branch) (p : Place) (h : ℕ)
      → IsAside types q (suc c) (i + length (parts_of types b.term)) (j + nodes b.term) bs p h → IsAside types q c i j (b ∷ bs) p h
  later_aside c i j b bs (places.Part k) h (inl (e, le, lt)) = inl (e, omega (arith, le), omega (arith, lt))
  later_aside c i j b bs (places.Part k) h (inr (le, lt)) =
      let long = length-append (parts_of types b.term) (branch_parts types bs) in inr (omega (arith, le), omega (arith, lt, long))
  later_aside c i j b bs (places.Import k) h inside = inside
  later_aside c i j b bs places.Result h inside = inside
  later_aside c i j b bs (places.Number k) h some =
      let all_made = times-append k (made b.term) (branch_made bs) in
      let all_uses = times-append k b.uses (branch_uses bs) in
      omega (arith, some, all_made, all_uses)
  later_aside c i j b bs (places.Node k) h (le, lt) = (omega (arith, le), omega (arith, lt))

  pub ties_aside : (bs : List Branch) (c i j : ℕ) → ((b : Branch) → Contains bs b → Knows b) → (u : Tie) → Contains (branch_ties types q c i j bs) u
      → IsAside types q c i j bs u.one.place u.one.shake × IsAside types q c i j bs u.other.place u.other.shake
  ties_aside [] c i j known u (k, lt, e) = absurd (omega (arith, lt))
  ties_aside (b ∷ bs) c i j known u has =
      elim (Contains-append_cases (ties_of types i j b.term (point (places.Part q) c ∷ []))
      (branch_ties types q (suc c) (i + length (parts_of types b.term)) (j + nodes b.term) bs) u has) [
        | inl own ↦
            (let led = subst (λ (us : List Tie). Contains us u) (result_leads types i j b.term (point (places.Part q) c ∷ [])) own in
            let (v, listed, same) =
            of_image (λ (t : Tie). tie (leading (point (places.Part q) c ∷ []) t.one) (leading (point (places.Part q) c ∷ []) t.other))
            (ties_of types i j b.term (row places.Result 0 1)) u led
            in
            let (one, other) = ties_stay_within types i j b.term 1 v listed in
            let knows = known b (0, omega arith, refl) in
            subst (λ (w : Tie). AtAside c i j (b ∷ bs) w.one × AtAside c i j (b ∷ bs) w.other) same
            (first_aside c i j b bs knows v.one.place v.one.shake one, first_aside c i j b bs knows v.other.place v.other.shake other))
        | inr rest ↦
            (let (one, other) =
            ties_aside bs (suc c) (i + length (parts_of types b.term)) (j + nodes b.term)
            (λ a there. known a (suc there.0, omega (arith, there.1), there.2)) u rest
            in (later_aside c i j b bs u.one.place u.one.shake one, later_aside c i j b bs u.other.place u.other.shake other))
      ]
