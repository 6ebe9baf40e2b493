-- What is known of each node, with each edge that is followed.
use Rattle.std.specs.Prelude.{◌≡◌, ◌≢◌, ◌⊎◌, ◌<◌, ◌≤◌, ◌-◌, ℕ, suc, Bool, List, [], ◌∷◌, ◌++◌, length, set, max, nat_eq, if◌then◌else◌}
use Rattle.std.proofs.Common.{sym, ◌∙◌, ap, subst, arith, inl, inr, get_or-set_other, get_or-set_same}
use Rattle.std.proofs.lemmas.Bool.{cases_eq}
use Rattle.std.proofs.lemmas.List.{length-set}
use Rattle.gos_order.specs.declared.links.Way.TheVariants.{Out}
use Rattle.gos_order.specs.Rings.{Graph, HasEdge}
use Rattle.gos_order.specs.inner.NodeLists.{at, IsIn}
use Rattle.gos_order.specs.inner.Chains.{near_at, far_at}
use Rattle.gos_order.specs.inner.Sortings.{not_among, left_to, AreSorted}
use Rattle.gos_order.proofs.EdgeLemmas.{step_at}
use Rattle.gos_order.proofs.TotalLemmas.{total_same, total_less, total_holds}
use Rattle.gos_order.proofs.AmongLemmas.{test_same, test_other, in_longer, in_pushed, only_pushed, once_pushed}

-- the same edges are left, told otherwise, and the depths' bound may be higher
pub sorted_same : (graph : Graph) (depths waits items : List ℕ) (left next : ℕ → ℕ) (most more : ℕ)
    → AreSorted graph depths waits items left most → ((place : ℕ) → place < length graph.edges → next place ≡ left place) → most ≤ more
    → AreSorted graph depths waits items next more
sorted_same graph depths waits items left next most more is same higher = record {
  depths_all = is.depths_all;
  waits_all = is.waits_all;
  counted = λ node low.
      is.counted node low
      ∙ sym (total_same (λ place. if nat_eq (far_at Out graph.edges place) node then next place else 0)
      (λ place. if nat_eq (far_at Out graph.edges place) node then left place else 0) (length graph.edges)
      (λ place h i. if nat_eq (far_at Out graph.edges place) node then same place h i else 0));
  ready = is.ready;
  idle = is.idle;
  once = is.once;
  rise = λ place within none. is.rise place within (sym (same place within) ∙ none);
  from = λ place within none. is.from place within (sym (same place within) ∙ none);
  least = is.least;
  low = λ node. omega (arith, is.low node, higher);
}

-- an edge from a node of the list is left
module _ (graph : Graph) (depths waits items : List ℕ) (left : ℕ → ℕ) (most : ℕ) (is : AreSorted graph depths waits items left most)
    (edge : ℕ) (within : edge < length graph.edges) (one : left edge ≡ 1) (node next : ℕ) (near : near_at Out graph.edges edge ≡ node)
    (far : far_at Out graph.edges edge ≡ next) (low : next < graph.nodes) (among : IsIn items node) where
  share : (left : ℕ → ℕ) (x : ℕ) → far_at Out graph.edges edge ≡ x → (if nat_eq (far_at Out graph.edges edge) x then left edge else 0) ≡ left edge
  share left x e = ap (λ (b : Bool). if b then left edge else 0) (test_same (far_at Out graph.edges edge) x e)

  no_share : (left : ℕ → ℕ) (x : ℕ) → far_at Out graph.edges edge ≢ x → (if nat_eq (far_at Out graph.edges edge) x then left edge else 0) ≡ 0
  no_share left x ne = ap (λ (b : Bool). if b then left edge else 0) (test_other (far_at Out graph.edges edge) x ne)

  -- where it leads a node waits
  pub waits_for : 0 < at waits next
  waits_for =
      let holds = total_holds (λ place. if nat_eq (far_at Out graph.edges place) next then left place else 0) (length graph.edges) edge within in
      let here : (if nat_eq (far_at Out graph.edges edge) next then left edge else 0) ≡ left edge = share left next far in
      omega (arith, holds, here, one, is.counted next low)

  -- and isn't in the list
  pub is_absent : IsIn items next → ⊥
  is_absent here = omega (arith, waits_for, is.idle next here)

  apart : (x : ℕ) → IsIn items x → x ≢ next
  apart x here e = is_absent (subst (λ (y : ℕ). IsIn items y) e here)

  -- when it was followed
  module _ (new : List ℕ) (more : at waits next ≡ 1 → new ≡ items ++ next ∷ []) (same : at waits next ≢ 1 → new ≡ items) (depth : ℕ)
      (deep : depth ≡ suc (at depths node)) (fits : depth ≤ most) (after : ℕ → ℕ) (none : after edge ≡ 0)
      (others : (place : ℕ) → place < length graph.edges → place ≢ edge → after place ≡ left place) where
    abbrev deeper : List ℕ
    deeper = set depths next (max (at depths next) depth)

    abbrev fewer : List ℕ
    fewer = set waits next (at waits next - 1)

    pub grown : (x : ℕ) → IsIn items x → IsIn new x
    grown x (k, h, e) = elim (cases_eq (at waits next) 1) [
      | inl last ↦ subst (λ (xs : List ℕ). IsIn xs x) (sym (more last))
          (in_longer items next x (k, h, e))
      | inr ne ↦ subst (λ (xs : List ℕ). IsIn xs x) (sym (same ne)) (k, h, e)
    ]

    only : (x : ℕ) → IsIn new x → IsIn items x ⊎ ((x ≡ next) × (at waits next ≡ 1))
    only x here = elim (cases_eq (at waits next) 1) [
      | inl last ↦ elim (only_pushed items next x (subst (λ (xs : List ℕ). IsIn xs x) (more last) here)) [
        | inl old ↦ inl old
        | inr e ↦ inr (e, last)
      ]
      | inr ne ↦ inl (subst (λ (xs : List ℕ). IsIn xs x) (same ne) here)
    ]

    once : (place : ℕ) → place < length new → not_among new place (at new place) ≡ 1
    once = elim (cases_eq (at waits next) 1) [
      | inl last ↦ subst (λ (xs : List ℕ). (place : ℕ) → place < length xs → not_among xs place (at xs place) ≡ 1) (sym (more last))
          (once_pushed items next is_absent is.once)
      | inr ne ↦ subst (λ (xs : List ℕ). (place : ℕ) → place < length xs → not_among xs place (at xs place) ≡ 1) (sym (same ne)) is.once
    ]

    old_depth : (x : ℕ) → x ≢ next → at deeper x ≡ at depths x
    old_depth x ne = get_or-set_other depths next x (max (at depths next) depth) 0 ne

    new_depth : at deeper next ≡ max (at depths next) depth
    new_depth = get_or-set_same depths next (max (at depths next) depth) 0 (omega (arith, low, is.depths_all))

    no_lower : (x : ℕ) → at depths x ≤ at deeper x
    no_lower x = elim (cases_eq x next) [
      | inl e ↦ subst (λ (y : ℕ). at depths y ≤ at deeper y) (sym e) (omega (arith, new_depth))
      | inr ne ↦ omega (arith, old_depth x ne)
    ]

    old_waits : (x : ℕ) → x ≢ next → at fewer x ≡ at waits x
    old_waits x ne = get_or-set_other waits next x (at waits next - 1) 0 ne

    new_waits : at fewer next ≡ at waits next - 1
    new_waits = get_or-set_same waits next (at waits next - 1) 0 (omega (arith, low, is.waits_all))

    kept : (x place : ℕ) → place < length graph.edges → place ≢ edge
        → (if nat_eq (far_at Out graph.edges place) x then left place else 0) ≡ (if nat_eq (far_at Out graph.edges place) x then after place else 0)
    kept x place h ne = λ i. if nat_eq (far_at Out graph.edges place) x then sym (others place h ne) i else 0

    counted_next : at fewer next ≡ left_to graph.edges after next
    counted_next =
        let here : (if nat_eq (far_at Out graph.edges edge) next then left edge else 0) ≡ 1 = share left next far ∙ one in
        let gone : (if nat_eq (far_at Out graph.edges edge) next then after edge else 0) ≡ 0 = share after next far ∙ none in
        let less = total_less (λ place. if nat_eq (far_at Out graph.edges place) next then left place else 0)
        (λ place. if nat_eq (far_at Out graph.edges place) next then after place else 0) (length graph.edges) edge within
        (omega (arith, here, gone)) (kept next) in
        omega (arith, less, new_waits, is.counted next low)

    counted_other : (x : ℕ) → x < graph.nodes → x ≢ next → at fewer x ≡ left_to graph.edges after x
    counted_other x h ne =
        let other : far_at Out graph.edges edge ≢ x = λ e. ne (sym e ∙ far) in
        old_waits x ne ∙ is.counted x h
        ∙ total_same (λ place. if nat_eq (far_at Out graph.edges place) x then left place else 0)
        (λ place. if nat_eq (far_at Out graph.edges place) x then after place else 0) (length graph.edges)
        (λ place inside. elim (cases_eq place edge) [
          | inl e ↦ subst (λ (k : ℕ). (if nat_eq (far_at Out graph.edges k) x then left k else 0) ≡ (if nat_eq (far_at Out graph.edges k) x then after k else 0))
              (sym e) (no_share left x other ∙ sym (no_share after x other))
          | inr differ ↦ kept x place inside differ
        ])

    counted : (x : ℕ) → x < graph.nodes → at fewer x ≡ left_to graph.edges after x
    counted x h = elim (cases_eq x next) [
      | inl e ↦ subst (λ (y : ℕ). at fewer y ≡ left_to graph.edges after y) (sym e) counted_next
      | inr ne ↦ counted_other x h ne
    ]

    ready : (x : ℕ) → x < graph.nodes → at fewer x ≡ 0 → IsIn new x
    ready x h zero_left = elim (cases_eq x next) [
      | inl e ↦
          let gone : at fewer next ≡ 0 = subst (λ (y : ℕ). at fewer y ≡ 0) e zero_left in
          let last : at waits next ≡ 1 = omega (arith, new_waits, gone, waits_for) in
          subst (λ (y : ℕ). IsIn new y) (sym e) (subst (λ (xs : List ℕ). IsIn xs next) (sym (more last)) (in_pushed items next))
      | inr ne ↦ grown x (is.ready x h (sym (old_waits x ne) ∙ zero_left))
    ]

    idle : (x : ℕ) → IsIn new x → at fewer x ≡ 0
    idle x here = elim (only x here) [
      | inl old ↦ old_waits x (apart x old) ∙ is.idle x old
      | inr (e, last) ↦ subst (λ (y : ℕ). at fewer y ≡ 0) (sym e) (omega (arith, new_waits, last))
    ]

    rise_here : at deeper node < at deeper next
    rise_here = omega (arith, new_depth, old_depth node (apart node among), deep)

    rise : (place : ℕ) → place < length graph.edges → after place ≡ 0 → at deeper (near_at Out graph.edges place) < at deeper (far_at Out graph.edges place)
    rise place h gone = elim (cases_eq place edge) [
      | inl e ↦ subst (λ (k : ℕ). at deeper (near_at Out graph.edges k) < at deeper (far_at Out graph.edges k)) (sym e)
          (subst (λ (x : ℕ). at deeper x < at deeper (far_at Out graph.edges edge)) (sym near)
          (subst (λ (x : ℕ). at deeper node < at deeper x) (sym far) rise_here))
      | inr ne ↦
          let before : left place ≡ 0 = sym (others place h ne) ∙ gone in
          omega (
            arith,
            is.rise place h before,
            old_depth (near_at Out graph.edges place) (apart (near_at Out graph.edges place) (is.from place h before)),
            no_lower (far_at Out graph.edges place),
          )
    ]

    from : (place : ℕ) → place < length graph.edges → after place ≡ 0 → IsIn new (near_at Out graph.edges place)
    from place h gone = elim (cases_eq place edge) [
      | inl e ↦ subst (λ (k : ℕ). IsIn new (near_at Out graph.edges k)) (sym e) (subst (λ (x : ℕ). IsIn new x) (sym near) (grown node among))
      | inr ne ↦ grown (near_at Out graph.edges place) (is.from place h (sym (others place h ne) ∙ gone))
    ]

    abbrev IsLeast : ℕ → ℕ → Type 0
    IsLeast b d = (d ≡ 0) ⊎ ((a : ℕ) × HasEdge graph.edges a b × IsIn new a × (d ≡ suc (at deeper a)))

    least_old : (b : ℕ) → IsLeast b (at depths b)
    least_old b = elim (is.least b) [
      | inl z ↦ inl z
      | inr (a, step, here, e) ↦ inr (a, step, grown a here, e ∙ ap suc (sym (old_depth a (apart a here))))
    ]

    has_edge : HasEdge graph.edges node next
    has_edge = subst (λ (x : ℕ). HasEdge graph.edges node x) far
        (subst (λ (x : ℕ). HasEdge graph.edges x (far_at Out graph.edges edge)) near (step_at Out graph.edges edge within))

    cases_max : (a b : ℕ) → (max a b ≡ a) ⊎ (max a b ≡ b)
    cases_max a b = grind arith

    least_next : IsLeast next (at deeper next)
    least_next = elim (cases_max (at depths next) depth) [
      | inl e ↦ subst (λ (d : ℕ). IsLeast next d) (sym (new_depth ∙ e)) (least_old next)
      | inr e ↦ inr (node, has_edge, grown node among, new_depth ∙ e ∙ deep ∙ ap suc (sym (old_depth node (apart node among))))
    ]

    least : (b : ℕ) → IsLeast b (at deeper b)
    least b = elim (cases_eq b next) [
      | inl e ↦ subst (λ (x : ℕ). IsLeast x (at deeper x)) (sym e) least_next
      | inr ne ↦ subst (λ (d : ℕ). IsLeast b d) (sym (old_depth b ne)) (least_old b)
    ]

    bounded : (x : ℕ) → at deeper x ≤ most
    bounded x = elim (cases_eq x next) [
      | inl e ↦ subst (λ (y : ℕ). at deeper y ≤ most) (sym e) (omega (arith, new_depth, is.low next, fits))
      | inr ne ↦ omega (arith, old_depth x ne, is.low x)
    ]

    pub same_depth : at deeper node ≡ at depths node
    same_depth = old_depth node (apart node among)

    pub sorted_more : AreSorted graph deeper fewer new after most
    sorted_more = record {
      depths_all = length-set depths next (max (at depths next) depth) ∙ is.depths_all;
      waits_all = length-set waits next (at waits next - 1) ∙ is.waits_all;
      counted = counted;
      ready = ready;
      idle = idle;
      once = once;
      rise = rise;
      from = from;
      least = least;
      low = bounded;
    }
