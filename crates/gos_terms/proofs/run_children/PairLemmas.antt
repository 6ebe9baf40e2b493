-- The sides of a pair are children of its node.
use Rattle.std.specs.Prelude.{◌≢◌, ◌+◌, ◌<◌, ◌≤◌, ◌⊎◌, length, map, take, drop, slice_get, None, Contains}
use Rattle.std.proofs.Common.{◌≡◌, ℕ, zero, suc, Bool, false, List, [], ◌∷◌, ◌++◌, Option, Some, inl, inr, refl, sym, ◌∙◌, ap, subst, arith, if◌then◌else◌}
use Rattle.std.proofs.lemmas.List.{length-append}
use Rattle.std.proofs.lemmas.List.Elements.{Contains-append_left, Contains-append_right, Contains-append_cases}
use Rattle.std.proofs.lemmas.Bool.{ne_eqb}
use Rattle.std.proofs.lemmas.Option.{none-some}
use Rattle.gos_types.specs.Types.{Type', Pair}
use Rattle.gos_types.proofs.ListLemmas.{found_in_front, found_behind}
use Rattle.gos_check.specs.declared.linear.Split.{Split}
use Rattle.gos_check.specs.Nodes.{Numbered, type_of_node}
use Rattle.gos_check.specs.Linearity.{times, used, made}
use Rattle.gos_check.proofs.TimesLemmas.{times-append, some_times}
use Rattle.gos_plan.specs.Kinds.{Contact, contacts_of}
use Rattle.gos_plan.specs.Plans.{ResultEnd, turned_if}
use Rattle.gos_plan.proofs.SideLemmas.{pairs_join}
use Rattle.gos_realises.specs.realises.Regular.{count}
use Rattle.gos_ties.specs.declared.points.Place.{Place}
use Rattle.gos_ties.specs.declared.points.Place.TheVariants as places
use Rattle.gos_ties.specs.declared.points.Point.{Point}
use Rattle.gos_ties.specs.declared.points.Tie as point_ties
use Rattle.gos_ties.specs.Ties as points
use Rattle.gos_ties.specs.Ties.{point}
use Rattle.gos_joining.specs.webs.Webs.{Dot, Of, Within, Tie}
use Rattle.gos_joining.specs.unions.Unions.{within}
use Rattle.gos_joining.proofs.unions.UnionLemmas.{of_image}
use Rattle.gos_compile.specs.Wiring.{Types, row, shares, parts_of, nodes, ties_of, shares_ties}
use Rattle.gos_compile.proofs.TallyLemmas.{row_length}
use Rattle.gos_terms.specs.wired.Wired.{Supplies, dot_of_place, dot_ties, all_supply_ties, wired_ties}
use Rattle.gos_terms.specs.wired.NodeFitting.{AreOfTypes}
use Rattle.gos_terms.specs.stages.Leading.{or_point, leading}
use Rattle.gos_terms.specs.stages.Ranges.{IsWithin}
use Rattle.gos_terms.specs.stages.Lodging.{AreTidy}
use Rattle.gos_terms.specs.stages.Folding.{Lead, AtResult, lead_point, of_result, Child, is_used, child_out, in_range, child_back, own_ties, IsForeign, IsChild, AreDistinct}
use Rattle.gos_terms.specs.stages.Folded.{Sees}
use Rattle.gos_terms.specs.stages.Regions.{HasParts}
use Rattle.gos_terms.proofs.stages.FollowLemmas.{result_leads as led_elsewhere}
use Rattle.gos_terms.proofs.stages.RangeLemmas.{ties_stay_within}
use Rattle.gos_terms.proofs.stages.LodgingLemmas.{lifted}
use Rattle.gos_terms.proofs.stages.ChildTieLemmas.{tie_of, tie_in}
use Rattle.gos_terms.proofs.stages.NothingLemmas.{part_nothing, node_nothing, number_nothing}
use Rattle.gos_terms.proofs.stages.ChildBackLemmas.{range_below, range_past}
use Rattle.gos_terms.proofs.stages.ContactLemmas.{shares_length}
use Rattle.gos_terms.specs.numbers.Inherited.{IsPart}
use Rattle.gos_terms.specs.run_children.Forks.{Branch, branch_made, branch_uses, AreBranches}
use Rattle.gos_terms.specs.run_children.Pairs.{result_leads, pairing, pair_side, parts_end, left_side, right_side, SidesAreChildren, SidesHaveParts}
use Rattle.gos_terms.proofs.run_children.NumberLemmas.{IsOthers, others_so}

-- rows
row_at : (p : Place) (c n h : ℕ) → h < n → slice_get (row p c n) h ≡ Some (point p (c + h))
row_at p c zero h lt = absurd (omega (arith, lt))
row_at p c (suc n) zero lt = let e : c ≡ c + 0 = omega arith in ap (λ (k : ℕ). Some (point p k)) e
row_at p c (suc n) (suc h) lt =
    let e : suc c + h ≡ c + suc h = omega arith in row_at p (suc c) n h (omega (arith, lt)) ∙ ap (λ (k : ℕ). Some (point p k)) e

take_row : (p : Place) (c u v : ℕ) → take u (row p c (u + v)) ≡ row p c u
take_row p c zero v = refl
take_row p c (suc u) v =
    let e : suc u + v ≡ suc (u + v) = omega arith in
    ap (λ (n : ℕ). take (suc u) (row p c n)) e ∙ ap (λ (ps : List Point). point p c ∷ ps) (take_row p (suc c) u v)

drop_row : (p : Place) (c u v : ℕ) → drop u (row p c (u + v)) ≡ row p (c + u) v
drop_row p c zero v =
    let one : 0 + v ≡ v = omega arith in let e : c ≡ c + 0 = omega arith in ap (row p c) one ∙ ap (λ (n : ℕ). row p n v) e
drop_row p c (suc u) v =
    let e : suc u + v ≡ suc (u + v) = omega arith in
    let sum : suc c + u ≡ c + suc u = omega arith in
    ap (λ (n : ℕ). drop (suc u) (row p c n)) e ∙ (drop_row p (suc c) u v ∙ ap (λ (n : ℕ). row p n v) sum)

leads_row : (q c n : ℕ) → map (lead_point q) (result_leads c n) ≡ row places.Result c n
leads_row q c zero = refl
leads_row q c (suc n) = ap (λ (ps : List Point). point places.Result c ∷ ps) (leads_row q (suc c) n)

leads_length : (c n : ℕ) → length (result_leads c n) ≡ n
leads_length c zero = refl
leads_length c (suc n) = ap suc (leads_length (suc c) n)

same_shake : (a b : ℕ) → AtResult a ≡ AtResult b → a ≡ b
same_shake a b e = cc e

lead_is : (c n h : ℕ) (l : Lead) → slice_get (result_leads c n) h ≡ Some l → (l ≡ AtResult (c + h)) × (h < n)
lead_is c zero h l at = absurd (none-some l at)
lead_is c (suc n) zero l at =
    let same : AtResult c ≡ l = cc at in let e : c ≡ c + 0 = omega arith in (sym same ∙ ap AtResult e, omega arith)
lead_is c (suc n) (suc h) l at =
    let (same, lt) = lead_is (suc c) n h l at in let e : suc c + h ≡ c + suc h = omega arith in (same ∙ ap AtResult e, omega (arith, lt))

leads_distinct : (c n : ℕ) → AreDistinct (result_leads c n)
leads_distinct c n h k l at_h at_k =
    let same = same_shake (c + h) (c + k) (sym (lead_is c n h l at_h).0 ∙ (lead_is c n k l at_k).0) in omega (arith, same)

result_none : (c n k h : ℕ) → (h < c) ⊎ (c + n ≤ h) → of_result (result_leads c n) k h ≡ None
result_none c zero k h out = refl
result_none c (suc n) k h out =
    ap (λ (b : Bool). if b then Some (Within 0 (Of (ResultEnd k))) else of_result (result_leads (suc c) n) (suc k) h) (ne_eqb h c (apart out))
    ∙ result_none (suc c) n (suc k) h (later out)
  where
    apart : (h < c) ⊎ (c + suc n ≤ h) → h ≢ c
    apart (inl lt) e = let same : h ≡ c = e in omega (arith, lt, same)
    apart (inr le) e = let same : h ≡ c = e in omega (arith, le, same)

    later : (h < c) ⊎ (c + suc n ≤ h) → (h < suc c) ⊎ (suc c + n ≤ h)
    later (inl lt) = inl (omega (arith, lt))
    later (inr le) = inr (omega (arith, le))

-- where the points of a side lie, whose parts are numbered from x on, its nodes from y on, and which leads to the result's handshakes from d on
abbrev IsAside : Types → ℕ → ℕ → ℕ → Branch → Place → ℕ → Type 0
IsAside types x y d o (places.Part k) h = (x ≤ k) × (k < x + length (parts_of types o.term))
IsAside types x y d o (places.Import k) h = ⊥
IsAside types x y d o places.Result h = (d ≤ h) × (h < d + count (type_of_node o.term))
IsAside types x y d o (places.Number k) h = 0 < times k (used o.term) + times k (made o.term)
IsAside types x y d o (places.Node k) h = (y ≤ k) × (k < y + nodes o.term)

module _ (types : Types) (x y d : ℕ) (o : Branch) where
  abbrev lead_out : List Point
  lead_out = row places.Result d (count (type_of_node o.term))

  abbrev AtAside : Point → Type 0
  AtAside p = IsAside types x y d o p.place p.shake

  led_aside : (p : Place) (h : ℕ) → IsWithin types x y o.term (count (type_of_node o.term)) p h → AtAside (leading lead_out (point p h))
  led_aside (places.Part k) h within = within
  led_aside (places.Import k) h within = absurd within
  led_aside places.Result h lt =
      subst (λ (a : Option Point). AtAside (or_point a (point places.Result h))) (sym (row_at places.Result d (count (type_of_node o.term)) h lt))
      (omega arith, omega (arith, lt))
  led_aside (places.Number k) h some = some
  led_aside (places.Node k) h within = within

  ties_aside : (u : point_ties.Tie) → Contains (ties_of types x y o.term lead_out) u → AtAside u.one × AtAside u.other
  ties_aside u has =
      let led = subst (λ (us : List point_ties.Tie). Contains us u) (led_elsewhere types x y o.term lead_out) has in
      let (v, listed, same) =
      of_image (λ (t : point_ties.Tie). points.tie (leading lead_out t.one) (leading lead_out t.other))
      (ties_of types x y o.term (row places.Result 0 (length lead_out))) u led in
      let fewer = subst (λ (n : ℕ). Contains (ties_of types x y o.term (row places.Result 0 n)) v) (row_length places.Result d (count (type_of_node o.term))) listed in
      let (one, other) = ties_stay_within types x y o.term (count (type_of_node o.term)) v fewer in
      subst (λ (w : point_ties.Tie). AtAside w.one × AtAside w.other) same
      (led_aside v.one.place v.one.shake one, led_aside v.other.place v.other.shake other)

-- what stands for nothing of a side
module _ (types : Types) (i : ℕ) (ss : List Split) (env : Supplies) (ns : List ℕ) (off node c own : ℕ) (b : Branch) where
  abbrev me : Child
  me = pair_side types i ss env ns off node c own b

  abbrev IsNothing : Dot → Type 0
  IsNothing d = child_back me (Within 0 d) ≡ None

  -- the other side, which has nothing in common with it
  record AreApart (x y d : ℕ) (o : Branch) : Type 0 where
    pub parts :
        (k : ℕ) → x ≤ k → k < x + length (parts_of types o.term)
        → (i + length ss ≤ k) × (k ≢ i + own) × (in_range (i + off) (length (parts_of types b.term)) k ≡ false)
    pub shakes : (h : ℕ) → d ≤ h → h < d + count (type_of_node o.term) → (h < c) ⊎ (c + count (type_of_node b.term) ≤ h)
    pub inner : (k : ℕ) → y ≤ k → k < y + nodes o.term → in_range node (nodes b.term) k ≡ false
    pub numbers : (k : ℕ) → 0 < times k (used o.term) + times k (made o.term) → IsOthers ss b k

  module _ (tidy : AreTidy (is_used me) ss ns) (x y d : ℕ) (o : Branch) (apart : AreApart x y d o) where
    aside_nothing : (p : Place) (h : ℕ) → IsAside types x y d o p h → IsNothing (dot_of_place p h)
    aside_nothing (places.Part k) h (le, lt) = let (from, far, out) = apart.parts k le lt in part_nothing me k h from far out
    aside_nothing (places.Import k) h aside = absurd aside
    aside_nothing places.Result h (le, lt) = result_none c (count (type_of_node b.term)) 0 h (apart.shakes h le lt)
    aside_nothing (places.Number k) h aside =
        let others = apart.numbers k aside in number_nothing me k h tidy others.unused others.unmade others.unsplit
    aside_nothing (places.Node k) h (le, lt) = node_nothing me k h (apart.inner k le lt)

    foreign_ties : (u : point_ties.Tie) → Contains (ties_of types x y o.term (row places.Result d (count (type_of_node o.term)))) u → IsForeign me (lifted u)
    foreign_ties u has =
        let (one, other) = ties_aside types x y d o u has in
        (aside_nothing u.one.place u.one.shake one, aside_nothing u.other.place u.other.shake other)

-- the node's ties
module _ (types : Types) (i j : ℕ) (a b : Type') (ss : List Split) (m n : Branch) (ns : List ℕ) (env : Supplies) (at_a : type_of_node m.term ≡ a)
    (at_b : type_of_node n.term ≡ b) where
  abbrev u : ℕ
  u = count (type_of_node m.term)

  abbrev v : ℕ
  v = count (type_of_node n.term)

  abbrev whole : Numbered
  whole = pairing a b ss m.term n.term

  abbrev left_ties : List point_ties.Tie
  left_ties = ties_of types (i + length ss) (suc j) m.term (row places.Result 0 u)

  abbrev right_ties : List point_ties.Tie
  right_ties = ties_of types (i + (length ss + length (parts_of types m.term))) (suc j + nodes m.term) n.term (row places.Result u v)

  size : count (Pair a b) ≡ u + v
  size =
      ap length (pairs_join a b).joined
      ∙ length-append (contacts_of a) (contacts_of b)
      ∙ (λ l. count (sym at_a l) + count (sym at_b l))

  node_ties : ties_of types i j whole (row places.Result 0 (count (Pair a b))) ≡ shares_ties i ss types ++ (left_ties ++ right_ties)
  node_ties =
      ap (λ (k : ℕ). ties_of types i j whole (row places.Result 0 k)) size
      ∙ (λ l. shares_ties i ss types ++ (ties_of types (first l) (suc j) m.term (take_row places.Result 0 u v l)
      ++ ties_of types (second l) (suc j + nodes m.term) n.term (third l)))
    where
      first : i + length ss + 0 ≡ i + length ss
      first = omega arith

      second : i + length ss + 0 + length (parts_of types m.term) ≡ i + (length ss + length (parts_of types m.term))
      second = omega arith

      third : drop u (row places.Result 0 (u + v)) ≡ row places.Result u v
      third = let e : 0 + u ≡ u = omega arith in drop_row places.Result 0 u v ∙ ap (λ (k : ℕ). row places.Result k v) e

  abbrev web : List Tie
  web = wired_ties types i j whole ns env

  abbrev mine : List point_ties.Tie
  mine = ties_of types i j whole (row places.Result 0 (count (Pair a b)))

  abbrev shared : List Tie
  shared = within 0 (dot_ties (shares_ties i ss types)) ++ all_supply_ties types env ns

  in_node : (t : point_ties.Tie) → Contains (shares_ties i ss types ++ (left_ties ++ right_ties)) t → Contains web (lifted t)
  in_node t has =
      Contains-append_left (within 0 (dot_ties mine)) (all_supply_ties types env ns) (lifted t)
      (tie_in mine t (subst (λ (us : List point_ties.Tie). Contains us t) (sym node_ties) has))

  in_left : (t : point_ties.Tie) → Contains left_ties t → Contains web (lifted t)
  in_left t has = in_node t (Contains-append_right (shares_ties i ss types) (left_ties ++ right_ties) t (Contains-append_left left_ties right_ties t has))

  in_right : (t : point_ties.Tie) → Contains right_ties t → Contains web (lifted t)
  in_right t has = in_node t (Contains-append_right (shares_ties i ss types) (left_ties ++ right_ties) t (Contains-append_right left_ties right_ties t has))

  in_shared : (t : Tie) → Contains shared t → Contains web t
  in_shared t has =
      elim (Contains-append_cases (within 0 (dot_ties (shares_ties i ss types))) (all_supply_ties types env ns) t has) [
        | inl share ↦
            (let (w, listed, same) = tie_of (shares_ties i ss types) t share in
            subst (Contains web) same (in_node w (Contains-append_left (shares_ties i ss types) (left_ties ++ right_ties) w listed)))
        | inr supply ↦ Contains-append_right (within 0 (dot_ties mine)) (all_supply_ties types env ns) t supply
      ]

  abbrev Kinds : Tie → Type 0
  Kinds t =
      Contains shared t ⊎ ((w : point_ties.Tie) × Contains left_ties w × (lifted w ≡ t)) ⊎ ((w : point_ties.Tie) × Contains right_ties w × (lifted w ≡ t))

  point_kinds : (w : point_ties.Tie) → Contains (shares_ties i ss types ++ (left_ties ++ right_ties)) w → Kinds (lifted w)
  point_kinds w has =
      elim (Contains-append_cases (shares_ties i ss types) (left_ties ++ right_ties) w has) [
        | inl share ↦
            inl (Contains-append_left (within 0 (dot_ties (shares_ties i ss types))) (all_supply_ties types env ns) (lifted w)
            (tie_in (shares_ties i ss types) w share))
        | inr more ↦
            elim (Contains-append_cases left_ties right_ties w more) [ inl one ↦ inr (inl (w, one, refl)) | inr other ↦ inr (inr (w, other, refl)) ]
      ]

  kinds : (t : Tie) → Contains web t → Kinds t
  kinds t has =
      elim (Contains-append_cases (within 0 (dot_ties mine)) (all_supply_ties types env ns) t has) [
        | inl node ↦
            (let (w, listed, same) = tie_of mine t node in
            subst Kinds same (point_kinds w (subst (λ (us : List point_ties.Tie). Contains us w) node_ties listed)))
        | inr supply ↦ inl (Contains-append_right (within 0 (dot_ties (shares_ties i ss types))) (all_supply_ties types env ns) t supply)
      ]

  module _ (are : AreBranches types ss ns (m ∷ n ∷ [])) (supplies : AreOfTypes types env ns) where
    part_m : IsPart types ss ns m.uses m.term
    part_m = are.parts m (0, omega arith, refl)

    part_n : IsPart types ss ns n.uses n.term
    part_n = are.parts n (1, omega arith, refl)

    abbrev lm : ℕ
    lm = length (parts_of types m.term)

    abbrev ln : ℕ
    ln = length (parts_of types n.term)

    abbrev left : Child
    left = left_side types i j ss env ns m n

    abbrev right : Child
    right = right_side types i j ss env ns m n

    -- what one side uses or makes the other knows nothing of
    known : (o : Branch) → IsPart types ss ns o.uses o.term → (k : ℕ) → 0 < times k (used o.term) + times k (made o.term) → 0 < times k (made o.term) + times k o.uses
    known o part k some = by_size (times k (used o.term)) (times k (made o.term)) refl refl
      where
        of : (0 < times k (made o.term)) ⊎ Contains o.uses k → 0 < times k (made o.term) + times k o.uses
        of (inl h) = omega (arith, h)
        of (inr there) = let h = some_times k o.uses there in omega (arith, h)

        by_size : (p q : ℕ) → p ≡ times k (used o.term) → q ≡ times k (made o.term) → 0 < times k (made o.term) + times k o.uses
        by_size zero q at_p at_q = omega (arith, some, at_p)
        by_size (suc p) q at_p at_q = of (part.covers k (omega (arith, at_p)))

    all_two : (k : ℕ) → times k (branch_made (m ∷ n ∷ [])) ≡ times k (made m.term) + times k (made n.term)
    all_two k = let one = times-append k (made m.term) (made n.term ++ []) in let two = times-append k (made n.term) [] in omega (arith, one, two)

    all_uses_two : (k : ℕ) → times k (branch_uses (m ∷ n ∷ [])) ≡ times k m.uses + times k n.uses
    all_uses_two k = let one = times-append k m.uses (n.uses ++ []) in let two = times-append k n.uses [] in omega (arith, one, two)

    left_numbers : (k : ℕ) → 0 < times k (used n.term) + times k (made n.term) → IsOthers ss m k
    left_numbers k some =
        let one = all_two k in let two = all_uses_two k in
        others_so types ss ns (m ∷ n ∷ []) m k (times k (made n.term)) (times k n.uses) are part_m.split (omega (arith, one)) (omega (arith, two)) (known n part_n k some)

    right_numbers : (k : ℕ) → 0 < times k (used m.term) + times k (made m.term) → IsOthers ss n k
    right_numbers k some =
        let one = all_two k in let two = all_uses_two k in
        others_so types ss ns (m ∷ n ∷ []) n k (times k (made m.term)) (times k m.uses) are part_m.split (omega (arith, one)) (omega (arith, two)) (known m part_m k some)

    left_apart : AreApart types i ss env ns (length ss) (suc j) 0 (parts_end types ss m n) m (i + (length ss + lm)) (suc j + nodes m.term) u n
    left_apart =
        record {
          parts =
              λ k le lt. (
                omega (arith, le),
                (λ e. let same : k ≡ i + (length ss + (lm + ln)) = e in omega (arith, same, lt)),
                range_past (i + length ss) lm k (omega (arith, le)),
              );
          shakes = λ h le lt. inr (omega (arith, le));
          inner = λ k le lt. range_past (suc j) (nodes m.term) k le;
          numbers = left_numbers;
        }

    right_apart : AreApart types i ss env ns (length ss + lm) (suc j + nodes m.term) u (parts_end types ss m n) n (i + length ss) (suc j) 0 m
    right_apart =
        record {
          parts =
              λ k le lt. (
                le,
                (λ e. let same : k ≡ i + (length ss + (lm + ln)) = e in omega (arith, same, lt)),
                range_below (i + (length ss + lm)) ln k (omega (arith, lt)),
              );
          shakes = λ h le lt. inl (omega (arith, lt));
          inner = λ k le lt. range_below (suc j + nodes m.term) (nodes n.term) k lt;
          numbers = right_numbers;
        }

    left_out : child_out left ≡ row places.Result 0 u
    left_out = leads_row (i + parts_end types ss m n) 0 u

    right_out : child_out right ≡ row places.Result u v
    right_out = leads_row (i + parts_end types ss m n) u v

    left_own : (t : Tie) → Contains (own_ties left) t → (w : point_ties.Tie) × Contains left_ties w × (lifted w ≡ t)
    left_own t has =
        tie_of left_ties t (subst (λ (ps : List Point). Contains (within 0 (dot_ties (ties_of types (i + length ss) (suc j) m.term ps))) t) left_out has)

    right_own : (t : Tie) → Contains (own_ties right) t → (w : point_ties.Tie) × Contains right_ties w × (lifted w ≡ t)
    right_own t has =
        tie_of right_ties t
        (subst (λ (ps : List Point). Contains (within 0 (dot_ties (ties_of types (i + (length ss + lm)) (suc j + nodes m.term) n.term ps))) t) right_out has)

    own_left : (w : point_ties.Tie) → Contains left_ties w → Contains (own_ties left) (lifted w)
    own_left w has =
        subst (λ (ps : List Point). Contains (within 0 (dot_ties (ties_of types (i + length ss) (suc j) m.term ps))) (lifted w)) (sym left_out) (tie_in left_ties w has)

    own_right : (w : point_ties.Tie) → Contains right_ties w → Contains (own_ties right) (lifted w)
    own_right w has =
        subst (λ (ps : List Point). Contains (within 0 (dot_ties (ties_of types (i + (length ss + lm)) (suc j + nodes m.term) n.term ps))) (lifted w)) (sym right_out)
        (tie_in right_ties w has)

    pub left_child : IsChild left web
    left_child =
        record {
          tidy = part_m.tidy;
          agree = part_m.agree;
          split = part_m.split;
          supplies = supplies;
          scope = part_m.scope;
          covers = part_m.covers;
          unmade = part_m.unmade;
          shares_first = omega arith;
          off_first = omega arith;
          own_apart = inr (omega arith);
          has_shared = in_shared;
          has_own = λ t has. (let (w, listed, same) = left_own t has in subst (Contains web) same (in_left w listed));
          only = λ t has. elim (kinds t has) [
            | inl one ↦ inl one
            | inr more ↦
                elim more [
                  | inl its ↦ (let (w, listed, same) = its in inr (inl (subst (Contains (own_ties left)) same (own_left w listed))))
                  | inr other ↦
                      (let (w, listed, same) = other in
                      inr (inr (subst (IsForeign left) same
                      (foreign_ties types i ss env ns (length ss) (suc j) 0 (parts_end types ss m n) m part_m.tidy (i + (length ss + lm)) (suc j + nodes m.term) u n left_apart w listed))))
                ]
          ];
          long = leads_length 0 u;
          distinct = leads_distinct 0 u;
        }

    pub right_child : IsChild right web
    right_child =
        record {
          tidy = part_n.tidy;
          agree = part_n.agree;
          split = part_n.split;
          supplies = supplies;
          scope = part_n.scope;
          covers = part_n.covers;
          unmade = part_n.unmade;
          shares_first = omega arith;
          off_first = omega arith;
          own_apart = inr (omega arith);
          has_shared = in_shared;
          has_own = λ t has. (let (w, listed, same) = right_own t has in subst (Contains web) same (in_right w listed));
          only = λ t has. elim (kinds t has) [
            | inl one ↦ inl one
            | inr more ↦
                elim more [
                  | inl other ↦
                      (let (w, listed, same) = other in
                      inr (inr (subst (IsForeign right) same
                      (foreign_ties types i ss env ns (length ss + lm) (suc j + nodes m.term) u (parts_end types ss m n) n part_n.tidy (i + length ss) (suc j) 0 m right_apart w listed))))
                  | inr its ↦ (let (w, listed, same) = its in inr (inl (subst (Contains (own_ties right)) same (own_right w listed))))
                ]
          ];
          long = leads_length u v;
          distinct = leads_distinct u v;
        }

  -- the parts of the node
  behind_shares : (k : ℕ) → slice_get (parts_of types whole) (length ss + k) ≡ slice_get (parts_of types m.term ++ parts_of types n.term) k
  behind_shares k =
      ap (λ (x : ℕ). slice_get (parts_of types whole) (x + k)) (sym (shares_length types ss))
      ∙ found_behind (shares ss types) (parts_of types m.term ++ parts_of types n.term) k

  first_contact : (h : ℕ) (k : Contact) → turned_if (slice_get (contacts_of (type_of_node m.term)) h) ≡ Some k → h < u → turned_if (slice_get (contacts_of (Pair a b)) h) ≡ Some k
  first_contact h k at lt = let (d, there) = turned_there (slice_get (contacts_of (type_of_node m.term)) h) k at in
      ap (λ (ks : List Contact). turned_if (slice_get ks h)) (pairs_join a b).joined
      ∙ ap turned_if (found_in_front (contacts_of a) (contacts_of b) h d (ap (λ (t : Type'). slice_get (contacts_of t) h) (sym at_a) ∙ there) ∙ sym there) ∙ at
    where
      turned_there : (o : Option Contact) (k : Contact) → turned_if o ≡ Some k → (d : Contact) × (o ≡ Some d)
      turned_there None k e = absurd (none-some k e)
      turned_there (Some d) k e = (d, refl)

  second_contact : (h : ℕ) (k : Contact) → turned_if (slice_get (contacts_of (type_of_node n.term)) h) ≡ Some k → turned_if (slice_get (contacts_of (Pair a b)) (u + h)) ≡ Some k
  second_contact h k at =
      ap (λ (t : Type'). turned_if (slice_get (contacts_of (Pair a b)) (count t + h))) at_a
      ∙ (ap (λ (ks : List Contact). turned_if (slice_get ks (count a + h))) (pairs_join a b).joined ∙ ap turned_if (found_behind (contacts_of a) (contacts_of b) h) ∙ (ap (λ (t : Type'). turned_if (slice_get (contacts_of t) h)) (sym at_b) ∙ at))

  pub left_parts : HasParts (left_side types i j ss env ns m n) (parts_of types whole) (Pair a b)
  left_parts =
      record {
        shares = λ x y at. found_in_front (shares ss types) (parts_of types m.term ++ parts_of types n.term) x y at;
        child = λ x y at. behind_shares x ∙ found_in_front (parts_of types m.term) (parts_of types n.term) x y at;
        asks =
            λ h l k lead at.
            let (same, lt) = lead_is 0 u h l lead in
            let sum : 0 + h ≡ h = omega arith in
            subst (λ (z : Lead). Sees (parts_end types ss m n) (parts_of types whole) (Pair a b) z k) (sym (same ∙ ap AtResult sum)) (first_contact h k at lt);
      }

  pub right_parts : HasParts (right_side types i j ss env ns m n) (parts_of types whole) (Pair a b)
  right_parts =
      record {
        shares = λ x y at. found_in_front (shares ss types) (parts_of types m.term ++ parts_of types n.term) x y at;
        child =
            λ x y at.
            let sum : length ss + length (parts_of types m.term) + x ≡ length ss + (length (parts_of types m.term) + x) = omega arith in
            ap (slice_get (parts_of types whole)) sum
            ∙ (behind_shares (length (parts_of types m.term) + x) ∙ (found_behind (parts_of types m.term) (parts_of types n.term) x ∙ at));
        asks =
            λ h l k lead at.
            let (same, lt) = lead_is u v h l lead in
            subst (λ (z : Lead). Sees (parts_end types ss m n) (parts_of types whole) (Pair a b) z k) (sym same) (second_contact h k at);
      }

pub sides_are_children : SidesAreChildren
sides_are_children types i j a b ss m n ns env at_a at_b are supplies =
    (left_child types i j a b ss m n ns env at_a at_b are supplies, right_child types i j a b ss m n ns env at_a at_b are supplies)

pub sides_have_parts : SidesHaveParts
sides_have_parts types i j a b ss m n ns env at_a at_b =
    (left_parts types i j a b ss m n ns env at_a at_b, right_parts types i j a b ss m n ns env at_a at_b)
