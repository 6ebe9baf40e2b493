-- The web of a node that applies is, but for dots, the union of its children's webs.
use Rattle.std.specs.Prelude.{◌≡◌, ℕ, zero, suc, ◌+◌, ◌-◌, ◌<◌, ◌≤◌, Bool, true, false, List, [], ◌∷◌, ◌++◌, ◌⊎◌, length, nat_eq, nat_lt, Contains, if◌then◌else◌}
use Rattle.std.proofs.Common.{refl, sym, ◌∙◌, ap, subst, arith, inl, inr}
use Rattle.std.proofs.lemmas.List.Elements.{Contains-append_left, Contains-append_right, Contains-append_cases}
use Rattle.std.proofs.lemmas.Bool.Decides.{nat_tests}
use Rattle.std.proofs.lemmas.Bool.{lt-ltb, le-ltb, eq-eqb, ne_eqb}
use Rattle.gos_types.specs.Types.{Type'}
use Rattle.gos_check.specs.Nodes.{Numbered, type_of_node}
use Rattle.gos_check.specs.Linearity.{times, used, made}
use Rattle.gos_check.proofs.TimesLemmas.{some_times, listed_times}
use Rattle.gos_plan.specs.Plans.{PartEnd, ImportEnd, ResultEnd, Plan}
use Rattle.gos_plan.specs.Joining.{Link}
use Rattle.gos_ties.specs.declared.points.Place.{Place}
use Rattle.gos_ties.specs.declared.points.Place.TheVariants as places
use Rattle.gos_ties.specs.declared.points.Point.{Point}
use Rattle.gos_ties.specs.declared.points.Tie as point_ties
use Rattle.gos_ties.specs.Ties.{point}
use Rattle.gos_realises.specs.realises.Regular.{count}
use Rattle.gos_realises.specs.realises.Wirings.{link, results_linked, applying}
use Rattle.gos_joining.specs.webs.Webs.{Dot, Of, Number, Node, Within, Tie, tie, Web, Way}
use Rattle.gos_joining.proofs.webs.WayLemmas.{way_then, way_back}
use Rattle.gos_joining.specs.unions.Unions as unions
use Rattle.gos_joining.specs.unions.Unions.{within, link_ties, union}
use Rattle.gos_joining.proofs.unions.UnionLemmas.{Image, of_image, in_image}
use Rattle.gos_compile.specs.Wiring.{Types, parts_of, nodes}
use Rattle.gos_terms.specs.wired.Wired.{Supplies, Placing, dot_at, dot_of_place, dot_of, all_supply_ties, wired_web}
use Rattle.gos_terms.proofs.wired.TieLemmas.{OfSupplies, of_supplies, in_supplies}
use Rattle.gos_joining.proofs.weaving.CrossingLemmas.{still}
use Rattle.gos_sharing.proofs.function_types.SideLemmas.{link_is_in}
use Rattle.gos_terms.specs.applying.Uses.{Stands, AreParted, AreApart}
use Rattle.gos_terms.proofs.applying.RenamedLemmas.{renamed_at}
use Rattle.gos_terms.proofs.applying.StandLemmas.{IsOf}
use Rattle.gos_terms.proofs.applying.RowLemmas.{to_two, to_first, to_second}
use Rattle.gos_terms.proofs.applying.SupplyLemmas.{inside, IsSupplyTie, of_supply, tied_at}
use Rattle.gos_terms.proofs.applying.ChildLemmas.{lower, lowered, child_ties, own_ties, node_ties, own_tie, node_tie, of_own, in_own, of_node, in_node, one_stands, other_stands}

-- a dot of the function's web, or of the argument's
abbrev pub pick : Bool → Dot → Dot
pick true d = Within 0 d
pick false d = Within 1 d

abbrev pub sink : (ℕ → Point) → Dot → Dot
sink to (Of e) = Of e
sink to (Number n h) = Number n h
sink to (Node n h) = Node n h
sink to (Within zero d) = Within 0 (lower to d)
sink to (Within (suc n) d) = Within (suc n) d

pub supply_sink : (to : ℕ → Point) (n : ℕ) (t : Tie) → IsSupplyTie n t → (t.one ≡ sink to t.one) × (t.other ≡ sink to t.other)
supply_sink to n t (inl (y, same)) = (subst (λ (x : Tie). x.one ≡ sink to x.one) same refl, subst (λ (x : Tie). x.other ≡ sink to x.other) same refl)
supply_sink to n t (inr (h, same)) = (subst (λ (x : Tie). x.one ≡ sink to x.one) same refl, subst (λ (x : Tie). x.other ≡ sink to x.other) same refl)

-- the links of an application
pub of_links : (x l : ℕ) (z : Link) → Contains (results_linked 1 x l) z → (h : ℕ) × (h < x + l) × (link 0 (ResultEnd h) 1 (ResultEnd h) ≡ z)
of_links x zero z (k, small, e) = absurd (omega (arith, small))
of_links x (suc l) z (zero, small, e) = (x, omega arith, e)
of_links x (suc l) z (suc k, small, e) =
    let (h, low, same) = of_links (suc x) l z (k, omega (arith, small), e) in (h, omega (arith, low), same)

module _
    (types : Types) (i j : ℕ) (m n : Numbered) (t : Type') (ns ms ks : List ℕ) (env : Supplies) (pl pm pn : Placing) (p q : Plan) where
  abbrev pub size : ℕ
  size = count (type_of_node n)

  abbrev pub next : ℕ
  next = i + length (parts_of types m)

  abbrev pub last : ℕ
  last = suc j + nodes m

  abbrev pub to_m : ℕ → Point
  to_m = to_two size (places.Node j) places.Result

  abbrev pub to_n : ℕ → Point
  to_n h = point (places.Node j) h

  abbrev pub supplies : List Tie
  supplies = all_supply_ties types env ns

  abbrev pub left : List Tie
  left = node_ties to_m types i (suc j) m

  abbrev pub right : List Tie
  right = node_ties to_n types next last n

  abbrev pub w : Web
  w = record { ties = (left ++ right) ++ supplies; at = dot_at i pl }

  abbrev pub vm : Web
  vm = wired_web types i (suc j) m ms env pm

  abbrev pub vn : Web
  vn = wired_web types next last n ks env pn

  abbrev pub webs : List Web
  webs = vm ∷ vn ∷ []

  abbrev pub u : Web
  u = union (applying (type_of_node n) t p q) webs

  -- whether a number stands in the function, or is supplied there
  abbrev pub in_m : ℕ → Bool
  in_m k = nat_lt 0 (times k (used m) + times k (made m) + times k ms)

  abbrev pub has_m : ℕ → Bool
  has_m k = nat_lt 0 (times k ms)

  abbrev pub lift : Dot → Dot
  lift (Of (PartEnd x h)) = pick (nat_lt x next) (Within 0 (Of (PartEnd x h)))
  lift (Of (ImportEnd x h)) = Within 0 (Within 0 (Of (ImportEnd x h)))
  lift (Of (ResultEnd h)) = Within 0 (Within 0 (Of (ResultEnd (size + h))))
  lift (Number k h) = pick (in_m k) (Within 0 (Number k h))
  lift (Node k h) = if nat_eq k j then Within 0 (Within 0 (Of (ResultEnd h))) else pick (nat_lt k last) (Within 0 (Node k h))
  lift (Within k d) = Within 0 (Within 0 (Within k d))

  abbrev pub forth : Dot → Dot
  forth (Of e) = Of e
  forth (Number k h) = Number k h
  forth (Node k h) = Node k h
  forth (Within zero d) = lift d
  forth (Within (suc k) d) = pick (has_m k) (Within (suc k) d)

  abbrev pub back : Dot → Dot
  back (Of e) = Of e
  back (Number k h) = Number k h
  back (Node k h) = Node k h
  back (Within zero d) = sink to_m d
  back (Within (suc k) d) = sink to_n d

  module _
      (parted : AreParted ns ms ks) (apart : AreApart m n ms ks) (counts : count (type_of_node m) ≡ size + count t) where
    -- the ties of the union
    in_first : (y : Tie) → Contains vm.ties y → Contains u.ties (inside 0 y)
    in_first y has =
        Contains-append_left (within 0 vm.ties ++ (within 1 vn.ties ++ [])) (link_ties webs (results_linked 1 0 size)) (inside 0 y)
        (Contains-append_left (within 0 vm.ties) (within 1 vn.ties ++ []) (inside 0 y) (in_image (inside 0) vm.ties y has))

    in_second : (y : Tie) → Contains vn.ties y → Contains u.ties (inside 1 y)
    in_second y has =
        Contains-append_left (within 0 vm.ties ++ (within 1 vn.ties ++ [])) (link_ties webs (results_linked 1 0 size)) (inside 1 y)
        (Contains-append_right (within 0 vm.ties) (within 1 vn.ties ++ []) (inside 1 y)
        (Contains-append_left (within 1 vn.ties) [] (inside 1 y) (in_image (inside 1) vn.ties y has)))

    abbrev linked : ℕ → Tie
    linked h = tie (Within 0 (Within 0 (Of (ResultEnd h)))) (Within 1 (Within 0 (Of (ResultEnd h))))

    abbrev of_link : Link → Tie
    of_link l = tie (unions.dot_at webs l.one) (unions.dot_at webs l.other)

    in_link : (h : ℕ) → h < size → Contains u.ties (linked h)
    in_link h low =
        Contains-append_right (within 0 vm.ties ++ (within 1 vn.ties ++ [])) (link_ties webs (results_linked 1 0 size)) (linked h)
        (in_image of_link (results_linked 1 0 size) (link 0 (ResultEnd h) 1 (ResultEnd h)) (link_is_in 0 size h (omega arith) (omega (arith, low))))

    -- dots of the node, in the union
    chosen : (b : Bool) (d : Dot) → b ≡ true → Within 0 d ≡ pick b d
    chosen b d is = ap (λ (x : Bool). pick x d) (sym is)

    left_out : (b : Bool) (d : Dot) → b ≡ false → Within 1 d ≡ pick b d
    left_out b d is = ap (λ (x : Bool). pick x d) (sym is)

    node_other : (k h : ℕ) → suc j ≤ k → pick (nat_lt k last) (Within 0 (Node k h)) ≡ lift (Node k h)
    node_other k h low =
        let other : nat_eq k j ≡ false = ne_eqb k j (λ same. let f : k ≡ j = same in omega (arith, f, low)) in
        sym (ap (λ (b : Bool). if b then Within 0 (Within 0 (Of (ResultEnd h))) else pick (nat_lt k last) (Within 0 (Node k h))) other)

    node_own : (h : ℕ) → Within 0 (Within 0 (Of (ResultEnd h))) ≡ lift (Node j h)
    node_own h =
        sym (ap (λ (b : Bool). if b then Within 0 (Within 0 (Of (ResultEnd h))) else pick (nat_lt j last) (Within 0 (Node j h))) (eq-eqb j j refl))

    stands_m : (k : ℕ) → Stands k m → in_m k ≡ true
    stands_m k some = lt-ltb 0 (times k (used m) + times k (made m) + times k ms) (omega (arith, some))

    supplied_m : (k : ℕ) → Contains ms k → in_m k ≡ true
    supplied_m k has = let some = some_times k ms has in lt-ltb 0 (times k (used m) + times k (made m) + times k ms) (omega (arith, some))

    zero_or : {P : Type 0} (x : ℕ) → (x ≡ 0 → P) → (0 < x → P) → P
    zero_or zero none some = none refl
    zero_or (suc x) none some = some (omega arith)

    not_in_m : (k : ℕ) → (Stands k m → ⊥) → (Contains ms k → ⊥) → in_m k ≡ false
    not_in_m k no_stand no_supply =
        zero_or (times k (used m) + times k (made m))
        (λ none.
        zero_or (times k ms) (λ also. le-ltb 0 (times k (used m) + times k (made m) + times k ms) (omega (arith, none, also)))
        (λ some. absurd (no_supply (listed_times k ms some))))
        (λ some. absurd (no_stand some))

    has_it : (k : ℕ) → Contains ms k → has_m k ≡ true
    has_it k has = lt-ltb 0 (times k ms) (some_times k ms has)

    has_not : (k : ℕ) → (Contains ms k → ⊥) → has_m k ≡ false
    has_not k no_supply =
        zero_or (times k ms) (λ none. le-ltb 0 (times k ms) (omega (arith, none))) (λ some. absurd (no_supply (listed_times k ms some)))

    first_lifted : (x : Place) (h : ℕ) → IsOf types i (suc j) m (count (type_of_node m)) x h
        → Within 0 (Within 0 (dot_of_place x h)) ≡ lift (dot_of (renamed_at to_m x h))
    first_lifted (places.Part k) h (low, high) = chosen (nat_lt k next) (Within 0 (Of (PartEnd k h))) (lt-ltb k next high)
    first_lifted (places.Import k) h is = absurd is
    first_lifted places.Result h is = by_test (nat_lt h size) refl
      where
        by_test : (b : Bool) → nat_lt h size ≡ b → Within 0 (Within 0 (Of (ResultEnd h))) ≡ lift (dot_of (to_m h))
        by_test true low =
            let less : h < size = grind (arith, nat_tests) in
            node_own h ∙ ap (λ (x : Point). lift (dot_of x)) (sym (to_first size (places.Node j) places.Result h less))
        by_test false high =
            let more : size ≤ h = grind (arith, nat_tests) in
            let same : h ≡ size + (h - size) = omega (arith, more) in
            ap (λ (x : ℕ). Within 0 (Within 0 (Of (ResultEnd x)))) same
            ∙ ap (λ (x : Point). lift (dot_of x)) (sym (to_second size (places.Node j) places.Result h more))
    first_lifted (places.Number k) h is = chosen (in_m k) (Within 0 (Number k h)) (stands_m k is)
    first_lifted (places.Node k) h (low, high) =
        chosen (nat_lt k last) (Within 0 (Node k h)) (lt-ltb k last high) ∙ node_other k h low

    second_lifted : (x : Place) (h : ℕ) → IsOf types next last n size x h
        → Way u.ties (Within 1 (Within 0 (dot_of_place x h))) (lift (dot_of (renamed_at to_n x h)))
    second_lifted (places.Part k) h (low, high) =
        still u.ties (Within 1 (Within 0 (Of (PartEnd k h)))) (lift (Of (PartEnd k h)))
        (left_out (nat_lt k next) (Within 0 (Of (PartEnd k h))) (le-ltb k next low))
    second_lifted (places.Import k) h is = absurd is
    second_lifted places.Result h is =
        way_back u.ties (lift (Node j h)) (Within 1 (Within 0 (Of (ResultEnd h))))
        (tied_at u.ties (linked h) (lift (Node j h)) (Within 1 (Within 0 (Of (ResultEnd h)))) (in_link h is) (node_own h) refl)
    second_lifted (places.Number k) h is =
        still u.ties (Within 1 (Within 0 (Number k h))) (lift (Number k h))
        (left_out (in_m k) (Within 0 (Number k h)) (not_in_m k (λ some. apart.nodes k some is) (λ has. apart.first k has is)))
    second_lifted (places.Node k) h (low, high) =
        still u.ties (Within 1 (Within 0 (Node k h))) (lift (Node k h))
        (left_out (nat_lt k last) (Within 0 (Node k h)) (le-ltb k last low) ∙ node_other k h (omega (arith, low)))

    supply_forth : (b : Bool) (k : ℕ) (x : Tie) → IsSupplyTie k x → has_m k ≡ b → in_m k ≡ b → (pick b x.one ≡ forth x.one) × (pick b x.other ≡ forth x.other)
    supply_forth b k x (inl (y, same)) has among = (
      subst (λ (z : Tie). pick b z.one ≡ forth z.one) same (ap (λ (c : Bool). pick c (Within (suc k) y.one)) (sym has)),
      subst (λ (z : Tie). pick b z.other ≡ forth z.other) same (ap (λ (c : Bool). pick c (Within (suc k) y.other)) (sym has)),
    )
    supply_forth b k x (inr (h, same)) has among = (
      subst (λ (z : Tie). pick b z.one ≡ forth z.one) same (ap (λ (c : Bool). pick c (Within 0 (Number k h))) (sym among)),
      subst (λ (z : Tie). pick b z.other ≡ forth z.other) same (ap (λ (c : Bool). pick c (Within (suc k) (Of (ResultEnd h)))) (sym has)),
    )

    -- ties of the node are ways of the union
    abbrev Forth : Tie → Type 0
    Forth x = Way u.ties (forth x.one) (forth x.other)

    left_forth : (x : Tie) → Image (node_tie to_m) (child_ties types i (suc j) m) x → Forth x
    left_forth x (a, has, same) =
        subst Forth same
        (tied_at u.ties (inside 0 (own_tie a)) (forth (node_tie to_m a).one) (forth (node_tie to_m a).other)
        (in_first (own_tie a)
        (Contains-append_left (own_ties types i (suc j) m) (all_supply_ties types env ms) (own_tie a) (in_own types i (suc j) m a has)))
        (first_lifted a.one.place a.one.shake (one_stands types i (suc j) m a has))
        (first_lifted a.other.place a.other.shake (other_stands types i (suc j) m a has)))

    right_forth : (x : Tie) → Image (node_tie to_n) (child_ties types next last n) x → Forth x
    right_forth x (a, has, same) =
        let one = second_lifted a.one.place a.one.shake (one_stands types next last n a has) in
        let other = second_lifted a.other.place a.other.shake (other_stands types next last n a has) in
        let there =
        in_second (own_tie a)
        (Contains-append_left (own_ties types next last n) (all_supply_ties types env ks) (own_tie a) (in_own types next last n a has)) in
        let x1 : Dot = forth (node_tie to_n a).one in
        let x2 : Dot = forth (node_tie to_n a).other in
        let y1 : Dot = (inside 1 (own_tie a)).one in
        let y2 : Dot = (inside 1 (own_tie a)).other in
        subst Forth same
        (way_then u.ties x1 y1 x2 (way_back u.ties y1 x1 one)
        (way_then u.ties y1 y2 x2 (tied_at u.ties (inside 1 (own_tie a)) y1 y2 there refl refl) other))

    supply_way : (x : Tie) → OfSupplies types env ns x → Forth x
    supply_way x (k, has_k, has) = either (parted.either k has_k)
      where
        either : Contains ms k ⊎ Contains ks k → Forth x
        either (inl first) =
            let (one, other) = supply_forth true k x (of_supply types env k x has) (has_it k first) (supplied_m k first) in
            tied_at u.ties (inside 0 x) (forth x.one) (forth x.other)
            (in_first x (Contains-append_right (own_ties types i (suc j) m) (all_supply_ties types env ms) x (in_supplies types env ms k x first has)))
            one other
        either (inr second) =
            let (one, other) =
            supply_forth false k x (of_supply types env k x has) (has_not k (λ first. parted.apart k first second))
            (not_in_m k (λ some. apart.second k second some) (λ first. parted.apart k first second)) in
            tied_at u.ties (inside 1 x) (forth x.one) (forth x.other)
            (in_second x (Contains-append_right (own_ties types next last n) (all_supply_ties types env ks) x (in_supplies types env ks k x second has)))
            one other

    pub ties_forth : (x : Tie) → Contains w.ties x → Way u.ties (forth x.one) (forth x.other)
    ties_forth x has = by_part (Contains-append_cases (left ++ right) supplies x has)
      where
        by_child : Contains left x ⊎ Contains right x → Forth x
        by_child (inl first) = left_forth x (of_node to_m types i (suc j) m x first)
        by_child (inr second) = right_forth x (of_node to_n types next last n x second)

        by_part : Contains (left ++ right) x ⊎ Contains supplies x → Forth x
        by_part (inl first) = by_child (Contains-append_cases left right x first)
        by_part (inr later) = supply_way x (of_supplies types env ns x later)

    -- and ties of the union ways of the node
    sunk : (to : ℕ → Point) (c d : ℕ) (o : Numbered) (ls : List ℕ)
        → ((a : point_ties.Tie) → Contains (child_ties types c d o) a → Contains w.ties (node_tie to a)) → ((k : ℕ) → Contains ls k → Contains ns k)
        → (y : Tie) → Contains (own_ties types c d o ++ all_supply_ties types env ls) y → Way w.ties (sink to y.one) (sink to y.other)
    sunk to c d o ls among within_ns y has = by_part (Contains-append_cases (own_ties types c d o) (all_supply_ties types env ls) y has)
      where
        own : Image own_tie (child_ties types c d o) y → Way w.ties (sink to y.one) (sink to y.other)
        own (a, has_a, same) =
            subst (λ (z : Tie). Way w.ties (sink to z.one) (sink to z.other)) same
            (tied_at w.ties (node_tie to a) (sink to (own_tie a).one) (sink to (own_tie a).other) (among a has_a)
            (ap (λ (x : Dot). Within 0 x) (sym (lowered to a.one.place a.one.shake)))
            (ap (λ (x : Dot). Within 0 x) (sym (lowered to a.other.place a.other.shake))))

        supplied : OfSupplies types env ls y → Way w.ties (sink to y.one) (sink to y.other)
        supplied (k, has_k, has_y) =
            let (one, other) = supply_sink to k y (of_supply types env k y has_y) in
            tied_at w.ties y (sink to y.one) (sink to y.other)
            (Contains-append_right (left ++ right) supplies y (in_supplies types env ns k y (within_ns k has_k) has_y)) one other

        by_part : Contains (own_ties types c d o) y ⊎ Contains (all_supply_ties types env ls) y → Way w.ties (sink to y.one) (sink to y.other)
        by_part (inl first) = own (of_own types c d o y first)
        by_part (inr later) = supplied (of_supplies types env ls y later)

    in_left : (a : point_ties.Tie) → Contains (child_ties types i (suc j) m) a → Contains w.ties (node_tie to_m a)
    in_left a has =
        Contains-append_left (left ++ right) supplies (node_tie to_m a)
        (Contains-append_left left right (node_tie to_m a) (in_node to_m types i (suc j) m a has))

    in_right : (a : point_ties.Tie) → Contains (child_ties types next last n) a → Contains w.ties (node_tie to_n a)
    in_right a has =
        Contains-append_left (left ++ right) supplies (node_tie to_n a)
        (Contains-append_right left right (node_tie to_n a) (in_node to_n types next last n a has))

    abbrev Back : Tie → Type 0
    Back x = Way w.ties (back x.one) (back x.other)

    link_back : (h : ℕ) → h < size → Back (linked h)
    link_back h low =
        still w.ties (Within 0 (dot_of (to_m h))) (Within 0 (Node j h))
        (ap (λ (x : Point). Within 0 (dot_of x)) (to_first size (places.Node j) places.Result h low))

    pub ties_back : (x : Tie) → Contains u.ties x → Way w.ties (back x.one) (back x.other)
    ties_back x has =
        by_link (Contains-append_cases (within 0 vm.ties ++ (within 1 vn.ties ++ [])) (link_ties webs (results_linked 1 0 size)) x has)
      where
        first : Image (inside 0) vm.ties x → Back x
        first (y, among, same) = subst Back same (sunk to_m i (suc j) m ms in_left parted.first y among)

        second : Image (inside 1) vn.ties x → Back x
        second (y, among, same) = subst Back same (sunk to_n next last n ks in_right parted.second y among)

        none : Contains [] x → ⊥
        none (k, small, e) = omega (arith, small)

        row_back : (l : Link) → of_link l ≡ x → (h : ℕ) × (h < 0 + size) × (link 0 (ResultEnd h) 1 (ResultEnd h) ≡ l) → Back x
        row_back l is (h, low, same) = subst Back (ap of_link same ∙ is) (link_back h (omega (arith, low)))

        links : Image of_link (results_linked 1 0 size) x → Back x
        links (l, among, is) = row_back l is (of_links 0 size l among)

        by_last : Contains (within 1 vn.ties) x ⊎ Contains [] x → Back x
        by_last (inl inner) = second (of_image (inside 1) vn.ties x inner)
        by_last (inr no_tie) = absurd (none no_tie)

        by_web : Contains (within 0 vm.ties) x ⊎ Contains (within 1 vn.ties ++ []) x → Back x
        by_web (inl inner) = first (of_image (inside 0) vm.ties x inner)
        by_web (inr later) = by_last (Contains-append_cases (within 1 vn.ties) [] x later)

        by_link : Contains (within 0 vm.ties ++ (within 1 vn.ties ++ [])) x ⊎ Contains (link_ties webs (results_linked 1 0 size)) x → Back x
        by_link (inl inner) = by_web (Contains-append_cases (within 0 vm.ties) (within 1 vn.ties ++ []) x inner)
        by_link (inr link_tie) = links (of_image of_link (results_linked 1 0 size) x link_tie)
