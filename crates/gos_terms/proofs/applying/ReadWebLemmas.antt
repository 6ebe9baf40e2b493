-- The web of a node that reads a variable is, but for dots, the union of the variable's web and a Deref's.
use Rattle.std.specs.Prelude.{◌≡◌, ℕ, zero, suc, ◌+◌, ◌≤◌, Bool, false, List, [], ◌∷◌, ◌++◌, ◌⊎◌, nat_eq, Contains, if◌then◌else◌}
use Rattle.std.proofs.Common.{refl, sym, ap, subst, arith, inl, inr}
use Rattle.std.proofs.lemmas.List.Elements.{Contains-append_left, Contains-append_right, Contains-append_cases}
use Rattle.std.proofs.lemmas.Bool.{eq-eqb, ne_eqb}
use Rattle.gos_types.specs.Types.{Exp}
use Rattle.gos_check.specs.Nodes.{Numbered, type_of_node}
use Rattle.gos_plan.specs.Kinds as kinds
use Rattle.gos_plan.specs.Plans.{PartEnd, ImportEnd, ResultEnd, Plan}
use Rattle.gos_ties.specs.declared.points.Place.{Place}
use Rattle.gos_ties.specs.declared.points.Place.TheVariants as places
use Rattle.gos_ties.specs.declared.points.Point.{Point}
use Rattle.gos_ties.specs.Ties.{point}
use Rattle.gos_realises.specs.realises.Regular.{count}
use Rattle.gos_realises.specs.realises.Wirings.{lone, reading}
use Rattle.gos_joining.specs.webs.Webs.{Dot, Of, Number, Node, Within, Tie, tie, Web, Way, here, own_web}
use Rattle.gos_joining.proofs.webs.WayLemmas.{way_then, way_back}
use Rattle.gos_joining.specs.unions.Unions.{within, union}
use Rattle.gos_joining.proofs.unions.UnionLemmas.{Image, of_image, in_image}
use Rattle.gos_compile.specs.Wiring.{Types}
use Rattle.gos_terms.specs.wired.Wired.{Supplies, Placing, dot_at, dot_of_place, dot_of, all_supply_ties, wired_web}
use Rattle.gos_joining.proofs.weaving.CrossingLemmas.{still, first_or_later}
use Rattle.gos_terms.proofs.applying.RenamedLemmas.{renamed_at}
use Rattle.gos_terms.proofs.applying.StandLemmas.{IsOf}
use Rattle.gos_terms.proofs.applying.SupplyLemmas.{inside, IsSupplyTie, OfNumber, of_number, tied_at}
use Rattle.gos_terms.proofs.applying.ChildLemmas.{lowered, child_ties, own_ties, node_ties, own_tie, node_tie, of_own, in_own, of_node, in_node, one_stands, other_stands}
use Rattle.gos_terms.proofs.applying.ApplyWebLemmas.{sink, supply_sink}

-- the part that reads, alone
abbrev pub reader : ℕ → Plan
reader b = lone (kinds.Deref b) 1 (Exp b)

module _
    (types : Types) (i j b : ℕ) (m : Numbered) (ns : List ℕ) (env : Supplies) (pl pm : Placing) (p : Plan) where
  -- where the variable's handshakes lead: a read to the Deref, and a write to the node
  abbrev pub to_m : ℕ → Point
  to_m zero = point (places.Part i) 0
  to_m (suc h) = point (places.Node j) h

  abbrev pub reads : Tie
  reads = tie (Within 0 (Of (ResultEnd 0))) (Within 0 (Of (PartEnd i 1)))

  abbrev pub supplies : List Tie
  supplies = all_supply_ties types env ns

  abbrev pub child : List Tie
  child = node_ties to_m types (i + 1) (suc j) m

  abbrev pub w : Web
  w = record { ties = (reads ∷ child) ++ supplies; at = dot_at i pl }

  abbrev pub vm : Web
  vm = wired_web types (i + 1) (suc j) m ns env pm

  abbrev pub vr : Web
  vr = own_web (reader b)

  abbrev pub webs : List Web
  webs = vm ∷ vr ∷ []

  abbrev pub u : Web
  u = union (reading b p) webs

  abbrev pub lift : Dot → Dot
  lift (Of (PartEnd x h)) = if nat_eq x i then Within 1 (Of (PartEnd 0 h)) else Within 0 (Within 0 (Of (PartEnd x h)))
  lift (Of (ImportEnd x h)) = Within 0 (Within 0 (Of (ImportEnd x h)))
  lift (Of (ResultEnd h)) = Within 1 (Of (ResultEnd h))
  lift (Number k h) = Within 0 (Within 0 (Number k h))
  lift (Node k h) = if nat_eq k j then Within 0 (Within 0 (Of (ResultEnd (suc h)))) else Within 0 (Within 0 (Node k h))
  lift (Within k d) = Within 0 (Within 0 (Within k d))

  abbrev pub forth : Dot → Dot
  forth (Of e) = Of e
  forth (Number k h) = Number k h
  forth (Node k h) = Node k h
  forth (Within zero d) = lift d
  forth (Within (suc k) d) = Within 0 (Within (suc k) d)

  abbrev pub of_reader : Dot → Dot
  of_reader (Of (PartEnd x h)) = Within 0 (Of (PartEnd i h))
  of_reader (Of (ImportEnd x h)) = Within 0 (Of (ImportEnd x h))
  of_reader (Of (ResultEnd h)) = Within 0 (Of (ResultEnd h))
  of_reader (Number k h) = Within 0 (Number k h)
  of_reader (Node k h) = Within 0 (Node k h)
  of_reader (Within k d) = Within 0 (Within k d)

  abbrev pub back : Dot → Dot
  back (Of e) = Of e
  back (Number k h) = Number k h
  back (Node k h) = Node k h
  back (Within zero d) = sink to_m d
  back (Within (suc k) d) = of_reader d

  abbrev linked : Tie
  linked = tie (Within 0 (Within 0 (Of (ResultEnd 0)))) (Within 1 (Of (PartEnd 0 0)))

  abbrev served : Tie
  served = tie (Of (ResultEnd 0)) (Of (PartEnd 0 1))

  -- the ties of the union
  in_first : (y : Tie) → Contains vm.ties y → Contains u.ties (inside 0 y)
  in_first y has =
      Contains-append_left (within 0 vm.ties ++ (within 1 vr.ties ++ [])) (linked ∷ []) (inside 0 y)
      (Contains-append_left (within 0 vm.ties) (within 1 vr.ties ++ []) (inside 0 y) (in_image (inside 0) vm.ties y has))

  in_reader : Contains u.ties (inside 1 served)
  in_reader =
      Contains-append_left (within 0 vm.ties ++ (within 1 vr.ties ++ [])) (linked ∷ []) (inside 1 served)
      (Contains-append_right (within 0 vm.ties) (within 1 vr.ties ++ []) (inside 1 served) (0, omega arith, refl))

  in_link : Contains u.ties linked
  in_link = Contains-append_right (within 0 vm.ties ++ (within 1 vr.ties ++ [])) (linked ∷ []) linked (0, omega arith, refl)

  -- dots of the node, in the union
  pub own_part : (x h : ℕ) → x ≡ i → Within 1 (Of (PartEnd 0 h)) ≡ lift (Of (PartEnd x h))
  own_part x h same =
      sym (ap (λ (c : Bool). if c then Within 1 (Of (PartEnd 0 h)) else Within 0 (Within 0 (Of (PartEnd x h)))) (eq-eqb x i same))

  pub other_part : (x h : ℕ) → i + 1 ≤ x → Within 0 (Within 0 (Of (PartEnd x h))) ≡ lift (Of (PartEnd x h))
  other_part x h low =
      let other : nat_eq x i ≡ false = ne_eqb x i (λ same. let f : x ≡ i = same in omega (arith, f, low)) in
      sym (ap (λ (c : Bool). if c then Within 1 (Of (PartEnd 0 h)) else Within 0 (Within 0 (Of (PartEnd x h)))) other)

  lifted : (x : Place) (h : ℕ) → IsOf types (i + 1) (suc j) m (count (type_of_node m)) x h
      → Way u.ties (Within 0 (Within 0 (dot_of_place x h))) (lift (dot_of (renamed_at to_m x h)))
  lifted (places.Part k) h (low, high) =
      still u.ties (Within 0 (Within 0 (Of (PartEnd k h)))) (lift (Of (PartEnd k h))) (other_part k h low)
  lifted (places.Import k) h is = absurd is
  lifted places.Result zero is =
      tied_at u.ties linked (Within 0 (Within 0 (Of (ResultEnd zero)))) (lift (Of (PartEnd i 0))) in_link refl (own_part i 0 refl)
  lifted places.Result (suc h) is =
      still u.ties (Within 0 (Within 0 (Of (ResultEnd (suc h))))) (lift (Node j h))
      (sym
      (ap (λ (c : Bool). if c then Within 0 (Within 0 (Of (ResultEnd (suc h)))) else Within 0 (Within 0 (Node j h))) (eq-eqb j j refl)))
  lifted (places.Number k) h is = here (Within 0 (Within 0 (Number k h)))
  lifted (places.Node k) h (low, high) =
      let other : nat_eq k j ≡ false = ne_eqb k j (λ same. let f : k ≡ j = same in omega (arith, f, low)) in
      still u.ties (Within 0 (Within 0 (Node k h))) (lift (Node k h))
      (sym (ap (λ (c : Bool). if c then Within 0 (Within 0 (Of (ResultEnd (suc h)))) else Within 0 (Within 0 (Node k h))) other))

  supply_forth : (k : ℕ) (x : Tie) → IsSupplyTie k x → (Within 0 x.one ≡ forth x.one) × (Within 0 x.other ≡ forth x.other)
  supply_forth k x (inl (y, same)) =
      (subst (λ (z : Tie). Within 0 z.one ≡ forth z.one) same refl, subst (λ (z : Tie). Within 0 z.other ≡ forth z.other) same refl)
  supply_forth k x (inr (h, same)) =
      (subst (λ (z : Tie). Within 0 z.one ≡ forth z.one) same refl, subst (λ (z : Tie). Within 0 z.other ≡ forth z.other) same refl)

  -- ties of the node are ways of the union
  abbrev Forth : Tie → Type 0
  Forth x = Way u.ties (forth x.one) (forth x.other)

  child_forth : (x : Tie) → Image (node_tie to_m) (child_ties types (i + 1) (suc j) m) x → Forth x
  child_forth x (a, has, same) =
      let one = lifted a.one.place a.one.shake (one_stands types (i + 1) (suc j) m a has) in
      let other = lifted a.other.place a.other.shake (other_stands types (i + 1) (suc j) m a has) in
      let there =
      in_first (own_tie a)
      (Contains-append_left (own_ties types (i + 1) (suc j) m) supplies (own_tie a) (in_own types (i + 1) (suc j) m a has))
      in
      let x1 : Dot = forth (node_tie to_m a).one in
      let x2 : Dot = forth (node_tie to_m a).other in
      let y1 : Dot = (inside 0 (own_tie a)).one in
      let y2 : Dot = (inside 0 (own_tie a)).other in
      subst Forth same
      (way_then u.ties x1 y1 x2 (way_back u.ties y1 x1 one)
      (way_then u.ties y1 y2 x2 (tied_at u.ties (inside 0 (own_tie a)) y1 y2 there refl refl) other))

  reads_forth : Forth reads
  reads_forth =
      tied_at u.ties (inside 1 served) (Within 1 (Of (ResultEnd 0))) (lift (Of (PartEnd i 1))) in_reader refl (own_part i 1 refl)

  supplied_forth : (x : Tie) → Contains supplies x → OfNumber ns x → Forth x
  supplied_forth x has (k, has_k, its) =
      let (one, other) = supply_forth k x its in
      tied_at u.ties (inside 0 x) (forth x.one) (forth x.other)
      (in_first x (Contains-append_right (own_ties types (i + 1) (suc j) m) supplies x has)) one other

  pub ties_forth : (x : Tie) → Contains w.ties x → Way u.ties (forth x.one) (forth x.other)
  ties_forth x has = by_part (Contains-append_cases (reads ∷ child) supplies x has)
    where
      by_own : (reads ≡ x) ⊎ Contains child x → Forth x
      by_own (inl same) = subst Forth same reads_forth
      by_own (inr later) = child_forth x (of_node to_m types (i + 1) (suc j) m x later)

      by_part : Contains (reads ∷ child) x ⊎ Contains supplies x → Forth x
      by_part (inl first) = by_own (first_or_later child reads x first)
      by_part (inr later) = supplied_forth x later (of_number types env ns x later)

  -- and ties of the union ways of the node
  later_tie : (x : Tie) → Contains child x → Contains (reads ∷ child) x
  later_tie x (n, small, e) = (suc n, omega (arith, small), e)

  sunk : (y : Tie) → Contains vm.ties y → Way w.ties (sink to_m y.one) (sink to_m y.other)
  sunk y has = by_part (Contains-append_cases (own_ties types (i + 1) (suc j) m) supplies y has)
    where
      own : Image own_tie (child_ties types (i + 1) (suc j) m) y → Way w.ties (sink to_m y.one) (sink to_m y.other)
      own (a, has_a, same) =
          subst (λ (z : Tie). Way w.ties (sink to_m z.one) (sink to_m z.other)) same
          (tied_at w.ties (node_tie to_m a) (sink to_m (own_tie a).one) (sink to_m (own_tie a).other)
          (Contains-append_left (reads ∷ child) supplies (node_tie to_m a)
          (later_tie (node_tie to_m a) (in_node to_m types (i + 1) (suc j) m a has_a)))
          (ap (λ (x : Dot). Within 0 x) (sym (lowered to_m a.one.place a.one.shake)))
          (ap (λ (x : Dot). Within 0 x) (sym (lowered to_m a.other.place a.other.shake))))

      supplied : Contains supplies y → OfNumber ns y → Way w.ties (sink to_m y.one) (sink to_m y.other)
      supplied later (k, has_k, its) =
          let (one, other) = supply_sink to_m k y its in
          tied_at w.ties y (sink to_m y.one) (sink to_m y.other) (Contains-append_right (reads ∷ child) supplies y later) one other

      by_part : Contains (own_ties types (i + 1) (suc j) m) y ⊎ Contains supplies y → Way w.ties (sink to_m y.one) (sink to_m y.other)
      by_part (inl first) = own (of_own types (i + 1) (suc j) m y first)
      by_part (inr later) = supplied later (of_number types env ns y later)

  abbrev Back : Tie → Type 0
  Back x = Way w.ties (back x.one) (back x.other)

  none : (x : Tie) → Contains [] x → ⊥
  none x (k, small, e) = omega (arith, small)

  served_back : Back (inside 1 served)
  served_back =
      tied_at w.ties reads (Within 0 (Of (ResultEnd 0))) (Within 0 (Of (PartEnd i 1)))
      (Contains-append_left (reads ∷ child) supplies reads (0, omega arith, refl)) refl refl

  linked_back : Back linked
  linked_back = here (Within 0 (Of (PartEnd i 0)))

  pub ties_back : (x : Tie) → Contains u.ties x → Way w.ties (back x.one) (back x.other)
  ties_back x has = by_link (Contains-append_cases (within 0 vm.ties ++ (within 1 vr.ties ++ [])) (linked ∷ []) x has)
    where
      first : Image (inside 0) vm.ties x → Back x
      first (y, among, same) = subst Back same (sunk y among)

      by_one : (inside 1 served ≡ x) ⊎ Contains [] x → Back x
      by_one (inl same) = subst Back same served_back
      by_one (inr no_tie) = absurd (none x no_tie)

      by_only : (linked ≡ x) ⊎ Contains [] x → Back x
      by_only (inl same) = subst Back same linked_back
      by_only (inr no_tie) = absurd (none x no_tie)

      by_web : Contains (within 0 vm.ties) x ⊎ Contains (within 1 vr.ties ++ []) x → Back x
      by_web (inl inner) = first (of_image (inside 0) vm.ties x inner)
      by_web (inr later) = by_one (first_or_later [] (inside 1 served) x later)

      by_link : Contains (within 0 vm.ties ++ (within 1 vr.ties ++ [])) x ⊎ Contains (linked ∷ []) x → Back x
      by_link (inl inner) = by_web (Contains-append_cases (within 0 vm.ties) (within 1 vr.ties ++ []) x inner)
      by_link (inr last) = by_only (first_or_later [] linked x last)
