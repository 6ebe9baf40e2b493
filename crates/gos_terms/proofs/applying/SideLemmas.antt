-- A node that projects is its child, with one side of its result left unjoined.
use Rattle.std.specs.Prelude.{◌≡◌, ℕ, zero, suc, ◌+◌, ◌-◌, ◌<◌, ◌≤◌, Bool, true, false, List, [], ◌∷◌, ◌++◌, ◌⊎◌, length, map, Option, Some, nat_eq, nat_lt, slice_get, Contains, if◌then◌else◌}
use Rattle.std.proofs.Common.{refl, sym, ◌∙◌, ap, subst, arith, inl, inr}
use Rattle.std.proofs.lemmas.Option.{slice_get_within}
use Rattle.std.proofs.lemmas.List.{append-nil}
use Rattle.std.proofs.lemmas.List.Elements.{Contains-append_left, Contains-append_right, Contains-append_cases}
use Rattle.std.proofs.lemmas.Bool.Decides.{nat_tests}
use Rattle.std.proofs.lemmas.Bool.{eq-eqb, ne_eqb}
use Rattle.gos_types.specs.Types.{Type'}
use Rattle.gos_model.specs.Typing.{Imported}
use Rattle.gos_check.specs.Nodes.{Numbered, type_of_node}
use Rattle.gos_plan.specs.Kinds.{Part, Contact}
use Rattle.gos_plan.specs.Plans.{End, PartEnd, ImportEnd, ResultEnd, Joint, Plan, contact_at}
use Rattle.gos_plan.specs.Joining.{Place as Spot, place, Link, LeftImport, all_left, left_in, left_place, origin, IsJoining}
use Rattle.gos_plan.proofs.ContactLemmas.{part_is_there, import_is_there}
use Rattle.gos_ties.specs.declared.points.Place.{Place}
use Rattle.gos_ties.specs.declared.points.Place.TheVariants as places
use Rattle.gos_ties.specs.declared.points.Point.{Point}
use Rattle.gos_ties.specs.declared.points.Tie as point_ties
use Rattle.gos_realises.specs.realises.Regular.{count}
use Rattle.gos_realises.specs.realises.Links.{IsJoined}
use Rattle.gos_realises.specs.realises.Wirings.{side}
use Rattle.gos_realises.proofs.realises.CountLemmas.{count_pair, below_count}
use Rattle.gos_realises.proofs.joined.WholeLemmas.{sides_are_joined}
use Rattle.gos_joining.specs.webs.Webs.{Dot, Of, Number, Node, Within, Tie, Web, Way, here, IsOfWeb}
use Rattle.gos_joining.specs.unions.Unions as unions
use Rattle.gos_joining.specs.unions.Unions.{within, union}
use Rattle.gos_joining.proofs.unions.UnionLemmas.{Image, of_image, in_image, joining_is_union}
use Rattle.gos_joining.specs.webs.Renumbering.{moved_end}
use Rattle.gos_joining.specs.renumbered.SmallRewirings.{unchanged}
use Rattle.gos_joining.proofs.renumbered.HigherLemmas.{unchanged_one}
use Rattle.gos_supplies.proofs.applications.SeamLemmas.{left_none, listed_at}
use Rattle.gos_supplies.proofs.applications.SideLemmas.{side_imports}
use Rattle.gos_compile.specs.Wiring.{Types, row, ties_of}
use Rattle.gos_terms.specs.wired.Wired.{Supplies, Placing, Source, Own, Supplied, source_dot, dot_at, dot_of_place, dot_of, dot_ties, all_supply_ties, wired_web}
use Rattle.gos_joining.proofs.weaving.CrossingLemmas.{still}
use Rattle.gos_joining.proofs.weaving.PlanLemmas.{web_has_plan}
use Rattle.gos_terms.specs.applying.Uses.{IsPlaced, IsSide, FirstIsSide, SecondIsSide}
use Rattle.gos_terms.proofs.applying.RenamedLemmas.{renamed_at, renamed, renamed_tie, ties_renamed}
use Rattle.gos_terms.proofs.applying.StandLemmas.{IsOf}
use Rattle.gos_terms.proofs.applying.RowLemmas.{to_two, to_first, to_second, rows_two}
use Rattle.gos_terms.proofs.applying.MatchingLemmas.{Matching, matched}
use Rattle.gos_terms.proofs.applying.SupplyLemmas.{inside, IsSupplyTie, OfNumber, of_number, tied_at}
use Rattle.gos_terms.proofs.applying.ChildLemmas.{lower, lowered, child_ties, own_ties, node_ties, own_tie, node_tie, of_own, in_own, of_node, in_node, one_stands, other_stands}

module _
    (to : ℕ → Point) (j k : ℕ) (shakes : ℕ → ℕ) where
  -- in the child, where the node's own point and its result stand for handshakes of the child's result
  abbrev lift : Dot → Dot
  lift (Of (PartEnd x h)) = Of (PartEnd x h)
  lift (Of (ImportEnd x h)) = Of (ImportEnd x h)
  lift (Of (ResultEnd h)) = Of (ResultEnd (k + h))
  lift (Number n h) = Number n h
  lift (Node n h) = if nat_eq n j then Of (ResultEnd (shakes h)) else Node n h
  lift (Within n d) = Within n d

  abbrev forth : Dot → Dot
  forth (Of e) = Of e
  forth (Number n h) = Number n h
  forth (Node n h) = Node n h
  forth (Within zero d) = Within 0 (Within 0 (lift d))
  forth (Within (suc n) d) = Within 0 (Within (suc n) d)

  abbrev sink : Dot → Dot
  sink (Of e) = Of e
  sink (Number n h) = Number n h
  sink (Node n h) = Node n h
  sink (Within zero d) = Within 0 (lower to d)
  sink (Within (suc n) d) = Within (suc n) d

  abbrev back : Dot → Dot
  back (Of e) = Of e
  back (Number n h) = Number n h
  back (Node n h) = Node n h
  back (Within n d) = sink d

  supply_forth : (n : ℕ) (t : Tie) → IsSupplyTie n t → (Within 0 t.one ≡ forth t.one) × (Within 0 t.other ≡ forth t.other)
  supply_forth n t (inl (y, same)) =
      (subst (λ (x : Tie). Within 0 x.one ≡ forth x.one) same refl, subst (λ (x : Tie). Within 0 x.other ≡ forth x.other) same refl)
  supply_forth n t (inr (h, same)) =
      (subst (λ (x : Tie). Within 0 x.one ≡ forth x.one) same refl, subst (λ (x : Tie). Within 0 x.other ≡ forth x.other) same refl)

  supply_sink : (n : ℕ) (t : Tie) → IsSupplyTie n t → (t.one ≡ sink t.one) × (t.other ≡ sink t.other)
  supply_sink n t (inl (y, same)) = (subst (λ (x : Tie). x.one ≡ sink x.one) same refl, subst (λ (x : Tie). x.other ≡ sink x.other) same refl)
  supply_sink n t (inr (h, same)) = (subst (λ (x : Tie). x.one ≡ sink x.one) same refl, subst (λ (x : Tie). x.other ≡ sink x.other) same refl)

  source_forth : (i h : ℕ) (o : Source) → forth (source_dot i o h) ≡ Within 0 (source_dot i o h)
  source_forth i h (Own n) = refl
  source_forth i h (Supplied m n) = refl

  source_sink : (i h : ℕ) (o : Source) → sink (source_dot i o h) ≡ source_dot i o h
  source_sink i h (Own n) = refl
  source_sink i h (Supplied m n) = refl

  module _
      (types : Types) (i : ℕ) (m : Numbered) (t : Type') (ns : List ℕ) (env : Supplies) (pl : Placing) (r p s : Plan) where
    abbrev supplies : List Tie
    supplies = all_supply_ties types env ns

    abbrev w : Web
    w = record { ties = node_ties to types i (suc j) m ++ supplies; at = dot_at i pl }

    abbrev v : Web
    v = wired_web types i (suc j) m ns env pl

    abbrev u : Web
    u = union (side k t p) (v ∷ [])

    module _
        (of_r : IsOfWeb w r) (of_p : IsOfWeb v p) (joins : IsJoining (side k t p) s)
        (parts : p.parts ≡ r.parts) (imports : p.imports ≡ r.imports) (outcome : r.outcome ≡ t)
        (returns : (h : ℕ) → h < count (type_of_node m) → lift (dot_of (to h)) ≡ Of (ResultEnd h))
        (results : (h : ℕ) → h < count t → dot_of (to (k + h)) ≡ Of (ResultEnd h)) where
      -- ties to ties
      lifted : (q : Place) (h : ℕ) → IsOf types i (suc j) m (count (type_of_node m)) q h → dot_of_place q h ≡ lift (dot_of (renamed_at to q h))
      lifted (places.Part n) h is = refl
      lifted (places.Import n) h is = absurd is
      lifted places.Result h is = sym (returns h is)
      lifted (places.Number n) h is = refl
      lifted (places.Node n) h (low, high) =
          let other : nat_eq n j ≡ false = ne_eqb n j (λ same. let f : n ≡ j = same in omega (arith, f, low)) in
          sym (ap (λ (b : Bool). if b then Of (ResultEnd (shakes h)) else Node n h) other)

      in_union : (y : Tie) → Contains v.ties y → Contains u.ties (inside 0 y)
      in_union y has =
          Contains-append_left (within 0 v.ties ++ []) [] (inside 0 y)
          (Contains-append_left (within 0 v.ties) [] (inside 0 y) (in_image (inside 0) v.ties y has))

      node_forth : (x : Tie) → Image (node_tie to) (child_ties types i (suc j) m) x → Way u.ties (forth x.one) (forth x.other)
      node_forth x (a, has, same) =
          subst (λ (y : Tie). Way u.ties (forth y.one) (forth y.other)) same
          (tied_at u.ties (inside 0 (own_tie a)) (forth (node_tie to a).one) (forth (node_tie to a).other)
          (in_union (own_tie a) (Contains-append_left (own_ties types i (suc j) m) supplies (own_tie a) (in_own types i (suc j) m a has)))
          (ap (λ (d : Dot). Within 0 (Within 0 d)) (lifted a.one.place a.one.shake (one_stands types i (suc j) m a has)))
          (ap (λ (d : Dot). Within 0 (Within 0 d)) (lifted a.other.place a.other.shake (other_stands types i (suc j) m a has))))

      ties_forth : (x : Tie) → Contains w.ties x → Way u.ties (forth x.one) (forth x.other)
      ties_forth x has = by_part (Contains-append_cases (node_ties to types i (suc j) m) supplies x has)
        where
          supplied : Contains supplies x → OfNumber ns x → Way u.ties (forth x.one) (forth x.other)
          supplied later (n, has_n, its) =
              let (one, other) = supply_forth n x its in
              tied_at u.ties (inside 0 x) (forth x.one) (forth x.other)
              (in_union x (Contains-append_right (own_ties types i (suc j) m) supplies x later)) one other

          by_part : Contains (node_ties to types i (suc j) m) x ⊎ Contains supplies x → Way u.ties (forth x.one) (forth x.other)
          by_part (inl first) = node_forth x (of_node to types i (suc j) m x first)
          by_part (inr later) = supplied later (of_number types env ns x later)

      own_back : (y : Tie) → Image own_tie (child_ties types i (suc j) m) y → Way w.ties (sink y.one) (sink y.other)
      own_back y (a, has, same) =
          subst (λ (z : Tie). Way w.ties (sink z.one) (sink z.other)) same
          (tied_at w.ties (node_tie to a) (sink (own_tie a).one) (sink (own_tie a).other)
          (Contains-append_left (node_ties to types i (suc j) m) supplies (node_tie to a) (in_node to types i (suc j) m a has))
          (ap (λ (d : Dot). Within 0 d) (sym (lowered to a.one.place a.one.shake)))
          (ap (λ (d : Dot). Within 0 d) (sym (lowered to a.other.place a.other.shake))))

      ties_sink : (y : Tie) → Contains v.ties y → Way w.ties (sink y.one) (sink y.other)
      ties_sink y has = by_part (Contains-append_cases (own_ties types i (suc j) m) supplies y has)
        where
          supplied : Contains supplies y → OfNumber ns y → Way w.ties (sink y.one) (sink y.other)
          supplied later (n, has_n, its) =
              let (one, other) = supply_sink n y its in
              tied_at w.ties y (sink y.one) (sink y.other) (Contains-append_right (node_ties to types i (suc j) m) supplies y later) one other

          by_part : Contains (own_ties types i (suc j) m) y ⊎ Contains supplies y → Way w.ties (sink y.one) (sink y.other)
          by_part (inl first) = own_back y (of_own types i (suc j) m y first)
          by_part (inr later) = supplied later (of_number types env ns y later)

      none : (x : Tie) → Contains [] x → ⊥
      none x (n, small, e) = omega (arith, small)

      ties_back : (x : Tie) → Contains u.ties x → Way w.ties (back x.one) (back x.other)
      ties_back x has = by_link (Contains-append_cases (within 0 v.ties ++ []) [] x has)
        where
          by_image : Image (inside 0) v.ties x → Way w.ties (back x.one) (back x.other)
          by_image (y, among, same) = subst (λ (z : Tie). Way w.ties (back z.one) (back z.other)) same (ties_sink y among)

          by_web : Contains (within 0 v.ties) x ⊎ Contains [] x → Way w.ties (back x.one) (back x.other)
          by_web (inl inner) = by_image (of_image (inside 0) v.ties x inner)
          by_web (inr no_tie) = absurd (none x no_tie)

          by_link : Contains (within 0 v.ties ++ []) x ⊎ Contains [] x → Way w.ties (back x.one) (back x.other)
          by_link (inl inner) = by_web (Contains-append_cases (within 0 v.ties) [] x inner)
          by_link (inr no_tie) = absurd (none x no_tie)

      -- ends to ends
      part_origin : (x h : ℕ) (c : Contact) → contact_at r (PartEnd x h) ≡ Some c → origin (side k t p) (PartEnd x h) ≡ place 0 (PartEnd x h)
      part_origin x h c at =
          let (y, is) = part_is_there (slice_get r.parts x) h c at in
          let low = slice_get_within r.parts x y is in
          let same : length p.parts ≡ length r.parts = ap length parts in
          let less : nat_lt x (length p.parts) ≡ true = grind (arith, nat_tests) in
          ap (λ (b : Bool). if b then place 0 (PartEnd x h) else place 1 (PartEnd (x - length p.parts) h)) less

      import_origin : (x h : ℕ) (c : Contact) → contact_at r (ImportEnd x h) ≡ Some c → origin (side k t p) (ImportEnd x h) ≡ place 0 (ImportEnd x h)
      import_origin x h c at =
          let (y, is) = import_is_there (slice_get r.imports x) h c at in
          let zeros : 0 + x ≡ x = omega arith in
          let here : slice_get p.imports x ≡ Some y = ap (λ (l : List Imported). slice_get l x) imports ∙ is in
          let left : slice_get (all_left (side k t p)) x ≡ Some (record { plan = 0; number = 0 + x; import = y }) =
          ap (λ (l : List LeftImport). slice_get l x) (append-nil (left_in [] 0 0 p.imports) ∙ left_none [] 0 (λ n. refl) 0 p.imports) ∙ listed_at 0 0 p.imports x y here in
          ap (λ (o : Option LeftImport). left_place o h) left ∙ ap (λ (n : ℕ). place 0 (ImportEnd n h)) zeros

      abbrev at_origin : Spot → Dot
      at_origin = unions.dot_at (v ∷ [])

      ends_forth : (e : End) (c : Contact) → contact_at r e ≡ Some c → Way u.ties (forth (w.at e)) (u.at (moved_end unchanged e))
      ends_forth (PartEnd x h) c at =
          still u.ties (forth (w.at (PartEnd x h))) (u.at (PartEnd x h))
          (source_forth i h (pl.source x) ∙ sym (ap at_origin (part_origin x h c at)))
      ends_forth (ImportEnd x h) c at =
          still u.ties (forth (w.at (ImportEnd x h))) (u.at (ImportEnd x h)) (sym (ap at_origin (import_origin x h c at)))
      ends_forth (ResultEnd h) c at = here (u.at (ResultEnd h))

      ends_back : (e : End) (c : Contact) → contact_at r e ≡ Some c → Way w.ties (back (u.at (moved_end unchanged e))) (w.at e)
      ends_back (PartEnd x h) c at =
          still w.ties (back (u.at (PartEnd x h))) (w.at (PartEnd x h))
          (ap (λ (o : Spot). back (at_origin o)) (part_origin x h c at) ∙ source_sink i h (pl.source x))
      ends_back (ImportEnd x h) c at =
          still w.ties (back (u.at (ImportEnd x h))) (w.at (ImportEnd x h)) (ap (λ (o : Spot). back (at_origin o)) (import_origin x h c at))
      ends_back (ResultEnd h) c at =
          let low = below_count r.outcome h c at in
          let same : count r.outcome ≡ count t = ap count outcome in
          still w.ties (back (u.at (ResultEnd h))) (w.at (ResultEnd h)) (ap (λ (d : Dot). Within 0 d) (results h (omega (arith, low, same))))

      none_link : (l : Link) → Contains [] l → ⊥
      none_link l (n, small, e) = omega (arith, small)

      pub side_matches : Matching unchanged w u r s
      side_matches =
          record {
            web = of_r;
            other_web = joining_is_union (side k t p) (v ∷ []) s (of_p, tt) (λ l has. absurd (none_link l has)) joins;
            one_to_one = unchanged_one;
            parts = λ n. ap (λ (xs : List Part). slice_get xs n) (joins.parts ∙ (append-nil p.parts ∙ parts));
            imports = λ n. ap (λ (xs : List Imported). slice_get xs n) (side_imports t k p s joins ∙ imports);
            outcome = joins.outcome ∙ sym outcome;
            forth = forth;
            back = back;
            ties_forth = ties_forth;
            ties_back = ties_back;
            ends_forth = ends_forth;
            ends_back = ends_back;
          }

-- a plan with the child's result, placed as the node's
abbrev of_child : Numbered → Plan → Plan
of_child m r = record r { outcome = type_of_node m }

from_zero : (h : ℕ) → Of (ResultEnd (0 + h)) ≡ Of (ResultEnd h)
from_zero h = let zeros : 0 + h ≡ h = omega arith in ap (λ (n : ℕ). Of (ResultEnd n)) zeros

module _
    (types : Types) (i j : ℕ) (m : Numbered) (t : Type') (k : ℕ) (ns : List ℕ) (env : Supplies) (pl : Placing) (r : Plan)
    (to : ℕ → Point) (shakes : ℕ → ℕ) where
  abbrev node_web : Web
  node_web = record { ties = node_ties to types i (suc j) m ++ all_supply_ties types env ns; at = dot_at i pl }

  abbrev child_web : Web
  child_web = wired_web types i (suc j) m ns env pl

  assembled : (js : List Joint) (s : Plan)
      → IsPlaced types m ns env pl (of_child m r) → IsOfWeb node_web r → IsOfWeb child_web (record (of_child m r) { joints = js })
      → IsJoined (side k t (record (of_child m r) { joints = js })) s → r.outcome ≡ t
      → ((h : ℕ) → h < count (type_of_node m) → lift to j k shakes (dot_of (to h)) ≡ Of (ResultEnd h))
      → ((h : ℕ) → h < count t → dot_of (to (k + h)) ≡ Of (ResultEnd h))
      → IsSide k t types i (suc j) m ns env r
  assembled js s is of_r of_p joined outcome returns results =
      record {
        child = record (of_child m r) { joints = js };
        side_of = s;
        placing = pl;
        numbers = unchanged;
        wired =
            record {
              outcome = is.outcome;
              parts = is.parts;
              no_more = is.no_more;
              imports = is.imports;
              no_import = is.no_import;
              web = of_p;
            };
        joined = joined;
        same =
            matched unchanged node_web (union (side k t (record (of_child m r) { joints = js })) (child_web ∷ [])) r s
            (side_matches to j k shakes types i m t ns env pl r (record (of_child m r) { joints = js }) s of_r of_p joined.joining refl refl outcome
            returns results);
      }

-- the node's ties are the child's, led elsewhere
moved_web : (types : Types) (i n : ℕ) (env : Supplies) (ns : List ℕ) (pl : Placing) (r : Plan) (ts us : List point_ties.Tie)
    → ts ≡ us → IsOfWeb (record { ties = within 0 (dot_ties ts) ++ all_supply_ties types env ns; at = dot_at i pl }) r
    → IsOfWeb (record { ties = within 0 (dot_ties us) ++ all_supply_ties types env ns; at = dot_at i pl }) r
moved_web types i n env ns pl r ts us same is =
    subst (λ (xs : List point_ties.Tie). IsOfWeb (record { ties = within 0 (dot_ties xs) ++ all_supply_ties types env ns; at = dot_at i pl }) r) same is

pub child_led : (types : Types) (i l j : ℕ) (m : Numbered) (to : ℕ → Point) (n k : ℕ) (out : List Point)
    → l ≡ i → count (type_of_node m) ≡ n + k → map (renamed to) (row places.Result 0 (n + k)) ≡ out
    → ties_of types l (suc j) m out ≡ map (renamed_tie to) (child_ties types i (suc j) m)
child_led types i l j m to n k out same counts led =
    ap (λ (n : ℕ). ties_of types n (suc j) m out) same
    ∙ (ap (ties_of types i (suc j) m) (sym led)
    ∙ (ap (λ (c : ℕ). ties_of types i (suc j) m (map (renamed to) (row places.Result 0 c))) (sym counts)
    ∙ sym (ties_renamed to types i (suc j) m (row places.Result 0 (count (type_of_node m))))))

pub first_is_side : FirstIsSide
first_is_side types i j t u m ns env pl r is of can =
    let placed : IsPlaced types m ns env pl (of_child m r) =
    record { outcome = refl; parts = is.parts; no_more = is.no_more; imports = is.imports; no_import = is.no_import } in
    let (fits, plain) = can pl (of_child m r) placed in
    let (js, of_p) = web_has_plan (wired_web types i (suc j) m ns env pl) (of_child m r) fits plain in
    let (s, joined) = (sides_are_joined t u (record (of_child m r) { joints = js }) of_p.right of).0 in
    let to : ℕ → Point = to_two (count t) places.Result (places.Node j) in
    let counts : count (type_of_node m) ≡ count t + count u = ap count of ∙ count_pair t u in
    let rest : count (type_of_node m) - count t ≡ count u = omega (arith, counts) in
    let led =
    child_led types i (i + 0 + 0) j m to (count t) (count u) (row places.Result 0 (count t) ++ row (places.Node j) 0 (count u)) (omega arith) counts
    (rows_two (count t) (count u) places.Result (places.Node j)) in
    let ties =
    ap (λ (n : ℕ). ties_of types (i + 0 + 0) (suc j) m (row places.Result 0 (count t) ++ row (places.Node j) 0 n)) rest ∙ led in
    let of_r =
    moved_web types i 0 env ns pl r
    (ties_of types (i + 0 + 0) (suc j) m (row places.Result 0 (count t) ++ row (places.Node j) 0 (count (type_of_node m) - count t)))
    (map (renamed_tie to) (child_ties types i (suc j) m)) ties is.web in
    assembled types i j m t 0 ns env pl r to (λ h. count t + h) js s placed of_r of_p joined is.outcome
    (returns (count t) j) (results (count t) j)
  where
    returns : (n j h : ℕ) → h < count (type_of_node m) → lift (to_two n places.Result (places.Node j)) j 0 (λ h. n + h) (dot_of (to_two n places.Result (places.Node j) h)) ≡ Of (ResultEnd h)
    returns n j h small = by_test (nat_lt h n) refl
      where
        by_test : (b : Bool) → nat_lt h n ≡ b → lift (to_two n places.Result (places.Node j)) j 0 (λ h. n + h) (dot_of (to_two n places.Result (places.Node j) h)) ≡ Of (ResultEnd h)
        by_test true low =
            ap (λ (q : Point). lift (to_two n places.Result (places.Node j)) j 0 (λ h. n + h) (dot_of q))
            (to_first n places.Result (places.Node j) h (grind (arith, nat_tests)))
            ∙ from_zero h
        by_test false high =
            let more : n ≤ h = grind (arith, nat_tests) in
            let same : n + (h - n) ≡ h = omega (arith, more) in
            ap (λ (q : Point). lift (to_two n places.Result (places.Node j)) j 0 (λ h. n + h) (dot_of q)) (to_second n places.Result (places.Node j) h more)
            ∙ (ap (λ (b : Bool). if b then Of (ResultEnd (n + (h - n))) else Node j (h - n)) (eq-eqb j j refl) ∙ ap (λ (x : ℕ). Of (ResultEnd x)) same)

    results : (n j h : ℕ) → h < n → dot_of (to_two n places.Result (places.Node j) (0 + h)) ≡ Of (ResultEnd h)
    results n j h small =
        let zeros : 0 + h ≡ h = omega arith in
        ap (λ (x : ℕ). dot_of (to_two n places.Result (places.Node j) x)) zeros ∙ ap dot_of (to_first n places.Result (places.Node j) h small)

pub second_is_side : SecondIsSide
second_is_side types i j t u m ns env pl r is of can =
    let placed : IsPlaced types m ns env pl (of_child m r) =
    record { outcome = refl; parts = is.parts; no_more = is.no_more; imports = is.imports; no_import = is.no_import } in
    let (fits, plain) = can pl (of_child m r) placed in
    let (js, of_p) = web_has_plan (wired_web types i (suc j) m ns env pl) (of_child m r) fits plain in
    let (s, joined) = (sides_are_joined t u (record (of_child m r) { joints = js }) of_p.right of).1 in
    let to : ℕ → Point = to_two (count t) (places.Node j) places.Result in
    let counts : count (type_of_node m) ≡ count t + count u = ap count of ∙ count_pair t u in
    let rest : count (type_of_node m) - count u ≡ count t = omega (arith, counts) in
    let led =
    child_led types i (i + 0 + 0) j m to (count t) (count u) (row (places.Node j) 0 (count t) ++ row places.Result 0 (count u)) (omega arith) counts
    (rows_two (count t) (count u) (places.Node j) places.Result) in
    let ties =
    ap (λ (n : ℕ). ties_of types (i + 0 + 0) (suc j) m (row (places.Node j) 0 n ++ row places.Result 0 (count u))) rest ∙ led in
    let of_r =
    moved_web types i 0 env ns pl r
    (ties_of types (i + 0 + 0) (suc j) m (row (places.Node j) 0 (count (type_of_node m) - count u) ++ row places.Result 0 (count u)))
    (map (renamed_tie to) (child_ties types i (suc j) m)) ties is.web in
    assembled types i j m u (count t) ns env pl r to (λ h. h) js s placed of_r of_p joined is.outcome
    (returns (count t) j) (results (count t) j)
  where
    returns : (n j h : ℕ) → h < count (type_of_node m) → lift (to_two n (places.Node j) places.Result) j n (λ h. h) (dot_of (to_two n (places.Node j) places.Result h)) ≡ Of (ResultEnd h)
    returns n j h small = by_test (nat_lt h n) refl
      where
        by_test : (b : Bool) → nat_lt h n ≡ b → lift (to_two n (places.Node j) places.Result) j n (λ h. h) (dot_of (to_two n (places.Node j) places.Result h)) ≡ Of (ResultEnd h)
        by_test true low =
            ap (λ (q : Point). lift (to_two n (places.Node j) places.Result) j n (λ h. h) (dot_of q))
            (to_first n (places.Node j) places.Result h (grind (arith, nat_tests)))
            ∙ ap (λ (b : Bool). if b then Of (ResultEnd h) else Node j h) (eq-eqb j j refl)
        by_test false high =
            let more : n ≤ h = grind (arith, nat_tests) in
            let same : n + (h - n) ≡ h = omega (arith, more) in
            ap (λ (q : Point). lift (to_two n (places.Node j) places.Result) j n (λ h. h) (dot_of q)) (to_second n (places.Node j) places.Result h more)
            ∙ ap (λ (x : ℕ). Of (ResultEnd x)) same

    results : (n j h : ℕ) → h < count u → dot_of (to_two n (places.Node j) places.Result (n + h)) ≡ Of (ResultEnd h)
    results n j h small =
        let less : (n + h) - n ≡ h = omega arith in
        ap dot_of (to_second n (places.Node j) places.Result (n + h) (omega arith)) ∙ ap (λ (x : ℕ). Of (ResultEnd x)) less
