-- A variable that is read: the plan of its supply joined to the Deref, whose web is the union of both.
use Rattle.std.specs.Prelude.{◌≡◌, ℕ, zero, suc, ◌+◌, ◌<◌, ◌⊎◌, Bool, true, false, ◌||◌, ◌&&◌, List, [], ◌∷◌, ◌++◌, length, map, Option, Some, None, Contains, slice_get, nat_eq}
use Rattle.std.proofs.Common.{refl, sym, ◌∙◌, ap, subst, arith, inl, inr}
use Rattle.std.proofs.lemmas.Option.{slice_get_within}
use Rattle.std.proofs.lemmas.List.Elements.{Contains-append_left, Contains-append_right, Contains-append_cases}
use Rattle.gos_types.specs.Types.{Type', Exp, Var}
use Rattle.gos_model.specs.Terms.{Deref}
use Rattle.gos_model.specs.Typing.{Imported}
use Rattle.gos_check.specs.Nodes.{Numbered, Use, One, OfDeref}
use Rattle.gos_plan.specs.Kinds as kinds
use Rattle.gos_plan.specs.Kinds.{Part}
use Rattle.gos_plan.specs.Plans.{End, PartEnd, ImportEnd, ResultEnd, Plan, IsRight}
use Rattle.gos_plan.specs.Joining.{Place, place, Link, LeftImport, is_joined, all_left, all_parts, part_place, left_place}
use Rattle.gos_ties.specs.declared.points.Place.TheVariants as places
use Rattle.gos_ties.specs.declared.points.Tie as point_ties
use Rattle.gos_ties.specs.Ties as paths
use Rattle.gos_ties.specs.Ties.{point}
use Rattle.gos_realises.specs.realises.Regular.{count}
use Rattle.gos_realises.specs.realises.Wirings.{lone, link, reading}
use Rattle.gos_realises.specs.realises.Links.{IsJoined}
use Rattle.gos_realises.proofs.realises.LeftLemmas.{left_list, left_all, imports_left, left_at}
use Rattle.gos_realises.proofs.joined.OriginLemmas.{before, PartOf, part_of}
use Rattle.gos_realises.proofs.joined.WholeLemmas.{variables_are_joined}
use Rattle.gos_joining.specs.webs.Webs.{Dot, Of, Number, Node, Within, Tie, tie, Web, Way, here, along, IsOfWeb, own_web}
use Rattle.gos_joining.proofs.webs.WebLemmas.{right_is_of_its_web}
use Rattle.gos_joining.proofs.webs.WayLemmas.{one_way}
use Rattle.gos_joining.specs.unions.Unions.{within, all_within, dot_at, link_ties, union}
use Rattle.gos_joining.proofs.unions.UnionLemmas.{Image, of_image, in_image, joining_is_union}
use Rattle.gos_joining.proofs.unions.DeepLemmas.{place_of_part}
use Rattle.gos_joining.proofs.unions.FlatFitLemmas.{links_stand}
use Rattle.gos_compile.specs.Wiring.{Types, row, ties_of}
use Rattle.gos_terms.specs.wired.Wired.{dot_of, Supplies, Source, Own, Supplied, Origin, IsFrom, source_dot, wired_ties}
use Rattle.gos_terms.proofs.wired.NumberLemmas.{part_there}
use Rattle.gos_supplies.specs.unjoined.Homes.{AreHome}
use Rattle.gos_terms.specs.leaves.Leaves.{ReadIsRealised}
use Rattle.gos_terms.proofs.leaves.TieLemmas.{if_number, same_number, other_number, own_tie, inner_tie, outer_tie, by_tie}
use Rattle.gos_terms.proofs.leaves.SupplyLemmas.{import_by, part_is, import_is, other_one, at_home, both_home}
use Rattle.gos_terms.proofs.leaves.LeafLemmas.{Leaf, leaf_realises}

-- the part that reads, alone
abbrev reader : ℕ → Plan
reader w = lone (kinds.Deref w) 1 (Exp w)

reader_right : (w : ℕ) → IsRight (reader w)
reader_right w = (((0, w, refl, refl), refl, refl), tt)

abbrev read_link : Link
read_link = link 0 (ResultEnd 0) 1 (PartEnd 0 0)

none_joined : (k i : ℕ) → is_joined (read_link ∷ []) k i ≡ false
none_joined k i = let one = none (nat_eq 0 k) in let other = none (nat_eq 1 k) in λ j. (one j || other j) || false
  where
    none : (b : Bool) → (b && false) ≡ false
    none true = refl
    none false = refl

reading_left : (w : ℕ) (p : Plan) → all_left (reading w p) ≡ left_list 0 0 p.imports ++ []
reading_left w p = ap (λ (ls : List LeftImport). ls ++ []) (left_all (read_link ∷ []) 0 (none_joined 0) 0 p.imports)

-- where a part of the joining comes from: the variable's plan is plan 0
abbrev from_plan : ℕ → ℕ → ℕ → Source
from_plan n zero k = Supplied n k
from_plan n (suc m) k = Own k

abbrev part_number : End → ℕ
part_number (PartEnd i h) = i
part_number (ImportEnd i h) = 0
part_number (ResultEnd h) = 0

abbrev source_of : ℕ → Place → Source
source_of n a = from_plan n a.plan (part_number a.end)

-- a part of the supply of n, or the Deref, which comes after so many
abbrev pick : ℕ → ℕ → Source → Option ℕ
pick n size (Own zero) = Some size
pick n size (Own (suc k)) = None
pick n size (Supplied m k) = if_number m n k

-- The dots of both: the number's and the node's lead to the variable's result.
abbrev home_own : ℕ → ℕ → ℕ → Dot → Option Dot
home_own p j n (Of (PartEnd q h)) = if_number q p (Within 1 (Of (PartEnd 0 h)))
home_own p j n (Of (ImportEnd q h)) = None
home_own p j n (Of (ResultEnd h)) = Some (Within 1 (Of (ResultEnd (0 + h))))
home_own p j n (Number m h) = if_number m n (Within 0 (Of (ResultEnd h)))
home_own p j n (Node q h) = if_number q j (Within 0 (Of (ResultEnd (suc h))))
home_own p j n (Within m d) = None

abbrev home : ℕ → ℕ → ℕ → Dot → Option Dot
home p j n (Of e) = None
home p j n (Number m h) = None
home p j n (Node m h) = None
home p j n (Within zero d) = home_own p j n d
home p j n (Within (suc m) d) = if_number m n (Within 0 d)

abbrev out_own : ℕ → Dot → Dot
out_own p (Of (PartEnd k h)) = Within 0 (Of (PartEnd p h))
out_own p (Of (ImportEnd k h)) = Of (ImportEnd k h)
out_own p (Of (ResultEnd h)) = Within 0 (Of (ResultEnd h))
out_own p (Number m h) = Number m h
out_own p (Node m h) = Node m h
out_own p (Within m d) = Within m d

abbrev out : ℕ → ℕ → Dot → Dot
out p n (Of e) = Of e
out p n (Number m h) = Number m h
out p n (Node m h) = Node m h
out p n (Within zero d) = Within (suc n) d
out p n (Within (suc m) d) = out_own p d

module _ (types : Types) (i j w n : ℕ) (ns : List ℕ) (env : Supplies) (has : Contains ns n) (same : types n ≡ Var w)
    (right : IsRight (env n).plan) (s : Plan) (joined : IsJoined (reading w (env n).plan) s)
  where
    abbrev node : Numbered
    node = One (Exp w) [] OfDeref (Use (Var w) [] n)

    abbrev p : Plan
    p = (env n).plan

    abbrev ps : List Plan
    ps = p ∷ reader w ∷ []

    abbrev ws : List Web
    ws = own_web p ∷ own_web (reader w) ∷ []

    abbrev v : Web
    v = union (reading w p) ws

    abbrev w_ties : List Tie
    w_ties = wired_ties types i j node ns env

    abbrev inside : ℕ → Tie → Tie
    inside k t = tie (Within k t.one) (Within k t.other)

    abbrev all_links : List Tie
    all_links = link_ties ws (read_link ∷ [])

    -- the ties of the union
    abbrev read_tie : Tie
    read_tie = tie (Within 1 (Of (ResultEnd 0))) (Within 1 (Of (PartEnd 0 1)))

    abbrev join_tie : Tie
    join_tie = tie (Within 0 (Of (ResultEnd 0))) (Within 1 (Of (PartEnd 0 0)))

    of_variable : (t : Tie) → Contains (own_web p).ties t → Contains v.ties (inside 0 t)
    of_variable t there =
        Contains-append_left (all_within 0 ws) all_links (inside 0 t)
        (Contains-append_left (within 0 (own_web p).ties) (read_tie ∷ []) (inside 0 t) (in_image (inside 0) (own_web p).ties t there))

    of_reader : Contains v.ties read_tie
    of_reader =
        Contains-append_left (all_within 0 ws) all_links read_tie
        (Contains-append_right (within 0 (own_web p).ties) (read_tie ∷ []) read_tie (0, omega arith, refl))

    of_link : Contains v.ties join_tie
    of_link = Contains-append_right (all_within 0 ws) all_links join_tie (0, omega arith, refl)

    by_union : (P : Dot → Dot → Type 0) → ((t : Tie) → Contains (own_web p).ties t → P (Within 0 t.one) (Within 0 t.other))
        → P read_tie.one read_tie.other → P join_tie.one join_tie.other → (t : Tie) → Contains v.ties t → P t.one t.other
    by_union P variable read join t there = by_side (Contains-append_cases (all_within 0 ws) all_links t there)
      where
        moved : (u : Tie) → u ≡ t → P u.one u.other → P t.one t.other
        moved u e h = subst (λ (x : Tie). P x.one x.other) e h

        by_variable : Image (inside 0) (own_web p).ties t → P t.one t.other
        by_variable (u, among, e) = moved (inside 0 u) e (variable u among)

        by_reader : Contains (read_tie ∷ []) t → P t.one t.other
        by_reader (zero, small, e) = moved read_tie e read
        by_reader (suc k, small, e) = absurd (omega (arith, small))

        by_plan : Contains (within 0 (own_web p).ties) t ⊎ Contains (read_tie ∷ []) t → P t.one t.other
        by_plan (inl h) = by_variable (of_image (inside 0) (own_web p).ties t h)
        by_plan (inr h) = by_reader h

        by_link : Contains all_links t → P t.one t.other
        by_link (zero, small, e) = moved join_tie e join
        by_link (suc k, small, e) = absurd (omega (arith, small))

        by_side : Contains (all_within 0 ws) t ⊎ Contains all_links t → P t.one t.other
        by_side (inl h) = by_plan (Contains-append_cases (within 0 (own_web p).ties) (read_tie ∷ []) t h)
        by_side (inr h) = by_link h

    of_web : IsOfWeb v s
    of_web =
        joining_is_union (reading w p) ws s (right_is_of_its_web p right, (right_is_of_its_web (reader w) (reader_right w), tt))
        (links_stand (reading w p) joined.fits) joined.joining

    -- imports
    imports_same : s.imports ≡ p.imports
    imports_same =
        joined.joining.imports ∙ (ap (map (λ (l : LeftImport). l.import)) (reading_left w p) ∙ imports_left 0 0 p.imports)

    import_dot : (k h : ℕ) (x : Imported) → slice_get s.imports k ≡ Some x → v.at (ImportEnd k h) ≡ Within 0 (Of (ImportEnd k h))
    import_dot k h x at =
        let there : slice_get p.imports k ≡ Some x = sym (ap (λ (is : List Imported). slice_get is k) imports_same) ∙ at in
        let zeros : 0 + k ≡ k = omega arith in
        ap (λ (ls : List LeftImport). dot_at ws (left_place (slice_get ls k) h)) (reading_left w p)
        ∙ (ap (λ (o : Option LeftImport). dot_at ws (left_place o h)) (left_at 0 0 p.imports k x there)
        ∙ (λ a. Within 0 (Of (ImportEnd (zeros a) h))))

    -- a part of the joining is one of the variable's plan, or the Deref
    abbrev IsFirst : ℕ → Part → Type 0
    IsFirst k x = (slice_get p.parts k ≡ Some x) × ((h : ℕ) → part_place 0 ps k h ≡ place 0 (PartEnd k h))

    abbrev IsReader : ℕ → Part → Type 0
    IsReader k x = (k ≡ length p.parts) × (kinds.Deref w ≡ x) × ((h : ℕ) → part_place 0 ps k h ≡ place 1 (PartEnd 0 h))

    sort : (k : ℕ) (x : Part) → slice_get s.parts k ≡ Some x → IsFirst k x ⊎ IsReader k x
    sort k x at = by_plan (part_of 0 ps k x (ap (λ (ks : List Part). slice_get ks k) (sym joined.joining.parts) ∙ at))
      where
        by_number : (plan part : ℕ) (of : Plan) → k ≡ before ps plan + part → ((h : ℕ) → part_place 0 ps k h ≡ place (0 + plan) (PartEnd part h))
            → slice_get ps plan ≡ Some of → slice_get of.parts part ≡ Some x → IsFirst k x ⊎ IsReader k x
        by_number zero part of number stands is there =
            let one : part ≡ k = omega (arith, number) in
            let of_p : p ≡ of = cc is in
            let there_p : slice_get p.parts part ≡ Some x = ap (λ (q : Plan). slice_get q.parts part) of_p ∙ there in
            inl (subst (λ (a : ℕ). slice_get p.parts a ≡ Some x) one there_p, (λ h. stands h ∙ (λ a. place 0 (PartEnd (one a) h))))
        by_number (suc zero) zero of number stands is there =
            let of_reader : reader w ≡ of = cc is in
            let there_r : slice_get (reader w).parts 0 ≡ Some x = ap (λ (q : Plan). slice_get q.parts 0) of_reader ∙ there in
            inr (omega (arith, number), cc there_r, stands)
        by_number (suc zero) (suc part) of number stands is there =
            let of_reader : reader w ≡ of = cc is in
            let none : None ≡ Some x = ap (λ (q : Plan). slice_get q.parts (suc part)) of_reader ∙ there in
            absurd (cc none)
        by_number (suc (suc plan)) part of number stands is there = absurd (cc is)

        by_plan : PartOf 0 ps k x → IsFirst k x ⊎ IsReader k x
        by_plan a = by_number a.plan a.part a.of a.number a.stands a.is a.has

    abbrev source : ℕ → Source
    source k = source_of n (part_place 0 ps k 0)

    abbrev size : ℕ
    size = length p.parts

    first_source : (k : ℕ) (x : Part) → IsFirst k x → source k ≡ Supplied n k
    first_source k x first = ap (source_of n) (first.1 0)

    reader_source : (k : ℕ) (x : Part) → IsReader k x → source k ≡ Own 0
    reader_source k x reads = ap (source_of n) (reads.2 0)

    parts : (k : ℕ) (x : Part) → slice_get s.parts k ≡ Some x → IsFrom (kinds.Deref w ∷ []) ns env x (source k) × (pick n size (source k) ≡ Some k)
    parts k x at = by_sort (sort k x at)
      where
        by_sort : IsFirst k x ⊎ IsReader k x → IsFrom (kinds.Deref w ∷ []) ns env x (source k) × (pick n size (source k) ≡ Some k)
        by_sort (inl first) =
            let from = sym (first_source k x first) in (
              subst (IsFrom (kinds.Deref w ∷ []) ns env x) from (has, first.0),
              subst (λ (a : Source). pick n size a ≡ Some k) from (same_number n n k refl),
            )
        by_sort (inr reads) =
            let from = sym (reader_source k x reads) in (
              subst (IsFrom (kinds.Deref w ∷ []) ns env x) from (ap Some reads.1),
              subst (λ (a : Source). pick n size a ≡ Some k) from (ap Some (sym reads.0)),
            )

    -- and each of these is one
    first_there : (k : ℕ) (x : Part) → slice_get p.parts k ≡ Some x → (source k ≡ Supplied n k) × (slice_get s.parts k ≡ Some x)
    first_there k x there =
        let zeros : 0 + k ≡ k = omega arith in
        let low = slice_get_within p.parts k x there in (
          subst (λ (a : ℕ). source a ≡ Supplied n k) zeros (ap (source_of n) (place_of_part 0 ps 0 k 0 p refl low)),
          ap (λ (ks : List Part). slice_get ks k) joined.joining.parts
              ∙ subst (λ (a : ℕ). slice_get (all_parts ps) a ≡ Some x) zeros (part_there ps 0 k p x refl there),
        )

    reader_there : (x : Part) → slice_get (kinds.Deref w ∷ []) 0 ≡ Some x → (source size ≡ Own 0) × (slice_get s.parts size ≡ Some x)
    reader_there x there =
        let zeros : size + 0 + 0 ≡ size = omega arith in (
          subst (λ (a : ℕ). source a ≡ Own 0) zeros (ap (source_of n) (place_of_part 0 ps 1 0 0 (reader w) refl (omega arith))),
          ap (λ (ks : List Part). slice_get ks size) joined.joining.parts
              ∙ subst (λ (a : ℕ). slice_get (all_parts ps) a ≡ Some x) zeros (part_there ps 1 0 (reader w) x refl there),
        )

    parts_back : (a : Source) (x : Part) (k : ℕ) → IsFrom (kinds.Deref w ∷ []) ns env x a → pick n size a ≡ Some k
        → (source k ≡ a) × (slice_get s.parts k ≡ Some x)
    parts_back (Own zero) x k from picked =
        let e : size ≡ k = cc picked in
        subst (λ (b : ℕ). (source b ≡ Own 0) × (slice_get s.parts b ≡ Some x)) e (reader_there x from)
    parts_back (Own (suc l)) x k from picked = absurd (cc picked)
    parts_back (Supplied m l) x k (among, from) picked =
        let (one, there) = part_is env n m l k x from picked in
        let (source, at) = first_there k x there in
        (source ∙ one, at)

    imports_back : (o : Origin) (x : Imported) (k : ℕ) → slice_get (env o.number).plan.imports o.import ≡ Some x → import_by n o ≡ Some k
        → (record { number = n; import = k } ≡ o) × (slice_get s.imports k ≡ Some x)
    imports_back o x k from picked =
        let (one, there) = import_is env n o x k from picked in (one, ap (λ (is : List Imported). slice_get is k) imports_same ∙ there)

    import_from : (k : ℕ) (x : Imported) → slice_get s.imports k ≡ Some x → slice_get p.imports k ≡ Some x
    import_from k x at = sym (ap (λ (is : List Imported). slice_get is k) imports_same) ∙ at

    -- the node's ties
    abbrev into_reader : point_ties.Tie
    into_reader = paths.tie (point places.Result 0) (point (places.Part (i + 0)) 1)

    abbrev to_read : point_ties.Tie
    to_read = paths.tie (point (places.Part (i + 0)) 0) (point (places.Number n) 0)

    abbrev to_written : point_ties.Tie
    to_written = paths.tie (point (places.Node j) 0) (point (places.Number n) 1)

    abbrev node_ties : List point_ties.Tie
    node_ties = ties_of types i j node (row places.Result 0 (count (Exp w)))

    abbrev the_home : Dot → Option Dot
    the_home = home (i + 0) j n

    abbrev AtHome : point_ties.Tie → Type 0
    AtHome t = AreHome v (the_home (Within 0 (dot_of t.one))) (the_home (Within 0 (dot_of t.other)))

    into_home : AtHome into_reader
    into_home =
        at_home v (Within 1 (Of (ResultEnd 0))) (Within 1 (Of (PartEnd 0 1))) (Some (Within 1 (Of (ResultEnd 0))))
        (if_number (i + 0) (i + 0) (Within 1 (Of (PartEnd 0 1)))) refl (same_number (i + 0) (i + 0) (Within 1 (Of (PartEnd 0 1))) refl)
        (one_way v.ties (Within 1 (Of (ResultEnd 0))) (Within 1 (Of (PartEnd 0 1))) (inl of_reader))

    read_home : AtHome to_read
    read_home =
        at_home v (Within 1 (Of (PartEnd 0 0))) (Within 0 (Of (ResultEnd 0))) (if_number (i + 0) (i + 0) (Within 1 (Of (PartEnd 0 0))))
        (if_number n n (Within 0 (Of (ResultEnd 0)))) (same_number (i + 0) (i + 0) (Within 1 (Of (PartEnd 0 0))) refl)
        (same_number n n (Within 0 (Of (ResultEnd 0))) refl)
        (one_way v.ties (Within 1 (Of (PartEnd 0 0))) (Within 0 (Of (ResultEnd 0))) (inr of_link))

    written_home : AtHome to_written
    written_home =
        at_home v (Within 0 (Of (ResultEnd 1))) (Within 0 (Of (ResultEnd 1))) (if_number j j (Within 0 (Of (ResultEnd 1))))
        (if_number n n (Within 0 (Of (ResultEnd 1)))) (same_number j j (Within 0 (Of (ResultEnd 1))) refl)
        (same_number n n (Within 0 (Of (ResultEnd 1))) refl) (here (Within 0 (Of (ResultEnd 1))))

    own : (t : point_ties.Tie) → Contains node_ties t → AtHome t
    own t (zero, small, e) = subst AtHome e into_home
    own t (suc zero, small, e) = subst AtHome e read_home
    own t (suc (suc zero), small, e) = subst AtHome e written_home
    own t (suc (suc (suc k)), small, e) = absurd (omega (arith, small))

    inner : (k : ℕ) → Contains ns k → (t : Tie) → Contains (own_web (env k).plan).ties t
        → AreHome v (if_number k n (Within 0 t.one)) (if_number k n (Within 0 t.other))
    inner k among t there =
        both_home v n k (Within 0 t.one) (Within 0 t.other) (if_number k n (Within 0 t.one)) (if_number k n (Within 0 t.other))
        (λ e. (
          same_number k n (Within 0 t.one) e,
          same_number k n (Within 0 t.other) e,
          one_way v.ties (Within 0 t.one) (Within 0 t.other)
              (inl (of_variable t (subst (λ (m : ℕ). Contains (own_web (env m).plan).ties t) e there))),
        ))
        (λ e. (other_number k n (Within 0 t.one) e, other_number k n (Within 0 t.other) e))

    outer : (k h : ℕ) → Contains ns k → AreHome v (if_number k n (Within 0 (Of (ResultEnd h)))) (if_number k n (Within 0 (Of (ResultEnd h))))
    outer k h among =
        both_home v n k (Within 0 (Of (ResultEnd h))) (Within 0 (Of (ResultEnd h))) (if_number k n (Within 0 (Of (ResultEnd h))))
        (if_number k n (Within 0 (Of (ResultEnd h))))
        (λ e. (same_number k n (Within 0 (Of (ResultEnd h))) e, same_number k n (Within 0 (Of (ResultEnd h))) e, here (Within 0 (Of (ResultEnd h)))))
        (λ e. (other_number k n (Within 0 (Of (ResultEnd h))) e, other_number k n (Within 0 (Of (ResultEnd h))) e))

    -- where ends are at home
    part_home : (k h : ℕ) (x : Part) → slice_get s.parts k ≡ Some x → the_home (source_dot i (source k) h) ≡ Some (v.at (PartEnd k h))
    part_home k h x at = by_sort (sort k x at)
      where
        by_sort : IsFirst k x ⊎ IsReader k x → the_home (source_dot i (source k) h) ≡ Some (v.at (PartEnd k h))
        by_sort (inl first) =
            ap (λ (a : Source). the_home (source_dot i a h)) (first_source k x first)
            ∙ (same_number n n (Within 0 (Of (PartEnd k h))) refl ∙ ap (λ (a : Place). Some (dot_at ws a)) (sym (first.1 h)))
        by_sort (inr reads) =
            ap (λ (a : Source). the_home (source_dot i a h)) (reader_source k x reads)
            ∙ (same_number (i + 0) (i + 0) (Within 1 (Of (PartEnd 0 h))) refl ∙ ap (λ (a : Place). Some (dot_at ws a)) (sym (reads.2 h)))

    part_loose : (a : Source) (h : ℕ) (x : Part) → IsFrom (kinds.Deref w ∷ []) ns env x a → pick n size a ≡ None → the_home (source_dot i a h) ≡ None
    part_loose (Own zero) h x from none = absurd (cc none)
    part_loose (Own (suc k)) h x from none = absurd (cc from)
    part_loose (Supplied m k) h x from none = other_number m n (Within 0 (Of (PartEnd k h))) (other_one m n k none)

    import_loose : (o : Origin) (h : ℕ) → import_by n o ≡ None → the_home (Within (suc o.number) (Of (ImportEnd o.import h))) ≡ None
    import_loose o h none = other_number o.number n (Within 0 (Of (ImportEnd o.import h))) (other_one o.number n o.import none)

    -- and the ways back
    abbrev the_out : Dot → Dot
    the_out = out (i + 0) n

    to_supply : Way w_ties (Within (suc n) (Of (ResultEnd 0))) (Within 0 (Of (PartEnd (i + 0) 0)))
    to_supply =
        along (Within (suc n) (Of (ResultEnd 0))) (Within 0 (Number n 0)) (Within 0 (Of (PartEnd (i + 0) 0)))
        (inr (outer_tie types i j node ns env n 0 has (subst (λ (t : Type'). 0 < count t) (sym same) (omega arith))))
        (one_way w_ties (Within 0 (Number n 0)) (Within 0 (Of (PartEnd (i + 0) 0)))
        (inr (own_tie types i j node ns env to_read (1, omega arith, refl))))

    out_ties : (t : Tie) → Contains v.ties t → Way w_ties (the_out t.one) (the_out t.other)
    out_ties t there =
        by_union (λ a b. Way w_ties (the_out a) (the_out b))
        (λ u among. one_way w_ties (Within (suc n) u.one) (Within (suc n) u.other) (inl (inner_tie types i j node ns env n has u among)))
        (one_way w_ties (Within 0 (Of (ResultEnd 0))) (Within 0 (Of (PartEnd (i + 0) 1)))
        (inl (own_tie types i j node ns env into_reader (0, omega arith, refl))))
        to_supply t there

    part_out : (k h : ℕ) (x : Part) → slice_get s.parts k ≡ Some x → Way w_ties (source_dot i (source k) h) (the_out (v.at (PartEnd k h)))
    part_out k h x at = by_sort (sort k x at)
      where
        by_dots : (a b : Dot) → source_dot i (source k) h ≡ a → the_out (v.at (PartEnd k h)) ≡ b → a ≡ b
            → Way w_ties (source_dot i (source k) h) (the_out (v.at (PartEnd k h)))
        by_dots a b e f one =
            subst (λ (d : Dot). Way w_ties (source_dot i (source k) h) d) (e ∙ (one ∙ sym f)) (here (source_dot i (source k) h))

        by_sort : IsFirst k x ⊎ IsReader k x → Way w_ties (source_dot i (source k) h) (the_out (v.at (PartEnd k h)))
        by_sort (inl first) =
            by_dots (Within (suc n) (Of (PartEnd k h))) (Within (suc n) (Of (PartEnd k h))) (ap (λ (a : Source). source_dot i a h) (first_source k x first))
            (ap (λ (a : Place). the_out (dot_at ws a)) (first.1 h)) refl
        by_sort (inr reads) =
            by_dots (Within 0 (Of (PartEnd (i + 0) h))) (Within 0 (Of (PartEnd (i + 0) h))) (ap (λ (a : Source). source_dot i a h) (reader_source k x reads))
            (ap (λ (a : Place). the_out (dot_at ws a)) (reads.2 h)) refl

    import_out : (k h : ℕ) (x : Imported) → slice_get s.imports k ≡ Some x
        → Way w_ties (Within (suc n) (Of (ImportEnd k h))) (the_out (v.at (ImportEnd k h)))
    import_out k h x at =
        subst (λ (d : Dot). Way w_ties (Within (suc n) (Of (ImportEnd k h))) (the_out d)) (sym (import_dot k h x at)) (here (Within (suc n) (Of (ImportEnd k h))))

    result_out : (h : ℕ) → Way w_ties (Within 0 (Of (ResultEnd h))) (the_out (v.at (ResultEnd h)))
    result_out h =
        let zeros : h ≡ 0 + h = omega arith in
        subst (λ (k : ℕ). Way w_ties (Within 0 (Of (ResultEnd h))) (Within 0 (Of (ResultEnd k)))) zeros (here (Within 0 (Of (ResultEnd h))))

    pub read_leaf : Leaf types i j node ns env s v
    read_leaf =
        record {
          pick = pick n size;
          source = source;
          pick_import = import_by n;
          origin = λ k. record { number = n; import = k };
          home = the_home;
          out = the_out;
          outcome = joined.joining.outcome;
          of_web = of_web;
          parts = parts;
          parts_back = parts_back;
          imports = λ k x at. (has, import_from k x at, same_number n n k refl);
          imports_back = imports_back;
          ties = by_tie types i j node ns env (λ a b. AreHome v (the_home a) (the_home b)) own inner outer;
          part_home = part_home;
          import_home = λ k h x at. same_number n n (Within 0 (Of (ImportEnd k h))) refl ∙ ap Some (sym (import_dot k h x at));
          result_home = λ h. refl;
          part_loose = part_loose;
          import_loose = import_loose;
          out_ties = out_ties;
          part_out = part_out;
          import_out = import_out;
          result_out = λ h k at. result_out h;
        }

pub read_is_realised : ReadIsRealised
read_is_realised types i j w n ns env pl r is has same literals ground names realised =
    let (s, joined) = (variables_are_joined w 0 (env n).plan realised.suits.right realised.suits.outcome).0 in
    let (suits, means) = realised.means.0 s joined in
    leaf_realises types i j (One (Exp w) [] OfDeref (Use (Var w) [] n)) ns env s (union (reading w (env n).plan) (own_web (env n).plan ∷ own_web (lone (kinds.Deref w) 1 (Exp w)) ∷ []))
    (read_leaf types i j w n ns env has same realised.suits.right s joined) pl r is (Exp w) (Deref (env n).term) literals ground names
    (record { suits = suits; means = means })
