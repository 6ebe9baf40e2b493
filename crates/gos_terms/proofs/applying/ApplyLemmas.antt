-- A node that applies is the function's, applied to the argument's: its parts and imports are theirs.
use Rattle.std.specs.Prelude.{◌≡◌, ℕ, zero, suc, ◌+◌, ◌-◌, ◌<◌, ◌≤◌, Bool, true, false, List, [], ◌∷◌, ◌++◌, length, map, Option, Some, nat_lt, slice_get, if◌then◌else◌}
use Rattle.std.proofs.Common.{refl, sym, ◌∙◌, ap, subst, arith}
use Rattle.std.proofs.lemmas.Option.{slice_get_within}
use Rattle.std.proofs.lemmas.List.{append-nil}
use Rattle.std.proofs.lemmas.Bool.Decides.{nat_tests}
use Rattle.std.proofs.lemmas.Bool.{lt-ltb, le-ltb}
use Rattle.gos_types.specs.Types.{Type', Fun}
use Rattle.gos_types.proofs.ListLemmas.{found_behind, same_in_front}
use Rattle.gos_model.specs.Typing.{Imported}
use Rattle.gos_check.specs.Nodes.{Numbered, Two, OfApp, type_of_node}
use Rattle.gos_check.specs.Linearity.{times}
use Rattle.gos_plan.specs.Kinds.{Part, Contact}
use Rattle.gos_plan.specs.Plans.{End, PartEnd, ImportEnd, ResultEnd, Joint, Plan, contact_at}
use Rattle.gos_plan.specs.Joining.{Place as Spot, place, LeftImport, all_left, left_place, origin}
use Rattle.gos_plan.proofs.ContactLemmas.{part_is_there, import_is_there}
use Rattle.gos_ties.specs.declared.points.Place.TheVariants as places
use Rattle.gos_ties.specs.declared.points.Point.{Point}
use Rattle.gos_ties.specs.declared.points.Tie as point_ties
use Rattle.gos_ties.specs.Ties.{point}
use Rattle.gos_realises.specs.realises.Regular.{count}
use Rattle.gos_realises.specs.realises.Links.{IsJoined}
use Rattle.gos_realises.specs.realises.Wirings.{applying}
use Rattle.gos_realises.proofs.realises.CountLemmas.{count_fun}
use Rattle.gos_realises.proofs.joined.WholeLemmas.{applied_is_joined}
use Rattle.gos_joining.specs.webs.Webs.{Dot, Of, Within, Tie, Web, Way, here, IsOfWeb}
use Rattle.gos_joining.specs.webs.Renumbering.{Renumber, IsOneToOne, moved_end}
use Rattle.gos_joining.specs.unions.Unions as unions
use Rattle.gos_joining.specs.unions.Unions.{within}
use Rattle.gos_joining.proofs.unions.UnionLemmas.{joining_is_union}
use Rattle.gos_joining.proofs.unions.FlatFitLemmas.{links_stand}
use Rattle.gos_supplies.proofs.applications.SeamLemmas.{listed, listed_at, listed_length, applied_left}
use Rattle.gos_supplies.proofs.applications.TogetherLemmas.{imports_of}
use Rattle.gos_compile.specs.Wiring.{Types, row, parts_of, nodes, ties_of}
use Rattle.gos_terms.specs.wired.Wired.{Supplies, Placing, Source, Own, Supplied, source_dot, dot_at, dot_of, dot_ties, all_supply_ties, IsWired}
use Rattle.gos_joining.proofs.weaving.CrossingLemmas.{still}
use Rattle.gos_terms.specs.applying.Uses.{CanBeWired, AreParted, AreApart, IsApplied, ApplicationIsApplied}
use Rattle.gos_terms.proofs.applying.RenamedLemmas.{renamed, renamed_tie, map_two, ties_renamed}
use Rattle.gos_terms.proofs.applying.RowLemmas.{to_second, rows_two}
use Rattle.gos_terms.proofs.applying.MatchingLemmas.{Matching, matched}
use Rattle.gos_terms.proofs.applying.ChildLemmas.{dot_tie, child_ties}
use Rattle.gos_terms.proofs.applying.SupplyLemmas.{inside}
use Rattle.gos_terms.proofs.applying.SideLemmas.{child_led}
use Rattle.gos_terms.proofs.applying.PermuteLemmas.{chosen, others, total, put, taken, there_and_back, back_and_there, chosen_length, put_there, comes_last, Standing, stands_first, stands_last}
use Rattle.gos_terms.proofs.applying.ChosenLemmas as choices
use Rattle.gos_terms.proofs.applying.ChosenLemmas.{Placed, child_wired}
use Rattle.gos_terms.proofs.applying.ApplyWebLemmas as apply
use Rattle.gos_terms.proofs.applying.ApplyWebLemmas.{pick}
use Rattle.gos_terms.proofs.applying.PartedLemmas.{up, down, itself, of_first, first_choice, second_choice}

row_all : (j x l : ℕ) → map (renamed (λ h. point (places.Node j) h)) (row places.Result x l) ≡ row (places.Node j) x l
row_all j x zero = refl
row_all j x (suc l) = ap (λ (ps : List Point). point (places.Node j) x ∷ ps) (row_all j (suc x) l)

module _
    (types : Types) (i j : ℕ) (t : Type') (m n : Numbered) (ns ms ks : List ℕ) (env : Supplies) (pl : Placing) (r : Plan)
    (of : IsWired types i j (Two t [] OfApp m n) ns env pl r) (fun : type_of_node m ≡ Fun (type_of_node n) t) (parted : AreParted ns ms ks) (apart : AreApart m n ms ks)
    (can_m : CanBeWired types i (suc j) m ms env) (can_n : CanBeWired types (i + length (parts_of types m)) (suc j + nodes m) n ks env) where
  abbrev theirs : List Part
  theirs = parts_of types m ++ parts_of types n

  abbrev having : ℕ → Bool
  having k = nat_lt 0 (times k ms)

  abbrev picking : Source → Bool
  picking = of_first (length (parts_of types m)) having

  abbrev f : ℕ → Bool
  f k = picking (pl.source k)

  abbrev fi : ℕ → Bool
  fi k = having (pl.origin k).number

  abbrev to : ℕ → ℕ
  to = put f (length r.parts)

  abbrev from : ℕ → ℕ
  from = taken f (length r.parts)

  abbrev size : ℕ
  size = total f (length r.parts)

  abbrev to_i : ℕ → ℕ
  to_i = put fi (length r.imports)

  abbrev from_i : ℕ → ℕ
  from_i = taken fi (length r.imports)

  abbrev size_i : ℕ
  size_i = total fi (length r.imports)

  abbrev g : Renumber
  g = record { part = to; part_back = from; import = to_i; import_back = from_i }

  one_to_one : IsOneToOne g
  one_to_one =
      record {
        parts = λ k. there_and_back f (length r.parts) k;
        parts_back = λ k. back_and_there f (length r.parts) k;
        imports = λ k. there_and_back fi (length r.imports) k;
        imports_back = λ k. back_and_there fi (length r.imports) k;
      }

  abbrev pm : Placing
  pm =
      choices.placing types m theirs ns ms env pl r true picking having itself itself to from to_i from_i
      (chosen f r.parts) (chosen fi r.imports)

  abbrev pn : Placing
  pn =
      choices.placing types n theirs ns ks env pl r false picking having (up (length (parts_of types m))) (down (length (parts_of types m)))
      (λ k. to k - size) (λ k. from (size + k)) (λ k. to_i k - size_i) (λ k. from_i (size_i + k))
      (others f r.parts) (others fi r.imports)

  abbrev bare_m : Plan
  bare_m = record { weight = 0; imports = chosen fi r.imports; outcome = type_of_node m; parts = chosen f r.parts; joints = [] }

  abbrev bare_n : Plan
  bare_n = record { weight = 0; imports = others fi r.imports; outcome = type_of_node n; parts = others f r.parts; joints = [] }

  node : Placed theirs ns env pl r
  node = record { parts = of.parts; no_more = of.no_more; imports = of.imports; no_import = of.no_import }

  parts_first : Standing true f r.parts (chosen f r.parts) to from
  parts_first = stands_first f r.parts

  parts_last : Standing false f r.parts (others f r.parts) (λ k. to k - size) (λ k. from (size + k))
  parts_last = stands_last f r.parts

  imports_first : Standing true fi r.imports (chosen fi r.imports) to_i from_i
  imports_first = stands_first fi r.imports

  imports_last : Standing false fi r.imports (others fi r.imports) (λ k. to_i k - size_i) (λ k. from_i (size_i + k))
  imports_last = stands_last fi r.imports

  wired_m : (js : List Joint) × IsWired types i (suc j) m ms env pm (record bare_m { joints = js })
  wired_m =
      child_wired types m theirs ns ms env pl r true picking having itself itself to from to_i from_i (chosen f r.parts) (chosen fi r.imports)
      (first_choice (parts_of types m) (parts_of types n) ns ms ks env parted) node parts_first imports_first i (suc j) can_m

  wired_n : (js : List Joint) × IsWired types (i + length (parts_of types m)) (suc j + nodes m) n ks env pn (record bare_n { joints = js })
  wired_n =
      child_wired types n theirs ns ks env pl r false picking having (up (length (parts_of types m))) (down (length (parts_of types m)))
      (λ k. to k - size) (λ k. from (size + k)) (λ k. to_i k - size_i) (λ k. from_i (size_i + k))
      (others f r.parts) (others fi r.imports) (second_choice (parts_of types m) (parts_of types n) ns ms ks env parted) node parts_last imports_last
      (i + length (parts_of types m)) (suc j + nodes m) can_n

  counts : count (type_of_node m) ≡ count (type_of_node n) + count t
  counts = ap count fun ∙ count_fun (type_of_node n) t

  module _
      (js ls : List Joint) (s : Plan) where
    abbrev p : Plan
    p = record bare_m { joints = js }

    abbrev q : Plan
    q = record bare_n { joints = ls }

    abbrev w : Web
    w = apply.w types i j m n t ns ms ks env pl pm pn p q

    abbrev u : Web
    u = apply.u types i j m n t ns ms ks env pl pm pn p q

    abbrev forth : Dot → Dot
    forth = apply.forth types i j m n t ns ms ks env pl pm pn p q

    abbrev back : Dot → Dot
    back = apply.back types i j m n t ns ms ks env pl pm pn p q

    abbrev to_m : ℕ → Point
    to_m = apply.to_m types i j m n t ns ms ks env pl pm pn p q

    abbrev to_n : ℕ → Point
    to_n = apply.to_n types i j m n t ns ms ks env pl pm pn p q

    -- where an end of the node stands in the union
    record EndAt (e : End) : Type 0 where
      side : Bool
      at : u.at (moved_end g e) ≡ pick side (w.at e)
      there : forth (w.at e) ≡ pick side (w.at e)
      home : back (pick side (w.at e)) ≡ w.at e

    source_there : (b : Bool) (h : ℕ) (o : Source) → picking o ≡ b → forth (source_dot i o h) ≡ pick b (source_dot i o h)
    source_there b h (Own k) is = ap (λ (c : Bool). pick c (Within 0 (Of (PartEnd (i + k) h)))) (shifted ∙ is)
      where
        shifted : nat_lt (i + k) (i + length (parts_of types m)) ≡ nat_lt k (length (parts_of types m))
        shifted = by_test (nat_lt k (length (parts_of types m))) refl
          where
            by_test : (c : Bool) → nat_lt k (length (parts_of types m)) ≡ c → nat_lt (i + k) (i + length (parts_of types m)) ≡ nat_lt k (length (parts_of types m))
            by_test true low =
                let less : k < length (parts_of types m) = grind (arith, nat_tests) in
                lt-ltb (i + k) (i + length (parts_of types m)) (omega (arith, less)) ∙ sym low
            by_test false high =
                let more : length (parts_of types m) ≤ k = grind (arith, nat_tests) in
                le-ltb (i + k) (i + length (parts_of types m)) (omega (arith, more)) ∙ sym high
    source_there b h (Supplied x k) is = ap (λ (c : Bool). pick c (Within (suc x) (Of (PartEnd k h)))) is

    source_home : (b : Bool) (h : ℕ) (o : Source) → back (pick b (source_dot i o h)) ≡ source_dot i o h
    source_home true h (Own k) = refl
    source_home true h (Supplied x k) = refl
    source_home false h (Own k) = refl
    source_home false h (Supplied x k) = refl

    source_down : (h : ℕ) (o : Source) → picking o ≡ false
        → source_dot (i + length (parts_of types m)) (down (length (parts_of types m)) o) h ≡ source_dot i o h
    source_down h (Own k) is =
        let high : length (parts_of types m) ≤ k = grind (arith, nat_tests) in
        let sum : i + length (parts_of types m) + (k - length (parts_of types m)) ≡ i + k = omega (arith, high) in
        ap (λ (x : ℕ). Within 0 (Of (PartEnd x h))) sum
    source_down h (Supplied x k) is = refl

    abbrev at_origin : Spot → Dot
    at_origin = unions.dot_at (apply.webs types i j m n t ns ms ks env pl pm pn p q)

    abbrev wiring_origin : End → Spot
    wiring_origin = origin (applying (type_of_node n) t p q)

    part_high : (x : ℕ) (y : Part) → slice_get r.parts x ≡ Some y → f x ≡ false → nat_lt (to x) (length (chosen f r.parts)) ≡ false
    part_high x y is picked =
        let sizes = chosen_length f r.parts in
        let high = comes_last f (length r.parts) x (slice_get_within r.parts x y is) picked in
        le-ltb (to x) (length (chosen f r.parts)) (omega (arith, high, sizes))

    part_end : (x h : ℕ) (y : Part) → slice_get r.parts x ≡ Some y → (b : Bool) → f x ≡ b → EndAt (PartEnd x h)
    part_end x h y is true picked =
        let (at_p, round) = parts_first.inward x y is picked in
        let low = slice_get_within (chosen f r.parts) (to x) y at_p in
        let where_is : wiring_origin (PartEnd (to x) h) ≡ place 0 (PartEnd (to x) h) =
        ap
        (λ (b : Bool). if b then place 0 (PartEnd (to x) h)
        else (if nat_lt (to x - length (chosen f r.parts)) (length (others f r.parts)) then place 1 (PartEnd (to x - length (chosen f r.parts)) h)
        else place 2 (PartEnd (to x - length (chosen f r.parts) - length (others f r.parts)) h)))
        (lt-ltb (to x) (length (chosen f r.parts)) low) in
        record {
          side = true;
          at = ap at_origin where_is ∙ ap (λ (k : ℕ). Within 0 (source_dot i (pl.source k) h)) round;
          there = source_there true h (pl.source x) picked;
          home = source_home true h (pl.source x);
        }
    part_end x h y is false picked =
        let (at_q, round) = parts_last.inward x y is picked in
        let low = slice_get_within (others f r.parts) (to x - size) y at_q in
        let sizes = chosen_length f r.parts in
        let same : to x - length (chosen f r.parts) ≡ to x - size = omega (arith, sizes) in
        let first : nat_lt (to x) (length (chosen f r.parts)) ≡ false = part_high x y is picked in
        let second : nat_lt (to x - length (chosen f r.parts)) (length (others f r.parts)) ≡ true =
        lt-ltb (to x - length (chosen f r.parts)) (length (others f r.parts)) (omega (arith, low, same)) in
        let where_is : wiring_origin (PartEnd (to x) h) ≡ place 1 (PartEnd (to x - size) h) =
        ap
        (λ (b : Bool). if b then place 0 (PartEnd (to x) h)
        else (if nat_lt (to x - length (chosen f r.parts)) (length (others f r.parts)) then place 1 (PartEnd (to x - length (chosen f r.parts)) h)
        else place 2 (PartEnd (to x - length (chosen f r.parts) - length (others f r.parts)) h)))
        first
        ∙ (ap
        (λ (b : Bool). if b then place 1 (PartEnd (to x - length (chosen f r.parts)) h)
        else place 2 (PartEnd (to x - length (chosen f r.parts) - length (others f r.parts)) h))
        second
        ∙ ap (λ (k : ℕ). place 1 (PartEnd k h)) same) in
        record {
          side = false;
          at =
              ap at_origin where_is
              ∙ (ap
              (λ (k : ℕ). Within 1 (source_dot (i + length (parts_of types m)) (down (length (parts_of types m)) (pl.source k)) h)) round
              ∙ ap (λ (d : Dot). Within 1 d) (source_down h (pl.source x) picked));
          there = source_there false h (pl.source x) picked;
          home = source_home false h (pl.source x);
        }

    -- the imports that stay
    left_all : all_left (applying (type_of_node n) t p q) ≡ listed 0 0 (chosen fi r.imports) ++ listed 1 0 (others fi r.imports)
    left_all = applied_left (type_of_node n) t p q

    import_end : (x h : ℕ) (y : Imported) → slice_get r.imports x ≡ Some y → (b : Bool) → fi x ≡ b → EndAt (ImportEnd x h)
    import_end x h y is true picked =
        let (at_p, round) = imports_first.inward x y is picked in
        let low = slice_get_within (chosen fi r.imports) (to_i x) y at_p in
        let long = listed_length 0 0 (chosen fi r.imports) in
        let zeros : 0 + to_i x ≡ to_i x = omega arith in
        let left : slice_get (all_left (applying (type_of_node n) t p q)) (to_i x) ≡ Some (record { plan = 0; number = 0 + to_i x; import = y }) =
        ap (λ (l : List LeftImport). slice_get l (to_i x)) left_all
        ∙ (same_in_front (listed 0 0 (chosen fi r.imports)) (listed 1 0 (others fi r.imports)) (to_i x) (omega (arith, low, long))
        ∙ listed_at 0 0 (chosen fi r.imports) (to_i x) y at_p) in
        let where_is : wiring_origin (ImportEnd (to_i x) h) ≡ place 0 (ImportEnd (to_i x) h) =
        ap (λ (o : Option LeftImport). left_place o h) left ∙ ap (λ (k : ℕ). place 0 (ImportEnd k h)) zeros in
        record {
          side = true;
          at =
              ap at_origin where_is
              ∙ ap (λ (k : ℕ). Within 0 (Within (suc (pl.origin k).number) (Of (ImportEnd (pl.origin k).import h)))) round;
          there = ap (λ (c : Bool). pick c (Within (suc (pl.origin x).number) (Of (ImportEnd (pl.origin x).import h)))) picked;
          home = refl;
        }
    import_end x h y is false picked =
        let (at_q, round) = imports_last.inward x y is picked in
        let long = listed_length 0 0 (chosen fi r.imports) in
        let sizes = chosen_length fi r.imports in
        let high = comes_last fi (length r.imports) x (slice_get_within r.imports x y is) picked in
        let zeros : 0 + (to_i x - size_i) ≡ to_i x - size_i = omega arith in
        let sum : to_i x ≡ length (listed 0 0 (chosen fi r.imports)) + (to_i x - size_i) = omega (arith, high, long, sizes) in
        let left : slice_get (all_left (applying (type_of_node n) t p q)) (to_i x) ≡ Some (record { plan = 1; number = 0 + (to_i x - size_i); import = y }) =
        ap (λ (l : List LeftImport). slice_get l (to_i x)) left_all
        ∙ (ap (slice_get (listed 0 0 (chosen fi r.imports) ++ listed 1 0 (others fi r.imports))) sum
        ∙ (found_behind (listed 0 0 (chosen fi r.imports)) (listed 1 0 (others fi r.imports)) (to_i x - size_i)
        ∙ listed_at 1 0 (others fi r.imports) (to_i x - size_i) y at_q)) in
        let where_is : wiring_origin (ImportEnd (to_i x) h) ≡ place 1 (ImportEnd (to_i x - size_i) h) =
        ap (λ (o : Option LeftImport). left_place o h) left ∙ ap (λ (k : ℕ). place 1 (ImportEnd k h)) zeros in
        record {
          side = false;
          at =
              ap at_origin where_is
              ∙ ap (λ (k : ℕ). Within 1 (Within (suc (pl.origin k).number) (Of (ImportEnd (pl.origin k).import h)))) round;
          there = ap (λ (c : Bool). pick c (Within (suc (pl.origin x).number) (Of (ImportEnd (pl.origin x).import h)))) picked;
          home = refl;
        }

    end_forth : (e : End) → EndAt e → Way u.ties (forth (w.at e)) (u.at (moved_end g e))
    end_forth e is = still u.ties (forth (w.at e)) (u.at (moved_end g e)) (is.there ∙ sym is.at)

    end_back : (e : End) → EndAt e → Way w.ties (back (u.at (moved_end g e))) (w.at e)
    end_back e is = still w.ties (back (u.at (moved_end g e))) (w.at e) (ap back is.at ∙ is.home)

    ends_forth : (e : End) (c : Contact) → contact_at r e ≡ Some c → Way u.ties (forth (w.at e)) (u.at (moved_end g e))
    ends_forth (PartEnd x h) c at =
        let (y, is) = part_is_there (slice_get r.parts x) h c at in end_forth (PartEnd x h) (part_end x h y is (f x) refl)
    ends_forth (ImportEnd x h) c at =
        let (y, is) = import_is_there (slice_get r.imports x) h c at in end_forth (ImportEnd x h) (import_end x h y is (fi x) refl)
    ends_forth (ResultEnd h) c at = here (u.at (ResultEnd h))

    ends_back : (e : End) (c : Contact) → contact_at r e ≡ Some c → Way w.ties (back (u.at (moved_end g e))) (w.at e)
    ends_back (PartEnd x h) c at =
        let (y, is) = part_is_there (slice_get r.parts x) h c at in end_back (PartEnd x h) (part_end x h y is (f x) refl)
    ends_back (ImportEnd x h) c at =
        let (y, is) = import_is_there (slice_get r.imports x) h c at in end_back (ImportEnd x h) (import_end x h y is (fi x) refl)
    ends_back (ResultEnd h) c at =
        let k : ℕ = count (type_of_node n) in
        let less : (k + h) - k ≡ h = omega arith in
        still w.ties (back (u.at (ResultEnd h))) (w.at (ResultEnd h))
        (ap (λ (x : Point). Within 0 (dot_of x)) (to_second k (places.Node j) places.Result (k + h) (omega arith))
        ∙ ap (λ (x : ℕ). Within 0 (Of (ResultEnd x))) less)

    -- the node's ties are its children's, led elsewhere
    to_ties : ties_of types i j (Two t [] OfApp m n) (row places.Result 0 (count t))
        ≡ map (renamed_tie to_m) (child_ties types i (suc j) m)
        ++ map (renamed_tie to_n) (child_ties types (i + length (parts_of types m)) (suc j + nodes m) n)
    to_ties =
        let k : ℕ = count (type_of_node n) in
        let l : ℕ = i + length (parts_of types m) in
        let start : i + 0 + 0 + length (parts_of types m) ≡ l = omega arith in
        let first =
        child_led types i (i + 0 + 0) j m to_m k (count t) (row (places.Node j) 0 k ++ row places.Result 0 (count t)) (omega arith) counts
        (rows_two k (count t) (places.Node j) places.Result) in
        let second : ties_of types (i + 0 + 0 + length (parts_of types m)) (suc j + nodes m) n (row (places.Node j) 0 k)
        ≡ map (renamed_tie to_n) (child_ties types l (suc j + nodes m) n) =
        ap (λ (x : ℕ). ties_of types x (suc j + nodes m) n (row (places.Node j) 0 k)) start
        ∙ (ap (ties_of types l (suc j + nodes m) n) (sym (row_all j 0 k)) ∙ sym (ties_renamed to_n types l (suc j + nodes m) n (row places.Result 0 k))) in
        λ x. first x ++ second x

    parted_ties : (xs ys : List point_ties.Tie) → within 0 (dot_ties (xs ++ ys)) ≡ within 0 (dot_ties xs) ++ within 0 (dot_ties ys)
    parted_ties xs ys =
        ap (map (inside 0)) (map_two dot_tie xs ys) ∙ map_two (inside 0) (dot_ties xs) (dot_ties ys)

    of_node : IsOfWeb w r
    of_node =
        subst (λ (ts : List Tie). IsOfWeb (record { ties = ts ++ all_supply_ties types env ns; at = dot_at i pl }) r)
        (ap (λ (ts : List point_ties.Tie). within 0 (dot_ties ts)) to_ties
        ∙ parted_ties (map (renamed_tie to_m) (child_ties types i (suc j) m))
        (map (renamed_tie to_n) (child_ties types (i + length (parts_of types m)) (suc j + nodes m) n)))
        of.web

    matches : IsWired types i (suc j) m ms env pm p → IsWired types (i + length (parts_of types m)) (suc j + nodes m) n ks env pn q
        → IsJoined (applying (type_of_node n) t p q) s → Matching g w u r s
    matches of_p of_q joined =
        record {
          web = of_node;
          other_web =
              joining_is_union (applying (type_of_node n) t p q) (apply.webs types i j m n t ns ms ks env pl pm pn p q) s
              (of_p.web, (of_q.web, tt)) (links_stand (applying (type_of_node n) t p q) joined.fits) joined.joining;
          one_to_one = one_to_one;
          parts =
              λ k.
              ap (λ (xs : List Part). slice_get xs (to k))
              (joined.joining.parts ∙ ap (λ (xs : List Part). chosen f r.parts ++ xs) (append-nil (others f r.parts)))
              ∙ put_there f r.parts k;
          imports =
              λ k.
              ap (λ (xs : List Imported). slice_get xs (to_i k)) (imports_of (type_of_node n) t p q s joined) ∙ put_there fi r.imports k;
          outcome = joined.joining.outcome ∙ sym of.outcome;
          forth = forth;
          back = back;
          ties_forth = apply.ties_forth types i j m n t ns ms ks env pl pm pn p q parted apart counts;
          ties_back = apply.ties_back types i j m n t ns ms ks env pl pm pn p q parted apart counts;
          ends_forth = ends_forth;
          ends_back = ends_back;
        }

  pub applied : IsApplied t types i (suc j) m n ms ks env r
  applied =
      let (js, of_p) = wired_m in
      let (ls, of_q) = wired_n in
      let (s, joined) =
      applied_is_joined (type_of_node n) t (record bare_m { joints = js }) (record bare_n { joints = ls }) of_p.web.right of_q.web.right fun refl in
      record {
        function = record bare_m { joints = js };
        argument = record bare_n { joints = ls };
        applied = s;
        placing = pm;
        argument_placing = pn;
        numbers = g;
        wired = of_p;
        argument_wired = of_q;
        joined = joined;
        same = matched g (w js ls s) (u js ls s) r s (matches js ls s of_p of_q joined);
      }

pub application_is_applied : ApplicationIsApplied
application_is_applied types i j t m n ns ms ks env pl r of fun parted apart can_m can_n =
    applied types i j t m n ns ms ks env pl r of fun parted apart can_m can_n
