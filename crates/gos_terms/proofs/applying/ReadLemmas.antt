-- A node that reads a variable is the variable's, joined to a Deref: its parts are the child's, and one more.
use Rattle.std.specs.Prelude.{◌≡◌, ℕ, zero, suc, ◌+◌, ◌-◌, Bool, true, false, ◌||◌, List, [], ◌∷◌, ◌++◌, length, map, Option, Some, nat_eq, nat_lt, slice_get, if◌then◌else◌}
use Rattle.std.proofs.Common.{refl, sym, ◌∙◌, ap, subst, arith}
use Rattle.std.proofs.lemmas.Option.{same_Some, slice_get_within}
use Rattle.std.proofs.lemmas.List.{append-nil}
use Rattle.std.proofs.lemmas.Bool.{lt-ltb, le-ltb}
use Rattle.gos_types.specs.Types.{Exp, Var}
use Rattle.gos_types.proofs.BoolLemmas.{and_false}
use Rattle.gos_model.specs.Typing.{Imported}
use Rattle.gos_check.specs.Nodes.{Numbered, One, OfDeref, type_of_node}
use Rattle.gos_plan.specs.Kinds as kinds
use Rattle.gos_plan.specs.Kinds.{Part, Contact}
use Rattle.gos_plan.specs.Plans.{End, PartEnd, ImportEnd, ResultEnd, Joint, Plan, contact_at, IsRight}
use Rattle.gos_plan.specs.Joining.{Place as Spot, place, LeftImport, all_left, left_in, left_place, is_joined, origin}
use Rattle.gos_plan.proofs.ContactLemmas.{part_is_there, import_is_there}
use Rattle.gos_ties.specs.declared.points.Place.TheVariants as places
use Rattle.gos_ties.specs.declared.points.Point.{Point}
use Rattle.gos_ties.specs.declared.points.Tie as point_ties
use Rattle.gos_ties.specs.Ties.{point}
use Rattle.gos_ties.specs.Ties as paths
use Rattle.gos_realises.specs.realises.Regular.{count}
use Rattle.gos_realises.specs.realises.Links.{IsJoined}
use Rattle.gos_realises.specs.realises.Wirings.{link, reading}
use Rattle.gos_realises.proofs.joined.WholeLemmas.{variables_are_joined}
use Rattle.gos_joining.specs.webs.Webs.{Dot, Of, Within, Web, IsOfWeb}
use Rattle.gos_joining.specs.webs.Renumbering.{Renumber, IsOneToOne, moved_end}
use Rattle.gos_joining.proofs.webs.WebLemmas.{right_is_of_its_web}
use Rattle.gos_joining.specs.unions.Unions as unions
use Rattle.gos_joining.specs.unions.Unions.{within}
use Rattle.gos_joining.proofs.unions.UnionLemmas.{joining_is_union}
use Rattle.gos_joining.proofs.unions.FlatFitLemmas.{links_stand}
use Rattle.gos_supplies.proofs.applications.SeamLemmas.{listed, listed_at, left_none}
use Rattle.gos_supplies.proofs.applications.ReadingLemmas.{reading_imports}
use Rattle.gos_compile.specs.Wiring.{Types, row, parts_of, ties_of}
use Rattle.gos_terms.specs.wired.Wired.{Supplies, Placing, Source, Own, Supplied, IsFrom, placed, source_dot, dot_at, dot_ties, all_supply_ties, IsWired}
use Rattle.gos_joining.proofs.weaving.CrossingLemmas.{still}
use Rattle.gos_terms.specs.applying.Uses.{CanBeWired, IsReading, DerefIsReading}
use Rattle.gos_terms.proofs.applying.RenamedLemmas.{renamed, renamed_tie, ties_renamed}
use Rattle.gos_terms.proofs.applying.MatchingLemmas.{Matching, matched}
use Rattle.gos_terms.proofs.applying.ChildLemmas.{child_ties}
use Rattle.gos_terms.proofs.applying.PermuteLemmas.{chosen, others, total, put, taken, there_and_back, back_and_there, chosen_length, put_there, comes_last, Standing, stands_first, stands_last}
use Rattle.gos_terms.proofs.applying.ChosenLemmas as choices
use Rattle.gos_terms.proofs.applying.ChosenLemmas.{Choice, Placed, child_wired}
use Rattle.gos_terms.proofs.applying.ReadWebLemmas as reads
use Rattle.gos_terms.proofs.applying.ReadWebLemmas.{reader}

-- the sources of the variable, among the node's, whose own part is the first
abbrev up : Source → Source
up (Own k) = Own (suc k)
up (Supplied n k) = Supplied n k

abbrev down : Source → Source
down (Own zero) = Own zero
down (Own (suc k)) = Own k
down (Supplied n k) = Supplied n k

abbrev picking : Source → Bool
picking (Own zero) = false
picking (Own (suc k)) = true
picking (Supplied n k) = true

abbrev any : ℕ → Bool
any k = true

abbrev unmoved : ℕ → ℕ
unmoved k = k

clash : (A : Type 0) → false ≡ true → A
clash A h = absurd (cc h)

inward : (own x : Part) (ours : List Part) (ns : List ℕ) (env : Supplies) (s : Source) → IsFrom ours ns env x s
    → IsFrom (own ∷ ours) ns env x (up s) × (picking (up s) ≡ true) × (down (up s) ≡ s)
inward own x ours ns env (Own k) at = (at, refl, refl)
inward own x ours ns env (Supplied n k) at = (at, refl, refl)

outward : (own x : Part) (ours : List Part) (ns : List ℕ) (env : Supplies) (s : Source) → IsFrom (own ∷ ours) ns env x s → picking s ≡ true
    → IsFrom ours ns env x (down s) × (up (down s) ≡ s)
outward own x ours ns env (Own zero) at is = clash (IsFrom ours ns env x (Own zero) × (Own 1 ≡ Own zero)) is
outward own x ours ns env (Own (suc k)) at is = (at, refl)
outward own x ours ns env (Supplied n k) at is = (at, refl)

choice : (own : Part) (ours : List Part) (ns : List ℕ) (env : Supplies) → Choice ours (own ∷ ours) ns ns env true picking any up down
choice own ours ns env =
    record {
      inward = λ x s from. inward own x ours ns env s from;
      outward = λ x s from is. outward own x ours ns env s from is;
      among = λ n has. (has, refl);
      within = λ n has is. has;
    }

-- a list with one element
only_one : (xs : List Part) (d : Part) (y : ℕ) → slice_get xs y ≡ Some d → ((n : ℕ) (x : Part) → slice_get xs n ≡ Some x → (n ≡ y) × (x ≡ d)) → xs ≡ (d ∷ [])
only_one [] d y at all = absurd (cc at)
only_one (x ∷ []) d y at all = ap (λ (z : Part). z ∷ []) (all 0 x refl).1
only_one (x ∷ z ∷ xs) d y at all =
    let first = (all 0 x refl).0 in let second = (all 1 z refl).0 in absurd (omega (arith, first, second))

module _
    (types : Types) (i j b : ℕ) (m : Numbered) (ns : List ℕ) (env : Supplies) (pl : Placing) (r : Plan)
    (of : IsWired types i j (One (Exp b) [] OfDeref m) ns env pl r) (var : type_of_node m ≡ Var b) (can : CanBeWired types (i + 1) (suc j) m ns env) where
  abbrev own : Part
  own = kinds.Deref b

  abbrev f : ℕ → Bool
  f k = picking (pl.source k)

  abbrev to : ℕ → ℕ
  to = put f (length r.parts)

  abbrev from : ℕ → ℕ
  from = taken f (length r.parts)

  abbrev size : ℕ
  size = total f (length r.parts)

  abbrev g : Renumber
  g = record { part = to; part_back = from; import = unmoved; import_back = unmoved }

  one_to_one : IsOneToOne g
  one_to_one =
      record {
        parts = λ k. there_and_back f (length r.parts) k;
        parts_back = λ k. back_and_there f (length r.parts) k;
        imports = λ k. refl;
        imports_back = λ k. refl;
      }

  abbrev pm : Placing
  pm =
      choices.placing types m (own ∷ parts_of types m) ns ns env pl r true picking any up down to from unmoved unmoved (chosen f r.parts) r.imports

  abbrev bare : Plan
  bare = record { weight = 0; imports = r.imports; outcome = type_of_node m; parts = chosen f r.parts; joints = [] }

  node : Placed (own ∷ parts_of types m) ns env pl r
  node = record { parts = of.parts; no_more = of.no_more; imports = of.imports; no_import = of.no_import }

  parts_first : Standing true f r.parts (chosen f r.parts) to from
  parts_first = stands_first f r.parts

  parts_last : Standing false f r.parts (others f r.parts) (λ k. to k - size) (λ k. from (size + k))
  parts_last = stands_last f r.parts

  imports_all : Standing true (λ k. any (pl.origin k).number) r.imports r.imports unmoved unmoved
  imports_all = record { inward = λ n x at is. (at, refl); outward = λ y x at. (at, refl, refl) }

  wired : (js : List Joint) × IsWired types (i + 1) (suc j) m ns env pm (record bare { joints = js })
  wired =
      child_wired types m (own ∷ parts_of types m) ns ns env pl r true picking any up down to from unmoved unmoved (chosen f r.parts) r.imports
      (choice own (parts_of types m) ns env) node parts_first imports_all (i + 1) (suc j) can

  -- the one other part is the node's own
  its_own : (k : ℕ) (x : Part) (o : Source) → IsFrom (own ∷ parts_of types m) ns env x o → picking o ≡ false → placed pl o ≡ k
      → (o ≡ Own 0) × (pl.own 0 ≡ k) × (x ≡ own)
  its_own k x (Own zero) at is back = (refl, back, sym (same_Some own x at))
  its_own k x (Own (suc n)) at is back = clash ((Own (suc n) ≡ Own 0) × (pl.own 0 ≡ k) × (x ≡ own)) (sym is)
  its_own k x (Supplied n l) at is back = clash ((Supplied n l ≡ Own 0) × (pl.own 0 ≡ k) × (x ≡ own)) (sym is)

  one_other : others f r.parts ≡ (own ∷ [])
  one_other =
      let (at, source) = node.parts own (Own 0) refl in
      let (there, round) = parts_last.inward (pl.own 0) own at (ap picking source) in
      only_one (others f r.parts) own (to (pl.own 0) - size) there all
    where
      all : (n : ℕ) (x : Part) → slice_get (others f r.parts) n ≡ Some x → (n ≡ to (pl.own 0) - size) × (x ≡ own)
      all n x at =
          let (here, picked, round) = parts_last.outward n x at in
          let (comes, back) = node.no_more (from (size + n)) x here in
          let (is, number, same) = its_own (from (size + n)) x (pl.source (from (size + n))) comes picked back in
          (sym round ∙ ap (λ (k : ℕ). to k - size) (sym number), same)

  module _
      (js : List Joint) (s : Plan) where
    abbrev p : Plan
    p = record bare { joints = js }

    abbrev w : Web
    w = reads.w types i j b m ns env pl pm p

    abbrev u : Web
    u = reads.u types i j b m ns env pl pm p

    abbrev forth : Dot → Dot
    forth = reads.forth types i j b m ns env pl pm p

    abbrev back : Dot → Dot
    back = reads.back types i j b m ns env pl pm p

    abbrev to_m : ℕ → Point
    to_m = reads.to_m types i j b m ns env pl pm p

    -- where an end of the node stands in the union
    record EndAt (e : End) : Type 0 where
      dot : Dot
      at : u.at (moved_end g e) ≡ dot
      there : forth (w.at e) ≡ dot
      home : back dot ≡ w.at e

    source_there : (h : ℕ) (o : Source) → picking o ≡ true → forth (source_dot i o h) ≡ Within 0 (source_dot i o h)
    source_there h (Own zero) is = clash (forth (source_dot i (Own zero) h) ≡ Within 0 (source_dot i (Own zero) h)) is
    source_there h (Own (suc k)) is = sym (reads.other_part types i j b m ns env pl pm p (i + suc k) h (omega arith))
    source_there h (Supplied n k) is = refl

    source_home : (h : ℕ) (o : Source) → back (Within 0 (source_dot i o h)) ≡ source_dot i o h
    source_home h (Own k) = refl
    source_home h (Supplied n k) = refl

    source_down : (h : ℕ) (o : Source) → picking o ≡ true → source_dot (i + 1) (down o) h ≡ source_dot i o h
    source_down h (Own zero) is = clash (source_dot (i + 1) (Own zero) h ≡ source_dot i (Own zero) h) is
    source_down h (Own (suc k)) is =
        let sum : i + 1 + k ≡ i + suc k = omega arith in ap (λ (x : ℕ). Within 0 (Of (PartEnd x h))) sum
    source_down h (Supplied n k) is = refl

    abbrev at_origin : Spot → Dot
    at_origin = unions.dot_at (reads.webs types i j b m ns env pl pm p)

    abbrev wiring_origin : End → Spot
    wiring_origin = origin (reading b p)

    abbrev of_part : ℕ → ℕ → Bool → Bool → Spot
    of_part x h c d =
        if c then place 0 (PartEnd x h)
        else (if d then place 1 (PartEnd (x - length (chosen f r.parts)) h) else place 2 (PartEnd (x - length (chosen f r.parts) - 1) h))

    part_end : (x h : ℕ) (y : Part) → slice_get r.parts x ≡ Some y → (c : Bool) → f x ≡ c → EndAt (PartEnd x h)
    part_end x h y is true picked =
        let (at_p, round) = parts_first.inward x y is picked in
        let low = slice_get_within (chosen f r.parts) (to x) y at_p in
        let where_is : wiring_origin (PartEnd (to x) h) ≡ place 0 (PartEnd (to x) h) =
        ap (λ (c : Bool). of_part (to x) h c (nat_lt (to x - length (chosen f r.parts)) 1)) (lt-ltb (to x) (length (chosen f r.parts)) low) in
        record {
          dot = Within 0 (source_dot i (pl.source x) h);
          at =
              ap at_origin where_is
              ∙ (ap (λ (k : ℕ). Within 0 (source_dot (i + 1) (down (pl.source k)) h)) round
              ∙ ap (λ (d : Dot). Within 0 d) (source_down h (pl.source x) picked));
          there = source_there h (pl.source x) picked;
          home = source_home h (pl.source x);
        }
    part_end x h y is false picked =
        let (comes, number) = node.no_more x y is in
        let (source, own_number, same) = its_own x y (pl.source x) comes picked number in
        let (at_q, round) = parts_last.inward x y is picked in
        let low = slice_get_within (others f r.parts) (to x - size) y at_q in
        let one : length (others f r.parts) ≡ 1 = ap length one_other in
        let sizes = chosen_length f r.parts in
        let high = comes_last f (length r.parts) x (slice_get_within r.parts x y is) picked in
        let zeros : to x - length (chosen f r.parts) ≡ 0 = omega (arith, low, one, sizes) in
        let first : nat_lt (to x) (length (chosen f r.parts)) ≡ false =
        le-ltb (to x) (length (chosen f r.parts)) (omega (arith, high, sizes)) in
        let second : nat_lt (to x - length (chosen f r.parts)) 1 ≡ true =
        lt-ltb (to x - length (chosen f r.parts)) 1 (omega (arith, zeros)) in
        let where_is : wiring_origin (PartEnd (to x) h) ≡ place 1 (PartEnd 0 h) =
        ap (λ (c : Bool). of_part (to x) h c (nat_lt (to x - length (chosen f r.parts)) 1)) first
        ∙ (ap (of_part (to x) h false) second ∙ ap (λ (k : ℕ). place 1 (PartEnd k h)) zeros) in
        let plain : i + 0 ≡ i = omega arith in
        record {
          dot = Within 1 (Of (PartEnd 0 h));
          at = ap at_origin where_is;
          there =
              ap (λ (o : Source). forth (source_dot i o h)) source
              ∙ sym (reads.own_part types i j b m ns env pl pm p (i + 0) h plain);
          home =
              ap (λ (k : ℕ). Within 0 (Of (PartEnd k h))) (sym plain) ∙ ap (λ (o : Source). source_dot i o h) (sym source);
        }

    none_joined : (k n : ℕ) → is_joined (link 0 (ResultEnd 0) 1 (PartEnd 0 0) ∷ []) k n ≡ false
    none_joined k n =
        let one = and_false (nat_eq 0 k) in let other = and_false (nat_eq 1 k) in λ x. (one x || other x) || false

    left_all : all_left (reading b p) ≡ listed 0 0 r.imports
    left_all =
        append-nil (left_in (link 0 (ResultEnd 0) 1 (PartEnd 0 0) ∷ []) 0 0 r.imports)
        ∙ left_none (link 0 (ResultEnd 0) 1 (PartEnd 0 0) ∷ []) 0 (none_joined 0) 0 r.imports

    import_end : (x h : ℕ) (y : Imported) → slice_get r.imports x ≡ Some y → EndAt (ImportEnd x h)
    import_end x h y is =
        let zeros : 0 + x ≡ x = omega arith in
        let left : slice_get (all_left (reading b p)) x ≡ Some (record { plan = 0; number = 0 + x; import = y }) =
        ap (λ (l : List LeftImport). slice_get l x) left_all ∙ listed_at 0 0 r.imports x y is in
        let where_is : wiring_origin (ImportEnd x h) ≡ place 0 (ImportEnd x h) =
        ap (λ (o : Option LeftImport). left_place o h) left ∙ ap (λ (k : ℕ). place 0 (ImportEnd k h)) zeros in
        record {
          dot = Within 0 (Within (suc (pl.origin x).number) (Of (ImportEnd (pl.origin x).import h)));
          at = ap at_origin where_is;
          there = refl;
          home = refl;
        }

    result_end : (h : ℕ) → EndAt (ResultEnd h)
    result_end h =
        let zeros : 0 + h ≡ h = omega arith in
        record { dot = Within 1 (Of (ResultEnd h)); at = ap (λ (k : ℕ). Within 1 (Of (ResultEnd k))) zeros; there = refl; home = refl }

    end_at : (e : End) (c : Contact) → contact_at r e ≡ Some c → EndAt e
    end_at (PartEnd x h) c at = let (y, is) = part_is_there (slice_get r.parts x) h c at in part_end x h y is (f x) refl
    end_at (ImportEnd x h) c at = let (y, is) = import_is_there (slice_get r.imports x) h c at in import_end x h y is
    end_at (ResultEnd h) c at = result_end h

    -- the node's ties are its child's, led elsewhere, and one of its own
    counts : count (type_of_node m) ≡ 2
    counts = ap count var

    to_ties : ties_of types i j (One (Exp b) [] OfDeref m) (row places.Result 0 (count (Exp b)))
        ≡ (paths.tie (point places.Result 0) (point (places.Part i) 1) ∷ map (renamed_tie to_m) (child_ties types (i + 1) (suc j) m))
    to_ties =
        let plain : i + 0 ≡ i = omega arith in
        let led : (point (places.Part i) 0 ∷ point (places.Node j) 0 ∷ []) ≡ map (renamed to_m) (row places.Result 0 (count (type_of_node m))) =
        ap (λ (c : ℕ). map (renamed to_m) (row places.Result 0 c)) (sym counts) in
        ap
        (λ (x : ℕ). paths.tie (point places.Result 0) (point (places.Part x) 1)
        ∷ ties_of types (x + 1) (suc j) m (point (places.Part x) 0 ∷ point (places.Node j) 0 ∷ []))
        plain
        ∙ ap (λ (ts : List point_ties.Tie). paths.tie (point places.Result 0) (point (places.Part i) 1) ∷ ts)
        (ap (ties_of types (i + 1) (suc j) m) led
        ∙ sym (ties_renamed to_m types (i + 1) (suc j) m (row places.Result 0 (count (type_of_node m)))))

    of_node : IsOfWeb w r
    of_node =
        subst (λ (ts : List point_ties.Tie). IsOfWeb (record { ties = within 0 (dot_ties ts) ++ all_supply_ties types env ns; at = dot_at i pl }) r)
        to_ties of.web

    reader_right : IsRight (reader b)
    reader_right = (((0, b, refl, refl), refl, refl), tt)

    matches : IsWired types (i + 1) (suc j) m ns env pm p → IsJoined (reading b p) s → Matching g w u r s
    matches of_p joined =
        record {
          web = of_node;
          other_web =
              joining_is_union (reading b p) (reads.webs types i j b m ns env pl pm p) s
              (of_p.web, (right_is_of_its_web (reader b) reader_right, tt)) (links_stand (reading b p) joined.fits) joined.joining;
          one_to_one = one_to_one;
          parts =
              λ k.
              ap (λ (xs : List Part). slice_get xs (to k))
              (joined.joining.parts ∙ ap (λ (xs : List Part). chosen f r.parts ++ xs) (sym one_other))
              ∙ put_there f r.parts k;
          imports = λ k. ap (λ (xs : List Imported). slice_get xs k) (reading_imports b p s joined.joining);
          outcome = joined.joining.outcome ∙ sym of.outcome;
          forth = forth;
          back = back;
          ties_forth = reads.ties_forth types i j b m ns env pl pm p;
          ties_back = reads.ties_back types i j b m ns env pl pm p;
          ends_forth =
              λ e c at.
              let is = end_at e c at in still u.ties (forth (w.at e)) (u.at (moved_end g e)) (is.there ∙ sym is.at);
          ends_back =
              λ e c at.
              let is = end_at e c at in still w.ties (back (u.at (moved_end g e))) (w.at e) (ap back is.at ∙ is.home);
        }

  pub read : IsReading b types (i + 1) (suc j) m ns env r
  read =
      let (js, of_p) = wired in
      let (s, joined) = (variables_are_joined b 0 (record bare { joints = js }) of_p.web.right var).0 in
      record {
        child = record bare { joints = js };
        read = s;
        placing = pm;
        numbers = g;
        wired = of_p;
        joined = joined;
        same = matched g (w js s) (u js s) r s (matches js s of_p joined);
      }

pub deref_is_reading : DerefIsReading
deref_is_reading types i j b m ns env pl r of var can = read types i j b m ns env pl r of var can
