-- A function's node, applied to an argument, is its body, wired with the argument for the bound number.
use Rattle.std.specs.Prelude.{◌≡◌, ℕ, zero, suc, ◌+◌, ◌-◌, ◌<◌, ◌≤◌, Bool, true, false, List, [], ◌∷◌, ◌++◌, ◌⊎◌, length, map, take, drop, Option, Some, Contains, nat_eq, nat_lt, slice_get, if◌then◌else◌}
use Rattle.std.proofs.Common.{refl, sym, ◌∙◌, ap, subst, arith, inl, inr}
use Rattle.std.proofs.lemmas.Option.{slice_get_within}
use Rattle.std.proofs.lemmas.List.{append-nil}
use Rattle.std.proofs.lemmas.List.Elements.{Contains-append_left, Contains-append_right, Contains-append_cases}
use Rattle.std.proofs.lemmas.Bool.Decides.{nat_tests}
use Rattle.std.proofs.lemmas.Bool.{eqb-true, lt-ltb, le-ltb, eq-eqb}
use Rattle.gos_types.specs.Types.{Fun}
use Rattle.gos_types.proofs.ListLemmas.{found_behind, same_in_front}
use Rattle.gos_model.specs.Typing.{Imported}
use Rattle.gos_check.specs.Nodes.{Numbered, Under, OfFun, type_of_node}
use Rattle.gos_plan.specs.Kinds.{Part, Contact}
use Rattle.gos_plan.specs.Plans.{End, PartEnd, ImportEnd, ResultEnd, Plan, contact_at, IsRight}
use Rattle.gos_plan.specs.Joining.{Place as Spot, place, Link, LeftImport, all_left, left_place, origin}
use Rattle.gos_plan.proofs.ContactLemmas.{part_is_there, import_is_there}
use Rattle.gos_ties.specs.declared.points.Place.{Place}
use Rattle.gos_ties.specs.declared.points.Place.TheVariants as places
use Rattle.gos_ties.specs.declared.points.Point.{Point}
use Rattle.gos_ties.specs.declared.points.Tie as point_ties
use Rattle.gos_ties.specs.Ties.{point}
use Rattle.gos_realises.specs.realises.Regular.{count}
use Rattle.gos_realises.specs.realises.Links.{IsJoined}
use Rattle.gos_realises.specs.realises.Wirings.{link, results_linked, applying}
use Rattle.gos_realises.specs.realises.Modules.{Supply}
use Rattle.gos_realises.proofs.realises.CountLemmas.{count_fun}
use Rattle.gos_joining.specs.webs.Webs.{Dot, Of, Number, Node, Within, Tie, tie, Web, Way, IsOfWeb, own_web}
use Rattle.gos_joining.proofs.webs.WayLemmas.{way_then, way_back, mapped_way}
use Rattle.gos_joining.proofs.webs.WebLemmas.{same_ways, right_is_of_its_web}
use Rattle.gos_joining.specs.unions.Unions as unions
use Rattle.gos_joining.specs.unions.Unions.{within, link_ties, union}
use Rattle.gos_joining.proofs.unions.UnionLemmas.{Image, of_image, in_image, joining_is_union}
use Rattle.gos_joining.proofs.unions.FlatFitLemmas.{links_stand}
use Rattle.gos_supplies.proofs.applications.SeamLemmas.{listed, listed_at, listed_length, applied_left}
use Rattle.gos_supplies.proofs.applications.TogetherLemmas.{imports_of}
use Rattle.gos_compile.specs.Wiring.{Types, row, led, parts_of, ties_of}
use Rattle.gos_terms.specs.wired.Wired.{Supplies, Placing, Source, Own, Supplied, Origin, IsFrom, placed, source_dot, dot_at, dot_of_place, dot_of, dot_ties, result_ties, supply_ties, all_supply_ties, wired_web, IsWired}
use Rattle.gos_terms.proofs.wired.TieLemmas.{OfSupplies, of_supplies, in_supplies, of_results, in_results}
use Rattle.gos_joining.proofs.weaving.CrossingLemmas.{still}
use Rattle.gos_sharing.proofs.function_types.SideLemmas.{link_is_in}
use Rattle.gos_terms.proofs.applying.RenamedLemmas.{renamed_at, renamed, renamed_tie, map_two, ties_renamed}
use Rattle.gos_terms.proofs.applying.RowLemmas.{row_two}
use Rattle.gos_terms.proofs.applying.SupplyLemmas.{inside, result_tie, IsSupplyTie, of_supply, tied_at}
use Rattle.gos_terms.proofs.applying.ChildLemmas.{dot_tie, child_ties, own_ties, node_ties, own_tie, node_tie, of_own, in_own, of_node, in_node}
use Rattle.gos_terms.proofs.applying.ApplyWebLemmas.{of_links}
use Rattle.gos_terms.proofs.regions.NamedLemmas.{before}
use Rattle.gos_terms.specs.function_forms.Bodies.{with_supply, AppliedIsBody}

-- rows of the result's points
take_row : (x l : ℕ) (ps : List Point) → take l (row places.Result x l ++ ps) ≡ row places.Result x l
take_row x zero [] = refl
take_row x zero (p ∷ ps) = refl
take_row x (suc l) ps = ap (λ (qs : List Point). point places.Result x ∷ qs) (take_row (suc x) l ps)

drop_row : (x l : ℕ) (ps : List Point) → drop l (row places.Result x l ++ ps) ≡ ps
drop_row x zero [] = refl
drop_row x zero (p ∷ ps) = refl
drop_row x (suc l) ps = drop_row (suc x) l ps

-- the handshakes of a function's argument meet its number
abbrev fun_row : ℕ → ℕ → ℕ → List Tie
fun_row n x l = within 0 (dot_ties (led (row places.Result x l) (places.Number n) x))

abbrev fun_tie : ℕ → ℕ → Tie
fun_tie n h = tie (Within 0 (Of (ResultEnd h))) (Within 0 (Number n h))

in_fun : (n x l h : ℕ) → x ≤ h → h < x + l → Contains (fun_row n x l) (fun_tie n h)
in_fun n x zero h low high = absurd (omega (arith, low, high))
in_fun n x (suc l) h low high = by_number (h - x) (omega (arith, low)) (λ above. later (in_fun n (suc x) l h above (omega (arith, high))))
  where
    later : Contains (fun_row n (suc x) l) (fun_tie n h) → Contains (fun_row n x (suc l)) (fun_tie n h)
    later (k, small, e) = (suc k, omega (arith, small), e)

    by_number : (d : ℕ) → h ≡ x + d → (suc x ≤ h → Contains (fun_row n x (suc l)) (fun_tie n h)) → Contains (fun_row n x (suc l)) (fun_tie n h)
    by_number zero e further = let same : x ≡ h = omega (arith, e) in (0, omega arith, ap (fun_tie n) same)
    by_number (suc d) e further = further (omega (arith, e))

of_fun : (n x l : ℕ) (t : Tie) → Contains (fun_row n x l) t → (h : ℕ) × (h < x + l) × (fun_tie n h ≡ t)
of_fun n x zero t (k, small, e) = absurd (omega (arith, small))
of_fun n x (suc l) t (zero, small, e) = (x, omega arith, e)
of_fun n x (suc l) t (suc k, small, e) = let (h, low, same) = of_fun n (suc x) l t (k, omega (arith, small), e) in (h, omega (arith, low), same)

module _
    (types : Types) (i j n : ℕ) (m : Numbered) (ns : List ℕ) (env : Supplies) (pl : Placing) (r : Plan)
    (w : IsWired types i j (Under (Fun (types n) (type_of_node m)) [] OfFun n m) ns env pl r)
    (fresh : (k : ℕ) → Contains ns k → nat_eq k n ≡ false) (s : Supply) (right : IsRight s.plan) (r' : Plan)
    (joined : IsJoined (applying (types n) (type_of_node m) r s.plan) r') where
  abbrev pub body_numbers : List ℕ
  body_numbers = ns ++ n ∷ []

  -- the number stands for the argument
  abbrev pub inner : Supplies
  inner = with_supply n s env

  abbrev len : ℕ
  len = length r.parts

  abbrev len_i : ℕ
  len_i = length r.imports

  abbrev ca : ℕ
  ca = count (types n)

  abbrev cb : ℕ
  cb = count (type_of_node m)

  -- the argument's parts and imports come last
  abbrev pub body_placing : Placing
  body_placing =
      record {
        own = pl.own;
        supplied = λ l k. if nat_eq l n then len + k else pl.supplied l k;
        import = λ l k. if nat_eq l n then len_i + k else pl.import l k;
        source = λ k. if nat_lt k len then pl.source k else Supplied n (k - len);
        origin = λ k. if nat_lt k len_i then pl.origin k else record { number = n; import = k - len_i };
      }

  pub inner_here : (k : ℕ) → nat_eq k n ≡ true → inner k ≡ s
  inner_here k is = ap (λ (c : Bool). if c then s else env k) is

  pub inner_there : (k : ℕ) → nat_eq k n ≡ false → inner k ≡ env k
  inner_there k is = ap (λ (c : Bool). if c then s else env k) is

  itself : nat_eq n n ≡ true
  itself = eq-eqb n n refl

  supplied_here : (l k : ℕ) → nat_eq l n ≡ true → body_placing.supplied l k ≡ len + k
  supplied_here l k is = ap (λ (c : Bool). if c then len + k else pl.supplied l k) is

  supplied_there : (l k : ℕ) → nat_eq l n ≡ false → body_placing.supplied l k ≡ pl.supplied l k
  supplied_there l k is = ap (λ (c : Bool). if c then len + k else pl.supplied l k) is

  import_here : (l k : ℕ) → nat_eq l n ≡ true → body_placing.import l k ≡ len_i + k
  import_here l k is = ap (λ (c : Bool). if c then len_i + k else pl.import l k) is

  import_there : (l k : ℕ) → nat_eq l n ≡ false → body_placing.import l k ≡ pl.import l k
  import_there l k is = ap (λ (c : Bool). if c then len_i + k else pl.import l k) is

  source_low : (k : ℕ) → nat_lt k len ≡ true → body_placing.source k ≡ pl.source k
  source_low k is = ap (λ (c : Bool). if c then pl.source k else Supplied n (k - len)) is

  source_high : (k : ℕ) → nat_lt k len ≡ false → body_placing.source k ≡ Supplied n (k - len)
  source_high k is = ap (λ (c : Bool). if c then pl.source k else Supplied n (k - len)) is

  abbrev at_end : ℕ → Origin
  at_end k = record { number = n; import = k }

  origin_low : (k : ℕ) → nat_lt k len_i ≡ true → body_placing.origin k ≡ pl.origin k
  origin_low k is = ap (λ (c : Bool). if c then pl.origin k else at_end (k - len_i)) is

  origin_high : (k : ℕ) → nat_lt k len_i ≡ false → body_placing.origin k ≡ at_end (k - len_i)
  origin_high k is = ap (λ (c : Bool). if c then pl.origin k else at_end (k - len_i)) is

  pub parts_are : r'.parts ≡ r.parts ++ s.plan.parts
  parts_are = joined.joining.parts ∙ ap (λ (ps : List Part). r.parts ++ ps) (append-nil s.plan.parts)

  pub imports_are : r'.imports ≡ r.imports ++ s.plan.imports
  imports_are = imports_of (types n) (type_of_node m) r s.plan r' joined

  -- the parts
  part_front : (k : ℕ) (x : Part) → slice_get r.parts k ≡ Some x → slice_get r'.parts k ≡ Some x
  part_front k x at = ap (λ (ps : List Part). slice_get ps k) parts_are ∙ (same_in_front r.parts s.plan.parts k (slice_get_within r.parts k x at) ∙ at)

  part_behind : (k : ℕ) → slice_get r'.parts (len + k) ≡ slice_get s.plan.parts k
  part_behind k = ap (λ (ps : List Part). slice_get ps (len + k)) parts_are ∙ found_behind r.parts s.plan.parts k

  part_low : (k : ℕ) (x : Part) → slice_get r'.parts k ≡ Some x → nat_lt k len ≡ true → slice_get r.parts k ≡ Some x
  part_low k x at is =
      let low : k < len = grind (arith, nat_tests) in
      sym (same_in_front r.parts s.plan.parts k low) ∙ (ap (λ (ps : List Part). slice_get ps k) (sym parts_are) ∙ at)

  part_high : (k : ℕ) (x : Part) → slice_get r'.parts k ≡ Some x → nat_lt k len ≡ false → (len + (k - len) ≡ k) × (slice_get s.plan.parts (k - len) ≡ Some x)
  part_high k x at is =
      let high : len ≤ k = grind (arith, nat_tests) in
      let sum : len + (k - len) ≡ k = omega (arith, high) in
      (sum, sym (part_behind (k - len)) ∙ (ap (slice_get r'.parts) sum ∙ at))

  abbrev PartPlaced : Part → Source → Type 0
  PartPlaced x o = (slice_get r'.parts (placed body_placing o) ≡ Some x) × (body_placing.source (placed body_placing o) ≡ o)

  parts_placed : (x : Part) (o : Source) → IsFrom (parts_of types m) body_numbers inner x o → PartPlaced x o
  parts_placed x (Own k) from =
      let (at, back) = w.parts x (Own k) from in
      (part_front (pl.own k) x at, source_low (pl.own k) (lt-ltb (pl.own k) len (slice_get_within r.parts (pl.own k) x at)) ∙ back)
  parts_placed x (Supplied l k) (has, from) = by_test (nat_eq l n) refl
    where
      by_test : (c : Bool) → nat_eq l n ≡ c → PartPlaced x (Supplied l k)
      by_test true is =
          let number : n ≡ l = sym (eqb-true l n is) in
          let less : (len + k) - len ≡ k = omega arith in (
            ap (slice_get r'.parts) (supplied_here l k is)
                ∙ (part_behind k ∙ (ap (λ (z : Supply). slice_get z.plan.parts k) (sym (inner_here l is)) ∙ from)),
            ap body_placing.source (supplied_here l k is)
                ∙ (source_high (len + k) (le-ltb (len + k) len (omega arith)) ∙ (λ z. Supplied (number z) (less z))),
          )
      by_test false is =
          let (at, back) =
          w.parts x (Supplied l k) (before ns n l is has, ap (λ (z : Supply). slice_get z.plan.parts k) (sym (inner_there l is)) ∙ from) in (
            ap (slice_get r'.parts) (supplied_there l k is) ∙ part_front (pl.supplied l k) x at,
            ap body_placing.source (supplied_there l k is)
                ∙ (source_low (pl.supplied l k) (lt-ltb (pl.supplied l k) len (slice_get_within r.parts (pl.supplied l k) x at)) ∙ back),
          )

  lifted : (x : Part) (o : Source) → IsFrom (parts_of types m) ns env x o
      → IsFrom (parts_of types m) body_numbers inner x o × (placed body_placing o ≡ placed pl o)
  lifted x (Own k) from = (from, refl)
  lifted x (Supplied l k) (has, from) = (
    (Contains-append_left ns (n ∷ []) l has, ap (λ (z : Supply). slice_get z.plan.parts k) (inner_there l (fresh l has)) ∙ from),
    supplied_there l k (fresh l has),
  )

  last_has : Contains body_numbers n
  last_has = Contains-append_right ns (n ∷ []) n (0, omega arith, refl)

  abbrev PartFrom : Part → ℕ → Source → Type 0
  PartFrom x k o = IsFrom (parts_of types m) body_numbers inner x o × (placed body_placing o ≡ k)

  no_more : (k : ℕ) (x : Part) → slice_get r'.parts k ≡ Some x → PartFrom x k (body_placing.source k)
  no_more k x at = by_test (nat_lt k len) refl
    where
      by_test : (c : Bool) → nat_lt k len ≡ c → PartFrom x k (body_placing.source k)
      by_test true is =
          let (from, home) = w.no_more k x (part_low k x at is) in
          let (up, same) = lifted x (pl.source k) from in
          subst (PartFrom x k) (sym (source_low k is)) (up, same ∙ home)
      by_test false is =
          let (sum, from) = part_high k x at is in
          subst (PartFrom x k) (sym (source_high k is)) (
            (last_has, ap (λ (z : Supply). slice_get z.plan.parts (k - len)) (inner_here n itself) ∙ from),
            supplied_here n (k - len) itself ∙ sum,
          )

  -- the imports
  import_front : (k : ℕ) (x : Imported) → slice_get r.imports k ≡ Some x → slice_get r'.imports k ≡ Some x
  import_front k x at =
      ap (λ (ps : List Imported). slice_get ps k) imports_are ∙ (same_in_front r.imports s.plan.imports k (slice_get_within r.imports k x at) ∙ at)

  import_behind : (k : ℕ) → slice_get r'.imports (len_i + k) ≡ slice_get s.plan.imports k
  import_behind k = ap (λ (ps : List Imported). slice_get ps (len_i + k)) imports_are ∙ found_behind r.imports s.plan.imports k

  import_low : (k : ℕ) (x : Imported) → slice_get r'.imports k ≡ Some x → nat_lt k len_i ≡ true → slice_get r.imports k ≡ Some x
  import_low k x at is =
      let low : k < len_i = grind (arith, nat_tests) in
      sym (same_in_front r.imports s.plan.imports k low) ∙ (ap (λ (ps : List Imported). slice_get ps k) (sym imports_are) ∙ at)

  import_high : (k : ℕ) (x : Imported) → slice_get r'.imports k ≡ Some x → nat_lt k len_i ≡ false
      → (len_i + (k - len_i) ≡ k) × (slice_get s.plan.imports (k - len_i) ≡ Some x)
  import_high k x at is =
      let high : len_i ≤ k = grind (arith, nat_tests) in
      let sum : len_i + (k - len_i) ≡ k = omega (arith, high) in
      (sum, sym (import_behind (k - len_i)) ∙ (ap (slice_get r'.imports) sum ∙ at))

  abbrev ImportPlaced : Imported → ℕ → ℕ → Type 0
  ImportPlaced x l k = (slice_get r'.imports (body_placing.import l k) ≡ Some x) × (body_placing.origin (body_placing.import l k) ≡ record { number = l; import = k })

  imports_placed : (l k : ℕ) (x : Imported) → Contains body_numbers l → slice_get (inner l).plan.imports k ≡ Some x → ImportPlaced x l k
  imports_placed l k x has from = by_test (nat_eq l n) refl
    where
      by_test : (c : Bool) → nat_eq l n ≡ c → ImportPlaced x l k
      by_test true is =
          let number : n ≡ l = sym (eqb-true l n is) in
          let less : (len_i + k) - len_i ≡ k = omega arith in (
            ap (slice_get r'.imports) (import_here l k is)
                ∙ (import_behind k ∙ (ap (λ (z : Supply). slice_get z.plan.imports k) (sym (inner_here l is)) ∙ from)),
            ap body_placing.origin (import_here l k is)
                ∙ (origin_high (len_i + k) (le-ltb (len_i + k) len_i (omega arith)) ∙ (λ z. record { number = number z; import = less z })),
          )
      by_test false is =
          let (at, back) =
          w.imports l k x (before ns n l is has) (ap (λ (z : Supply). slice_get z.plan.imports k) (sym (inner_there l is)) ∙ from) in (
            ap (slice_get r'.imports) (import_there l k is) ∙ import_front (pl.import l k) x at,
            ap body_placing.origin (import_there l k is)
                ∙ (origin_low (pl.import l k) (lt-ltb (pl.import l k) len_i (slice_get_within r.imports (pl.import l k) x at)) ∙ back),
          )

  abbrev ImportFrom : Imported → ℕ → Origin → Type 0
  ImportFrom x k o =
      Contains body_numbers o.number × (slice_get (inner o.number).plan.imports o.import ≡ Some x) × (body_placing.import o.number o.import ≡ k)

  no_import : (k : ℕ) (x : Imported) → slice_get r'.imports k ≡ Some x → ImportFrom x k (body_placing.origin k)
  no_import k x at = by_test (nat_lt k len_i) refl
    where
      by_test : (c : Bool) → nat_lt k len_i ≡ c → ImportFrom x k (body_placing.origin k)
      by_test true is =
          let (has, from, home) = w.no_import k x (import_low k x at is) in
          let other = fresh (pl.origin k).number has in
          subst (ImportFrom x k) (sym (origin_low k is)) (
            Contains-append_left ns (n ∷ []) (pl.origin k).number has,
            ap (λ (z : Supply). slice_get z.plan.imports (pl.origin k).import) (inner_there (pl.origin k).number other) ∙ from,
            import_there (pl.origin k).number (pl.origin k).import other ∙ home,
          )
      by_test false is =
          let (sum, from) = import_high k x at is in
          subst (ImportFrom x k) (sym (origin_high k is)) (
            last_has,
            ap (λ (z : Supply). slice_get z.plan.imports (k - len_i)) (inner_here n itself) ∙ from,
            import_here n (k - len_i) itself ∙ sum,
          )

  -- the node's ties
  abbrev to : ℕ → Point
  to h = point places.Result (ca + h)

  to_row : (x y l : ℕ) → y ≡ ca + x → map (renamed to) (row places.Result x l) ≡ row places.Result y l
  to_row x y zero same = refl
  to_row x y (suc l) same =
      let rest = to_row (suc x) (suc y) l (omega (arith, same)) in λ z. point places.Result (sym same z) ∷ rest z

  abbrev fun_ties : List Tie
  fun_ties = fun_row n 0 ca

  abbrev body_ties : List Tie
  body_ties = node_ties to types i (suc j) m

  abbrev supplies : List Tie
  supplies = all_supply_ties types env ns

  ties_are : ties_of types i j (Under (Fun (types n) (type_of_node m)) [] OfFun n m) (row places.Result 0 (count (Fun (types n) (type_of_node m))))
      ≡ led (row places.Result 0 ca) (places.Number n) 0 ++ map (renamed_tie to) (child_ties types i (suc j) m)
  ties_are =
      let zeros : 0 + ca ≡ ca = omega arith in
      let rows : row places.Result 0 (count (Fun (types n) (type_of_node m))) ≡ row places.Result 0 ca ++ row places.Result (0 + ca) cb =
      ap (row places.Result 0) (count_fun (types n) (type_of_node m)) ∙ row_two places.Result 0 ca cb in
      let start : i + 0 + 0 ≡ i = omega arith in
      let first = take_row 0 ca (row places.Result (0 + ca) cb) in
      let last : drop ca (row places.Result 0 ca ++ row places.Result (0 + ca) cb) ≡ map (renamed to) (row places.Result 0 cb) =
      drop_row 0 ca (row places.Result (0 + ca) cb) ∙ sym (to_row 0 (0 + ca) cb (omega arith)) in
      ap (ties_of types i j (Under (Fun (types n) (type_of_node m)) [] OfFun n m)) rows
      ∙ ((λ z. led (first z) (places.Number n) 0 ++ ties_of types (start z) (suc j) m (last z))
      ∙ ap (λ (ts : List point_ties.Tie). led (row places.Result 0 ca) (places.Number n) 0 ++ ts) (sym (ties_renamed to types i (suc j) m (row places.Result 0 cb))))

  abbrev v : Web
  v = record { ties = (fun_ties ++ body_ties) ++ supplies; at = dot_at i pl }

  parted_ties : (xs ys : List point_ties.Tie) → within 0 (dot_ties (xs ++ ys)) ≡ within 0 (dot_ties xs) ++ within 0 (dot_ties ys)
  parted_ties xs ys = ap (map (inside 0)) (map_two dot_tie xs ys) ∙ map_two (inside 0) (dot_ties xs) (dot_ties ys)

  of_v : IsOfWeb v r
  of_v =
      subst (λ (ts : List Tie). IsOfWeb (record { ties = ts ++ supplies; at = dot_at i pl }) r)
      (ap (λ (ts : List point_ties.Tie). within 0 (dot_ties ts)) ties_are
      ∙ parted_ties (led (row places.Result 0 ca) (places.Number n) 0) (map (renamed_tie to) (child_ties types i (suc j) m)))
      w.web

  abbrev webs : List Web
  webs = v ∷ own_web s.plan ∷ []

  abbrev u : Web
  u = union (applying (types n) (type_of_node m) r s.plan) webs

  of_u : IsOfWeb u r'
  of_u =
      joining_is_union (applying (types n) (type_of_node m) r s.plan) webs r' (of_v, (right_is_of_its_web s.plan right, tt))
      (links_stand (applying (types n) (type_of_node m) r s.plan) joined.fits) joined.joining

  abbrev v' : Web
  v' = wired_web types i (suc j) m body_numbers inner body_placing

  -- the dots of the union, in the body's web, and back
  abbrev at_zero : Dot → Dot
  at_zero (Of (PartEnd k h)) = Within 0 (Of (PartEnd k h))
  at_zero (Of (ImportEnd k h)) = Within 0 (Of (ImportEnd k h))
  at_zero (Of (ResultEnd h)) = if nat_lt h ca then Within (suc n) (Of (ResultEnd h)) else Within 0 (Of (ResultEnd (h - ca)))
  at_zero (Number k h) = Within 0 (Number k h)
  at_zero (Node k h) = Within 0 (Node k h)
  at_zero (Within k d) = Within 0 (Within k d)

  abbrev in_first : Dot → Dot
  in_first (Of e) = Of e
  in_first (Number k h) = Number k h
  in_first (Node k h) = Node k h
  in_first (Within zero d) = at_zero d
  in_first (Within (suc k) d) = Within (suc k) d

  abbrev forth : Dot → Dot
  forth (Of e) = Of e
  forth (Number k h) = Number k h
  forth (Node k h) = Node k h
  forth (Within zero d) = in_first d
  forth (Within (suc k) d) = Within (suc n) d

  abbrev from_zero : Dot → Dot
  from_zero (Of (PartEnd k h)) = Within 0 (Within 0 (Of (PartEnd k h)))
  from_zero (Of (ImportEnd k h)) = Within 0 (Within 0 (Of (ImportEnd k h)))
  from_zero (Of (ResultEnd h)) = Within 0 (Within 0 (Of (ResultEnd (ca + h))))
  from_zero (Number k h) = Within 0 (Within 0 (Number k h))
  from_zero (Node k h) = Within 0 (Within 0 (Node k h))
  from_zero (Within k d) = Within 0 (Within 0 (Within k d))

  abbrev back : Dot → Dot
  back (Of e) = Of e
  back (Number k h) = Number k h
  back (Node k h) = Node k h
  back (Within zero d) = from_zero d
  back (Within (suc k) d) = if nat_eq k n then Within 1 d else Within 0 (Within (suc k) d)

  back_here : (k : ℕ) (d : Dot) → nat_eq k n ≡ true → back (Within (suc k) d) ≡ Within 1 d
  back_here k d is = ap (λ (c : Bool). if c then Within 1 d else Within 0 (Within (suc k) d)) is

  back_there : (k : ℕ) (d : Dot) → nat_eq k n ≡ false → back (Within (suc k) d) ≡ Within 0 (Within (suc k) d)
  back_there k d is = ap (λ (c : Bool). if c then Within 1 d else Within 0 (Within (suc k) d)) is

  argument_dot : (h : ℕ) → h < ca → at_zero (Of (ResultEnd h)) ≡ Within (suc n) (Of (ResultEnd h))
  argument_dot h low = ap (λ (c : Bool). if c then Within (suc n) (Of (ResultEnd h)) else Within 0 (Of (ResultEnd (h - ca)))) (lt-ltb h ca low)

  result_dot : (h : ℕ) → at_zero (Of (ResultEnd (ca + h))) ≡ Within 0 (Of (ResultEnd h))
  result_dot h =
      let less : (ca + h) - ca ≡ h = omega arith in
      ap (λ (c : Bool). if c then Within (suc n) (Of (ResultEnd (ca + h))) else Within 0 (Of (ResultEnd ((ca + h) - ca)))) (le-ltb (ca + h) ca (omega arith))
      ∙ ap (λ (x : ℕ). Within 0 (Of (ResultEnd x))) less

  raised : (q : Place) (h : ℕ) → at_zero (dot_of (renamed_at to q h)) ≡ Within 0 (dot_of_place q h)
  raised (places.Part k) h = refl
  raised (places.Import k) h = refl
  raised places.Result h = result_dot h
  raised (places.Number k) h = refl
  raised (places.Node k) h = refl

  lowered : (q : Place) (h : ℕ) → Within 0 (Within 0 (dot_of (renamed_at to q h))) ≡ from_zero (dot_of_place q h)
  lowered (places.Part k) h = refl
  lowered (places.Import k) h = refl
  lowered places.Result h = refl
  lowered (places.Number k) h = refl
  lowered (places.Node k) h = refl

  -- ties of the body's web
  own_there : (x : point_ties.Tie) → Contains (child_ties types i (suc j) m) x → Contains v'.ties (own_tie x)
  own_there x has =
      Contains-append_left (own_ties types i (suc j) m) (all_supply_ties types inner body_numbers) (own_tie x) (in_own types i (suc j) m x has)

  supply_there : (l : ℕ) (t : Tie) → Contains body_numbers l → Contains (supply_ties types inner l) t → Contains v'.ties t
  supply_there l t has h =
      Contains-append_right (own_ties types i (suc j) m) (all_supply_ties types inner body_numbers) t (in_supplies types inner body_numbers l t has h)

  abbrev ties_with : ℕ → Supply → List Tie
  ties_with l z = within (suc l) (own_web z.plan).ties ++ result_ties l 0 (count (types l))

  argument_there : (y : Tie) → Contains (own_web s.plan).ties y → Contains v'.ties (inside (suc n) y)
  argument_there y has =
      supply_there n (inside (suc n) y) last_has
      (subst (λ (z : Supply). Contains (ties_with n z) (inside (suc n) y)) (sym (inner_here n itself))
      (Contains-append_left (within (suc n) (own_web s.plan).ties) (result_ties n 0 ca) (inside (suc n) y) (in_image (inside (suc n)) (own_web s.plan).ties y has)))

  result_there : (h : ℕ) → h < ca → Contains v'.ties (result_tie n h)
  result_there h low =
      supply_there n (result_tie n h) last_has
      (subst (λ (z : Supply). Contains (ties_with n z) (result_tie n h)) (sym (inner_here n itself))
      (Contains-append_right (within (suc n) (own_web s.plan).ties) (result_ties n 0 ca) (result_tie n h) (in_results n 0 ca h (omega arith) (omega (arith, low)))))

  -- ties of the union
  first_there : (y : Tie) → Contains v.ties y → Contains u.ties (inside 0 y)
  first_there y has =
      Contains-append_left (within 0 v.ties ++ (within 1 (own_web s.plan).ties ++ [])) (link_ties webs (results_linked 1 0 ca)) (inside 0 y)
      (Contains-append_left (within 0 v.ties) (within 1 (own_web s.plan).ties ++ []) (inside 0 y) (in_image (inside 0) v.ties y has))

  second_there : (y : Tie) → Contains (own_web s.plan).ties y → Contains u.ties (inside 1 y)
  second_there y has =
      Contains-append_left (within 0 v.ties ++ (within 1 (own_web s.plan).ties ++ [])) (link_ties webs (results_linked 1 0 ca)) (inside 1 y)
      (Contains-append_right (within 0 v.ties) (within 1 (own_web s.plan).ties ++ []) (inside 1 y)
      (Contains-append_left (within 1 (own_web s.plan).ties) [] (inside 1 y) (in_image (inside 1) (own_web s.plan).ties y has)))

  abbrev linked : ℕ → Tie
  linked h = tie (Within 0 (Within 0 (Of (ResultEnd h)))) (Within 1 (Of (ResultEnd h)))

  abbrev of_link : Link → Tie
  of_link l = tie (unions.dot_at webs l.one) (unions.dot_at webs l.other)

  link_there : (h : ℕ) → h < ca → Contains u.ties (linked h)
  link_there h low =
      Contains-append_right (within 0 v.ties ++ (within 1 (own_web s.plan).ties ++ [])) (link_ties webs (results_linked 1 0 ca)) (linked h)
      (in_image of_link (results_linked 1 0 ca) (link 0 (ResultEnd h) 1 (ResultEnd h)) (link_is_in 0 ca h (omega arith) (omega (arith, low))))

  -- ties of the union are ways of the body's web
  abbrev Forth : Tie → Type 0
  Forth x = Way v'.ties (forth x.one) (forth x.other)

  fun_forth : (h : ℕ) → h < ca → Forth (inside 0 (fun_tie n h))
  fun_forth h low =
      way_back v'.ties (Within 0 (Number n h)) (at_zero (Of (ResultEnd h)))
      (tied_at v'.ties (result_tie n h) (Within 0 (Number n h)) (at_zero (Of (ResultEnd h))) (result_there h low) refl (sym (argument_dot h low)))

  body_forth : (x : point_ties.Tie) → Contains (child_ties types i (suc j) m) x → Forth (inside 0 (node_tie to x))
  body_forth x has =
      tied_at v'.ties (own_tie x) (forth (inside 0 (node_tie to x)).one) (forth (inside 0 (node_tie to x)).other) (own_there x has)
      (sym (raised x.one.place x.one.shake)) (sym (raised x.other.place x.other.shake))

  supply_same : (l : ℕ) (t : Tie) → IsSupplyTie l t → (t.one ≡ forth (Within 0 t.one)) × (t.other ≡ forth (Within 0 t.other))
  supply_same l t (inl (y, same)) =
      (subst (λ (x : Tie). x.one ≡ forth (Within 0 x.one)) same refl, subst (λ (x : Tie). x.other ≡ forth (Within 0 x.other)) same refl)
  supply_same l t (inr (h, same)) =
      (subst (λ (x : Tie). x.one ≡ forth (Within 0 x.one)) same refl, subst (λ (x : Tie). x.other ≡ forth (Within 0 x.other)) same refl)

  supply_forth : (t : Tie) → OfSupplies types env ns t → Forth (inside 0 t)
  supply_forth t (l, has, h) =
      let (one, other) = supply_same l t (of_supply types env l t h) in
      tied_at v'.ties t (forth (Within 0 t.one)) (forth (Within 0 t.other))
      (supply_there l t (Contains-append_left ns (n ∷ []) l has)
      (subst (λ (z : Supply). Contains (ties_with l z) t) (sym (inner_there l (fresh l has))) h)) one other

  ties_forth : (x : Tie) → Contains u.ties x → Forth x
  ties_forth x has =
      by_link (Contains-append_cases (within 0 v.ties ++ (within 1 (own_web s.plan).ties ++ [])) (link_ties webs (results_linked 1 0 ca)) x has)
    where
      of_row : (y : Tie) → (h : ℕ) × (h < 0 + ca) × (fun_tie n h ≡ y) → Forth (inside 0 y)
      of_row y (h, low, same) = subst (λ (z : Tie). Forth (inside 0 z)) same (fun_forth h (omega (arith, low)))

      of_body : (y : Tie) → Image (node_tie to) (child_ties types i (suc j) m) y → Forth (inside 0 y)
      of_body y (z, among, same) = subst (λ (t : Tie). Forth (inside 0 t)) same (body_forth z among)

      by_part : (y : Tie) → Contains fun_ties y ⊎ Contains body_ties y → Forth (inside 0 y)
      by_part y (inl h) = of_row y (of_fun n 0 ca y h)
      by_part y (inr h) = of_body y (of_node to types i (suc j) m y h)

      by_node : (y : Tie) → Contains (fun_ties ++ body_ties) y ⊎ Contains supplies y → Forth (inside 0 y)
      by_node y (inl h) = by_part y (Contains-append_cases fun_ties body_ties y h)
      by_node y (inr h) = supply_forth y (of_supplies types env ns y h)

      first : Image (inside 0) v.ties x → Forth x
      first (y, among, same) = subst Forth same (by_node y (Contains-append_cases (fun_ties ++ body_ties) supplies y among))

      second : Image (inside 1) (own_web s.plan).ties x → Forth x
      second (y, among, same) =
          subst Forth same (tied_at v'.ties (inside (suc n) y) (Within (suc n) y.one) (Within (suc n) y.other) (argument_there y among) refl refl)

      none : Contains [] x → ⊥
      none (k, small, e) = omega (arith, small)

      at_link : (h : ℕ) → h < ca → Forth (linked h)
      at_link h low = still v'.ties (at_zero (Of (ResultEnd h))) (Within (suc n) (Of (ResultEnd h))) (argument_dot h low)

      links : Image of_link (results_linked 1 0 ca) x → Forth x
      links (l, among, is) = let (h, low, same) = of_links 0 ca l among in subst Forth (ap of_link same ∙ is) (at_link h (omega (arith, low)))

      by_last : Contains (within 1 (own_web s.plan).ties) x ⊎ Contains [] x → Forth x
      by_last (inl h) = second (of_image (inside 1) (own_web s.plan).ties x h)
      by_last (inr h) = absurd (none h)

      by_web : Contains (within 0 v.ties) x ⊎ Contains (within 1 (own_web s.plan).ties ++ []) x → Forth x
      by_web (inl h) = first (of_image (inside 0) v.ties x h)
      by_web (inr h) = by_last (Contains-append_cases (within 1 (own_web s.plan).ties) [] x h)

      by_link : Contains (within 0 v.ties ++ (within 1 (own_web s.plan).ties ++ [])) x ⊎ Contains (link_ties webs (results_linked 1 0 ca)) x → Forth x
      by_link (inl h) = by_web (Contains-append_cases (within 0 v.ties) (within 1 (own_web s.plan).ties ++ []) x h)
      by_link (inr h) = links (of_image of_link (results_linked 1 0 ca) x h)

  -- and back
  abbrev Back : Tie → Type 0
  Back x = Way u.ties (back x.one) (back x.other)

  own_back : (x : point_ties.Tie) → Contains (child_ties types i (suc j) m) x → Back (own_tie x)
  own_back x has =
      tied_at u.ties (inside 0 (node_tie to x)) (back (own_tie x).one) (back (own_tie x).other)
      (first_there (node_tie to x)
      (Contains-append_left (fun_ties ++ body_ties) supplies (node_tie to x)
      (Contains-append_right fun_ties body_ties (node_tie to x) (in_node to types i (suc j) m x has))))
      (lowered x.one.place x.one.shake) (lowered x.other.place x.other.shake)

  argument_back : (y : Tie) → Contains (own_web s.plan).ties y → Back (inside (suc n) y)
  argument_back y has =
      tied_at u.ties (inside 1 y) (back (Within (suc n) y.one)) (back (Within (suc n) y.other)) (second_there y has)
      (sym (back_here n y.one itself)) (sym (back_here n y.other itself))

  result_back : (h : ℕ) → h < ca → Back (result_tie n h)
  result_back h low =
      let number : Dot = Within 0 (Within 0 (Number n h)) in
      let between : Dot = Within 0 (Within 0 (Of (ResultEnd h))) in
      let last : Dot = back (Within (suc n) (Of (ResultEnd h))) in
      let there =
      first_there (fun_tie n h)
      (Contains-append_left (fun_ties ++ body_ties) supplies (fun_tie n h)
      (Contains-append_left fun_ties body_ties (fun_tie n h) (in_fun n 0 ca h (omega arith) (omega (arith, low))))) in
      way_then u.ties number between last
      (way_back u.ties between number (tied_at u.ties (inside 0 (fun_tie n h)) between number there refl refl))
      (tied_at u.ties (linked h) between last (link_there h low) refl (sym (back_here n (Of (ResultEnd h)) itself)))

  others_same : (l : ℕ) (t : Tie) → nat_eq l n ≡ false → IsSupplyTie l t → (Within 0 t.one ≡ back t.one) × (Within 0 t.other ≡ back t.other)
  others_same l t other (inl (y, same)) = (
    subst (λ (x : Tie). Within 0 x.one ≡ back x.one) same (sym (back_there l y.one other)),
    subst (λ (x : Tie). Within 0 x.other ≡ back x.other) same (sym (back_there l y.other other)),
  )
  others_same l t other (inr (h, same)) = (
    subst (λ (x : Tie). Within 0 x.one ≡ back x.one) same refl,
    subst (λ (x : Tie). Within 0 x.other ≡ back x.other) same (sym (back_there l (Of (ResultEnd h)) other)),
  )

  supply_back : (t : Tie) (l : ℕ) → Contains body_numbers l → Contains (supply_ties types inner l) t → Back t
  supply_back t l has h = by_test (nat_eq l n) refl
    where
      of_argument : Image (inside (suc n)) (own_web s.plan).ties t → Back t
      of_argument (y, among, same) = subst Back same (argument_back y among)

      of_result : (g : ℕ) → g < 0 + ca → t ≡ result_tie n g → Back t
      of_result g low same = subst Back (sym same) (result_back g (omega (arith, low)))

      at_argument : Contains (within (suc n) (own_web s.plan).ties) t ⊎ Contains (result_ties n 0 ca) t → Back t
      at_argument (inl k) = of_argument (of_image (inside (suc n)) (own_web s.plan).ties t k)
      at_argument (inr k) = let (g, low, high, same) = of_results n 0 ca t k in of_result g high same

      by_test : (c : Bool) → nat_eq l n ≡ c → Back t
      by_test true is =
          let number : l ≡ n = eqb-true l n is in
          at_argument
          (Contains-append_cases (within (suc n) (own_web s.plan).ties) (result_ties n 0 ca) t
          (subst (λ (z : Supply). Contains (ties_with n z) t) (inner_here n itself) (subst (λ (k : ℕ). Contains (supply_ties types inner k) t) number h)))
      by_test false is =
          let in_ns = before ns n l is has in
          let there = subst (λ (z : Supply). Contains (ties_with l z) t) (inner_there l is) h in
          let (one, other) = others_same l t is (of_supply types env l t there) in
          tied_at u.ties (inside 0 t) (back t.one) (back t.other)
          (first_there t (Contains-append_right (fun_ties ++ body_ties) supplies t (in_supplies types env ns l t in_ns there))) one other

  ties_back : (x : Tie) → Contains v'.ties x → Back x
  ties_back x has = by_part (Contains-append_cases (own_ties types i (suc j) m) (all_supply_ties types inner body_numbers) x has)
    where
      of_image_own : Image own_tie (child_ties types i (suc j) m) x → Back x
      of_image_own (y, among, same) = subst Back same (own_back y among)

      of_some : OfSupplies types inner body_numbers x → Back x
      of_some (l, has_l, h) = supply_back x l has_l h

      by_part : Contains (own_ties types i (suc j) m) x ⊎ Contains (all_supply_ties types inner body_numbers) x → Back x
      by_part (inl h) = of_image_own (of_own types i (suc j) m x h)
      by_part (inr h) = of_some (of_supplies types inner body_numbers x h)

  -- where an end stands in both
  record EndAt (e : End) : Type 0 where
    there : forth (u.at e) ≡ v'.at e
    home : back (v'.at e) ≡ u.at e

  abbrev at_spot : Spot → Dot
  at_spot = unions.dot_at webs

  abbrev spot : End → Spot
  spot = origin (applying (types n) (type_of_node m) r s.plan)

  source_there : (h : ℕ) (o : Source) → forth (Within 0 (source_dot i o h)) ≡ source_dot i o h
  source_there h (Own k) = refl
  source_there h (Supplied l k) = refl

  source_home : (h : ℕ) (x : Part) (o : Source) → IsFrom (parts_of types m) ns env x o → back (source_dot i o h) ≡ Within 0 (source_dot i o h)
  source_home h x (Own k) from = refl
  source_home h x (Supplied l k) (has, from) = back_there l (Of (PartEnd k h)) (fresh l has)

  part_end : (k h : ℕ) (x : Part) → slice_get r'.parts k ≡ Some x → (c : Bool) → nat_lt k len ≡ c → EndAt (PartEnd k h)
  part_end k h x at true is =
      let where_is : spot (PartEnd k h) ≡ place 0 (PartEnd k h) =
      ap
      (λ (c : Bool). if c then place 0 (PartEnd k h)
      else (if nat_lt (k - len) (length s.plan.parts) then place 1 (PartEnd (k - len) h) else place 2 (PartEnd (k - len - length s.plan.parts) h))) is in
      let (from, home) = w.no_more k x (part_low k x at is) in
      let same = source_low k is in
      record {
        there =
            ap (λ (z : Spot). forth (at_spot z)) where_is
            ∙ (source_there h (pl.source k) ∙ ap (λ (o : Source). source_dot i o h) (sym same));
        home =
            ap (λ (o : Source). back (source_dot i o h)) same
            ∙ (source_home h x (pl.source k) from ∙ ap at_spot (sym where_is));
      }
  part_end k h x at false is =
      let (sum, at_q) = part_high k x at is in
      let low = lt-ltb (k - len) (length s.plan.parts) (slice_get_within s.plan.parts (k - len) x at_q) in
      let where_is : spot (PartEnd k h) ≡ place 1 (PartEnd (k - len) h) =
      ap
      (λ (c : Bool). if c then place 0 (PartEnd k h)
      else (if nat_lt (k - len) (length s.plan.parts) then place 1 (PartEnd (k - len) h) else place 2 (PartEnd (k - len - length s.plan.parts) h))) is
      ∙ ap (λ (c : Bool). if c then place 1 (PartEnd (k - len) h) else place 2 (PartEnd (k - len - length s.plan.parts) h)) low in
      let same = source_high k is in
      record {
        there = ap (λ (z : Spot). forth (at_spot z)) where_is ∙ ap (λ (o : Source). source_dot i o h) (sym same);
        home =
            ap (λ (o : Source). back (source_dot i o h)) same
            ∙ (back_here n (Of (PartEnd (k - len) h)) itself ∙ ap at_spot (sym where_is));
      }

  left_all : all_left (applying (types n) (type_of_node m) r s.plan) ≡ listed 0 0 r.imports ++ listed 1 0 s.plan.imports
  left_all = applied_left (types n) (type_of_node m) r s.plan

  abbrev import_dot : Origin → ℕ → Dot
  import_dot o h = Within (suc o.number) (Of (ImportEnd o.import h))

  import_end : (k h : ℕ) (x : Imported) → slice_get r'.imports k ≡ Some x → (c : Bool) → nat_lt k len_i ≡ c → EndAt (ImportEnd k h)
  import_end k h x at true is =
      let at_r = import_low k x at is in
      let low = slice_get_within r.imports k x at_r in
      let long = listed_length 0 0 r.imports in
      let zeros : 0 + k ≡ k = omega arith in
      let left : slice_get (all_left (applying (types n) (type_of_node m) r s.plan)) k ≡ Some (record { plan = 0; number = 0 + k; import = x }) =
      ap (λ (l : List LeftImport). slice_get l k) left_all
      ∙ (same_in_front (listed 0 0 r.imports) (listed 1 0 s.plan.imports) k (omega (arith, low, long)) ∙ listed_at 0 0 r.imports k x at_r) in
      let where_is : spot (ImportEnd k h) ≡ place 0 (ImportEnd k h) =
      ap (λ (o : Option LeftImport). left_place o h) left ∙ ap (λ (y : ℕ). place 0 (ImportEnd y h)) zeros in
      let (has, from, home) = w.no_import k x at_r in
      let same = origin_low k is in
      record {
        there = ap (λ (z : Spot). forth (at_spot z)) where_is ∙ ap (λ (o : Origin). import_dot o h) (sym same);
        home =
            ap (λ (o : Origin). back (import_dot o h)) same
            ∙ (back_there (pl.origin k).number (Of (ImportEnd (pl.origin k).import h)) (fresh (pl.origin k).number has) ∙ ap at_spot (sym where_is));
      }
  import_end k h x at false is =
      let (sum, at_q) = import_high k x at is in
      let long = listed_length 0 0 r.imports in
      let zeros : 0 + (k - len_i) ≡ k - len_i = omega arith in
      let sums : k ≡ length (listed 0 0 r.imports) + (k - len_i) = omega (arith, sum, long) in
      let left : slice_get (all_left (applying (types n) (type_of_node m) r s.plan)) k ≡ Some (record { plan = 1; number = 0 + (k - len_i); import = x }) =
      ap (λ (l : List LeftImport). slice_get l k) left_all
      ∙ (ap (slice_get (listed 0 0 r.imports ++ listed 1 0 s.plan.imports)) sums
      ∙ (found_behind (listed 0 0 r.imports) (listed 1 0 s.plan.imports) (k - len_i) ∙ listed_at 1 0 s.plan.imports (k - len_i) x at_q)) in
      let where_is : spot (ImportEnd k h) ≡ place 1 (ImportEnd (k - len_i) h) =
      ap (λ (o : Option LeftImport). left_place o h) left ∙ ap (λ (y : ℕ). place 1 (ImportEnd y h)) zeros in
      let same = origin_high k is in
      record {
        there = ap (λ (z : Spot). forth (at_spot z)) where_is ∙ ap (λ (o : Origin). import_dot o h) (sym same);
        home =
            ap (λ (o : Origin). back (import_dot o h)) same
            ∙ (back_here n (Of (ImportEnd (k - len_i) h)) itself ∙ ap at_spot (sym where_is));
      }

  end_at : (e : End) (c : Contact) → contact_at r' e ≡ Some c → EndAt e
  end_at (PartEnd k h) c at = let (x, is) = part_is_there (slice_get r'.parts k) h c at in part_end k h x is (nat_lt k len) refl
  end_at (ImportEnd k h) c at = let (x, is) = import_is_there (slice_get r'.imports k) h c at in import_end k h x is (nat_lt k len_i) refl
  end_at (ResultEnd h) c at = record { there = result_dot h; home = refl }

  ways_forth : (d e : End) → EndAt d → EndAt e → Way u.ties (u.at d) (u.at e) → Way v'.ties (v'.at d) (v'.at e)
  ways_forth d e at_d at_e way =
      subst (λ (x : Dot). Way v'.ties x (v'.at e)) at_d.there
      (subst (λ (x : Dot). Way v'.ties (forth (u.at d)) x) at_e.there (mapped_way u.ties v'.ties forth ties_forth (u.at d) (u.at e) way))

  ways_back : (d e : End) → EndAt d → EndAt e → Way v'.ties (v'.at d) (v'.at e) → Way u.ties (u.at d) (u.at e)
  ways_back d e at_d at_e way =
      subst (λ (x : Dot). Way u.ties x (u.at e)) at_d.home
      (subst (λ (x : Dot). Way u.ties (back (v'.at d)) x) at_e.home (mapped_way v'.ties u.ties back ties_back (v'.at d) (v'.at e) way))

  pub body_is_wired : IsWired types i (suc j) m body_numbers inner body_placing r'
  body_is_wired =
      record {
        outcome = joined.joining.outcome;
        parts = parts_placed;
        no_more = no_more;
        imports = imports_placed;
        no_import = no_import;
        web =
            same_ways u v' r'
            (λ d e c k at_d at_e. (ways_forth d e (end_at d c at_d) (end_at e k at_e), ways_back d e (end_at d c at_d) (end_at e k at_e))) of_u;
      }

pub applied_is_body : AppliedIsBody
applied_is_body types i j n m ns env pl r s r' w other right joined =
    (body_placing types i j n m ns env pl r w fresh s right r' joined, body_is_wired types i j n m ns env pl r w fresh s right r' joined)
  where
    fresh : (k : ℕ) → Contains ns k → nat_eq k n ≡ false
    fresh k has = by_test (nat_eq k n) refl
      where
        by_test : (b : Bool) → nat_eq k n ≡ b → nat_eq k n ≡ false
        by_test true is = absurd (other k has (eqb-true k n is))
        by_test false is = is
