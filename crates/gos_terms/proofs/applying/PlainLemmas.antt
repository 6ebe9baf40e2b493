-- The web of a node in which numbers are used once, wired to right supplies, is thin.
use Rattle.std.specs.Prelude.{◌≡◌, ◌≢◌, ℕ, zero, suc, ◌+◌, ◌<◌, ◌≤◌, Bool, ◌&&◌, List, [], ◌∷◌, ◌⊎◌, nat_eq, Some, Contains, slice_get, if◌then◌else◌}
use Rattle.std.proofs.Common.{refl, sym, ◌∙◌, ap, subst, arith, inl, inr}
use Rattle.std.proofs.lemmas.List.Elements.{Contains-append_cases}
use Rattle.std.proofs.lemmas.Bool.{ne_eqb}
use Rattle.gos_types.proofs.BoolLemmas.{and_false}
use Rattle.gos_model.proofs.NumberLemmas.{number_cases}
use Rattle.gos_check.specs.Nodes.{Numbered, type_of_node}
use Rattle.gos_check.specs.Linearity.{times, used, made}
use Rattle.gos_check.proofs.TimesLemmas.{times_none, listed_times}
use Rattle.gos_plan.specs.Kinds.{Contact}
use Rattle.gos_plan.specs.Plans.{End, PartEnd, ImportEnd, ResultEnd, Plan, contact_at, IsRight}
use Rattle.gos_plan.proofs.ContactLemmas.{part_is_there, import_is_there}
use Rattle.gos_realises.specs.realises.Regular.{count}
use Rattle.gos_joining.specs.webs.Webs.{Dot, Of, Number, Node, Within, Tie, tie, Web, own_web}
use Rattle.gos_joining.specs.unions.Unions.{within}
use Rattle.gos_joining.proofs.unions.UnionLemmas.{Image, of_image}
use Rattle.gos_compile.specs.Wiring.{Types}
use Rattle.gos_terms.specs.wired.Wired.{Supplies, Placing, Source, Own, Supplied, placed, source_dot, dot_ties, result_ties, supply_ties, all_supply_ties, wired_web}
use Rattle.gos_joining.specs.weaving.Woven.{once, meetings, IsThin}
use Rattle.gos_joining.proofs.weaving.DotLemmas.{once_at_most}
use Rattle.gos_terms.specs.applying.Uses.{IsPlaced}
use Rattle.gos_terms.specs.applying.Plain.{WiredIsThin}
use Rattle.gos_terms.proofs.applying.SupplyLemmas.{inside, OfNumber, of_number}
use Rattle.gos_terms.proofs.applying.ChildLemmas.{child_ties, own_ties}
use Rattle.gos_terms.proofs.applying.MeetingLemmas.{meet_two, inner_once, other_once, inner_meetings, other_meetings, most, node_most, own_most, own_number, own_node, own_within}

zero_not : (n : ℕ) → 0 ≢ suc n
zero_not n same = omega (arith, same)

suc_not : (n : ℕ) → suc n ≢ 0
suc_not n same = omega (arith, same)

apart_suc : (n k : ℕ) → n ≢ k → suc n ≢ suc k
apart_suc n k differ same = let is : n ≡ k = omega (arith, same) in differ is

-- the ties from a number to its supply's result
results_none : (d : Dot) (n a l : ℕ) → ((h : ℕ) → once d (Within 0 (Number n h)) + once d (Within (suc n) (Of (ResultEnd h))) ≡ 0)
    → meetings d (result_ties n a l) ≡ 0
results_none d n a zero none = refl
results_none d n a (suc l) none =
    let here = none a in let rest = results_none d n (suc a) l none in omega (arith, here, rest)

module _
    (d : Dot) (n g : ℕ) (few : (h : ℕ) → once d (Within 0 (Number n h)) + once d (Within (suc n) (Of (ResultEnd h))) ≤ 1)
    (none : (h : ℕ) → g ≢ h → once d (Within 0 (Number n h)) + once d (Within (suc n) (Of (ResultEnd h))) ≡ 0) where
  results_beyond : (a l : ℕ) → g < a → meetings d (result_ties n a l) ≡ 0
  results_beyond a zero low = refl
  results_beyond a (suc l) low =
      let here = none a (λ same. let f : g ≡ a = same in omega (arith, f, low)) in
      let rest = results_beyond (suc a) l (omega (arith, low)) in
      omega (arith, here, rest)

  results_one : (a l : ℕ) → meetings d (result_ties n a l) ≤ 1
  results_one a zero = omega arith
  results_one a (suc l) = by_rest (results_one (suc a) l)
    where
      by_rest : meetings d (result_ties n (suc a) l) ≤ 1 → meetings d (result_ties n a (suc l)) ≤ 1
      by_rest rest =
          number_cases g a
          (λ same t.
          let here = few a in let beyond = results_beyond (suc a) l (omega (arith, same)) in omega (arith, here, beyond))
          (λ other f. let here = none a other in omega (arith, here, rest))

number_shake : (k g n h : ℕ) → g ≢ h → once (Number k g) (Number n h) ≡ 0
number_shake k g n h differ =
    ap (λ (b : Bool). if nat_eq k n && b then 1 else 0) (ne_eqb g h differ) ∙ ap (λ (b : Bool). if b then 1 else 0) (and_false (nat_eq k n))

number_other : (k g n h : ℕ) → k ≢ n → once (Number k g) (Number n h) ≡ 0
number_other k g n h differ = ap (λ (b : Bool). if b && nat_eq g h then 1 else 0) (ne_eqb k n differ)

end_shake : (g h : ℕ) → g ≢ h → once (Of (ResultEnd g)) (Of (ResultEnd h)) ≡ 0
end_shake g h differ = ap (λ (b : Bool). if b then 1 else 0) (ne_eqb g h differ)

module _
    (types : Types) (env : Supplies) where
  -- a dot of the node, in its supplies
  outer_supply : (x : Dot) (n : ℕ) → meetings (Within 0 x) (supply_ties types env n) ≡ meetings (Within 0 x) (result_ties n 0 (count (types n)))
  outer_supply x n =
      let parted = meet_two (Within 0 x) (within (suc n) (own_web (env n).plan).ties) (result_ties n 0 (count (types n))) in
      let none = other_meetings 0 (suc n) x (own_web (env n).plan).ties (zero_not n) in
      omega (arith, parted, none)

  outer_pair : (x : Dot) (n h : ℕ) → once (Within 0 x) (Within 0 (Number n h)) + once (Within 0 x) (Within (suc n) (Of (ResultEnd h))) ≡ once x (Number n h)
  outer_pair x n h =
      let one = inner_once 0 x (Number n h) in
      let other = other_once 0 (suc n) x (Of (ResultEnd h)) (zero_not n) in
      omega (arith, one, other)

  outer_none : (x : Dot) → ((n h : ℕ) → once x (Number n h) ≡ 0) → (ns : List ℕ) → meetings (Within 0 x) (all_supply_ties types env ns) ≡ 0
  outer_none x none [] = refl
  outer_none x none (n ∷ ns) =
      let parted = meet_two (Within 0 x) (supply_ties types env n) (all_supply_ties types env ns) in
      let here = outer_supply x n in
      let first = results_none (Within 0 x) n 0 (count (types n)) (λ h. outer_pair x n h ∙ none n h) in
      let rest = outer_none x none ns in
      omega (arith, parted, here, first, rest)

  number_one : (k g n : ℕ) → meetings (Within 0 (Number k g)) (result_ties n 0 (count (types n))) ≤ 1
  number_one k g n =
      results_one (Within 0 (Number k g)) n g
      (λ h. let pair = outer_pair (Number k g) n h in let one = once_at_most (Number k g) (Number n h) in omega (arith, pair, one))
      (λ h differ. outer_pair (Number k g) n h ∙ number_shake k g n h differ) 0 (count (types n))

  outer_number : (k g : ℕ) (ns : List ℕ) → meetings (Within 0 (Number k g)) (all_supply_ties types env ns) ≤ times k ns
  outer_number k g [] = omega arith
  outer_number k g (n ∷ ns) = by_rest (outer_number k g ns)
    where
      by_rest : meetings (Within 0 (Number k g)) (all_supply_ties types env ns) ≤ times k ns
          → meetings (Within 0 (Number k g)) (all_supply_ties types env (n ∷ ns)) ≤ times k (n ∷ ns)
      by_rest rest =
          let parted = meet_two (Within 0 (Number k g)) (supply_ties types env n) (all_supply_ties types env ns) in
          let here = outer_supply (Number k g) n in
          number_cases n k
          (λ same t.
          let one = number_one k g n in
          let counted : times k (n ∷ ns) ≡ 1 + times k ns = rw t refl in
          omega (arith, parted, here, one, rest, counted))
          (λ other f.
          let counted : times k (n ∷ ns) ≡ times k ns = rw f (omega arith) in
          let none =
          results_none (Within 0 (Number k g)) n 0 (count (types n))
          (λ h. outer_pair (Number k g) n h ∙ number_other k g n h (λ same. other (sym same))) in
          omega (arith, parted, here, none, rest, counted))

  -- a dot of a supply
  inner_other : (x : Dot) (n k : ℕ) → k ≢ n → meetings (Within (suc n) x) (supply_ties types env k) ≡ 0
  inner_other x n k differ =
      let parted = meet_two (Within (suc n) x) (within (suc k) (own_web (env k).plan).ties) (result_ties k 0 (count (types k))) in
      let differs : suc n ≢ suc k = apart_suc n k (λ same. differ (sym same)) in
      let first = other_meetings (suc n) (suc k) x (own_web (env k).plan).ties differs in
      let last =
      results_none (Within (suc n) x) k 0 (count (types k))
      (λ h.
      let one = other_once (suc n) 0 x (Number k h) (suc_not n) in
      let other = other_once (suc n) (suc k) x (Of (ResultEnd h)) differs in
      omega (arith, one, other)) in
      omega (arith, parted, first, last)

  inner_none : (x : Dot) (n : ℕ) (ns : List ℕ) → times n ns ≡ 0 → meetings (Within (suc n) x) (all_supply_ties types env ns) ≡ 0
  inner_none x n [] none = refl
  inner_none x n (k ∷ ns) none =
      let (differ, later) = times_none n k ns none in
      let parted = meet_two (Within (suc n) x) (supply_ties types env k) (all_supply_ties types env ns) in
      let first = inner_other x n k (λ same. differ (sym same)) in
      let rest = inner_none x n ns later in
      omega (arith, parted, first, rest)

  inner_one : (x : Dot) (n b : ℕ) (ns : List ℕ) → meetings (Within (suc n) x) (supply_ties types env n) ≤ b → times n ns ≤ 1
      → meetings (Within (suc n) x) (all_supply_ties types env ns) ≤ b
  inner_one x n b [] bound once_in = omega arith
  inner_one x n b (k ∷ ns) bound once_in =
      by_rest (λ less. inner_one x n b ns bound less)
    where
      by_rest : (times n ns ≤ 1 → meetings (Within (suc n) x) (all_supply_ties types env ns) ≤ b)
          → meetings (Within (suc n) x) (all_supply_ties types env (k ∷ ns)) ≤ b
      by_rest further =
          let parted = meet_two (Within (suc n) x) (supply_ties types env k) (all_supply_ties types env ns) in
          number_cases k n
          (λ same t.
          let counted : times n (k ∷ ns) ≡ 1 + times n ns = rw t refl in
          let none = inner_none x n ns (omega (arith, counted, once_in)) in
          let here : meetings (Within (suc n) x) (supply_ties types env k) ≤ b =
          subst (λ (y : ℕ). meetings (Within (suc n) x) (supply_ties types env y) ≤ b) (sym same) bound in
          omega (arith, parted, none, here))
          (λ other f.
          let counted : times n (k ∷ ns) ≡ times n ns = rw f (omega arith) in
          let none = inner_other x n k other in
          let rest = further (omega (arith, counted, once_in)) in
          omega (arith, parted, none, rest))

  inner_pair : (x : Dot) (n h : ℕ) → once (Within (suc n) x) (Within 0 (Number n h)) + once (Within (suc n) x) (Within (suc n) (Of (ResultEnd h))) ≡ once x (Of (ResultEnd h))
  inner_pair x n h =
      let one = other_once (suc n) 0 x (Number n h) (suc_not n) in
      let other = inner_once (suc n) x (Of (ResultEnd h)) in
      omega (arith, one, other)

  inner_split : (x : Dot) (n : ℕ) → meetings (Within (suc n) x) (supply_ties types env n)
      ≡ meetings x (own_web (env n).plan).ties + meetings (Within (suc n) x) (result_ties n 0 (count (types n)))
  inner_split x n =
      let parted = meet_two (Within (suc n) x) (within (suc n) (own_web (env n).plan).ties) (result_ties n 0 (count (types n))) in
      let own = inner_meetings (suc n) x (own_web (env n).plan).ties in
      omega (arith, parted, own)

  inner_plain : (x : Dot) (n b : ℕ) → ((h : ℕ) → once x (Of (ResultEnd h)) ≡ 0) → meetings x (own_web (env n).plan).ties ≤ b
      → meetings (Within (suc n) x) (supply_ties types env n) ≤ b
  inner_plain x n b none own =
      let split = inner_split x n in
      let rest = results_none (Within (suc n) x) n 0 (count (types n)) (λ h. inner_pair x n h ∙ none h) in
      omega (arith, split, rest, own)

  inner_result : (g n : ℕ) → IsRight (env n).plan → meetings (Within (suc n) (Of (ResultEnd g))) (supply_ties types env n) ≤ 2
  inner_result g n right =
      let split = inner_split (Of (ResultEnd g)) n in
      let own = own_most (env n).plan (ResultEnd g) right in
      let rest =
      results_one (Within (suc n) (Of (ResultEnd g))) n g
      (λ h.
      let pair = inner_pair (Of (ResultEnd g)) n h in
      let one = once_at_most (Of (ResultEnd g)) (Of (ResultEnd h)) in
      omega (arith, pair, one))
      (λ h differ. inner_pair (Of (ResultEnd g)) n h ∙ end_shake g h differ) 0 (count (types n)) in
      omega (arith, split, own, rest)

  inner_most : (x : Dot) (n : ℕ) → IsRight (env n).plan → meetings (Within (suc n) x) (supply_ties types env n) ≤ 2
  inner_most (Of (PartEnd k h)) n right =
      let own = own_most (env n).plan (PartEnd k h) right in inner_plain (Of (PartEnd k h)) n 2 (λ g. refl) (omega (arith, own))
  inner_most (Of (ImportEnd k h)) n right =
      let own = own_most (env n).plan (ImportEnd k h) right in inner_plain (Of (ImportEnd k h)) n 2 (λ g. refl) (omega (arith, own))
  inner_most (Of (ResultEnd g)) n right = inner_result g n right
  inner_most (Number k h) n right =
      let own = own_number (env n).plan.joints k h in inner_plain (Number k h) n 2 (λ g. refl) (omega (arith, own))
  inner_most (Node k h) n right =
      let own = own_node (env n).plan.joints k h in inner_plain (Node k h) n 2 (λ g. refl) (omega (arith, own))
  inner_most (Within k d) n right =
      let own = own_within (env n).plan.joints k d in inner_plain (Within k d) n 2 (λ g. refl) (omega (arith, own))

  by_times : {P : Type 0} (n : ℕ) (ns : List ℕ) → (times n ns ≡ 0 → P) → (Contains ns n → P) → P
  by_times {P} n ns none some = tested (times n ns) refl
    where
      tested : (k : ℕ) → times n ns ≡ k → P
      tested zero is = none is
      tested (suc k) is = some (listed_times n ns (omega (arith, is)))

-- where a dot stands in no tie
none_by : (d : Dot) (ts : List Tie) → ((t : Tie) → Contains ts t → (once d t.one ≡ 0) × (once d t.other ≡ 0)) → meetings d ts ≡ 0
none_by d [] none = refl
none_by d (t ∷ ts) none =
    let here = none t (0, omega arith, refl) in
    let (one, other) = here in
    let rest = none_by d ts (λ u has. none u (suc has.0, (let small = has.1 in omega (arith, small)), has.2)) in
    omega (arith, one, other, rest)

module _
    (types : Types) (i j : ℕ) (m : Numbered) (ns : List ℕ) (env : Supplies) (pl : Placing) (c : Plan) (is : IsPlaced types m ns env pl c)
    (twice : (k : ℕ) → times k (used m) + times k (made m) + times k ns ≤ 2) (once_in : (k : ℕ) → times k ns ≤ 1)
    (rights : (k : ℕ) → Contains ns k → IsRight (env k).plan) where
  abbrev web : Web
  web = wired_web types i j m ns env pl

  abbrev own : List Tie
  own = own_ties types i j m

  abbrev supplies : List Tie
  supplies = all_supply_ties types env ns

  -- each tie is between dots of webs
  abbrev IsBetween : Tie → Type 0
  IsBetween t = (a : ℕ) × (x : Dot) × (b : ℕ) × (y : Dot) × (tie (Within a x) (Within b y) ≡ t)

  between : (t : Tie) → Contains web.ties t → IsBetween t
  between t has = by_part (Contains-append_cases own supplies t has)
    where
      by_image : Image (inside 0) (dot_ties (child_ties types i j m)) t → IsBetween t
      by_image (y, among, same) = (0, y.one, 0, y.other, same)

      by_supply : OfNumber ns t → IsBetween t
      by_supply (n, has_n, inl (y, same)) = (suc n, y.one, suc n, y.other, same)
      by_supply (n, has_n, inr (h, same)) = (0, Number n h, suc n, Of (ResultEnd h), same)

      by_part : Contains own t ⊎ Contains supplies t → IsBetween t
      by_part (inl first) = by_image (of_image (inside 0) (dot_ties (child_ties types i j m)) t first)
      by_part (inr later) = by_supply (of_number types env ns t later)

  outside : (d : Dot) → ((a : ℕ) (x : Dot) → once d (Within a x) ≡ 0) → meetings d web.ties ≤ 2
  outside d none =
      let all =
      none_by d web.ties
      (λ t has.
      let (a, x, b, y, same) = between t has in
      (ap (λ (u : Tie). once d u.one) (sym same) ∙ none a x, ap (λ (u : Tie). once d u.other) (sym same) ∙ none b y)) in
      omega (arith, all)

  of_node : (x : Dot) → meetings (Within 0 x) own ≤ most m x
  of_node x =
      let inner = inner_meetings 0 x (dot_ties (child_ties types i j m)) in
      let bound = node_most types i j m (count (type_of_node m)) x in
      omega (arith, inner, bound)

  in_node : (x : Dot) (b : ℕ) → most m x + meetings (Within 0 x) supplies ≤ b → meetings (Within 0 x) web.ties ≤ b
  in_node x b bound =
      let parted = meet_two (Within 0 x) own supplies in let node = of_node x in omega (arith, parted, node, bound)

  in_supply : (n : ℕ) (x : Dot) (b : ℕ) → meetings (Within (suc n) x) supplies ≤ b → meetings (Within (suc n) x) web.ties ≤ b
  in_supply n x b bound =
      let parted = meet_two (Within (suc n) x) own supplies in
      let none = other_meetings (suc n) 0 x (dot_ties (child_ties types i j m)) (suc_not n) in
      omega (arith, parted, none, bound)

  supplied : (n : ℕ) (x : Dot) (b : ℕ) → (IsRight (env n).plan → meetings (Within (suc n) x) (supply_ties types env n) ≤ b)
      → meetings (Within (suc n) x) supplies ≤ b
  supplied n x b bound =
      by_times types env n ns (λ none. let zeros = inner_none types env x n ns none in omega (arith, zeros))
      (λ has. inner_one types env x n b ns (bound (rights n has)) (once_in n))

  points : (d : Dot) → meetings d web.ties ≤ 2
  points (Of e) = outside (Of e) (λ a x. refl)
  points (Number n h) = outside (Number n h) (λ a x. refl)
  points (Node n h) = outside (Node n h) (λ a x. refl)
  points (Within zero (Of e)) =
      let none = outer_none types env (Of e) (λ n h. refl) ns in in_node (Of e) 2 (omega (arith, none))
  points (Within zero (Number n h)) =
      let some = outer_number types env n h ns in let all = twice n in in_node (Number n h) 2 (omega (arith, some, all))
  points (Within zero (Node n h)) =
      let none = outer_none types env (Node n h) (λ k g. refl) ns in in_node (Node n h) 2 (omega (arith, none))
  points (Within zero (Within k d)) =
      let none = outer_none types env (Within k d) (λ n h. refl) ns in in_node (Within k d) 2 (omega (arith, none))
  points (Within (suc n) x) = in_supply n x 2 (supplied n x 2 (λ right. inner_most types env x n right))

  own_end : (e : End) → meetings (Within 0 (Of e)) web.ties ≤ 1
  own_end e = let none = outer_none types env (Of e) (λ n h. refl) ns in in_node (Of e) 1 (omega (arith, none))

  supply_end : (n : ℕ) (e : End) → ((h : ℕ) → once (Of e) (Of (ResultEnd h)) ≡ 0) → meetings (Within (suc n) (Of e)) web.ties ≤ 1
  supply_end n e none =
      in_supply n (Of e) 1
      (supplied n (Of e) 1 (λ right. inner_plain types env (Of e) n 1 none (own_most (env n).plan e right)))

  source_end : (h : ℕ) (o : Source) → meetings (source_dot i o h) web.ties ≤ 1
  source_end h (Own k) = own_end (PartEnd (i + k) h)
  source_end h (Supplied n k) = supply_end n (PartEnd k h) (λ g. refl)

  ends : (e : End) (k : Contact) → contact_at c e ≡ Some k → meetings (web.at e) web.ties ≤ 1
  ends (PartEnd x h) k at = source_end h (pl.source x)
  ends (ImportEnd x h) k at = supply_end (pl.origin x).number (ImportEnd (pl.origin x).import h) (λ g. refl)
  ends (ResultEnd h) k at = own_end (ResultEnd h)

  -- what a dot tells of its end
  abbrev kind : End → ℕ
  kind (PartEnd x h) = 0
  kind (ImportEnd x h) = 1
  kind (ResultEnd h) = 2

  abbrev kind_of : Dot → ℕ
  kind_of (Of e) = kind e
  kind_of (Number n h) = 3
  kind_of (Node n h) = 3
  kind_of (Within k d) = kind_of d

  abbrev index : End → ℕ
  index (PartEnd x h) = x
  index (ImportEnd x h) = x
  index (ResultEnd h) = 0

  abbrev index_of : Dot → ℕ
  index_of (Of e) = index e
  index_of (Number n h) = 0
  index_of (Node n h) = 0
  index_of (Within k d) = index_of d

  abbrev shake : End → ℕ
  shake (PartEnd x h) = h
  shake (ImportEnd x h) = h
  shake (ResultEnd h) = h

  abbrev shake_of : Dot → ℕ
  shake_of (Of e) = shake e
  shake_of (Number n h) = h
  shake_of (Node n h) = h
  shake_of (Within k d) = shake_of d

  abbrev web_of : Dot → ℕ
  web_of (Of e) = 0
  web_of (Number n h) = 0
  web_of (Node n h) = 0
  web_of (Within k d) = k

  source_kind : (h : ℕ) (o : Source) → kind_of (source_dot i o h) ≡ 0
  source_kind h (Own k) = refl
  source_kind h (Supplied n k) = refl

  source_shake : (h : ℕ) (o : Source) → shake_of (source_dot i o h) ≡ h
  source_shake h (Own k) = refl
  source_shake h (Supplied n k) = refl

  one_source : (h g : ℕ) (o u : Source) → source_dot i o h ≡ source_dot i u g → o ≡ u
  one_source h g (Own k) (Own l) same =
      let sums : i + k ≡ i + l = ap index_of same in let is_one : k ≡ l = omega (arith, sums) in ap Own is_one
  one_source h g (Own k) (Supplied n l) same = let webs : 0 ≡ suc n = ap web_of same in absurd (omega (arith, webs))
  one_source h g (Supplied n k) (Own l) same = let webs : suc n ≡ 0 = ap web_of same in absurd (omega (arith, webs))
  one_source h g (Supplied n k) (Supplied o l) same =
      let webs : suc n ≡ suc o = ap web_of same in
      let number : n ≡ o = omega (arith, webs) in
      let index_same : k ≡ l = ap index_of same in
      λ x. Supplied (number x) (index_same x)

  apart : (a b : End) (k l : Contact) → contact_at c a ≡ Some k → contact_at c b ≡ Some l → web.at a ≡ web.at b → a ≡ b
  apart (PartEnd x h) (PartEnd y g) k l at_a at_b same =
      let (p, there) = part_is_there (slice_get c.parts x) h k at_a in
      let (q, also) = part_is_there (slice_get c.parts y) g l at_b in
      let source = one_source h g (pl.source x) (pl.source y) same in
      let number : x ≡ y = sym (is.no_more x p there).1 ∙ (ap (placed pl) source ∙ (is.no_more y q also).1) in
      let shakes : h ≡ g = sym (source_shake h (pl.source x)) ∙ (ap shake_of same ∙ source_shake g (pl.source y)) in
      λ z. PartEnd (number z) (shakes z)
  apart (PartEnd x h) (ImportEnd y g) k l at_a at_b same =
      let kinds : 0 ≡ 1 = sym (source_kind h (pl.source x)) ∙ ap kind_of same in absurd (omega (arith, kinds))
  apart (PartEnd x h) (ResultEnd g) k l at_a at_b same =
      let kinds : 0 ≡ 2 = sym (source_kind h (pl.source x)) ∙ ap kind_of same in absurd (omega (arith, kinds))
  apart (ImportEnd x h) (PartEnd y g) k l at_a at_b same =
      let kinds : 1 ≡ 0 = ap kind_of same ∙ source_kind g (pl.source y) in absurd (omega (arith, kinds))
  apart (ImportEnd x h) (ImportEnd y g) k l at_a at_b same =
      let (p, there) = import_is_there (slice_get c.imports x) h k at_a in
      let (q, also) = import_is_there (slice_get c.imports y) g l at_b in
      let webs : suc (pl.origin x).number ≡ suc (pl.origin y).number = ap web_of same in
      let numbers : (pl.origin x).number ≡ (pl.origin y).number = omega (arith, webs) in
      let indices : (pl.origin x).import ≡ (pl.origin y).import = ap index_of same in
      let shakes : h ≡ g = ap shake_of same in
      let number : x ≡ y =
      sym (is.no_import x p there).2 ∙ ((λ z. pl.import (numbers z) (indices z)) ∙ (is.no_import y q also).2) in
      λ z. ImportEnd (number z) (shakes z)
  apart (ImportEnd x h) (ResultEnd g) k l at_a at_b same = let kinds : 1 ≡ 2 = ap kind_of same in absurd (omega (arith, kinds))
  apart (ResultEnd h) (PartEnd y g) k l at_a at_b same =
      let kinds : 2 ≡ 0 = ap kind_of same ∙ source_kind g (pl.source y) in absurd (omega (arith, kinds))
  apart (ResultEnd h) (ImportEnd y g) k l at_a at_b same = let kinds : 2 ≡ 1 = ap kind_of same in absurd (omega (arith, kinds))
  apart (ResultEnd h) (ResultEnd g) k l at_a at_b same = ap ResultEnd (ap shake_of same)

  pub thin : IsThin web c
  thin = record { points = points; ends = ends; apart = apart }

pub wired_is_thin : WiredIsThin
wired_is_thin types i j m ns env pl c is twice once_in rights = thin types i j m ns env pl c is twice once_in rights
