-- The body of a block, `new x : w in M` or `new a[n] : w in M`, sits in its node: its result and the name of what is bound at handshakes of
-- the node's own part.
use Rattle.std.specs.Prelude.{◌≡◌, ℕ, zero, suc, ◌+◌, ◌<◌, ◌≤◌, ◌⊎◌, Bool, true, false, List, [], ◌∷◌, ◌++◌, length, Option, Some, None, slice_get, nat_eq, nat_lt, Contains, if◌then◌else◌}
use Rattle.std.proofs.Common.{refl, sym, ◌∙◌, ap, subst, arith, inl, inr}
use Rattle.std.proofs.lemmas.Option.{none-some}
use Rattle.std.proofs.lemmas.List.Elements.{Contains-append_left, Contains-append_right, Contains-append_cases}
use Rattle.std.proofs.lemmas.Bool.{eq-eqb, ne_eqb, eqb-false, lt-ltb}
use Rattle.gos_types.specs.Types.{Type', Com, Exp, Var, Pair, Fun, IsDone}
use Rattle.gos_model.specs.Terms.{Name}
use Rattle.gos_model.specs.Typing.{Imported}
use Rattle.gos_check.specs.Nodes.{Numbered, Under}
use Rattle.gos_check.specs.Linearity.{times, made}
use Rattle.gos_check.proofs.TimesLemmas.{times-append, times_same, some_times}
use Rattle.gos_plan.specs.Kinds.{Part, Contact, asks, contacts_of}
use Rattle.gos_plan.specs.Plans.{End, PartEnd, ImportEnd, ResultEnd, turned_if}
use Rattle.gos_realises.specs.realises.Regular.{count}
use Rattle.gos_realises.specs.realises.Modules.{Supply}
use Rattle.gos_ties.specs.declared.points.Place.TheVariants as places
use Rattle.gos_ties.specs.declared.points.Point.{Point}
use Rattle.gos_ties.specs.declared.points.Tie as point_ties
use Rattle.gos_ties.specs.Ties as paths
use Rattle.gos_ties.specs.Ties.{point}
use Rattle.gos_realises.proofs.realises.CountLemmas.{done_count}
use Rattle.gos_joining.specs.webs.Webs.{Dot, Of, Number, Within, Tie, tie, Way, here, along, own_web}
use Rattle.gos_joining.specs.unions.Unions.{within}
use Rattle.gos_joining.proofs.unions.UnionLemmas.{of_image, in_image}
use Rattle.gos_nodes.specs.folds.Folds as folds
use Rattle.gos_supplies.specs.names.Names.{imported}
use Rattle.gos_compile.specs.Wiring.{Types, row, led, parts_of, type_of_node, ties_of, answer_bits, binder_part, binder_ties, binder_out}
use Rattle.gos_terms.specs.wired.Wired.{Supplies, Placing, dot_of, dot_ties, result_ties, supply_ties, all_supply_ties}
use Rattle.gos_terms.proofs.wired.TieLemmas.{result_tie, in_results, in_supplies}
use Rattle.gos_terms.specs.regions.Blocks.{port_plan, with_name, IsBound}
use Rattle.gos_terms.proofs.stages.WayLemmas.{in_led}
use Rattle.gos_terms.proofs.regions.NumberingLemmas.{numbering}
use Rattle.gos_terms.proofs.regions.HolderLemmas.{Holder, OneNumber, ManyNumbers, name_supply, binding_of, supply_of, part_of, holder_part, holder_ties, holder_out, holder_name}
use Rattle.gos_terms.proofs.regions.FrameLemmas as frames
use Rattle.gos_terms.proofs.regions.FrameLemmas.{Frame, kept, known, kept_true, own_part, back}
use Rattle.gos_terms.proofs.regions.FoldLemmas.{follows_none}
use Rattle.gos_terms.proofs.regions.ChildLemmas.{Sitting, child_placing, its_web, IsSitting}

-- what the handshakes of the block's own part stand for, which serves k of them to its body
abbrev pub block_port : ℕ → ℕ → ℕ → Option Dot
block_port k n zero = Some (Within 0 (Of (ResultEnd 0)))
block_port k n (suc h) = if nat_lt h k then Some (Within (suc n) (Of (ImportEnd 0 h))) else None

abbrev pub block_port_end : ℕ → ℕ → ℕ → Option End
block_port_end k a zero = Some (ResultEnd 0)
block_port_end k a (suc h) = if nat_lt h k then Some (ImportEnd a h) else None

abbrev pub body_frame : Types → ℕ → ℕ → ℕ → ℕ → Numbered → List ℕ → Frame
body_frame types k i j n m ns =
    record {
      types = types;
      first = i;
      shift = 1;
      node = suc j;
      child = m;
      numbers = ns ++ n ∷ [];
      named = λ k. nat_eq k n;
      port = block_port k n;
      out = point (places.Part i) 0 ∷ [];
    }

abbrev pub body_placing : Types → ℕ → Numbered → List ℕ → Supplies → Placing
body_placing types n m ns env = numbering (parts_of types m) env (ns ++ n ∷ [])

abbrev pub body_sitting : Types → ℕ → ℕ → ℕ → ℕ → Numbered → List ℕ → Supplies → Supplies → Numbered → Placing → Sitting
body_sitting types k i j n m ns inner env whole pl =
    record {
      frame = body_frame types k i j n m ns;
      asked = 0;
      port_end = block_port_end k ((body_placing types n m ns inner).import n 0);
      supplies = inner;
      node = j;
      whole = whole;
      numbers = ns;
      outside = env;
      placing = pl;
    }

-- the handshake of a command or an expression
pub done_contact : (t : Type') → IsDone t → turned_if (slice_get (contacts_of t) 0) ≡ Some (asks 0 (answer_bits t))
done_contact Com done = refl
done_contact (Exp w) done = refl
done_contact (Var w) done = absurd done
done_contact (Pair a b) done = absurd done
done_contact (Fun a b) done = absurd done

pub done_only : (t : Type') → IsDone t → (h : ℕ) (c : Contact) → turned_if (slice_get (contacts_of t) (suc h)) ≡ Some c → ⊥
done_only Com done h c e = none-some c e
done_only (Exp w) done h c e = none-some c e
done_only (Var w) done h c e = done
done_only (Pair a b) done h c e = done
done_only (Fun a b) done h c e = done

-- the ties of the handshakes that the block's part serves, to the number's
abbrev pub number_tie : ℕ → ℕ → ℕ → point_ties.Tie
number_tie n i h = paths.tie (point (places.Number n) h) (point (places.Part i) (suc h))

in_number_ties : (n i k h : ℕ) → h < k → Contains (led (row (places.Number n) 0 k) (places.Part i) 1) (number_tie n i h)
in_number_ties n i k h lt =
    let one : 0 + h ≡ h = omega arith in
    let other : 1 + h ≡ suc h = omega arith in
    subst (Contains (led (row (places.Number n) 0 k) (places.Part i) 1)) (λ l. paths.tie (point (places.Number n) (one l)) (point (places.Part i) (other l)))
    (in_led (places.Number n) i 0 k 1 h lt)

of_led : (n i b k g : ℕ) (y : point_ties.Tie) → Contains (led (row (places.Number n) b k) (places.Part i) g) y
    → (h : ℕ) × (h < k) × (paths.tie (point (places.Number n) (b + h)) (point (places.Part i) (g + h)) ≡ y)
of_led n i b zero g y (a, lt, e) = absurd (omega (arith, lt))
of_led n i b (suc k) g y (zero, lt, e) =
    let one : b + 0 ≡ b = omega arith in
    let other : g + 0 ≡ g = omega arith in
    (0, omega arith, (λ l. paths.tie (point (places.Number n) (one l)) (point (places.Part i) (other l))) ∙ e)
of_led n i b (suc k) g y (suc a, lt, e) =
    let (h, low, is) = of_led n i (suc b) k (suc g) y (a, omega (arith, lt), e) in
    let one : b + suc h ≡ suc b + h = omega arith in
    let other : g + suc h ≡ suc g + h = omega arith in
    (suc h, omega (arith, low), (λ l. paths.tie (point (places.Number n) (one l)) (point (places.Part i) (other l))) ∙ is)

of_number_ties : (n i k : ℕ) (y : point_ties.Tie) → Contains (led (row (places.Number n) 0 k) (places.Part i) 1) y → (h : ℕ) × (h < k) × (number_tie n i h ≡ y)
of_number_ties n i k y has =
    let (h, low, is) = of_led n i 0 k 1 y has in
    let one : h ≡ 0 + h = omega arith in
    let other : suc h ≡ 1 + h = omega arith in
    (h, low, (λ l. paths.tie (point (places.Number n) (one l)) (point (places.Part i) (other l))) ∙ is)

-- beyond these it stands for nothing
pub port_below : (k n h : ℕ) → h < k → block_port k n (suc h) ≡ Some (Within (suc n) (Of (ImportEnd 0 h)))
port_below k n h lt = ap (λ (b : Bool). if b then Some (Within (suc n) (Of (ImportEnd 0 h))) else None) (lt-ltb h k lt)

pub port_end_below : (k a h : ℕ) → h < k → block_port_end k a (suc h) ≡ Some (ImportEnd a h)
port_end_below k a h lt = ap (λ (b : Bool). if b then Some (ImportEnd a h) else None) (lt-ltb h k lt)

pub port_beyond : (k n : ℕ) → block_port k n (suc k) ≡ None
port_beyond k n =
    let not : nat_lt k k ≡ false = grind arith in ap (λ (b : Bool). if b then Some (Within (suc n) (Of (ImportEnd 0 k))) else None) not

pub below_port : (k n h : ℕ) (y : Dot) → block_port k n (suc h) ≡ Some y → h < k
below_port k n h y stands = by_test (nat_lt h k) refl stands
  where
    by_test : (b : Bool) → nat_lt h k ≡ b → (if b then Some (Within (suc n) (Of (ImportEnd 0 h))) else None) ≡ Some y → h < k
    by_test true low at = grind (arith, low)
    by_test false low at = absurd (none-some y at)

-- the ties of the name of what is bound, one each for a handshake
abbrev pub name_web : Holder → ℕ → Name → List Tie
name_web hold n x = within (suc n) (own_web (port_plan x (supply_of hold))).ties

abbrev pub name_tie : ℕ → ℕ → Tie
name_tie n h = tie (Within (suc n) (Of (ResultEnd h))) (Within (suc n) (Of (ImportEnd 0 h)))

abbrev pub turned_tie : ℕ → ℕ → Tie
turned_tie n h = tie (Within (suc n) (Of (ImportEnd 0 h))) (Within (suc n) (Of (ResultEnd h)))

name_has : (hold : Holder) (n : ℕ) (x : Name) (h : ℕ) → h < count (supply_of hold)
    → Contains (name_web hold n x) (name_tie n h) ⊎ Contains (name_web hold n x) (turned_tie n h)
name_has (OneNumber w) n x zero lt = inl (0, omega arith, refl)
name_has (OneNumber w) n x (suc zero) lt = inl (1, omega arith, refl)
name_has (OneNumber w) n x (suc (suc h)) lt = let low : suc (suc h) < 2 = lt in absurd (omega (arith, low))
name_has (ManyNumbers k w) n x zero lt = inr (0, omega arith, refl)
name_has (ManyNumbers k w) n x (suc zero) lt = inl (1, omega arith, refl)
name_has (ManyNumbers k w) n x (suc (suc zero)) lt = inl (2, omega arith, refl)
name_has (ManyNumbers k w) n x (suc (suc (suc h))) lt = let low : suc (suc (suc h)) < 3 = lt in absurd (omega (arith, low))

pub of_name : (hold : Holder) (n : ℕ) (x : Name) (u : Tie) → Contains (name_web hold n x) u
    → (h : ℕ) × (h < count (supply_of hold)) × ((name_tie n h ≡ u) ⊎ (turned_tie n h ≡ u))
of_name (OneNumber w) n x u (zero, lt, e) = (0, omega arith, inl e)
of_name (OneNumber w) n x u (suc zero, lt, e) = (1, omega arith, inl e)
of_name (OneNumber w) n x u (suc (suc a), lt, e) = absurd (omega (arith, lt))
of_name (ManyNumbers k w) n x u (zero, lt, e) = (0, omega arith, inr e)
of_name (ManyNumbers k w) n x u (suc zero, lt, e) = (1, omega arith, inl e)
of_name (ManyNumbers k w) n x u (suc (suc zero), lt, e) = (2, omega arith, inl e)
of_name (ManyNumbers k w) n x u (suc (suc (suc a)), lt, e) = absurd (omega (arith, lt))

module _
    (types : Types) (i j : ℕ) (hold : Holder) (n : ℕ) (t : Type') (m : Numbered) (ns : List ℕ) (env : Supplies) (pl : Placing) (x : Name)
    (done : IsDone t) (type_m : type_of_node m ≡ t) (type_n : types n ≡ supply_of hold) (bound : IsBound n m ns) where
  abbrev pub whole : Numbered
  whole = Under t [] (binding_of hold) n m

  -- how many handshakes are served
  abbrev pub served : ℕ
  served = count (supply_of hold)

  abbrev pub inner : Supplies
  inner = with_name n x (supply_of hold) env

  abbrev pub numbers : List ℕ
  numbers = ns ++ n ∷ []

  abbrev pub f : Frame
  f = body_frame types served i j n m ns

  abbrev pub s : Sitting
  s = body_sitting types served i j n m ns inner env whole pl

  abbrev plc : Placing
  plc = child_placing s

  abbrev pub variable : Imported
  variable = imported x (supply_of hold)

  -- the place of the variable among the imports
  abbrev pub place : ℕ
  place = plc.import n 0

  -- the supplies
  pub name_there : (k : ℕ) → nat_eq k n ≡ true → inner k ≡ name_supply x (supply_of hold)
  name_there k e = ap (λ (b : Bool). if b then name_supply x (supply_of hold) else env k) e

  pub other_there : (k : ℕ) → nat_eq k n ≡ false → inner k ≡ env k
  other_there k e = ap (λ (b : Bool). if b then name_supply x (supply_of hold) else env k) e

  pub bound_in : Contains numbers n
  bound_in = Contains-append_right ns (n ∷ []) n (0, omega arith, refl)

  pub once_in : (k : ℕ) → times k (made m) + (times k ns + times k (n ∷ [])) ≤ 1
  once_in k = let one = bound.once k in let both = times-append k ns (n ∷ []) in omega (arith, one, both)

  pub not_bound : (k : ℕ) → Contains ns k → nat_eq k n ≡ false
  not_bound k has =
      ne_eqb k n
      (λ (same : k ≡ n).
      let many = some_times k ns has in
      let one = once_in k in
      let last = times_same k [] in
      let more : times k (k ∷ []) ≡ times k (n ∷ []) = ap (λ (a : ℕ). times k (a ∷ [])) same in
      omega (arith, many, one, last, more))

  pub in_numbers : (k : ℕ) → Contains ns k → Contains numbers k
  in_numbers k has = Contains-append_left ns (n ∷ []) k has

  pub of_numbers : (k : ℕ) → Contains numbers k → nat_eq k n ≡ false → Contains ns k
  of_numbers k has other = by_list (Contains-append_cases ns (n ∷ []) k has)
    where
      by_list : Contains ns k ⊎ Contains (n ∷ []) k → Contains ns k
      by_list (inl there) = there
      by_list (inr (zero, lt, e)) = absurd (eqb-false k n other (sym e))
      by_list (inr (suc a, lt, e)) = absurd (omega (arith, lt))

  pub outer_kept : (k : ℕ) → Contains ns k → kept f k ≡ true
  outer_kept k has = kept_true f k (in_numbers k has) (not_bound k has)

  -- the ties of the node
  abbrev body_ties : List point_ties.Tie
  body_ties = ties_of types (i + 1) (suc j) m (point (places.Part i) 0 ∷ [])

  abbrev node_ties : List point_ties.Tie → ℕ → List Point → List point_ties.Tie
  node_ties own first out = own ++ ties_of types first (suc j) m out

  abbrev own_ties : List point_ties.Tie
  own_ties =
      paths.tie (point places.Result 0) (point (places.Part i) (suc served)) ∷ led (row (places.Number n) 0 served) (places.Part i) 1

  abbrev binder_there : ℕ → ℕ → List point_ties.Tie
  binder_there a c =
      node_ties (binder_ties (binding_of hold) t a n (row places.Result 0 c)) (a + length (binder_part (binding_of hold) t))
      (binder_out (binding_of hold) t a (row places.Result 0 c))

  binder_is : ties_of types i j whole (row places.Result 0 (count t)) ≡ binder_there i 1
  binder_is = let none : i + 0 ≡ i = omega arith in λ l. binder_there (none l) (done_count t done l)

  own_is : binder_there i 1 ≡ own_ties ++ body_ties
  own_is =
      λ l. node_ties (holder_ties hold t i n (row places.Result 0 1) l) (i + length (holder_part hold t l)) (holder_out hold t i (row places.Result 0 1) l)

  node_is : ties_of types i j whole (row places.Result 0 (count t)) ≡ own_ties ++ body_ties
  node_is = binder_is ∙ own_is

  abbrev pub whole_dots : List Tie
  whole_dots = dot_ties (ties_of types i j whole (row places.Result 0 (count (type_of_node whole))))

  in_node : (u : point_ties.Tie) → Contains (own_ties ++ body_ties) u → Contains whole_dots (tie (dot_of u.one) (dot_of u.other))
  in_node u has =
      subst (λ (ts : List point_ties.Tie). Contains (dot_ties ts) (tie (dot_of u.one) (dot_of u.other))) (sym node_is)
      (in_image (λ (y : point_ties.Tie). tie (dot_of y.one) (dot_of y.other)) (own_ties ++ body_ties) u has)

  in_body : (u : Tie) → Contains (dot_ties body_ties) u → Contains whole_dots u
  in_body u has =
      let (y, has_y, same) = of_image (λ (y : point_ties.Tie). tie (dot_of y.one) (dot_of y.other)) body_ties u has in
      subst (λ (z : Tie). Contains whole_dots z) same (in_node y (Contains-append_right own_ties body_ties y has_y))

  pub run_in : Contains whole_dots (tie (Of (ResultEnd 0)) (Of (PartEnd i (suc served))))
  run_in = in_node (paths.tie (point places.Result 0) (point (places.Part i) (suc served))) (0, omega arith, refl)

  pub variable_in : (h : ℕ) → h < served → Contains whole_dots (tie (Number n h) (Of (PartEnd i (suc h))))
  variable_in h lt =
      in_node (number_tie n i h) (Contains-append_left own_ties body_ties (number_tie n i h) (behind (in_number_ties n i served h lt)))
    where
      behind : Contains (led (row (places.Number n) 0 served) (places.Part i) 1) (number_tie n i h) → Contains own_ties (number_tie n i h)
      behind (a, low, is) = (suc a, omega (arith, low), is)

  abbrev Follow : Tie → Type 0
  Follow u = folds.Follows (its_web s).ties (back f (Within 0 u.one)) (back f (Within 0 u.other))

  -- the name's ties in the web of the body
  supply_in : (u : Tie) → Contains (supply_ties types inner n) u → Contains (its_web s).ties u
  supply_in u has =
      Contains-append_right
      (within 0 (dot_ties (ties_of types (i + 1) (suc j) m (row places.Result 0 (count (type_of_node m))))))
      (all_supply_ties types inner numbers) u (in_supplies types inner numbers n u bound_in has)

  pub all_served : count (types n) ≡ served
  all_served = ap count type_n

  result_in : (h : ℕ) → h < served → Contains (its_web s).ties (result_tie n h)
  result_in h lt =
      supply_in (result_tie n h)
      (Contains-append_right (within (suc n) (own_web (inner n).plan).ties) (result_ties n 0 (count (types n))) (result_tie n h)
      (in_results n 0 (count (types n)) h (omega arith) (omega (arith, all_served, lt))))

  name_in : (h : ℕ) → h < served → Contains (its_web s).ties (name_tie n h) ⊎ Contains (its_web s).ties (turned_tie n h)
  name_in h lt = elim (name_has hold n x h lt) [ inl there ↦ inl (one_in (name_tie n h) there) | inr there ↦ inr (one_in (turned_tie n h) there) ]
    where
      one_in : (u : Tie) → Contains (name_web hold n x) u → Contains (its_web s).ties u
      one_in u there =
          supply_in u
          (Contains-append_left (within (suc n) (own_web (inner n).plan).ties) (result_ties n 0 (count (types n))) u
          (subst (λ (y : Supply). Contains (within (suc n) (own_web y.plan).ties) u) (sym (name_there n (eq-eqb n n refl))) there))

  -- from the number, by its supply's result, to the import
  variable_way : (h : ℕ) → h < served → Way (its_web s).ties (Within 0 (Number n h)) (Within (suc n) (Of (ImportEnd 0 h)))
  variable_way h lt =
      along (Within 0 (Number n h)) (Within (suc n) (Of (ResultEnd h))) (Within (suc n) (Of (ImportEnd 0 h))) (inl (result_in h lt))
      (along (Within (suc n) (Of (ResultEnd h))) (Within (suc n) (Of (ImportEnd 0 h))) (Within (suc n) (Of (ImportEnd 0 h))) (name_in h lt)
      (here (Within (suc n) (Of (ImportEnd 0 h)))))

  known_bound : (h : ℕ) → back f (Within 0 (Number n h)) ≡ Some (Within 0 (Number n h))
  known_bound h = frames.itself_true (known f n) (Within 0 (Number n h)) (frames.known_of f n bound_in)

  follow_variable : (h : ℕ) → h < served → Follow (tie (Number n h) (Of (PartEnd i (suc h))))
  follow_variable h lt =
      subst (λ (o : Option Dot). folds.Follows (its_web s).ties o (back f (Within 0 (Of (PartEnd i (suc h)))))) (sym (known_bound h))
      (subst (λ (o : Option Dot). folds.Follows (its_web s).ties (Some (Within 0 (Number n h))) o) (sym (own_part f (suc h) ∙ port_below served n h lt))
      (variable_way h lt))

  which : (u : Tie) → Contains whole_dots u → Contains (dot_ties body_ties) u ⊎ Follow u
  which u has =
      let (y, has_y, same) =
      of_image (λ (y : point_ties.Tie). tie (dot_of y.one) (dot_of y.other)) (own_ties ++ body_ties) u
      (subst (λ (ts : List point_ties.Tie). Contains (dot_ties ts) u) node_is has) in
      subst (λ (z : Tie). Contains (dot_ties body_ties) z ⊎ Follow z) same (by_list y (Contains-append_cases own_ties body_ties y has_y))
    where
      Case : point_ties.Tie → Type 0
      Case y = Contains (dot_ties body_ties) (tie (dot_of y.one) (dot_of y.other)) ⊎ Follow (tie (dot_of y.one) (dot_of y.other))

      by_list : (y : point_ties.Tie) → Contains own_ties y ⊎ Contains body_ties y → Case y
      by_list y (inr has) = inl (in_image (λ (z : point_ties.Tie). tie (dot_of z.one) (dot_of z.other)) body_ties y has)
      by_list y (inl (zero, lt, e)) =
          subst Case e
          (inr
          (follows_none (its_web s).ties (back f (Within 0 (Of (ResultEnd 0)))) (back f (Within 0 (Of (PartEnd i (suc served))))) refl
          (own_part f (suc served) ∙ port_beyond served n)))
      by_list y (inl (suc a, lt, e)) =
          let (h, low, is) = of_number_ties n i served y (a, omega (arith, lt), e) in subst Case is (inr (follow_variable h low))

  pub is_sitting : IsSitting s
  is_sitting =
      record {
        shifted = omega arith;
        parts = λ k y e.
            (let next : 1 + k ≡ suc k = omega arith in
            ap (λ (ps : List Part). slice_get (ps ++ parts_of types m) (1 + k)) (holder_part hold t)
            ∙ (ap (slice_get (part_of hold (answer_bits t) ∷ parts_of types m)) next ∙ e));
        knows = bound.knows;
        once = λ k. (let one = bound.once k in omega (arith, one));
        shared = λ k has unnamed. (of_numbers k has unnamed, other_there k unnamed);
        names = λ k has named. ap (λ (y : Supply). y.plan.parts) (name_there k named) ∙ (holder_name hold x).parts;
        apart = λ k has out. absurd (clash (sym (outer_kept k has) ∙ out));
        one = ap count type_m ∙ done_count t done;
        result = (own_part f 0, tt);
        ties = in_body;
        others = which;
      }
    where
      clash : true ≡ false → ⊥
      clash e = cc e
