-- The two sides of a wired assignment are children of the node, in its web with the other point.
use Rattle.std.specs.Prelude.{◌+◌, ◌<◌, ◌≤◌, ◌⊎◌, length, slice_get, None, Contains}
use Rattle.std.proofs.Common.{◌≡◌, ℕ, zero, suc, false, List, [], ◌∷◌, ◌++◌, Option, Some, inl, inr, refl, sym, ◌∙◌, ap, subst, arith}
use Rattle.std.proofs.lemmas.List.Elements.{Contains-append_left, Contains-append_right, Contains-append_cases}
use Rattle.std.proofs.lemmas.Option.{none-some}
use Rattle.gos_types.specs.Types.{Type', Com, Var, Exp}
use Rattle.gos_types.proofs.ListLemmas.{found_in_front, found_behind}
use Rattle.gos_check.specs.declared.linear.Split.{Split}
use Rattle.gos_check.specs.Nodes.{Numbered, Two, OfAssign, type_of_node}
use Rattle.gos_check.specs.Linearity.{times, used, made}
use Rattle.gos_plan.specs.Kinds.{Contact, Part, Assign, contacts_of}
use Rattle.gos_plan.specs.Plans.{contacts_of_part, turned_if}
use Rattle.gos_realises.specs.realises.Regular.{count}
use Rattle.gos_ties.specs.declared.points.Place.{Place}
use Rattle.gos_ties.specs.declared.points.Place.TheVariants as places
use Rattle.gos_ties.specs.declared.points.Point.{Point}
use Rattle.gos_joining.specs.webs.Webs.{Dot, Tie}
use Rattle.gos_joining.specs.unions.Unions.{within}
use Rattle.gos_compile.specs.Wiring.{Types, answer_bits, shares, shares_ties, parts_of, nodes}
use Rattle.gos_terms.specs.wired.Wired.{Supplies, dot_ties, all_supply_ties}
use Rattle.gos_terms.specs.wired.NodeFitting.{AreOfTypes}
use Rattle.gos_terms.specs.stages.Ranges.{IsWithin}
use Rattle.gos_terms.specs.stages.Lodging.{AreTidy}
use Rattle.gos_terms.specs.stages.Housing.{HasShares}
use Rattle.gos_terms.specs.stages.Folding.{Lead, AtOwn, AtResult, Child, AreDistinct, is_used, child_out, in_range, child_back, shared_ties, own_ties, IsForeign, IsChild}
use Rattle.gos_terms.specs.stages.Folded.{Sees}
use Rattle.gos_terms.specs.stages.Regions.{HasParts}
use Rattle.gos_terms.proofs.stages.NothingLemmas.{part_nothing, own_back, node_nothing, number_nothing}
use Rattle.gos_terms.proofs.stages.ChildBackLemmas.{range_below, range_past}
use Rattle.gos_terms.proofs.stages.ContactLemmas.{shares_length}
use Rattle.gos_terms.specs.numbers.Kept.{IsKept}
use Rattle.gos_terms.specs.numbers.Inherited.{IsPart, first_numbers, own_numbers}
use Rattle.gos_terms.specs.assignment_forms.inner.Targets.{target_leads}
use Rattle.gos_terms.proofs.assignment_forms.PointLemmas.{led_ties, lying, told_tie}
use Rattle.gos_terms.proofs.assignment_forms.WebLemmas.{variable_child, number_child, open_ties, Piece, in_open, of_open}
use Rattle.gos_terms.proofs.assignment_forms.OtherLemmas.{IsOthers, variable_part, number_part, not_variables, not_numbers}
use Rattle.gos_terms.proofs.assignment_forms.FoldLemmas.{HasTarget}

-- What stands for nothing of a child.
module _ (f : Child) where
  abbrev IsNothing : Dot → Type 0
  IsNothing d = child_back f d ≡ None

  -- the ties of a term that is none of its
  module _ (a b : ℕ) (m : Numbered) (out : List Point) (tidy : AreTidy (is_used f) f.splits f.numbers)
      (parts : (q : ℕ) → a ≤ q → q < a + length (parts_of f.types m)
      → (f.first + f.own < q) × (f.first + length f.splits ≤ q) × (in_range (f.first + f.off) (length (parts_of f.types f.term)) q ≡ false))
      (inner : (q : ℕ) → b ≤ q → q < b + nodes m → in_range f.node (nodes f.term) q ≡ false)
      (numbers : (q : ℕ) → 0 < times q (used m) + times q (made m) → IsOthers f.splits f.uses f.term q)
      (results : (h : ℕ) → h < length out → IsNothing (lying f.types a b m out places.Result h)) where
    place_nothing : (p : Place) (h : ℕ) → IsWithin f.types a b m (length out) p h → IsNothing (lying f.types a b m out p h)
    place_nothing (places.Part q) h (le, lt) = let (far, low, none) = parts q le lt in part_nothing f q h low (λ e. let same : q ≡ f.first + f.own = e in omega (arith, same, far)) none
    place_nothing (places.Import q) h it = absurd it
    place_nothing places.Result h it = results h it
    place_nothing (places.Number q) h it = let others = numbers q it in number_nothing f q h tidy others.unused others.unmade others.unsplit
    place_nothing (places.Node q) h (le, lt) = node_nothing f q h (inner q le lt)

    foreign_ties : (t : Tie) → Contains (led_ties f.types a b m out) t → IsForeign f t
    foreign_ties t has =
        let it = told_tie f.types a b m out t has in
        subst (IsForeign f) it.same (place_nothing it.from.one.place it.from.one.shake it.one, place_nothing it.from.other.place it.from.other.shake it.other)

two_apart : AreDistinct target_leads
two_apart zero zero l a b = refl
two_apart zero (suc zero) l a b = let e : Some (AtResult 1) ≡ Some (AtOwn 1) = a ∙ sym b in absurd (cc e)
two_apart zero (suc (suc k)) l a b = absurd (none-some l b)
two_apart (suc zero) zero l a b = let e : Some (AtOwn 1) ≡ Some (AtResult 1) = a ∙ sym b in absurd (cc e)
two_apart (suc zero) (suc zero) l a b = refl
two_apart (suc zero) (suc (suc k)) l a b = absurd (none-some l b)
two_apart (suc (suc h)) k l a b = absurd (none-some l a)

one_apart : AreDistinct (AtOwn 0 ∷ [])
one_apart zero zero l a b = refl
one_apart zero (suc k) l a b = absurd (none-some l b)
one_apart (suc h) k l a b = absurd (none-some l a)

module _ (types : Types) (i j : ℕ) (ss : List Split) (w : ℕ) (m n : Numbered) (ns : List ℕ) (env : Supplies) (kept : IsKept types ns (Two Com ss OfAssign m n))
    (var : type_of_node m ≡ Var w) (num : type_of_node n ≡ Exp w) where
  abbrev pub g : Child
  g = variable_child types i j ss m n ns env

  abbrev pub f : Child
  f = number_child types i j ss m n ns env

  abbrev pub web_ties : List Tie
  web_ties = open_ties types i j ss m n ns env

  of_variable : IsPart types ss ns (first_numbers ss ns (used n)) m
  of_variable = variable_part types ns ss m n kept

  of_number : IsPart types ss ns (own_numbers ss ns n) n
  of_number = number_part types ns ss m n kept

  abbrev Told : Child → Tie → Type 0
  Told k t = Contains (shared_ties k) t ⊎ Contains (own_ties k) t ⊎ IsForeign k t

  share_in : (t : Tie) → Contains (shared_ties g) t → Contains web_ties t
  share_in t has =
      elim (Contains-append_cases (within 0 (dot_ties (shares_ties i ss types))) (all_supply_ties types env ns) t has) [
        | inl share ↦ in_open types i j ss m n ns env t (inl share)
        | inr supply ↦ in_open types i j ss m n ns env t (inr (inr (inr (inr supply))))
      ]

  -- the variable's side
  variable_foreign : (t : Tie) → Contains (own_ties f) t → IsForeign g t
  variable_foreign t has =
      foreign_ties g (i + (length ss + 1 + length (parts_of types m))) (suc j + nodes m) n (child_out f) of_variable.tidy
      (λ q le lt. (omega (arith, le), omega (arith, le), range_past (i + (length ss + 1)) (length (parts_of types m)) q (omega (arith, le))))
      (λ q le lt. range_past (suc j) (nodes m) q le)
      (λ q some. not_variables types ns ss m n kept q some)
      results t has
    where
      results : (h : ℕ) → h < 1 → child_back g (lying types (i + (length ss + 1 + length (parts_of types m))) (suc j + nodes m) n (child_out f) places.Result h) ≡ None
      results zero lt = own_back g 0
      results (suc h) lt = absurd (omega (arith, lt))

  variable_told : (t : Tie) → Piece types i j ss m n ns env (child_out g) t → Told g t
  variable_told t (inl share) = inl (shared_of t share)
    where
      shared_of : (t : Tie) → Contains (within 0 (dot_ties (shares_ties i ss types))) t → Contains (shared_ties g) t
      shared_of t share =
          Contains-append_left (within 0 (dot_ties (shares_ties i ss types))) (all_supply_ties types env ns) t share
  variable_told t (inr (inl run)) = inr (inr (subst (IsForeign g) run (refl, own_back g 2)))
  variable_told t (inr (inr (inl own))) = inr (inl own)
  variable_told t (inr (inr (inr (inl other)))) = inr (inr (variable_foreign t other))
  variable_told t (inr (inr (inr (inr supply)))) =
      inl (Contains-append_right (within 0 (dot_ties (shares_ties i ss types))) (all_supply_ties types env ns) t supply)

  pub variable_is_child : AreOfTypes types env ns → IsChild (variable_child types i j ss m n ns env) (open_ties types i j ss m n ns env)
  variable_is_child supplies =
      record {
        tidy = of_variable.tidy;
        agree = of_variable.agree;
        split = of_variable.split;
        supplies = supplies;
        scope = of_variable.scope;
        covers = of_variable.covers;
        unmade = of_variable.unmade;
        shares_first = omega arith;
        off_first = omega arith;
        own_apart = inl (omega arith);
        has_shared = share_in;
        has_own = λ t has. in_open types i j ss m n ns env t (inr (inr (inl has)));
        only = λ t has. variable_told t (of_open types i j ss m n ns env t has);
        long = sym (ap count var);
        distinct = two_apart;
      }

  -- the number's side
  number_foreign : (t : Tie) → Contains (own_ties g) t → IsForeign f t
  number_foreign t has =
      foreign_ties f (i + (length ss + 1)) (suc j) m (child_out g) of_number.tidy
      (λ q le lt. (omega (arith, le), omega (arith, le), range_below (i + (length ss + 1 + length (parts_of types m))) (length (parts_of types n)) q (omega (arith, lt))))
      (λ q le lt. range_below (suc j + nodes m) (nodes n) q lt)
      (λ q some. not_numbers types ns ss m n kept q some)
      results t has
    where
      results : (h : ℕ) → h < 2 → child_back f (lying types (i + (length ss + 1)) (suc j) m (child_out g) places.Result h) ≡ None
      results zero lt = refl
      results (suc zero) lt = own_back f 1
      results (suc (suc h)) lt = absurd (omega (arith, lt))

  number_told : (t : Tie) → Piece types i j ss m n ns env (child_out g) t → Told f t
  number_told t (inl share) =
      inl (Contains-append_left (within 0 (dot_ties (shares_ties i ss types))) (all_supply_ties types env ns) t share)
  number_told t (inr (inl run)) = inr (inr (subst (IsForeign f) run (refl, own_back f 2)))
  number_told t (inr (inr (inl other))) = inr (inr (number_foreign t other))
  number_told t (inr (inr (inr (inl own)))) = inr (inl own)
  number_told t (inr (inr (inr (inr supply)))) =
      inl (Contains-append_right (within 0 (dot_ties (shares_ties i ss types))) (all_supply_ties types env ns) t supply)

  pub number_is_child : AreOfTypes types env ns → IsChild (number_child types i j ss m n ns env) (open_ties types i j ss m n ns env)
  number_is_child supplies =
      record {
        tidy = of_number.tidy;
        agree = of_number.agree;
        split = of_number.split;
        supplies = supplies;
        scope = of_number.scope;
        covers = of_number.covers;
        unmade = of_number.unmade;
        shares_first = omega arith;
        off_first = omega arith;
        own_apart = inl (omega arith);
        has_shared = share_in;
        has_own = λ t has. in_open types i j ss m n ns env t (inr (inr (inr (inl has))));
        only = λ t has. number_told t (of_open types i j ss m n ns env t has);
        long = sym (ap count num);
        distinct = one_apart;
      }

  -- the parts of the node
  abbrev pub own : List Part
  own = parts_of types (Two Com ss OfAssign m n)

  abbrev rest : List Part
  rest = Assign (answer_bits (type_of_node n)) ∷ (parts_of types m ++ parts_of types n)

  pub has_shares : HasShares types ss own
  has_shares k y at = found_in_front (shares ss types) rest k y at

  pub assign_at : slice_get own (length ss) ≡ Some (Assign w)
  assign_at =
      let size = shares_length types ss in
      let place : length (shares ss types) + 0 ≡ length ss = omega (arith, size) in
      subst (λ (k : ℕ). slice_get own k ≡ Some (Assign (answer_bits (type_of_node n)))) place (found_behind (shares ss types) rest 0)
      ∙ ap (λ (t : Type'). Some (Assign (answer_bits t))) num

  variable_at : (k : ℕ) (y : Part) → slice_get (parts_of types m) k ≡ Some y → slice_get own (length ss + 1 + k) ≡ Some y
  variable_at k y at =
      let size = shares_length types ss in
      let place : length (shares ss types) + suc k ≡ length ss + 1 + k = omega (arith, size) in
      subst (λ (q : ℕ). slice_get own q ≡ Some y) place
      (found_behind (shares ss types) rest (suc k) ∙ found_in_front (parts_of types m) (parts_of types n) k y at)

  number_at : (k : ℕ) (y : Part) → slice_get (parts_of types n) k ≡ Some y → slice_get own (length ss + 1 + length (parts_of types m) + k) ≡ Some y
  number_at k y at =
      let size = shares_length types ss in
      let place : length (shares ss types) + suc (length (parts_of types m) + k) ≡ length ss + 1 + length (parts_of types m) + k = omega (arith, size) in
      subst (λ (q : ℕ). slice_get own q ≡ Some y) place
      (found_behind (shares ss types) rest (suc (length (parts_of types m) + k)) ∙ (found_behind (parts_of types m) (parts_of types n) k ∙ at))

  pub has_target : HasTarget (variable_child types i j ss m n ns env) (parts_of types (Two Com ss OfAssign m n)) w
  has_target = record { shares = has_shares; child = variable_at; assign = assign_at }

  seen : (t : Type') (h : ℕ) (l : Lead) (k : Contact) → slice_get (AtOwn 0 ∷ []) h ≡ Some l → turned_if (slice_get (contacts_of (type_of_node n)) h) ≡ Some k
      → Sees (length ss) own t l k
  seen t zero l k lead at =
      let same : AtOwn 0 ≡ l = cc lead in
      subst (λ (x : Lead). Sees (length ss) own t x k) same
      (ap (λ (a : Option Part). slice_get (contacts_of_part a) 0) assign_at
      ∙ (sym (ap (λ (t : Type'). turned_if (slice_get (contacts_of t) 0)) num) ∙ at))
  seen t (suc h) l k lead at = absurd (none-some l lead)

  pub has_parts : (t : Type') → HasParts (number_child types i j ss m n ns env) (parts_of types (Two Com ss OfAssign m n)) t
  has_parts t = record { shares = has_shares; child = number_at; asks = seen t }
