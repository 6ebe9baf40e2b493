-- What asks in the plan of a wired assignment is its result, or stands for something of one of the two sides.
use Rattle.std.specs.Prelude.{◌≢◌, ◌+◌, ◌-◌, ◌<◌, ◌⊎◌, length, nat_lt, slice_get, None, Contains}
use Rattle.std.proofs.Common.{◌≡◌, ℕ, zero, suc, Bool, true, false, List, [], ◌∷◌, ◌++◌, Option, Some, inl, inr, refl, sym, ◌∙◌, ap, subst, arith}
use Rattle.std.proofs.lemmas.Option.{slice_get_within, none-some}
use Rattle.std.proofs.lemmas.Bool.{lt-ltb, ltb-true}
use Rattle.gos_types.specs.declared.shakes.Role.{Role}
use Rattle.gos_types.specs.declared.shakes.Role.TheVariants.{Serve, Ask}
use Rattle.gos_types.specs.Types.{Type', Com, Var, Exp}
use Rattle.gos_model.proofs.NumberLemmas.{number_cases}
use Rattle.gos_check.specs.declared.linear.Split.{Split}
use Rattle.gos_check.specs.Nodes.{Numbered, Two, OfAssign, type_of_node}
use Rattle.gos_check.specs.Linearity.{times, used}
use Rattle.gos_plan.specs.Kinds.{Contact, Part, Share, Assign, asks, serves, contacts_of, part_contacts}
use Rattle.gos_plan.specs.Plans.{End, PartEnd, ImportEnd, ResultEnd, Plan, contact_at, contacts_of_part, turned_if}
use Rattle.gos_plan.proofs.ContactLemmas.{part_is_there, import_is_there}
use Rattle.gos_realises.specs.realises.Regular.{count}
use Rattle.gos_joining.specs.webs.Webs.{Dot, Of, Within}
use Rattle.gos_compile.specs.Wiring.{Types, answer_bits, shares, parts_of}
use Rattle.gos_terms.specs.wired.Wired.{Supplies, Source, Own, Supplied, Placing, IsFrom, source_dot, dot_at}
use Rattle.gos_terms.specs.wired.NodeFitting.{AreOfTypes}
use Rattle.gos_terms.specs.stages.Lodging.{serves_side, AreApart}
use Rattle.gos_terms.specs.stages.Folding.{Child, is_used, child_back, IsChild, IsLaid}
use Rattle.gos_terms.proofs.stages.SpareLemmas.{has_size}
use Rattle.gos_terms.proofs.stages.StepLemmas.{told_high}
use Rattle.gos_terms.proofs.stages.CoverLemmas.{live_is_covered, served_is_covered, plainly, own_is_covered}
use Rattle.gos_terms.proofs.stages.SideLemmas.{served_side, AreUsed, AreOld, Lives, Serves, all_live, all_serve}
use Rattle.gos_terms.proofs.stages.ContactLemmas.{shares_length}
use Rattle.gos_terms.proofs.stages.LayoutLemmas.{in_front, in_back}
use Rattle.gos_terms.specs.numbers.Kept.{IsKept}
use Rattle.gos_terms.specs.numbers.Inherited.{first_numbers, own_numbers}
use Rattle.gos_terms.proofs.assignment_forms.WebLemmas.{variable_child, number_child, open_ties}
use Rattle.gos_terms.proofs.assignment_forms.OtherLemmas.{variable_part, number_part, either_side}
use Rattle.gos_terms.proofs.assignment_forms.SideLemmas.{variable_is_child, number_is_child, assign_at}

-- what serves doesn't ask
abbrev role_at : Option Contact → Role
role_at None = Serve
role_at (Some k) = k.role

none_asks : (a : Option Contact) (q v : ℕ) → role_at a ≡ Serve → a ≡ Some (asks q v) → ⊥
none_asks a q v serving e = let clash : Serve ≡ Ask = sym serving ∙ ap role_at e in cc clash

-- a Share of the list is one
share_is : (types : Types) (ss : List Split) (k : ℕ) (y : Part) → slice_get (shares ss types) k ≡ Some y → (t : Type') × (y ≡ Share t)
share_is types [] k y at = absurd (none-some y at)
share_is types (s ∷ ss) zero y at = let same : Share (types s.of) ≡ y = cc at in (types s.of, sym same)
share_is types (s ∷ ss) (suc k) y at = share_is types ss k y at

module _ (types : Types) (i j : ℕ) (ss : List Split) (w : ℕ) (m n : Numbered) (ns : List ℕ) (env : Supplies) (kept : IsKept types ns (Two Com ss OfAssign m n))
    (var : type_of_node m ≡ Var w) (num : type_of_node n ≡ Exp w) (supplies : AreOfTypes types env ns) where
  -- the two sides, and their numbers
  abbrev kid : Bool → Child
  kid true = number_child types i j ss m n ns env
  kid false = variable_child types i j ss m n ns env

  kid_is : (p : Bool) → IsChild (kid p) (open_ties types i j ss m n ns env)
  kid_is true = number_is_child types i j ss w m n ns env kept var num supplies
  kid_is false = variable_is_child types i j ss w m n ns env kept var num supplies

  abbrev own : List Part
  own = parts_of types (Two Com ss OfAssign m n)

  abbrev pub Covered : Dot → Type 0
  Covered d =
      ((y : Dot) × (child_back (number_child types i j ss m n ns env) d ≡ Some y)) ⊎ ((y : Dot) × (child_back (variable_child types i j ss m n ns env) d ≡ Some y))

  covers : (p : Bool) (d : Dot) → (y : Dot) × (child_back (kid p) d ≡ Some y) → Covered d
  covers true d it = inl it
  covers false d it = inr it

  abbrev user : Bool → ℕ → Bool
  user true = is_used (number_child types i j ss m n ns env)
  user false = is_used (variable_child types i j ss m n ns env)

  -- each number is one's
  all_used : AreUsed user ss ns []
  all_used k there none =
      elim (either_side types ns ss m n kept k there (omega (arith, none))) [
        | inl first ↦ (false, lt-ltb 0 (times k (first_numbers ss ns (used n))) first)
        | inr second ↦ (true, lt-ltb 0 (times k (own_numbers ss ns n)) second)
      ]

  none_old : AreOld user ss []
  none_old k some = refl

  apart : (p : Bool) → AreApart (user p) ss
  apart true = (number_part types ns ss m n kept).tidy.apart
  apart false = (variable_part types ns ss m n kept).tidy.apart

  -- an end of a supply
  supply_covered : (q : ℕ) (e : End) → Contains ns q → Covered (Within (suc q) (Of e))
  supply_covered q e there = by_side (all_live user ss ns [] all_used (number_part types ns ss m n kept).tidy.in_order none_old q there refl)
    where
      by_side : Lives user ss q → Covered (Within (suc q) (Of e))
      by_side (true, lives) = inl (live_is_covered (kid true) q e lives)
      by_side (false, lives) = inr (live_is_covered (kid false) q e lives)

  -- a Share
  share_covered : (k h : ℕ) (t : Type') (q v : ℕ) → slice_get (shares ss types) k ≡ Some (Share t) → slice_get (part_contacts (Share t)) h ≡ Some (asks q v)
      → Covered (source_dot i (Own k) h)
  share_covered k h t q v share asking =
      let size = has_size t in
      let within = slice_get_within (part_contacts (Share t)) h (asks q v) asking in
      let (c, two, serves) = served_side (count t) h (omega (arith, within, size)) in
      by_side c serves
      (all_serve user types plainly ss ns [] all_used (number_part types ns ss m n kept).tidy.in_order none_old apart 0 k k t c (omega arith) share two)
    where
      by_side : (c : ℕ) → serves_side (count t) c h ≡ true → Serves user types plainly ss 0 k t c → Covered (source_dot i (Own k) h)
      by_side c serves (true, listed) =
          let (y, same, covers) = served_is_covered (kid true) (open_ties types i j ss m n ns env) plainly (record { part = k; ty = t; side = c }) (kid_is true) listed in
          inl (subst (λ (x : ℕ). (d : Dot) × (child_back (kid true) (source_dot i (Own x) h) ≡ Some d)) (sym same) (covers h serves))
      by_side c serves (false, listed) =
          let (y, same, covers) = served_is_covered (kid false) (open_ties types i j ss m n ns env) plainly (record { part = k; ty = t; side = c }) (kid_is false) listed in
          inr (subst (λ (x : ℕ). (d : Dot) × (child_back (kid false) (source_dot i (Own x) h) ≡ Some d)) (sym same) (covers h serves))

  -- its own part
  assign_covered : (h q v : ℕ) → slice_get (part_contacts (Assign w)) h ≡ Some (asks q v) → Covered (source_dot i (Own (length ss)) h)
  assign_covered zero q v asking = inl ((own_is_covered (kid true) (open_ties types i j ss m n ns env) (kid_is true)).1 0 0 refl)
  assign_covered (suc zero) q v asking = inr ((own_is_covered (kid false) (open_ties types i j ss m n ns env) (kid_is false)).1 1 1 refl)
  assign_covered (suc (suc zero)) q v asking = absurd (none_asks (Some (serves 0 0)) q v refl asking)
  assign_covered (suc (suc (suc h))) q v asking = absurd (none-some (asks q v) asking)

  -- a part of the node
  abbrev rest : List Part
  rest = parts_of types m ++ parts_of types n

  abbrev behind : List Part
  behind = Assign (answer_bits (type_of_node n)) ∷ rest

  own_covered : (k h : ℕ) (y : Part) (q v : ℕ) → slice_get own k ≡ Some y → slice_get (part_contacts y) h ≡ Some (asks q v) → Covered (source_dot i (Own k) h)
  own_covered k h y q v at asking =
      number_cases k (length ss)
      (λ e t.
      let same : Some y ≡ Some (Assign w) = sym at ∙ (ap (slice_get own) e ∙ assign_at types i j ss w m n ns env kept var num) in
      let kind : y ≡ Assign w = cc same in
      subst (λ (x : ℕ). Covered (source_dot i (Own x) h)) (sym e)
      (assign_covered h q v (subst (λ (z : Part). slice_get (part_contacts z) h ≡ Some (asks q v)) kind asking)))
      (λ e t. by_size (nat_lt k (length ss)) refl e)
    where
      size : length (shares ss types) ≡ length ss
      size = shares_length types ss

      at_variable : (x : ℕ) → length ss + 1 + x ≡ k → x < length (parts_of types m) → Covered (source_dot i (Own k) h)
      at_variable x same lt =
          inr (subst (λ (z : ℕ). (d : Dot) × (child_back (kid false) (source_dot i (Own z) h) ≡ Some d)) same
          ((own_is_covered (kid false) (open_ties types i j ss m n ns env) (kid_is false)).0 x h lt))

      at_number : (x : ℕ) → length ss + 1 + length (parts_of types m) + x ≡ k → x < length (parts_of types n) → Covered (source_dot i (Own k) h)
      at_number x same lt =
          inl (subst (λ (z : ℕ). (d : Dot) × (child_back (kid true) (source_dot i (Own z) h) ≡ Some d)) same
          ((own_is_covered (kid true) (open_ties types i j ss m n ns env) (kid_is true)).0 x h lt))

      by_term : (x : ℕ) → length ss + 1 + x ≡ k → slice_get rest x ≡ Some y → (b : Bool) → nat_lt x (length (parts_of types m)) ≡ b → Covered (source_dot i (Own k) h)
      by_term x same there true t = at_variable x same (ltb-true x (length (parts_of types m)) t)
      by_term x same there false t =
          let le = told_high x (length (parts_of types m)) t in
          at_number (x - length (parts_of types m)) (omega (arith, same, le))
          (slice_get_within (parts_of types n) (x - length (parts_of types m)) y (in_back (parts_of types m) (parts_of types n) x y there le))

      by_size : (b : Bool) → nat_lt k (length ss) ≡ b → k ≢ length ss → Covered (source_dot i (Own k) h)
      by_size true t apart =
          let lt = ltb-true k (length ss) t in
          let share = in_front (shares ss types) behind k y at (omega (arith, lt, size)) in
          let (u, kind) = share_is types ss k y share in
          share_covered k h u q v (share ∙ ap Some kind) (subst (λ (z : Part). slice_get (part_contacts z) h ≡ Some (asks q v)) kind asking)
      by_size false t apart =
          let le = told_high k (length ss) t in
          let above : length ss < k = grind (arith, le, apart) in
          let place : k - length (shares ss types) ≡ suc (k - (length ss + 1)) = omega (arith, above, size) in
          let its : slice_get rest (k - (length ss + 1)) ≡ Some y =
          subst (λ (x : ℕ). slice_get behind x ≡ Some y) place (in_back (shares ss types) behind k y at (omega (arith, above, size)))
          in
          by_term (k - (length ss + 1)) (omega (arith, above)) its (nat_lt (k - (length ss + 1)) (length (parts_of types m))) refl

  -- by its source
  source_covered : (s : Source) (y : Part) (h q v : ℕ) → IsFrom own ns env y s → slice_get (part_contacts y) h ≡ Some (asks q v) → Covered (source_dot i s h)
  source_covered (Own k) y h q v at asking = own_covered k h y q v at asking
  source_covered (Supplied x k) y h q v (there, at) asking = supply_covered x (PartEnd k h) there

  module _ (pl : Placing) (r : Plan) (laid : IsLaid own ns env pl r) (outcome : r.outcome ≡ Com) where
    pub covered_so : (a : End) (q v : ℕ) → contact_at r a ≡ Some (asks q v) → (a ≡ ResultEnd 0) ⊎ Covered (dot_at i pl a)
    covered_so (PartEnd k h) q v at =
        let (y, listed) = part_is_there (slice_get r.parts k) h (asks q v) at in
        let (from, same) = laid.no_more k y listed in
        inr (source_covered (pl.source k) y h q v from (sym (ap (λ (a : Option Part). slice_get (contacts_of_part a) h) listed) ∙ at))
    covered_so (ImportEnd k h) q v at =
        let (y, listed) = import_is_there (slice_get r.imports k) h (asks q v) at in
        let (there, known, same) = laid.no_import k y listed in
        inr (supply_covered (pl.origin k).number (ImportEnd (pl.origin k).import h) there)
    covered_so (ResultEnd zero) q v at = inl refl
    covered_so (ResultEnd (suc h)) q v at =
        absurd (none-some (asks q v) (sym (ap (λ (t : Type'). turned_if (slice_get (contacts_of t) (suc h))) outcome) ∙ at))
