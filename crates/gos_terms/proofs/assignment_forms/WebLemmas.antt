-- The web of a wired assignment, where the variable's read handshake leads to handshake 1 of the node's result in place of the node's own
-- point. It has the same plan, as a command has no such handshake.
use Rattle.std.specs.Prelude.{◌+◌, ◌<◌, ◌≤◌, ◌⊎◌, length, nat_eq, slice_get, Some, Contains}
use Rattle.std.proofs.Common.{◌≡◌, ℕ, zero, suc, Bool, false, List, [], ◌∷◌, ◌++◌, inl, inr, refl, sym, ◌∙◌, ap, subst, arith, if◌then◌else◌}
use Rattle.std.proofs.lemmas.List.Elements.{Contains-append_left, Contains-append_right, Contains-append_cases}
use Rattle.std.proofs.lemmas.Bool.{eq-eqb, ne_eqb}
use Rattle.std.proofs.lemmas.Option.{none-some}
use Rattle.gos_types.specs.Types.{Type', Com}
use Rattle.gos_model.specs.Terms as terms
use Rattle.gos_check.specs.declared.linear.Split.{Split}
use Rattle.gos_check.specs.Nodes.{Numbered, Closed, Two, OfAssign}
use Rattle.gos_check.specs.Linearity.{used}
use Rattle.gos_plan.specs.Kinds.{Contact, contacts_of}
use Rattle.gos_plan.specs.Plans.{End, PartEnd, ImportEnd, ResultEnd, Plan, contact_at, turned_if}
use Rattle.gos_realises.specs.realises.Regular.{count}
use Rattle.gos_ties.specs.declared.points.Place.{Place}
use Rattle.gos_ties.specs.declared.points.Place.TheVariants as places
use Rattle.gos_ties.specs.declared.points.Point.{Point}
use Rattle.gos_ties.specs.declared.points.Tie as point_ties
use Rattle.gos_ties.specs.Ties as ties
use Rattle.gos_ties.specs.Ties.{point}
use Rattle.gos_joining.specs.webs.Webs.{Dot, Of, Number, Node, Within, Tie, Way, IsOfWeb}
use Rattle.gos_joining.proofs.webs.WayLemmas.{mapped_way}
use Rattle.gos_joining.proofs.webs.WebLemmas.{same_ways}
use Rattle.gos_joining.specs.unions.Unions.{within}
use Rattle.gos_compile.specs.Wiring.{Types, row, parts_of, nodes, shares_ties, ties_of}
use Rattle.gos_terms.specs.wired.Wired.{Supplies, Source, Own, Supplied, Placing, source_dot, dot_of_place, dot_at, dot_ties, all_supply_ties, wired_ties}
use Rattle.gos_terms.specs.stages.Ranges.{IsWithin}
use Rattle.gos_terms.specs.stages.Folding.{AtOwn, Child, child_out}
use Rattle.gos_terms.proofs.stages.LodgingLemmas.{lifted}
use Rattle.gos_terms.proofs.stages.ChildTieLemmas.{tie_of, tie_in, of_supplies, of_supply}
use Rattle.gos_terms.specs.numbers.Inherited.{first_numbers, own_numbers}
use Rattle.gos_terms.specs.assignment_forms.inner.Targets.{target_leads}
use Rattle.gos_terms.proofs.assignment_forms.PointLemmas.{led_ties, lying, moved_tie}
use Rattle.gos_terms.proofs.stages.WayLemmas.{way_by_tie}

module _ (types : Types) (i j : ℕ) (ss : List Split) (m n : Numbered) (ns : List ℕ) (env : Supplies) where
  -- the two sides, as children
  abbrev pub variable_child : Child
  variable_child =
      record {
        types = types;
        first = i;
        splits = ss;
        env = env;
        numbers = ns;
        own = length ss;
        out = target_leads;
        off = length ss + 1;
        node = suc j;
        term = m;
        uses = first_numbers ss ns (used n);
      }

  abbrev pub number_child : Child
  number_child =
      record {
        types = types;
        first = i;
        splits = ss;
        env = env;
        numbers = ns;
        own = length ss;
        out = AtOwn 0 ∷ [];
        off = length ss + 1 + length (parts_of types m);
        node = suc j + nodes m;
        term = n;
        uses = own_numbers ss ns n;
      }

  abbrev pub node : Numbered
  node = Two Com ss OfAssign m n

  -- its ties, and those with the other point
  abbrev pub run_tie : point_ties.Tie
  run_tie = ties.tie (point places.Result 0) (point (places.Part (i + length ss)) 2)

  abbrev read_out : List Point
  read_out = point (places.Node j) 0 ∷ point (places.Part (i + length ss)) 1 ∷ []

  abbrev number_out : List Point
  number_out = point (places.Part (i + length ss)) 0 ∷ []

  abbrev pieces : List Point → List point_ties.Tie
  pieces out =
      shares_ties i ss types
      ++ (run_tie ∷ []
      ++ (ties_of types (i + (length ss + 1)) (suc j) m out ++ ties_of types (i + (length ss + 1 + length (parts_of types m))) (suc j + nodes m) n number_out))

  abbrev pub open_ties : List Tie
  open_ties = within 0 (dot_ties (pieces (child_out variable_child))) ++ all_supply_ties types env ns

  wiring_is : ties_of types i j node (row places.Result 0 (count Com)) ≡ pieces read_out
  wiring_is =
      let first : i + length ss + 1 ≡ i + (length ss + 1) = omega arith in
      let second : i + length ss + 1 + length (parts_of types m) ≡ i + (length ss + 1 + length (parts_of types m)) = omega arith in
      λ k. shares_ties i ss types ++ (run_tie ∷ [] ++ (ties_of types (first k) (suc j) m read_out ++ ties_of types (second k) (suc j + nodes m) n number_out))

  -- the pieces, one by one
  abbrev Shares : Tie → Type 0
  Shares t = Contains (within 0 (dot_ties (shares_ties i ss types))) t

  abbrev Variables : List Point → Tie → Type 0
  Variables out t = Contains (led_ties types (i + (length ss + 1)) (suc j) m out) t

  abbrev Numbers : Tie → Type 0
  Numbers t = Contains (led_ties types (i + (length ss + 1 + length (parts_of types m))) (suc j + nodes m) n number_out) t

  abbrev pub Piece : List Point → Tie → Type 0
  Piece out t = Shares t ⊎ ((lifted run_tie ≡ t) ⊎ (Variables out t ⊎ (Numbers t ⊎ Contains (all_supply_ties types env ns) t)))

  abbrev its : List Point → List point_ties.Tie
  its out = ties_of types (i + (length ss + 1)) (suc j) m out

  abbrev others : List point_ties.Tie
  others = ties_of types (i + (length ss + 1 + length (parts_of types m))) (suc j + nodes m) n number_out

  abbrev all : List Point → List Tie
  all out = within 0 (dot_ties (pieces out)) ++ all_supply_ties types env ns

  pub to_piece : (out : List Point) (t : Tie) → Contains (all out) t → Piece out t
  to_piece out t has =
      elim (Contains-append_cases (within 0 (dot_ties (pieces out))) (all_supply_ties types env ns) t has) [
        | inl own ↦
            (let (u, listed, same) = tie_of (pieces out) t own in
            elim (Contains-append_cases (shares_ties i ss types) (run_tie ∷ [] ++ (its out ++ others)) u listed) [
              | inl share ↦ inl (subst Shares same (tie_in (shares_ties i ss types) u share))
              | inr more ↦
                  elim (Contains-append_cases (run_tie ∷ []) (its out ++ others) u more) [
                    | inl run ↦ inr (inl (one_of u run same))
                    | inr rest ↦
                        elim (Contains-append_cases (its out) others u rest) [
                          | inl first ↦ inr (inr (inl (subst (Variables out) same (tie_in (its out) u first))))
                          | inr second ↦ inr (inr (inr (inl (subst Numbers same (tie_in others u second)))))
                        ]
                  ]
            ])
        | inr supply ↦ inr (inr (inr (inr supply)))
      ]
    where
      one_of : (u : point_ties.Tie) → Contains (run_tie ∷ []) u → lifted u ≡ t → lifted run_tie ≡ t
      one_of u (zero, lt, e) same = ap lifted e ∙ same
      one_of u (suc k, lt, e) same = absurd (omega (arith, lt))

  from_piece : (out : List Point) (t : Tie) → Piece out t → Contains (all out) t
  from_piece out t (inl share) = let (u, listed, same) = tie_of (shares_ties i ss types) t share in
      own_in u same (Contains-append_left (shares_ties i ss types) (run_tie ∷ [] ++ (its out ++ others)) u listed)
    where
      own_in : (u : point_ties.Tie) → lifted u ≡ t → Contains (pieces out) u → Contains (all out) t
      own_in u same has =
          subst (Contains (all out)) same (Contains-append_left (within 0 (dot_ties (pieces out))) (all_supply_ties types env ns) (lifted u) (tie_in (pieces out) u has))
  from_piece out t (inr (inl run)) =
      subst (Contains (all out)) run
      (Contains-append_left (within 0 (dot_ties (pieces out))) (all_supply_ties types env ns) (lifted run_tie)
      (tie_in (pieces out) run_tie (Contains-append_right (shares_ties i ss types) (run_tie ∷ [] ++ (its out ++ others)) run_tie (0, omega arith, refl))))
  from_piece out t (inr (inr (inl first))) =
      let (u, listed, same) = tie_of (its out) t first in
      subst (Contains (all out)) same
      (Contains-append_left (within 0 (dot_ties (pieces out))) (all_supply_ties types env ns) (lifted u)
      (tie_in (pieces out) u (Contains-append_right (shares_ties i ss types) (run_tie ∷ [] ++ (its out ++ others)) u
      (Contains-append_right (run_tie ∷ []) (its out ++ others) u (Contains-append_left (its out) others u listed)))))
  from_piece out t (inr (inr (inr (inl second)))) =
      let (u, listed, same) = tie_of others t second in
      subst (Contains (all out)) same
      (Contains-append_left (within 0 (dot_ties (pieces out))) (all_supply_ties types env ns) (lifted u)
      (tie_in (pieces out) u (Contains-append_right (shares_ties i ss types) (run_tie ∷ [] ++ (its out ++ others)) u
      (Contains-append_right (run_tie ∷ []) (its out ++ others) u (Contains-append_right (its out) others u listed)))))
  from_piece out t (inr (inr (inr (inr supply)))) = Contains-append_right (within 0 (dot_ties (pieces out))) (all_supply_ties types env ns) t supply

  pub in_open : (t : Tie) → Piece (child_out variable_child) t → Contains open_ties t
  in_open t it = from_piece (child_out variable_child) t it

  pub of_open : (t : Tie) → Contains open_ties t → Piece (child_out variable_child) t
  of_open t has = to_piece (child_out variable_child) t has

  -- from the one point to the other, and back
  abbrev opened : Dot → Dot
  opened (Within zero (Node q h)) = if nat_eq q j then Within 0 (Of (ResultEnd 1)) else Within 0 (Node q h)
  opened d = d

  abbrev closed : Dot → Dot
  closed (Within zero (Of (ResultEnd h))) = if nat_eq h 1 then Within 0 (Node j 0) else Within 0 (Of (ResultEnd h))
  closed d = d

  behind : (q : ℕ) → suc j ≤ q → nat_eq q j ≡ false
  behind q le = ne_eqb q j (λ e. let same : q ≡ j = e in omega (arith, same, le))

  -- of a tie of a Share or of a supply nothing moves
  module _ (move : Dot → Dot) (out away : List Point)
      (inner : (p : Place) (h k : ℕ) (a : ℕ) (x : Numbered) → suc j ≤ k → IsWithin types a k x 0 p h → move (Within 0 (dot_of_place p h)) ≡ Within 0 (dot_of_place p h))
      (below : (q : ℕ) (d : Dot) → move (Within (suc q) d) ≡ Within (suc q) d) (number : (q h : ℕ) → move (Within 0 (Number q h)) ≡ Within 0 (Number q h)) where
    abbrev Moved : Tie → Type 0
    Moved t = Way (all away) (move t.one) (move t.other)

    still : (t : Tie) → Contains (all away) t → move t.one ≡ t.one → move t.other ≡ t.other → Moved t
    still t has one other =
        subst (λ (d : Dot). Way (all away) d (move t.other)) (sym one) (subst (λ (d : Dot). Way (all away) t.one d) (sym other) (way_by_tie (all away) t.one t.other has))

    supply_still : (t : Tie) → Contains (all_supply_ties types env ns) t → Moved t
    supply_still t has =
        let (q, uses, there) = of_supplies types env ns t has in
        let listed = from_piece away t (inr (inr (inr (inr has)))) in
        elim (of_supply types env q t there) [
          | inl joins ↦
              (let (x, known, at) = joins in
              still t listed (subst (λ (u : Tie). move u.one ≡ u.one) at (below q (Of x.asking))) (subst (λ (u : Tie). move u.other ≡ u.other) at (below q (Of x.serving))))
          | inr result ↦
              (let (h, low, at) = result in
              still t listed (subst (λ (u : Tie). move u.one ≡ u.one) at (number q h)) (subst (λ (u : Tie). move u.other ≡ u.other) at (below q (Of (ResultEnd h)))))
        ]

    -- the Shares are those of a node that has no more
    abbrev bare : Numbered
    bare = Closed Com ss terms.Skip

    share_moves : (t : Tie) → Shares t → Moved t
    share_moves t share =
        let (u, listed, same) = tie_of (shares_ties i ss types) t share in
        moved_tie move types i (suc j) bare [] [] refl (λ p h it. bare_moves p h it) (all away) (λ x has. bare_in x has) t
        (subst (Contains (led_ties types i (suc j) bare [])) same (tie_in (ties_of types i (suc j) bare []) u (Contains-append_left (shares_ties i ss types) [] u listed)))
      where
        bare_moves : (p : Place) (h : ℕ) → IsWithin types i (suc j) bare 0 p h → move (lying types i (suc j) bare [] p h) ≡ lying types i (suc j) bare [] p h
        bare_moves (places.Part q) h it = inner (places.Part q) h (suc j) i bare (omega arith) it
        bare_moves (places.Import q) h it = absurd it
        bare_moves places.Result h it = absurd (omega (arith, it))
        bare_moves (places.Number q) h it = inner (places.Number q) h (suc j) i bare (omega arith) it
        bare_moves (places.Node q) h it = inner (places.Node q) h (suc j) i bare (omega arith) it

        bare_in : (x : Tie) → Contains (led_ties types i (suc j) bare []) x → Contains (all away) x
        bare_in x has =
            let (u, listed, same) = tie_of (ties_of types i (suc j) bare []) x has in
            elim (Contains-append_cases (shares_ties i ss types) [] u listed) [
              | inl own ↦ from_piece away x (inl (subst Shares same (tie_in (shares_ties i ss types) u own)))
              | inr none ↦ absurd (let lt = none.1 in omega (arith, lt))
            ]

    module _ (long : length away ≡ length out) (two : length out ≡ 2) (run_one : move (Within 0 (Of (ResultEnd 0))) ≡ Within 0 (Of (ResultEnd 0)))
        (part : (q h : ℕ) → move (Within 0 (Of (PartEnd q h))) ≡ Within 0 (Of (PartEnd q h)))
        (results : (h : ℕ) → h < 2
        → move (lying types (i + (length ss + 1)) (suc j) m out places.Result h) ≡ lying types (i + (length ss + 1)) (suc j) m away places.Result h) where
      variable_moves : (p : Place) (h : ℕ) → IsWithin types (i + (length ss + 1)) (suc j) m (length out) p h
          → move (lying types (i + (length ss + 1)) (suc j) m out p h) ≡ lying types (i + (length ss + 1)) (suc j) m away p h
      variable_moves (places.Part q) h it = part q h
      variable_moves (places.Import q) h it = absurd it
      variable_moves places.Result h it = results h (omega (arith, it, two))
      variable_moves (places.Number q) h it = number q h
      variable_moves (places.Node q) h it = inner (places.Node q) h (suc j) (i + (length ss + 1)) m (omega arith) it

      number_moves : (p : Place) (h : ℕ) → IsWithin types (i + (length ss + 1 + length (parts_of types m))) (suc j + nodes m) n 1 p h
          → move (lying types (i + (length ss + 1 + length (parts_of types m))) (suc j + nodes m) n number_out p h)
          ≡ lying types (i + (length ss + 1 + length (parts_of types m))) (suc j + nodes m) n number_out p h
      number_moves (places.Part q) h it = part q h
      number_moves (places.Import q) h it = absurd it
      number_moves places.Result zero it = part (i + length ss) 0
      number_moves places.Result (suc h) it = absurd (omega (arith, it))
      number_moves (places.Number q) h it = number q h
      number_moves (places.Node q) h it = inner (places.Node q) h (suc j + nodes m) (i + (length ss + 1 + length (parts_of types m))) n (omega arith) it

      piece_moves : (t : Tie) → Piece out t → Moved t
      piece_moves t (inl share) = share_moves t share
      piece_moves t (inr (inl run)) =
          still t (from_piece away t (inr (inl run))) (subst (λ (u : Tie). move u.one ≡ u.one) run run_one) (subst (λ (u : Tie). move u.other ≡ u.other) run (part (i + length ss) 2))
      piece_moves t (inr (inr (inl first))) =
          moved_tie move types (i + (length ss + 1)) (suc j) m out away long variable_moves (all away) (λ x has. from_piece away x (inr (inr (inl has)))) t first
      piece_moves t (inr (inr (inr (inl second)))) =
          moved_tie move types (i + (length ss + 1 + length (parts_of types m))) (suc j + nodes m) n number_out number_out refl number_moves (all away)
          (λ x has. from_piece away x (inr (inr (inr (inl has))))) t second
      piece_moves t (inr (inr (inr (inr supply)))) = supply_still t supply

      way_moves : (a b : Dot) → Way (all out) a b → Way (all away) (move a) (move b)
      way_moves a b way = mapped_way (all out) (all away) move (λ t has. piece_moves t (to_piece out t has)) a b way

  open_inner : (p : Place) (h k : ℕ) (a : ℕ) (x : Numbered) → suc j ≤ k → IsWithin types a k x 0 p h → opened (Within 0 (dot_of_place p h)) ≡ Within 0 (dot_of_place p h)
  open_inner (places.Part q) h k a x le it = refl
  open_inner (places.Import q) h k a x le it = refl
  open_inner places.Result h k a x le it = refl
  open_inner (places.Number q) h k a x le it = refl
  open_inner (places.Node q) h k a x le it =
      let low = it.0 in ap (λ (b : Bool). if b then Within 0 (Of (ResultEnd 1)) else Within 0 (Node q h)) (behind q (omega (arith, le, low)))

  open_results : (h : ℕ) → h < 2
      → opened (lying types (i + (length ss + 1)) (suc j) m read_out places.Result h) ≡ lying types (i + (length ss + 1)) (suc j) m (child_out variable_child) places.Result h
  open_results zero lt = ap (λ (b : Bool). if b then Within 0 (Of (ResultEnd 1)) else Within 0 (Node j 0)) (eq-eqb j j refl)
  open_results (suc zero) lt = refl
  open_results (suc (suc h)) lt = absurd (omega (arith, lt))

  close_inner : (p : Place) (h k : ℕ) (a : ℕ) (x : Numbered) → suc j ≤ k → IsWithin types a k x 0 p h → closed (Within 0 (dot_of_place p h)) ≡ Within 0 (dot_of_place p h)
  close_inner (places.Part q) h k a x le it = refl
  close_inner (places.Import q) h k a x le it = refl
  close_inner places.Result h k a x le it = absurd (omega (arith, it))
  close_inner (places.Number q) h k a x le it = refl
  close_inner (places.Node q) h k a x le it = refl

  close_results : (h : ℕ) → h < 2
      → closed (lying types (i + (length ss + 1)) (suc j) m (child_out variable_child) places.Result h) ≡ lying types (i + (length ss + 1)) (suc j) m read_out places.Result h
  close_results zero lt = refl
  close_results (suc zero) lt = refl
  close_results (suc (suc h)) lt = absurd (omega (arith, lt))

  opens : (a b : Dot) → Way (all read_out) a b → Way open_ties (opened a) (opened b)
  opens = way_moves opened read_out (child_out variable_child) open_inner (λ q d. refl) (λ q h. refl) refl refl refl (λ q h. refl) open_results

  closes : (a b : Dot) → Way open_ties a b → Way (all read_out) (closed a) (closed b)
  closes = way_moves closed (child_out variable_child) read_out close_inner (λ q d. refl) (λ q h. refl) refl refl refl (λ q h. refl) close_results

  module _ (pl : Placing) (r : Plan) (outcome : r.outcome ≡ Com) where
    open_at : (e : End) → opened (dot_at i pl e) ≡ dot_at i pl e
    open_at (PartEnd k h) = by_source (pl.source k)
      where
        by_source : (s : Source) → opened (source_dot i s h) ≡ source_dot i s h
        by_source (Own x) = refl
        by_source (Supplied q x) = refl
    open_at (ImportEnd k h) = refl
    open_at (ResultEnd h) = refl

    close_at : (e : End) (k : Contact) → contact_at r e ≡ Some k → closed (dot_at i pl e) ≡ dot_at i pl e
    close_at (PartEnd q h) k at = by_source (pl.source q)
      where
        by_source : (s : Source) → closed (source_dot i s h) ≡ source_dot i s h
        by_source (Own x) = refl
        by_source (Supplied q x) = refl
    close_at (ImportEnd q h) k at = refl
    close_at (ResultEnd zero) k at = refl
    close_at (ResultEnd (suc h)) k at =
        absurd (none-some k (sym (ap (λ (t : Type'). turned_if (slice_get (contacts_of t) (suc h))) outcome) ∙ at))

    pub open_web : IsOfWeb (record { ties = wired_ties types i j node ns env; at = dot_at i pl }) r → IsOfWeb (record { ties = open_ties; at = dot_at i pl }) r
    open_web web =
        same_ways (record { ties = wired_ties types i j node ns env; at = dot_at i pl }) (record { ties = open_ties; at = dot_at i pl }) r
        (λ a b c d at_a at_b. (to a b c d at_a at_b, back a b c d at_a at_b)) web
      where
        same_ties : wired_ties types i j node ns env ≡ all read_out
        same_ties = ap (λ (us : List point_ties.Tie). within 0 (dot_ties us) ++ all_supply_ties types env ns) wiring_is

        to : (a b : End) (c d : Contact) → contact_at r a ≡ Some c → contact_at r b ≡ Some d → Way (wired_ties types i j node ns env) (dot_at i pl a) (dot_at i pl b)
            → Way open_ties (dot_at i pl a) (dot_at i pl b)
        to a b c d at_a at_b way =
            subst (λ (x : Dot). Way open_ties x (dot_at i pl b)) (open_at a)
            (subst (λ (x : Dot). Way open_ties (opened (dot_at i pl a)) x) (open_at b)
            (opens (dot_at i pl a) (dot_at i pl b) (subst (λ (us : List Tie). Way us (dot_at i pl a) (dot_at i pl b)) same_ties way)))

        back : (a b : End) (c d : Contact) → contact_at r a ≡ Some c → contact_at r b ≡ Some d → Way open_ties (dot_at i pl a) (dot_at i pl b)
            → Way (wired_ties types i j node ns env) (dot_at i pl a) (dot_at i pl b)
        back a b c d at_a at_b way =
            subst (λ (us : List Tie). Way us (dot_at i pl a) (dot_at i pl b)) (sym same_ties)
            (subst (λ (x : Dot). Way (all read_out) x (dot_at i pl b)) (close_at a c at_a)
            (subst (λ (x : Dot). Way (all read_out) (closed (dot_at i pl a)) x) (close_at b d at_b)
            (closes (dot_at i pl a) (dot_at i pl b) way)))
