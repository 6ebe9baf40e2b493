-- The own part of a wired fork: where it stands, and the joint at which it is run.
use Rattle.std.specs.Prelude.{◌≡◌, ℕ, zero, suc, ◌+◌, List, ◌∷◌, ◌++◌, Option, Some, Contains, length, slice_get}
use Rattle.std.proofs.Common.{refl, sym, ◌∙◌, ap, subst, arith, inl}
use Rattle.std.proofs.lemmas.List.Elements.{Contains-append_left, Contains-append_right}
use Rattle.gos_types.specs.Types.{Type', IsDone}
use Rattle.gos_types.proofs.ListLemmas.{found_behind}
use Rattle.gos_check.specs.declared.linear.Split.{Split}
use Rattle.gos_check.specs.Nodes.{Numbered, type_of_node}
use Rattle.gos_plan.specs.Kinds.{serves, Part, contacts_of, part_contacts}
use Rattle.gos_plan.specs.Plans.{PartEnd, ResultEnd, Plan, contacts_of_part, turned_if}
use Rattle.gos_realises.specs.realises.Regular.{count}
use Rattle.gos_realises.proofs.realises.CountLemmas.{done_count}
use Rattle.gos_ties.specs.declared.points.Place.{Place}
use Rattle.gos_ties.specs.declared.points.Place.TheVariants as places
use Rattle.gos_ties.specs.declared.points.Tie as point_ties
use Rattle.gos_ties.specs.Ties as points
use Rattle.gos_ties.specs.Ties.{point}
use Rattle.gos_joining.specs.webs.Webs.{Dot, Of, Within, Tie, tie, Way, here, along, joint}
use Rattle.gos_joining.specs.unions.Unions.{within}
use Rattle.gos_joining.proofs.unions.UnionLemmas.{in_image}
use Rattle.gos_nodes.proofs.windows.AskedLemmas.{done_contact}
use Rattle.gos_nodes.specs.sessions.Sessions.{Form, Sequence, Choice, Loop, Binary, Complement, bits, own_part, own_type, run_shake}
use Rattle.gos_compile.specs.Wiring.{Types, row, led, shares, shares_ties, parts_of, ties_of}
use Rattle.gos_terms.specs.wired.Wired.{Supplies, Source, Own, Placing, IsWired, source_dot, dot_of, dot_ties, all_supply_ties, wired_ties}
use Rattle.gos_terms.proofs.stages.ContactLemmas.{shares_length}
use Rattle.gos_terms.specs.run_children.Forks.{Branch, IsFork, branch_parts, branch_ties}

-- the own part of a form serves its last handshake
run_contact : (f : Form) → slice_get (part_contacts (own_part f)) (run_shake (own_part f)) ≡ Some (serves 0 (bits (own_type f)))
run_contact (Sequence t m n) = refl
run_contact (Choice t m n p) = refl
run_contact (Loop m n) = refl
run_contact (Binary op w m n) = refl
run_contact (Complement w m) = refl

-- the first of one point that is led
led_first : (n : ℕ) (place : Place) (h : ℕ) → n ≡ 1 → Contains (led (row places.Result 0 n) place h) (points.tie (point places.Result 0) (point place h))
led_first zero place h e = absurd (omega (arith, e))
led_first (suc n) place h e = (0, omega arith, refl)

module _ (f : Form) (types : Types) (i j : ℕ) (m : Numbered) (ss : List Split) (bs : List Branch) (ns : List ℕ) (env : Supplies) (pl : Placing) (r : Plan)
    (fork : IsFork types m ss (own_part f) bs) (same : own_type f ≡ type_of_node m) (w : IsWired types i j m ns env pl r) where
  abbrev own_number : ℕ
  own_number = pl.own (length ss)

  abbrev its_ties : List Tie
  its_ties = wired_ties types i j m ns env

  pub done : IsDone (own_type f)
  done = subst IsDone (sym same) fork.outcome

  own_at : slice_get (parts_of types m) (length ss) ≡ Some (own_part f)
  own_at =
      ap (λ (xs : List Part). slice_get xs (length ss)) fork.parts
      ∙ (ap (λ (k : ℕ). slice_get (shares ss types ++ own_part f ∷ branch_parts types bs) k) long
      ∙ found_behind (shares ss types) (own_part f ∷ branch_parts types bs) 0)
    where
      long : length ss ≡ length (shares ss types) + 0
      long = let sum = shares_length types ss in omega (arith, sum)

  pub own_there : slice_get r.parts own_number ≡ Some (own_part f)
  own_there = (w.parts (own_part f) (Own (length ss)) own_at).0

  own_source : pl.source own_number ≡ Own (length ss)
  own_source = (w.parts (own_part f) (Own (length ss)) own_at).1

  run_number : length bs ≡ run_shake (own_part f)
  run_number = let sum = fork.shakes in omega (arith, sum)

  pub outcome : r.outcome ≡ own_type f
  outcome = w.outcome ∙ sym same

  -- the tie at which it is run
  abbrev run_tie : Tie
  run_tie = tie (Within 0 (Of (ResultEnd 0))) (Within 0 (Of (PartEnd (i + length ss) (length bs))))

  run_tied : Contains its_ties run_tie
  run_tied =
      Contains-append_left (within 0 (dot_ties its_points)) (all_supply_ties types env ns) run_tie
      (in_image (λ (t : Tie). tie (Within 0 t.one) (Within 0 t.other)) (dot_ties its_points) (tie (Of (ResultEnd 0)) (Of (PartEnd (i + length ss) (length bs))))
      (in_image (λ (t : point_ties.Tie). tie (dot_of t.one) (dot_of t.other)) its_points
      (points.tie (point places.Result 0) (point (places.Part (i + length ss)) (length bs))) listed))
    where
      its_points : List point_ties.Tie
      its_points = ties_of types i j m (row places.Result 0 (count (type_of_node m)))

      listed : Contains its_points (points.tie (point places.Result 0) (point (places.Part (i + length ss)) (length bs)))
      listed =
          subst (λ (us : List point_ties.Tie). Contains us (points.tie (point places.Result 0) (point (places.Part (i + length ss)) (length bs))))
          (sym (fork.ties i j (row places.Result 0 (count (type_of_node m)))))
          (Contains-append_right (shares_ties i ss types)
          (led (row places.Result 0 (count (type_of_node m))) (places.Part (i + length ss)) (length bs)
          ++ branch_ties types (i + length ss) 0 (i + length ss + 1) (suc j) bs)
          (points.tie (point places.Result 0) (point (places.Part (i + length ss)) (length bs)))
          (Contains-append_left (led (row places.Result 0 (count (type_of_node m))) (places.Part (i + length ss)) (length bs))
          (branch_ties types (i + length ss) 0 (i + length ss + 1) (suc j) bs)
          (points.tie (point places.Result 0) (point (places.Part (i + length ss)) (length bs)))
          (led_first (count (type_of_node m)) (places.Part (i + length ss)) (length bs) (done_count (type_of_node m) fork.outcome))))

  pub run_joint : Contains r.joints (joint (ResultEnd 0) (PartEnd own_number (run_shake (own_part f))))
  run_joint =
      (w.web.joints (ResultEnd 0) (PartEnd own_number (run_shake (own_part f)))).1 (
        0,
        bits (own_type f),
        ap (λ (t : Type'). turned_if (slice_get (contacts_of t) 0)) outcome ∙ done_contact (own_type f) done,
        ap (λ (k : Option Part). slice_get (contacts_of_part k) (run_shake (own_part f))) own_there ∙ run_contact f,
        subst (λ (d : Dot). Way its_ties (Within 0 (Of (ResultEnd 0))) d) run_dot
            (along (Within 0 (Of (ResultEnd 0))) (Within 0 (Of (PartEnd (i + length ss) (length bs)))) (Within 0 (Of (PartEnd (i + length ss) (length bs))))
            (inl run_tied) (here (Within 0 (Of (PartEnd (i + length ss) (length bs)))))),
      )
    where
      run_dot : Within 0 (Of (PartEnd (i + length ss) (length bs))) ≡ source_dot i (pl.source own_number) (run_shake (own_part f))
      run_dot =
          ap (λ (h : ℕ). Within 0 (Of (PartEnd (i + length ss) h))) run_number
          ∙ ap (λ (o : Source). source_dot i o (run_shake (own_part f))) (sym own_source)
