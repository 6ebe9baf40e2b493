-- A number that is used: the plan of its supply, at the supply's own dots.
use Rattle.std.specs.Prelude.{◌≡◌, ℕ, zero, suc, ◌+◌, ◌<◌, List, [], Option, Some, None, Contains, slice_get}
use Rattle.std.proofs.Common.{refl, subst, arith, inl}
use Rattle.gos_types.specs.Types.{Type'}
use Rattle.gos_check.specs.Nodes.{Use}
use Rattle.gos_plan.specs.Kinds.{Part}
use Rattle.gos_plan.specs.Plans.{PartEnd, ImportEnd, ResultEnd, IsRight}
use Rattle.gos_ties.specs.declared.points.Place.TheVariants as places
use Rattle.gos_ties.specs.declared.points.Tie as point_ties
use Rattle.gos_realises.specs.realises.Regular.{count}
use Rattle.gos_joining.specs.webs.Webs.{Dot, Of, Number, Node, Within, Tie, tie, Web, Way, here, along, own_web}
use Rattle.gos_joining.proofs.webs.WebLemmas.{right_is_of_its_web}
use Rattle.gos_joining.proofs.webs.WayLemmas.{one_way}
use Rattle.gos_compile.specs.Wiring.{Types, row, led}
use Rattle.gos_terms.specs.wired.Wired.{dot_of, Supplies, Source, Own, Supplied, Origin, IsFrom, source_dot, wired_ties}
use Rattle.gos_supplies.specs.unjoined.Homes.{AreHome}
use Rattle.gos_terms.specs.leaves.Leaves.{UseIsRealised}
use Rattle.gos_terms.proofs.leaves.TieLemmas.{if_number, same_number, other_number, row_tie, of_row, in_row, own_tie, inner_tie, outer_tie, by_tie, result_is_there}
use Rattle.gos_terms.proofs.leaves.SupplyLemmas.{import_by, part_is, import_is, other_one, both_home}
use Rattle.gos_terms.proofs.leaves.LeafLemmas.{Leaf, leaf_realises}

-- what comes from the supply of n
abbrev pub supplied_by : ℕ → Source → Option ℕ
supplied_by n (Own k) = None
supplied_by n (Supplied m k) = if_number m n k

-- The dots of the supply of n. The result's handshakes and the number's are those of the supply's result.
abbrev home_own : ℕ → Dot → Option Dot
home_own n (Of (PartEnd i h)) = None
home_own n (Of (ImportEnd i h)) = None
home_own n (Of (ResultEnd h)) = Some (Of (ResultEnd h))
home_own n (Number m h) = if_number m n (Of (ResultEnd h))
home_own n (Node j h) = None
home_own n (Within k d) = None

abbrev home : ℕ → Dot → Option Dot
home n (Of e) = None
home n (Number m h) = None
home n (Node j h) = None
home n (Within zero d) = home_own n d
home n (Within (suc m) d) = if_number m n d

module _ (types : Types) (i j n : ℕ) (t : Type') (ns : List ℕ) (env : Supplies) (has : Contains ns n) (same : t ≡ types n)
    (right : IsRight (env n).plan) (outcome : (env n).plan.outcome ≡ t)
  where
    abbrev v : Web
    v = own_web (env n).plan

    abbrev w_ties : List Tie
    w_ties = wired_ties types i j (Use t [] n) ns env

    own : (s : point_ties.Tie) → Contains (led (row places.Result 0 (count t)) (places.Number n) 0) s
        → AreHome v (home n (Within 0 (dot_of s.one))) (home n (Within 0 (dot_of s.other)))
    own s among = by_row (of_row places.Result (places.Number n) 0 0 (count t) s among)
      where
        by_row : (k : ℕ) × (k < count t) × (row_tie places.Result (places.Number n) 0 0 k ≡ s)
            → AreHome v (home n (Within 0 (dot_of s.one))) (home n (Within 0 (dot_of s.other)))
        by_row (k, small, e) =
            subst (λ (u : point_ties.Tie). AreHome v (home n (Within 0 (dot_of u.one))) (home n (Within 0 (dot_of u.other)))) e
            (both_home v n n (Of (ResultEnd (0 + k))) (Of (ResultEnd (0 + k))) (Some (Of (ResultEnd (0 + k)))) (if_number n n (Of (ResultEnd (0 + k))))
            (λ e. (refl, same_number n n (Of (ResultEnd (0 + k))) refl, here (Of (ResultEnd (0 + k)))))
            (λ other. absurd (other refl)))

    inner : (k : ℕ) → Contains ns k → (s : Tie) → Contains (own_web (env k).plan).ties s
        → AreHome v (if_number k n s.one) (if_number k n s.other)
    inner k among s there =
        both_home v n k s.one s.other (if_number k n s.one) (if_number k n s.other)
        (λ e. (
          same_number k n s.one e,
          same_number k n s.other e,
          one_way v.ties s.one s.other (inl (subst (λ (m : ℕ). Contains (own_web (env m).plan).ties s) e there)),
        ))
        (λ e. (other_number k n s.one e, other_number k n s.other e))

    outer : (k h : ℕ) → Contains ns k → AreHome v (if_number k n (Of (ResultEnd h))) (if_number k n (Of (ResultEnd h)))
    outer k h among =
        both_home v n k (Of (ResultEnd h)) (Of (ResultEnd h)) (if_number k n (Of (ResultEnd h))) (if_number k n (Of (ResultEnd h)))
        (λ e. (same_number k n (Of (ResultEnd h)) e, same_number k n (Of (ResultEnd h)) e, here (Of (ResultEnd h))))
        (λ e. (other_number k n (Of (ResultEnd h)) e, other_number k n (Of (ResultEnd h)) e))

    parts_back : (s : Source) (x : Part) (k : ℕ) → IsFrom [] ns env x s → supplied_by n s ≡ Some k
        → (Supplied n k ≡ s) × (slice_get (env n).plan.parts k ≡ Some x)
    parts_back (Own m) x k from picked = absurd (cc picked)
    parts_back (Supplied m l) x k (among, from) picked = part_is env n m l k x from picked

    part_loose : (s : Source) (h : ℕ) (x : Part) → IsFrom [] ns env x s → supplied_by n s ≡ None → home n (source_dot i s h) ≡ None
    part_loose (Own k) h x from none = refl
    part_loose (Supplied m k) h x from none = other_number m n (Of (PartEnd k h)) (other_one m n k none)

    import_loose : (o : Origin) (h : ℕ) → import_by n o ≡ None → home n (Within (suc o.number) (Of (ImportEnd o.import h))) ≡ None
    import_loose o h none = other_number o.number n (Of (ImportEnd o.import h)) (other_one o.number n o.import none)

    -- from the result to the number, and to the supply's result
    result_out : (h : ℕ) → h < count t → Way w_ties (Within 0 (Of (ResultEnd h))) (Within (suc n) (Of (ResultEnd h)))
    result_out h small =
        let zeros : 0 + h ≡ h = omega arith in
        along (Within 0 (Of (ResultEnd h))) (Within 0 (Number n h)) (Within (suc n) (Of (ResultEnd h)))
        (inl (subst (λ (k : ℕ). Contains w_ties (tie (Within 0 (Of (ResultEnd k))) (Within 0 (Number n k)))) zeros
        (own_tie types i j (Use t [] n) ns env (row_tie places.Result (places.Number n) 0 0 h)
        (in_row places.Result (places.Number n) 0 0 (count t) h small))))
        (one_way w_ties (Within 0 (Number n h)) (Within (suc n) (Of (ResultEnd h)))
        (inl (outer_tie types i j (Use t [] n) ns env n h has (subst (λ (u : Type'). h < count u) same small))))

    pub use_leaf : Leaf types i j (Use t [] n) ns env (env n).plan (own_web (env n).plan)
    use_leaf =
        record {
          pick = supplied_by n;
          source = λ k. Supplied n k;
          pick_import = import_by n;
          origin = λ k. record { number = n; import = k };
          home = home n;
          out = λ d. Within (suc n) d;
          outcome = outcome;
          of_web = right_is_of_its_web (env n).plan right;
          parts = λ k x at. ((has, at), same_number n n k refl);
          parts_back = parts_back;
          imports = λ k x at. (has, at, same_number n n k refl);
          imports_back = import_is env n;
          ties = by_tie types i j (Use t [] n) ns env (λ a b. AreHome v (home n a) (home n b)) own inner outer;
          part_home = λ k h x at. same_number n n (Of (PartEnd k h)) refl;
          import_home = λ k h x at. same_number n n (Of (ImportEnd k h)) refl;
          result_home = λ h. refl;
          part_loose = part_loose;
          import_loose = import_loose;
          out_ties = λ s there. one_way w_ties (Within (suc n) s.one) (Within (suc n) s.other) (inl (inner_tie types i j (Use t [] n) ns env n has s there));
          part_out = λ k h x at. here (Within (suc n) (Of (PartEnd k h)));
          import_out = λ k h x at. here (Within (suc n) (Of (ImportEnd k h)));
          result_out = λ h k at. result_out h (subst (λ (u : Type'). h < count u) outcome (result_is_there (env n).plan h k at));
        }

pub use_is_realised : UseIsRealised
use_is_realised types i j n t ns env pl r is has same literals ground names realised =
    leaf_realises types i j (Use t [] n) ns env (env n).plan (own_web (env n).plan)
    (use_leaf types i j n t ns env has same realised.suits.right realised.suits.outcome) pl r is t (env n).term literals ground names realised
