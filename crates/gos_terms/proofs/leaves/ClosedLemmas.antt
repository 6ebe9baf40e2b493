-- A node whose own part is its whole plan: `skip`, and a number.
use Rattle.std.specs.Prelude.{◌≡◌, ℕ, zero, suc, ◌+◌, ◌<◌, List, [], ◌∷◌, Option, Some, None, All, Contains, slice_get}
use Rattle.std.proofs.Common.{refl, sym, ◌∙◌, ap, subst, arith, inl}
use Rattle.gos_types.specs.Types.{Type', Com, Exp}
use Rattle.gos_model.specs.Terms as terms
use Rattle.gos_model.specs.Terms.{Term}
use Rattle.gos_check.specs.Nodes.{Closed}
use Rattle.gos_plan.specs.Kinds as kinds
use Rattle.gos_plan.specs.Kinds.{Part}
use Rattle.gos_plan.specs.Plans.{PartEnd, ImportEnd, ResultEnd, Plan, IsRight}
use Rattle.gos_plan.specs.TokenBits.{LiteralFits}
use Rattle.gos_ties.specs.declared.points.Place.TheVariants as places
use Rattle.gos_ties.specs.declared.points.Tie as point_ties
use Rattle.gos_realises.specs.realises.Regular.{count}
use Rattle.gos_realises.specs.realises.Wirings.{lone}
use Rattle.gos_realises.specs.realises.Realises.{AllPorts, NamesDiffer, Realises}
use Rattle.gos_joining.specs.webs.Webs.{Dot, Of, Number, Node, Within, Tie, Way, here, own_web}
use Rattle.gos_joining.proofs.webs.WebLemmas.{right_is_of_its_web}
use Rattle.gos_joining.proofs.webs.WayLemmas.{one_way}
use Rattle.gos_compile.specs.Wiring.{Types, row, led, closed_part}
use Rattle.gos_terms.specs.wired.Wired.{dot_of, Supplies, Source, Own, Supplied, Placing, IsFrom, source_dot, wired_ties, IsWired}
use Rattle.gos_supplies.specs.unjoined.Homes.{AreHome}
use Rattle.gos_supplies.proofs.literals.NumberLemmas.{literal_is_realised}
use Rattle.gos_supplies.proofs.literals.LeafLemmas.{done_is_realised}
use Rattle.gos_terms.specs.leaves.Leaves.{SkipIsRealised, LiteralIsRealised}
use Rattle.gos_terms.proofs.leaves.TieLemmas.{if_number, same_number, row_tie, of_row, in_row, own_tie, by_tie}
use Rattle.gos_terms.proofs.leaves.LeafLemmas.{Leaf, leaf_realises}

-- the node's first part alone
abbrev first_own : Source → Option ℕ
first_own (Own zero) = Some zero
first_own (Own (suc k)) = None
first_own (Supplied m k) = None

-- the dots of the part with this number, and of the result
abbrev home_own : ℕ → Dot → Option Dot
home_own p (Of (PartEnd q h)) = if_number q p (Of (PartEnd 0 h))
home_own p (Of (ImportEnd q h)) = None
home_own p (Of (ResultEnd h)) = Some (Of (ResultEnd h))
home_own p (Number m h) = None
home_own p (Node m h) = None
home_own p (Within m d) = None

abbrev home : ℕ → Dot → Option Dot
home p (Of e) = None
home p (Number m h) = None
home p (Node m h) = None
home p (Within zero d) = home_own p d
home p (Within (suc m) d) = None

abbrev out : ℕ → Dot → Dot
out i (Of (PartEnd k h)) = Within 0 (Of (PartEnd (i + k) h))
out i (Of (ImportEnd k h)) = Of (ImportEnd k h)
out i (Of (ResultEnd h)) = Within 0 (Of (ResultEnd h))
out i (Number m h) = Number m h
out i (Node m h) = Node m h
out i (Within m d) = Within m d

module _ (types : Types) (i j : ℕ) (t : Type') (m : Term) (ns : List ℕ) (env : Supplies) (kind : Part) (own_part : closed_part m ≡ kind ∷ [])
    (single : count t ≡ 1) (right : IsRight (lone kind 0 t))
  where
    abbrev v_ties : List Tie
    v_ties = (own_web (lone kind 0 t)).ties

    abbrev w_ties : List Tie
    w_ties = wired_ties types i j (Closed t [] m) ns env

    -- the one tie
    the_way : Way v_ties (Of (ResultEnd 0)) (Of (PartEnd 0 0))
    the_way = one_way v_ties (Of (ResultEnd 0)) (Of (PartEnd 0 0)) (inl (0, omega arith, refl))

    own : (s : point_ties.Tie) → Contains (led (row places.Result 0 (count t)) (places.Part (i + 0)) 0) s
        → AreHome (own_web (lone kind 0 t)) (home (i + 0) (Within 0 (dot_of s.one))) (home (i + 0) (Within 0 (dot_of s.other)))
    own s among = by_row (of_row places.Result (places.Part (i + 0)) 0 0 (count t) s among)
      where
        AtHome : point_ties.Tie → Type 0
        AtHome u = AreHome (own_web (lone kind 0 t)) (home (i + 0) (Within 0 (dot_of u.one))) (home (i + 0) (Within 0 (dot_of u.other)))

        first : AreHome (own_web (lone kind 0 t)) (Some (Of (ResultEnd 0))) (if_number (i + 0) (i + 0) (Of (PartEnd 0 0)))
        first =
            subst (λ (o : Option Dot). AreHome (own_web (lone kind 0 t)) (Some (Of (ResultEnd 0))) o)
            (sym (same_number (i + 0) (i + 0) (Of (PartEnd 0 0)) refl)) the_way

        by_number : (k h : ℕ) → k ≡ 0 → h ≡ 0
            → AreHome (own_web (lone kind 0 t)) (Some (Of (ResultEnd k))) (if_number (i + 0) (i + 0) (Of (PartEnd 0 h)))
        by_number k h e f =
            subst (λ (a : ℕ). AreHome (own_web (lone kind 0 t)) (Some (Of (ResultEnd a))) (if_number (i + 0) (i + 0) (Of (PartEnd 0 h)))) (sym e)
            (subst (λ (a : ℕ). AreHome (own_web (lone kind 0 t)) (Some (Of (ResultEnd 0))) (if_number (i + 0) (i + 0) (Of (PartEnd 0 a)))) (sym f) first)

        by_row : (k : ℕ) × (k < count t) × (row_tie places.Result (places.Part (i + 0)) 0 0 k ≡ s)
            → AreHome (own_web (lone kind 0 t)) (home (i + 0) (Within 0 (dot_of s.one))) (home (i + 0) (Within 0 (dot_of s.other)))
        by_row (k, small, e) =
            subst (λ (u : point_ties.Tie). AreHome (own_web (lone kind 0 t)) (home (i + 0) (Within 0 (dot_of u.one))) (home (i + 0) (Within 0 (dot_of u.other)))) e
            (by_number (0 + k) (0 + k) (omega (arith, small, single)) (omega (arith, small, single)))

    parts : (k : ℕ) (x : Part) → slice_get (kind ∷ []) k ≡ Some x → (slice_get (closed_part m) k ≡ Some x) × (first_own (Own k) ≡ Some k)
    parts zero x at = (ap (λ (ks : List Part). slice_get ks 0) own_part ∙ at, refl)
    parts (suc k) x at = absurd (cc at)

    parts_back : (s : Source) (x : Part) (k : ℕ) → IsFrom (closed_part m) ns env x s → first_own s ≡ Some k
        → (Own k ≡ s) × (slice_get (kind ∷ []) k ≡ Some x)
    parts_back (Own zero) x k from picked =
        let same : zero ≡ k = cc picked in
        (ap Own (sym same), subst (λ (a : ℕ). slice_get (kind ∷ []) a ≡ Some x) same (sym (ap (λ (ks : List Part). slice_get ks 0) own_part) ∙ from))
    parts_back (Own (suc l)) x k from picked = absurd (cc picked)
    parts_back (Supplied n l) x k from picked = absurd (cc picked)

    part_home : (k h : ℕ) (x : Part) → slice_get (kind ∷ []) k ≡ Some x → home (i + 0) (source_dot i (Own k) h) ≡ Some (Of (PartEnd k h))
    part_home zero h x at = same_number (i + 0) (i + 0) (Of (PartEnd 0 h)) refl
    part_home (suc k) h x at = absurd (cc at)

    part_loose : (s : Source) (h : ℕ) (x : Part) → IsFrom (closed_part m) ns env x s → first_own s ≡ None → home (i + 0) (source_dot i s h) ≡ None
    part_loose (Own zero) h x from none = absurd (cc none)
    part_loose (Own (suc l)) h x from none =
        let both : None ≡ Some x = sym (ap (λ (ks : List Part). slice_get ks (suc l)) own_part) ∙ from in absurd (cc both)
    part_loose (Supplied n l) h x from none = refl

    out_ties : (s : Tie) → Contains v_ties s → Way w_ties (out i s.one) (out i s.other)
    out_ties s (zero, small, e) =
        subst (λ (u : Tie). Way w_ties (out i u.one) (out i u.other)) e
        (one_way w_ties (Within 0 (Of (ResultEnd 0))) (Within 0 (Of (PartEnd (i + 0) 0)))
        (inl (own_tie types i j (Closed t [] m) ns env (row_tie places.Result (places.Part (i + 0)) 0 0 0)
        (in_row places.Result (places.Part (i + 0)) 0 0 (count t) 0 (omega (arith, single))))))
    out_ties s (suc k, small, e) = absurd (omega (arith, small))

    pub closed_leaf : Leaf types i j (Closed t [] m) ns env (lone kind 0 t) (own_web (lone kind 0 t))
    closed_leaf =
        record {
          pick = first_own;
          source = λ k. Own k;
          pick_import = λ o. None;
          origin = λ k. record { number = 0; import = 0 };
          home = home (i + 0);
          out = out i;
          outcome = refl;
          of_web = right_is_of_its_web (lone kind 0 t) right;
          parts = parts;
          parts_back = parts_back;
          imports = λ k x at. absurd (cc at);
          imports_back = λ o x k from picked. absurd (cc picked);
          ties = by_tie types i j (Closed t [] m) ns env (λ a b. AreHome (own_web (lone kind 0 t)) (home (i + 0) a) (home (i + 0) b)) own
              (λ k among s there. tt) (λ k h among. tt);
          part_home = part_home;
          import_home = λ k h x at. absurd (cc at);
          result_home = λ h. refl;
          part_loose = part_loose;
          import_loose = λ o h none. refl;
          out_ties = out_ties;
          part_out = λ k h x at. here (Within 0 (Of (PartEnd (i + k) h)));
          import_out = λ k h x at. absurd (cc at);
          result_out = λ h k at. here (Within 0 (Of (ResultEnd h)));
        }

    pub closed_realised : (pl : Placing) (r : Plan) → IsWired types i j (Closed t [] m) ns env pl r → All LiteralFits r.parts → AllPorts r.imports
        → NamesDiffer r.imports → Realises t (lone kind 0 t) m → Realises t r m
    closed_realised pl r is literals ground names realised =
        leaf_realises types i j (Closed t [] m) ns env (lone kind 0 t) (own_web (lone kind 0 t)) closed_leaf pl r is t m literals ground names realised

pub skip_is_realised : SkipIsRealised
skip_is_realised types i j ns env pl r is literals ground names =
    let done = done_is_realised 0 in
    closed_realised types i j Com terms.Skip ns env kinds.Skip refl refl done.suits.right pl r is literals ground names done

pub literal_wired : LiteralIsRealised
literal_wired types i j w k ns env pl r is width small literals ground names =
    let number = literal_is_realised 0 w k width small in
    closed_realised types i j (Exp w) (terms.Lit k w) ns env (kinds.Lit w k) refl refl number.suits.right pl r is literals ground names number
