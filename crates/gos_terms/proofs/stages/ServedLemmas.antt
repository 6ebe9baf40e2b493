-- The Shares that serve a child, split by split.
use Rattle.std.specs.Prelude.{◌+◌, ◌<◌, length, nat_eq, slice_get, None, Contains}
use Rattle.std.proofs.Common.{◌≡◌, ℕ, zero, suc, Bool, true, false, List, [], ◌∷◌, Option, Some, inl, inr, refl, sym, ◌∙◌, ap, subst, arith, if◌then◌else◌}
use Rattle.std.proofs.lemmas.List.Elements.{Contains-append_cases}
use Rattle.std.proofs.lemmas.Bool.{eq-eqb}
use Rattle.gos_types.specs.Types.{Type'}
use Rattle.gos_check.specs.declared.linear.Split.{Split}
use Rattle.gos_plan.specs.Kinds.{Share}
use Rattle.gos_plan.specs.Plans.{PartEnd}
use Rattle.gos_realises.specs.realises.Regular.{count}
use Rattle.gos_joining.specs.webs.Webs.{Of, Within}
use Rattle.gos_nodes.specs.windows.Regions.{Serving}
use Rattle.gos_compile.specs.Wiring.{Types, shares}
use Rattle.gos_terms.specs.wired.Wired.{Own, Placing, source_dot}
use Rattle.gos_terms.specs.stages.Lodging.{Spot, spot, spot_if, Lodging, live, first_lodging, seen_from, side_number, serves_side, moved_spot, moved, share_spot, one_lodging, lodging}
use Rattle.gos_terms.specs.stages.Folding.{serving_if, servings}
use Rattle.gos_terms.specs.stages.Served.{ServingsServe}
use Rattle.gos_terms.proofs.stages.HomeLemmas.{plainly}
use Rattle.gos_terms.proofs.stages.LodgingLemmas.{seen}

module _ (types : Types) (inner : ℕ → Bool) where
  -- what a dot of a Share stands for stays, or stays nothing
  abbrev Rests : Option Spot → Option Spot → Type 0
  Rests None b = b ≡ None
  Rests (Some y) b = (z : Spot) × (b ≡ Some z)

  rests_moved : (s : Split) (b : Option ℕ) (k : ℕ) (a o : Option Spot) → Rests o a → Rests o (moved s b k a)
  rests_moved s None k a o it = it
  rests_moved s (Some c) k a None it = ap (moved s (Some c) k) it
  rests_moved s (Some c) k a (Some y) (z, at) =
      (moved_spot (nat_eq z.number s.of) (side_number s c) k z, ap (moved s (Some c) k) at)

  final_rests : (i : ℕ) (ss : List Split) (q x : ℕ) → q ≡ i + x → (l : Lodging) (y h : ℕ) → y < x → (o : Option Spot) → Rests o (l.home (source_dot i (Own y) h))
      → Rests o ((lodging types q x inner ss l).home (source_dot i (Own y) h))
  final_rests i [] q x at_q l y h lt o it = it
  final_rests i (s ∷ ss) q x at_q l y h lt o it =
      final_rests i ss (suc q) (suc x) (omega (arith, at_q)) (one_lodging types q x s (seen types inner ss s) l) y h (omega (arith, lt)) o
      (subst (Rests o) (sym (plainly q (count (types s.of)) (length (l.env s.of).plan.parts) s ss (seen types inner ss s) l.home (source_dot i (Own y) h) (omega (arith, lt, at_q))))
      (rests_moved s (seen types inner ss s) (length (l.env s.of).plan.parts) (l.home (source_dot i (Own y) h)) o it))

  -- one of the Shares
  pub record IsSeen (i q : ℕ) (ss : List Split) (l : Lodging) (x : ℕ) (y : ℕ) (t : Type') (c : ℕ) : Type 0 where
    pub share : (z : ℕ) × (y ≡ x + z) × (slice_get (shares ss types) z ≡ Some (Share t))
    pub side : c < 2
    pub seen_at : (h : ℕ) → serves_side (count t) c h ≡ true → (z : Spot) × ((lodging types q x inner ss l).home (source_dot i (Own y) h) ≡ Some z)
    pub unseen : (h : ℕ) → serves_side (count t) c h ≡ false → (lodging types q x inner ss l).home (source_dot i (Own y) h) ≡ None

  pub of_serving : (part : ℕ) (t : Type') (b : Option ℕ) (n : Serving) → Contains (serving_if part t b) n → (c : ℕ) × (b ≡ Some c) × (record { part = part; ty = t; side = c } ≡ n)
  of_serving part t None n (k, lt, e) = absurd (omega (arith, lt))
  of_serving part t (Some c) n (zero, lt, e) = (c, refl, e)
  of_serving part t (Some c) n (suc k, lt, e) = absurd (omega (arith, lt))

  pub two_sides : (a b : Bool) (c : ℕ) → seen_from a b ≡ Some c → c < 2
  two_sides true b c e = let same : 0 ≡ c = cc e in omega (arith, same)
  two_sides false true c e = let same : 1 ≡ c = cc e in omega (arith, same)
  two_sides false false c e = let clash : None ≡ Some c = e in absurd (cc clash)

  final_seen : (i : ℕ) (pl : Placing) (ss : List Split) (q x : ℕ) → q ≡ i + x → (l : Lodging) (n : Serving) → Contains (servings types pl inner x ss) n
      → (y : ℕ) × (n.part ≡ pl.own y) × IsSeen i q ss l x y n.ty n.side
  final_seen i pl [] q x at_q l n (k, lt, e) = absurd (omega (arith, lt))
  final_seen i pl (s ∷ ss) q x at_q l n has =
      elim (Contains-append_cases (serving_if (pl.own x) (types s.of) (seen types inner ss s)) (servings types pl inner (suc x) ss) n has) [
        | inl own ↦ first (of_serving (pl.own x) (types s.of) (seen types inner ss s) n own)
        | inr rest ↦ later (final_seen i pl ss (suc q) (suc x) (omega (arith, at_q)) (one_lodging types q x s (seen types inner ss s) l) n rest)
      ]
    where
      at_share : (h : ℕ) (c : ℕ) → seen types inner ss s ≡ Some c → (r : ℕ) → r ≡ q
          → (one_lodging types q x s (seen types inner ss s) l).home (Within 0 (Of (PartEnd r h)))
          ≡ spot_if (serves_side (count (types s.of)) c h) (side_number s c) (PartEnd (length (l.env s.of).plan.parts) h)
      at_share h c sees r e =
          ap (λ (t : Bool). if t then share_spot (count (types s.of)) (length (l.env s.of).plan.parts) s (seen types inner ss s) h
          else moved s (seen types inner ss s) (length (l.env s.of).plan.parts) (l.home (Within 0 (Of (PartEnd r h))))) (eq-eqb r q e)
          ∙ ap (λ (b : Option ℕ). share_spot (count (types s.of)) (length (l.env s.of).plan.parts) s b h) sees

      rests : (h c : ℕ) → seen types inner ss s ≡ Some c → (b : Bool) → serves_side (count (types s.of)) c h ≡ b
          → Rests (spot_if b (side_number s c) (PartEnd (length (l.env s.of).plan.parts) h)) ((lodging types q x inner (s ∷ ss) l).home (source_dot i (Own x) h))
      rests h c sees b e =
          final_rests i ss (suc q) (suc x) (omega (arith, at_q)) (one_lodging types q x s (seen types inner ss s) l) x h (omega arith)
          (spot_if b (side_number s c) (PartEnd (length (l.env s.of).plan.parts) h)) (own b (at_share h c sees (i + x) (sym at_q) ∙ ap (λ (t : Bool). spot_if t (side_number s c) (PartEnd (length (l.env s.of).plan.parts) h)) e))
        where
          own : (b : Bool) → (one_lodging types q x s (seen types inner ss s) l).home (Within 0 (Of (PartEnd (i + x) h))) ≡ spot_if b (side_number s c) (PartEnd (length (l.env s.of).plan.parts) h)
              → Rests (spot_if b (side_number s c) (PartEnd (length (l.env s.of).plan.parts) h)) ((one_lodging types q x s (seen types inner ss s) l).home (source_dot i (Own x) h))
          own true e = (spot (side_number s c) (PartEnd (length (l.env s.of).plan.parts) h), e)
          own false e = e

      first : (c : ℕ) × (seen types inner ss s ≡ Some c) × (record { part = pl.own x; ty = types s.of; side = c } ≡ n)
          → (y : ℕ) × (n.part ≡ pl.own y) × IsSeen i q (s ∷ ss) l x y n.ty n.side
      first (c, sees, e) =
          subst (λ (m : Serving). (y : ℕ) × (m.part ≡ pl.own y) × IsSeen i q (s ∷ ss) l x y m.ty m.side) e (
            x,
            refl,
            record {
              share = (0, omega arith, refl);
              side = two_sides (live ss inner s.left) (live ss inner s.right) c sees;
              seen_at = λ h t. rests h c sees true t;
              unseen = λ h t. rests h c sees false t;
            },
          )

      later : (y : ℕ) × (n.part ≡ pl.own y) × IsSeen i (suc q) ss (one_lodging types q x s (seen types inner ss s) l) (suc x) y n.ty n.side
          → (y : ℕ) × (n.part ≡ pl.own y) × IsSeen i q (s ∷ ss) l x y n.ty n.side
      later (y, e, it) =
          (y, e, record { share = (suc it.share.0, omega (arith, it.share.1), it.share.2); side = it.side; seen_at = it.seen_at; unseen = it.unseen })

pub servings_serve : ServingsServe
servings_serve types i inner ss env ns pl n tidy has =
    let (y, e, it) = final_seen types inner i pl ss i 0 (omega arith) (first_lodging (live ss inner) env) n has in
    let same : it.share.0 ≡ y = omega (arith, it.share.1) in
    (y, e, record { share = subst (λ (m : ℕ). slice_get (shares ss types) m ≡ Some (Share n.ty)) same it.share.2; side = it.side; seen = it.seen_at; unseen = it.unseen })
