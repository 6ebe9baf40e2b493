-- A function and its argument, joined, are regular where both are.
use Rattle.std.specs.Prelude.{ℕ, zero, suc, ◌+◌, ◌<◌, ◌≤◌, Bool, true, List, Some, All, slice_get}
use Rattle.std.proofs.Common.{◌≡◌, [], ◌∷◌, ◌⊎◌, inl, inr, refl, sym, ◌∙◌, ap, subst, arith}
use Rattle.std.proofs.lemmas.Option.{slice_get_within}
use Rattle.gos_types.specs.Types.{Type', Fun}
use Rattle.gos_types.specs.Events.{Direction}
use Rattle.gos_plan.specs.Kinds.{Contact, contacts_of, other_side}
use Rattle.gos_plan.specs.Plans.{ResultEnd, Plan}
use Rattle.gos_plan.specs.Tokens.{IsPortEnd, way_taken}
use Rattle.gos_plan.specs.TokenBits.{LiteralFits}
use Rattle.gos_plan.specs.Joining.{Place, place, Link, Linked}
use Rattle.gos_plan.proofs.SideLemmas.{functions_join}
use Rattle.gos_plan.proofs.AskingLemmas.{behind}
use Rattle.gos_realises.specs.realises.Regular.{Pass, pass, count, some_open, beyond, KeepsTurnsOf, IsRegular}
use Rattle.gos_realises.specs.realises.Wirings.{link, applying}
use Rattle.gos_supplies.specs.turns.Composed.{ApplyingIsRegular}
use Rattle.gos_supplies.proofs.turns.TrailLemmas.{LinksArePorts}
use Rattle.gos_supplies.proofs.turns.GoesLemmas.{IsTurned}
use Rattle.gos_joining.proofs.renumbered.TurnLemmas.{Agree, some_agree, turns_agree}
use Rattle.gos_supplies.proofs.turns.TypeLemmas.{Changed, still_busy, sides}
use Rattle.gos_supplies.proofs.turns.TurnedLemmas.{res, to_each, result_changed, in_result, fun_busy}
use Rattle.gos_supplies.proofs.turns.PassLemmas.{StandsForImport, StandsForArgument, IsPair, Composes, passes_turns}
use Rattle.gos_supplies.proofs.turns.LinkLemmas.{of_results, in_results}
use Rattle.gos_supplies.proofs.turns.WholeLemmas.{joining_is_regular}
use Rattle.gos_supplies.specs.turns.Rests.{Rests}
use Rattle.gos_supplies.specs.turns.Resting.{ApplyingRests}
use Rattle.gos_supplies.proofs.turns.JoinedRestLemmas.{joining_rests}

module _ (a b : Type') (p q r : Plan) (p_type : p.outcome ≡ Fun a b) (q_type : q.outcome ≡ a) where
  pub ported : LinksArePorts (applying a b p q)
  ported l has = let (h, low, high, same) = of_results 1 0 (count a) l has in subst (λ (x : Link). IsPortEnd x.one.end × IsPortEnd x.other.end) (sym same) (tt, tt)

  stands : StandsForArgument (applying a b p q) 0 p 1 q
  stands = (
    b,
    p_type ∙ ap (λ (t : Type'). Fun t b) (sym q_type),
    λ g low. (
      link 0 (ResultEnd g) 1 (ResultEnd g),
      in_results 1 0 (count a) g (omega arith) (let small : g < count a = subst (λ (t : Type'). g < count t) q_type low in omega (arith, small)),
      inl (refl, refl),
    ),
  )

  pair : (h : ℕ) → h < count a → IsPair (applying a b p q) (place 0 (ResultEnd h)) (place 1 (ResultEnd h))
  pair h low = (p, q, h, refl, refl, refl, subst (λ (t : Type'). h < count t) (sym q_type) low, inr (stands, refl))

  pairs : (c d : Place) → Linked (applying a b p q) c d → IsPair (applying a b p q) c d ⊎ IsPair (applying a b p q) d c
  pairs c d (l, has, ways) = of_link (of_results 1 0 (count a) l has) ways
    where
      of_link : (h : ℕ) × (0 ≤ h) × (h < 0 + count a) × (l ≡ link 0 (ResultEnd h) 1 (ResultEnd h)) → ((c ≡ l.one) × (d ≡ l.other)) ⊎ ((c ≡ l.other) × (d ≡ l.one))
          → IsPair (applying a b p q) c d ⊎ IsPair (applying a b p q) d c
      of_link (h, low, high, same) (inl (e, f)) =
          inl (subst (λ (x : Place). IsPair (applying a b p q) x d) (sym (e ∙ ap (λ (x : Link). x.one) same))
          (subst (IsPair (applying a b p q) (place 0 (ResultEnd h))) (sym (f ∙ ap (λ (x : Link). x.other) same)) (pair h (omega (arith, high)))))
      of_link (h, low, high, same) (inr (e, f)) =
          inr (subst (λ (x : Place). IsPair (applying a b p q) x c) (sym (f ∙ ap (λ (x : Link). x.one) same))
          (subst (IsPair (applying a b p q) (place 0 (ResultEnd h))) (sym (e ∙ ap (λ (x : Link). x.other) same)) (pair h (omega (arith, high)))))

  parent : (m : ℕ) (z : Plan) → slice_get (p ∷ q ∷ []) m ≡ Some z
      → (m ≡ 0) ⊎ (StandsForImport (applying a b p q) 0 p m z ⊎ StandsForArgument (applying a b p q) 0 p m z)
  parent zero z at = inl refl
  parent (suc zero) z at = let same : q ≡ z = cc at in inr (inr (subst (StandsForArgument (applying a b p q) 0 p 1) same stands))
  parent (suc (suc m)) z at = absurd (cc at)

  pub fun_turns : (P : List Pass) → IsTurned p P → KeepsTurnsOf (Fun a b) (res P)
  fun_turns P turned = subst (λ (t : Type'). KeepsTurnsOf t (res P)) p_type (to_each p P turned).1

  pub in_rest : (P : List Pass) (h : ℕ) (c : Contact) (way : Direction) → IsTurned p P → slice_get (contacts_of b) h ≡ Some c → way_taken c.role ≡ way
      → KeepsTurnsOf b (beyond (count a) (res (pass (ResultEnd (count a + h)) way ∷ P))) → IsTurned p (pass (ResultEnd (count a + h)) way ∷ P)
  in_rest P h c way turned there ways keeps =
      in_result p P (count a + h) c way turned contact ways (subst (λ (t : Type'). KeepsTurnsOf t new) (sym p_type) (first, keeps, leads))
    where
      new : ℕ → Bool
      new = res (pass (ResultEnd (count a + h)) way ∷ P)

      contact : slice_get (contacts_of p.outcome) (count a + h) ≡ Some c
      contact =
          ap (λ (t : Type'). slice_get (contacts_of t) (count a + h)) p_type
          ∙ (ap (λ (cs : List Contact). slice_get cs (count a + h)) (functions_join a b).joined
          ∙ (behind (other_side (contacts_of a)) (contacts_of b) h (count a + h) (let e = sides a b in omega (arith, e)) ∙ there))

      low : h < count b
      low = slice_get_within (contacts_of b) h c there

      changed : Changed (count a + count b) (res P) new (count a + h) way
      changed = result_changed P (count a + h) (count a + count b) way (omega (arith, low))

      before : KeepsTurnsOf (Fun a b) (res P)
      before = fun_turns P turned

      same_a : Agree (count a) (res P) new
      same_a g small = sym (changed.else_same g (omega (arith, small)) (λ same. omega (arith, same, small)))

      first : KeepsTurnsOf a new
      first = turns_agree a (res P) new same_a before.0

      changed_b : Changed (count b) (beyond (count a) (res P)) (beyond (count a) new) h way
      changed_b =
          record {
            low = low;
            here = changed.here;
            else_same = λ g small apart. changed.else_same (count a + g) (omega (arith, small)) (λ same. apart (omega (arith, same)));
          }

      leads : some_open (count a) new ≡ true → some_open (count b) (beyond (count a) new) ≡ true
      leads busy =
          still_busy b (beyond (count a) (res P)) (beyond (count a) new) h c way changed_b there ways before.1
          (before.2 (some_agree (count a) (res P) new same_a ∙ busy))

  pub composes : Composes (applying a b p q) r
  composes =
      record {
        giver = p;
        is_giver = refl;
        pairs = pairs;
        parent = parent;
        in_rest = λ P h c way shut turned there ways keeps. in_rest (P 0) h c way turned there ways keeps;
        out_rest = λ P turned. (fun_turns P turned).1;
        busy_rest = λ P shut turned busy.
            fun_busy a b (res (P 0)) (fun_turns (P 0) turned) (subst (λ (t : Type'). some_open (count t) (res (P 0)) ≡ true) p_type busy);
      }

  pub all_of : (Q : Plan → Type 0) → Q p → Q q → (k : ℕ) (z : Plan) → slice_get (p ∷ q ∷ []) k ≡ Some z → Q z
  all_of Q of_p of_q zero z at = let same : p ≡ z = cc at in subst Q same of_p
  all_of Q of_p of_q (suc zero) z at = let same : q ≡ z = cc at in subst Q same of_q
  all_of Q of_p of_q (suc (suc k)) z at = absurd (cc at)

pub applying_is_regular : ApplyingIsRegular
applying_is_regular a b p q r p_type q_type p_literals q_literals p_regular q_regular joined =
    let ports = ported a b p q r p_type q_type in
    let parts = composes a b p q r p_type q_type in
    joining_is_regular (applying a b p q) r joined.fits ports joined.joining (all_of a b p q r p_type q_type IsRegular p_regular q_regular)
    (all_of a b p q r p_type q_type (λ (z : Plan). All LiteralFits z.parts) p_literals q_literals)
    (passes_turns (applying a b p q) r joined.fits ports joined.joining parts)

-- and rest where both do
pub applying_rests : ApplyingRests
applying_rests a b p q r p_type q_type p_literals q_literals p_regular q_regular p_rests q_rests joined =
    joining_rests (applying a b p q) r joined.fits (ported a b p q r p_type q_type) joined.joining (all_of a b p q r p_type q_type IsRegular p_regular q_regular)
    (all_of a b p q r p_type q_type (λ (z : Plan). All LiteralFits z.parts) p_literals q_literals) (all_of a b p q r p_type q_type Rests p_rests q_rests)
    (composes a b p q r p_type q_type)
