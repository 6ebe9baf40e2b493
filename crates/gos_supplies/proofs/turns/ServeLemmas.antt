-- A plan with one that serves an import of it, and a plan with all its supplies: regular where all are.
use Rattle.std.specs.Prelude.{ℕ, zero, suc, ◌+◌, ◌<◌, List, Some, All, Contains, slice_get}
use Rattle.std.proofs.Common.{◌≡◌, [], ◌∷◌, ◌⊎◌, inl, inr, refl, sym, ◌∙◌, ap, subst, arith}
use Rattle.gos_types.specs.Types.{Type'}
use Rattle.gos_model.specs.Typing.{Imported}
use Rattle.gos_plan.specs.Plans.{ImportEnd, ResultEnd, Plan}
use Rattle.gos_plan.specs.Tokens.{IsPortEnd}
use Rattle.gos_plan.specs.TokenBits.{LiteralFits}
use Rattle.gos_plan.specs.Joining.{Place, place, Link, Wiring, Linked}
use Rattle.gos_realises.specs.realises.Regular.{count, IsRegular}
use Rattle.gos_realises.specs.realises.Wirings.{link}
use Rattle.gos_realises.specs.realises.Realises.{Realises}
use Rattle.gos_realises.specs.realises.Modules.{Supply, plans_of, AreSupplied, imports_linked, supplying}
use Rattle.gos_realises.proofs.realises.FittingLemmas.{supply_at}
use Rattle.gos_supplies.specs.instances.Served.{serving}
use Rattle.gos_supplies.specs.turns.Composed.{ServingIsRegular, SuppliedIsRegular}
use Rattle.gos_supplies.proofs.turns.TrailLemmas.{LinksArePorts}
use Rattle.gos_supplies.proofs.turns.PassLemmas.{StandsForImport, StandsForArgument, IsPair, Composes, passes_turns}
use Rattle.gos_supplies.proofs.turns.LinkLemmas.{of_import, in_import, of_imports, in_imports}
use Rattle.gos_supplies.proofs.turns.PlainLemmas.{plain_in, plain_out, plain_busy}
use Rattle.gos_supplies.proofs.turns.WholeLemmas.{joining_is_regular}
use Rattle.gos_supplies.specs.turns.Rests.{Rests}
use Rattle.gos_supplies.specs.turns.Resting.{ServingRests}
use Rattle.gos_supplies.proofs.turns.JoinedRestLemmas.{joining_rests}

-- the ends of a link, where it is that of handshake h of import n and of plan m
of_ends : (w : Wiring) (c d : Place) (l : Link) (n m h : ℕ) → ((c ≡ l.one) × (d ≡ l.other)) ⊎ ((c ≡ l.other) × (d ≡ l.one)) → l ≡ link 0 (ImportEnd n h) m (ResultEnd h)
    → IsPair w (place 0 (ImportEnd n h)) (place m (ResultEnd h)) → IsPair w c d ⊎ IsPair w d c
of_ends w c d l n m h (inl (e, f)) same pair =
    inl (subst (λ (x : Place). IsPair w x d) (sym (e ∙ ap (λ (x : Link). x.one) same))
    (subst (IsPair w (place 0 (ImportEnd n h))) (sym (f ∙ ap (λ (x : Link). x.other) same)) pair))
of_ends w c d l n m h (inr (e, f)) same pair =
    inr (subst (λ (x : Place). IsPair w x c) (sym (f ∙ ap (λ (x : Link). x.one) same))
    (subst (IsPair w (place 0 (ImportEnd n h))) (sym (e ∙ ap (λ (x : Link). x.other) same)) pair))

module _ (k : ℕ) (x : Imported) (p q r : Plan) (at : slice_get p.imports k ≡ Some x) (q_type : q.outcome ≡ x.ty) where
  abbrev served : Wiring
  served = serving k x.ty p q

  served_ports : LinksArePorts served
  served_ports l has =
      let (h, low, high, same) = of_import k 1 0 (count x.ty) l has in subst (λ (y : Link). IsPortEnd y.one.end × IsPortEnd y.other.end) (sym same) (tt, tt)

  served_stands : StandsForImport served 0 p 1 q
  served_stands = (
    k,
    x,
    at,
    sym q_type,
    λ g low. (
      link 0 (ImportEnd k g) 1 (ResultEnd g),
      in_import k 1 0 (count x.ty) g (omega arith) (let small : g < count x.ty = subst (λ (t : Type'). g < count t) q_type low in omega (arith, small)),
      inl (refl, refl),
    ),
  )

  served_pairs : (c d : Place) → Linked served c d → IsPair served c d ⊎ IsPair served d c
  unfolding served_stands
  served_pairs c d (l, has, ways) =
      let (h, low, high, same) = of_import k 1 0 (count x.ty) l has in
      let small : h < count x.ty = omega (arith, high) in
      of_ends served c d l k 1 h ways same (p, q, h, refl, refl, refl, subst (λ (t : Type'). h < count t) (sym q_type) small, inl (served_stands, refl))

  served_parent : (m : ℕ) (z : Plan) → slice_get (p ∷ q ∷ []) m ≡ Some z → (m ≡ 0) ⊎ (StandsForImport served 0 p m z ⊎ StandsForArgument served 0 p m z)
  served_parent zero z is = inl refl
  served_parent (suc zero) z is = let same : q ≡ z = cc is in inr (inl (subst (StandsForImport served 0 p 1) same served_stands))
  served_parent (suc (suc m)) z is = absurd (cc is)

  served_composes : Composes served r
  served_composes =
      record {
        giver = p;
        is_giver = refl;
        pairs = served_pairs;
        parent = served_parent;
        in_rest = λ P h c way shut turned there ways keeps. plain_in p (P 0) h c way turned there ways keeps;
        out_rest = λ P turned. plain_out p P turned;
        busy_rest = λ P shut turned busy. plain_busy p (P 0) busy;
      }

  both_of : (Q : Plan → Type 0) → Q p → Q q → (m : ℕ) (z : Plan) → slice_get (p ∷ q ∷ []) m ≡ Some z → Q z
  both_of Q of_p of_q zero z is = let same : p ≡ z = cc is in subst Q same of_p
  both_of Q of_p of_q (suc zero) z is = let same : q ≡ z = cc is in subst Q same of_q
  both_of Q of_p of_q (suc (suc m)) z is = absurd (cc is)

pub serving_is_regular : ServingIsRegular
serving_is_regular k x p q r at q_type p_literals q_literals p_regular q_regular joined =
    let ports = served_ports k x p q r at q_type in
    joining_is_regular (serving k x.ty p q) r joined.fits ports joined.joining (both_of k x p q r at q_type IsRegular p_regular q_regular)
    (both_of k x p q r at q_type (λ (z : Plan). All LiteralFits z.parts) p_literals q_literals)
    (passes_turns (serving k x.ty p q) r joined.fits ports joined.joining (served_composes k x p q r at q_type))

-- and rest where both do
pub serving_rests : ServingRests
serving_rests k x p q r at q_type p_literals q_literals p_regular q_regular p_rests q_rests joined =
    joining_rests (serving k x.ty p q) r joined.fits (served_ports k x p q r at q_type) joined.joining (both_of k x p q r at q_type IsRegular p_regular q_regular)
    (both_of k x p q r at q_type (λ (z : Plan). All LiteralFits z.parts) p_literals q_literals) (both_of k x p q r at q_type Rests p_rests q_rests)
    (served_composes k x p q r at q_type)

-- the supply of an import, and the import of a supply
import_of : (is : List Imported) (ss : List Supply) (k : ℕ) (z : Plan) → AreSupplied is ss → slice_get (plans_of ss) k ≡ Some z
    → (x : Imported) × (s : Supply) × (slice_get is k ≡ Some x) × (s.plan ≡ z) × Realises x.ty s.plan s.term
import_of [] [] k z are at = absurd (cc at)
import_of [] (s ∷ ss) k z are at = absurd are
import_of (i ∷ is) [] k z are at = absurd are
import_of (i ∷ is) (s ∷ ss) zero z are at = (i, s, refl, cc at, are.0)
import_of (i ∷ is) (s ∷ ss) (suc k) z are at = import_of is ss k z are.1 at

module _ (p r : Plan) (ss : List Supply) (are : AreSupplied p.imports ss) where
  abbrev all : Wiring
  all = supplying p ss

  all_ports : LinksArePorts all
  all_ports l has =
      let (k, x, h, at, low, same) = of_imports 0 p.imports l has in subst (λ (y : Link). IsPortEnd y.one.end × IsPortEnd y.other.end) (sym same) (tt, tt)

  all_stand : (k : ℕ) (x : Imported) (s : Supply) → slice_get p.imports k ≡ Some x → Realises x.ty s.plan s.term → StandsForImport all 0 p (suc k) s.plan
  all_stand k x s at real = (
    k,
    x,
    at,
    sym real.suits.outcome,
    λ g low.
        (let small : g < count x.ty = subst (λ (t : Type'). g < count t) real.suits.outcome low in
        let e : 0 + k ≡ k = omega arith in (
          link 0 (ImportEnd k g) (suc k) (ResultEnd g),
          subst (λ (n : ℕ). Contains (imports_linked 0 p.imports) (link 0 (ImportEnd n g) (suc n) (ResultEnd g))) e (in_imports 0 p.imports k x g at small),
          inl (refl, refl),
        )),
  )

  all_pairs : (c d : Place) → Linked all c d → IsPair all c d ⊎ IsPair all d c
  unfolding all_stand
  all_pairs c d (l, has, ways) =
      let (k, x, h, at, low, same) = of_imports 0 p.imports l has in
      let (s, at_s, real) = supply_at p.imports ss k x are at in
      let e : 0 + k ≡ k = omega arith in
      of_ends all c d l k (suc k) h ways (same ∙ ap (λ (n : ℕ). link 0 (ImportEnd n h) (suc n) (ResultEnd h)) e)
      (p, s.plan, h, refl, at_s, refl, subst (λ (t : Type'). h < count t) (sym real.suits.outcome) low, inl (all_stand k x s at real, refl))

  all_parent : (m : ℕ) (z : Plan) → slice_get (p ∷ plans_of ss) m ≡ Some z → (m ≡ 0) ⊎ (StandsForImport all 0 p m z ⊎ StandsForArgument all 0 p m z)
  all_parent zero z is = inl refl
  all_parent (suc k) z is =
      let (x, s, at, same, real) = import_of p.imports ss k z are is in
      inr (inl (subst (StandsForImport all 0 p (suc k)) same (all_stand k x s at real)))

  all_composes : Composes all r
  all_composes =
      record {
        giver = p;
        is_giver = refl;
        pairs = all_pairs;
        parent = all_parent;
        in_rest = λ P h c way shut turned there ways keeps. plain_in p (P 0) h c way turned there ways keeps;
        out_rest = λ P turned. plain_out p P turned;
        busy_rest = λ P shut turned busy. plain_busy p (P 0) busy;
      }

  each_of : (Q : Plan → Type 0) → Q p → ((x : Imported) (s : Supply) → Realises x.ty s.plan s.term → Q s.plan) → (m : ℕ) (z : Plan)
      → slice_get (p ∷ plans_of ss) m ≡ Some z → Q z
  each_of Q of_p of_s zero z is = let same : p ≡ z = cc is in subst Q same of_p
  each_of Q of_p of_s (suc k) z is = let (x, s, at, same, real) = import_of p.imports ss k z are is in subst Q same (of_s x s real)

pub supplied_is_regular : SuppliedIsRegular
supplied_is_regular p r ss are literals regular joined =
    let ports = all_ports p r ss are in
    joining_is_regular (supplying p ss) r joined.fits ports joined.joining (each_of p r ss are IsRegular regular (λ x s real. real.suits.regular))
    (each_of p r ss are (λ (z : Plan). All LiteralFits z.parts) literals (λ x s real. real.suits.literals))
    (passes_turns (supplying p ss) r joined.fits ports joined.joining (all_composes p r ss are))
