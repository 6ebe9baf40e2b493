-- The joining by which the name of a variable is read: a Deref that asks at the import.
use Rattle.std.specs.Prelude.{◌≡◌, ◌≢◌, ℕ, zero, suc, ◌+◌, [], ◌∷◌, ◌⊎◌, Some, Contains, slice_get}
use Rattle.std.proofs.Common.{refl, subst, arith, inl, inr}
use Rattle.gos_types.specs.Types.{Var, Exp}
use Rattle.gos_model.specs.Terms.{Name}
use Rattle.gos_plan.specs.Kinds as kinds
use Rattle.gos_plan.specs.Kinds.{Contact, asks, serves, contacts_of, turned_contact}
use Rattle.gos_plan.specs.Plans.{End, PartEnd, ImportEnd, ResultEnd, Joint, Plan, contact_at}
use Rattle.gos_plan.specs.Joining.{place, Wiring, origin, Path, Connects, IsJoining}
use Rattle.gos_realises.specs.realises.Wirings.{reading}
use Rattle.gos_joining.specs.webs.Webs.{joint}
use Rattle.gos_supplies.specs.names.Names.{imported, name_plan}
use Rattle.gos_supplies.proofs.names.SmallJoiningLemmas.{end_class, IsPaired, paired_fits, paired_joint}

module _ (n : Name) (w : ℕ) where
  abbrev pub read_plan : Plan
  read_plan =
      record {
        weight = 0;
        imports = imported n (Var w) ∷ [];
        outcome = Exp w;
        parts = kinds.Deref w ∷ [];
        joints = joint (ResultEnd 0) (PartEnd 0 1) ∷ joint (PartEnd 0 0) (ImportEnd 0 0) ∷ [];
      }

  abbrev wiring : Wiring
  wiring = reading w (name_plan n (Var w))

  -- the run, the import's read, and its write
  abbrev class_of : ℕ → End → ℕ
  class_of zero (PartEnd i h) = 3
  class_of zero (ImportEnd i zero) = 1
  class_of zero (ImportEnd i (suc h)) = 2
  class_of zero (ResultEnd zero) = 1
  class_of zero (ResultEnd (suc h)) = 2
  class_of (suc k) (PartEnd i zero) = 1
  class_of (suc k) (PartEnd i (suc h)) = 0
  class_of (suc k) (ImportEnd i h) = 3
  class_of (suc k) (ResultEnd h) = 0

  abbrev asker : ℕ → End
  asker zero = ResultEnd 0
  asker (suc zero) = PartEnd 0 0
  asker (suc (suc k)) = ImportEnd 0 1

  abbrev server : ℕ → End
  server zero = PartEnd 0 1
  server (suc zero) = ImportEnd 0 0
  server (suc (suc k)) = ImportEnd 0 1

  which : (e : End) (c : Contact) → contact_at read_plan e ≡ Some c → (e ≡ asker (end_class wiring class_of e)) ⊎ (e ≡ server (end_class wiring class_of e))
  which (PartEnd zero zero) c h = inl refl
  which (PartEnd zero (suc zero)) c h = inr refl
  which (PartEnd zero (suc (suc j))) c h = absurd (grind (arith, h))
  which (PartEnd (suc i) j) c h = absurd (grind (arith, h))
  which (ImportEnd zero zero) c h = inr refl
  which (ImportEnd zero (suc zero)) c h = inl refl
  which (ImportEnd zero (suc (suc j))) c h = absurd (grind (arith, h))
  which (ImportEnd (suc i) j) c h = absurd (grind (arith, h))
  which (ResultEnd zero) c h = inl refl
  which (ResultEnd (suc j)) c h = absurd (grind (arith, h))

  turned : (k : ℕ) (c d : Contact) → asker k ≢ server k → contact_at read_plan (asker k) ≡ Some c → contact_at read_plan (server k) ≡ Some d
      → (d ≡ turned_contact c) × (c ≡ turned_contact d)
  turned zero c d apart one other = (grind (arith, one, other), grind (arith, one, other))
  turned (suc zero) c d apart one other = (grind (arith, one, other), grind (arith, one, other))
  turned (suc (suc k)) c d apart one other = absurd (apart refl)

  joined : (k q v : ℕ) → contact_at read_plan (asker k) ≡ Some (asks q v) → contact_at read_plan (server k) ≡ Some (serves q v)
      → Contains read_plan.joints (joint (asker k) (server k))
  joined zero q v asked served = (0, omega arith, refl)
  joined (suc zero) q v asked served = (1, omega arith, refl)
  joined (suc (suc k)) q v asked served = absurd (grind (arith, asked))

  not_back : (k q v : ℕ) → contact_at read_plan (server k) ≡ Some (asks q v) → contact_at read_plan (asker k) ≡ Some (serves q v) → ⊥
  not_back zero q v asked served = grind (arith, asked)
  not_back (suc zero) q v asked served = grind (arith, asked)
  not_back (suc (suc k)) q v asked served = grind (arith, asked)

  paired : IsPaired wiring class_of read_plan asker server
  paired =
      record {
        plans = ((refl, (refl, tt)), ((refl, tt), tt));
        links = (refl, tt);
        which = which;
        turned = turned;
        joined = joined;
        not_back = not_back;
      }

  run_path : Path wiring 1 (origin wiring (ResultEnd 0)) (origin wiring (PartEnd 0 1))
  run_path = (place 1 (PartEnd 0 1), inl (_, joint (ResultEnd 0) (PartEnd 0 1), refl, refl, (0, omega arith, refl), inl (refl, refl)), refl)

  read_path : Path wiring 2 (origin wiring (PartEnd 0 0)) (origin wiring (ImportEnd 0 0))
  read_path = (
    place 0 (ResultEnd 0),
    inr (_, (0, omega arith, refl), inr (refl, refl)),
    (place 0 (ImportEnd 0 0), inl (name_plan n (Var w), joint (ResultEnd 0) (ImportEnd 0 0), refl, refl, (0, omega arith, refl), inl (refl, refl)), refl),
  )

  connects : (a b : End) → Contains read_plan.joints (joint a b) → Connects wiring read_plan a b
  connects a b (zero, m, e) = subst (λ (j : Joint). Connects wiring read_plan j.asking j.serving) e (0, w, 1, refl, refl, run_path)
  connects a b (suc zero, m, e) = subst (λ (j : Joint). Connects wiring read_plan j.asking j.serving) e (0, w, 2, refl, refl, read_path)
  connects a b (suc (suc k), m, e) = absurd (omega (arith, m))

  result : (h : ℕ) (c : Contact) → slice_get (contacts_of (Exp w)) h ≡ Some c → slice_get (contacts_of (Exp w)) (0 + h) ≡ Some c
  result zero c there = there
  result (suc h) c there = absurd (grind (arith, there))

  pub read_joining : IsJoining wiring read_plan
  read_joining =
      record {
        parts = refl;
        imports = refl;
        outcome = refl;
        weight = refl;
        right = (((0, w, refl, refl), refl, refl), (((0, w, refl, refl), refl, refl), tt));
        result = result;
        fits = paired_fits wiring class_of read_plan asker server paired;
        joints = λ a b. (connects a b, paired_joint wiring class_of read_plan asker server paired a b);
      }
