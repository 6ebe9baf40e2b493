-- The joining by which the name of a variable is written: an Assign that asks a Lit for its number and writes it at the import.
use Rattle.std.specs.Prelude.{◌≡◌, ◌≢◌, ℕ, zero, suc, ◌+◌, [], ◌∷◌, ◌⊎◌, Some, Contains, slice_get}
use Rattle.std.proofs.Common.{refl, subst, arith, inl, inr}
use Rattle.gos_types.specs.Types.{Var, Com, Exp}
use Rattle.gos_model.specs.Terms.{Name}
use Rattle.gos_plan.specs.Kinds as kinds
use Rattle.gos_plan.specs.Kinds.{Contact, asks, serves, contacts_of, turned_contact}
use Rattle.gos_plan.specs.Plans.{End, PartEnd, ImportEnd, ResultEnd, Joint, Plan, contact_at}
use Rattle.gos_plan.specs.Joining.{place, Wiring, origin, Path, Connects, IsJoining}
use Rattle.gos_realises.specs.realises.Wirings.{lone, writing}
use Rattle.gos_joining.specs.webs.Webs.{joint}
use Rattle.gos_supplies.specs.names.Names.{imported, name_plan}
use Rattle.gos_supplies.proofs.names.SmallJoiningLemmas.{end_class, IsPaired, paired_fits, paired_joint}

module _ (n : Name) (w m : ℕ) where
  abbrev pub write_plan : Plan
  write_plan =
      record {
        weight = 0;
        imports = imported n (Var w) ∷ [];
        outcome = Com;
        parts = kinds.Assign w ∷ kinds.Lit w m ∷ [];
        joints = joint (ResultEnd 0) (PartEnd 0 2) ∷ joint (PartEnd 0 0) (PartEnd 1 0) ∷ joint (PartEnd 0 1) (ImportEnd 0 1) ∷ [];
      }

  abbrev wiring : Wiring
  wiring = writing w m (name_plan n (Var w))

  -- the run, the number, the import's write, and its read
  abbrev class_of : ℕ → End → ℕ
  class_of zero (PartEnd i h) = 4
  class_of zero (ImportEnd i zero) = 3
  class_of zero (ImportEnd i (suc h)) = 2
  class_of zero (ResultEnd zero) = 3
  class_of zero (ResultEnd (suc h)) = 2
  class_of (suc zero) (PartEnd i zero) = 1
  class_of (suc zero) (PartEnd i (suc zero)) = 2
  class_of (suc zero) (PartEnd i (suc (suc h))) = 0
  class_of (suc zero) (ImportEnd i h) = 4
  class_of (suc zero) (ResultEnd h) = 0
  class_of (suc (suc k)) (PartEnd i h) = 1
  class_of (suc (suc k)) (ImportEnd i h) = 4
  class_of (suc (suc k)) (ResultEnd h) = 1

  abbrev asker : ℕ → End
  asker zero = ResultEnd 0
  asker (suc zero) = PartEnd 0 0
  asker (suc (suc zero)) = PartEnd 0 1
  asker (suc (suc (suc k))) = ImportEnd 0 0

  abbrev server : ℕ → End
  server zero = PartEnd 0 2
  server (suc zero) = PartEnd 1 0
  server (suc (suc zero)) = ImportEnd 0 1
  server (suc (suc (suc k))) = ImportEnd 0 0

  which : (e : End) (c : Contact) → contact_at write_plan e ≡ Some c → (e ≡ asker (end_class wiring class_of e)) ⊎ (e ≡ server (end_class wiring class_of e))
  which (PartEnd zero zero) c h = inl refl
  which (PartEnd zero (suc zero)) c h = inl refl
  which (PartEnd zero (suc (suc zero))) c h = inr refl
  which (PartEnd zero (suc (suc (suc j)))) c h = absurd (grind (arith, h))
  which (PartEnd (suc zero) zero) c h = inr refl
  which (PartEnd (suc zero) (suc j)) c h = absurd (grind (arith, h))
  which (PartEnd (suc (suc i)) j) c h = absurd (grind (arith, h))
  which (ImportEnd zero zero) c h = inl refl
  which (ImportEnd zero (suc zero)) c h = inr refl
  which (ImportEnd zero (suc (suc j))) c h = absurd (grind (arith, h))
  which (ImportEnd (suc i) j) c h = absurd (grind (arith, h))
  which (ResultEnd zero) c h = inl refl
  which (ResultEnd (suc j)) c h = absurd (grind (arith, h))

  turned : (k : ℕ) (c d : Contact) → asker k ≢ server k → contact_at write_plan (asker k) ≡ Some c → contact_at write_plan (server k) ≡ Some d
      → (d ≡ turned_contact c) × (c ≡ turned_contact d)
  turned zero c d apart one other = (grind (arith, one, other), grind (arith, one, other))
  turned (suc zero) c d apart one other = (grind (arith, one, other), grind (arith, one, other))
  turned (suc (suc zero)) c d apart one other = (grind (arith, one, other), grind (arith, one, other))
  turned (suc (suc (suc k))) c d apart one other = absurd (apart refl)

  joined : (k q v : ℕ) → contact_at write_plan (asker k) ≡ Some (asks q v) → contact_at write_plan (server k) ≡ Some (serves q v)
      → Contains write_plan.joints (joint (asker k) (server k))
  joined zero q v asked served = (0, omega arith, refl)
  joined (suc zero) q v asked served = (1, omega arith, refl)
  joined (suc (suc zero)) q v asked served = (2, omega arith, refl)
  joined (suc (suc (suc k))) q v asked served = absurd (grind (arith, asked))

  not_back : (k q v : ℕ) → contact_at write_plan (server k) ≡ Some (asks q v) → contact_at write_plan (asker k) ≡ Some (serves q v) → ⊥
  not_back zero q v asked served = grind (arith, asked)
  not_back (suc zero) q v asked served = grind (arith, asked)
  not_back (suc (suc zero)) q v asked served = grind (arith, asked)
  not_back (suc (suc (suc k))) q v asked served = grind (arith, asked)

  paired : IsPaired wiring class_of write_plan asker server
  paired =
      record {
        plans = ((refl, (refl, tt)), ((refl, tt), ((refl, tt), tt)));
        links = (refl, (refl, tt));
        which = which;
        turned = turned;
        joined = joined;
        not_back = not_back;
      }

  run_path : Path wiring 1 (origin wiring (ResultEnd 0)) (origin wiring (PartEnd 0 2))
  run_path = (place 1 (PartEnd 0 2), inl (_, joint (ResultEnd 0) (PartEnd 0 2), refl, refl, (0, omega arith, refl), inl (refl, refl)), refl)

  number_path : Path wiring 2 (origin wiring (PartEnd 0 0)) (origin wiring (PartEnd 1 0))
  number_path = (
    place 2 (ResultEnd 0),
    inr (_, (1, omega arith, refl), inl (refl, refl)),
    (place 2 (PartEnd 0 0), inl (lone (kinds.Lit w m) 0 (Exp w), joint (ResultEnd 0) (PartEnd 0 0), refl, refl, (0, omega arith, refl), inl (refl, refl)), refl),
  )

  write_path : Path wiring 2 (origin wiring (PartEnd 0 1)) (origin wiring (ImportEnd 0 1))
  write_path = (
    place 0 (ResultEnd 1),
    inr (_, (0, omega arith, refl), inr (refl, refl)),
    (place 0 (ImportEnd 0 1), inl (name_plan n (Var w), joint (ResultEnd 1) (ImportEnd 0 1), refl, refl, (1, omega arith, refl), inl (refl, refl)), refl),
  )

  connects : (a b : End) → Contains write_plan.joints (joint a b) → Connects wiring write_plan a b
  connects a b (zero, l, e) = subst (λ (j : Joint). Connects wiring write_plan j.asking j.serving) e (0, 0, 1, refl, refl, run_path)
  connects a b (suc zero, l, e) = subst (λ (j : Joint). Connects wiring write_plan j.asking j.serving) e (0, w, 2, refl, refl, number_path)
  connects a b (suc (suc zero), l, e) = subst (λ (j : Joint). Connects wiring write_plan j.asking j.serving) e (w, 0, 2, refl, refl, write_path)
  connects a b (suc (suc (suc k)), l, e) = absurd (omega (arith, l))

  result : (h : ℕ) (c : Contact) → slice_get (contacts_of Com) h ≡ Some c → slice_get (contacts_of Com) (0 + h) ≡ Some c
  result zero c there = there
  result (suc h) c there = absurd (grind (arith, there))

  pub write_joining : IsJoining wiring write_plan
  write_joining =
      record {
        parts = refl;
        imports = refl;
        outcome = refl;
        weight = refl;
        right = (((0, 0, refl, refl), refl, refl), (((0, w, refl, refl), refl, refl), (((w, 0, refl, refl), refl, refl), tt)));
        result = result;
        fits = paired_fits wiring class_of write_plan asker server paired;
        joints = λ a b. (connects a b, paired_joint wiring class_of write_plan asker server paired a b);
      }
