-- The plan of a function that writes its argument at a number realises it with every argument.
use Rattle.std.specs.Prelude.{◌≡◌, ◌≢◌, ◌⊎◌, ℕ, zero, suc, ◌+◌, [], ◌∷◌, Some, Contains, slice_get}
use Rattle.std.proofs.Common.{refl, ap, subst, arith, inl, inr}
use Rattle.std.proofs.lemmas.List.Elements.{All-cons}
use Rattle.gos_types.proofs.ListLemmas.{none_in_empty}
use Rattle.gos_types.specs.Types.{Com, Exp, Var, Fun}
use Rattle.gos_types.specs.Widths.{IsWidth}
use Rattle.gos_model.specs.Terms.{Term, Import, Lam, App, Assign, Bound}
use Rattle.gos_model.specs.Terms as terms
use Rattle.gos_model.specs.Typing.{Typed}
use Rattle.gos_model.specs.ArrayPorts.{a}
use Rattle.gos_plan.specs.Kinds as kinds
use Rattle.gos_plan.specs.Kinds.{Part, Contact, asks, serves, contacts_of, turned_contact}
use Rattle.gos_plan.specs.Plans.{End, PartEnd, ImportEnd, ResultEnd, Joint, Plan, contact_at, IsRight}
use Rattle.gos_plan.specs.TokenBits.{LiteralFits}
use Rattle.gos_plan.specs.Joining.{place, Wiring, Connects}
use Rattle.gos_realises.specs.realises.Links.{IsJoined}
use Rattle.gos_realises.specs.realises.Regular.{IsRegular}
use Rattle.gos_realises.specs.realises.Wirings.{lone, applying, writing, link}
use Rattle.gos_realises.specs.realises.Realises.{Realises, Suits}
use Rattle.gos_realises.specs.realises.Modules.{RealisesOpen}
use Rattle.gos_realises.proofs.realises.FittingLemmas.{applied_fits, variables_fit, supplied_fits}
use Rattle.gos_realises.proofs.realises.LiteralLemmas.{no_literals}
use Rattle.gos_joining.specs.webs.Webs.{joint}
use Rattle.gos_joining.specs.webs.Renumbering.{Renumber, back, moved_end, IsOneToOne, IsRenumbered}
use Rattle.gos_joining.proofs.renumbered.HigherLemmas.{renumbered_is_realised}
use Rattle.gos_supplies.specs.names.Names.{imported}
use Rattle.gos_supplies.specs.literals.Literals.{number_plan}
use Rattle.gos_supplies.specs.applications.Opened.{opened, IsFunctionOf}
use Rattle.gos_supplies.specs.arrays.SmallAccesses.{first_written}
use Rattle.gos_supplies.specs.arrays.ArrayNames.{array_name}
use Rattle.gos_supplies.specs.arrays.Writers.{array_type, writer, writer_plan}
use Rattle.gos_supplies.proofs.names.SmallJoiningLemmas.{end_class, IsPaired, paired_fits, paired_joint}
use Rattle.gos_supplies.proofs.applications.ApplicationLemmas.{application_is_realised}
use Rattle.gos_supplies.proofs.applications.SingleLemmas.{alone_joins}
use Rattle.gos_supplies.proofs.literals.NumberLemmas.{literal_is_realised}
use Rattle.gos_supplies.proofs.literals.LeafLemmas.{literal_is_open}
use Rattle.gos_supplies.proofs.turns.OpenedLemmas.{function_is_regular}
use Rattle.gos_supplies.proofs.unfoldings.FunctionLemmas.{function_realised}
use Rattle.gos_supplies.proofs.arrays.NameLemmas.{array_right, array_name_is_realised}
use Rattle.gos_supplies.proofs.arrays.SuppliedLemmas.{array_name_is_open}
use Rattle.gos_supplies.proofs.arrays.WrittenLemmas.{writing_is_realised}

-- the name of an array at a number
abbrev pub applied_plan : Plan
applied_plan =
    record {
      weight = 0;
      imports = imported a array_type ∷ [];
      outcome = Var 8;
      parts = kinds.Lit 1 0 ∷ [];
      joints = joint (ImportEnd 0 0) (PartEnd 0 0) ∷ joint (ResultEnd 0) (ImportEnd 0 1) ∷ joint (ResultEnd 1) (ImportEnd 0 2) ∷ [];
    }

abbrev pub applied_wiring : Wiring
applied_wiring = applying (Exp 1) (Var 8) (array_name a 1 8) (number_plan 0 1 0)

abbrev applied_class : ℕ → End → ℕ
applied_class zero (PartEnd k h) = 9
applied_class zero (ImportEnd k zero) = 0
applied_class zero (ImportEnd k (suc zero)) = 1
applied_class zero (ImportEnd k (suc (suc h))) = 2
applied_class zero (ResultEnd zero) = 0
applied_class zero (ResultEnd (suc zero)) = 1
applied_class zero (ResultEnd (suc (suc h))) = 2
applied_class (suc zero) (PartEnd k h) = 0
applied_class (suc zero) (ImportEnd k h) = 9
applied_class (suc zero) (ResultEnd h) = 0
applied_class (suc (suc k)) e = 9

abbrev applied_asker : ℕ → End
applied_asker zero = ImportEnd 0 0
applied_asker (suc zero) = ResultEnd 0
applied_asker (suc (suc k)) = ResultEnd 1

abbrev applied_server : ℕ → End
applied_server zero = PartEnd 0 0
applied_server (suc zero) = ImportEnd 0 1
applied_server (suc (suc k)) = ImportEnd 0 2

applied_which : (e : End) (c : Contact) → contact_at applied_plan e ≡ Some c
    → (e ≡ applied_asker (end_class applied_wiring applied_class e)) ⊎ (e ≡ applied_server (end_class applied_wiring applied_class e))
applied_which (PartEnd zero zero) c h = inr refl
applied_which (PartEnd zero (suc j)) c h = absurd (grind (arith, h))
applied_which (PartEnd (suc i) j) c h = absurd (grind (arith, h))
applied_which (ImportEnd zero zero) c h = inl refl
applied_which (ImportEnd zero (suc zero)) c h = inr refl
applied_which (ImportEnd zero (suc (suc zero))) c h = inr refl
applied_which (ImportEnd zero (suc (suc (suc j)))) c h = absurd (grind (arith, h))
applied_which (ImportEnd (suc i) j) c h = absurd (grind (arith, h))
applied_which (ResultEnd zero) c h = inl refl
applied_which (ResultEnd (suc zero)) c h = inl refl
applied_which (ResultEnd (suc (suc j))) c h = absurd (grind (arith, h))

applied_turned : (k : ℕ) (c d : Contact) → applied_asker k ≢ applied_server k → contact_at applied_plan (applied_asker k) ≡ Some c → contact_at applied_plan (applied_server k) ≡ Some d
    → (d ≡ turned_contact c) × (c ≡ turned_contact d)
applied_turned zero c d apart one other = (grind (arith, one, other), grind (arith, one, other))
applied_turned (suc zero) c d apart one other = (grind (arith, one, other), grind (arith, one, other))
applied_turned (suc (suc k)) c d apart one other = (grind (arith, one, other), grind (arith, one, other))

applied_joined : (k q v : ℕ) → contact_at applied_plan (applied_asker k) ≡ Some (asks q v) → contact_at applied_plan (applied_server k) ≡ Some (serves q v)
    → Contains applied_plan.joints (joint (applied_asker k) (applied_server k))
applied_joined zero q v asked served = (0, omega arith, refl)
applied_joined (suc zero) q v asked served = (1, omega arith, refl)
applied_joined (suc (suc k)) q v asked served = (2, omega arith, refl)

applied_not_back : (k q v : ℕ) → contact_at applied_plan (applied_server k) ≡ Some (asks q v) → contact_at applied_plan (applied_asker k) ≡ Some (serves q v) → ⊥
applied_not_back zero q v asked served = grind (arith, asked)
applied_not_back (suc zero) q v asked served = grind (arith, asked)
applied_not_back (suc (suc k)) q v asked served = grind (arith, asked)

applied_paired : IsPaired applied_wiring applied_class applied_plan applied_asker applied_server
applied_paired =
    record {
      plans = ((refl, (refl, (refl, tt))), ((refl, tt), tt));
      links = (refl, tt);
      which = applied_which;
      turned = applied_turned;
      joined = applied_joined;
      not_back = applied_not_back;
    }

applied_connects : (d e : End) → Contains applied_plan.joints (joint d e) → Connects applied_wiring applied_plan d e
applied_connects d e (zero, l, at) =
    subst (λ (j : Joint). Connects applied_wiring applied_plan j.asking j.serving) at (0, 1, 3, refl, refl, (place 0 (ResultEnd 0), inl (array_name a 1 8, joint (ImportEnd 0 0) (ResultEnd 0), refl, refl, (0, omega arith, refl), inl (refl, refl)), (place 1 (ResultEnd 0), inr (link 0 (ResultEnd 0) 1 (ResultEnd 0), (0, omega arith, refl), inl (refl, refl)), (place 1 (PartEnd 0 0), inl (number_plan 0 1 0, joint (ResultEnd 0) (PartEnd 0 0), refl, refl, (0, omega arith, refl), inl (refl, refl)), refl))))
applied_connects d e (suc zero, l, at) =
    subst (λ (j : Joint). Connects applied_wiring applied_plan j.asking j.serving) at (0, 8, 1, refl, refl, (place 0 (ImportEnd 0 1), inl (array_name a 1 8, joint (ResultEnd 1) (ImportEnd 0 1), refl, refl, (1, omega arith, refl), inl (refl, refl)), refl))
applied_connects d e (suc (suc zero), l, at) =
    subst (λ (j : Joint). Connects applied_wiring applied_plan j.asking j.serving) at (8, 0, 1, refl, refl, (place 0 (ImportEnd 0 2), inl (array_name a 1 8, joint (ResultEnd 2) (ImportEnd 0 2), refl, refl, (2, omega arith, refl), inl (refl, refl)), refl))
applied_connects d e (suc (suc (suc k)), l, at) = absurd (omega (arith, l))

applied_right : IsRight applied_plan
applied_right = (((0, 1, refl, refl), refl, refl), (((0, 8, refl, refl), refl, refl), (((8, 0, refl, refl), refl, refl), tt)))

applied_result : (h : ℕ) (c : Contact) → slice_get (contacts_of (Var 8)) h ≡ Some c → slice_get (contacts_of (Fun (Exp 1) (Var 8))) (1 + h) ≡ Some c
applied_result zero c there = there
applied_result (suc zero) c there = there
applied_result (suc (suc h)) c there = absurd (grind (arith, there))

pub number_right : IsRight (number_plan 0 1 0)
number_right = (((0, 1, refl, refl), refl, refl), tt)

pub is_applied : IsJoined applied_wiring applied_plan
is_applied =
    record {
      fits = applied_fits (Exp 1) (Var 8) (array_name a 1 8) (number_plan 0 1 0) (array_right a 1 8) number_right refl refl;
      joining =
          record {
            parts = refl;
            imports = refl;
            outcome = refl;
            weight = refl;
            right = applied_right;
            result = applied_result;
            fits = paired_fits applied_wiring applied_class applied_plan applied_asker applied_server applied_paired;
            joints = λ d e. (applied_connects d e, paired_joint applied_wiring applied_class applied_plan applied_asker applied_server applied_paired d e);
          };
    }

-- and written: the body of the function
abbrev pub body_wiring : Wiring
body_wiring = writing 8 5 applied_plan

abbrev body_class : ℕ → End → ℕ
body_class zero (PartEnd k h) = 0
body_class zero (ImportEnd k zero) = 0
body_class zero (ImportEnd k (suc zero)) = 4
body_class zero (ImportEnd k (suc (suc h))) = 3
body_class zero (ResultEnd zero) = 4
body_class zero (ResultEnd (suc h)) = 3
body_class (suc zero) (PartEnd k zero) = 2
body_class (suc zero) (PartEnd k (suc zero)) = 3
body_class (suc zero) (PartEnd k (suc (suc h))) = 1
body_class (suc zero) (ImportEnd k h) = 9
body_class (suc zero) (ResultEnd zero) = 1
body_class (suc zero) (ResultEnd (suc zero)) = 3
body_class (suc zero) (ResultEnd (suc (suc h))) = 9
body_class (suc (suc zero)) (PartEnd k h) = 2
body_class (suc (suc zero)) (ImportEnd k h) = 9
body_class (suc (suc zero)) (ResultEnd h) = 2
body_class (suc (suc (suc k))) e = 9

abbrev body_asker : ℕ → End
body_asker zero = ImportEnd 0 0
body_asker (suc zero) = ResultEnd 0
body_asker (suc (suc zero)) = PartEnd 1 0
body_asker (suc (suc (suc zero))) = PartEnd 1 1
body_asker (suc (suc (suc (suc k)))) = ImportEnd 0 1

abbrev body_server : ℕ → End
body_server zero = PartEnd 0 0
body_server (suc zero) = PartEnd 1 2
body_server (suc (suc zero)) = PartEnd 2 0
body_server (suc (suc (suc zero))) = ImportEnd 0 2
body_server (suc (suc (suc (suc k)))) = ImportEnd 0 1

body_which : (e : End) (c : Contact) → contact_at first_written e ≡ Some c
    → (e ≡ body_asker (end_class body_wiring body_class e)) ⊎ (e ≡ body_server (end_class body_wiring body_class e))
body_which (PartEnd zero zero) c h = inr refl
body_which (PartEnd zero (suc j)) c h = absurd (grind (arith, h))
body_which (PartEnd (suc zero) zero) c h = inl refl
body_which (PartEnd (suc zero) (suc zero)) c h = inl refl
body_which (PartEnd (suc zero) (suc (suc zero))) c h = inr refl
body_which (PartEnd (suc zero) (suc (suc (suc j)))) c h = absurd (grind (arith, h))
body_which (PartEnd (suc (suc zero)) zero) c h = inr refl
body_which (PartEnd (suc (suc zero)) (suc j)) c h = absurd (grind (arith, h))
body_which (PartEnd (suc (suc (suc i))) j) c h = absurd (grind (arith, h))
body_which (ImportEnd zero zero) c h = inl refl
body_which (ImportEnd zero (suc zero)) c h = inl refl
body_which (ImportEnd zero (suc (suc zero))) c h = inr refl
body_which (ImportEnd zero (suc (suc (suc j)))) c h = absurd (grind (arith, h))
body_which (ImportEnd (suc i) j) c h = absurd (grind (arith, h))
body_which (ResultEnd zero) c h = inl refl
body_which (ResultEnd (suc j)) c h = absurd (grind (arith, h))

body_turned : (k : ℕ) (c d : Contact) → body_asker k ≢ body_server k → contact_at first_written (body_asker k) ≡ Some c → contact_at first_written (body_server k) ≡ Some d
    → (d ≡ turned_contact c) × (c ≡ turned_contact d)
body_turned zero c d apart one other = (grind (arith, one, other), grind (arith, one, other))
body_turned (suc zero) c d apart one other = (grind (arith, one, other), grind (arith, one, other))
body_turned (suc (suc zero)) c d apart one other = (grind (arith, one, other), grind (arith, one, other))
body_turned (suc (suc (suc zero))) c d apart one other = (grind (arith, one, other), grind (arith, one, other))
body_turned (suc (suc (suc (suc k)))) c d apart one other = absurd (apart refl)

body_joined : (k q v : ℕ) → contact_at first_written (body_asker k) ≡ Some (asks q v) → contact_at first_written (body_server k) ≡ Some (serves q v)
    → Contains first_written.joints (joint (body_asker k) (body_server k))
body_joined zero q v asked served = (0, omega arith, refl)
body_joined (suc zero) q v asked served = (1, omega arith, refl)
body_joined (suc (suc zero)) q v asked served = (2, omega arith, refl)
body_joined (suc (suc (suc zero))) q v asked served = (3, omega arith, refl)
body_joined (suc (suc (suc (suc k)))) q v asked served = absurd (grind (arith, asked))

body_not_back : (k q v : ℕ) → contact_at first_written (body_server k) ≡ Some (asks q v) → contact_at first_written (body_asker k) ≡ Some (serves q v) → ⊥
body_not_back zero q v asked served = grind (arith, asked)
body_not_back (suc zero) q v asked served = grind (arith, asked)
body_not_back (suc (suc zero)) q v asked served = grind (arith, asked)
body_not_back (suc (suc (suc zero))) q v asked served = grind (arith, asked)
body_not_back (suc (suc (suc (suc k)))) q v asked served = grind (arith, asked)

body_paired : IsPaired body_wiring body_class first_written body_asker body_server
body_paired =
    record {
      plans = ((refl, (refl, (refl, tt))), ((refl, tt), ((refl, tt), tt)));
      links = (refl, (refl, tt));
      which = body_which;
      turned = body_turned;
      joined = body_joined;
      not_back = body_not_back;
    }

body_connects : (d e : End) → Contains first_written.joints (joint d e) → Connects body_wiring first_written d e
body_connects d e (zero, l, at) =
    subst (λ (j : Joint). Connects body_wiring first_written j.asking j.serving) at (0, 1, 1, refl, refl, (place 0 (PartEnd 0 0), inl (applied_plan, joint (ImportEnd 0 0) (PartEnd 0 0), refl, refl, (0, omega arith, refl), inl (refl, refl)), refl))
body_connects d e (suc zero, l, at) =
    subst (λ (j : Joint). Connects body_wiring first_written j.asking j.serving) at (0, 0, 1, refl, refl, (place 1 (PartEnd 0 2), inl (lone (kinds.Assign 8) 2 Com, joint (ResultEnd 0) (PartEnd 0 2), refl, refl, (0, omega arith, refl), inl (refl, refl)), refl))
body_connects d e (suc (suc zero), l, at) =
    subst (λ (j : Joint). Connects body_wiring first_written j.asking j.serving) at (0, 8, 2, refl, refl, (place 2 (ResultEnd 0), inr (link 1 (PartEnd 0 0) 2 (ResultEnd 0), (1, omega arith, refl), inl (refl, refl)), (place 2 (PartEnd 0 0), inl (lone (kinds.Lit 8 5) 0 (Exp 8), joint (ResultEnd 0) (PartEnd 0 0), refl, refl, (0, omega arith, refl), inl (refl, refl)), refl)))
body_connects d e (suc (suc (suc zero)), l, at) =
    subst (λ (j : Joint). Connects body_wiring first_written j.asking j.serving) at (8, 0, 2, refl, refl, (place 0 (ResultEnd 1), inr (link 0 (ResultEnd 1) 1 (PartEnd 0 1), (0, omega arith, refl), inr (refl, refl)), (place 0 (ImportEnd 0 2), inl (applied_plan, joint (ResultEnd 1) (ImportEnd 0 2), refl, refl, (2, omega arith, refl), inl (refl, refl)), refl)))
body_connects d e (suc (suc (suc (suc k))), l, at) = absurd (omega (arith, l))

body_right : IsRight first_written
body_right = (((0, 1, refl, refl), refl, refl), (((0, 0, refl, refl), refl, refl), (((0, 8, refl, refl), refl, refl), (((8, 0, refl, refl), refl, refl), tt))))

body_result : (h : ℕ) (c : Contact) → slice_get (contacts_of Com) h ≡ Some c → slice_get (contacts_of Com) (0 + h) ≡ Some c
body_result zero c there = there
body_result (suc h) c there = absurd (grind (arith, there))

pub is_body : IsJoined body_wiring first_written
is_body =
    record {
      fits = (variables_fit 8 5 applied_plan applied_right refl).1;
      joining =
          record {
            parts = refl;
            imports = refl;
            outcome = refl;
            weight = refl;
            right = body_right;
            result = body_result;
            fits = paired_fits body_wiring body_class first_written body_asker body_server body_paired;
            joints = λ d e. (body_connects d e, paired_joint body_wiring body_class first_written body_asker body_server body_paired d e);
          };
    }

abbrev at_number : Term
at_number = App (Import a) (terms.Lit 0 1)

wide : IsWidth 8
wide = (omega arith, omega arith)

narrow : IsWidth 1
narrow = (omega arith, omega arith)

name_typed : Typed (imported a array_type ∷ []) [] (Import a) array_type
name_typed = refl

number_typed : Typed [] [] (terms.Lit 0 1) (Exp 1)
number_typed = (refl, narrow, omega arith)

applied_is_open : RealisesOpen applied_plan at_number
applied_is_open =
    application_is_realised (Exp 1) (Var 8) (array_name a 1 8) (number_plan 0 1 0) applied_plan (Import a) (terms.Lit 0 1) (array_right a 1 8) number_right refl refl
    (λ j there. absurd (none_in_empty j there), tt) name_typed number_typed is_applied (array_name_is_open a 1 8) (literal_is_open 0 1 0 narrow (omega arith))

body_is_open : RealisesOpen first_written (Assign at_number (terms.Lit 5 8))
body_is_open = writing_is_realised 8 5 applied_plan first_written at_number applied_right refl (omega arith) is_body applied_is_open

body_is_regular : IsRegular first_written
body_is_regular =
    let number = literal_is_realised 0 1 0 narrow (omega arith) in
    let at = (array_name_is_realised a 1 8 wide).means (number_plan 0 1 0) applied_plan (terms.Lit 0 1) (λ i j has none. absurd (none_in_empty j none)) number.suits number.means is_applied in
    (at.1.1 first_written 5 (omega arith) is_body).0.regular

-- the function, with its parts in the body's order
abbrev moved_plan : Plan
moved_plan =
    record {
      weight = 0;
      imports = [];
      outcome = Fun array_type Com;
      parts = kinds.Lit 1 0 ∷ kinds.Assign 8 ∷ kinds.Lit 8 5 ∷ [];
      joints =
          joint (ResultEnd 0) (PartEnd 0 0) ∷ joint (ResultEnd 3) (PartEnd 1 2)
          ∷ joint (PartEnd 1 0) (PartEnd 2 0) ∷ joint (PartEnd 1 1) (ResultEnd 2) ∷ [];
    }

moved_right : IsRight moved_plan
moved_right = (((0, 1, refl, refl), refl, refl), (((0, 0, refl, refl), refl, refl), (((0, 8, refl, refl), refl, refl), (((8, 0, refl, refl), refl, refl), tt))))

abbrev opened_joint : Joint → Joint
opened_joint j = joint (opened 0 3 j.asking) (opened 0 3 j.serving)

to_body : (d e : End) → Contains moved_plan.joints (joint d e) → Contains first_written.joints (opened_joint (joint d e))
to_body d e (zero, l, at) = (0, omega arith, ap opened_joint at)
to_body d e (suc zero, l, at) = (1, omega arith, ap opened_joint at)
to_body d e (suc (suc zero), l, at) = (2, omega arith, ap opened_joint at)
to_body d e (suc (suc (suc zero)), l, at) = (3, omega arith, ap opened_joint at)
to_body d e (suc (suc (suc (suc k))), l, at) = absurd (omega (arith, l))

abbrev Comes : Joint → Type 0
Comes j = (c d : End) × Contains moved_plan.joints (joint c d) × (opened 0 3 c ≡ j.asking) × (opened 0 3 d ≡ j.serving)

of_body : (d e : End) → Contains first_written.joints (joint d e) → Comes (joint d e)
of_body d e (zero, l, at) = subst Comes at (ResultEnd 0, PartEnd 0 0, (0, omega arith, refl), refl, refl)
of_body d e (suc zero, l, at) = subst Comes at (ResultEnd 3, PartEnd 1 2, (1, omega arith, refl), refl, refl)
of_body d e (suc (suc zero), l, at) = subst Comes at (PartEnd 1 0, PartEnd 2 0, (2, omega arith, refl), refl, refl)
of_body d e (suc (suc (suc zero)), l, at) = subst Comes at (PartEnd 1 1, ResultEnd 2, (3, omega arith, refl), refl, refl)
of_body d e (suc (suc (suc (suc k))), l, at) = absurd (omega (arith, l))

is_function : IsFunctionOf (imported a array_type) moved_plan first_written
is_function =
    record {
      right = moved_right;
      body_right = body_right;
      parts = refl;
      imports = refl;
      outcome = refl;
      joints = to_body;
      no_more = of_body;
    }

body_typed : Typed [] (array_type ∷ []) (Assign (App (Bound 0) (terms.Lit 0 1)) (terms.Lit 5 8)) Com
body_typed = (8, refl, (Exp 1, refl, (refl, narrow, omega arith), λ z in_one in_other. none_in_empty z in_other), (refl, wide, omega arith))

moved_suits : Suits (Fun array_type Com) moved_plan writer
moved_suits =
    record {
      right = moved_right;
      literals = All-cons LiteralFits (kinds.Lit 1 0) (kinds.Assign 8 ∷ kinds.Lit 8 5 ∷ []) (omega arith)
          (All-cons LiteralFits (kinds.Assign 8) (kinds.Lit 8 5 ∷ []) tt (All-cons LiteralFits (kinds.Lit 8 5) [] (omega arith) no_literals));
      outcome = refl;
      all_ports = tt;
      names = tt;
      typed = (Com, refl, body_typed);
      regular = (function_is_regular (imported a array_type) moved_plan first_written is_function).0 body_is_regular;
    }

moved_is_realised : Realises (Fun array_type Com) moved_plan writer
moved_is_realised =
    function_realised (imported a array_type) moved_plan first_written (Assign (App (Bound 0) (terms.Lit 0 1)) (terms.Lit 5 8)) is_function
    (λ j there. absurd (none_in_empty j there), tt) body_typed [] tt moved_plan
    (record { fits = supplied_fits moved_plan [] moved_right tt; joining = alone_joins moved_plan moved_right }) moved_suits body_is_open

-- where each part stands there
abbrev forth : ℕ → ℕ
forth zero = 1
forth (suc zero) = 2
forth (suc (suc zero)) = 0
forth (suc (suc (suc k))) = suc (suc (suc k))

abbrev undo : ℕ → ℕ
undo zero = 2
undo (suc zero) = 0
undo (suc (suc zero)) = 1
undo (suc (suc (suc k))) = suc (suc (suc k))

abbrev turn : Renumber
turn = record { part = forth; part_back = undo; import = λ k. k; import_back = λ k. k }

forth_undo : (k : ℕ) → undo (forth k) ≡ k
forth_undo zero = refl
forth_undo (suc zero) = refl
forth_undo (suc (suc zero)) = refl
forth_undo (suc (suc (suc k))) = refl

undo_forth : (k : ℕ) → forth (undo k) ≡ k
undo_forth zero = refl
undo_forth (suc zero) = refl
undo_forth (suc (suc zero)) = refl
undo_forth (suc (suc (suc k))) = refl

turns : IsOneToOne turn
turns = record { parts = forth_undo; parts_back = undo_forth; imports = λ k. refl; imports_back = λ k. refl }

parts_turned : (k : ℕ) → slice_get moved_plan.parts (forth k) ≡ slice_get writer_plan.parts k
parts_turned zero = refl
parts_turned (suc zero) = refl
parts_turned (suc (suc zero)) = refl
parts_turned (suc (suc (suc k))) = refl

abbrev turned_joint : Renumber → Joint → Joint
turned_joint f j = joint (moved_end f j.asking) (moved_end f j.serving)

to_moved : (d e : End) → Contains writer_plan.joints (joint d e) → Contains moved_plan.joints (turned_joint turn (joint d e))
to_moved d e (zero, l, at) = (1, omega arith, ap (turned_joint turn) at)
to_moved d e (suc zero, l, at) = (2, omega arith, ap (turned_joint turn) at)
to_moved d e (suc (suc zero), l, at) = (3, omega arith, ap (turned_joint turn) at)
to_moved d e (suc (suc (suc zero)), l, at) = (0, omega arith, ap (turned_joint turn) at)
to_moved d e (suc (suc (suc (suc k))), l, at) = absurd (omega (arith, l))

of_moved : (d e : End) → Contains moved_plan.joints (joint d e) → Contains writer_plan.joints (turned_joint (back turn) (joint d e))
of_moved d e (zero, l, at) = (3, omega arith, ap (turned_joint (back turn)) at)
of_moved d e (suc zero, l, at) = (0, omega arith, ap (turned_joint (back turn)) at)
of_moved d e (suc (suc zero), l, at) = (1, omega arith, ap (turned_joint (back turn)) at)
of_moved d e (suc (suc (suc zero)), l, at) = (2, omega arith, ap (turned_joint (back turn)) at)
of_moved d e (suc (suc (suc (suc k))), l, at) = absurd (omega (arith, l))

returned : (e : End) → moved_end (back turn) (moved_end turn e) ≡ e
returned (PartEnd k h) = ap (λ (i : ℕ). PartEnd i h) (forth_undo k)
returned (ImportEnd k h) = refl
returned (ResultEnd h) = refl

from_moved : (d e : End) → Contains writer_plan.joints (turned_joint (back turn) (turned_joint turn (joint d e))) → Contains writer_plan.joints (joint d e)
from_moved d e has = let one = returned d in let other = returned e in subst (Contains writer_plan.joints) (λ i. joint (one i) (other i)) has

is_moved : IsRenumbered turn writer_plan moved_plan
is_moved =
    record {
      one_to_one = turns;
      parts = parts_turned;
      imports = λ k. refl;
      outcome = refl;
      joints = λ d e. (to_moved d e, λ has. from_moved d e (of_moved (moved_end turn d) (moved_end turn e) has));
      right = (((0, 0, refl, refl), refl, refl), (((0, 8, refl, refl), refl, refl), (((8, 0, refl, refl), refl, refl), (((0, 1, refl, refl), refl, refl), tt))));
      also_right = moved_right;
    }

pub writer_is_realised : Realises (Fun array_type Com) writer_plan writer
writer_is_realised = renumbered_is_realised turn writer_plan moved_plan (Fun array_type Com) writer is_moved moved_is_realised
