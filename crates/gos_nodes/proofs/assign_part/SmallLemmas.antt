-- The plan of `x := 8:1` is a write at a port, and what is none.
use Rattle.std.specs.Prelude.{◌≡◌, ◌⊎◌, ℕ, zero, suc, [], ◌∷◌, Some, Contains, slice_get}
use Rattle.std.proofs.Common.{arith, refl, sym, ap, subst, inl, inr}
use Rattle.std.proofs.lemmas.Option.{none-some, same_Some}
use Rattle.gos_types.specs.Types.{Type', Exp}
use Rattle.gos_plan.specs.Kinds.{Part, Lit, Assign}
use Rattle.gos_plan.specs.Plans.{End, PartEnd, ImportEnd, ResultEnd, Joint, IsRight}
use Rattle.gos_plan.proofs.JointLemmas.{result_is_no_import}
use Rattle.gos_joining.specs.webs.Webs.{joint}
use Rattle.gos_joining.specs.webs.Cutting.{IsCut}
use Rattle.gos_joining.proofs.webs.LoneCutLemmas.{AreOutside, lone_is_cut}
use Rattle.gos_joining.proofs.webs.SmallWebLemmas.{one_port}
use Rattle.gos_nodes.specs.assign_part.Writes.{IsJointOf}
use Rattle.gos_nodes.specs.assign_part.SmallWrites.{write_plan, one_plan, one_number, one_inner, one_out, OneIsWritten, LitDoesNotWrite, SevenBitsDoNotFit, UnjoinedDoesNotWrite}

whole_is_right : IsRight write_plan
whole_is_right = (((0, 0, refl, refl), refl, refl), (((0, 8, refl, refl), refl, refl), (((8, 0, refl, refl), refl, refl), tt)))

one_is_right : IsRight one_plan
one_is_right = (((0, 8, refl, refl), refl, refl), tt)

one_numbers : (i j : ℕ) → one_number i ≡ Some j → (1 ≡ i) × (0 ≡ j)
one_numbers zero j is = absurd (none-some j is)
one_numbers (suc zero) j is = (refl, same_Some 0 j is)
one_numbers (suc (suc i)) j is = absurd (none-some j is)

one_ports : (b e : End) → one_inner b ≡ Some e → (PartEnd 0 0 ≡ b) × (ResultEnd 0 ≡ e)
one_ports (PartEnd zero zero) e is = (refl, same_Some (ResultEnd 0) e is)
one_ports (PartEnd zero (suc h)) e is = absurd (none-some e is)
one_ports (PartEnd (suc i) h) e is = absurd (none-some e is)
one_ports (ImportEnd i h) e is = absurd (none-some e is)
one_ports (ResultEnd h) e is = absurd (none-some e is)

one_joints : (j : Joint) → Contains write_plan.joints j → (joint (PartEnd 0 0) (PartEnd 1 0) ≡ j) ⊎ AreOutside one_out j
one_joints j (zero, l, e) = inr (subst (AreOutside one_out) e (tt, refl))
one_joints j (suc zero, l, e) = inl e
one_joints j (suc (suc zero), l, e) = inr (subst (AreOutside one_out) e (refl, tt))
one_joints j (suc (suc (suc n)), l, e) = absurd (omega (arith, l))

one_is_cut : IsCut one_out write_plan one_plan
one_is_cut =
    lone_is_cut 9 (Exp 8) (Lit 8 1) 1 (PartEnd 0 0) one_number one_inner write_plan
    (record {
      whole_right = whole_is_right;
      right = one_is_right;
      part = refl;
      own_number = refl;
      one_number = one_numbers;
      outside = refl;
      own_port = refl;
      one_port = one_ports;
      contact = refl;
      asked = (1, omega arith, refl);
      joints = one_joints;
    })

whole_joints : (a b : End) → Contains write_plan.joints (joint a b)
    → IsJointOf one_out one_plan a b ⊎ (((a ≡ ResultEnd 0) × (b ≡ PartEnd 0 2)) ⊎ ((a ≡ PartEnd 0 1) × (b ≡ ImportEnd 0 1)))
whole_joints a b (zero, l, e) = inr (inl (sym (ap (λ (j : Joint). j.asking) e), sym (ap (λ (j : Joint). j.serving) e)))
whole_joints a b (suc zero, l, e) =
    inl (ResultEnd 0, PartEnd 0 0, (0, omega arith, refl), ap (λ (j : Joint). j.asking) e, ap (λ (j : Joint). j.serving) e)
whole_joints a b (suc (suc zero), l, e) = inr (inr (sym (ap (λ (j : Joint). j.asking) e), sym (ap (λ (j : Joint). j.serving) e)))
whole_joints a b (suc (suc (suc n)), l, e) = absurd (omega (arith, l))

whole_parts : (i : ℕ) (n : Part) → slice_get write_plan.parts i ≡ Some n → (i ≡ 0) ⊎ ((j : ℕ) × (one_number i ≡ Some j))
whole_parts zero n is = inl refl
whole_parts (suc zero) n is = inr (0, refl)
whole_parts (suc (suc i)) n is = absurd (none-some n is)

pub one_is_written : OneIsWritten
one_is_written =
    record {
      cut = one_is_cut;
      number = refl;
      outside = refl;
      asked = refl;
      imports = λ i h stands. absurd (result_is_no_import i h (one_port (ImportEnd i h) tt stands));
      among = λ x t is. absurd (none-some t is);
      outcome = refl;
      own = refl;
      variable = refl;
      run = (0, omega arith, refl);
      write = (2, omega arith, refl);
      joints = whole_joints;
      parts = whole_parts;
    }

-- what is none
pub lit_does_not_write : LitDoesNotWrite
lit_does_not_write is = let e : Some (Lit 8 1) ≡ Some (Assign 8) = is.own in cc e

abbrev width_of : Type' → ℕ
width_of (Exp w) = w
width_of t = 0

pub seven_bits_do_not_fit : SevenBitsDoNotFit
seven_bits_do_not_fit is = let eq : 8 ≡ 7 = ap width_of is.number in omega (arith, eq)

pub unjoined_does_not_write : UnjoinedDoesNotWrite
unjoined_does_not_write is = none is.write
  where
    first : joint (ResultEnd 0) (PartEnd 0 2) ≡ joint (PartEnd 0 1) (ImportEnd 0 1) → ⊥
    first e = let a : ResultEnd 0 ≡ PartEnd 0 1 = ap (λ (j : Joint). j.asking) e in cc a

    second : joint (PartEnd 0 0) (PartEnd 1 0) ≡ joint (PartEnd 0 1) (ImportEnd 0 1) → ⊥
    second e = let a : PartEnd 1 0 ≡ ImportEnd 0 1 = ap (λ (j : Joint). j.serving) e in cc a

    none : Contains (joint (ResultEnd 0) (PartEnd 0 2) ∷ joint (PartEnd 0 0) (PartEnd 1 0) ∷ []) (joint (PartEnd 0 1) (ImportEnd 0 1)) → ⊥
    none (zero, l, e) = first e
    none (suc zero, l, e) = second e
    none (suc (suc n), l, e) = omega (arith, l)
