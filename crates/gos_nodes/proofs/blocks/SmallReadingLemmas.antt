-- A block whose body reads an array, and leaves the index unjoined.
use Rattle.std.specs.Prelude.{◌≡◌, ◌≢◌, ◌⊎◌, ℕ, zero, suc, true, Some, Contains, slice_get}
use Rattle.std.proofs.Common.{arith, refl, sym, ap, subst, inl, inr}
use Rattle.std.proofs.lemmas.Option.{none-some, same_Some}
use Rattle.gos_types.proofs.ListLemmas.{none_in_empty}
use Rattle.gos_model.specs.Typing.{Imported}
use Rattle.gos_plan.specs.Kinds.{Part, Deref}
use Rattle.gos_plan.specs.Plans.{End, PartEnd, ImportEnd, ResultEnd, Joint, contact_at, stands_in, IsRight}
use Rattle.gos_plan.specs.Tokens.{IsPortEnd}
use Rattle.gos_plan.proofs.JointLemmas.{which_end}
use Rattle.gos_joining.specs.webs.Webs.{joint}
use Rattle.gos_joining.specs.webs.Cutting.{lies_at, IsInside, IsOutside, StandsIn}
use Rattle.gos_nodes.specs.parallel.Parallel.{IsJointOf, IsPartOf}
use Rattle.gos_nodes.specs.parallel.SmallParallel.{skip_number}
use Rattle.gos_nodes.specs.blocks.SmallBlocks.{two_bits, body_outer, reading, new_reading, reading_inner, reading_out, ReadingIsBlock}
use Rattle.gos_nodes.proofs.blocks.ArrayDriverLemmas.{array_is_server}

whole_is_right : IsRight new_reading
whole_is_right = (((0, 1, refl, refl), refl, refl), (((0, 1, refl, refl), refl, refl), (((0, 1, refl, refl), refl, refl), tt)))

its_parts : (i : ℕ) (k : Part) → slice_get reading.parts i ≡ Some k → (slice_get new_reading.parts 1 ≡ Some k) × (Some 0 ≡ Some i)
its_parts zero k is = (is, refl)
its_parts (suc i) k is = absurd (none-some k is)

its_numbers : (i j : ℕ) → skip_number i ≡ Some j → (1 ≡ i) × ((k : Part) × (slice_get reading.parts j ≡ Some k))
its_numbers zero j is = absurd (none-some j is)
its_numbers (suc zero) j is = (refl, (Deref 1, ap (λ n. slice_get reading.parts n) (sym (same_Some 0 j is))))
its_numbers (suc (suc i)) j is = absurd (none-some j is)

-- its ports in joints are the result and the read
abbrev Port : End → Type 0
Port e = (e ≡ ResultEnd 0) ⊎ (e ≡ ImportEnd 0 1)

which_port : (e : End) → IsPortEnd e → StandsIn reading e → Port e
which_port e port (j, (zero, l, is), stands) =
    elim (which_end e (joint (ResultEnd 0) (PartEnd 0 1)) (subst (λ (x : Joint). stands_in e x ≡ true) (sym is) stands)) [
      | inl one ↦ inl one
      | inr other ↦ absurd (subst IsPortEnd other port)
    ]
which_port e port (j, (suc zero, l, is), stands) =
    elim (which_end e (joint (PartEnd 0 0) (ImportEnd 0 1)) (subst (λ (x : Joint). stands_in e x ≡ true) (sym is) stands)) [
      | inl one ↦ absurd (subst IsPortEnd one port)
      | inr other ↦ inr other
    ]
which_port e port (j, (suc (suc n), l, is), stands) = absurd (omega (arith, l))

its_ports : (e : End) → Port e → IsOutside reading_out (body_outer e) × (reading_inner (body_outer e) ≡ Some e)
its_ports e (inl same) = subst (λ (x : End). IsOutside reading_out (body_outer x) × (reading_inner (body_outer x) ≡ Some x)) (sym same) (refl, refl)
its_ports e (inr same) = subst (λ (x : End). IsOutside reading_out (body_outer x) × (reading_inner (body_outer x) ≡ Some x)) (sym same) (refl, refl)

its_contacts : (e : End) → Port e → contact_at new_reading (body_outer e) ≡ contact_at reading e
its_contacts e (inl same) = subst (λ (x : End). contact_at new_reading (body_outer x) ≡ contact_at reading x) (sym same) refl
its_contacts e (inr same) = subst (λ (x : End). contact_at new_reading (body_outer x) ≡ contact_at reading x) (sym same) refl

its_inners : (x e : End) → reading_inner x ≡ Some e → IsPortEnd e × StandsIn reading e × (body_outer e ≡ x)
its_inners (PartEnd zero zero) e is =
    subst (λ y. IsPortEnd y × StandsIn reading y × (body_outer y ≡ PartEnd 0 0)) (same_Some (ResultEnd 0) e is)
    (tt, (joint (ResultEnd 0) (PartEnd 0 1), (0, omega arith, refl), refl), refl)
its_inners (PartEnd zero (suc zero)) e is = absurd (none-some e is)
its_inners (PartEnd zero (suc (suc zero))) e is =
    subst (λ y. IsPortEnd y × StandsIn reading y × (body_outer y ≡ PartEnd 0 2)) (same_Some (ImportEnd 0 1) e is)
    (tt, (joint (PartEnd 0 0) (ImportEnd 0 1), (1, omega arith, refl), refl), refl)
its_inners (PartEnd zero (suc (suc (suc h)))) e is = absurd (none-some e is)
its_inners (PartEnd (suc i) h) e is = absurd (none-some e is)
its_inners (ImportEnd i h) e is = absurd (none-some e is)
its_inners (ResultEnd h) e is = absurd (none-some e is)

its_joints : (a e : End) → Contains reading.joints (joint a e) → Contains new_reading.joints (joint (lies_at reading_out a) (lies_at reading_out e))
its_joints a e (zero, l, is) = (1, omega arith, ap (λ (j : Joint). joint (lies_at reading_out j.asking) (lies_at reading_out j.serving)) is)
its_joints a e (suc zero, l, is) = (2, omega arith, ap (λ (j : Joint). joint (lies_at reading_out j.asking) (lies_at reading_out j.serving)) is)
its_joints a e (suc (suc n), l, is) = absurd (omega (arith, l))

abbrev Inside : Joint → Type 0
Inside j = IsInside reading_out j.asking ⊎ IsInside reading_out j.serving

run_outside : Inside (joint (ResultEnd 0) (PartEnd 0 4)) → ⊥
run_outside (inl h) = h
run_outside (inr (j, h)) = none-some j h

of_body : (a e : End) → Contains new_reading.joints (joint a e) → (joint (ResultEnd 0) (PartEnd 0 4) ≡ joint a e) ⊎ IsJointOf reading_out reading a e
of_body a e (zero, l, is) = inl is
of_body a e (suc zero, l, is) =
    inr (ResultEnd 0, PartEnd 0 1, (0, omega arith, refl), ap (λ (j : Joint). j.asking) is, ap (λ (j : Joint). j.serving) is)
of_body a e (suc (suc zero), l, is) =
    inr (PartEnd 0 0, ImportEnd 0 1, (1, omega arith, refl), ap (λ (j : Joint). j.asking) is, ap (λ (j : Joint). j.serving) is)
of_body a e (suc (suc (suc i)), l, is) = absurd (omega (arith, l))

all_joints : (a e : End) → Contains new_reading.joints (joint a e) → IsInside reading_out a ⊎ IsInside reading_out e → IsJointOf reading_out reading a e
all_joints a e has inside =
    elim (of_body a e has) [ inl run ↦ absurd (run_outside (subst (λ (j : Joint). Inside j) (sym run) inside)) | inr one ↦ one ]

whole_joints : (a e : End) → Contains new_reading.joints (joint a e) → IsJointOf reading_out reading a e ⊎ ((a ≡ ResultEnd 0) × (e ≡ PartEnd 0 4))
whole_joints a e has =
    elim (of_body a e has) [
      | inl run ↦ inr (sym (ap (λ (j : Joint). j.asking) run), sym (ap (λ (j : Joint). j.serving) run))
      | inr one ↦ inl one
    ]

one_import : (i : Imported) → Contains reading.imports i → (i ≡ two_bits) ⊎ Contains new_reading.imports i
one_import i (zero, l, is) = inl (sym is)
one_import i (suc n, l, is) = absurd (omega (arith, l))

whole_parts : (i : ℕ) (k : Part) → slice_get new_reading.parts i ≡ Some k → IsPartOf reading_out i ⊎ (i ≡ 0)
whole_parts zero k is = inr refl
whole_parts (suc zero) k is = inl (0, refl)
whole_parts (suc (suc i)) k is = absurd (none-some k is)

-- it has one import
no_other : (i h : ℕ) → i ≢ 0 → Port (ImportEnd i h) → ⊥
no_other i h apart (inl same) = cc same
no_other i h apart (inr same) = let one : i ≡ 0 = cc same in apart one

same_shake : (h k : ℕ) → ImportEnd 0 h ≡ ImportEnd 0 k → h ≡ k
same_shake h k e = cc e

not_index : Port (ImportEnd 0 0) → ⊥
not_index (inl same) = cc same
not_index (inr same) = let shake = same_shake 0 1 same in omega (arith, shake)

pub reading_is_block : ReadingIsBlock
reading_is_block = (
  record {
    cut =
        record {
          whole_right = whole_is_right;
          right = (((0, 1, refl, refl), refl, refl), (((0, 1, refl, refl), refl, refl), tt));
          parts = its_parts;
          numbers = its_numbers;
          ports = λ e port stands. its_ports e (which_port e port stands);
          inners = its_inners;
          contacts = λ e port stands. its_contacts e (which_port e port stands);
          joints = its_joints;
          all = all_joints;
        };
    done = tt;
    outcome = refl;
    server = array_is_server 1 2 1;
    own = refl;
    outside = refl;
    result = refl;
    there = refl;
    type = refl;
    served = λ h. refl;
    imports = λ i h apart stands. absurd (no_other i h apart (which_port (ImportEnd i h) tt stands));
    others = one_import;
    fresh = λ i has. absurd (none_in_empty i has);
    run = (0, omega arith, refl);
    joints = whole_joints;
    parts = whole_parts;
  },
  λ stands. not_index (which_port (ImportEnd 0 0) tt stands),
)
