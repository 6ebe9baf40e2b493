-- The plan of `new a[2] : 1 in skip`. Its body lies in it as that of `new x : 1 in skip` does.
use Rattle.std.specs.Prelude.{◌≡◌, ◌⊎◌, ℕ, zero, suc, [], ◌∷◌, Some, All, Contains, slice_get}
use Rattle.std.proofs.Common.{arith, refl, sym, ap, subst, inl, inr}
use Rattle.std.proofs.lemmas.List.Elements.{All-nil, All-cons}
use Rattle.std.proofs.lemmas.Option.{none-some}
use Rattle.gos_types.proofs.ListLemmas.{none_in_empty}
use Rattle.gos_model.specs.Terms as terms
use Rattle.gos_model.specs.Typing.{Imported}
use Rattle.gos_plan.specs.Kinds.{Part, Skip, Array}
use Rattle.gos_plan.specs.Plans.{End, PartEnd, ImportEnd, ResultEnd, Joint, contact_at, IsRight}
use Rattle.gos_plan.specs.TokenBits.{LiteralFits}
use Rattle.gos_plan.proofs.JointLemmas.{result_is_no_import}
use Rattle.gos_joining.specs.webs.Webs.{joint}
use Rattle.gos_joining.specs.webs.Cutting.{lies_at, IsInside, IsOutside, StandsIn, IsCut}
use Rattle.gos_joining.proofs.webs.SmallWebLemmas.{one_port}
use Rattle.gos_nodes.specs.windows.OpenNodes.{IsHeard}
use Rattle.gos_nodes.specs.parallel.Parallel.{IsJointOf, IsPartOf}
use Rattle.gos_nodes.specs.blocks.SmallBlocks.{body_outer, body_inner, body_out, two_bits, unused_array, new_array, array_block, NewArrayIsBlock, NewArrayIsRealised, LengthIsNeeded}
use Rattle.gos_nodes.proofs.blocks.ArrayDriverLemmas.{array_is_server}
use Rattle.gos_nodes.proofs.blocks.RealisesLemmas.{array_block_realises}
use Rattle.gos_nodes.proofs.blocks.SmallBlockLemmas.{its_parts, its_numbers, its_inners}

whole_is_right : IsRight new_array
whole_is_right = (((0, 0, refl, refl), refl, refl), (((0, 0, refl, refl), refl, refl), tt))

its_joints : (a e : End) → Contains unused_array.joints (joint a e) → Contains new_array.joints (joint (lies_at body_out a) (lies_at body_out e))
its_joints a e (zero, l, is) = (1, omega arith, ap (λ (j : Joint). joint (lies_at body_out j.asking) (lies_at body_out j.serving)) is)
its_joints a e (suc n, l, is) = absurd (omega (arith, l))

abbrev Inside : Joint → Type 0
Inside j = IsInside body_out j.asking ⊎ IsInside body_out j.serving

run_outside : Inside (joint (ResultEnd 0) (PartEnd 0 4)) → ⊥
run_outside (inl h) = h
run_outside (inr (j, h)) = none-some j h

all_joints : (a e : End) → Contains new_array.joints (joint a e) → IsInside body_out a ⊎ IsInside body_out e
    → (x y : End) × Contains unused_array.joints (joint x y) × (lies_at body_out x ≡ a) × (lies_at body_out y ≡ e)
all_joints a e (zero, l, is) inside = absurd (run_outside (subst (λ (j : Joint). Inside j) (sym is) inside))
all_joints a e (suc zero, l, is) inside =
    (ResultEnd 0, PartEnd 0 0, (0, omega arith, refl), ap (λ (j : Joint). j.asking) is, ap (λ (j : Joint). j.serving) is)
all_joints a e (suc (suc n), l, is) inside = absurd (omega (arith, l))

body_is_cut : IsCut body_out new_array unused_array
body_is_cut =
    record {
      whole_right = whole_is_right;
      right = (((0, 0, refl, refl), refl, refl), tt);
      parts = its_parts;
      numbers = its_numbers;
      ports = λ e port stands.
          subst (λ (x : End). IsOutside body_out (body_outer x) × (body_inner (body_outer x) ≡ Some x)) (one_port e port stands) (refl, refl);
      inners = its_inners;
      contacts = λ e port stands. subst (λ (x : End). contact_at new_array (body_outer x) ≡ contact_at unused_array x) (one_port e port stands) refl;
      joints = its_joints;
      all = all_joints;
    }

one_import : (i : Imported) → Contains unused_array.imports i → (i ≡ two_bits) ⊎ Contains new_array.imports i
one_import i (zero, l, is) = inl (sym is)
one_import i (suc n, l, is) = absurd (omega (arith, l))

whole_joints : (a e : End) → Contains new_array.joints (joint a e)
    → IsJointOf body_out unused_array a e ⊎ ((a ≡ ResultEnd 0) × (e ≡ PartEnd 0 4))
whole_joints a e (zero, l, is) = inr (sym (ap (λ (j : Joint). j.asking) is), sym (ap (λ (j : Joint). j.serving) is))
whole_joints a e (suc zero, l, is) =
    inl (ResultEnd 0, PartEnd 0 0, (0, omega arith, refl), ap (λ (j : Joint). j.asking) is, ap (λ (j : Joint). j.serving) is)
whole_joints a e (suc (suc n), l, is) = absurd (omega (arith, l))

whole_parts : (i : ℕ) (k : Part) → slice_get new_array.parts i ≡ Some k → IsPartOf body_out i ⊎ (i ≡ 0)
whole_parts zero k is = inr refl
whole_parts (suc zero) k is = inl (0, refl)
whole_parts (suc (suc i)) k is = absurd (none-some k is)

-- no end of an import stands in a joint of the body
not_there : (i h : ℕ) → StandsIn unused_array (ImportEnd i h) → ⊥
not_there i h stands = result_is_no_import i h (one_port (ImportEnd i h) tt stands)

pub new_array_is_block : NewArrayIsBlock
new_array_is_block =
    record {
      cut = body_is_cut;
      done = tt;
      outcome = refl;
      server = array_is_server 1 2 0;
      own = refl;
      outside = refl;
      result = refl;
      there = refl;
      type = refl;
      served = λ h. refl;
      imports = λ i h apart stands. absurd (not_there i h stands);
      others = one_import;
      fresh = λ i has. absurd (none_in_empty i has);
      run = (0, omega arith, refl);
      joints = whole_joints;
      parts = whole_parts;
    }

heard : IsHeard body_out new_array unused_array
heard i h n k x stands outer at asks = absurd (not_there i h stands)

literals : All LiteralFits new_array.parts
literals = All-cons LiteralFits (Array 1 2 0) (Skip ∷ []) tt (All-cons LiteralFits Skip [] tt (All-nil LiteralFits))

pub new_array_is_realised : NewArrayIsRealised
new_array_is_realised body =
    array_block_realises new_array array_block 2 1 terms.Skip new_array_is_block heard refl literals tt tt (tt, inl refl, (omega arith, omega arith), refl) body

-- what it is not
pub length_is_needed : LengthIsNeeded
length_is_needed = (λ is. cc is.own, λ is. cc is.own)
