-- The plan of `new x : 1 in skip`.
use Rattle.std.specs.Prelude.{◌≡◌, ◌⊎◌, ℕ, zero, suc, [], ◌∷◌, Some, All, Contains, slice_get}
use Rattle.std.proofs.Common.{arith, refl, sym, ap, subst, inl, inr}
use Rattle.std.proofs.lemmas.List.Elements.{All-nil, All-cons}
use Rattle.std.proofs.lemmas.Option.{none-some, same_Some}
use Rattle.gos_types.proofs.ListLemmas.{none_in_empty}
use Rattle.gos_model.specs.Terms as terms
use Rattle.gos_model.specs.Typing.{Imported}
use Rattle.gos_plan.specs.Kinds.{Part, Skip, Local}
use Rattle.gos_plan.specs.Plans.{End, PartEnd, ImportEnd, ResultEnd, Joint, contact_at, IsRight}
use Rattle.gos_plan.specs.Tokens.{IsPortEnd}
use Rattle.gos_plan.specs.TokenBits.{LiteralFits}
use Rattle.gos_plan.proofs.JointLemmas.{result_is_no_import}
use Rattle.gos_joining.specs.webs.Webs.{joint}
use Rattle.gos_joining.specs.webs.Cutting.{lies_at, IsInside, IsOutside, StandsIn, IsCut}
use Rattle.gos_joining.proofs.webs.SmallWebLemmas.{one_port}
use Rattle.gos_nodes.specs.parallel.Parallel.{IsJointOf, IsPartOf}
use Rattle.gos_nodes.specs.parallel.SmallParallel.{skip_number}
use Rattle.gos_nodes.proofs.blocks.DriverLemmas.{local_is_server}
use Rattle.gos_nodes.proofs.windows.OpenLemmas.{ground_heard}
use Rattle.gos_nodes.proofs.blocks.RealisesLemmas.{block_realises}
use Rattle.gos_nodes.specs.blocks.SmallBlocks.{skip_block, one_bit, unused, new_skip, body_outer, body_inner, body_out, NewSkipIsBlock, NewSkipIsRealised, VariableIsNeeded, WidthIsNeeded, OtherPartIsNot}

whole_is_right : IsRight new_skip
whole_is_right = (((0, 0, refl, refl), refl, refl), (((0, 0, refl, refl), refl, refl), tt))

pub its_parts : (i : ℕ) (k : Part) → slice_get unused.parts i ≡ Some k → (slice_get new_skip.parts 1 ≡ Some k) × (Some 0 ≡ Some i)
its_parts zero k is = (is, refl)
its_parts (suc i) k is = absurd (none-some k is)

pub its_numbers : (i j : ℕ) → skip_number i ≡ Some j → (1 ≡ i) × ((k : Part) × (slice_get unused.parts j ≡ Some k))
its_numbers zero j is = absurd (none-some j is)
its_numbers (suc zero) j is = (refl, (Skip, ap (λ n. slice_get unused.parts n) (sym (same_Some 0 j is))))
its_numbers (suc (suc i)) j is = absurd (none-some j is)

pub its_inners : (x e : End) → body_inner x ≡ Some e → IsPortEnd e × StandsIn unused e × (body_outer e ≡ x)
its_inners (PartEnd zero zero) e is =
    subst (λ x. IsPortEnd x × StandsIn unused x × (body_outer x ≡ PartEnd 0 0)) (same_Some (ResultEnd 0) e is)
    (tt, (joint (ResultEnd 0) (PartEnd 0 0), (0, omega arith, refl), refl), refl)
its_inners (PartEnd zero (suc h)) e is = absurd (none-some e is)
its_inners (PartEnd (suc i) h) e is = absurd (none-some e is)
its_inners (ImportEnd i h) e is = absurd (none-some e is)
its_inners (ResultEnd h) e is = absurd (none-some e is)

its_joints : (a e : End) → Contains unused.joints (joint a e) → Contains new_skip.joints (joint (lies_at body_out a) (lies_at body_out e))
its_joints a e (zero, l, is) = (1, omega arith, ap (λ (j : Joint). joint (lies_at body_out j.asking) (lies_at body_out j.serving)) is)
its_joints a e (suc n, l, is) = absurd (omega (arith, l))

abbrev Inside : Joint → Type 0
Inside j = IsInside body_out j.asking ⊎ IsInside body_out j.serving

run_outside : Inside (joint (ResultEnd 0) (PartEnd 0 3)) → ⊥
run_outside (inl h) = h
run_outside (inr (j, h)) = none-some j h

all_joints : (a e : End) → Contains new_skip.joints (joint a e) → IsInside body_out a ⊎ IsInside body_out e
    → (x y : End) × Contains unused.joints (joint x y) × (lies_at body_out x ≡ a) × (lies_at body_out y ≡ e)
all_joints a e (zero, l, is) inside = absurd (run_outside (subst (λ (j : Joint). Inside j) (sym is) inside))
all_joints a e (suc zero, l, is) inside =
    (ResultEnd 0, PartEnd 0 0, (0, omega arith, refl), ap (λ (j : Joint). j.asking) is, ap (λ (j : Joint). j.serving) is)
all_joints a e (suc (suc n), l, is) inside = absurd (omega (arith, l))

body_is_cut : IsCut body_out new_skip unused
body_is_cut =
    record {
      whole_right = whole_is_right;
      right = (((0, 0, refl, refl), refl, refl), tt);
      parts = its_parts;
      numbers = its_numbers;
      ports = λ e port stands.
          subst (λ (x : End). IsOutside body_out (body_outer x) × (body_inner (body_outer x) ≡ Some x)) (one_port e port stands) (refl, refl);
      inners = its_inners;
      contacts = λ e port stands. subst (λ (x : End). contact_at new_skip (body_outer x) ≡ contact_at unused x) (one_port e port stands) refl;
      joints = its_joints;
      all = all_joints;
    }

one_import : (i : Imported) → Contains unused.imports i → (i ≡ one_bit) ⊎ Contains new_skip.imports i
one_import i (zero, l, is) = inl (sym is)
one_import i (suc n, l, is) = absurd (omega (arith, l))

whole_joints : (a e : End) → Contains new_skip.joints (joint a e) → IsJointOf body_out unused a e ⊎ ((a ≡ ResultEnd 0) × (e ≡ PartEnd 0 3))
whole_joints a e (zero, l, is) = inr (sym (ap (λ (j : Joint). j.asking) is), sym (ap (λ (j : Joint). j.serving) is))
whole_joints a e (suc zero, l, is) =
    inl (ResultEnd 0, PartEnd 0 0, (0, omega arith, refl), ap (λ (j : Joint). j.asking) is, ap (λ (j : Joint). j.serving) is)
whole_joints a e (suc (suc n), l, is) = absurd (omega (arith, l))

whole_parts : (i : ℕ) (k : Part) → slice_get new_skip.parts i ≡ Some k → IsPartOf body_out i ⊎ (i ≡ 0)
whole_parts zero k is = inr refl
whole_parts (suc zero) k is = inl (0, refl)
whole_parts (suc (suc i)) k is = absurd (none-some k is)

pub new_skip_is_block : NewSkipIsBlock
new_skip_is_block =
    record {
      cut = body_is_cut;
      done = tt;
      outcome = refl;
      server = local_is_server 1 0;
      own = refl;
      outside = refl;
      result = refl;
      there = refl;
      type = refl;
      served = λ h. refl;
      imports = λ i h apart stands. absurd (result_is_no_import i h (one_port (ImportEnd i h) tt stands));
      others = one_import;
      fresh = λ i has. absurd (none_in_empty i has);
      run = (0, omega arith, refl);
      joints = whole_joints;
      parts = whole_parts;
    }

-- what it is not
pub variable_is_needed : VariableIsNeeded
variable_is_needed is = none-some one_bit is.there

pub width_is_needed : WidthIsNeeded
width_is_needed is = let e = is.type in cc e

pub other_part_is_not : OtherPartIsNot
other_part_is_not is = cc is.own

-- what else the law asks for
literals : All LiteralFits new_skip.parts
literals = All-cons LiteralFits (Local 1 0) (Skip ∷ []) tt (All-cons LiteralFits Skip [] tt (All-nil LiteralFits))

pub new_skip_is_realised : NewSkipIsRealised
new_skip_is_realised body = block_realises new_skip skip_block 1 terms.Skip new_skip_is_block (ground_heard body_out new_skip unused (tt, tt) tt) refl literals tt tt (tt, (omega arith, omega arith), refl) body
