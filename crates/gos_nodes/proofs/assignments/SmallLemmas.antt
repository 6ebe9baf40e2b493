-- The plan of `x := 8:1` is a write of two stages, and what is none.
use Rattle.std.specs.Prelude.{length, ◌<◌, slice_get, slice_index_or, Contains}
use Rattle.std.proofs.Common.{◌≡◌, ℕ, zero, suc, [], ◌∷◌, ◌⊎◌, Some, inl, inr, refl, sym, ◌∙◌, ap, subst, arith}
use Rattle.std.proofs.lemmas.Option.{none-some, same_Some}
use Rattle.gos_plan.specs.Kinds.{Part, Assign, Lit, Contact}
use Rattle.gos_plan.specs.Plans.{End, PartEnd, ImportEnd, ResultEnd, Joint, Plan, contact_at, IsRight}
use Rattle.gos_plan.specs.Tokens.{IsPortEnd, Out, In}
use Rattle.gos_plan.specs.TokenBits.{LiteralFits}
use Rattle.gos_realises.specs.realises.Realises.{NamesDiffer}
use Rattle.gos_joining.specs.webs.Webs.{joint}
use Rattle.gos_joining.specs.webs.Cutting.{lies_at, IsInside, IsOutside, StandsIn}
use Rattle.gos_joining.proofs.webs.SmallWebLemmas.{one_port}
use Rattle.gos_nodes.specs.assign_part.SmallWrites.{write_plan, one_plan, one_out}
use Rattle.gos_nodes.proofs.assign_part.SmallLemmas.{one_is_written}
use Rattle.gos_nodes.specs.windows.Regions.{IsRegion}
use Rattle.gos_nodes.specs.windows.Nodes.{Stage, IsOfStage}
use Rattle.gos_nodes.specs.windows.OneSession.{IsRegularAt}
use Rattle.gos_nodes.specs.assignments.Writes.{IsWriteStage}
use Rattle.gos_nodes.specs.assignments.Assignments.{IsLaid}
use Rattle.gos_nodes.specs.assignments.SmallWrites.{x_plan, OneIsAssigned, ReadStageIsNone, x_written, x_inner, x_out, number_stage, variable_stage, OneIsWritten, SevenBitsAreNone, LitIsNone, StageIsMissing, ReadIsDropped, WriteIsSession, ReadIsNoSession, ArgumentIsAsked, OutcomeIsNotAsked}
use Rattle.gos_nodes.proofs.windows.AskedLemmas.{ground_heard}
use Rattle.gos_types.proofs.ListLemmas.{none_in_empty}
use Rattle.gos_types.proofs.RoleLemmas.{serve_is_not_ask}
use Rattle.gos_plan.proofs.JointLemmas.{which_end, result_is_no_import}

-- the stage of the number
number_region : IsRegion one_out [] write_plan one_plan
number_region =
    let cut = one_is_written.cut in
    record {
      whole_right = cut.whole_right;
      right = cut.right;
      parts = cut.parts;
      numbers = cut.numbers;
      ports = cut.ports;
      inners = cut.inners;
      contacts = cut.contacts;
      joints = cut.joints;
      all = λ a b listing inside. inl (cut.all a b listing inside);
      serving = λ x has. absurd (none_in_empty x has);
      unused = λ x i j has. absurd (none_in_empty x has);
    }

end_number : (h : ℕ) → ResultEnd 0 ≡ ResultEnd h → h ≡ 0
end_number h is = cc is

number_is_stage : IsRegularAt 0 one_plan → IsWriteStage write_plan 0 8 number_stage
number_is_stage regular =
    record {
      region = number_region;
      outside = refl;
      low = omega arith;
      outcome = refl;
      only = λ h stands. end_number h (one_port (ResultEnd h) tt stands);
      regular = regular;
      loyal = λ x i has. absurd (none_in_empty x has);
      run_by = λ stands. refl;
      imports = λ i has. absurd (none_in_empty i has);
      names = tt;
      ports = λ i h stands. absurd (result_is_no_import i h (one_port (ImportEnd i h) tt stands));
      heard = ground_heard number_stage.cut write_plan one_plan tt tt;
    }

-- the stage of x
x_port : (e : End) → StandsIn x_written e → (e ≡ ResultEnd 1) ⊎ (e ≡ ImportEnd 0 1)
x_port e (j, (zero, less, is), stands) =
    elim (which_end e j stands) [
      | inl at ↦ inl (at ∙ ap (λ (x : Joint). x.asking) (sym is))
      | inr at ↦ inr (at ∙ ap (λ (x : Joint). x.serving) (sym is))
    ]
x_port e (j, (suc i, less, is), stands) = absurd (omega (arith, less))

x_inners : (b e : End) → x_inner b ≡ Some e → IsPortEnd e × StandsIn x_written e × (x_out.outer e ≡ b)
x_inners (PartEnd zero zero) e is = absurd (none-some e is)
x_inners (PartEnd zero (suc zero)) e is =
    subst (λ (x : End). IsPortEnd x × StandsIn x_written x × (x_out.outer x ≡ PartEnd 0 1)) (same_Some (ResultEnd 1) e is)
    (tt, (joint (ResultEnd 1) (ImportEnd 0 1), (0, omega arith, refl), refl), refl)
x_inners (PartEnd zero (suc (suc h))) e is = absurd (none-some e is)
x_inners (PartEnd (suc i) h) e is = absurd (none-some e is)
x_inners (ImportEnd zero zero) e is = absurd (none-some e is)
x_inners (ImportEnd zero (suc zero)) e is =
    subst (λ (x : End). IsPortEnd x × StandsIn x_written x × (x_out.outer x ≡ ImportEnd 0 1)) (same_Some (ImportEnd 0 1) e is)
    (tt, (joint (ResultEnd 1) (ImportEnd 0 1), (0, omega arith, refl), refl), refl)
x_inners (ImportEnd zero (suc (suc h))) e is = absurd (none-some e is)
x_inners (ImportEnd (suc i) h) e is = absurd (none-some e is)
x_inners (ResultEnd h) e is = absurd (none-some e is)

x_ports : (e : End) → StandsIn x_written e → IsOutside x_out (x_out.outer e) × (x_out.inner (x_out.outer e) ≡ Some e)
x_ports e stands =
    elim (x_port e stands) [
      | inl is ↦ subst (λ (x : End). IsOutside x_out (x_out.outer x) × (x_out.inner (x_out.outer x) ≡ Some x)) (sym is) (refl, refl)
      | inr is ↦ subst (λ (x : End). IsOutside x_out (x_out.outer x) × (x_out.inner (x_out.outer x) ≡ Some x)) (sym is) (tt, refl)
    ]

x_contacts : (e : End) → StandsIn x_written e → contact_at write_plan (x_out.outer e) ≡ contact_at x_written e
x_contacts e stands =
    elim (x_port e stands) [
      | inl is ↦ subst (λ (x : End). contact_at write_plan (x_out.outer x) ≡ contact_at x_written x) (sym is) refl
      | inr is ↦ subst (λ (x : End). contact_at write_plan (x_out.outer x) ≡ contact_at x_written x) (sym is) refl
    ]

x_joints : (a b : End) → Contains x_written.joints (joint a b) → Contains write_plan.joints (joint (lies_at x_out a) (lies_at x_out b))
x_joints a b (zero, less, is) = (2, omega arith, ap (λ (j : Joint). joint (lies_at x_out j.asking) (lies_at x_out j.serving)) is)
x_joints a b (suc i, less, is) = absurd (omega (arith, less))

nothing_inside : (a : End) → IsInside x_out a → ⊥
nothing_inside (PartEnd i h) (j, is) = none-some j is
nothing_inside (ImportEnd i h) inside = inside
nothing_inside (ResultEnd h) inside = inside

x_right : IsRight x_written
x_right = (((8, 0, refl, refl), refl, refl), tt)

x_region : IsRegion x_out [] write_plan x_written
x_region =
    record {
      whole_right = one_is_written.cut.whole_right;
      right = x_right;
      parts = λ i k is. absurd (none-some k is);
      numbers = λ i j is. absurd (none-some j is);
      ports = λ e port stands. x_ports e stands;
      inners = x_inners;
      contacts = λ e port stands. x_contacts e stands;
      joints = x_joints;
      all = λ a b listing inside. elim inside [ inl x ↦ absurd (nothing_inside a x) | inr x ↦ absurd (nothing_inside b x) ];
      serving = λ x has. absurd (none_in_empty x has);
      unused = λ x i j has. absurd (none_in_empty x has);
    }

x_result : (h : ℕ) → (ResultEnd h ≡ ResultEnd 1) ⊎ (ResultEnd h ≡ ImportEnd 0 1) → h ≡ 1
x_result h (inl is) = cc is
x_result h (inr is) = absurd (cc is)

x_import : (i h : ℕ) → (ImportEnd i h ≡ ResultEnd 1) ⊎ (ImportEnd i h ≡ ImportEnd 0 1) → (i ≡ 0) × (h ≡ 1)
x_import i h (inl is) = absurd (cc is)
x_import i h (inr is) = (cc is, cc is)

one_name : NamesDiffer write_plan.imports
one_name = ((λ j has. absurd (none_in_empty j has)), tt)

variable_is_stage : IsRegularAt 1 x_written → IsWriteStage write_plan 0 8 variable_stage
variable_is_stage regular =
    record {
      region = x_region;
      outside = refl;
      low = omega arith;
      outcome = refl;
      only = λ h stands. x_result h (x_port (ResultEnd h) stands);
      regular = regular;
      loyal = λ x i has. absurd (none_in_empty x has);
      run_by = λ stands. refl;
      imports = λ i has. has;
      names = one_name;
      ports = λ i h stands.
          (let at = x_import i h (x_port (ImportEnd i h) stands) in
          (0, ap (ImportEnd 0) (sym at.1), ap (λ (n : ℕ). slice_get x_written.imports n) (sym at.0)));
      heard = ground_heard variable_stage.cut write_plan x_written (tt, tt) tt;
    }

-- both
of_two : (P : Stage → Type 0) → P number_stage → P variable_stage → (g : Stage) → Contains (number_stage ∷ variable_stage ∷ []) g → P g
of_two P one two g (zero, less, is) = subst P is one
of_two P one two g (suc zero, less, is) = subst P is two
of_two P one two g (suc (suc i), less, is) = absurd (omega (arith, less))

abbrev SameAs : Stage → Stage → Type 0
SameAs g e = g.asked_at ≡ e.asked_at → g ≡ e

zero_one : ◌≡◌ {A = ℕ} 0 1 → ⊥
zero_one is = omega (arith, is)

one_each : (g e : Stage) → Contains (number_stage ∷ variable_stage ∷ []) g → Contains (number_stage ∷ variable_stage ∷ []) e → SameAs g e
one_each g e has also =
    of_two (λ (x : Stage). SameAs x e)
    (of_two (λ (x : Stage). SameAs number_stage x) (λ same. refl) (λ same. absurd (zero_one same)) e also)
    (of_two (λ (x : Stage). SameAs variable_stage x) (λ same. absurd (zero_one (sym same))) (λ same. refl) e also) g has

fit : (k : ℕ) (d : Part) → k < 2 → LiteralFits (slice_index_or (Assign 8 ∷ Lit 8 1 ∷ []) k d)
fit zero d less = tt
fit (suc zero) d less = omega arith
fit (suc (suc k)) d less = absurd (omega (arith, less))

staged : (h : ℕ) → h < 2 → (g : Stage) × Contains (number_stage ∷ variable_stage ∷ []) g × (g.asked_at ≡ h)
staged zero low = (number_stage, (0, omega arith, refl), refl)
staged (suc zero) low = (variable_stage, (1, omega arith, refl), refl)
staged (suc (suc h)) low = absurd (omega (arith, low))

abbrev OfBoth : End → End → Type 0
OfBoth a b = ((a ≡ ResultEnd 0) × (b ≡ PartEnd 0 2)) ⊎ IsOfStage (number_stage ∷ variable_stage ∷ []) a b

joints : (a b : End) → Contains write_plan.joints (joint a b) → OfBoth a b
joints a b (zero, less, is) = inl (ap (λ (j : Joint). j.asking) (sym is), ap (λ (j : Joint). j.serving) (sym is))
joints a b (suc zero, less, is) =
    inr (number_stage, ResultEnd 0, PartEnd 0 0, (0, omega arith, refl), (0, omega arith, refl), ap (λ (j : Joint). j.asking) is, ap (λ (j : Joint). j.serving) is)
joints a b (suc (suc zero), less, is) =
    inr (variable_stage, ResultEnd 1, ImportEnd 0 1, (1, omega arith, refl), (0, omega arith, refl), ap (λ (j : Joint). j.asking) is, ap (λ (j : Joint). j.serving) is)
joints a b (suc (suc (suc i)), less, is) = absurd (omega (arith, less))

pub one_is_a_write : OneIsWritten
one_is_a_write number variable =
    record {
      base =
          record {
            right = one_is_written.cut.whole_right;
            own = refl;
            literals = fit;
            names = one_name;
            stages = of_two (λ (x : Stage). IsWriteStage write_plan 0 8 x) (number_is_stage number) (variable_is_stage variable);
          };
      outcome = refl;
      one = one_each;
      staged = staged;
      result = (0, omega arith, refl);
      joints = joints;
    }

-- what is none
pub seven_bits_are_none : SevenBitsAreNone
seven_bits_are_none is = let e : Some (Assign 8) ≡ Some (Assign 7) = is.base.own in let bits : ◌≡◌ {A = ℕ} 8 7 = cc e in omega (arith, bits)

pub lit_is_none : LitIsNone
lit_is_none is = let e : Some (Lit 8 1) ≡ Some (Assign 8) = is.base.own in cc e

pub stage_is_missing : StageIsMissing
stage_is_missing is = by_member (is.staged 1 (omega arith))
  where
    by_member : (g : Stage) × Contains (number_stage ∷ []) g × (g.asked_at ≡ 1) → ⊥
    by_member (g, (zero, less, same), at) = zero_one (ap (λ (x : Stage). x.asked_at) same ∙ at)
    by_member (g, (suc i, less, same), at) = omega (arith, less)

pub read_is_dropped : ReadIsDropped
read_is_dropped = refl

x_stands : StandsIn x_written (ImportEnd 0 1)
x_stands = (joint (ResultEnd 1) (ImportEnd 0 1), (0, omega arith, refl), refl)

pub write_is_session : WriteIsSession
write_is_session = (refl, inr (Out (ImportEnd 0 1) 5 ∷ In (ImportEnd 0 1) 0 ∷ [], 0, (x_stands, (inl x_stands, tt)), refl))

pub read_is_no_session : ReadIsNoSession
read_is_no_session (is, rest) = let shake : ◌≡◌ {A = ℕ} 0 1 = cc is in omega (arith, shake)

-- as an assignment
laid_number : IsLaid write_plan 0 number_stage one_plan
laid_number =
    record {
      region = number_region;
      outside = refl;
      loyal = λ x i has. absurd (none_in_empty x has);
      run_by = λ stands. refl;
      imports = λ i has. absurd (none_in_empty i has);
      ports = λ i h stands. absurd (result_is_no_import i h (one_port (ImportEnd i h) tt stands));
    }

laid_variable : IsLaid write_plan 0 variable_stage x_plan
laid_variable =
    record {
      region = x_region;
      outside = refl;
      loyal = λ x i has. absurd (none_in_empty x has);
      run_by = λ stands. refl;
      imports = λ i has. has;
      ports = λ i h stands.
          (let at = x_import i h (x_port (ImportEnd i h) stands) in
          (0, ap (ImportEnd 0) (sym at.1), ap (λ (n : ℕ). slice_get x_written.imports n) (sym at.0)));
    }

pub one_is_assigned : OneIsAssigned
one_is_assigned =
    record {
      right = one_is_written.cut.whole_right;
      own = refl;
      outcome = refl;
      literals = fit;
      open_imports = (inl tt, tt);
      names = one_name;
      asked = refl;
      written = refl;
      plan = refl;
      own_literals = λ k d less. absurd (omega (arith, less));
      laid_number = laid_number;
      laid_variable = laid_variable;
      number_heard = ground_heard number_stage.cut write_plan one_plan tt tt;
      variable_heard = ground_heard variable_stage.cut write_plan x_written (tt, tt) tt;
      result = (0, omega arith, refl);
      joints = joints;
    }

pub read_stage_is_none : ReadStageIsNone
read_stage_is_none is = let joints_so : ◌≡◌ {A = ℕ} 2 1 = ap (λ (x : Plan). length x.joints) is.plan in omega (arith, joints_so)

-- who asks at a function's name
pub argument_is_asked : ArgumentIsAsked
argument_is_asked = (_, refl, refl)

pub outcome_is_not_asked : OutcomeIsNotAsked
outcome_is_not_asked (c, there, asks) = serve_is_not_ask (ap (λ (x : Contact). x.role) (same_Some _ c there) ∙ asks)
