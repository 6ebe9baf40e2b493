-- Two stages that are laid so are the stages of a write, where the one's plan is that of an expression, and the other's that of a variable.
use Rattle.std.specs.Prelude.{◌<◌, Contains}
use Rattle.std.proofs.Common.{◌≡◌, ℕ, zero, suc, List, [], ◌∷◌, refl, sym, ◌∙◌, ap, subst, arith}
use Rattle.gos_types.specs.Types.{Exp, Var, IsDone}
use Rattle.gos_plan.specs.Plans.{ResultEnd, Plan, IsRight}
use Rattle.gos_realises.specs.realises.Regular.{IsRegular}
use Rattle.gos_realises.proofs.realises.InputLemmas.{result_asks}
use Rattle.gos_joining.specs.webs.Cutting.{StandsIn}
use Rattle.gos_nodes.specs.windows.Nodes.{Stage}
use Rattle.gos_nodes.proofs.windows.PortLemmas.{stands_contact}
use Rattle.gos_nodes.specs.windows.OneSession.{IsRegularAt, IsRestfulAt, IsLoyalAt}
use Rattle.gos_nodes.specs.assignments.Writes.{asked_type, IsWriteStage, IsWrite, AreRestful}
use Rattle.gos_nodes.specs.assignments.Written.{unread}
use Rattle.gos_nodes.specs.assignments.Assignments.{IsOpenAssignment}
use Rattle.gos_nodes.proofs.assignments.JoinedLemmas.{only_written}
use Rattle.gos_nodes.proofs.assignments.UnreadLemmas.{unread_loyal}

pub zero_one : ◌≡◌ {A = ℕ} 0 1 → ⊥
zero_one is = omega (arith, is)

module _ (number variable : Stage) where
  abbrev pub sides : List Stage
  sides = number ∷ variable ∷ []

  pub of_two : (P : Stage → Type 0) → P number → P variable → (g : Stage) → Contains sides g → P g
  of_two P one two g (zero, less, is) = subst P is one
  of_two P one two g (suc zero, less, is) = subst P is two
  of_two P one two g (suc (suc i), less, is) = absurd (omega (arith, less))

module _
    (r : Plan) (d w : ℕ) (number variable : Stage) (p : Plan) (whole : IsOpenAssignment r d w number variable p) (is_number : number.plan.outcome ≡ Exp w)
    (asked : IsRegularAt 0 number.plan × IsRestfulAt 0 number.plan) (right : IsRight p) (is_variable : p.outcome ≡ Var w) (regular : IsRegular p)
    (written : IsRegularAt 1 (unread p) × IsRestfulAt 1 (unread p)) where
  -- at the handshake that it has
  number_at : (P : ℕ → Plan → Type 0) → P 0 number.plan → P number.asked_at number.plan
  number_at P here = subst (λ (h : ℕ). P h number.plan) (sym whole.asked) here

  variable_at : (P : ℕ → Plan → Type 0) → P 1 (unread p) → P variable.asked_at variable.plan
  variable_at P here = subst (λ (h : ℕ). P h variable.plan) (sym whole.written) (subst (λ (x : Plan). P 1 x) (sym whole.plan) here)

  only_zero : (h : ℕ) → StandsIn number.plan (ResultEnd h) → h ≡ 0
  only_zero h stands =
      let (c, there) = stands_contact number.plan whole.laid_number.region.right (ResultEnd h) stands in
      (result_asks number.plan.outcome (subst IsDone (sym is_number) tt) h c there).0

  number_stage : IsWriteStage r d w number
  number_stage =
      let laid = whole.laid_number in
      let low : 0 < 2 = omega arith in
      record {
        region = laid.region;
        outside = laid.outside;
        low = subst (λ (h : ℕ). h < 2) (sym whole.asked) low;
        outcome = is_number ∙ ap (λ (h : ℕ). asked_type h w) (sym whole.asked);
        only = λ h stands. only_zero h stands ∙ sym whole.asked;
        regular = number_at IsRegularAt asked.0;
        loyal = λ x i has at.
            number_at (λ h q. IsLoyalAt h i x.ty x.side q)
            (λ s v u xs slot tidy idle begun runs turns does below. laid.loyal x i has at s v u xs slot idle runs turns does below);
        run_by = laid.run_by;
        imports = laid.imports;
        names = whole.number_names;
        ports = laid.ports;
        heard = whole.number_heard;
      }

  variable_stage : IsWriteStage r d w variable
  variable_stage =
      let laid = whole.laid_variable in
      let low : 1 < 2 = omega arith in
      record {
        region = laid.region;
        outside = laid.outside;
        low = subst (λ (h : ℕ). h < 2) (sym whole.written) low;
        outcome = ap (λ (x : Plan). x.outcome) whole.plan ∙ (is_variable ∙ ap (λ (h : ℕ). asked_type h w) (sym whole.written));
        only = λ h stands. only_written w p right is_variable h (subst (λ (x : Plan). StandsIn x (ResultEnd h)) whole.plan stands) ∙ sym whole.written;
        regular = variable_at IsRegularAt written.0;
        loyal = λ x i has at.
            variable_at (λ h q. IsLoyalAt h i x.ty x.side q) (unread_loyal p w right is_variable regular i x.ty x.side (laid.loyal x i has at));
        run_by = laid.run_by;
        imports = laid.imports;
        names = whole.variable_names;
        ports = laid.ports;
        heard = whole.variable_heard;
      }

  abbrev SameAs : Stage → Stage → Type 0
  SameAs g e = g.asked_at ≡ e.asked_at → g ≡ e

  one_each : (g e : Stage) → Contains (sides number variable) g → Contains (sides number variable) e → SameAs g e
  one_each g e has also =
      of_two number variable (λ (x : Stage). SameAs x e)
      (of_two number variable (λ (x : Stage). SameAs number x) (λ same. refl) (λ same. absurd (zero_one (sym whole.asked ∙ (same ∙ whole.written)))) e also)
      (of_two number variable (λ (x : Stage). SameAs variable x) (λ same. absurd (zero_one (sym whole.asked ∙ (sym same ∙ whole.written)))) (λ same. refl) e also) g has

  staged : (h : ℕ) → h < 2 → (g : Stage) × Contains (sides number variable) g × (g.asked_at ≡ h)
  staged zero low = (number, (0, omega arith, refl), whole.asked)
  staged (suc zero) low = (variable, (1, omega arith, refl), whole.written)
  staged (suc (suc h)) low = absurd (omega (arith, low))

  pub is_write : IsWrite r d w (sides number variable)
  is_write =
      record {
        base =
            record {
              right = whole.right;
              own = whole.own;
              literals = whole.literals;
              names = whole.names;
              stages = of_two number variable (λ (x : Stage). IsWriteStage r d w x) number_stage variable_stage;
            };
        outcome = whole.outcome;
        one = one_each;
        staged = staged;
        result = whole.result;
        joints = whole.joints;
      }

  pub are_restful : AreRestful (sides number variable)
  are_restful = of_two number variable (λ (x : Stage). IsRestfulAt x.asked_at x.plan) (number_at IsRestfulAt asked.1) (variable_at IsRestfulAt written.1)
