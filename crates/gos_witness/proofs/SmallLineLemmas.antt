-- Small lists of lines, and a small list of nodes.
use Rattle.std.proofs.Common.{◌≡◌, ◌<◌, ℕ, zero, suc, [], ◌∷◌, length, refl, sym, ap, subst, arith, inl, inr}
use Rattle.std.proofs.lemmas.Option.{none-some}
use Rattle.std.specs.Prelude.{get_or}
use Rattle.gos_model.specs.Labels.{given}
use Rattle.gos_model.specs.Moves.{Idle, Running}
use Rattle.gos_witness.specs.declared.fault.ExplainFault.TheVariants as faults
use Rattle.gos_witness.specs.declared.moves.Line.{Line}
use Rattle.gos_witness.specs.declared.moves.Line.TheVariants.{Step, Root}
use Rattle.gos_witness.specs.declared.nodes.Leaf.TheVariants as leaves
use Rattle.gos_witness.specs.declared.nodes.TwoParts.TheVariants as two
use Rattle.gos_witness.specs.declared.nodes.Form.TheVariants as forms
use Rattle.gos_witness.specs.declared.nodes.Node.{Node}
use Rattle.gos_witness.specs.declared.nodes.TheConstants.{MOST_NODES}
use Rattle.gos_witness.specs.Lines.{Stand, EndsIdly, IsIdle, IsLeft}
use Rattle.gos_witness.specs.NodeLists.{IsCount, IsRight, IsKept}
use Rattle.gos_witness.specs.SmallLines.{skips, run_and_done, SkipIsExplained, OneIsLeft, SkipMakesNoStep, shared, SharedIsSeen, SharedCountsTwice}
use Rattle.gos_witness.proofs.KeepLemmas.{one_longer}
use Rattle.gos_witness.proofs.AnswerLemmas.{always_one_answer}

-- a list that ends with the root's line doesn't end with an unfolding
ends_once : EndsIdly (Root ∷ []) → ⊥
ends_once ([], line, e, idle) = subst (λ (l : Line). IsIdle l []) (sym (ap (λ ls. get_or ls 0 Root) e)) idle
ends_once (b ∷ before, line, e, idle) = let n = ap length e in let one = one_longer before line in absurd (omega (arith, n, one))

ends_twice : EndsIdly (Root ∷ Root ∷ []) → ⊥
ends_twice ([], line, e, idle) = let n = ap length e in absurd (omega (arith, n))
ends_twice (b ∷ [], line, e, idle) = subst (λ (l : Line). IsIdle l []) (sym (ap (λ ls. get_or ls 1 Root) e)) idle
ends_twice (b ∷ d ∷ before, line, e, idle) = let n = ap length e in let one = one_longer before line in absurd (omega (arith, n, one))

-- where the root's request leads, and its answer
abbrev running : Stand
running = record { config = Running skips.body []; left = given 1 0 ∷ [] }

abbrev idle : Stand
idle = record { config = Idle; left = [] }

pub skip_is_explained : SkipIsExplained
skip_is_explained = record {
  config = Idle;
  lead = (running, (refl, refl), omega arith, (idle, (inl (refl, refl), refl), omega arith, refl));
  whole = ends_twice;
}

left : IsLeft skips run_and_done (Root ∷ []) 1
left = record {
  stand = running;
  lead = (running, (refl, refl), omega arith, refl);
  whole = ends_once;
  some = λ e. let n = ap length e in grind (arith, n);
  used = refl;
}

pub one_is_left : OneIsLeft
one_is_left = (left, λ h. (always_one_answer skips run_and_done (Root ∷ [])).not_both h (faults.Labels 1) left)

pub skip_makes_no_step : SkipMakesNoStep
skip_makes_no_step = record {
  before = Root ∷ [];
  line = Step [];
  after = [];
  are = refl;
  place = refl;
  stand = running;
  lead = (running, (refl, refl), omega arith, refl);
  wrong = inl (λ b makes. makes.2.0);
}

pub shared_is_seen : SharedIsSeen
shared_is_seen = refl

abbrev first : Node
first = record { form = forms.Leaf leaves.Skip; size = 1; needs = 0 }

abbrev second : ℕ → Node
second k = record { form = forms.Two two.Seq 0 0; size = k; needs = 0 }

one_count : IsCount 1 1
one_count = let few : 1 < MOST_NODES = omega arith in inl (few, refl)

three_count : IsCount 3 3
three_count = let few : 3 < MOST_NODES = omega arith in inl (few, refl)

two_not_three : IsCount 2 3 → ⊥
two_not_three (inl (few, same)) = omega (arith, same)
two_not_three (inr (many, same)) = let few : 3 < MOST_NODES = omega arith in omega (arith, many, few)

kept : IsKept (shared 3)
kept zero n e = subst (λ (x : Node). IsRight (shared 3) 0 x) (let same : first ≡ n = cc e in same) (record {
  term = refl;
  fits = tt;
  size = one_count;
  needs = refl;
  few = omega arith;
})
kept (suc zero) n e = subst (λ (x : Node). IsRight (shared 3) 1 x) (let same : second 3 ≡ n = cc e in same) (record {
  term = refl;
  fits = (omega arith, omega arith);
  size = three_count;
  needs = refl;
  few = omega arith;
})
kept (suc (suc i)) n e = absurd (none-some n e)

pub shared_counts_twice : SharedCountsTwice
shared_counts_twice = (kept, λ h. two_not_three (h 1 (second 2) refl).size)
