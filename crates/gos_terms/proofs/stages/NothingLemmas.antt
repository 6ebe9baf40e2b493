-- What stands for nothing of a child: parts and nodes that are none of its, and numbers that it doesn't use.
use Rattle.std.specs.Prelude.{◌≢◌, ◌+◌, ◌-◌, ◌≤◌, ◌||◌, length, nat_lt, None}
use Rattle.std.proofs.Common.{◌≡◌, ℕ, Bool, false, Some, ◌∙◌, ap, refl, subst, arith, if◌then◌else◌}
use Rattle.std.proofs.lemmas.Bool.{eq-eqb, ne_eqb}
use Rattle.gos_check.specs.Linearity.{times, made, split_in}
use Rattle.gos_plan.specs.Plans.{PartEnd, ResultEnd}
use Rattle.gos_joining.specs.webs.Webs.{Of, Number, Node, Within}
use Rattle.gos_compile.specs.Wiring.{parts_of, nodes}
use Rattle.gos_terms.specs.stages.Lodging.{spot_if, AreTidy}
use Rattle.gos_terms.specs.stages.Folding.{Child, is_used, lodge, in_range, spot_dot, asks_child, is_number, child_back}
use Rattle.gos_terms.proofs.stages.LodgingLemmas.{numbers_are_held}
use Rattle.gos_terms.proofs.stages.HousingLemmas.{far_is_nothing}

module _ (f : Child) where
  pub part_nothing : (k h : ℕ) → f.first + length f.splits ≤ k → k ≢ f.first + f.own → in_range (f.first + f.off) (length (parts_of f.types f.term)) k ≡ false
      → child_back f (Within 0 (Of (PartEnd k h))) ≡ None
  part_nothing k h le far out =
      ap (λ (t : Bool). if t then asks_child f h
      else if in_range (f.first + f.off) (length (parts_of f.types f.term)) k then Some (Within 0 (Of (PartEnd k h)))
      else spot_dot ((lodge f).home (Within 0 (Of (PartEnd k h))))) (ne_eqb k (f.first + f.own) far)
      ∙ (ap (λ (t : Bool). if t then Some (Within 0 (Of (PartEnd k h))) else spot_dot ((lodge f).home (Within 0 (Of (PartEnd k h))))) out
      ∙ ap spot_dot nowhere)
    where
      nowhere : (lodge f).home (Within 0 (Of (PartEnd k h))) ≡ None
      nowhere =
          let same : f.first + (k - f.first) ≡ k = omega (arith, le) in
          subst (λ (n : ℕ). (lodge f).home (Within 0 (Of (PartEnd n h))) ≡ None) same
          (far_is_nothing f.types f.first (is_used f) f.splits f.env (k - f.first) h (omega (arith, le)))

  -- a handshake of the node's own part stands for what leads there
  pub own_back : (h : ℕ) → child_back f (Within 0 (Of (PartEnd (f.first + f.own) h))) ≡ asks_child f h
  own_back h =
      ap (λ (t : Bool). if t then asks_child f h
      else if in_range (f.first + f.off) (length (parts_of f.types f.term)) (f.first + f.own) then Some (Within 0 (Of (PartEnd (f.first + f.own) h)))
      else spot_dot ((lodge f).home (Within 0 (Of (PartEnd (f.first + f.own) h))))) (eq-eqb (f.first + f.own) (f.first + f.own) refl)

  pub node_nothing : (k h : ℕ) → in_range f.node (nodes f.term) k ≡ false → child_back f (Within 0 (Node k h)) ≡ None
  node_nothing k h out = ap (λ (t : Bool). if t then Some (Within 0 (Node k h)) else None) out

  pub number_nothing : (k h : ℕ) → AreTidy (is_used f) f.splits f.numbers → times k f.uses ≡ 0 → times k (made f.term) ≡ 0 → times k (split_in f.splits) ≡ 0
      → child_back f (Within 0 (Number k h)) ≡ None
  number_nothing k h tidy unused unmade unsplit =
      ap (λ (t : Bool). if t then Some (Within 0 (Number k h)) else spot_dot ((lodge f).home (Within 0 (Number k h)))) foreign
      ∙ ap spot_dot (numbers_are_held f.types f.first (is_used f) f.splits f.env f.numbers k h tidy unsplit ∙ ap (λ (t : Bool). spot_if t k (ResultEnd h)) none)
    where
      none : is_used f k ≡ false
      none = ap (nat_lt 0) unused

      foreign : is_number f k ≡ false
      foreign = ap (λ (t : Bool). t || nat_lt 0 (times k (made f.term))) none ∙ ap (nat_lt 0) unmade
